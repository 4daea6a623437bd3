-- What a turn on the fabric of a round asks of the calls that it makes, and what it leaves.
use Rattle.std.proofs.Common.{◌≡◌, ℕ, ◌+◌, ◌<◌, ◌≤◌, Bool, true, false, cond, List, [], ◌∷◌, Option, Some, None, length, map, refl, sym, ◌∙◌, ap, subst, arith}
use Rattle.std.specs.Prelude.{find, is_some, OnOk, OnErr, Result, Ok, Err}
use Rattle.std.proofs.lemmas.List.{length-map}
use Rattle.mesh_gen.specs.Partial.{◌>>=◌}
use Rattle.report_text.specs.declared.event.Event.{Event}
use Rattle.report_text.specs.Entry.{packed}
use Rattle.report_text.specs.Events.{IsWithinLimits}
use Rattle.chip_model.specs.Chip.{Chip, tile_count}
use Rattle.chip_model.specs.Units.{UnitState, Behaviour}
use Rattle.chip_model.specs.ChipState.{ChipState}
use Rattle.chip_model.specs.Events.{step}
use Rattle.chip_model.specs.Runs.{after, enabled, noted, run}
use Rattle.fabric_core.specs.Fabric.{FabricState, event_count}
use Rattle.machine_core.specs.Stations.{StationState, IsDone, IsRefused, chip_state, seen_by}
use Rattle.machine_core.specs.Meetings.{AreOfRun}
use Rattle.round_laws.specs.Turns.{has_turn, tried}
use Rattle.tile_pool.specs.Start.{RoundStart}
use Rattle.tile_pool.specs.Stands.{DidEvent, FoundNothing, MayHaveTurn, Stands}
use Rattle.tile_pool.specs.Workers.{HasRunAlone}
use Rattle.tile_pool.proofs.Words.{none_of}
use Rattle.tile_pool.proofs.Turning.{ChipIsKnown, alone_is, did_event, inside, of_run, room_for, sees}

-- what is found passes the test
found_passes : {X : Type 0} (test : X → Bool) (xs : List X) (x : X) → find test xs ≡ Some x → test x ≡ true
found_passes test [] x is = cc
found_passes {X} test (y ∷ ys) x is = by (test y) refl is (found_passes test ys x)
  where
    by : (t : Bool) → test y ≡ t → cond t (Some y) (find test ys) ≡ Some x → (find test ys ≡ Some x → test x ≡ true) → test x ≡ true
    by true passes is rest = let same : y ≡ x = cc in ap test (sym same) ∙ passes
    by false fails is rest = rest is

-- a possible event is not refused
not_refused : (b : Behaviour) (chip : Chip) (s : ChipState) (event : Event) → enabled b chip s event ≡ true → after b chip s event ≡ None → ⊥
unfolding enabled after
not_refused b chip s event possible refused = by (step b chip s event) possible refused
  where
    by : (o : Option ChipState) → is_some o ≡ true → (o >>= (λ new. Some (noted event new))) ≡ None → ⊥
    by None possible refused = cc
    by (Some new) possible refused = cc

-- the fabric stands after the event of a turn as well
pub stands_on : (b : Behaviour) (r : RoundStart) (station : StationState) (fabric : FabricState) (new : StationState) (new_fabric : FabricState) → Stands b r fabric
    → DidEvent b r station fabric new new_fabric → Stands b r new_fabric
stands_on b r station fabric new new_fabric stands did = record { start = stands.start; made = _; units = _; turns = did.is }

module _ (b : Behaviour) (r : RoundStart) (known : ChipIsKnown b r.fabric.chip) (fabric : FabricState) (station : StationState) (stands : Stands b r fabric)
    (alone : HasRunAlone b r station) (may : MayHaveTurn r station.tile fabric) where
  -- no entry is of the tile yet
  none_yet : has_turn stands.made station.tile ≡ false
  none_yet = none_of r station.tile stands.made stands.turns.valid (may (map packed stands.made) stands.turns.entries).0

  -- the tile is one of the chip's
  there : station.tile < length stands.units
  there = inside b r known stands.made fabric stands.units station stands.turns alone

  -- the station and the fabric are parts of a state that a run comes to
  pub meets : AreOfRun b station fabric
  meets = of_run b r known stands.start stands.made fabric stands.units station stands.turns none_yet alone

  -- there is room for the tile's core events and one event more
  pub has_room : event_count fabric + station.cores + 1 ≤ fabric.room
  has_room =
      room_for b r known stands.start stands.made fabric stands.units station stands.turns (omega (
        arith,
        length-map stands.made packed,
        (may (map packed stands.made) stands.turns.entries).1,
      )) alone

  -- a chip has at most 64 tiles
  few_tiles : length r.units ≤ 64
  few_tiles = omega (arith, stands.start.tiles, ap tile_count stands.start.chip, stands.start.within.tiles)

  -- so an entry can name the tile
  pub can_be_named : station.tile ≤ 63
  can_be_named = omega (arith, few_tiles, stands.turns.tiles, there)

  -- what was found for the fabric is what the turn tries
  tries : (turn : ℕ) (result : Option Event) → turn ≡ r.turn
      → ((units : List UnitState) → station.tile < length units
      → result ≡ find (enabled b fabric.chip (seen_by station fabric units)) (tried fabric.chip turn station.tile))
      → find (enabled b r.fabric.chip (seen_by station fabric stands.units)) (tried r.fabric.chip r.turn station.tile) ≡ result
  tries turn result same first =
      subst (λ (chip : Chip). find (enabled b chip (seen_by station fabric stands.units)) (tried chip r.turn station.tile) ≡ result) stands.turns.chip
      (subst (λ (n : ℕ). find (enabled b fabric.chip (seen_by station fabric stands.units)) (tried fabric.chip n station.tile) ≡ result) same
      (sym (first stands.units there)))

  -- a turn in which nothing is possible
  pub found_nothing : (turn : ℕ) → turn ≡ r.turn
      → ((units : List UnitState) → station.tile < length units
      → ◌≡◌ {A = Option Event} None (find (enabled b fabric.chip (seen_by station fabric units)) (tried fabric.chip turn station.tile)))
      → FoundNothing b r station fabric station fabric
  found_nothing turn same first = record {
    station_is = refl;
    fabric_is = refl;
    made = stands.made;
    units = stands.units;
    was = stands.turns;
    ran =
        ap (run b r.fabric.chip (chip_state fabric stands.units)) (sym (alone_is b r known station alone))
        ∙ sees b r known stands.made fabric stands.units station stands.turns none_yet alone;
    none = tries turn None same first;
  }

  -- a turn in which an event is
  pub turn_did : {X E : Type 0} (turn : ℕ) (event : Event) (answer : Result X E) (new : StationState) (new_fabric : FabricState) → turn ≡ r.turn
      → ((units : List UnitState) → station.tile < length units
      → Some event ≡ find (enabled b fabric.chip (seen_by station fabric units)) (tried fabric.chip turn station.tile))
      → IsWithinLimits event
      → OnOk answer (IsDone b event station fabric new new_fabric)
      → OnErr answer (IsRefused b fabric.chip event station fabric)
      → DidEvent b r station fabric new new_fabric
  turn_did turn event (Ok x) new new_fabric same first within done refused =
      did_event b r known stands.made fabric new_fabric stands.units station new event stands.turns none_yet alone few_tiles within
      (tries turn (Some event) same first) done
  turn_did turn event (Err e) new new_fabric same first within done refused =
      absurd (not_refused b fabric.chip (seen_by station fabric stands.units) event
      (found_passes (enabled b fabric.chip (seen_by station fabric stands.units)) (tried fabric.chip turn station.tile) event (sym (first stands.units there)))
      (refused stands.units there))
