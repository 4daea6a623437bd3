-- An event of a machine is an event of one of its stations.
use Rattle.std.proofs.Common.{◌≡◌, ℕ, zero, suc, ◌<◌, ◌≤◌, Bool, true, false, List, [], ◌∷◌, ◌++◌, Option, Some, None, length, refl, sym, ◌∙◌, ap, subst}
use Rattle.std.proofs.Common.{arith, inl, inr, mul-pos}
use Rattle.std.specs.Prelude.{slice_get, set, replicate, is_some, get_or, Contains, Result, Ok, Err, OnOk, OnErr}
use Rattle.std.proofs.lemmas.Bool.{cases_eq}
use Rattle.std.proofs.lemmas.List.{append-nil, length-map, map-set}
use Rattle.std.proofs.lemmas.Option.{slice_get_within, slice_get-get_or, same_Some}
use Rattle.mesh_gen.specs.Grid.{Grid, tiles}
use Rattle.mesh_gen.specs.Routes.{HasTiles}
use Rattle.mesh_gen.specs.Partial.{◌>>=◌}
use Rattle.report_text.specs.declared.event.Event.{Event}
use Rattle.report_text.specs.declared.event.Event.TheVariants.{Tick, Core, Inject, Post, Take, Eject, Send, Hop, DataHop, DataEject}
use Rattle.report_text.specs.Journals.{events_of}
use Rattle.doc_text.specs.Doc.{Doc}
use Rattle.chip_model.specs.Chip.{Chip, chip_of, tile_count}
use Rattle.chip_model.specs.Units.{Behaviour}
use Rattle.chip_model.specs.ChipState.{ChipState, opening}
use Rattle.chip_model.specs.Events.{step}
use Rattle.chip_model.specs.Runs.{noted, after, enabled, run}
use Rattle.chip_model.specs.Schedules.{slots}
use Rattle.chip_model.specs.ChipInvariant.{ProtocolHolds}
use Rattle.net_iface.proofs.Places.{slice_get-set_same, slice_get-set_other}
use Rattle.fabric_core.specs.Fabric.{FabricState}
use Rattle.machine_core.specs.Stations.{StationState, IsAtStation, IsRefused, IsSettled, StaysInPlace, TakesChip, Tells, chip_state, seen_by, tile_of, units_of}
use Rattle.machine_core.specs.Meetings.{AreOfRun}
use Rattle.machine_core.specs.Machine.{AreInPlace, AreParts}
use Rattle.machine_core.proofs.SeenSteps.{set_same, same_chip}
use Rattle.machine_core.proofs.Journals.{reached_next}
use Rattle.machine_core.proofs.SlotTiles.{slot_tile}

unit_here : (stations : List StationState) (t : ℕ) (st : StationState) → slice_get stations t ≡ Some st → slice_get (units_of stations) t ≡ Some st.unit
unit_here [] t st at = cc
unit_here (x ∷ xs) zero st at = ap (λ (s : StationState). Some s.unit) (same_Some x st at)
unit_here (x ∷ xs) (suc t) st at = unit_here xs t st at

-- the chip that a settled station sees in its place is the chip
pub seen_is : (fab : FabricState) (stations : List StationState) (t : ℕ) (st : StationState) → slice_get stations t ≡ Some st → st.tile ≡ t → IsSettled st
    → seen_by st fab (units_of stations) ≡ chip_state fab (units_of stations)
seen_is fab stations t st at tile settled =
    same_chip fab.network fab.replies fab.hops (set (units_of stations) st.tile st.unit) (units_of stations) (fab.accesses ++ st.accesses) fab.accesses
    (events_of fab.entries ++ replicate st.cores (Core st.tile)) (events_of fab.entries)
    (ap (λ n. set (units_of stations) n st.unit) tile ∙ set_same (units_of stations) t st.unit (unit_here stations t st at))
    (ap (λ rest. fab.accesses ++ rest) settled.accesses ∙ append-nil fab.accesses)
    (ap (λ n. events_of fab.entries ++ replicate n (Core st.tile)) settled.cores ∙ append-nil (events_of fab.entries))

-- a station of a machine, with the fabric, is of a state that a run comes to
pub station_of_run : (b : Behaviour) (d : Doc) (fab : FabricState) (stations : List StationState) (t : ℕ) (st : StationState) → AreParts b d fab stations
    → slice_get stations t ≡ Some st → AreOfRun b st fab
station_of_run b d fab stations t st parts at =
    let place = parts.places t st at in
    record {
      document = d;
      within = parts.within;
      chip = parts.chip;
      few = parts.few;
      units = units_of stations;
      there = omega (arith, place.0, slice_get_within stations t st at, length-map stations (λ (s : StationState). s.unit));
      reached = subst (λ (s : ChipState). run b (chip_of d) (opening d) s.journal ≡ Some s) (sym (seen_is fab stations t st at place.0 place.1)) parts.reached;
    }

inside_units : (stations : List StationState) (t : ℕ) (st : StationState) → slice_get stations t ≡ Some st → st.tile ≡ t → st.tile < length (units_of stations)
inside_units stations t st at tile = omega (arith, tile, slice_get_within stations t st at, length-map stations (λ (s : StationState). s.unit))

-- ---- whether an event is possible

pub told_by : (b : Behaviour) (d : Doc) (fab : FabricState) (stations : List StationState) (t : ℕ) (st : StationState) (e : Event) (answer : Bool)
    → AreParts b d fab stations → slice_get stations t ≡ Some st
    → Tells b fab.chip e st fab answer → answer ≡ enabled b (chip_of d) (chip_state fab (units_of stations)) e
told_by b d fab stations t st e answer parts at tells =
    let place = parts.places t st at in
    tells (units_of stations) (inside_units stations t st at place.0)
    ∙ ap (λ (s : ChipState). enabled b fab.chip s e) (seen_is fab stations t st at place.0 place.1)
    ∙ ap (λ (c : Chip). enabled b c (chip_state fab (units_of stations)) e) parts.chip

by_bool : {P : Type 0} (x : Bool) → (x ≡ true → P) → (x ≡ false → P) → P
by_bool true yes_ no_ = yes_ refl
by_bool false yes_ no_ = no_ refl

-- an event of no tile is not possible, where each that is possible is one of the slots
pub no_tile : (b : Behaviour) (d : Doc) (s : ChipState) (e : Event) → ProtocolHolds d s → 0 < tile_count (chip_of d)
    → (enabled b (chip_of d) s e ≡ true → Contains (slots (chip_of d)) e) → length s.units ≤ tile_of e → false ≡ enabled b (chip_of d) s e
no_tile b d s e holds some slot out = by_bool (enabled b (chip_of d) s e)
    (λ possible. let inside = slot_tile (chip_of d) e some (slot possible) in absurd (omega (arith, inside, out, holds.units)))
    (λ not_possible. sym not_possible)

none_of : {X : Type 0} (o : Option X) → is_some o ≡ false → o ≡ None
none_of None e = refl
none_of (Some x) e = cc

pub not_after : (b : Behaviour) (chip : Chip) (s : ChipState) (e : Event) → enabled b chip s e ≡ false → after b chip s e ≡ None
unfolding enabled after
not_after b chip s e not_possible = ap (λ o. o >>= (λ new. Some (noted e new))) (none_of (step b chip s e) not_possible)

-- ---- an event is done

pub at_station : (e : Event) (t : ℕ) → t ≡ tile_of e → IsAtStation t e
at_station Tick t is = tt
at_station (Core u) t is = sym is
at_station (Inject u) t is = sym is
at_station (Post u) t is = sym is
at_station (Take u) t is = sym is
at_station (Eject u) t is = sym is
at_station (Send u) t is = sym is
at_station (Hop r port slot out) t is = sym is
at_station (DataHop r port slot) t is = sym is
at_station (DataEject r port slot) t is = sym is

places_kept : (stations : List StationState) (t : ℕ) (st new : StationState) → AreInPlace stations → slice_get stations t ≡ Some st → new.tile ≡ st.tile
    → IsSettled new → AreInPlace (set stations t new)
places_kept stations t st new places at tile settled u other here = elim (cases_eq u t) [
  | inl same ↦ (
      let is : new ≡ other = same_Some new other (sym (slice_get-set_same stations t new (slice_get_within stations t st at)) ∙ (ap (slice_get (set stations t new)) (sym same) ∙ here)) in
      subst (λ (x : StationState). (x.tile ≡ u) × IsSettled x) is (tile ∙ (places t st at).0 ∙ sym same, settled))
  | inr away ↦ places u other (sym (slice_get-set_other stations t u new away) ∙ here)
]

-- the chip after the event
after_is : (b : Behaviour) (d : Doc) (fab new_fab : FabricState) (stations : List StationState) (t : ℕ) (st new : StationState) (e : Event)
    → AreParts b d fab stations → slice_get stations t ≡ Some st
    → TakesChip b fab.chip e st fab new new_fab → new.tile ≡ st.tile → IsSettled new
    → after b (chip_of d) (chip_state fab (units_of stations)) e ≡ Some (chip_state new_fab (units_of (set stations t new)))
after_is b d fab new_fab stations t st new e parts at takes tile settled =
    let place = parts.places t st at in
    ap (λ (c : Chip). after b c (chip_state fab (units_of stations)) e) (sym parts.chip)
    ∙ ap (λ (s : ChipState). after b fab.chip s e) (sym (seen_is fab stations t st at place.0 place.1))
    ∙ takes (units_of stations) (inside_units stations t st at place.0)
    ∙ ap Some (same_chip new_fab.network new_fab.replies new_fab.hops (set (units_of stations) new.tile new.unit) (units_of (set stations t new))
    (new_fab.accesses ++ new.accesses) new_fab.accesses
    (events_of new_fab.entries ++ replicate new.cores (Core new.tile)) (events_of new_fab.entries)
    (ap (λ n. set (units_of stations) n new.unit) (tile ∙ place.0) ∙ sym (map-set (λ (s : StationState). s.unit) stations t new))
    (ap (λ rest. new_fab.accesses ++ rest) settled.accesses ∙ append-nil new_fab.accesses)
    (ap (λ n. events_of new_fab.entries ++ replicate n (Core new.tile)) settled.cores ∙ append-nil (events_of new_fab.entries)))

pub machine_after : (b : Behaviour) (d : Doc) (fab new_fab : FabricState) (stations : List StationState) (t : ℕ) (st new : StationState) (e : Event)
    → AreParts b d fab stations → slice_get stations t ≡ Some st
    → TakesChip b fab.chip e st fab new new_fab → StaysInPlace st fab new new_fab
    → after b (chip_of d) (chip_state fab (units_of stations)) e ≡ Some (chip_state new_fab (units_of (set stations t new)))
machine_after b d fab new_fab stations t st new e parts at takes stays = after_is b d fab new_fab stations t st new e parts at takes stays.tile stays.settled

pub parts_after : (b : Behaviour) (d : Doc) (fab new_fab : FabricState) (stations : List StationState) (t : ℕ) (st new : StationState) (e : Event)
    → AreParts b d fab stations → slice_get stations t ≡ Some st
    → TakesChip b fab.chip e st fab new new_fab → StaysInPlace st fab new new_fab → AreParts b d new_fab (set stations t new)
parts_after b d fab new_fab stations t st new e parts at takes stays = record {
  within = parts.within;
  chip = stays.chip ∙ parts.chip;
  few = omega (arith, stays.room, parts.few);
  places = places_kept stations t st new parts.places at stays.tile stays.settled;
  reached = reached_next b (chip_of d) (opening d) (chip_state fab (units_of stations)) (chip_state new_fab (units_of (set stations t new))) e parts.reached
      (machine_after b d fab new_fab stations t st new e parts at takes stays);
}

pub machine_refused : (b : Behaviour) (d : Doc) (fab : FabricState) (stations : List StationState) (t : ℕ) (st : StationState) (e : Event)
    → AreParts b d fab stations → slice_get stations t ≡ Some st
    → IsRefused b fab.chip e st fab → after b (chip_of d) (chip_state fab (units_of stations)) e ≡ None
machine_refused b d fab stations t st e parts at refused =
    let place = parts.places t st at in
    ap (λ (c : Chip). after b c (chip_state fab (units_of stations)) e) (sym parts.chip)
    ∙ ap (λ (s : ChipState). after b fab.chip s e) (sym (seen_is fab stations t st at place.0 place.1))
    ∙ refused (units_of stations) (inside_units stations t st at place.0)

-- ---- answers

pub ok_map : {V E A B C : Type 0} (r : Result V E) → OnOk r A → OnOk r B → (A → B → C) → OnOk r C
ok_map (Ok v) a b f = f a b
ok_map (Err e) a b f = tt

pub err_map : {V E A B : Type 0} (r : Result V E) → OnErr r A → (A → B) → OnErr r B
err_map (Ok v) a f = tt
err_map (Err e) a f = f a

pub by_result : {V E A B C D P : Type 0} (r : Result V E) → OnOk r A → OnOk r B → OnErr r C → OnErr r D → (A → B → P) → (C → D → P) → P
by_result (Ok v) a b c d on_ok on_err = on_ok a b
by_result (Err e) a b c d on_ok on_err = on_err c d

pub tiles_some : (g : Grid) → HasTiles g → 0 < tiles g
tiles_some g has = mul-pos has.some_column has.some_row

pub there_at : {X : Type 0} (xs : List X) (k : ℕ) (x d : X) → k < length xs → x ≡ get_or xs k d → slice_get xs k ≡ Some x
there_at xs k x d below is = slice_get-get_or xs k d below ∙ ap Some (sym is)

pub units_counted : (stations : List StationState) → length (units_of stations) ≡ length stations
units_counted stations = length-map stations (λ (s : StationState). s.unit)

pub set_kept : (stations : List StationState) (t : ℕ) (st new : StationState) → slice_get stations t ≡ Some st → new ≡ st → set stations t new ≡ stations
set_kept stations t st new at same = ap (λ (x : StationState). set stations t x) same ∙ set_same stations t st at
