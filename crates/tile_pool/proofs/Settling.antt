-- Station after station, the core events that are left over go into the journal.
use Rattle.std.proofs.Common.{◌≡◌, ◌≢◌, ◌⊎◌, ℕ, zero, suc, ◌+◌, ◌<◌, true, false, List, [], ◌∷◌, ◌++◌, Some, length, refl, sym, ◌∙◌, ap, subst, arith, inl, inr}
use Rattle.std.specs.Prelude.{slice_get, set, replicate}
use Rattle.std.proofs.lemmas.Bool.{cases_eq}
use Rattle.std.proofs.lemmas.List.{append-nil, length-set}
use Rattle.std.proofs.lemmas.Option.{same_Some}
use Rattle.order_tracker.specs.Order.{upwards}
use Rattle.report_text.specs.declared.entry.Entry.{Entry}
use Rattle.report_text.specs.declared.event.Event.{Event}
use Rattle.report_text.specs.declared.event.Event.TheVariants.{Core}
use Rattle.chip_model.specs.Units.{UnitState, Behaviour}
use Rattle.chip_model.specs.ChipState.{ChipState}
use Rattle.chip_model.specs.Runs.{run}
use Rattle.fabric_core.specs.Fabric.{FabricState}
use Rattle.machine_core.specs.Stations.{StationState, IsSettled, chip_state, seen_by, settled}
use Rattle.round_laws.specs.Turns.{alone_events, cores_of, has_turn, left_over}
use Rattle.round_laws.proofs.Runs.{run_then}
use Rattle.round_laws.proofs.RoundCounts.{left_over_next}
use Rattle.tile_pool.specs.Start.{RoundStart, start_state}
use Rattle.tile_pool.specs.Seating.{AreSettledTo, IsAfterTurn, IsLeftOver}
use Rattle.tile_pool.proofs.CoreRuns.{settled_is, settled_sees}

pub set_here : {X : Type 0} (xs : List X) (k : ℕ) (x y : X) → slice_get xs k ≡ Some x → slice_get (set xs k y) k ≡ Some y
set_here [] k x y at = cc
set_here (z ∷ xs) zero x y at = refl
set_here (z ∷ xs) (suc k) x y at = set_here xs k x y at

pub set_away : {X : Type 0} (xs : List X) (j k : ℕ) (y : X) → j ≢ k → slice_get (set xs k y) j ≡ slice_get xs j
set_away [] j k y away = refl
set_away (z ∷ xs) zero zero y away = absurd (away refl)
set_away (z ∷ xs) zero (suc k) y away = refl
set_away (z ∷ xs) (suc j) zero y away = refl
set_away (z ∷ xs) (suc j) (suc k) y away = set_away xs j k y (λ e. away (ap (λ (n : ℕ). suc n) e))

pub there_at : {X : Type 0} (xs : List X) (k : ℕ) → k < length xs → (x : X) × (slice_get xs k ≡ Some x)
there_at [] k below = absurd (omega (arith, below))
there_at (x ∷ xs) zero below = (x, refl)
there_at (x ∷ xs) (suc k) below = there_at xs k (omega (arith, below))

module _ (b : Behaviour) (r : RoundStart) (turns : List Entry) (last : ChipState) where
  -- what is left over of one tile
  left_one : (t : ℕ) → left_over b (start_state r) turns (upwards 0 (t + 1))
      ≡ left_over b (start_state r) turns (upwards 0 t) ++ left_over b (start_state r) turns (t ∷ [])
  left_one t =
      let more : t + 1 ≡ suc t = omega arith in
      let here : 0 + t ≡ t = omega arith in
      ap (λ (n : ℕ). left_over b (start_state r) turns (upwards 0 n)) more
      ∙ left_over_next b (start_state r) turns t
      ∙ ap (λ (n : ℕ). left_over b (start_state r) turns (upwards 0 t) ++ left_over b (start_state r) turns (n ∷ [])) here

  left_none : (t : ℕ) → has_turn turns t ≡ true → left_over b (start_state r) turns (t ∷ []) ≡ []
  left_none t has = rw has refl

  left_own : (t : ℕ) → has_turn turns t ≡ false → left_over b (start_state r) turns (t ∷ []) ≡ alone_events b (start_state r) t
  left_own t none = rw none (append-nil (alone_events b (start_state r) t))

  -- the chip after one station more, and its units
  record IsNext (tile : ℕ) (fabric new_fabric : FabricState) (units : List UnitState) (station : StationState) : Type 0 where
    now : List UnitState
    tiles : length now ≡ length units
    here : slice_get now tile ≡ Some station.unit
    others : (t : ℕ) → t ≢ tile → slice_get now t ≡ slice_get units t
    lead : run b r.fabric.chip last (left_over b (start_state r) turns (upwards 0 (tile + 1))) ≡ Some (chip_state new_fabric now)

  next : (tile : ℕ) (fabric new_fabric : FabricState) (stations : List StationState) (station new : StationState)
      → (to : AreSettledTo b r turns last tile fabric stations) → station.tile ≡ tile → new ≡ settled station
      → ((units : List UnitState) → seen_by new new_fabric units ≡ seen_by station fabric units)
      → IsAfterTurn turns to.units station ⊎ IsLeftOver b r turns to.units station
      → IsNext tile fabric new_fabric to.units station
  next tile fabric new_fabric stations station new to at is seen (inl after) =
      let has : has_turn turns tile ≡ true = ap (has_turn turns) (sym at) ∙ after.has in
      let new_settled : IsSettled new = subst IsSettled (sym is) (record { cores = refl; accesses = refl }) in
      let unit : slice_get to.units new.tile ≡ Some new.unit =
      subst (λ (s : StationState). slice_get to.units s.tile ≡ Some s.unit) (sym is) after.unit in
      let same : chip_state new_fabric to.units ≡ chip_state fabric to.units =
      sym (settled_is new new_fabric to.units new_settled unit) ∙ seen to.units ∙ settled_is station fabric to.units after.settled after.unit in
      record {
        now = to.units;
        tiles = refl;
        here = ap (slice_get to.units) (sym at) ∙ after.unit;
        others = λ t away. refl;
        lead =
            ap (run b r.fabric.chip last) (left_one tile
            ∙ ap (λ (events : List Event). left_over b (start_state r) turns (upwards 0 tile) ++ events) (left_none tile has)
            ∙ append-nil (left_over b (start_state r) turns (upwards 0 tile)))
            ∙ to.lead ∙ ap Some (sym same);
      }
  next tile fabric new_fabric stations station new to at is seen (inr left) =
      let none : has_turn turns tile ≡ false = ap (has_turn turns) (sym at) ∙ left.has in
      let unit : slice_get to.units station.tile ≡ Some left.alone.unit = left.unit ∙ left.alone.there in
      let new_settled : IsSettled new = subst IsSettled (sym is) (record { cores = refl; accesses = refl }) in
      let becomes : seen_by station fabric to.units ≡ chip_state new_fabric (set to.units station.tile station.unit) =
      sym (seen to.units) ∙ settled_sees new new_fabric to.units new_settled
      ∙ ap (λ (s : StationState). chip_state new_fabric (set to.units s.tile s.unit)) is in
      let ran = left.alone.lead r.fabric.chip fabric to.units unit in
      let own : run b r.fabric.chip (chip_state fabric to.units) (left_over b (start_state r) turns (tile ∷ [])) ≡ Some (chip_state new_fabric (set to.units tile station.unit)) =
      ap (run b r.fabric.chip (chip_state fabric to.units)) (left_own tile none
      ∙ ap (λ (t : ℕ). replicate (cores_of b (start_state r) t) (Core t)) (sym at)
      ∙ ap (λ (n : ℕ). replicate n (Core station.tile)) (sym left.alone.cores))
      ∙ ran ∙ ap Some (becomes ∙ ap (λ (t : ℕ). chip_state new_fabric (set to.units t station.unit)) at) in
      record {
        now = set to.units tile station.unit;
        tiles = length-set to.units tile station.unit;
        here = set_here to.units tile left.alone.unit station.unit (ap (slice_get to.units) (sym at) ∙ unit);
        others = λ t away. set_away to.units t tile station.unit away;
        lead =
            ap (run b r.fabric.chip last) (left_one tile)
            ∙ run_then b r.fabric.chip (left_over b (start_state r) turns (upwards 0 tile)) (left_over b (start_state r) turns (tile ∷ [])) last
            (chip_state fabric to.units) (chip_state new_fabric (set to.units tile station.unit)) to.lead own;
      }

  -- one station more
  pub settled_one : (tile : ℕ) (fabric new_fabric : FabricState) (stations : List StationState) (station new : StationState)
      → AreSettledTo b r turns last tile fabric stations → slice_get stations tile ≡ Some station → new ≡ settled station
      → ((units : List UnitState) → seen_by new new_fabric units ≡ seen_by station fabric units)
      → new_fabric.chip ≡ fabric.chip → new_fabric.room ≡ fabric.room
      → AreSettledTo b r turns last (tile + 1) new_fabric (set stations tile new)
  settled_one tile fabric new_fabric stations station new to there is seen chip room =
      let at = to.places tile station there in
      let step = next tile fabric new_fabric stations station new to at is seen (to.to_do tile station (omega arith) there) in
      let new_tile : new.tile ≡ tile = ap (λ (s : StationState). s.tile) is ∙ at in
      record {
        units = step.now;
        tiles = step.tiles ∙ to.tiles;
        count = length-set stations tile new ∙ to.count;
        chip = chip ∙ to.chip;
        room = room ∙ to.room;
        lead = step.lead;
        places = λ t other here. elim (cases_eq t tile) [
          | inl same ↦ ap (λ (s : StationState). s.tile) (sym (now_there t other same there here)) ∙ new_tile ∙ sym same
          | inr away ↦ to.places t other (sym (set_away stations t tile new away) ∙ here)
        ];
        done = λ t other before here. elim (cases_eq t tile) [
          | inl same ↦ subst (λ (s : StationState). IsSettled s × (slice_get step.now t ≡ Some s.unit)) (now_there t other same there here)
              (subst IsSettled (sym is) (record { cores = refl; accesses = refl }), ap (slice_get step.now) same ∙ step.here ∙ ap (λ (s : StationState). Some s.unit) (sym is))
          | inr away ↦ (
              let was = to.done t other (omega (arith, before, away)) (sym (set_away stations t tile new away) ∙ here) in
              (was.0, step.others t away ∙ was.1))
        ];
        to_do = λ t other from here.
            let away : t ≢ tile = λ same. absurd (omega (arith, same, from)) in
            let before = sym (set_away stations t tile new away) ∙ here in
            still t other step.now to.units (to.places t other before) (step.others t away) (to.to_do t other (omega (arith, from)) before);
      }
    where
      now_there : (t : ℕ) (other : StationState) → t ≡ tile → slice_get stations tile ≡ Some station → slice_get (set stations tile new) t ≡ Some other → new ≡ other
      now_there t other same there here =
          same_Some new other (sym (set_here stations tile station new there) ∙ (ap (slice_get (set stations tile new)) (sym same) ∙ here))

      still : (t : ℕ) (other : StationState) (now units : List UnitState) → other.tile ≡ t → slice_get now t ≡ slice_get units t
          → IsAfterTurn turns units other ⊎ IsLeftOver b r turns units other
          → IsAfterTurn turns now other ⊎ IsLeftOver b r turns now other
      still t other now units at same (inl after) =
          inl (record {
            has = after.has;
            settled = after.settled;
            unit = ap (slice_get now) at ∙ same ∙ ap (slice_get units) (sym at) ∙ after.unit;
          })
      still t other now units at same (inr left) =
          inr (record {
            has = left.has;
            alone = left.alone;
            unit = ap (slice_get now) at ∙ same ∙ ap (slice_get units) (sym at) ∙ left.unit;
          })
