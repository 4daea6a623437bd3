-- The end of a round: the fabric and the settled stations are the parts of a machine again.
use Rattle.std.proofs.Common.{◌≡◌, ℕ, suc, List, [], ◌∷◌, Some, length, refl, sym, ◌∙◌, ap, subst, arith}
use Rattle.std.proofs.lemmas.List.{length-map}
use Rattle.std.specs.Prelude.{slice_get, option_map}
use Rattle.std.proofs.lemmas.Option.{same_Some, slice_get-map, slice_get_within}
use Rattle.report_text.specs.declared.entry.Entry.{Entry}
use Rattle.chip_model.specs.Chip.{Chip, chip_of}
use Rattle.chip_model.specs.Units.{UnitState, Behaviour}
use Rattle.chip_model.specs.ChipState.{ChipState}
use Rattle.chip_model.specs.Runs.{IsReachable}
use Rattle.fabric_core.specs.Fabric.{FabricState}
use Rattle.machine_core.specs.Machine.{AreParts}
use Rattle.machine_core.specs.Stations.{StationState, chip_state, units_of}
use Rattle.round_laws.specs.Rounds.{IsRound}
use Rattle.round_laws.proofs.Runs.{EachIsNoted}
use Rattle.round_laws.proofs.RoundRuns.{round_reached}
use Rattle.tile_pool.specs.Start.{RoundStart, IsStart, start_state}
use Rattle.tile_pool.specs.Seating.{AreSettledTo}
use Rattle.tile_pool.proofs.Settling.{there_at}

same_lists : {X : Type 0} (xs ys : List X) → length xs ≡ length ys → ((k : ℕ) (x : X) → slice_get xs k ≡ Some x → slice_get ys k ≡ Some x) → xs ≡ ys
same_lists [] [] long each = refl
same_lists [] (y ∷ ys) long each = absurd (omega (arith, long))
same_lists (x ∷ xs) [] long each = absurd (omega (arith, long))
same_lists (x ∷ xs) (y ∷ ys) long each =
    let first : y ≡ x = same_Some y x (each 0 x refl) in
    let rest = same_lists xs ys (omega (arith, long)) (λ k. each (suc k)) in
    rw (first, rest) refl

-- once all are settled, the units are those of the stations
pub all_settled : (b : Behaviour) (r : RoundStart) (turns : List Entry) (last : ChipState) (fabric : FabricState) (stations : List StationState)
    → (to : AreSettledTo b r turns last (length r.units) fabric stations) → units_of stations ≡ to.units
all_settled b r turns last fabric stations to =
    same_lists (units_of stations) to.units (omega (arith, length-map stations (λ (s : StationState). s.unit), to.count, to.tiles)) (λ k unit at.
    let within = slice_get_within (units_of stations) k unit at in
    let there = there_at stations k (omega (arith, within, length-map stations (λ (s : StationState). s.unit))) in
    let same : there.0.unit ≡ unit = same_Some there.0.unit unit
    (sym (slice_get-map (λ (s : StationState). s.unit) stations k ∙ ap (option_map (λ (s : StationState). s.unit)) there.1) ∙ at) in
    (to.done k there.0 (omega (arith, within, length-map stations (λ (s : StationState). s.unit), to.count)) there.1).1 ∙ ap Some same)

pub round_parts : (b : Behaviour) (r : RoundStart) (turns : List Entry) (last : ChipState) (had : ℕ) (fabric : FabricState) (stations : List StationState)
    → EachIsNoted b r.fabric.chip → IsStart b r
    → (to : AreSettledTo b r turns last (length r.units) fabric stations) → IsRound b r.fabric.chip r.turn had (start_state r) (chip_state fabric to.units)
    → AreParts b r.document fabric stations
round_parts b r turns last had fabric stations noted start to is =
    let units = all_settled b r turns last fabric stations to in
    let here : IsRound b (chip_of r.document) r.turn had (start_state r) (chip_state fabric to.units) =
    subst (λ (c : Chip). IsRound b c r.turn had (start_state r) (chip_state fabric to.units)) start.chip is in
    record {
      within = start.within;
      chip = to.chip ∙ start.chip;
      few = omega (arith, to.room, start.few);
      places = λ t station at. (
        to.places t station at,
        (to.done t station (omega (arith, slice_get_within stations t station at, to.count)) at).0,
      );
      reached = subst (λ (us : List UnitState). IsReachable b r.document (chip_state fabric us)) (sym units)
          (round_reached b r.document r.turn had (start_state r) (chip_state fabric to.units) (subst (EachIsNoted b) start.chip noted) start.reached here);
    }
