-- What follows from the sum: whatever a node has promised a tile, it is one answer at most.
use Rattle.std.proofs.Common.{◌≡◌, ℕ, zero, suc, ◌+◌, ◌≤◌, Bool, true, false, List, [], ◌∷◌, ap, arith, Some}
use Rattle.std.specs.Prelude.{is_some, slice_get}
use Rattle.std.specs.List.{sum_by}
use Rattle.std.proofs.lemmas.List.Sums.{sum_by-cons}
use Rattle.mesh_gen.specs.Ports.{count_if}
use Rattle.vc_bank.specs.Places.{at}
use Rattle.doc_text.specs.Doc.{Doc}
use Rattle.chip_model.specs.Chip.{chip_of}
use Rattle.chip_model.specs.Units.{UnitState}
use Rattle.chip_model.specs.ChipState.{ChipState}
use Rattle.chip_model.specs.ChipInvariant.{ProtocolHolds}
use Rattle.chip_model.specs.Suppliers.{promised_by, answers_to_come, has_early}
use Rattle.chip_laws.proofs.Options.{none_some}
use Rattle.chip_laws.proofs.SupplyBounds.{one_open}
use Rattle.chip_laws.proofs.SupplyAccounts.{promised}
use Rattle.chip_laws.proofs.SuppliedEvents.{unit_holds}

-- one of the parts of a sum
pub sum_by-part : {X : Type 0} (f : X → ℕ) (xs : List X) (k : ℕ) (x : X) → slice_get xs k ≡ Some x → f x ≤ sum_by f xs
sum_by-part f [] k x at = none_some x at
sum_by-part f (y ∷ xs) zero x at =
    let same : f y ≡ f x = ap f (cc) in
    omega (arith, same, sum_by-cons f y xs)
sum_by-part f (y ∷ xs) (suc k) x at = omega (arith, sum_by-part f xs k x at, sum_by-cons f y xs)

count_one : (b : Bool) → count_if b ≤ 1
count_one true = omega arith
count_one false = omega arith

-- with the early data, at most one answer is to come to a tile
pub one_answer : (d : Doc) (s : ChipState) (t : ℕ) (unit : UnitState) → ProtocolHolds d s → slice_get s.units t ≡ Some unit
    → count_if (has_early unit.node.side.misses.demand) + answers_to_come (chip_of d) s t ≤ 1
one_answer d s t unit holds at =
    let own = unit_holds d s t unit holds at in
    let few = one_open s.network t own.interface unit.node (holds.network.requests.agree t own.interface own.at) own.holds.node.agrees in
    omega (arith, few, own.holds.serves.supplied, count_one (is_some unit.node.side.misses.demand))

-- a node has promised a tile one answer at most: in its queue, after its demand and among the waiters of its records
pub promised_once : (d : Doc) (s : ChipState) (t u : ℕ) (own unit : UnitState) → ProtocolHolds d s → slice_get s.units t ≡ Some own → slice_get s.units u ≡ Some unit
    → promised t unit.node ≤ 1
promised_once d s t u own unit holds tile at =
    omega (arith, one_answer d s t own holds tile, sum_by-part (promised_by t) s.units u unit at)
