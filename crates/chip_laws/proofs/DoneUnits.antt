-- What a unit is that is done: to it all requests were delivered, and it owns lines by its copies alone.
use Rattle.std.proofs.Common.{◌≡◌, ℕ, Bool, true, false, not, ◌==◌, ◌&&◌, ◌||◌, List, [], ◌∷◌, Option, Some, None, is_some, length, ap, ◌∙◌, refl, arith}
use Rattle.std.proofs.lemmas.Bool.{and_parts, eqb-true, not-true, or_parts}
use Rattle.std.proofs.lemmas.List.{take_all}
use Rattle.mesh_gen.specs.declared.request.Request.{Request}
use Rattle.chip_model.specs.Cache.{lookup}
use Rattle.chip_model.specs.Misses.{Demand, WriteBack}
use Rattle.chip_model.specs.Units.{UnitState}
use Rattle.chip_model.specs.ChipState.{is_done}
use Rattle.chip_model.specs.Ownership.{owns, is_owned_copy, is_live_back, is_open_write, delivered_to}
use Rattle.chip_laws.specs.DoneUnits.{IsDone}

none_of : {X : Type 0} (o : Option X) → is_some o ≡ false → o ≡ None
none_of None e = refl
none_of (Some x) e = cc

nil_of : {X : Type 0} (xs : List X) → (length xs == 0) ≡ true → xs ≡ []
nil_of [] e = refl
nil_of (x ∷ xs) e = let some : length (x ∷ xs) ≡ 0 = eqb-true (length (x ∷ xs)) 0 e in absurd (omega arith)

pub done_of : (ordered : List Request) (unit : UnitState) → is_done ordered unit ≡ true → IsDone ordered unit
done_of ordered unit e =
    let demand = is_some unit.node.side.misses.demand in
    let back = is_some unit.node.side.misses.back in
    let quiet = unit.halted && not (demand || back) in
    let sent = length unit.node.out == 0 in
    let all = and_parts (quiet && sent) (unit.node.delivered == length ordered) e in
    let some = and_parts quiet sent all.0 in
    let first = and_parts unit.halted (not (demand || back)) some.0 in
    let neither = or_parts demand back (not-true (demand || back) first.1) in
    record {
      halted = first.0;
      demand = none_of unit.node.side.misses.demand neither.0;
      back = none_of unit.node.side.misses.back neither.1;
      out = nil_of unit.node.out some.1;
      delivered = eqb-true unit.node.delivered (length ordered) all.1;
    }

pub all_delivered : (ordered : List Request) (unit : UnitState) → IsDone ordered unit → delivered_to ordered unit.node ≡ ordered
all_delivered ordered unit done = take_all unit.node.delivered ordered (omega (arith, done.delivered))

-- without a demand and a write-back
pub only_copies : (ordered : List Request) (unit : UnitState) (line : ℕ) → IsDone ordered unit
    → owns unit.node.chip unit.node.side line ≡ is_owned_copy (lookup unit.node.chip unit.node.side.cache line)
unfolding owns
only_copies ordered unit line done =
    let copy = is_owned_copy (lookup unit.node.chip unit.node.side.cache line) in
    ap (λ (o : Option WriteBack). copy || is_live_back line o || is_open_write line unit.node.side.misses.demand) done.back
    ∙ ap (λ (o : Option Demand). copy || false || is_open_write line o) done.demand
    ∙ neither copy
  where
    neither : (b : Bool) → (b || false || false) ≡ b
    neither true = refl
    neither false = refl
