-- A chip is finished exactly where the fabric has nothing left and each unit is quiet.
use Rattle.std.proofs.Common.{◌≡◌, ℕ, suc, Bool, true, false, ◌&&◌, ◌==◌, List, [], ◌∷◌, Some, length, refl, sym, ◌∙◌, ap, arith}
use Rattle.std.specs.Prelude.{slice_get}
use Rattle.std.specs.List.{list_all}
use Rattle.doc_text.specs.Doc.{Doc}
use Rattle.chip_model.specs.Replies.{is_empty}
use Rattle.chip_model.specs.Units.{UnitState}
use Rattle.chip_model.specs.ChipState.{ChipState, finished}
use Rattle.chip_model.specs.ChipInvariant.{ProtocolHolds}
use Rattle.fabric_core.specs.Fabric.{has_delivered}
use Rattle.machine_core.specs.Stations.{is_quiet}

-- two lists pass tests that agree place by place
same_tests : {X Y : Type 0} (p : X → Bool) (q : Y → Bool) (xs : List X) (ys : List Y) → length xs ≡ length ys
    → ((k : ℕ) (x : X) (y : Y) → slice_get xs k ≡ Some x → slice_get ys k ≡ Some y → p x ≡ q y) → list_all p xs ≡ list_all q ys
same_tests p q [] [] long each = refl
same_tests p q [] (y ∷ ys) long each = absurd (omega (arith, long))
same_tests p q (x ∷ xs) [] long each = absurd (omega (arith, long))
same_tests p q (x ∷ xs) (y ∷ ys) long each =
    let first : p x ≡ q y = each 0 x y refl refl in
    let rest = same_tests p q xs ys (omega (arith, long)) (λ k. each (suc k)) in
    rw (first, rest) refl

swap_tests : (a b c d : Bool) → ((a && c) && (b && d)) ≡ ((a && b) && (c && d))
swap_tests true true c d = by c where
  by : (c : Bool) → ((true && c) && (true && d)) ≡ ((true && true) && (c && d))
  by true = refl
  by false = refl
swap_tests true false c d = by c where
  by : (c : Bool) → ((true && c) && (false && d)) ≡ ((true && false) && (c && d))
  by true = refl
  by false = refl
swap_tests false b c d = refl

both_tests : {X : Type 0} (p q : X → Bool) (xs : List X) → (list_all p xs && list_all q xs) ≡ list_all (λ x. p x && q x) xs
both_tests p q [] = refl
both_tests p q (x ∷ xs) = swap_tests (p x) (q x) (list_all p xs) (list_all q xs) ∙ ap (λ rest. (p x && q x) && rest) (both_tests p q xs)

turned : (a e r : Bool) → ((a && e) && r) ≡ ((r && a) && e)
turned true true true = refl
turned true true false = refl
turned true false true = refl
turned true false false = refl
turned false e true = refl
turned false e false = refl

pub finished_is : (d : Doc) (s : ChipState) → ProtocolHolds d s
    → ((list_all (has_delivered (length s.network.ordered)) s.network.interfaces && is_empty s.replies) && list_all is_quiet s.units) ≡ finished s
unfolding finished
finished_is d s holds =
    let delivered = λ (unit : UnitState). unit.node.delivered == length s.network.ordered in
    let counts : list_all (has_delivered (length s.network.ordered)) s.network.interfaces ≡ list_all delivered s.units =
    same_tests (has_delivered (length s.network.ordered)) delivered s.network.interfaces s.units (omega (arith, holds.network.requests.interfaces, holds.units))
    (λ t interface unit here there. ap (λ n. n == length s.network.ordered) (sym (holds.tiles t interface unit here there).node.agrees.counts)) in
    ap (λ all. (all && is_empty s.replies) && list_all is_quiet s.units) counts
    ∙ turned (list_all delivered s.units) (is_empty s.replies) (list_all is_quiet s.units)
    ∙ ap (λ all. all && is_empty s.replies) (both_tests is_quiet delivered s.units)

-- where the fabric still has something to do the chip is not finished
pub not_finished : (d : Doc) (s : ChipState) → ProtocolHolds d s
    → (list_all (has_delivered (length s.network.ordered)) s.network.interfaces && is_empty s.replies) ≡ false → false ≡ finished s
not_finished d s holds none = ap (λ all. all && list_all is_quiet s.units) (sym none) ∙ finished_is d s holds
