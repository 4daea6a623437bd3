-- Of the tiles that wait only the last one may be to write.
use Rattle.std.proofs.Common.{◌≡◌, Bool, true, false, refl, sym, ◌∙◌, List, [], ◌∷◌, ◌++◌}
use Rattle.std.specs.Prelude.{◌||◌, IsTrue}
use Rattle.std.specs.List.{list_any}
use Rattle.chip_model.specs.declared.waiting.Waiting.{Waiting}
use Rattle.chip_model.specs.Misses.{is_getm, ends_in_getm}
use Rattle.mem_ctrl.specs.Waits.{WritesLast}

not_true : (b : Bool) → ¬ IsTrue b → b ≡ false
not_true true not = absurd (not refl)
not_true false not = refl

or_false : (b : Bool) → (b || false) ≡ b
or_false true = refl
or_false false = refl

any_step : (a b c k : Bool) → (a || b) ≡ false → (b ≡ false → c ≡ k) → (a || c) ≡ k
any_step true b c k none next = cc
any_step false b c k none next = next none

any_more : (list : List Waiting) (w : Waiting) → list_any (λ (v : Waiting). is_getm v.kind) list ≡ false
    → list_any (λ (v : Waiting). is_getm v.kind) (list ++ w ∷ []) ≡ is_getm w.kind
any_more [] w none = or_false (is_getm w.kind)
any_more (v ∷ list) w none = any_step (is_getm v.kind) _ _ (is_getm w.kind) none (any_more list w)

ends_more : (list : List Waiting) (w : Waiting) → ends_in_getm (list ++ w ∷ []) ≡ is_getm w.kind
ends_more [] w = refl
ends_more (v ∷ []) w = refl
ends_more (v ∷ u ∷ list) w = ends_more (u ∷ list) w

-- one more waits after tiles that are to read
pub WritesLast-more : (list : List Waiting) (w : Waiting) → ¬ IsTrue (ends_in_getm list) → WritesLast list → WritesLast (list ++ w ∷ [])
WritesLast-more list w readers last = any_more list w (last ∙ not_true (ends_in_getm list) readers) ∙ sym (ends_more list w)
