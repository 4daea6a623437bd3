-- The last of four tiles as the only one with a controller.
use Rattle.std.proofs.Common.{◌≡◌, ℕ, ◌*◌, [], ◌∷◌, List, sym, ◌∙◌, ap, subst, lit<}
use Rattle.std.specs.List.{IsDistinct}
use Rattle.mesh_gen.specs.Limits.{AreTiles}

last_tile : AreTiles 4 (3 ∷ [])
unfolding IsDistinct
last_tile = record { some = lit< tt; distinct = (tt, tt); inside = (lit< tt, tt) }

pub are_tiles : (cols rows : ℕ) (list : List ℕ) → cols ≡ 2 → rows ≡ 2 → list ≡ 3 ∷ [] → AreTiles (cols * rows) list
are_tiles cols rows list two_cols two_rows is =
    let four : cols * rows ≡ 4 = ap (λ (n : ℕ). n * rows) two_cols ∙ ap (λ (n : ℕ). 2 * n) two_rows in
    subst (λ (l : List ℕ). AreTiles (cols * rows) l) (sym is) (subst (λ (n : ℕ). AreTiles n (3 ∷ [])) (sym four) last_tile)
