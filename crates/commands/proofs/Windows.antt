-- The text of the order, window after window.
use Rattle.std.proofs.Common.{◌≡◌, ℕ, ◌+◌, ◌<◌, Bool, List, [], ◌∷◌, ◌++◌, length, drop, get_or, map, sym, ◌∙◌, ap, subst, arith}
use Rattle.std.specs.List.{AllByRecursion}
use Rattle.std.proofs.lemmas.List.{append-nil, drop_more}
use Rattle.std.proofs.lemmas.List.Elements.{All-from_recursion}
use Rattle.mesh_gen.specs.Limits.{AreTiles}
use Rattle.mesh_gen.specs.TileSet.{set_of}
use Rattle.order_tracker.specs.Order.{expansion, order_from}
use Rattle.order_tracker.specs.Tracker.{TrackerState, left_of}
use Rattle.commands.specs.Entries.{entries_text, has_begun, rest_text}
use Rattle.commands.proofs.Lines.{rest_text-append}

-- a tracker that was used up has the entries of the window that was pushed
pub left_is_window : (s new : TrackerState) (window : ℕ) → s.windows ≡ [] → new ≡ record s { windows = s.windows ++ window ∷ [] } → left_of new ≡ expansion s.tiles s.number window
left_is_window s new window none is =
    ap left_of is ∙ ap (λ (ws : List ℕ). order_from s.tiles s.number (ws ++ window ∷ [])) none ∙ append-nil (expansion s.tiles s.number window)

next_window : (n i : ℕ) (posts : List (List ℕ)) (window : List ℕ) → i < length posts → window ≡ get_or posts i window
    → order_from n i (map set_of (drop i posts)) ≡ expansion n i (set_of window) ++ order_from n (i + 1) (map set_of (drop (i + 1) posts))
next_window n i posts window within is =
    ap (λ (ws : List (List ℕ)). order_from n i (map set_of ws)) (drop_more posts i window within)
    ∙ ap (λ (w : List ℕ). expansion n i (set_of w) ++ order_from n (i + 1) (map set_of (drop (i + 1) posts))) (sym is)

-- what is left of the line is the entries of a window, and the rest
pub step_text : (begun : Bool) (n i : ℕ) (posts : List (List ℕ)) (window : List ℕ) (entries : List ℕ) → i < length posts → window ≡ get_or posts i window → entries ≡ expansion n i (set_of window)
    → rest_text begun (order_from n i (map set_of (drop i posts))) ≡ entries_text begun entries ++ rest_text (has_begun begun entries) (order_from n (i + 1) (map set_of (drop (i + 1) posts)))
step_text begun n i posts window entries within is entries_are =
    ap (rest_text begun) (next_window n i posts window within is)
    ∙ ap (λ (xs : List ℕ). rest_text begun (xs ++ order_from n (i + 1) (map set_of (drop (i + 1) posts)))) (sym entries_are)
    ∙ rest_text-append begun entries (order_from n (i + 1) (map set_of (drop (i + 1) posts)))

-- the tiles of a window
pub tiles_of_window : (n i : ℕ) (posts : List (List ℕ)) (window : List ℕ) → AllByRecursion (AreTiles n) posts → i < length posts → window ≡ get_or posts i window → AreTiles n window
tiles_of_window n i posts window all within is = subst (AreTiles n) (sym is) (All-from_recursion (AreTiles n) posts all i window within)

-- where some tiles post there is a tile
pub some_tile : (n : ℕ) (list : List ℕ) → AreTiles n list → 0 < n
some_tile n [] are = absurd (omega (arith, are.some))
some_tile n (t ∷ list) are = omega (arith, are.inside.0)
