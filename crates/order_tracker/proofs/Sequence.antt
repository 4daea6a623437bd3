-- The order as a sequence of entries that grows and is used up.
use Rattle.std.proofs.Common.{◌≡◌, ℕ, zero, suc, ◌+◌, ◌-◌, ◌%◌, ◌<◌, cond, ◌==◌, List, [], ◌∷◌, ◌++◌, length, take, drop, get_or, option_map, refl, sym, ◌∙◌, ap, inl, inr, append_assoc, arith, length-append, length-drop}
use Rattle.std.specs.Prelude.{slice_get, slice_index, slice_set, filter}
use Rattle.std.specs.List.{AllByRecursion}
use Rattle.std.proofs.lemmas.Bool.{cases_eq, ne_eqb, eq-eqb}
use Rattle.std.proofs.lemmas.List.{append-nil, take_more, drop_more, drop-append-le, take-append-le, get_or-set_same, get_or-set_other, drop-drop}
use Rattle.std.proofs.lemmas.List.Elements.{filter-append}
use Rattle.std.proofs.lemmas.List.Sums.{sum_by-append}
use Rattle.mesh_gen.specs.TileSet.{has_tile}
use Rattle.order_tracker.specs.Order.{upwards, expansion, order_from, order, times, entry_at}
use Rattle.order_tracker.specs.Tracker.{TrackerState, left_of, next_request_of, Follows}
use Rattle.order_tracker.proofs.Rounds.{filter-below}

-- ---- the order

-- one more window
order_from-push : (n k : ℕ) (windows : List ℕ) (window : ℕ) → order_from n k (windows ++ window ∷ []) ≡ order_from n k windows ++ expansion n (k + length windows) window
order_from-push n k [] window = append-nil (expansion n k window) ∙ ap (λ (j : ℕ). expansion n j window) (omega arith)
order_from-push n k (w ∷ windows) window =
    let later : k + 1 + length windows ≡ k + length (w ∷ windows) = omega arith in
    ap (λ (rest : List ℕ). expansion n k w ++ rest) (order_from-push n (k + 1) windows window)
    ∙ sym (append_assoc (expansion n k w) (order_from n (k + 1) windows) (expansion n (k + 1 + length windows) window))
    ∙ ap (λ (j : ℕ). (expansion n k w ++ order_from n (k + 1) windows) ++ expansion n j window) later

all_append : (n : ℕ) (xs ys : List ℕ) → AllByRecursion (λ t. t < n) xs → AllByRecursion (λ t. t < n) ys → AllByRecursion (λ t. t < n) (xs ++ ys)
all_append n [] ys all_xs all_ys = all_ys
all_append n (x ∷ xs) ys all_xs all_ys = (all_xs.0, all_append n xs ys all_xs.1 all_ys)

-- the sources are tiles
pub order_from-below : (n k : ℕ) (windows : List ℕ) → 0 < n → AllByRecursion (λ t. t < n) (order_from n k windows)
order_from-below n k [] some = tt
order_from-below n k (window ∷ windows) some =
    let first : k % n < n = omega arith in
    all_append n (expansion n k window) (order_from n (k + 1) windows)
    (rw (filter-append (has_tile window) (upwards (k % n) (n - k % n)) (upwards 0 (k % n)))
    (all_append n (filter (has_tile window) (upwards (k % n) (n - k % n))) (filter (has_tile window) (upwards 0 (k % n)))
    (filter-below (has_tile window) n (k % n) (n - k % n) (omega arith)) (filter-below (has_tile window) n 0 (k % n) (omega arith))))
    (order_from-below n (k + 1) windows some)

-- ---- what follows the used entries

-- a window more
pub Follows-push : (windows : List ℕ) (used : ℕ) (s : TrackerState) (window : ℕ) → Follows windows used s → Follows (windows ++ window ∷ []) used (record s { windows = s.windows ++ window ∷ [] })
Follows-push windows used s window follows =
    let grows : order s.tiles (windows ++ window ∷ []) ≡ order s.tiles windows ++ expansion s.tiles (length windows) window = order_from-push s.tiles 0 windows window ∙ ap (λ (j : ℕ). order s.tiles windows ++ expansion s.tiles j window) (omega arith) in
    record {
      pushed = omega (arith, follows.pushed, length-append s.windows (window ∷ []), length-append windows (window ∷ []));
      left =
          order_from-push s.tiles s.number s.windows window
          ∙ rw (follows.left, follows.pushed, grows) (sym (drop-append-le used (order s.tiles windows) (expansion s.tiles (length windows) window) follows.within));
      within = rw grows (omega (arith, follows.within, length-append (order s.tiles windows) (expansion s.tiles (length windows) window)));
      counted = λ t inside. rw (grows, take-append-le used (order s.tiles windows) (expansion s.tiles (length windows) window) follows.within) (follows.counted t inside);
    }

slice_get-drop : (xs : List ℕ) (i : ℕ) → slice_get (drop i xs) 0 ≡ slice_get xs i
slice_get-drop [] zero = refl
slice_get-drop [] (suc i) = refl
slice_get-drop (x ∷ xs) zero = refl
slice_get-drop (x ∷ xs) (suc i) = slice_get-drop xs i

named : (n : ℕ) (sources : List ℕ) (count : ℕ → ℕ) (others : ℕ → ℕ) → AllByRecursion (λ t. t < n) sources → ((t : ℕ) → t < n → count t ≡ others t)
    → option_map {U = ℕ × ℕ} (λ source. (source, count source)) (slice_get sources 0) ≡ option_map {U = ℕ × ℕ} (λ source. (source, others source)) (slice_get sources 0)
named n [] count others all same = refl
named n (x ∷ sources) count others all same = rw (same x all.0) refl

-- the next request is the entry after the used ones
pub entry_follows : (windows : List ℕ) (used : ℕ) (s : TrackerState) → 0 < s.tiles → Follows windows used s → next_request_of s ≡ entry_at (order s.tiles windows) used
entry_follows windows used s some follows =
    named s.tiles (left_of s) (slice_index s.used) (λ t. times t (take used (order s.tiles windows))) (order_from-below s.tiles s.number s.windows some) follows.counted
    ∙ rw (follows.left, slice_get-drop (order s.tiles windows) used) refl

count_push : (source : ℕ) (sources : List ℕ) (t : ℕ) → times t (sources ++ source ∷ []) ≡ times t sources + cond (source == t) 1 0
count_push source sources t = sum_by-append (λ s. cond (s == t) 1 0) sources (source ∷ []) ∙ ap (λ (n : ℕ). times t sources + n) (omega arith)

-- an entry more is used
pub Follows-advance : (windows : List ℕ) (used : ℕ) (old new : TrackerState) (source : ℕ) → source < old.tiles → length old.used ≡ old.tiles
    → new.tiles ≡ old.tiles → new.number + length new.windows ≡ old.number + length old.windows → left_of old ≡ source ∷ left_of new
    → new.used ≡ slice_set old.used source (slice_index old.used source + 1) → Follows windows used old → Follows windows (used + 1) new
Follows-advance windows used old new source inside count tiles pushed left counts follows =
    let entries = order old.tiles windows in
    let rest_is : drop used entries ≡ source ∷ left_of new = sym follows.left ∙ left in
    let within : used < length entries = omega (arith, ap length rest_is, length-drop used entries) in
    let source_is : get_or entries used source ≡ source = cc (drop_more entries used source within, rest_is) in
    let more : take (used + 1) entries ≡ take used entries ++ source ∷ [] = take_more entries used source within ∙ ap (λ (x : ℕ). take used entries ++ x ∷ []) source_is in
    record {
      pushed = pushed ∙ follows.pushed;
      left = ap (λ (xs : List ℕ). drop 1 xs) (sym rest_is) ∙ drop-drop 1 used entries ∙ rw tiles refl;
      within = rw tiles (omega (arith, within));
      counted = λ t inside_t.
          let old_count = follows.counted t (omega arith) in
          rw (tiles, counts, more, count_push source (take used entries) t) (elim (cases_eq t source) [
            | inl same ↦ rw (same, get_or-set_same old.used source (slice_index old.used source + 1) 0 (omega arith), eq-eqb source source refl) (ap (λ (n : ℕ). n + 1) (rw same at old_count))
            | inr other ↦ rw (get_or-set_other old.used source t (slice_index old.used source + 1) 0 other, ne_eqb source t (λ e. other (sym e))) (old_count ∙ omega arith)
          ]);
    }
