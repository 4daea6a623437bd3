-- No more requests are ordered than the tiles made: of each tile no more are ordered than it made.
use Rattle.std.proofs.Common.{◌≡◌, ℕ, suc, ◌+◌, ◌<◌, ◌≤◌, cond, List, [], ◌∷◌, length, refl, ◌∙◌, ap, arith, Some, set, get_or}
use Rattle.std.specs.Prelude.{slice_get, nat_le, ◌==◌}
use Rattle.std.specs.List.{sum_by, AllByRecursion}
use Rattle.std.proofs.lemmas.Bool.Decides.{nat_tests}
use Rattle.std.proofs.lemmas.List.{length-map}
use Rattle.std.proofs.lemmas.List.Sums.{sum_by-cons, sum_by-set}
use Rattle.std.proofs.lemmas.Option.{slice_get_within, get_or_from_slice_get}
use Rattle.mesh_gen.specs.declared.request.Request.{Request}
use Rattle.order_tracker.specs.Order.{times, order}
use Rattle.order_tracker.proofs.Sequence.{order_from-below}
use Rattle.chip_model.specs.Chip.{Chip, tile_count}
use Rattle.chip_model.specs.OrderedNetwork.{OrderedNetwork, Interface, sources}
use Rattle.chip_model.specs.NetworkFits.{NetworkFits}
use Rattle.fabric_core.specs.Parts.{made_count}

abbrev pub made_by : Interface → ℕ
made_by interface = length interface.made

-- ---- how many of some sources are a tile or one above it

abbrev above : ℕ → List ℕ → ℕ
above a xs = sum_by (λ s. cond (nat_le a s) 1 0) xs

one_apart : (a s : ℕ) → cond (nat_le a s) 1 0 ≡ cond (s == a) 1 0 + cond (nat_le (suc a) s) 1 0
one_apart a s = grind (arith, nat_tests)

above-split : (a : ℕ) (xs : List ℕ) → above a xs ≡ times a xs + above (suc a) xs
above-split a [] = refl
above-split a (s ∷ xs) =
    omega (
      arith,
      sum_by-cons (λ s. cond (nat_le a s) 1 0) s xs,
      sum_by-cons (λ s. cond (s == a) 1 0) s xs,
      sum_by-cons (λ s. cond (nat_le (suc a) s) 1 0) s xs,
      one_apart a s,
      above-split a xs,
    )

none_above : (n : ℕ) (xs : List ℕ) → AllByRecursion (λ t. t < n) xs → above n xs ≡ 0
none_above n [] all = refl
none_above n (s ∷ xs) all =
    omega (arith, sum_by-cons (λ s. cond (nat_le n s) 1 0) s xs, below n s all.0, none_above n xs all.1)
  where
    below : (n s : ℕ) → s < n → ◌≡◌ {A = ℕ} (cond (nat_le n s) 1 0) 0
    below n s inside = grind (arith, nat_tests)

all_above : (xs : List ℕ) → above 0 xs ≡ length xs
all_above [] = refl
all_above (s ∷ xs) = omega (arith, sum_by-cons (λ s. cond (nat_le 0 s) 1 0) s xs, first s, all_above xs) where
  first : (s : ℕ) → ◌≡◌ {A = ℕ} (cond (nat_le 0 s) 1 0) 1
  first s = grind (arith, nat_tests)

above_few : (xs : List ℕ) (interfaces : List Interface) (a : ℕ) → ((k : ℕ) (interface : Interface) → slice_get interfaces k ≡ Some interface → times (a + k) xs ≤ made_by interface)
    → above (a + length interfaces) xs ≡ 0 → above a xs ≤ sum_by made_by interfaces
above_few xs [] a each none = let here : above (a + 0) xs ≡ above a xs = ap (λ n. above n xs) (omega arith) in omega (arith, none, here)
above_few xs (interface ∷ rest) a each none =
    let shift : suc a + length rest ≡ a + suc (length rest) = omega arith in
    let behind = above_few xs rest (suc a) (λ k other there. later k other (each (suc k) other there)) (ap (λ n. above n xs) shift ∙ none) in
    let here : times (a + 0) xs ≡ times a xs = ap (λ n. times n xs) (omega arith) in
    omega (arith, above-split a xs, each 0 interface refl, here, sum_by-cons made_by interface rest, behind)
  where
    later : (k : ℕ) (other : Interface) → times (a + suc k) xs ≤ made_by other → times (suc a + k) xs ≤ made_by other
    later k other few = let same : times (a + suc k) xs ≡ times (suc a + k) xs = ap (λ n. times n xs) (omega arith) in omega (arith, few, same)

-- no more requests are ordered than were made
pub ordered_few : (chip : Chip) (net : OrderedNetwork) → 0 < tile_count chip → NetworkFits chip net → length net.ordered ≤ made_count net
ordered_few chip net some fits =
    let below = order_from-below (tile_count chip) 0 net.windows.closed some in
    let none : above (0 + length net.interfaces) (sources net.ordered) ≡ 0 =
    ap (λ n. above n (sources net.ordered)) (omega (arith, fits.interfaces)) ∙ ap (above (tile_count chip)) fits.ordered ∙ none_above (tile_count chip) (order (tile_count chip) net.windows.closed) below in
    let few = above_few (sources net.ordered) net.interfaces 0 each none in
    omega (arith, few, all_above (sources net.ordered), length-map net.ordered (λ (q : Request). q.source))
  where
    each : (k : ℕ) (interface : Interface) → slice_get net.interfaces k ≡ Some interface → times (0 + k) (sources net.ordered) ≤ made_by interface
    each k interface there =
        let agrees = fits.agree k interface there in
        let same : times (0 + k) (sources net.ordered) ≡ times k (sources net.ordered) = ap (λ n. times n (sources net.ordered)) (omega arith) in
        omega (arith, agrees.posted, agrees.posted_made, same)

-- ---- one interface becomes another

pub made_count-set : (interfaces : List Interface) (t : ℕ) (was now : Interface) → slice_get interfaces t ≡ Some was → sum_by made_by (set interfaces t now) + made_by was ≡ sum_by made_by interfaces + made_by now
made_count-set interfaces t was now there =
    let within = slice_get_within interfaces t was there in
    let before : get_or interfaces t was ≡ was = get_or_from_slice_get interfaces t was was there in
    omega (arith, sum_by-set made_by interfaces t now was within, ap made_by before)
