-- Which tiles are owed an ordered request, and which tile expects it.
use Rattle.std.proofs.Common.{◌≡◌, ℕ, zero, suc, ◌+◌, ◌<◌, ◌≤◌, Bool, true, cond, List, [], ◌∷◌, ◌++◌, length, take, drop, Option, Some, refl, sym, ◌∙◌, ap, subst, inl, inr, arith}
use Rattle.std.specs.Prelude.{◌==◌, nat_lt, slice_get, option_map}
use Rattle.std.proofs.lemmas.Bool.{cases_lt, lt-ltb, le-ltb, eq-eqb}
use Rattle.std.proofs.lemmas.List.{take-append-drop, take-map, take_all, length-take}
use Rattle.std.proofs.lemmas.List.Sums.{sum_by-cons}
use Rattle.std.proofs.lemmas.Option.{slice_get-map, slice_get_within}
use Rattle.mesh_gen.specs.declared.request.Request.{Request}
use Rattle.mesh_gen.specs.Routes.{HasTiles}
use Rattle.mesh_gen.proofs.OneTile.{product_positive}
use Rattle.order_tracker.specs.Order.{entry_at, times}
use Rattle.chip_model.specs.Chip.{Chip, tile_count}
use Rattle.chip_model.specs.Copies.{Name, name_of}
use Rattle.chip_model.specs.OrderedNetwork.{OrderedNetwork, Interface, sources, expected_at}
use Rattle.chip_model.specs.Bookkeeping.{AreMadeBy, count_by_tile}
use Rattle.chip_model.specs.CopiesOwed.{owing, times_named}
use Rattle.chip_model.specs.NetworkFits.{NetworkFits, InterfaceAgrees, requests_of}
use Rattle.net_iface.proofs.Named.{length-requests_of, number_at, times_named-made, times_named-ordered}
use Rattle.net_iface.proofs.Entries.{source_below}
use Rattle.net_iface.proofs.Places.{item_at}

-- ---- how many requests of a tile stand before a place
count-cons : (t : ℕ) (q : Request) (requests : List Request) → count_by_tile t (q ∷ requests) ≡ cond (q.source == t) 1 0 + count_by_tile t requests
count-cons t q requests = sum_by-cons (λ s. cond (s == t) 1 0) q.source (sources requests)

pub count-take-le : (t : ℕ) (requests : List Request) (a b : ℕ) → a ≤ b → count_by_tile t (take a requests) ≤ count_by_tile t (take b requests)
count-take-le t [] zero zero below = omega arith
count-take-le t [] zero (suc b) below = omega arith
count-take-le t [] (suc a) zero below = absurd (omega arith)
count-take-le t [] (suc a) (suc b) below = omega arith
count-take-le t (q ∷ requests) zero b below = omega arith
count-take-le t (q ∷ requests) (suc a) zero below = absurd (omega arith)
count-take-le t (q ∷ requests) (suc a) (suc b) below =
    let rest = count-take-le t requests a b (omega arith) in
    omega (arith, count-cons t q (take a requests), count-cons t q (take b requests))

pub count-take-lt : (t : ℕ) (requests : List Request) (a b : ℕ) (q : Request) → slice_get requests a ≡ Some q → q.source ≡ t → a < b
    → count_by_tile t (take a requests) < count_by_tile t (take b requests)
count-take-lt t [] a b q is source below = cc
count-take-lt t (first ∷ requests) a zero q is source below = absurd (omega arith)
count-take-lt t (first ∷ requests) zero (suc b) q is source below =
    let same : first ≡ q = cc in
    let passes : (first.source == t) ≡ true = eq-eqb first.source t (ap (λ (r : Request). r.source) same ∙ source) in
    let one : ◌≡◌ {A = ℕ} (cond (first.source == t) 1 0) 1 = rw passes refl in
    omega (arith, count-cons t first (take b requests))
count-take-lt t (first ∷ requests) (suc a) (suc b) q is source below =
    let rest = count-take-lt t requests a b q is source (omega arith) in
    omega (arith, count-cons t first (take a requests), count-cons t first (take b requests))

-- ---- what a tile made
made_split : (net : OrderedNetwork) (t : ℕ) (interface : Interface) → InterfaceAgrees net t interface
    → requests_of t net.ordered ++ drop (count_by_tile t net.ordered) interface.made ≡ interface.made
made_split net t interface agrees =
    ap (λ (xs : List Request). xs ++ drop (count_by_tile t net.ordered) interface.made) agrees.ordered ∙ take-append-drop (count_by_tile t net.ordered) interface.made

made_all : (net : OrderedNetwork) (t : ℕ) (interface : Interface) → InterfaceAgrees net t interface → AreMadeBy t (requests_of t net.ordered ++ drop (count_by_tile t net.ordered) interface.made)
made_all net t interface agrees = subst (λ (xs : List Request). AreMadeBy t xs) (sym (made_split net t interface agrees)) agrees.made

pub ordered_le : (net : OrderedNetwork) (t : ℕ) (interface : Interface) → InterfaceAgrees net t interface → count_by_tile t net.ordered ≤ length interface.made
ordered_le net t interface agrees =
    omega (arith, length-requests_of t net.ordered, ap length agrees.ordered, length-take (count_by_tile t net.ordered) interface.made)

-- how often a request with a number stands in the front of the order
pub times_in_front : (net : OrderedNetwork) (t k place : ℕ) (interface : Interface) → InterfaceAgrees net t interface
    → times_named (t, k) (take place net.ordered) ≡ cond (nat_lt k (count_by_tile t (take place net.ordered))) 1 0
times_in_front net t k place interface agrees = times_named-ordered t k place net.ordered (drop (count_by_tile t net.ordered) interface.made) (made_all net t interface agrees)

-- ---- the request at a place
pub record StandsAt (chip : Chip) (net : OrderedNetwork) (place : ℕ) (q : Request) : Type 0 where
  pub there : slice_get net.ordered place ≡ Some q
  pub source : q.source < tile_count chip
  pub number : q.number ≡ count_by_tile q.source (take place net.ordered)
  pub owed : (t : ℕ) (to : Interface) → slice_get net.interfaces t ≡ Some to → owing chip.grid net.copies (name_of q) t + cond (nat_lt place to.delivered) 1 0 ≡ 1

pub some_tiles : (chip : Chip) → HasTiles chip.grid → 0 < tile_count chip
some_tiles chip some = product_positive chip.grid.cols chip.grid.rows some.some_column some.some_row

-- a request is owed to a tile, or it was delivered there
pub stands_at : (chip : Chip) (net : OrderedNetwork) (place : ℕ) (q : Request) → HasTiles chip.grid → NetworkFits chip net → slice_get net.ordered place ≡ Some q → StandsAt chip net place q
stands_at chip net place q some fits there = record { there = there; source = inside; number = number; owed = owed }
  where
    inside : q.source < tile_count chip
    inside = source_below (tile_count chip) net.ordered net.windows.closed place q (some_tiles chip some) fits.ordered there

    from : Interface
    from = (item_at net.interfaces q.source (omega (arith, inside, fits.interfaces))).item

    from_there : slice_get net.interfaces q.source ≡ Some from
    from_there = (item_at net.interfaces q.source (omega (arith, inside, fits.interfaces))).there

    agrees : InterfaceAgrees net q.source from
    agrees = fits.agree q.source from from_there

    number : q.number ≡ count_by_tile q.source (take place net.ordered)
    number = number_at q.source place net.ordered (drop (count_by_tile q.source net.ordered) from.made) q (made_all net q.source from agrees) there refl

    made_once : times_named (name_of q) from.made ≡ 1
    made_once =
        let before = count-take-lt q.source net.ordered place (length net.ordered) q there refl (slice_get_within net.ordered place q there) in
        let all = ap (count_by_tile q.source) (take_all (length net.ordered) net.ordered (omega arith)) in
        let within : q.number < length from.made = omega (arith, number, ordered_le net q.source from agrees) in
        times_named-made q.source q.number from.made agrees.made ∙ ap (λ (b : Bool). cond b 1 0) (lt-ltb q.number (length from.made) within)

    ordered_by : (d : ℕ) → nat_lt q.number (count_by_tile q.source (take d net.ordered)) ≡ nat_lt place d
    ordered_by d = elim (cases_lt place d) [
      | inl before ↦ lt-ltb _ _ (omega (arith, number, count-take-lt q.source net.ordered place d q there refl before)) ∙ sym (lt-ltb place d before)
      | inr behind ↦ le-ltb _ _ (omega (arith, number, count-take-le q.source net.ordered d place behind)) ∙ sym (le-ltb place d behind)
    ]

    owed : (t : ℕ) (to : Interface) → slice_get net.interfaces t ≡ Some to → owing chip.grid net.copies (name_of q) t + cond (nat_lt place to.delivered) 1 0 ≡ 1
    owed t to to_there =
        let whole = fits.owed (name_of q) q.source t from to from_there refl to_there in
        let front = times_in_front net q.source q.number to.delivered from agrees ∙ ap (λ (b : Bool). cond b 1 0) (ordered_by to.delivered) in
        omega (arith, whole, front, made_once)

pub still_owed : {chip : Chip} {net : OrderedNetwork} {place : ℕ} {q : Request} → StandsAt chip net place q → (t : ℕ) (to : Interface) → slice_get net.interfaces t ≡ Some to
    → to.delivered ≤ place → owing chip.grid net.copies (name_of q) t ≡ 1
still_owed {place = place} at t to there behind =
    let all = at.owed t to there in
    let none : ◌≡◌ {A = ℕ} (cond (nat_lt place to.delivered) 1 0) 0 = ap (λ (b : Bool). cond b 1 0) (le-ltb place to.delivered behind) in
    omega arith

pub owed_no_more : {chip : Chip} {net : OrderedNetwork} {place : ℕ} {q : Request} → StandsAt chip net place q → (t : ℕ) (to : Interface) → slice_get net.interfaces t ≡ Some to
    → place < to.delivered → owing chip.grid net.copies (name_of q) t ≡ 0
owed_no_more {place = place} at t to there before =
    let all = at.owed t to there in
    let one : ◌≡◌ {A = ℕ} (cond (nat_lt place to.delivered) 1 0) 1 = ap (λ (b : Bool). cond b 1 0) (lt-ltb place to.delivered before) in
    omega arith

-- ---- a tile that has taken every vector expects the request behind those that it has delivered
abbrev pub AllTaken : OrderedNetwork → Type 0
AllTaken net = (t count : ℕ) → slice_get net.windows.taken t ≡ Some count → count ≡ length net.windows.closed

named : ℕ → ℕ → Option Name
named source number = Some (source, number)

entry_is : (ordered : List Request) (place : ℕ) (q : Request) → slice_get ordered place ≡ Some q → q.number ≡ count_by_tile q.source (take place ordered)
    → entry_at (sources ordered) place ≡ Some (name_of q)
unfolding named
entry_is ordered place q there number =
    let source : slice_get (sources ordered) place ≡ Some q.source = slice_get-map (λ (r : Request). r.source) ordered place ∙ ap (option_map (λ (r : Request). r.source)) there in
    let count : times q.source (take place (sources ordered)) ≡ q.number = ap (times q.source) (take-map (λ (r : Request). r.source) place ordered) ∙ sym number in
    rw source (ap (named q.source) count)

pub expects_it : (chip : Chip) (net : OrderedNetwork) (t : ℕ) (to : Interface) (q : Request) → NetworkFits chip net → AllTaken net → slice_get net.interfaces t ≡ Some to
    → StandsAt chip net to.delivered q → expected_at chip net t ≡ Some (name_of q)
unfolding expected_at
expects_it chip net t to q fits all there at =
    let within : t < length net.windows.taken = omega (arith, slice_get_within net.interfaces t to there, fits.interfaces, fits.windows.tiles) in
    let taken = item_at net.windows.taken t within in
    let whole : take taken.item net.windows.closed ≡ net.windows.closed = take_all taken.item net.windows.closed (omega (arith, all t taken.item taken.there)) in
    rw (there, taken.there, whole, ← fits.ordered) (entry_is net.ordered to.delivered q at.there at.number)
