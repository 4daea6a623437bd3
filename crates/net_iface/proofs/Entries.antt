-- The request that a tile expects is the one of the order after those that the tile has delivered.
use Rattle.std.proofs.Common.{◌≡◌, ℕ, zero, suc, ◌+◌, ◌<◌, List, [], ◌∷◌, ◌++◌, length, take, drop, Option, Some, None, refl, sym, ◌∙◌, ap, subst, arith}
use Rattle.std.specs.Prelude.{slice_get, slice_index, option_map}
use Rattle.std.specs.List.{AllByRecursion}
use Rattle.std.proofs.lemmas.List.{take-append-drop, take-append-le, take-map}
use Rattle.std.proofs.lemmas.Option.{slice_get-map, slice_get_within}
use Rattle.mesh_gen.specs.declared.request.Request.{Request}
use Rattle.order_tracker.specs.Order.{order_from, order, times, entry_at}
use Rattle.order_tracker.proofs.Sequence.{order_from-below}
use Rattle.chip_model.specs.Chip.{tile_count}
use Rattle.chip_model.specs.Copies.{Name, name_of}
use Rattle.chip_model.specs.OrderedNetwork.{sources, expected_at}
use Rattle.chip_model.specs.Bookkeeping.{AreMadeBy, count_by_tile}
use Rattle.chip_model.specs.NetworkFits.{requests_of}
use Rattle.net_iface.specs.Unordered.{unordered_of}
use Rattle.net_iface.specs.Parts.{Parts, network_of, AreKept}
use Rattle.net_iface.proofs.Accounts.{accounted}
use Rattle.net_iface.proofs.Named.{slice_get_grown, number_at}
use Rattle.net_iface.proofs.Orders.{order_from-append}
use Rattle.net_iface.proofs.Expected.{expected_at-some}

-- ---- items of the order

pub record IsEntry (entries : List ℕ) (place : ℕ) (name : Name) : Type 0 where
  pub source : ℕ
  pub there : slice_get entries place ≡ Some source
  pub is : ◌≡◌ {A = Name} (source, times source (take place entries)) name

entry_by : (entries : List ℕ) (place : ℕ) (name : Name) (found : Option ℕ) → slice_get entries place ≡ found → option_map {U = Name} (λ source. (source, times source (take place entries))) found ≡ Some name → IsEntry entries place name
entry_by entries place name None found is = cc
entry_by entries place name (Some source) found is = record { source = source; there = found; is = same_value (source, times source (take place entries)) name is }
  where
    same_value : (a b : Name) → ◌≡◌ {A = Option Name} (Some a) (Some b) → a ≡ b
    same_value a b same = cc

entry_of : (entries : List ℕ) (place : ℕ) (name : Name) → entry_at entries place ≡ Some name → IsEntry entries place name
entry_of entries place name is = entry_by entries place name (slice_get entries place) refl is

-- an entry is one of those that there are
pub entry_within : (entries : List ℕ) (place : ℕ) (name : Name) → entry_at entries place ≡ Some name → place < length entries
entry_within entries place name is = let entry = entry_of entries place name is in slice_get_within entries place entry.source entry.there

all_at : (P : ℕ → Type 0) (xs : List ℕ) (k x : ℕ) → AllByRecursion P xs → slice_get xs k ≡ Some x → P x
all_at P [] k x all is = cc
all_at P (y ∷ xs) zero x all is = let same : y ≡ x = cc in subst P same all.0
all_at P (y ∷ xs) (suc k) x all is = all_at P xs k x all.1 is

pub record HasSource (requests : List Request) (place source : ℕ) : Type 0 where
  pub request : Request
  pub there : slice_get requests place ≡ Some request
  pub is : request.source ≡ source

with_source : (requests : List Request) (place source : ℕ) → slice_get (sources requests) place ≡ Some source → HasSource requests place source
with_source [] place source is = cc
with_source (q ∷ requests) zero source is = record { request = q; there = refl; is = cc }
with_source (q ∷ requests) (suc place) source is = let rest = with_source requests place source is in record { request = rest.request; there = rest.there; is = rest.is }

-- every source is a tile
pub source_below : (n : ℕ) (ordered : List Request) (closed : List ℕ) (place : ℕ) (q : Request) → 0 < n → sources ordered ≡ order n closed → slice_get ordered place ≡ Some q → q.source < n
source_below n ordered closed place q some in_order there =
    let source : slice_get (sources ordered) place ≡ Some q.source = slice_get-map (λ (r : Request). r.source) ordered place ∙ ap (option_map (λ (r : Request). r.source)) there in
    all_at (λ t. t < n) (order n closed) place q.source (order_from-below n 0 closed some) (ap (λ (entries : List ℕ). slice_get entries place) (sym in_order) ∙ source)

-- ---- what comes next

-- a request of the order with this name, at this place
pub record IsThere (tiles : ℕ) (ordered : List Request) (place : ℕ) (name : Name) : Type 0 where
  pub request : Request
  pub there : slice_get ordered place ≡ Some request
  pub named : name_of request ≡ name
  pub source : request.source < tiles

pub entry_there : (n count place : ℕ) (ordered : List Request) (closed : List ℕ) (name : Name) (made : ℕ → List Request) → 0 < n → sources ordered ≡ order n closed
    → ((t : ℕ) → t < n → AreMadeBy t (requests_of t ordered ++ made t)) → entry_at (order n (take count closed)) place ≡ Some name → IsThere n ordered place name
entry_there n count place ordered closed name made some in_order all is =
    let entries = order n (take count closed) in
    let entry = entry_of entries place name is in
    let within : place < length entries = slice_get_within entries place entry.source entry.there in
    let split : sources ordered ≡ entries ++ order_from n (0 + length (take count closed)) (drop count closed) =
    in_order ∙ ap (λ (windows : List ℕ). order n windows) (sym (take-append-drop count closed)) ∙ order_from-append n 0 (take count closed) (drop count closed)
    in
    let rest = order_from n (0 + length (take count closed)) (drop count closed) in
    let here : slice_get (sources ordered) place ≡ Some entry.source = ap (λ (es : List ℕ). slice_get es place) split ∙ slice_get_grown entries rest place entry.source entry.there in
    let front : take place (sources ordered) ≡ take place entries = ap (take place) split ∙ take-append-le place entries rest (omega arith) in
    let found = with_source ordered place entry.source here in
    let inside = source_below n ordered closed place found.request some in_order found.there in
    let number = number_at found.request.source place ordered (made found.request.source) found.request (all found.request.source inside) found.there refl in
    let counted : count_by_tile found.request.source (take place ordered) ≡ times entry.source (take place entries) =
    ap (λ (s : ℕ). count_by_tile s (take place ordered)) found.is ∙ ap (times entry.source) (sym (take-map (λ (q : Request). q.source) place ordered) ∙ front)
    in
    record {
      request = found.request;
      there = found.there;
      named = ap (λ (s : ℕ). (s, found.request.number)) found.is ∙ ap (λ (k : ℕ). (entry.source, k)) (number ∙ counted) ∙ entry.is;
      source = inside;
    }

pub expected_is_there : (p : Parts) (t : ℕ) (name : Name) → AreKept p → t < tile_count p.chip → expected_at p.chip (network_of p) t ≡ Some name
    → IsThere (tile_count p.chip) p.ordered (slice_index p.delivered t) name
expected_is_there p t name kept inside is =
    entry_there (tile_count p.chip) (slice_index p.windows.windows.taken t) (slice_index p.delivered t) p.ordered p.windows.windows.closed name (unordered_of p.unordered) kept.sizes.some (accounted p kept).in_order (accounted p kept).made
    (sym (expected_at-some p t kept.sizes inside) ∙ is)
