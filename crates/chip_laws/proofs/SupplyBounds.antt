-- At most one get of a tile is ordered and not complete: what a tile has not delivered is its demand's.
use Rattle.std.proofs.Common.{◌≡◌, ℕ, zero, suc, ◌+◌, ◌≤◌, Bool, true, false, cond, List, [], ◌∷◌, length, map, take, drop, refl, sym, ◌∙◌, ap, arith, Option, Some, None}
use Rattle.std.specs.Prelude.{◌==◌, ◌&&◌, is_some, is_none}
use Rattle.std.specs.List.{count_by}
use Rattle.std.proofs.lemmas.List.{length-map}
use Rattle.std.proofs.lemmas.List.Sums.{length-filter}
use Rattle.mesh_gen.specs.declared.kind.Kind.{Kind}
use Rattle.mesh_gen.specs.declared.request.Request.{Request}
use Rattle.mesh_gen.specs.Ports.{count_if}
use Rattle.chip_model.specs.Misses.{Demand}
use Rattle.chip_model.specs.OrderedNetwork.{OrderedNetwork, Interface}
use Rattle.chip_model.specs.Node.{Node}
use Rattle.chip_model.specs.Ownership.{delivered_to}
use Rattle.chip_model.specs.Bookkeeping.{is_get, is_get_of, count_by_tile, gets_among, outstanding_get, TileAgrees}
use Rattle.chip_model.specs.NetworkFits.{requests_of, InterfaceAgrees}
use Rattle.chip_model.specs.Suppliers.{is_ordered}
use Rattle.chip_laws.proofs.SupplyCounts.{count_by-cons}

abbrev asks : Request → Bool
asks q = is_get q.kind

gets_cons : (t : ℕ) (b : Bool) (q : Request) (rest : List Request) → count_by asks (cond b (q ∷ rest) rest) ≡ count_if (asks q && b) + count_by asks rest
gets_cons t true q rest = by (asks q) refl where
  by : (a : Bool) → asks q ≡ a → count_by asks (q ∷ rest) ≡ count_if (asks q && true) + count_by asks rest
  by true is = omega (arith, count_by-cons asks q rest, ap count_if is, ap (λ b. count_if (b && true)) is)
  by false is = omega (arith, count_by-cons asks q rest, ap count_if is, ap (λ b. count_if (b && true)) is)
gets_cons t false q rest = by (asks q) refl where
  by : (a : Bool) → asks q ≡ a → count_by asks rest ≡ count_if (asks q && false) + count_by asks rest
  by true is = omega (arith, ap (λ b. count_if (b && false)) is)
  by false is = omega (arith, ap (λ b. count_if (b && false)) is)

-- a tile's gets are the gets among its requests
gets_of_tile : (t : ℕ) (requests : List Request) → count_by (is_get_of t) requests ≡ count_by asks (requests_of t requests)
gets_of_tile t [] = refl
gets_of_tile t (q ∷ requests) =
    omega (arith, count_by-cons (is_get_of t) q requests, gets_of_tile t requests, gets_cons t (q.source == t) q (requests_of t requests))

drop_cond : {X : Type 0} (b : Bool) (x : X) (xs : List X) (n : ℕ) → drop (cond b 1 0 + n) (cond b (x ∷ xs) xs) ≡ drop n xs
drop_cond true x xs n = let same : 1 + n ≡ suc n = omega arith in ap (λ k. drop k (x ∷ xs)) same
drop_cond false x xs n = let same : 0 + n ≡ n = omega arith in ap (λ k. drop k xs) same

count_cons : (t : ℕ) (q : Request) (requests : List Request) → count_by_tile t (q ∷ requests) ≡ cond (q.source == t) 1 0 + count_by_tile t requests
count_cons t q requests = count_by-cons (λ s. s == t) q.source (map (λ (r : Request). r.source) requests)

-- those after a place are its requests after as many
gets_after : (t : ℕ) (requests : List Request) (n : ℕ) → count_by (is_get_of t) (drop n requests) ≡ count_by asks (drop (count_by_tile t (take n requests)) (requests_of t requests))
gets_after t requests zero = gets_of_tile t requests
gets_after t [] (suc n) = refl
gets_after t (q ∷ requests) (suc n) =
    gets_after t requests n
    ∙ sym (ap (count_by asks) (ap (λ k. drop k (requests_of t (q ∷ requests))) (count_cons t q (take n requests))
    ∙ drop_cond (q.source == t) q (requests_of t requests) (count_by_tile t (take n requests))))

count_take : {X : Type 0} (p : X → Bool) (xs : List X) (n : ℕ) → count_by p (take n xs) ≤ count_by p xs
count_take p [] zero = omega arith
count_take p [] (suc n) = omega arith
count_take p (x ∷ xs) zero = omega arith
count_take p (x ∷ xs) (suc n) = omega (arith, count_by-cons p x (take n xs), count_by-cons p x xs, count_take p xs n)

count_drop_take : {X : Type 0} (p : X → Bool) (xs : List X) (k n : ℕ) → count_by p (drop k (take n xs)) ≤ count_by p (drop k xs)
count_drop_take p xs zero n = count_take p xs n
count_drop_take p [] (suc k) zero = omega arith
count_drop_take p [] (suc k) (suc n) = omega arith
count_drop_take p (x ∷ xs) (suc k) zero = omega arith
count_drop_take p (x ∷ xs) (suc k) (suc n) = count_drop_take p xs k n

way_count : (demand : Option Demand) → length (outstanding_get demand) + count_if (is_ordered demand) ≤ count_if (is_some demand)
way_count None = omega arith
way_count (Some demand) = by demand.sent demand.ordered where
  by : (sent : Bool) (place : Option ℕ) → length (cond {A = List (Kind × ℕ)} (sent && is_none place) ((demand.kind, demand.line) ∷ []) []) + count_if (is_some place) ≤ 1
  by true None = omega arith
  by true (Some k) = omega arith
  by false None = omega arith
  by false (Some k) = omega arith

pub one_open : (net : OrderedNetwork) (t : ℕ) (interface : Interface) (node : Node) → InterfaceAgrees net t interface → TileAgrees net t interface node
    → count_by (is_get_of t) (drop node.delivered net.ordered) + count_if (is_ordered node.side.misses.demand) ≤ count_if (is_some node.side.misses.demand)
one_open net t interface node agrees is =
    let k = count_by_tile t (delivered_to net.ordered node) in
    let here = gets_after t net.ordered node.delivered in
    let prefix : count_by asks (drop k (requests_of t net.ordered)) ≡ count_by asks (drop k (take (count_by_tile t net.ordered) interface.made)) = ap (λ xs. count_by asks (drop k xs)) agrees.ordered in
    let fewer = count_drop_take asks interface.made k (count_by_tile t net.ordered) in
    let all : count_by asks (drop k interface.made) ≡ length (outstanding_get node.side.misses.demand) =
    sym (length-filter asks (drop k interface.made))
    ∙ sym (length-map (gets_among (drop k interface.made)) (λ (q : Request). (q.kind, q.line)))
    ∙ ap length is.under_way.gets in
    omega (arith, here, prefix, fewer, all, way_count node.side.misses.demand)
