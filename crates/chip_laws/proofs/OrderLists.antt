-- The order of requests and its prefixes: one request more, and the requests of a tile.
use Rattle.std.proofs.Common.{◌≡◌, ℕ, zero, suc, ◌+◌, ◌<◌, ◌≤◌, Bool, true, false, cond, ◌==◌, List, [], ◌∷◌, ◌++◌, length, take, drop, refl, sym, ◌∙◌, ap, arith, Some}
use Rattle.std.specs.Prelude.{slice_get}
use Rattle.std.proofs.lemmas.Bool.{eq-eqb}
use Rattle.std.proofs.lemmas.List.{length-take-le, drop-append-le, take-append-le, take_more, drop_more}
use Rattle.std.proofs.lemmas.List.Sums.{sum_by-cons}
use Rattle.std.proofs.lemmas.Option.{slice_get_within, get_or_from_slice_get}
use Rattle.std.proofs.Math.ListN.{drop_of_length-le}
use Rattle.mesh_gen.specs.declared.request.Request.{Request}
use Rattle.chip_model.specs.OrderedNetwork.{sources}
use Rattle.chip_model.specs.Bookkeeping.{between, count_by_tile}
use Rattle.chip_model.specs.NetworkFits.{requests_of}
use Rattle.chip_laws.proofs.Options.{none_some}

-- ---- one more

pub take_next : {X : Type 0} (xs : List X) (n : ℕ) (x : X) → slice_get xs n ≡ Some x → take (n + 1) xs ≡ take n xs ++ x ∷ []
take_next {X} xs n x at = take_more xs n x (slice_get_within xs n x at) ∙ ap (λ (y : X). take n xs ++ y ∷ []) (get_or_from_slice_get xs n x x at)

pub drop_next : {X : Type 0} (xs : List X) (n : ℕ) (x : X) → slice_get xs n ≡ Some x → drop n xs ≡ x ∷ drop (n + 1) xs
drop_next {X} xs n x at = drop_more xs n x (slice_get_within xs n x at) ∙ ap (λ (y : X). y ∷ drop (n + 1) xs) (get_or_from_slice_get xs n x x at)

pub between_next : (ordered : List Request) (place n : ℕ) (q : Request) → place < n → slice_get ordered n ≡ Some q
    → between place (n + 1) ordered ≡ between place n ordered ++ q ∷ []
between_next ordered place n q before at =
    let within = slice_get_within ordered n q at in
    ap (drop (place + 1)) (take_next ordered n q at)
    ∙ drop-append-le (place + 1) (take n ordered) (q ∷ []) (omega (arith, length-take-le n ordered (omega arith)))

-- nothing stands after a place and before the next one
pub between_none : (ordered : List Request) (n : ℕ) → n < length ordered → between n (n + 1) ordered ≡ []
between_none ordered n within = drop_of_length-le (take (n + 1) ordered) (omega (arith, length-take-le (n + 1) ordered (omega arith)))

pub between_grown : (ordered more : List Request) (place n : ℕ) → n ≤ length ordered → between place n (ordered ++ more) ≡ between place n ordered
between_grown ordered more place n within = ap (drop (place + 1)) (take-append-le n ordered more within)

pub get_grown : {X : Type 0} (xs ys : List X) (k : ℕ) (x : X) → slice_get xs k ≡ Some x → slice_get (xs ++ ys) k ≡ Some x
get_grown [] ys k x at = none_some x at
get_grown (y ∷ xs) ys zero x at = at
get_grown (y ∷ xs) ys (suc k) x at = get_grown xs ys k x at

-- ---- the requests of a tile

count_by_tile-cons : (t : ℕ) (q : Request) (requests : List Request) → count_by_tile t (q ∷ requests) ≡ cond (q.source == t) 1 0 + count_by_tile t requests
count_by_tile-cons t q requests = sum_by-cons (λ s. cond (s == t) 1 0) q.source (sources requests)

pub count_by_tile-snoc : (t : ℕ) (requests : List Request) (q : Request) → count_by_tile t (requests ++ q ∷ []) ≡ count_by_tile t requests + cond (q.source == t) 1 0
count_by_tile-snoc t [] q = omega (arith, count_by_tile-cons t q [])
count_by_tile-snoc t (first ∷ requests) q =
    omega (arith, count_by_tile-cons t first requests, count_by_tile-cons t first (requests ++ q ∷ []), count_by_tile-snoc t requests q)

pub count_next : (t : ℕ) (ordered : List Request) (n : ℕ) (q : Request) → slice_get ordered n ≡ Some q
    → count_by_tile t (take (n + 1) ordered) ≡ count_by_tile t (take n ordered) + cond (q.source == t) 1 0
count_next t ordered n q at = ap (count_by_tile t) (take_next ordered n q at) ∙ count_by_tile-snoc t (take n ordered) q

-- as many as before, and at most as many as there are
pub count_take_le : (t : ℕ) (requests : List Request) (n : ℕ) → count_by_tile t (take n requests) ≤ count_by_tile t requests
count_take_le t [] zero = omega arith
count_take_le t [] (suc n) = omega arith
count_take_le t (q ∷ requests) zero = omega arith
count_take_le t (q ∷ requests) (suc n) =
    let rest = count_take_le t requests n in
    omega (arith, count_by_tile-cons t q requests, count_by_tile-cons t q (take n requests))

length_kept : (b : Bool) (q : Request) (rest : List Request) (n : ℕ) → length rest ≡ n → length (cond b (q ∷ rest) rest) ≡ cond b 1 0 + n
length_kept true q rest n count = omega arith
length_kept false q rest n count = omega (arith, count)

pub length-requests_of : (t : ℕ) (requests : List Request) → length (requests_of t requests) ≡ count_by_tile t requests
length-requests_of t [] = refl
length-requests_of t (q ∷ requests) =
    length_kept (q.source == t) q (requests_of t requests) (count_by_tile t requests) (length-requests_of t requests)
    ∙ sym (count_by_tile-cons t q requests)

at_kept : (b : Bool) (first : Request) (rest : List Request) (n : ℕ) (q : Request) → slice_get rest n ≡ Some q → slice_get (cond b (first ∷ rest) rest) (cond b 1 0 + n) ≡ Some q
at_kept true first rest n q at = let same : cond {A = ℕ} true 1 0 + n ≡ suc n = omega arith in ap (slice_get (first ∷ rest)) same ∙ at
at_kept false first rest n q at = let same : 0 + n ≡ n = omega arith in ap (slice_get rest) same ∙ at

-- the request at a place is that of its source after those before
pub request_at : (t : ℕ) (requests : List Request) (place : ℕ) (q : Request) → slice_get requests place ≡ Some q → q.source ≡ t
    → slice_get (requests_of t requests) (count_by_tile t (take place requests)) ≡ Some q
request_at t [] place q at source = none_some q at
request_at t (first ∷ requests) zero q at source =
    let same : first ≡ q = cc in
    let passes : (first.source == t) ≡ true = eq-eqb first.source t (ap (λ (r : Request). r.source) same ∙ source) in
    rw passes (ap Some same)
request_at t (first ∷ requests) (suc place) q at source =
    ap (slice_get (requests_of t (first ∷ requests))) (count_by_tile-cons t first (take place requests))
    ∙ at_kept (first.source == t) first (requests_of t requests) (count_by_tile t (take place requests)) q (request_at t requests place q at source)

pub get_take : {X : Type 0} (xs : List X) (n k : ℕ) (x : X) → slice_get (take n xs) k ≡ Some x → slice_get xs k ≡ Some x
get_take [] zero k x at = at
get_take [] (suc n) k x at = at
get_take (y ∷ xs) zero k x at = none_some x at
get_take (y ∷ xs) (suc n) zero x at = at
get_take (y ∷ xs) (suc n) (suc k) x at = get_take xs n k x at
