-- Requests by their names: how often one is among the requests of a tile, and at which place of the order it stands.
use Rattle.std.proofs.Common.{◌≡◌, ℕ, zero, suc, ◌+◌, ◌-◌, ◌<◌, Bool, true, false, cond, ◌&&◌, ◌==◌, List, [], ◌∷◌, ◌++◌, length, take, drop, refl, sym, ◌∙◌, ap, subst, inl, inr, arith, Some, length-append}
use Rattle.std.specs.Prelude.{slice_get, nat_lt, nat_le}
use Rattle.std.proofs.lemmas.Bool.{cases_lt, eq-eqb, eqb-true, and_parts}
use Rattle.std.proofs.lemmas.Bool.Decides.{nat_tests}
use Rattle.std.proofs.lemmas.List.{take-append-drop}
use Rattle.std.proofs.lemmas.List.Elements.{filter-append}
use Rattle.std.proofs.lemmas.List.Sums.{sum_by-cons, sum_by-append}
use Rattle.std.proofs.lemmas.Option.{slice_get_within}
use Rattle.mesh_gen.specs.declared.request.Request.{Request}
use Rattle.mesh_gen.specs.Ports.{count_if}
use Rattle.chip_model.specs.Copies.{Name, name_of, is_named}
use Rattle.chip_model.specs.OrderedNetwork.{sources}
use Rattle.chip_model.specs.Bookkeeping.{AreMadeBy, count_by_tile}
use Rattle.chip_model.specs.CopiesOwed.{times_named}
use Rattle.chip_model.specs.NetworkFits.{requests_of}

-- ---- items of lists

pub slice_get-append_left : {X : Type 0} (xs ys : List X) (k : ℕ) → k < length xs → slice_get (xs ++ ys) k ≡ slice_get xs k
slice_get-append_left [] ys k inside = absurd (omega arith)
slice_get-append_left (x ∷ xs) ys zero inside = refl
slice_get-append_left (x ∷ xs) ys (suc k) inside = slice_get-append_left xs ys k (omega arith)

pub slice_get-append_right : {X : Type 0} (xs ys : List X) (n k : ℕ) → n ≡ length xs + k → slice_get (xs ++ ys) n ≡ slice_get ys k
slice_get-append_right [] ys n k is = ap (slice_get ys) (omega arith)
slice_get-append_right (x ∷ xs) ys zero k is = absurd (omega arith)
slice_get-append_right (x ∷ xs) ys (suc n) k is = slice_get-append_right xs ys n k (omega arith)

-- what stands in a list stands in a longer one
pub slice_get_grown : {X : Type 0} (xs ys : List X) (k : ℕ) (x : X) → slice_get xs k ≡ Some x → slice_get (xs ++ ys) k ≡ Some x
slice_get_grown xs ys k x is = slice_get-append_left xs ys k (slice_get_within xs k x is) ∙ is

-- ---- the requests of a tile

count_by_tile-cons : (t : ℕ) (q : Request) (requests : List Request) → count_by_tile t (q ∷ requests) ≡ cond (q.source == t) 1 0 + count_by_tile t requests
count_by_tile-cons t q requests = sum_by-cons (λ s. cond (s == t) 1 0) q.source (sources requests)

length_kept : (b : Bool) (q : Request) (rest : List Request) (n m : ℕ) → m ≡ cond b 1 0 + n → length rest ≡ n → length (cond b (q ∷ rest) rest) ≡ m
length_kept true q rest n m is count = omega arith
length_kept false q rest n m is count = omega arith

pub length-requests_of : (t : ℕ) (requests : List Request) → length (requests_of t requests) ≡ count_by_tile t requests
length-requests_of t [] = refl
length-requests_of t (q ∷ requests) =
    length_kept (q.source == t) q (requests_of t requests) (count_by_tile t requests) (count_by_tile t (q ∷ requests)) (count_by_tile-cons t q requests) (length-requests_of t requests)

pub requests_of-append : (t : ℕ) (xs ys : List Request) → requests_of t (xs ++ ys) ≡ requests_of t xs ++ requests_of t ys
requests_of-append t xs ys = filter-append (λ (q : Request). q.source == t) xs ys

pub count_by_tile-append : (t : ℕ) (xs ys : List Request) → count_by_tile t (xs ++ ys) ≡ count_by_tile t xs + count_by_tile t ys
count_by_tile-append t xs ys =
    omega (arith, length-requests_of t xs, length-requests_of t ys, length-requests_of t (xs ++ ys), ap length (requests_of-append t xs ys), length-append (requests_of t xs) (requests_of t ys))

at_kept : (b : Bool) (first : Request) (rest : List Request) (n m : ℕ) (q : Request) → m ≡ cond b 1 0 + n → slice_get rest n ≡ Some q → slice_get (cond b (first ∷ rest) rest) m ≡ Some q
at_kept true first rest n m q is there = slice_get-append_right (first ∷ []) rest m n (omega arith) ∙ there
at_kept false first rest n m q is there = ap (slice_get rest) (omega arith) ∙ there

-- the request at a place is that of its source after those before
pub request_at : (t : ℕ) (requests : List Request) (place : ℕ) (q : Request) → slice_get requests place ≡ Some q → q.source ≡ t
    → slice_get (requests_of t requests) (count_by_tile t (take place requests)) ≡ Some q
request_at t [] place q is source = cc
request_at t (first ∷ requests) zero q is source =
    let same : first ≡ q = cc in
    let passes : (first.source == t) ≡ true = eq-eqb first.source t (ap (λ (r : Request). r.source) same ∙ source) in
    rw passes (ap Some same)
request_at t (first ∷ requests) (suc place) q is source =
    at_kept (first.source == t) first (requests_of t requests) (count_by_tile t (take place requests)) (count_by_tile t (first ∷ take place requests)) q
    (count_by_tile-cons t first (take place requests)) (request_at t requests place q is source)

-- ---- requests by their numbers

pub AreMadeBy-push : (t : ℕ) (made : List Request) (q : Request) → q.source ≡ t → q.number ≡ length made → AreMadeBy t made → AreMadeBy t (made ++ q ∷ [])
AreMadeBy-push t made q source number all = λ n r is. elim (cases_lt n (length made)) [
  | inl before ↦ all n r (sym (slice_get-append_left made (q ∷ []) n before) ∙ is)
  | inr behind ↦ last n r (n - length made) (omega arith) is
]
  where
    last : (n : ℕ) (r : Request) (k : ℕ) → n ≡ length made + k → slice_get (made ++ q ∷ []) n ≡ Some r → (r.source ≡ t) × (r.number ≡ n)
    last n r zero at is =
        let same : q ≡ r = cc (slice_get-append_right made (q ∷ []) n 0 at) in
        (ap (λ (s : Request). s.source) (sym same) ∙ source, ap (λ (s : Request). s.number) (sym same) ∙ number ∙ omega arith)
    last n r (suc k) at is = cc (slice_get-append_right made (q ∷ []) n (suc k) at)

pub AreMadeBy-front : (t : ℕ) (xs ys : List Request) → AreMadeBy t (xs ++ ys) → AreMadeBy t xs
AreMadeBy-front t xs ys all = λ n q is. all n q (slice_get_grown xs ys n q is)

-- the same from some number on
AreNumbered : ℕ → ℕ → List Request → Type 0
AreNumbered t first requests = (n : ℕ) (q : Request) → slice_get requests n ≡ Some q → (q.source ≡ t) × (q.number ≡ first + n)

named_first : (t k first length : ℕ) (source number : ℕ) (rest : ℕ) → source ≡ t → number ≡ first + 0 → rest ≡ cond (nat_le (first + 1) k && nat_lt k (first + 1 + length)) 1 0
    → cond ((source == t) && (number == k)) 1 0 + rest ≡ cond (nat_le first k && nat_lt k (first + suc length)) 1 0
named_first t k first length source number rest is at later = grind (arith, nat_tests)

times_named-numbered : (t k first : ℕ) (requests : List Request) → AreNumbered t first requests → times_named (t, k) requests ≡ cond (nat_le first k && nat_lt k (first + length requests)) 1 0
unfolding AreNumbered
times_named-numbered t k first [] all = grind (arith, nat_tests)
times_named-numbered t k first (q ∷ requests) all =
    let here = all 0 q refl in
    sum_by-cons (λ (r : Request). cond (is_named (t, k) r) 1 0) q requests
    ∙ named_first t k first (length requests) q.source q.number (times_named (t, k) requests) here.0 here.1
    (times_named-numbered t k (first + 1) requests (λ n r is. let there = all (suc n) r is in (there.0, there.1 ∙ omega arith)))

from_zero : (k n : ℕ) → ◌≡◌ {A = ℕ} (cond (nat_le 0 k && nat_lt k (0 + n)) 1 0) (cond (nat_lt k n) 1 0)
from_zero k n = grind (arith, nat_tests)

-- each number below their count has one request
pub times_named-made : (t k : ℕ) (made : List Request) → AreMadeBy t made → times_named (t, k) made ≡ cond (nat_lt k (length made)) 1 0
unfolding AreNumbered
times_named-made t k made all = times_named-numbered t k 0 made (λ n q is. let there = all n q is in (there.0, there.1 ∙ omega arith)) ∙ from_zero k (length made)

kept_named : (b : Bool) (name : Name) (q : Request) (rest : List Request) (n : ℕ) → (b ≡ false → is_named name q ≡ false) → n ≡ times_named name rest
    → cond (is_named name q) 1 0 + n ≡ times_named name (cond b (q ∷ rest) rest)
kept_named true name q rest n other is = ap (λ (m : ℕ). cond (is_named name q) 1 0 + m) is ∙ sym (sum_by-cons (λ (r : Request). cond (is_named name r) 1 0) q rest)
kept_named false name q rest n other is = rw (other refl) (omega arith)

-- only the requests of its tile have a name
pub times_named-requests_of : (t k : ℕ) (requests : List Request) → times_named (t, k) requests ≡ times_named (t, k) (requests_of t requests)
times_named-requests_of t k [] = refl
times_named-requests_of t k (q ∷ requests) =
    sum_by-cons (λ (r : Request). cond (is_named (t, k) r) 1 0) q requests
    ∙ kept_named (q.source == t) (t, k) q (requests_of t requests) (times_named (t, k) requests) (λ other. rw other refl) (times_named-requests_of t k requests)

pub times_named-append : (name : Name) (xs ys : List Request) → times_named name (xs ++ ys) ≡ times_named name xs + times_named name ys
times_named-append name xs ys = sum_by-append (λ (q : Request). cond (is_named name q) 1 0) xs ys

pub times_named-push : (name : Name) (xs : List Request) (q : Request) → times_named name (xs ++ q ∷ []) ≡ times_named name xs + count_if (is_named name q)
times_named-push name xs q = times_named-append name xs (q ∷ []) ∙ omega arith

-- among those that stand first in the order
pub times_named-ordered : (t k place : ℕ) (ordered unordered : List Request) → AreMadeBy t (requests_of t ordered ++ unordered)
    → times_named (t, k) (take place ordered) ≡ cond (nat_lt k (count_by_tile t (take place ordered))) 1 0
times_named-ordered t k place ordered unordered all =
    let split : requests_of t ordered ≡ requests_of t (take place ordered) ++ requests_of t (drop place ordered) =
    ap (requests_of t) (sym (take-append-drop place ordered)) ∙ requests_of-append t (take place ordered) (drop place ordered)
    in
    let front : AreMadeBy t (requests_of t (take place ordered)) =
    AreMadeBy-front t (requests_of t (take place ordered)) (requests_of t (drop place ordered)) (subst (λ (rs : List Request). AreMadeBy t rs) split (AreMadeBy-front t (requests_of t ordered) unordered all))
    in
    times_named-requests_of t k (take place ordered) ∙ times_named-made t k (requests_of t (take place ordered)) front
    ∙ rw (length-requests_of t (take place ordered)) refl

-- the request at a place of the order is numbered by how many of its source stand before
pub number_at : (t place : ℕ) (ordered unordered : List Request) (q : Request) → AreMadeBy t (requests_of t ordered ++ unordered) → slice_get ordered place ≡ Some q → q.source ≡ t
    → q.number ≡ count_by_tile t (take place ordered)
number_at t place ordered unordered q all is source =
    (all (count_by_tile t (take place ordered)) q (slice_get_grown (requests_of t ordered) unordered (count_by_tile t (take place ordered)) q (request_at t ordered place q is source))).1

-- a name is that of one request
pub is_named_same : (name : Name) (q : Request) → is_named name q ≡ true → name_of q ≡ name
is_named_same name q named =
    let parts = and_parts (q.source == name.0) (q.number == name.1) named in
    let source = eqb-true q.source name.0 parts.0 in
    let number = eqb-true q.number name.1 parts.1 in
    same_pair q.source q.number name source number
  where
    same_pair : (a b : ℕ) (name : Name) → a ≡ name.0 → b ≡ name.1 → ◌≡◌ {A = Name} (a, b) name
    same_pair a b name first second = ap (λ (x : ℕ). (x, b)) first ∙ ap (λ (y : ℕ). (name.0, y)) second
