-- A tile that waits for words stands for a get of the order, before which no other that waits asks to write.
use Rattle.std.proofs.Common.{◌≡◌, ℕ, zero, suc, ◌+◌, ◌-◌, ◌<◌, Bool, true, false, cond, refl, sym, ◌∙◌, ap, subst, arith, Some, List, [], ◌∷◌, take}
use Rattle.std.specs.Prelude.{filter, map, not, ◌||◌, slice_get}
use Rattle.std.specs.List.{list_any}
use Rattle.std.proofs.lemmas.Bool.{both_ways, false≢true}
use Rattle.std.proofs.lemmas.Option.{same_Some}
use Rattle.mesh_gen.specs.declared.request.Request.{Request}
use Rattle.chip_model.specs.declared.waiting.Waiting.{Waiting}
use Rattle.chip_model.specs.Misses.{is_getm}
use Rattle.chip_model.specs.Bookkeeping.{between, up_to_getm, waiting_for}
use Rattle.chip_laws.proofs.Options.{none_some}
use Rattle.chip_laws.proofs.OrderLists.{get_take}
use Rattle.chip_laws.proofs.OwnerFolds.{reads_only}
use Rattle.supply_laws.proofs.GetPlaces.{get_drop}

-- the tile of a request waits for what it asks
abbrev pub waiting_of : Request → Waiting
waiting_of q = record { tile = q.source; kind = q.kind }

-- ---- in a list of requests
record StandsFor (p : Request → Bool) (requests : List Request) (w : Waiting) : Type 0 where
  pub place : ℕ
  pub get : Request
  pub at : slice_get requests place ≡ Some get
  pub passes : p get ≡ true
  pub is : w ≡ waiting_of get
  pub first : (k : ℕ) (r : Request) → k < place → slice_get requests k ≡ Some r → p r ≡ true → is_getm r.kind ≡ false

-- behind a request that does not ask to write, or does not count
stands_later : (p : Request → Bool) (q : Request) (requests : List Request) (w : Waiting) → (p q ≡ true → is_getm q.kind ≡ false) → StandsFor p requests w
    → StandsFor p (q ∷ requests) w
stands_later p q requests w reads is = record {
  place = suc is.place;
  get = is.get;
  at = is.at;
  passes = is.passes;
  is = is.is;
  first = earlier;
}
  where
    earlier : (k : ℕ) (r : Request) → k < suc is.place → slice_get (q ∷ requests) k ≡ Some r → p r ≡ true → is_getm r.kind ≡ false
    earlier zero r less at passes = let same : q ≡ r = same_Some q r at in subst (λ (x : Request). is_getm x.kind ≡ false) same (reads (ap p same ∙ passes))
    earlier (suc k) r less at passes = is.first k r (omega (arith, less)) at passes

stands_first : (p : Request → Bool) (q : Request) (requests : List Request) (w : Waiting) → p q ≡ true → waiting_of q ≡ w → StandsFor p (q ∷ requests) w
stands_first p q requests w passes same = record {
  place = 0;
  get = q;
  at = refl;
  passes = passes;
  is = sym same;
  first = λ k r less at counts. absurd (omega (arith, less));
}

stands_for : (p : Request → Bool) (requests : List Request) (i : ℕ) (w : Waiting) → slice_get (waiting_for (up_to_getm (filter p requests))) i ≡ Some w
    → StandsFor p requests w
stands_for p [] i w at = none_some w at
stands_for p (q ∷ requests) i w at = by (p q) refl (is_getm q.kind) refl i at (stands_for p requests) where
  by : (counts : Bool) → p q ≡ counts → (writes : Bool) → is_getm q.kind ≡ writes → (i : ℕ)
      → slice_get (waiting_for (up_to_getm (cond {A = List Request} counts (q ∷ filter p requests) (filter p requests)))) i ≡ Some w
      → ((j : ℕ) (v : Waiting) → slice_get (waiting_for (up_to_getm (filter p requests))) j ≡ Some v → StandsFor p requests v) → StandsFor p (q ∷ requests) w
  by false fails writes is i e rest = stands_later p q requests w (λ passes. absurd (both_ways (p q) fails passes)) (rest i w e)
  by true passes writes is i e rest =
      among writes is i (sym (ap (λ (b : Bool). slice_get (waiting_for (cond {A = List Request} b (q ∷ []) (q ∷ up_to_getm (filter p requests)))) i) is)
      ∙ e) rest passes
    where
      among : (writes : Bool) → is_getm q.kind ≡ writes → (i : ℕ)
          → slice_get (waiting_for (cond {A = List Request} writes (q ∷ []) (q ∷ up_to_getm (filter p requests)))) i ≡ Some w
          → ((j : ℕ) (v : Waiting) → slice_get (waiting_for (up_to_getm (filter p requests))) j ≡ Some v → StandsFor p requests v) → p q ≡ true
          → StandsFor p (q ∷ requests) w
      among true is zero x rest passes = stands_first p q requests w passes (same_Some (waiting_of q) w x)
      among true is (suc i) x rest passes = none_some w x
      among false is zero x rest passes = stands_first p q requests w passes (same_Some (waiting_of q) w x)
      among false is (suc i) x rest passes = stands_later p q requests w (λ counts. is) (rest i w x)

-- ---- in the order
below_take : {X : Type 0} (xs : List X) (n k : ℕ) (x : X) → slice_get (take n xs) k ≡ Some x → k < n
below_take [] zero k x at = none_some x at
below_take [] (suc n) k x at = none_some x at
below_take (y ∷ xs) zero k x at = none_some x at
below_take (y ∷ xs) (suc n) zero x at = omega arith
below_take (y ∷ xs) (suc n) (suc k) x at = let less = below_take xs n k x at in omega (arith, less)

at_take : {X : Type 0} (xs : List X) (n k : ℕ) (x : X) → k < n → slice_get xs k ≡ Some x → slice_get (take n xs) k ≡ Some x
at_take [] n k x less at = none_some x at
at_take (y ∷ xs) zero k x less at = absurd (omega (arith, less))
at_take (y ∷ xs) (suc n) zero x less at = at
at_take (y ∷ xs) (suc n) (suc k) x less at = at_take xs n k x (omega (arith, less)) at

-- a request between two places
at_between : (ordered : List Request) (from below k : ℕ) (q : Request) → from < k → k < below → slice_get ordered k ≡ Some q
    → slice_get (between from below ordered) (k - (from + 1)) ≡ Some q
at_between ordered from below k q above less at =
    let sum : from + 1 + (k - (from + 1)) ≡ k = omega (arith, above) in
    get_drop (take below ordered) (from + 1) (k - (from + 1)) ∙ (ap (slice_get (take below ordered)) sum ∙ at_take ordered below k q less at)

-- the get of one that waits among those between two places
pub record WaitsAtPlace (p : Request → Bool) (ordered : List Request) (from below : ℕ) (w : Waiting) : Type 0 where
  pub place : ℕ
  pub get : Request
  pub at : slice_get ordered place ≡ Some get
  pub beyond : from < place
  pub before : place < below
  pub passes : p get ≡ true
  pub is : w ≡ waiting_of get
  pub first : (k : ℕ) (r : Request) → from < k → k < place → slice_get ordered k ≡ Some r → p r ≡ true → is_getm r.kind ≡ false

pub waits_at_place : (p : Request → Bool) (ordered : List Request) (from below i : ℕ) (w : Waiting)
    → slice_get (waiting_for (up_to_getm (filter p (between from below ordered)))) i ≡ Some w → WaitsAtPlace p ordered from below w
waits_at_place p ordered from below i w at =
    let stands = stands_for p (between from below ordered) i w at in
    let taken : slice_get (take below ordered) (from + 1 + stands.place) ≡ Some stands.get =
    sym (get_drop (take below ordered) (from + 1) stands.place) ∙ stands.at in
    record {
      place = from + 1 + stands.place;
      get = stands.get;
      at = get_take ordered below (from + 1 + stands.place) stands.get taken;
      beyond = omega arith;
      before = below_take ordered below (from + 1 + stands.place) stands.get taken;
      passes = stands.passes;
      is = stands.is;
      first = λ k r above less there passes.
          let inside = below_take ordered below (from + 1 + stands.place) stands.get taken in
          stands.first (k - (from + 1)) r (omega (arith, above, less)) (at_between ordered from below k r above (omega (arith, less, inside)) there) passes;
    }

-- where none of them asks to write, no request between the places that counts does
each_reads : (p : Request → Bool) (requests : List Request) (k : ℕ) (q : Request) → reads_only (filter p requests) ≡ true → slice_get requests k ≡ Some q
    → p q ≡ true
    → is_getm q.kind ≡ false
each_reads p [] k q reads at passes = none_some q at
each_reads p (first ∷ requests) k q reads at passes = by (p first) refl k at reads (each_reads p requests) where
  by : (counts : Bool) → p first ≡ counts → (k : ℕ) → slice_get (first ∷ requests) k ≡ Some q
      → reads_only (cond {A = List Request} counts (first ∷ filter p requests) (filter p requests)) ≡ true
      → ((j : ℕ) (r : Request) → reads_only (filter p requests) ≡ true → slice_get requests j ≡ Some r → p r ≡ true → is_getm r.kind ≡ false)
      → is_getm q.kind ≡ false
  by false fails zero x all rest = let same : first ≡ q = same_Some first q x in absurd (both_ways (p q) (ap p (sym same) ∙ fails) passes)
  by false fails (suc j) x all rest = rest j q all x passes
  by true counts j x all rest = among (is_getm first.kind) refl all j x where
    among : (writes : Bool) → is_getm first.kind ≡ writes → not (writes || list_any (λ (r : Request). is_getm r.kind) (filter p requests)) ≡ true → (j : ℕ)
        → slice_get (first ∷ requests) j ≡ Some q → is_getm q.kind ≡ false
    among true is all j y = absurd (false≢true all)
    among false is all zero y = ap (λ (r : Request). is_getm r.kind) (sym (same_Some first q y)) ∙ is
    among false is all (suc j) y = rest j q all y passes

pub reads_between : (p : Request → Bool) (ordered : List Request) (from below k : ℕ) (q : Request)
    → reads_only (filter p (between from below ordered)) ≡ true → from < k → k < below
    → slice_get ordered k ≡ Some q → p q ≡ true → is_getm q.kind ≡ false
reads_between p ordered from below k q reads above less at passes =
    each_reads p (between from below ordered) (k - (from + 1)) q reads (at_between ordered from below k q above less at) passes

-- where none counts, none does
none_passes : (p : Request → Bool) (requests : List Request) (k : ℕ) (q : Request) → filter p requests ≡ [] → slice_get requests k ≡ Some q → p q ≡ false
none_passes p [] k q none at = none_some q at
none_passes p (first ∷ requests) k q none at = by (p first) refl k at none (none_passes p requests) where
  by : (counts : Bool) → p first ≡ counts → (k : ℕ) → slice_get (first ∷ requests) k ≡ Some q
      → cond {A = List Request} counts (first ∷ filter p requests) (filter p requests) ≡ []
      → ((j : ℕ) (r : Request) → filter p requests ≡ [] → slice_get requests j ≡ Some r → p r ≡ false) → p q ≡ false
  by true counts j x empty rest = cc
  by false fails zero x empty rest = ap p (sym (same_Some first q x)) ∙ fails
  by false fails (suc j) x empty rest = rest j q empty x

pub none_between : (p : Request → Bool) (ordered : List Request) (from below k : ℕ) (q : Request) → filter p (between from below ordered) ≡ [] → from < k
    → k < below
    → slice_get ordered k ≡ Some q → p q ≡ false
none_between p ordered from below k q none above less at =
    none_passes p (between from below ordered) (k - (from + 1)) q none (at_between ordered from below k q above less at)

-- ---- what is read from lists that are joined or mapped
pub of_map : {X Y : Type 0} (f : X → Y) (xs : List X) (i : ℕ) (y : Y) → slice_get (map f xs) i ≡ Some y → (x : X) × (slice_get xs i ≡ Some x) × (f x ≡ y)
of_map f [] i y at = none_some y at
of_map f (x ∷ xs) zero y at = (x, refl, same_Some (f x) y at)
of_map f (x ∷ xs) (suc i) y at = of_map f xs i y at
