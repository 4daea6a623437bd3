-- What holds of each element of a list.
use Rattle.std.proofs.Common.{◌≡◌, ℕ, zero, suc, ◌+◌, ◌<◌, Bool, true, false, cond, refl, subst, Some, List, [], ◌∷◌, ◌++◌, map, take, drop}
use Rattle.std.specs.Prelude.{slice_get, filter}
use Rattle.std.specs.List.{AllByRecursion}
use Rattle.std.proofs.lemmas.Option.{same_Some}
use Rattle.mesh_gen.specs.declared.request.Request.{Request}
use Rattle.chip_model.specs.declared.waiting.Waiting.{Waiting}
use Rattle.chip_model.specs.Misses.{is_getm}
use Rattle.chip_model.specs.Bookkeeping.{between, up_to_getm, waiting_for}
use Rattle.chip_laws.proofs.Options.{none_some}

pub each_at : {X : Type 0} (P : X → Type 0) (xs : List X) (k : ℕ) (x : X) → AllByRecursion P xs → slice_get xs k ≡ Some x → P x
each_at P [] k x all at = none_some x at
each_at P (y ∷ xs) zero x all at = subst P (same_Some y x at) all.0
each_at P (y ∷ xs) (suc k) x all at = each_at P xs k x all.1 at

pub each_from : {X : Type 0} (P : X → Type 0) (xs : List X) → ((k : ℕ) (x : X) → slice_get xs k ≡ Some x → P x) → AllByRecursion P xs
each_from P [] all = _
each_from P (x ∷ xs) all = (all 0 x refl, each_from P xs (λ k. all (suc k)))

pub each_append : {X : Type 0} (P : X → Type 0) (xs ys : List X) → AllByRecursion P xs → AllByRecursion P ys → AllByRecursion P (xs ++ ys)
each_append P [] ys all more = more
each_append P (x ∷ xs) ys all more = (all.0, each_append P xs ys all.1 more)

pub each_map : {X Y : Type 0} (P : X → Type 0) (Q : Y → Type 0) (f : X → Y) (xs : List X) → ((x : X) → P x → Q (f x)) → AllByRecursion P xs → AllByRecursion Q (map f xs)
each_map P Q f [] same all = _
each_map P Q f (x ∷ xs) same all = (same x all.0, each_map P Q f xs same all.1)

pub each_filter : {X : Type 0} (P : X → Type 0) (p : X → Bool) (xs : List X) → AllByRecursion P xs → AllByRecursion P (filter p xs)
each_filter P p [] all = _
each_filter {X} P p (x ∷ xs) all = by (p x) (each_filter P p xs all.1) where
  by : (b : Bool) → AllByRecursion P (filter p xs) → AllByRecursion P (cond {A = List X} b (x ∷ filter p xs) (filter p xs))
  by true rest = (all.0, rest)
  by false rest = rest

pub each_take : {X : Type 0} (P : X → Type 0) (n : ℕ) (xs : List X) → AllByRecursion P xs → AllByRecursion P (take n xs)
each_take P zero [] all = _
each_take P zero (x ∷ xs) all = _
each_take P (suc n) [] all = _
each_take P (suc n) (x ∷ xs) all = (all.0, each_take P n xs all.1)

pub each_drop : {X : Type 0} (P : X → Type 0) (n : ℕ) (xs : List X) → AllByRecursion P xs → AllByRecursion P (drop n xs)
each_drop P zero [] all = _
each_drop P zero (x ∷ xs) all = all
each_drop P (suc n) [] all = _
each_drop P (suc n) (x ∷ xs) all = each_drop P n xs all.1

pub each_between : (P : Request → Type 0) (place below : ℕ) (requests : List Request) → AllByRecursion P requests → AllByRecursion P (between place below requests)
each_between P place below requests all = each_drop P (place + 1) (take below requests) (each_take P below requests all)

pub each_up_to_getm : (P : Request → Type 0) (requests : List Request) → AllByRecursion P requests → AllByRecursion P (up_to_getm requests)
each_up_to_getm P [] all = _
each_up_to_getm P (q ∷ rest) all = by (is_getm q.kind) (each_up_to_getm P rest all.1) where
  by : (b : Bool) → AllByRecursion P (up_to_getm rest) → AllByRecursion P (cond {A = List Request} b (q ∷ []) (q ∷ up_to_getm rest))
  by true after = (all.0, _)
  by false after = (all.0, after)

-- those that wait are tiles, where the requests are of tiles
pub waiting_inside : (tiles : ℕ) (requests : List Request) → AllByRecursion (λ (q : Request). q.source < tiles) requests
    → AllByRecursion (λ (w : Waiting). w.tile < tiles) (waiting_for requests)
waiting_inside tiles requests all =
    each_map (λ (q : Request). q.source < tiles) (λ (w : Waiting). w.tile < tiles) (λ (q : Request). record { tile = q.source; kind = q.kind }) requests (λ q inside. inside) all
