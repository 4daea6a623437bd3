-- How many requests are still to write a line back: one less where a tile delivers one, more where the order grows by some.
use Rattle.std.proofs.Common.{◌≡◌, ◌≢◌, ℕ, ◌+◌, ◌<◌, ◌≤◌, Bool, true, false, cond, List, [], ◌∷◌, ◌++◌, length, length-append, refl, sym, ◌∙◌, ap, arith, inl, inr, Option, Some, None}
use Rattle.std.specs.Prelude.{◌==◌, ◌&&◌, nat_le, filter, slice_get}
use Rattle.std.specs.List.{count_by}
use Rattle.std.proofs.lemmas.Bool.{cases_eq, le-leb, eq-eqb, ne_eqb}
use Rattle.std.proofs.lemmas.Bool.Decides.{nat_tests}
use Rattle.std.proofs.lemmas.Option.{slice_get_within}
use Rattle.mesh_gen.specs.declared.request.Request.{Request}
use Rattle.mesh_gen.specs.Ports.{count_if}
use Rattle.order_tracker.specs.Order.{upwards}
use Rattle.chip_model.specs.ChipState.{ChipState}
use Rattle.chip_model.specs.Suppliers.{delivered_at, writes_back, is_undelivered_at, is_undelivered, write_backs_to_come}
use Rattle.net_iface.proofs.Named.{slice_get-append_left}
use Rattle.chip_laws.proofs.SupplyCounts.{count_by-cons, count_by-append, count_by-same, count_by-one, upwards-append}
use Rattle.chip_laws.proofs.SupplyToCome.{Delivers, elsewhere, at_place}
use Rattle.supply_laws.proofs.OwnerGets.{back_of}
use Rattle.supply_laws.proofs.WriteBackPlaces.{writes_back_grown}

-- the tile of a request has not delivered it, by what each tile has delivered
abbrev pub waits_at : (ℕ → ℕ) → ℕ → Option Request → Bool
waits_at count place None = false
waits_at count place (Some q) = nat_le (count q.source) place

-- a request is still to write the line back
abbrev pub is_to_write_back : (ℕ → ℕ) → ℕ → List Request → ℕ → Bool
is_to_write_back count line ordered place = writes_back line ordered place && waits_at count place (slice_get ordered place)

-- how many are
abbrev pub to_write_back : (ℕ → ℕ) → ℕ → List Request → ℕ
to_write_back count line ordered = count_by (is_to_write_back count line ordered) (upwards 0 (length ordered))

-- ---- the count is over places
count_by-filter : (p w : ℕ → Bool) (xs : List ℕ) → count_by p (filter w xs) ≡ count_by (λ (k : ℕ). w k && p k) xs
count_by-filter p w [] = refl
count_by-filter p w (x ∷ xs) = by (w x) refl (count_by-filter p w xs) where
  by : (b : Bool) → w x ≡ b → count_by p (filter w xs) ≡ count_by (λ (k : ℕ). w k && p k) xs
      → count_by p (cond {A = List ℕ} b (x ∷ filter w xs) (filter w xs)) ≡ count_by (λ (k : ℕ). w k && p k) (x ∷ xs)
  by true is rest =
      let here : count_if (w x && p x) ≡ count_if (p x) = ap (λ (b : Bool). count_if (b && p x)) is in
      omega (arith, here, rest, count_by-cons p x (filter w xs), count_by-cons (λ (k : ℕ). w k && p k) x xs)
  by false is rest =
      let here : count_if (w x && p x) ≡ 0 = ap (λ (b : Bool). count_if (b && p x)) is in
      omega (arith, here, rest, count_by-cons (λ (k : ℕ). w k && p k) x xs)

pub to_come_is : (s : ChipState) (line : ℕ) → write_backs_to_come s line ≡ to_write_back (delivered_at s) line s.network.ordered
to_come_is s line =
    count_by-filter (is_undelivered s) (writes_back line s.network.ordered) (upwards 0 (length s.network.ordered))
    ∙ count_by-same (λ (k : ℕ). writes_back line s.network.ordered k && is_undelivered s k) (is_to_write_back (delivered_at s) line s.network.ordered) 0 (length s.network.ordered)
    (λ k above below. by k (slice_get s.network.ordered k))
  where
    by : (k : ℕ) (o : Option Request) → (writes_back line s.network.ordered k && is_undelivered_at s k o) ≡ (writes_back line s.network.ordered k && waits_at (delivered_at s) k o)
    by k None = refl
    by k (Some q) = refl

-- ---- nothing is delivered
pub to_write_same : (count new : ℕ → ℕ) (line : ℕ) (ordered : List Request) → ((v : ℕ) → new v ≡ count v) → to_write_back new line ordered ≡ to_write_back count line ordered
to_write_same count new line ordered same =
    count_by-same (is_to_write_back new line ordered) (is_to_write_back count line ordered) 0 (length ordered) (λ k above below. by k (slice_get ordered k))
  where
    by : (k : ℕ) (o : Option Request) → (writes_back line ordered k && waits_at new k o) ≡ (writes_back line ordered k && waits_at count k o)
    by k None = refl
    by k (Some q) = ap (λ (n : ℕ). writes_back line ordered k && nat_le n k) (same q.source)

-- ---- a tile delivers the next request
pub to_write_delivered : (count new : ℕ → ℕ) (line : ℕ) (ordered : List Request) (u : ℕ) (q : Request) → Delivers count new u → slice_get ordered (count u) ≡ Some q
    → to_write_back new line ordered + cond (q.source == u) (count_if (writes_back line ordered (count u))) 0 ≡ to_write_back count line ordered
to_write_delivered count new line ordered u q delivers next =
    let place = count u in
    let within = slice_get_within ordered place q next in
    let sum = count_by-one (is_to_write_back new line ordered) (is_to_write_back count line ordered) 0 (length ordered) place (omega arith) (omega (arith, within))
    (λ k away. by k away (slice_get ordered k)) in
    let was : count_if (is_to_write_back count line ordered place) ≡ count_if (writes_back line ordered place && nat_le (count q.source) place) =
    ap (λ o. count_if (writes_back line ordered place && waits_at count place o)) next in
    let is : count_if (is_to_write_back new line ordered place) ≡ count_if (writes_back line ordered place && nat_le (new q.source) place) =
    ap (λ o. count_if (writes_back line ordered place && waits_at new place o)) next in
    omega (arith, sum, was, is, at_place count new u q.source (writes_back line ordered place) delivers)
  where
    by : (k : ℕ) → k ≢ count u → (o : Option Request) → (writes_back line ordered k && waits_at new k o) ≡ (writes_back line ordered k && waits_at count k o)
    by k away None = refl
    by k away (Some r) = ap (λ b. writes_back line ordered k && b) (elsewhere count new u r.source k delivers away)

-- ---- the order grows
pub to_write_grown : (count : ℕ → ℕ) (line : ℕ) (ordered more : List Request) → ((v : ℕ) → count v ≤ length ordered)
    → to_write_back count line (ordered ++ more) ≡ to_write_back count line ordered + count_by (writes_back line (ordered ++ more)) (upwards (length ordered) (length more))
to_write_grown count line ordered more within =
    let p = is_to_write_back count line (ordered ++ more) in
    let n = length ordered in
    let zero_n : 0 + n ≡ n = omega arith in
    let parts : count_by p (upwards 0 (length (ordered ++ more))) ≡ count_by p (upwards 0 n) + count_by p (upwards (0 + n) (length more)) =
    ap (λ k. count_by p (upwards 0 k)) (length-append ordered more) ∙ ap (count_by p) (upwards-append 0 n (length more)) ∙ count_by-append p (upwards 0 n) (upwards (0 + n) (length more)) in
    let moved : count_by p (upwards (0 + n) (length more)) ≡ count_by p (upwards n (length more)) = ap (λ k. count_by p (upwards k (length more))) zero_n in
    let old = count_by-same p (is_to_write_back count line ordered) 0 n (λ k above below. before k (omega (arith, below))) in
    let new = count_by-same p (writes_back line (ordered ++ more)) n (length more) (λ k above below. beyond k above (writes_back line (ordered ++ more) k) refl) in
    omega (arith, parts, moved, old, new)
  where
    before : (k : ℕ) → k < length ordered → is_to_write_back count line (ordered ++ more) k ≡ is_to_write_back count line ordered k
    before k below =
        ap (λ b. b && waits_at count k (slice_get (ordered ++ more) k)) (writes_back_grown line ordered more k below)
        ∙ ap (λ o. writes_back line ordered k && waits_at count k o) (slice_get-append_left ordered more k below)

    beyond : (k : ℕ) → length ordered ≤ k → (b : Bool) → writes_back line (ordered ++ more) k ≡ b → (b && waits_at count k (slice_get (ordered ++ more) k)) ≡ b
    beyond k above false is = refl
    beyond k above true is =
        let w = back_of line k (ordered ++ more) is in
        ap (waits_at count k) w.at ∙ le-leb (count w.put.source) k (let some = within w.put.source in omega (arith, some, above))
