-- A home delivers a request: its record stays what the order says of it.
use Rattle.std.proofs.Common.{◌≡◌, ℕ, ◌+◌, ◌-◌, ◌<◌, ◌≤◌, Bool, true, false, cond, List, [], ◌∷◌, ◌++◌, length, take, append-nil, refl, sym, ◌∙◌, ap, subst, arith, Option, Some, None}
use Rattle.std.specs.Prelude.{◌||◌, not, slice_get}
use Rattle.std.proofs.lemmas.Bool.{not-false}
use Rattle.std.proofs.lemmas.List.{map-append}
use Rattle.std.proofs.lemmas.Option.{slice_get_within}
use Rattle.mesh_gen.specs.declared.request.Request.{Request}
use Rattle.chip_model.specs.declared.owner.Owner.{Owner}
use Rattle.chip_model.specs.declared.owner.Owner.TheVariants.{Memory, Tile}
use Rattle.chip_model.specs.declared.waiting.Waiting.{Waiting}
use Rattle.chip_model.specs.Misses.{is_getm}
use Rattle.chip_model.specs.Records.{LineRecord}
use Rattle.chip_model.specs.ChipState.{ChipState}
use Rattle.chip_model.specs.Ownership.{owner}
use Rattle.chip_model.specs.Bookkeeping.{between, up_to_getm, waiting_for}
use Rattle.chip_model.specs.Suppliers.{writes_back, last_written_back, next_written_back, has_reached_memory, has_come}
use Rattle.chip_laws.proofs.SupplyAccounts.{is_memory}
use Rattle.supply_laws.proofs.LastPlaces.{LastIs, last_unique, last_more_no, last_more_yes, next_unique, next_more_no, next_here}
use Rattle.supply_laws.proofs.WriteBackPlaces.{gets_for, any_writes, gets_more, owner_since, up_to_none, up_to_one, last_before, next_after}
use Rattle.supply_laws.proofs.ReachedWords.{fresh_at, waiters_since, waiters_at, LineHolds}

-- those that wait, with one get more after gets that read
up_to_last : (xs : List Request) (q : Request) → any_writes xs ≡ false → up_to_getm (xs ++ q ∷ []) ≡ xs ++ q ∷ []
up_to_last [] q none = by (is_getm q.kind) where
  by : (b : Bool) → cond {A = List Request} b (q ∷ []) (q ∷ []) ≡ q ∷ []
  by true = refl
  by false = refl
up_to_last (x ∷ xs) q none = by (is_getm x.kind) none (up_to_last xs q) where
  by : (b : Bool) → (b || any_writes xs) ≡ false → (any_writes xs ≡ false → up_to_getm (xs ++ q ∷ []) ≡ xs ++ q ∷ [])
      → cond {A = List Request} b (x ∷ []) (x ∷ up_to_getm (xs ++ q ∷ [])) ≡ x ∷ (xs ++ q ∷ [])
  by true wrong rest = cc
  by false fine rest = ap (λ (ys : List Request). x ∷ ys) (rest fine)

-- since the last one before, the memory owns the line where no get is to write
pub since_last : (line n place : ℕ) (ordered : List Request) → n ≤ length ordered → last_written_back line (take n ordered) ≡ Some place
    → is_memory (owner line (take n ordered)) ≡ not (any_writes (gets_for line (between place n ordered)))
since_last line n place ordered within is = by (subst (LastIs (writes_back line ordered) 0 n) is (last_before line n ordered within)) where
  by : LastIs (writes_back line ordered) 0 n (Some place) → is_memory (owner line (take n ordered)) ≡ not (any_writes (gets_for line (between place n ordered)))
  by last =
      let gap : ℕ = n - (place + 1) in
      let sum : place + 1 + gap ≡ n = omega (arith, last.below) in
      subst (λ (m : ℕ). is_memory (owner line (take m ordered)) ≡ not (any_writes (gets_for line (between place m ordered)))) sum
      (owner_since line place gap ordered last.passes (omega (arith, sum, within)) (λ k above below. last.after k above (omega (arith, sum, below))))

pub last_below : (line n place : ℕ) (ordered : List Request) → n ≤ length ordered → last_written_back line (take n ordered) ≡ Some place → place < n
last_below line n place ordered within is = by (subst (LastIs (writes_back line ordered) 0 n) is (last_before line n ordered within)) where
  by : LastIs (writes_back line ordered) 0 n (Some place) → place < n
  by last = omega (arith, last.below)

module _ (s : ChipState) (line n : ℕ) (q : Request) (r : LineRecord) (at : slice_get s.network.ordered n ≡ Some q) where
  abbrev ordered : List Request
  ordered = s.network.ordered

  abbrev prefix : Option ℕ
  prefix = last_written_back line (take n ordered)

  within : n < length ordered
  within = slice_get_within ordered n q at

  -- ---- the last one before, and the next one
  pub last_passed : writes_back line ordered n ≡ false → last_written_back line (take (n + 1) ordered) ≡ prefix
  last_passed none =
      last_unique (writes_back line ordered) 0 (n + 1) (last_written_back line (take (n + 1) ordered)) prefix (last_before line (n + 1) ordered (omega (arith, within)))
      (last_more_no (writes_back line ordered) n prefix none (last_before line n ordered (omega (arith, within))))

  pub last_here : writes_back line ordered n ≡ true → last_written_back line (take (n + 1) ordered) ≡ Some n
  last_here is =
      last_unique (writes_back line ordered) 0 (n + 1) (last_written_back line (take (n + 1) ordered)) (Some n) (last_before line (n + 1) ordered (omega (arith, within)))
      (last_more_yes (writes_back line ordered) n is)

  pub next_passed : writes_back line ordered n ≡ false → next_written_back s line (n + 1) ≡ next_written_back s line n
  next_passed none =
      next_unique (writes_back line ordered) (length ordered) (n + 1) (next_written_back s line (n + 1)) (next_written_back s line n) (next_after line (n + 1) ordered)
      (next_more_no (writes_back line ordered) (length ordered) n (next_written_back s line n) none (next_after line n ordered))

  pub next_is_here : writes_back line ordered n ≡ true → next_written_back s line n ≡ Some n
  next_is_here is =
      next_unique (writes_back line ordered) (length ordered) n (next_written_back s line n) (Some n) (next_after line n ordered)
      (next_here (writes_back line ordered) (length ordered) n within is)

  pub next_none : ((k : ℕ) → n < k → k < length ordered → writes_back line ordered k ≡ false) → has_come s line false (next_written_back s line (n + 1)) ≡ false
  next_none none =
      ap (has_come s line false)
      (next_unique (writes_back line ordered) (length ordered) (n + 1) (next_written_back s line (n + 1)) None (next_after line (n + 1) ordered) (λ k above below. none k (omega (arith, above)) below))

  pub fresh_passed : (o : Owner) → writes_back line ordered n ≡ false → fresh_at s line (n + 1) o ≡ fresh_at s line n o
  fresh_passed Memory none = ap (has_come s line true) (last_passed none)
  fresh_passed (Tile t) none = ap (has_come s line false) (next_passed none)

  -- ---- who waits
  pub waits_passed : writes_back line ordered n ≡ false → waiters_at s line (n + 1) ≡ waiters_since s line (n + 1) prefix
  waits_passed none = ap (waiters_since s line (n + 1)) (last_passed none)

  place_below : (place : ℕ) → prefix ≡ Some place → place < n
  place_below place is = last_below line n place ordered (omega (arith, within)) is

  -- a request that is no get for the line
  since_passed : (o : Option ℕ) → prefix ≡ o → gets_for line (q ∷ []) ≡ [] → waiters_since s line (n + 1) o ≡ waiters_since s line n o
  since_passed None is none = refl
  since_passed (Some place) is none =
      ap (λ (rs : List Request). cond {A = List Waiting} (has_reached_memory s line place) [] (waiting_for (up_to_getm rs)))
      (gets_more line place n ordered q (place_below place is) at
      ∙ ap (λ (rs : List Request). gets_for line (between place n ordered) ++ rs) none
      ∙ append-nil (gets_for line (between place n ordered)))

  pub line_passed : writes_back line ordered n ≡ false → gets_for line (q ∷ []) ≡ [] → LineHolds s line n r → LineHolds s line (n + 1) r
  line_passed none gets is = record {
    fresh = is.fresh ∙ sym (fresh_passed r.owner none);
    waiters = is.waiters ∙ sym (ap (λ (list : List Waiting). cond r.fresh [] list) (waits_passed none ∙ since_passed prefix refl gets));
  }

  -- nobody waits where the words have come
  pub none_since : (m : ℕ) (o : Option ℕ) → has_come s line true o ≡ true → waiters_since s line m o ≡ []
  none_since m None come = refl
  none_since m (Some place) come = ap (λ (b : Bool). cond {A = List Waiting} b [] (waiting_for (up_to_getm (gets_for line (between place m ordered))))) come

  -- a get after one that is to write waits elsewhere
  pub get_elsewhere : (o : Option ℕ) → prefix ≡ o → is_memory (owner line (take n ordered)) ≡ false → waiters_since s line (n + 1) o ≡ waiters_since s line n o
  get_elsewhere None is owned = refl
  get_elsewhere (Some place) is owned =
      let some : any_writes (gets_for line (between place n ordered)) ≡ true =
      not-false (any_writes (gets_for line (between place n ordered))) (sym (since_last line n place ordered (omega (arith, within)) is) ∙ owned) in
      ap (λ (rs : List Request). cond {A = List Waiting} (has_reached_memory s line place) [] (waiting_for rs))
      (ap up_to_getm (gets_more line place n ordered q (place_below place is) at) ∙ up_to_one (gets_for line (between place n ordered)) (gets_for line (q ∷ [])) some)

  -- a get that reaches memory before the words that are written back waits for them
  pub get_waits_here : (place : ℕ) → prefix ≡ Some place → is_memory (owner line (take n ordered)) ≡ true → has_reached_memory s line place ≡ false → gets_for line (q ∷ []) ≡ q ∷ []
      → waiters_since s line (n + 1) (Some place) ≡ waiters_since s line n (Some place) ++ record { tile = q.source; kind = q.kind } ∷ []
  get_waits_here place is owned waits get =
      let xs = gets_for line (between place n ordered) in
      let none : any_writes xs ≡ false = none_of (any_writes xs) (sym (since_last line n place ordered (omega (arith, within)) is) ∙ owned) in
      let grown : gets_for line (between place (n + 1) ordered) ≡ xs ++ q ∷ [] = gets_more line place n ordered q (place_below place is) at ∙ ap (λ (rs : List Request). xs ++ rs) get in
      ap (λ (b : Bool). cond {A = List Waiting} b [] (waiting_for (up_to_getm (gets_for line (between place (n + 1) ordered))))) waits
      ∙ ap (λ (rs : List Request). waiting_for (up_to_getm rs)) grown
      ∙ ap waiting_for (up_to_last xs q none)
      ∙ map-append (λ (x : Request). record { tile = x.source; kind = x.kind }) xs (q ∷ [])
      ∙ ap (λ (list : List Waiting). list ++ record { tile = q.source; kind = q.kind } ∷ [])
      (sym (ap (λ (b : Bool). cond {A = List Waiting} b [] (waiting_for (up_to_getm xs))) waits ∙ ap waiting_for (up_to_none xs none)))
    where
      none_of : (b : Bool) → not b ≡ true → b ≡ false
      none_of false is = refl
      none_of true is = cc
