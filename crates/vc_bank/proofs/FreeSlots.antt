-- The first free slot of a port.
use Rattle.std.proofs.Common.{◌≡◌, ℕ, zero, suc, ◌<◌, Bool, true, false, refl, sym, ◌∙◌, ap, arith, Option, Some, None, List, [], ◌∷◌, length, take, get_or}
use Rattle.std.specs.Prelude.{slice_get, is_none, IfSome, IfNone, if◌then◌else◌}
use Rattle.std.specs.List.{position, position_or_len}
use Rattle.std.proofs.lemmas.Bool.{lt-ltb, le-ltb, ltb-false}
use Rattle.std.proofs.lemmas.List.{length-take, get_or-take}
use Rattle.std.proofs.lemmas.Option.{slice_get_within}
use Rattle.std.proofs.lemmas.List.Sums.{position_or_len_is, fails_before_first}
use Rattle.std.proofs.lemmas.List.Quantifiers.{position-Some}
use Rattle.vc_bank.specs.Channels.{Channels, slots_at, IsFree, normal_slots, lowest_free, IsLowestFree, is_there_and_free}

-- ---- a slot that is free, in the words of lists
within : {P : Type 0} (slots : List (Option P)) (k : ℕ) → is_there_and_free (slice_get slots k) ≡ true → k < length slots
within [] k free = cc
within (packet ∷ slots) zero free = omega arith
within (packet ∷ slots) (suc k) free = let below = within slots k free in omega arith

none_at : {P : Type 0} (slots : List (Option P)) (k : ℕ) → k < length slots → is_none (get_or slots k None) ≡ is_there_and_free (slice_get slots k)
none_at [] k below = absurd (omega arith)
none_at (packet ∷ slots) zero below = refl
none_at (packet ∷ slots) (suc k) below = none_at slots k (omega arith)

free_at : {P : Type 0} (slots : List (Option P)) (k : ℕ) → is_there_and_free (slice_get slots k) ≡ true → slice_get slots k ≡ Some None
free_at [] k free = cc
free_at (None ∷ slots) zero free = refl
free_at (Some packet ∷ slots) zero free = cc
free_at (packet ∷ slots) (suc k) free = free_at slots k free

-- ---- the first of so many slots
none_in_front : {P : Type 0} (slots : List (Option P)) (count k : ℕ) → k < length (take count slots) → is_none (get_or (take count slots) k None) ≡ is_there_and_free (slice_get slots k)
none_in_front slots count k below =
    let length_is = length-take count slots in
    let in_front : k < count = omega arith in
    let in_slots : k < length slots = omega arith in
    rw get_or-take (none_at slots k in_slots)

pub position-first : {P : Type 0} (slots : List (Option P)) (count k : ℕ) → k < count → ((j : ℕ) → j < k → is_there_and_free (slice_get slots j) ≡ false) → is_there_and_free (slice_get slots k) ≡ true
    → position is_none (take count slots) ≡ Some k
position-first slots count k below before free =
    let length_is = length-take count slots in
    let in_slots = within slots k free in
    let in_front : k < length (take count slots) = omega arith in
    let is : position_or_len is_none (take count slots) ≡ k = position_or_len_is is_none (take count slots) k None (omega arith)
    (λ j before_k. none_in_front slots count j (omega arith) ∙ before j before_k)
    (λ inside. none_in_front slots count k inside ∙ free) in
    rw (is, lt-ltb _ _ in_front)

pub position-none : {P : Type 0} (slots : List (Option P)) (count : ℕ) → ((j : ℕ) → j < count → is_there_and_free (slice_get slots j) ≡ false) → position is_none (take count slots) ≡ None
position-none slots count before =
    let length_is = length-take count slots in
    let is : position_or_len is_none (take count slots) ≡ length (take count slots) = position_or_len_is is_none (take count slots) (length (take count slots)) None (omega arith)
    (λ j below. none_in_front slots count j below ∙ before j (omega arith))
    (λ inside. absurd (omega arith)) in
    rw (is, le-ltb (length (take count slots)) (length (take count slots)) (omega arith))

-- ---- the lowest free slot is least
not_true : false ≡ true → ⊥
not_true same = cc

pub IsLowestFree-lowest_free : {P : Type 0} (bank : Channels P) (port slot : ℕ) → lowest_free bank port ≡ Some slot → IsLowestFree bank port slot
IsLowestFree-lowest_free bank port slot is =
    let slots = slots_at bank port in
    let first = position-Some is_none (take (normal_slots bank) slots) slot None is in
    let length_is = length-take (normal_slots bank) slots in
    record {
      normal = omega (arith, first.0);
      free = free_at slots slot (sym (none_in_front slots (normal_slots bank) slot first.0) ∙ first.1);
      least = λ lower below free. let last = first.0 in not_true (sym (first.2 lower below) ∙ none_in_front slots (normal_slots bank) lower (omega arith) ∙ ap is_there_and_free free);
    }

none_of : (found : Bool) (k : ℕ) → (if found then Some k else None) ≡ None → found ≡ false
none_of true k is = cc
none_of false k is = refl

pub none-lowest_free : {P : Type 0} (bank : Channels P) (port : ℕ) → lowest_free bank port ≡ None → (slot : ℕ) → slot < normal_slots bank → ¬ IsFree bank port slot
none-lowest_free bank port is slot below free =
    let slots = slots_at bank port in
    let count = normal_slots bank in
    let length_is = length-take count slots in
    let past = ltb-false _ _ (none_of _ _ is) in
    let in_slots = slice_get_within slots slot None free in
    not_true (sym (fails_before_first is_none (take count slots) slot None (omega arith)) ∙ none_in_front slots count slot (omega arith) ∙ ap is_there_and_free free)

-- the same of what a call found
pub least_found : {P : Type 0} (bank : Channels P) (port : ℕ) (found : Option ℕ) → found ≡ lowest_free bank port → IfSome found (λ slot. IsLowestFree bank port slot)
least_found bank port None is = tt
least_found bank port (Some slot) is = IsLowestFree-lowest_free bank port slot (sym is)

pub none_found : {P : Type 0} (bank : Channels P) (port : ℕ) (found : Option ℕ) → found ≡ lowest_free bank port → IfNone found ((slot : ℕ) → slot < normal_slots bank → ¬ IsFree bank port slot)
none_found bank port None is = none-lowest_free bank port (sym is)
none_found bank port (Some slot) is = tt
