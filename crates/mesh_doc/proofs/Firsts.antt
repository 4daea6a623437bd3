-- Lists of faults in a row, and the first of them.
use Rattle.std.proofs.Common.{◌≡◌, ℕ, ◌+◌, ◌<◌, ◌≤◌, List, [], ◌∷◌, ◌++◌, length, take, drop, get_or, map, Some, None, refl}
use Rattle.std.specs.List.{flat_map}
use Rattle.std.proofs.lemmas.List.{drop_all, drop_more, take_more, map-append}
use Rattle.doc_text.specs.declared.fault.DocFault.{DocFault}
use Rattle.mesh_doc.specs.declared.end.DocEnd.{DocEnd}
use Rattle.mesh_doc.specs.declared.end.DocEnd.TheVariants.{Fault, NoMemory}
use Rattle.mesh_doc.specs.Reading.{first}
use Rattle.mesh_doc.specs.Seen.{IsFirst}

-- the first of the front, and that of the rest where the front is empty
pub first_front : {A : Type 0} (a b : List A) (x : A) → first a ≡ Some x → first (a ++ b) ≡ Some x
first_front [] b x is = cc
first_front (y ∷ a) b x is = is

pub first_rest : {A : Type 0} (a b : List A) (x : A) → a ≡ [] → first b ≡ Some x → first (a ++ b) ≡ Some x
first_rest a b x none is = rw none is

pub both_empty : {A : Type 0} (a b : List A) → a ≡ [] → b ≡ [] → a ++ b ≡ []
both_empty a b none nothing = rw (none, nothing) refl

pub first_none : {A : Type 0} (list : List A) → first list ≡ None → list ≡ []
first_none [] is = refl
first_none (x ∷ rest) is = cc

-- searches item by item
pub step_clear : {A B : Type 0} (f : A → List B) (xs : List A) (i : ℕ) (x : A) → i < length xs → x ≡ get_or xs i x → f x ≡ []
    → flat_map f (drop i xs) ≡ flat_map f (drop (i + 1) xs)
step_clear f xs i x within at none = rw (drop_more xs i x within, ← at, none) refl

pub step_found : {A B : Type 0} (f : A → List B) (xs : List A) (i : ℕ) (x : A) (y : B) → i < length xs → x ≡ get_or xs i x → first (f x) ≡ Some y
    → first (flat_map f (drop i xs)) ≡ Some y
step_found f xs i x y within at found = rw (drop_more xs i x within, ← at) (first_front (f x) (flat_map f (drop (i + 1) xs)) y found)

pub step_end : {A B : Type 0} (f : A → List B) (xs : List A) (i : ℕ) → length xs ≤ i → flat_map f (drop i xs) ≡ []
step_end f xs i past = rw (drop_all i xs past) refl

-- the same of what the items stand for
pub seen_clear : {A B C : Type 0} (f : B → List C) (seen : A → B) (xs : List A) (i : ℕ) (x : A) → i < length xs → x ≡ get_or xs i x → f (seen x) ≡ []
    → flat_map f (map seen (drop i xs)) ≡ flat_map f (map seen (drop (i + 1) xs))
seen_clear f seen xs i x within at none = rw (drop_more xs i x within, ← at, none) refl

pub seen_found : {A B C : Type 0} (f : B → List C) (seen : A → B) (xs : List A) (i : ℕ) (x : A) (y : C) → i < length xs → x ≡ get_or xs i x → first (f (seen x)) ≡ Some y
    → first (flat_map f (map seen (drop i xs))) ≡ Some y
seen_found f seen xs i x y within at found = rw (drop_more xs i x within, ← at) (first_front (f (seen x)) (flat_map f (map seen (drop (i + 1) xs))) y found)

pub seen_end : {A B C : Type 0} (f : B → List C) (seen : A → B) (xs : List A) (i : ℕ) → length xs ≤ i → flat_map f (map seen (drop i xs)) ≡ []
seen_end f seen xs i past = rw (drop_all i xs past) refl

-- ---- the same of searches that take memory

pub end_front : (a b : List DocFault) (end : DocEnd) → IsFirst a end → IsFirst (a ++ b) end
end_front a b (Fault fault) is = first_front a b fault is
end_front a b NoMemory is = is

pub end_rest : (a b : List DocFault) (end : DocEnd) → a ≡ [] → IsFirst b end → IsFirst (a ++ b) end
end_rest a b end none is = rw none is

pub seen_ends : {A B : Type 0} (f : B → List DocFault) (seen : A → B) (xs : List A) (i : ℕ) (x : A) (end : DocEnd) → i < length xs → x ≡ get_or xs i x → IsFirst (f (seen x)) end
    → IsFirst (flat_map f (map seen (drop i xs))) end
seen_ends f seen xs i x end within at is = rw (drop_more xs i x within, ← at) (end_front (f (seen x)) (flat_map f (map seen (drop (i + 1) xs))) end is)

-- ---- what the items so far stand for

pub seen_more : {A B C : Type 0} (f : B → C) (seen : A → B) (xs : List A) (i : ℕ) (x : A) (y : C) (found : List C) → i < length xs → x ≡ get_or xs i x → f (seen x) ≡ y
    → found ≡ map f (map seen (take i xs)) → found ++ y ∷ [] ≡ map f (map seen (take (i + 1) xs))
seen_more f seen xs i x y found within at here so_far = rw (so_far, take_more xs i x within, map-append, map-append, ← at, here) refl
