-- Lists of values, read item by item.
use Rattle.std.proofs.Common.{◌≡◌, ℕ, ◌+◌, ◌<◌, ◌≤◌, nat_le, Bool, true, false, List, [], ◌∷◌, ◌++◌, length, drop, get_or, map, Option, Some, None, option_map, option_and_then, refl, ap, append_assoc, append-nil, arith}
use Rattle.std.specs.List.{AllByRecursion, list_all}
use Rattle.std.proofs.lemmas.List.{drop_all}
use Rattle.std.proofs.lemmas.Bool.{and_parts, leb-true}
use Rattle.std.proofs.lemmas.Option.{same_Some}
use Rattle.toml.specs.Data.{Data, as_array}
use Rattle.toml.specs.View.{view, items_view}
use Rattle.toml.specs.declared.value.Value.{Value}
use Rattle.toml.proofs.Views.{items_view-drop}
use Rattle.mesh_gen.specs.Partial.{when}
use Rattle.mesh_doc.specs.Tables.{listed}
use Rattle.mesh_doc.specs.Values.{is_count, each, items_in, list_in}

pub length-listed : (values : List Value) → length (listed (items_view values)) ≡ length values
length-listed [] = refl
length-listed (value ∷ values) = omega (arith, length-listed values)

pub listed-view : (values : List Value) → listed (items_view values) ≡ map view values
listed-view [] = refl
listed-view (value ∷ values) = ap (λ rest. view value ∷ rest) (listed-view values)

-- one item, and those after it
pub listed-drop : (values : List Value) (i : ℕ) (value : Value) → i < length values → value ≡ get_or values i value
    → listed (items_view (drop i values)) ≡ view value ∷ listed (items_view (drop (i + 1) values))
listed-drop values i value within at = rw (items_view-drop values i value within, ← at) refl

pub listed-end : (values : List Value) (i : ℕ) → length values ≤ i → listed (items_view (drop i values)) ≡ []
listed-end values i past = rw (drop_all i values past) refl

-- a test of all
pub all_more : (test : Data → Bool) (values : List Value) (i : ℕ) (value : Value) → i < length values → value ≡ get_or values i value → test (view value) ≡ true
    → list_all test (listed (items_view (drop i values))) ≡ list_all test (listed (items_view (drop (i + 1) values)))
all_more test values i value within at passes = rw (listed-drop values i value within at, passes) refl

pub all_fails : (test : Data → Bool) (values : List Value) (i : ℕ) (value : Value) → i < length values → value ≡ get_or values i value → test (view value) ≡ false
    → list_all test (listed (items_view (drop i values))) ≡ false
all_fails test values i value within at fails = rw (listed-drop values i value within at, fails) refl

pub all_end : (test : Data → Bool) (values : List Value) (i : ℕ) → length values ≤ i → list_all test (listed (items_view (drop i values))) ≡ true
all_end test values i past = rw (listed-end values i past) refl

-- ---- what each item says

-- what was found, and what the rest says
abbrev pub after : {A : Type 0} → List A → Option (List A) → Option (List A)
after found rest = option_map (λ others. found ++ others) rest

pub after-nothing : {A : Type 0} (rest : Option (List A)) → after [] rest ≡ rest
after-nothing None = refl
after-nothing (Some others) = refl

joined : {A : Type 0} (found : List A) (first : A) (rest : Option (List A)) → after found (option_map (λ others. first ∷ others) rest) ≡ after (found ++ first ∷ []) rest
joined found first None = refl
joined found first (Some others) = rw append_assoc

pub each_more : {A : Type 0} (says : Data → Option A) (values : List Value) (i : ℕ) (value : Value) (found : List A) (first : A)
    → i < length values → value ≡ get_or values i value → says (view value) ≡ Some first
    → after found (each says (listed (items_view (drop i values)))) ≡ after (found ++ first ∷ []) (each says (listed (items_view (drop (i + 1) values))))
unfolding each
each_more says values i value found first within at is = rw (listed-drop values i value within at, is) (joined found first _)

pub each_refused : {A : Type 0} (says : Data → Option A) (values : List Value) (i : ℕ) (value : Value) (found : List A)
    → i < length values → value ≡ get_or values i value → says (view value) ≡ None
    → after found (each says (listed (items_view (drop i values)))) ≡ None
unfolding each
each_refused says values i value found within at is = rw (listed-drop values i value within at, is) refl

pub each_end : {A : Type 0} (says : Data → Option A) (values : List Value) (i : ℕ) (found : List A)
    → length values ≤ i → after found (each says (listed (items_view (drop i values)))) ≡ Some found
unfolding each
each_end says values i found past = rw (listed-end values i past, append-nil)

-- ---- a list with bounds on its length

pub items_in-other : (least most : ℕ) (value : Data) → None ≡ as_array value → items_in least most value ≡ None
unfolding items_in
items_in-other least most value is = rw (← is) refl

pub items_in-count : (least most : ℕ) (value : Data) (values : List Value) (passes : Bool) → Some (items_view values) ≡ as_array value → is_count least most (length values) ≡ passes
    → items_in least most value ≡ when passes (Some (listed (items_view values)))
unfolding items_in
items_in-count least most value values passes is count = rw (← is, length-listed values, count) refl

pub list_in-none : {A : Type 0} (least most : ℕ) (says : Data → Option A) (value : Data) → None ≡ items_in least most value → None ≡ list_in least most says value
unfolding list_in
list_in-none least most says value is = rw (← is) refl

pub list_in-some : {A : Type 0} (least most : ℕ) (says : Data → Option A) (value : Data) (values : List Data) → Some values ≡ items_in least most value → list_in least most says value ≡ each says values
unfolding list_in
list_in-some least most says value values is = rw (← is) refl

-- ---- what is true of all that items say

one_more : {A : Type 0} (P : A → Type 0) (first : Option A) (others : Option (List A)) (count : ℕ) (list : List A) →
    ((found : A) → first ≡ Some found → P found) → ((found : List A) → others ≡ Some found → AllByRecursion P found × (length found ≡ count)) →
    option_and_then (λ x. option_map (λ xs. x ∷ xs) others) first ≡ Some list → AllByRecursion P list × (length list ≡ 1 + count)
one_more P None others count list here more is = cc
one_more P (Some x) None count list here more is = cc
one_more P (Some x) (Some xs) count list here more is =
    let (all, long) = more xs refl in
    rw (← same_Some _ _ is) ((here x refl, all), omega (arith, long))

each-all : {A : Type 0} (P : A → Type 0) (says : Data → Option A) → ((value : Data) (found : A) → says value ≡ Some found → P found)
    → (values : List Data) (list : List A) → each says values ≡ Some list → AllByRecursion P list × (length list ≡ length values)
unfolding each
each-all P says holds [] list is = rw (← same_Some _ _ is) (tt, refl)
each-all P says holds (value ∷ rest) list is =
    let (all, long) = one_more P (says value) (each says rest) (length rest) list (holds value) (each-all P says holds rest) is in
    (all, omega (arith, long))

pub bind_some : {A B : Type 0} (f : A → Option B) (o : Option A) (y : B) → option_and_then f o ≡ Some y → (x : A) × (o ≡ Some x) × (f x ≡ Some y)
bind_some f None y is = cc
bind_some f (Some x) y is = (x, refl, is)

pub from_only_if : {A : Type 0} (passes : Bool) (found : Option A) (x : A) → when passes found ≡ Some x → (passes ≡ true) × (found ≡ Some x)
from_only_if true found x is = (refl, is)
from_only_if false found x is = cc

counted : (least most : ℕ) (value : Data) (values : List Data) → items_in least most value ≡ Some values → (least ≤ length values) × (length values ≤ most)
unfolding items_in
counted least most value values is =
    let (items, _, found) = bind_some _ (as_array value) values is in
    let (count, same) = from_only_if (is_count least most (length (listed items))) (Some (listed items)) values found in
    let (low, high) = and_parts (nat_le least (length (listed items))) (nat_le (length (listed items)) most) count in
    rw (← same_Some _ _ same) (leb-true least (length (listed items)) low, leb-true (length (listed items)) most high)

-- the items of a list within bounds, and how many there are
pub list_in-all : {A : Type 0} (P : A → Type 0) (least most : ℕ) (says : Data → Option A) → ((value : Data) (found : A) → says value ≡ Some found → P found)
    → (value : Data) (list : List A) → list_in least most says value ≡ Some list → AllByRecursion P list × (least ≤ length list) × (length list ≤ most)
unfolding list_in
list_in-all P least most says holds value list is =
    let (values, found, said) = bind_some (each says) (items_in least most value) list is in
    let (low, high) = counted least most value values found in
    let (all, long) = each-all P says holds values list said in
    (all, omega (arith, long, low), omega (arith, long, high))
