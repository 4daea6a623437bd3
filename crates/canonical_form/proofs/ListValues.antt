-- What the numbers and the lists of the canonical table say.
use Rattle.std.proofs.Common.{◌≡◌, ℕ, zero, suc, ◌-◌, ◌*◌, ◌<◌, ◌≤◌, pos, le-leb, List, [], ◌∷◌, length, Option, Some, refl, ap, ◌∙◌, arith}
use Rattle.std.specs.Prelude.{replicate}
use Rattle.std.specs.List.{AllByRecursion}
use Rattle.std.proofs.lemmas.List.{length-append, length-replicate}
use Rattle.mesh_gen.specs.Limits.{IsFrom, AreTiles}
use Rattle.toml.specs.Data.{Data, Items, array}
use Rattle.doc_text.specs.Limits.{ArePosts}
use Rattle.doc_text.specs.Canonical.{shown_with, shown_words}
use Rattle.doc_text.proofs.ShownWords.{shown_words-padded}
use Rattle.mesh_doc.specs.Tables.{listed}
use Rattle.mesh_doc.specs.Values.{number_in, each, items_in, list_in, tile, tiles, window, windows, words}
use Rattle.mesh_doc.proofs.Numbers.{number_in-integer, within}
use Rattle.canonical_form.specs.CanonicalTable.{number, numbers, lists}
use Rattle.canonical_form.proofs.DistinctNumbers.{none_repeated, few_distinct}

pub number_in-number : (least most n : ℕ) → IsFrom least most n → number_in least most (number n) ≡ Some n
number_in-number least most n is = number_in-integer least most (number n) (pos n) refl ∙ within least most n (pos n) refl is.low is.high

-- ---- lists of values

length-numbers : (ns : List ℕ) → length (listed (numbers ns)) ≡ length ns
length-numbers [] = refl
length-numbers (n ∷ ns) = omega (arith, length-numbers ns)

length-lists : (posts : List (List ℕ)) → length (listed (lists posts)) ≡ length posts
length-lists [] = refl
length-lists (window ∷ windows) = omega (arith, length-lists windows)

each-numbers : (says : Data → Option ℕ) (ns : List ℕ) → AllByRecursion (λ n. says (number n) ≡ Some n) ns → each says (listed (numbers ns)) ≡ Some ns
unfolding each
each-numbers says [] said = refl
each-numbers says (n ∷ ns) said = rw (said.0, each-numbers says ns said.1) refl

each-lists : (says : Data → Option (List ℕ)) (posts : List (List ℕ)) → AllByRecursion (λ ns. says (array (numbers ns)) ≡ Some ns) posts → each says (listed (lists posts)) ≡ Some posts
unfolding each
each-lists says [] said = refl
each-lists says (ns ∷ posts) said = rw (said.0, each-lists says posts said.1) refl

list_in-each : {A : Type 0} (least most : ℕ) (says : Data → Option A) (list : Items) (xs : List A) → least ≤ length (listed list) → length (listed list) ≤ most
    → each says (listed list) ≡ Some xs → list_in least most says (array list) ≡ Some xs
unfolding list_in items_in
list_in-each least most says list xs low high said = rw (le-leb least (length (listed list)) low, le-leb (length (listed list)) most high) said

pub all_of : {A : Type 0} (P Q : A → Type 0) → ((x : A) → P x → Q x) → (xs : List A) → AllByRecursion P xs → AllByRecursion Q xs
all_of P Q weaker [] all = tt
all_of P Q weaker (x ∷ xs) all = (weaker x all.0, all_of P Q weaker xs all.1)

-- ---- tiles

pub tile-number : (count t : ℕ) → t < count → tile count (number t) ≡ Some t
tile-number count t inside = number_in-number 0 (count - 1) t (record { low = omega arith; high = omega arith })

pub tiles-numbers : (count : ℕ) (ns : List ℕ) → AreTiles count ns → tiles count (array (numbers ns)) ≡ Some ns
tiles-numbers count ns are =
    let few : length ns ≤ count = few_distinct ns count are.distinct are.inside in
    list_in-each 1 count (tile count) (numbers ns) ns (omega (arith, length-numbers ns, are.some)) (omega (arith, length-numbers ns, few))
    (each-numbers (tile count) ns (all_of (λ t. t < count) (λ t. tile count (number t) ≡ Some t) (tile-number count) ns are.inside))

window-numbers : (count : ℕ) (ns : List ℕ) → AreTiles count ns → window count (array (numbers ns)) ≡ Some ns
unfolding window
window-numbers count ns are = rw (tiles-numbers count ns are, none_repeated ns are.distinct) refl

pub windows-lists : (count : ℕ) (posts : List (List ℕ)) → ArePosts count posts → windows count (array (lists posts)) ≡ Some posts
windows-lists count posts are =
    list_in-each 0 4096 (window count) (lists posts) posts (omega arith) (omega (arith, length-lists posts, are.few))
    (each-lists (window count) posts (all_of (AreTiles count) (λ ns. window count (array (numbers ns)) ≡ Some ns) (window-numbers count) posts are.each))

-- ---- words of memory

pub words-numbers : (lines : ℕ) (ns : List ℕ) → length ns ≤ 4 * lines → AllByRecursion (IsFrom 0 4294967295) ns → words lines (array (numbers ns)) ≡ Some ns
words-numbers lines ns few all =
    list_in-each 0 (4 * lines) (number_in 0 4294967295) (numbers ns) ns (omega arith) (omega (arith, length-numbers ns, few))
    (each-numbers (number_in 0 4294967295) ns (all_of (IsFrom 0 4294967295) (λ n. number_in 0 4294967295 (number n) ≡ Some n) (number_in-number 0 4294967295) ns all))

all_shown_with : (P : ℕ → Type 0) (word : ℕ) (shown : List ℕ) → P word → AllByRecursion P shown → AllByRecursion P (shown_with word shown)
all_shown_with P zero [] here more = tt
all_shown_with P zero (next ∷ shown) here more = (here, more)
all_shown_with P (suc word) shown here more = (here, more)

pub all_shown : (P : ℕ → Type 0) (memory : List ℕ) → AllByRecursion P memory → AllByRecursion P (shown_words memory)
all_shown P [] all = tt
all_shown P (word ∷ rest) all = all_shown_with P word (shown_words rest) all.0 (all_shown P rest all.1)

pub few_shown : (memory : List ℕ) → length (shown_words memory) ≤ length memory
few_shown memory =
    omega (
      arith,
      ap length (shown_words-padded memory),
      length-append (shown_words memory) (replicate (length memory - length (shown_words memory)) 0),
      length-replicate {A = ℕ} (length memory - length (shown_words memory)) 0,
    )
