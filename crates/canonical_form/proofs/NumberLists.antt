-- Lists of numbers, and lists of lists.
use Rattle.std.proofs.Common.{◌≡◌, ℕ, suc, ◌-◌, ◌<◌, true, false, ◌==◌, List, [], ◌∷◌, ◌++◌, length, map, Some, refl, ap, ◌∙◌, arith, append_assoc, length-append}
use Rattle.std.proofs.lemmas.Bool.Decides.{nat_tests}
use Rattle.std.proofs.lemmas.List.Elements.{All-head, All-tail}
use Rattle.std.proofs.lemmas.List.Folds.{list_all-append}
use Rattle.std.specs.Char.{is_ascii}
use Rattle.std.specs.Fmt.{decimal}
use Rattle.std.specs.List.{All, list_all, join_with_byte}
use Rattle.toml_parser.specs.Lexical.{first, skip_blank}
use Rattle.toml.specs.Data.{Data, array, Items, no_items, item, push_item}
use Rattle.toml.specs.Parse.{val, items, after_element}
use Rattle.toml.proofs.Turns.{val_array, items_end, items_more}
use Rattle.toml.proofs.Blanks.{skip_none, skip_start}
use Rattle.toml.proofs.ReadValues.{EndsValue, item_join, item_join-none, item_join-push}
use Rattle.doc_text.specs.Canonical.{list_text, numbers_text}
use Rattle.canonical_form.specs.CanonicalTable.{numbers, lists}
use Rattle.canonical_form.specs.Writable.{IsWritableNumber}
use Rattle.canonical_form.proofs.ValueTexts.{IsValue}
use Rattle.canonical_form.proofs.Decimals.{IsValue-number}

-- the texts are read as the items
abbrev pub AreValues : ℕ → Items → List (List ℕ) → Type 0
AreValues depth no_items [] = Unit {0}
AreValues depth no_items (text ∷ texts) = ⊥
AreValues depth (item d ds) [] = ⊥
AreValues depth (item d ds) (text ∷ texts) = IsValue depth d text × AreValues depth ds texts

after_comma : (text : List ℕ) → after_element 93 (44 ∷ text) ≡ Some text
unfolding after_element
after_comma text = rw (skip_none (44 ∷ text) 44 refl refl)

after_last : (text : List ℕ) → after_element 93 (93 ∷ text) ≡ Some (93 ∷ text)
unfolding after_element
after_last text = rw (skip_none (93 ∷ text) 93 refl refl)

-- the reader takes one item, and goes on at what the byte after it leaves
one_item : (depth m : ℕ) (found : Items) (d : Data) (text after next : List ℕ) → IsValue depth d text → 0 < m → EndsValue after → after_element 93 after ≡ Some next
    → items (val depth) m found (text ++ after) ≡ items (val depth) (m - 1) (push_item found d) next
one_item depth m found d text after next is some ends element =
    let start = is.starts after in
    let front : skip_blank (text ++ after) ≡ text ++ after = skip_start (text ++ after) start in
    let other : (first (skip_blank (text ++ after)) == 93) ≡ false = rw front (grind (arith, nat_tests)) in
    items_more (val depth) m found (text ++ after) d after next some other (rw front (is.reads after ends)) element

close_list : (depth m : ℕ) (found : Items) (rest : List ℕ) → 0 < m → items (val depth) m found (93 ∷ rest) ≡ Some (found, rest)
close_list depth m found rest some =
    let front : skip_blank (93 ∷ rest) ≡ 93 ∷ rest = skip_none (93 ∷ rest) 93 refl refl in
    items_end (val depth) m found (93 ∷ rest) some (rw front refl) ∙ rw front

-- items with commas between them, up to the closing bracket
read_list : (depth : ℕ) (ds : Items) (texts : List (List ℕ)) → AreValues depth ds texts → (rest : List ℕ) (found : Items) (m : ℕ) → length (join_with_byte 44 texts ++ 93 ∷ rest) < m
    → items (val depth) m found (join_with_byte 44 texts ++ 93 ∷ rest) ≡ Some (item_join found ds, rest)
read_list depth no_items [] are rest found m room = close_list depth m found rest (omega arith) ∙ rw (item_join-none found)
read_list depth no_items (text ∷ texts) are rest found m room = absurd are
read_list depth (item d ds) [] are rest found m room = absurd are
read_list depth (item d no_items) (text ∷ []) are rest found m room =
    let sizes = length-append text (93 ∷ rest) in
    one_item depth m found d text (93 ∷ rest) (93 ∷ rest) are.0 (omega arith) ((refl, refl), (refl, refl)) (after_last rest)
    ∙ close_list depth (m - 1) (push_item found d) rest (omega (arith, sizes))
    ∙ rw (← item_join-none (push_item found d), item_join-push found d no_items)
read_list depth (item d (item e ds)) (text ∷ []) are rest found m room = absurd are.1
read_list depth (item d no_items) (text ∷ next ∷ texts) are rest found m room = absurd are.1
read_list depth (item d (item e ds)) (text ∷ next ∷ texts) are rest found m room =
    let more = join_with_byte 44 (next ∷ texts) ++ 93 ∷ rest in
    let split : join_with_byte 44 (text ∷ next ∷ texts) ++ 93 ∷ rest ≡ text ++ 44 ∷ more = append_assoc text (44 ∷ join_with_byte 44 (next ∷ texts)) (93 ∷ rest) in
    let sizes = length-append text (44 ∷ more) in
    let whole : length (join_with_byte 44 (text ∷ next ∷ texts) ++ 93 ∷ rest) ≡ length (text ++ 44 ∷ more) = ap length split in
    ap (items (val depth) m found) split
    ∙ one_item depth m found d text (44 ∷ more) more are.0 (omega arith) ((refl, refl), (refl, refl)) (after_comma more)
    ∙ read_list depth (item e ds) (next ∷ texts) are.1 rest (push_item found d) (m - 1) (omega (arith, whole, sizes))
    ∙ ap (λ (all : Items). Some (all, rest)) (item_join-push found d (item e ds))

join-ascii : (depth : ℕ) (ds : Items) (texts : List (List ℕ)) → AreValues depth ds texts → list_all is_ascii (join_with_byte 44 texts) ≡ true
join-ascii depth no_items [] are = refl
join-ascii depth no_items (text ∷ texts) are = absurd are
join-ascii depth (item d ds) [] are = absurd are
join-ascii depth (item d ds) (text ∷ []) are = are.0.ascii
join-ascii depth (item d no_items) (text ∷ next ∷ texts) are = absurd are.1
join-ascii depth (item d (item e ds)) (text ∷ next ∷ texts) are =
    rw (list_all-append is_ascii text (44 ∷ join_with_byte 44 (next ∷ texts)), are.0.ascii) (join-ascii depth (item e ds) (next ∷ texts) are.1)

pub IsValue-list : (depth : ℕ) (ds : Items) (texts : List (List ℕ)) → AreValues depth ds texts → IsValue (suc depth) (array ds) (list_text texts)
IsValue-list depth ds texts are =
    record {
      starts = λ rest. refl;
      reads = λ rest ends.
          let text = join_with_byte 44 texts ++ 93 ∷ rest in
          let split : list_text texts ++ rest ≡ 91 ∷ text = ap (λ (t : List ℕ). 91 ∷ t) (append_assoc (join_with_byte 44 texts) (93 ∷ []) rest) in
          rw split (val_array depth (91 ∷ text) refl ∙ rw (read_list depth ds texts are rest no_items (length (91 ∷ text)) (omega arith)));
      ascii = rw (list_all-append is_ascii (join_with_byte 44 texts) (93 ∷ []), join-ascii depth ds texts are) refl;
    }

numbers-are : (depth : ℕ) (ns : List ℕ) → All IsWritableNumber ns → AreValues depth (numbers ns) (map decimal ns)
numbers-are depth [] small = tt
numbers-are depth (n ∷ ns) small = (IsValue-number depth n (All-head IsWritableNumber n ns small), numbers-are depth ns (All-tail IsWritableNumber n ns small))

-- a list of numbers
pub IsValue-numbers : (depth : ℕ) (ns : List ℕ) → All IsWritableNumber ns → IsValue (suc depth) (array (numbers ns)) (numbers_text ns)
IsValue-numbers depth ns small = IsValue-list depth (numbers ns) (map decimal ns) (numbers-are depth ns small)

lists-are : (depth : ℕ) (lists_of : List (List ℕ)) → All (All IsWritableNumber) lists_of → AreValues (suc depth) (lists lists_of) (map numbers_text lists_of)
lists-are depth [] small = tt
lists-are depth (ns ∷ rest) small =
    (IsValue-numbers depth ns (All-head (All IsWritableNumber) ns rest small), lists-are depth rest (All-tail (All IsWritableNumber) ns rest small))

-- a list of lists of numbers
pub IsValue-lists : (depth : ℕ) (lists_of : List (List ℕ)) → All (All IsWritableNumber) lists_of → IsValue (suc (suc depth)) (array (lists lists_of)) (list_text (map numbers_text lists_of))
IsValue-lists depth lists_of small = IsValue-list (suc depth) (lists lists_of) (map numbers_text lists_of) (lists-are depth lists_of small)
