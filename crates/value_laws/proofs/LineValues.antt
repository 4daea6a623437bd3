-- What one more access makes of the value of a line at a place of the order, and what its words are.
use Rattle.std.proofs.Common.{◌≡◌, ℕ, ◌+◌, ◌*◌, ◌<◌, Bool, true, false, cond, ◌==◌, List, [], ◌∷◌, ◌++◌, length, filter, get_or, set, sym, ap, ◌∙◌, refl}
use Rattle.std.proofs.Common.{inl, inr, length-set, get_or-set_same, get_or-set_other, arith}
use Rattle.std.specs.Prelude.{nat_le}
use Rattle.std.specs.List.{fold, AllByRecursion}
use Rattle.std.proofs.lemmas.List.Sums.{fold_push}
use Rattle.std.proofs.lemmas.Bool.{cases_eq}
use Rattle.std.proofs.lemmas.Bool.Decides.{nat_tests}
use Rattle.core_isa.proofs.Elements.{AllByRecursion-map}
use Rattle.report_text.specs.declared.access.Access.{Access}
use Rattle.doc_text.specs.Doc.{Doc}
use Rattle.flat_ref.specs.Order.{word_by, last_written}
use Rattle.chip_model.specs.Chip.{line_of, word_of}
use Rattle.chip_model.specs.Node.{words_at}
use Rattle.chip_model.specs.Witness.{is_before, in_sequence, is_write, writes_by, with_write, line_value}
use Rattle.value_laws.specs.Sequences.{AreSucceeding, Succeeds}
use Rattle.value_laws.proofs.Sequences.{each_in_sequence, in_order_sequence}
use Rattle.value_laws.proofs.Inserted.{sequence_push, passed_over, passed_last, same_passed}

-- the words that these accesses leave of a line
abbrev value_of : Doc → ℕ → List Access → List ℕ
value_of d line accesses = fold with_write (words_at d.memory line) accesses

-- an access that is no write to the line up to the place changes nothing
pub value_kept : (d : Doc) (xs : List Access) (a : Access) (line place : ℕ) → AllByRecursion (λ x. Succeeds x a) xs → writes_by line place a ≡ false
    → line_value d (xs ++ a ∷ []) line place ≡ line_value d xs line place
unfolding line_value
value_kept d xs a line place follows fails =
    ap (λ (ys : List Access). value_of d line (filter (writes_by line place) ys)) (sequence_push xs a follows)
    ∙ ap (value_of d line) (passed_over (writes_by line place) a (in_sequence xs) fails)

-- the last write to the line up to the place changes its word
pub value_written : (d : Doc) (xs : List Access) (a : Access) (line place : ℕ) → AreSucceeding xs → AllByRecursion (λ x. Succeeds x a) xs
    → writes_by line place a ≡ true
    → AllByRecursion (λ b. writes_by line place b ≡ true → is_before b a ≡ true) xs
    → line_value d (xs ++ a ∷ []) line place ≡ with_write (line_value d xs line place) a
unfolding line_value
value_written d xs a line place turn follows passes last =
    let order = in_order_sequence xs turn in
    let behind = each_in_sequence (λ b. writes_by line place b ≡ true → is_before b a ≡ true) xs last in
    ap (λ (ys : List Access). value_of d line (filter (writes_by line place) ys)) (sequence_push xs a follows)
    ∙ (ap (value_of d line) (passed_last (writes_by line place) a (in_sequence xs) passes order behind)
    ∙ fold_push with_write (words_at d.memory line) (filter (writes_by line place) (in_sequence xs)) a)

-- where the writes up to two places are the same, the value is
pub value_same : (d : Doc) (xs : List Access) (line p q : ℕ) → AllByRecursion (λ a. writes_by line p a ≡ writes_by line q a) xs
    → line_value d xs line p ≡ line_value d xs line q
unfolding line_value
value_same d xs line p q all =
    ap (value_of d line) (same_passed (writes_by line p) (writes_by line q) (in_sequence xs)
    (each_in_sequence (λ a. writes_by line p a ≡ writes_by line q a) xs all))

-- an access is no write to the line at this time
abbrev pub NoWriteAt : ℕ → ℕ → Access → Type 0
NoWriteAt line time a = is_write a ≡ true → line_of a.address ≡ line → a.time ≡ time → ⊥

not_then : (line place : ℕ) (a : Access) → NoWriteAt line (place + 1) a → writes_by line (place + 1) a ≡ writes_by line place a
not_then line place a fails = grind (arith, nat_tests, fails)

-- to the next place, where no write has that time
pub value_next : (d : Doc) (xs : List Access) (line place : ℕ) → AllByRecursion (NoWriteAt line (place + 1)) xs
    → line_value d xs line (place + 1) ≡ line_value d xs line place
value_next d xs line place all =
    value_same d xs line (place + 1) place
    (AllByRecursion-map (NoWriteAt line (place + 1)) (λ a. writes_by line (place + 1) a ≡ writes_by line place a) (not_then line place) xs all)

-- ---- the words of a value

pub length_value : (xs : List Access) (words : List ℕ) → length (fold with_write words xs) ≡ length words
length_value [] words = refl
length_value (a ∷ xs) words = length_value xs (set words (word_of a.address) a.value) ∙ length-set words (word_of a.address) a.value

-- a write changes the word at its address alone
word_written : (line k : ℕ) (a : Access) (words : List ℕ) → k < 4 → length words ≡ 4 → is_write a ≡ true → line_of a.address ≡ line
    → get_or (with_write words a) k 0 ≡ word_by (4 * line + k) a (get_or words k 0)
word_written line k a words small four write here =
    elim (cases_eq k (word_of a.address)) [
      | inl same ↦
          let at : (a.address == 4 * line + k) ≡ true = grind (arith, nat_tests) in
          let within : word_of a.address < length words = omega arith in
          rw (write, at, same) (get_or-set_same words (word_of a.address) a.value 0 within)
      | inr other ↦
          let at : (a.address == 4 * line + k) ≡ false = grind (arith, nat_tests) in
          rw (write, at) (get_or-set_other words (word_of a.address) k a.value 0 other)
    ]

-- another access does not change it
word_kept : (line k : ℕ) (a : Access) (word : ℕ) (write : Bool) → is_write a ≡ write → k < 4 → (write ≡ true → line_of a.address ≡ line → ⊥)
    → word_by (4 * line + k) a word ≡ word
word_kept line k a word false is small fails = rw is refl
word_kept line k a word true is small fails =
    let other : line_of a.address ≡ line → ⊥ = fails refl in
    let at : (a.address == 4 * line + k) ≡ false = grind (arith, nat_tests) in
    rw (is, at) refl

-- the accesses among which a word was last written, by a test that holds of a write to the line exactly where it counts
abbrev pub Counts : ℕ → ℕ → (Access → Bool) → Access → Type 0
Counts line place q b = is_write b ≡ true → line_of b.address ≡ line → q b ≡ nat_le b.time place

word_by_test : (line place k : ℕ) (q : Access → Bool) (a : Access) (xs : List Access) (words : List ℕ) (s t : Bool) → writes_by line place a ≡ s → q a ≡ t
    → k < 4
    → length words ≡ 4 → Counts line place q a
    → ((new : List ℕ) → length new ≡ 4 → get_or (fold with_write new (filter (writes_by line place) xs)) k 0
    ≡ last_written (4 * line + k) (get_or new k 0) (filter q xs))
    → get_or (fold with_write words (cond s (a ∷ filter (writes_by line place) xs) (filter (writes_by line place) xs))) k 0
    ≡ last_written (4 * line + k) (get_or words k 0) (cond t (a ∷ filter q xs) (filter q xs))
word_by_test line place k q a xs words true true es et small four counts rest =
    let write : is_write a ≡ true = grind (arith, nat_tests) in
    let here : line_of a.address ≡ line = grind (arith, nat_tests) in
    rest (set words (word_of a.address) a.value) (length-set words (word_of a.address) a.value ∙ four)
    ∙ ap (λ (word : ℕ). last_written (4 * line + k) word (filter q xs)) (word_written line k a words small four write here)
word_by_test line place k q a xs words true false es et small four counts rest = absurd (grind (arith, nat_tests, counts))
word_by_test line place k q a xs words false true es et small four counts rest =
    rest words four
    ∙ ap (λ (word : ℕ). last_written (4 * line + k) word (filter q xs))
    (sym (word_kept line k a (get_or words k 0) (is_write a) refl small (λ write here. grind (arith, nat_tests, counts))))
word_by_test line place k q a xs words false false es et small four counts rest = rest words four

-- a word of a line's value is what was last written there
pub word_of_value : (line place k : ℕ) (q : Access → Bool) (xs : List Access) (words : List ℕ) → k < 4 → length words ≡ 4
    → AllByRecursion (Counts line place q) xs
    → get_or (fold with_write words (filter (writes_by line place) xs)) k 0 ≡ last_written (4 * line + k) (get_or words k 0) (filter q xs)
word_of_value line place k q [] words small four all = refl
word_of_value line place k q (a ∷ xs) words small four all =
    word_by_test line place k q a xs words (writes_by line place a) (q a) refl refl small four all.0
    (λ new is_four. word_of_value line place k q xs new small is_four all.1)
