-- The words of a line: bytes of words are above spaces and line feeds, and a line is cut at its spaces again.
use Rattle.std.proofs.Common.{◌≡◌, ℕ, suc, zero, ◌/◌, ◌%◌, ◌<◌, ◌≤◌, Bool, true, false, cond, eqb, List, [], ◌∷◌, ◌++◌, length, All, refl, sym, ap, ◌∙◌, arith}
use Rattle.std.specs.List.{slice_split, onto_first, AllByRecursion}
use Rattle.std.specs.Fmt.{decimal, digits, digits_onto, digit_glyph}
use Rattle.std.proofs.lemmas.Bool.{ne_eqb, lt-ltb, eqb-true}
use Rattle.std.proofs.lemmas.List.{append-nil}
use Rattle.std.proofs.lemmas.List.Elements.{All-from_recursion}
use Rattle.std.proofs.lemmas.List.Splits.{slice_split_none, slice_split_at, length-slice_split}
use Rattle.core_isa.proofs.Elements.{AllByRecursion-append, AllByRecursion-map}
use Rattle.core_isa.specs.Lines.{is_line_feed}
use Rattle.report_text.specs.Lines.{is_space, after_spaces, joined_words}
use Rattle.report_text.specs.Scanning.{words_of}

-- bytes above spaces and line feeds
abbrev pub IsPlain : List ℕ → Type 0
IsPlain word = AllByRecursion (λ byte. 33 ≤ byte) word

abbrev pub ArePlain : List (List ℕ) → Type 0
ArePlain words = AllByRecursion IsPlain words

-- ---- digits

plain_glyph : (n : ℕ) → 33 ≤ digit_glyph false (n % 10)
plain_glyph n = rw (lt-ltb (n % 10) 10 (omega arith)) (omega arith)

digits_onto-plain : (k n : ℕ) (acc : List ℕ) → IsPlain acc → IsPlain (digits_onto k 10 false n acc)
digits_onto-plain zero n acc plain = plain
digits_onto-plain (suc k) n acc plain =
    by_test (eqb (n / 10) 0) (digit_glyph false (n % 10) ∷ acc) (digits_onto k 10 false (n / 10) (digit_glyph false (n % 10) ∷ acc)) (plain_glyph n, plain) (digits_onto-plain k (n / 10) (digit_glyph false (n % 10) ∷ acc) (plain_glyph n, plain))
  where
    by_test : (b : Bool) (xs ys : List ℕ) → IsPlain xs → IsPlain ys → IsPlain (cond b xs ys)
    by_test true xs ys px py = px
    by_test false xs ys px py = py

pub decimal-plain : (n : ℕ) → IsPlain (decimal n)
unfolding digits
decimal-plain n = digits_onto-plain 64 n [] tt

-- ---- lines of words

no_space : (word : List ℕ) → IsPlain word → All (λ byte. is_space byte ≡ false) word
no_space word plain = All-from_recursion _ _ (AllByRecursion-map _ (λ byte. is_space byte ≡ false) (λ byte h. ne_eqb byte 32 (λ e. omega arith)) word plain)

not_feed : (word : List ℕ) → IsPlain word → AllByRecursion (λ byte. is_line_feed byte ≡ false) word
not_feed word plain = AllByRecursion-map _ (λ byte. is_line_feed byte ≡ false) (λ byte h. ne_eqb byte 10 (λ e. omega arith)) word plain

feedless : (word : List ℕ) (words : List (List ℕ)) → IsPlain word → ArePlain words → AllByRecursion (λ byte. is_line_feed byte ≡ false) (word ++ after_spaces words)
feedless word [] w ws = AllByRecursion-append _ word [] (not_feed word w) tt
feedless word (next ∷ words) w ws = AllByRecursion-append _ word (32 ∷ next ++ after_spaces words) (not_feed word w) (refl, feedless next words ws.0 ws.1)

-- no line feed stands in the line of plain words
pub joined_words-feedless : (words : List (List ℕ)) → ArePlain words → All (λ byte. is_line_feed byte ≡ false) (joined_words words)
joined_words-feedless [] ws = All-from_recursion (λ byte. is_line_feed byte ≡ false) [] tt
joined_words-feedless (word ∷ words) ws = All-from_recursion _ _ (feedless word words ws.0 ws.1)

-- a line of plain words is cut into them
pub words_of-joined_words : (word : List ℕ) (words : List (List ℕ)) → IsPlain word → ArePlain words → words_of (joined_words (word ∷ words)) ≡ word ∷ words
words_of-joined_words word [] w ws = ap (slice_split is_space) (append-nil word) ∙ slice_split_none is_space word (no_space word w)
words_of-joined_words word (next ∷ words) w ws =
    slice_split_at is_space word 32 (next ++ after_spaces words) (no_space word w) refl ∙ ap (λ (parts : List (List ℕ)). word ∷ parts) (words_of-joined_words next words ws.0 ws.1)

-- ---- and the other way: a line is that of its parts

joined_words-onto_first : (byte : ℕ) (parts : List (List ℕ)) → joined_words (onto_first byte parts) ≡ byte ∷ joined_words parts
joined_words-onto_first byte [] = refl
joined_words-onto_first byte (part ∷ parts) = refl

after_spaces-joined_words : (parts : List (List ℕ)) → 0 < length parts → after_spaces parts ≡ 32 ∷ joined_words parts
after_spaces-joined_words [] some = absurd (omega arith)
after_spaces-joined_words (part ∷ parts) some = refl

parts_of : (byte : ℕ) (line : List ℕ) (b : Bool) → is_space byte ≡ b → joined_words (words_of line) ≡ line → joined_words (cond b ([] ∷ words_of line) (onto_first byte (words_of line))) ≡ byte ∷ line
parts_of byte line true blank e =
    after_spaces-joined_words (words_of line) (omega (arith, length-slice_split is_space line))
    ∙ ap (λ (bytes : List ℕ). 32 ∷ bytes) e ∙ ap (λ (x : ℕ). x ∷ line) (sym (eqb-true byte 32 blank))
parts_of byte line false blank e = joined_words-onto_first byte (words_of line) ∙ ap (λ (bytes : List ℕ). byte ∷ bytes) e

pub joined_words-words_of : (line : List ℕ) → joined_words (words_of line) ≡ line
joined_words-words_of [] = refl
joined_words-words_of (byte ∷ line) = parts_of byte line (is_space byte) refl (joined_words-words_of line)
