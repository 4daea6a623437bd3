-- Words with spaces between them, read again.
use Rattle.std.proofs.Common.{◌≡◌, ℕ, ◌<◌, ◌≤◌, true, false, not, List, [], ◌∷◌, ◌++◌, length, take, All, None, refl, ap, ◌∙◌, arith}
use Rattle.std.specs.List.{filter, flat_map, slice_split, before_first, prefix_len, AllByRecursion}
use Rattle.std.proofs.Math.Seq.{take-length}
use Rattle.std.proofs.lemmas.Bool.{ne_eqb}
use Rattle.std.proofs.lemmas.List.{append-nil}
use Rattle.std.proofs.lemmas.List.Elements.{All-from_recursion}
use Rattle.std.proofs.lemmas.List.Splits.{slice_split_none, slice_split_at}
use Rattle.core_isa.specs.Lines.{Line, is_white, is_comment_sign, is_line_feed, is_filled, words_of, is_label, source_line, line_with}
use Rattle.core_isa.proofs.Elements.{AllByRecursion-append, AllByRecursion-map}

-- bytes from 36 on are those of words here: white space, line feeds and `#` are below
pub record IsWord (word : List ℕ) : Type 0 where
  pub filled : 0 < length word
  pub plain : AllByRecursion (λ byte. 36 ≤ byte) word

abbrev pub spaced : List ℕ → List (List ℕ) → List ℕ
spaced word words = word ++ flat_map (λ next. 32 ∷ next) words

is_white-plain : (byte : ℕ) → 36 ≤ byte → is_white byte ≡ false
unfolding is_white
is_white-plain byte h = rw (ne_eqb byte 32 (λ e. omega arith), ne_eqb byte 9 (λ e. omega arith), ne_eqb byte 13 (λ e. omega arith)) refl

abbrev EndsNothing : ℕ → Type 0
EndsNothing byte = (is_comment_sign byte ≡ false) × (is_line_feed byte ≡ false)

ends_nothing : (byte : ℕ) → 36 ≤ byte → EndsNothing byte
ends_nothing byte h = (ne_eqb byte 35 (λ e. omega arith), ne_eqb byte 10 (λ e. omega arith))

spaced_ends_nothing : (word : List ℕ) (words : List (List ℕ)) → IsWord word → AllByRecursion IsWord words → AllByRecursion EndsNothing (spaced word words)
spaced_ends_nothing word [] w ws = AllByRecursion-append EndsNothing word [] (AllByRecursion-map _ EndsNothing ends_nothing word w.plain) tt
spaced_ends_nothing word (next ∷ words) w ws =
    AllByRecursion-append EndsNothing word (32 ∷ spaced next words) (AllByRecursion-map _ EndsNothing ends_nothing word w.plain) ((refl, refl), spaced_ends_nothing next words ws.0 ws.1)

-- no line feed stands in the words
pub one_line : (word : List ℕ) (words : List (List ℕ)) → IsWord word → AllByRecursion IsWord words → All (λ byte. is_line_feed byte ≡ false) (spaced word words)
one_line word words w ws = All-from_recursion _ _ (AllByRecursion-map EndsNothing (λ byte. is_line_feed byte ≡ false) (λ byte h. h.1) (spaced word words) (spaced_ends_nothing word words w ws))

split_spaced : (word : List ℕ) (words : List (List ℕ)) → IsWord word → AllByRecursion IsWord words → slice_split is_white (spaced word words) ≡ word ∷ words
unfolding is_white
split_spaced word [] w ws = ap (slice_split is_white) (append-nil word) ∙ slice_split_none is_white word (All-from_recursion _ _ (AllByRecursion-map _ (λ byte. is_white byte ≡ false) is_white-plain word w.plain))
split_spaced word (next ∷ words) w ws =
    slice_split_at is_white word 32 (spaced next words) (All-from_recursion _ _ (AllByRecursion-map _ (λ byte. is_white byte ≡ false) is_white-plain word w.plain)) refl ∙ ap (λ (parts : List (List ℕ)). word ∷ parts) (split_spaced next words ws.0 ws.1)

prefix_len-all : (xs : List ℕ) → AllByRecursion EndsNothing xs → prefix_len (λ byte. not (is_comment_sign byte)) xs ≡ length xs
prefix_len-all [] a = refl
prefix_len-all (x ∷ xs) a = rw a.0.0 (omega (arith, prefix_len-all xs a.1))

uncommented : (xs : List ℕ) → AllByRecursion EndsNothing xs → before_first is_comment_sign xs ≡ xs
uncommented xs a = ap (λ (n : ℕ). take n xs) (prefix_len-all xs a) ∙ take-length xs

is_filled-word : (word : List ℕ) → 0 < length word → is_filled word ≡ true
is_filled-word word h = rw (ne_eqb (length word) 0 (λ e. omega arith)) refl

filter_filled : (words : List (List ℕ)) → AllByRecursion IsWord words → filter is_filled words ≡ words
filter_filled [] a = refl
filter_filled (word ∷ words) a = rw (is_filled-word word a.0.filled) (ap (λ (ws : List (List ℕ)). word ∷ ws) (filter_filled words a.1))

pub words_of-spaced : (word : List ℕ) (words : List (List ℕ)) → IsWord word → AllByRecursion IsWord words → words_of (spaced word words) ≡ word ∷ words
unfolding words_of
words_of-spaced word words w ws =
    ap (λ (code : List ℕ). filter is_filled (slice_split is_white code)) (uncommented (spaced word words) (spaced_ends_nothing word words w ws)) ∙ ap (filter is_filled) (split_spaced word words w ws) ∙ filter_filled (word ∷ words) (w, ws)

abbrev pub plain_line : List (List ℕ) → Line
plain_line words = record { label = None; words = words }

unlabelled : (word : List ℕ) (words : List (List ℕ)) → is_label word ≡ false → line_with (word ∷ words) ≡ plain_line (word ∷ words)
unlabelled word words e = rw e refl

-- the line of words of which the first is no label
pub source_line-spaced : (word : List ℕ) (words : List (List ℕ)) → IsWord word → AllByRecursion IsWord words → is_label word ≡ false → source_line (spaced word words) ≡ plain_line (word ∷ words)
source_line-spaced word words w ws e = ap line_with (words_of-spaced word words w ws) ∙ unlabelled word words e
