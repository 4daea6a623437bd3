-- The words of memory that are shown.
use Rattle.std.proofs.Common.{◌≡◌, ◌≢◌, ◌-◌, ℕ, zero, suc, List, [], ◌∷◌, ◌++◌, length, refl, ◌∙◌, ap, arith}
use Rattle.std.specs.Prelude.{replicate}
use Rattle.doc_text.specs.Canonical.{shown_with, shown_words}

-- a zero at the end is not shown
pub shown_words-zero : (front : List ℕ) → shown_words (front ++ 0 ∷ []) ≡ shown_words front
shown_words-zero [] = refl
shown_words-zero (word ∷ front) = ap (shown_with word) (shown_words-zero front)

shown_with-some : (word next : ℕ) (rest : List ℕ) → shown_with word (next ∷ rest) ≡ word ∷ next ∷ rest
shown_with-some zero next rest = refl
shown_with-some (suc word) next rest = refl

shown_with-ended : (word : ℕ) (front : List ℕ) (last : ℕ) → shown_with word (front ++ last ∷ []) ≡ word ∷ (front ++ last ∷ [])
shown_with-ended word [] last = shown_with-some word last []
shown_with-ended word (next ∷ front) last = shown_with-some word next (front ++ last ∷ [])

-- words of which the last is not 0 are all shown
pub shown_words-ended : (front : List ℕ) (last : ℕ) → last ≢ 0 → shown_words (front ++ last ∷ []) ≡ front ++ last ∷ []
shown_words-ended [] zero some = absurd (some refl)
shown_words-ended [] (suc last) some = refl
shown_words-ended (word ∷ front) last some = ap (shown_with word) (shown_words-ended front last some) ∙ shown_with-ended word front last

padded_with : (word : ℕ) (shown words : List ℕ) → shown ++ replicate (length words - length shown) 0 ≡ words
    → shown_with word shown ++ replicate (length (word ∷ words) - length (shown_with word shown)) 0 ≡ word ∷ words
padded_with zero [] words padded =
    let count : suc (length words) - 0 ≡ suc (length words - 0) = omega arith in rw count (ap (λ (rest : List ℕ). 0 ∷ rest) padded)
padded_with zero (next ∷ shown) words padded =
    let count : suc (length words) - suc (length (next ∷ shown)) ≡ length words - length (next ∷ shown) = omega arith in
    rw count (ap (λ (rest : List ℕ). 0 ∷ rest) padded)
padded_with (suc word) shown words padded =
    let count : suc (length words) - suc (length shown) ≡ length words - length shown = omega arith in
    rw count (ap (λ (rest : List ℕ). suc word ∷ rest) padded)

-- with zeros after them the words that are shown are all words
pub shown_words-padded : (words : List ℕ) → shown_words words ++ replicate (length words - length (shown_words words)) 0 ≡ words
shown_words-padded [] = refl
shown_words-padded (word ∷ words) = padded_with word (shown_words words) words (shown_words-padded words)

no_last : (front : List ℕ) (last : ℕ) → [] ≡ front ++ last ∷ [] → ⊥
no_last [] last is = cc
no_last (word ∷ front) last is = cc

ended_after : (word next : ℕ) (rest : List ℕ) → ((front : List ℕ) (last : ℕ) → next ∷ rest ≡ front ++ last ∷ [] → last ≢ 0)
    → (front : List ℕ) (last : ℕ) → word ∷ next ∷ rest ≡ front ++ last ∷ [] → last ≢ 0
ended_after word next rest ended [] last is = cc
ended_after word next rest ended (first ∷ front) last is = ended front last cc

ended_with : (word : ℕ) (shown : List ℕ) → ((front : List ℕ) (last : ℕ) → shown ≡ front ++ last ∷ [] → last ≢ 0)
    → (front : List ℕ) (last : ℕ) → shown_with word shown ≡ front ++ last ∷ [] → last ≢ 0
ended_with zero [] ended front last is = absurd (no_last front last is)
ended_with zero (next ∷ shown) ended front last is = ended_after 0 next shown ended front last is
ended_with (suc word) (next ∷ shown) ended front last is = ended_after (suc word) next shown ended front last is
ended_with (suc word) [] ended [] last is = λ none. cc
ended_with (suc word) [] ended (first ∷ front) last is = absurd (no_last front last cc)

-- the last of them is not 0
pub shown_words-last : (words front : List ℕ) (last : ℕ) → shown_words words ≡ front ++ last ∷ [] → last ≢ 0
shown_words-last [] front last is = absurd (no_last front last is)
shown_words-last (word ∷ words) front last is = ended_with word (shown_words words) (shown_words-last words) front last is
