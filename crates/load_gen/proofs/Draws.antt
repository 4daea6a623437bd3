-- Words that a generator gives, one after another.
use Rattle.std.proofs.Common.{◌≡◌, ℕ, zero, suc, ◌+◌, ◌*◌, List, [], ◌∷◌, ◌++◌, map, refl, sym, ◌∙◌, ap, append_assoc, arith}
use Rattle.std.proofs.lemmas.List.{append-nil}
use Rattle.core_isa.specs.declared.instr.Instr.{Instr}
use Rattle.rand_core.specs.Steps.{first_words}
use Rattle.rand_pcg.specs.Lcg.{Lcg, advance, next_state, state_after}
use Rattle.rand_pcg.specs.Pcg.{multiplier_64, pcg32}
use Rattle.load_gen.specs.Load.{access}

-- the accesses that so many of the next words stand for
abbrev pub accesses : ℕ → Lcg → List Instr
accesses count words = map access (first_words pcg32 count words)

first_of : (count left : ℕ) (words : Lcg) → count ≡ suc left → first_words pcg32 count words ≡ (pcg32 words).0 ∷ first_words pcg32 left (pcg32 words).1
unfolding first_words
first_of count left words e = rw e refl

-- the accesses so far and those that are left are all of them, also after one more
pub one_more : (so_far : List Instr) (count left word : ℕ) (words after : Lcg) → count ≡ suc left → (word, after) ≡ pcg32 words
    → (so_far ++ access word ∷ []) ++ accesses left after ≡ so_far ++ accesses count words
one_more so_far count left word words after e is =
    append_assoc so_far (access word ∷ []) (accesses left after)
    ∙ ap (λ (p : ℕ × Lcg). so_far ++ access p.0 ∷ map access (first_words pcg32 left p.1)) is
    ∙ ap (λ (ws : List ℕ). so_far ++ map access ws) (sym (first_of count left words e))

-- after the last one none is left
pub all_drawn : (so_far : List Instr) (count : ℕ) (words : Lcg) → count ≡ 0 → so_far ++ accesses count words ≡ so_far
unfolding first_words
all_drawn so_far count words e = rw e (append-nil so_far)

-- the generator some words on, by one word and the others
pub one_step : (count left word : ℕ) (words after : Lcg) → count ≡ suc left → (word, after) ≡ pcg32 words
    → advance 64 multiplier_64 left after ≡ advance 64 multiplier_64 count words
unfolding state_after
one_step count left word words after e is = ap (λ (p : ℕ × Lcg). advance 64 multiplier_64 left p.1) is ∙ rw e refl

pub no_step : (count : ℕ) (words : Lcg) → count ≡ 0 → advance 64 multiplier_64 count words ≡ words
unfolding state_after
no_step count words e = rw e refl

-- steps after others
states_join : (w m p a b s : ℕ) → state_after w m p b (state_after w m p a s) ≡ state_after w m p (a + b) s
unfolding state_after
states_join w m p zero b s =
    let same : b ≡ 0 + b = omega arith in
    ap (λ (n : ℕ). state_after w m p n s) same
states_join w m p (suc a) b s =
    let same : suc (a + b) ≡ suc a + b = omega arith in
    states_join w m p a b (next_state w m p s) ∙ ap (λ (n : ℕ). state_after w m p n s) same

-- the generator at a tile's words, and at those of the next one
pub next_tile : (tile : ℕ) (words : Lcg) → advance 64 multiplier_64 8 (advance 64 multiplier_64 (8 * tile) words) ≡ advance 64 multiplier_64 (8 * (tile + 1)) words
next_tile tile words =
    let same : 8 * tile + 8 ≡ 8 * (tile + 1) = omega arith in
    ap (λ (state : ℕ). record words { state = state }) (states_join 64 multiplier_64 words.increment (8 * tile) 8 words.state)
    ∙ ap (λ (n : ℕ). advance 64 multiplier_64 n words) same
