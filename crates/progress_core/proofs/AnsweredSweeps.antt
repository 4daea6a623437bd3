-- One more offset that a pace answered.
use Rattle.std.proofs.Common.{◌≡◌, ℕ, suc, ◌+◌, ◌<◌, List, [], ◌∷◌, ◌++◌, length, subst, arith}
use Rattle.pace_core.specs.Offsets.{AreAnswers}

pub answers_more : (post : ℕ → ℕ → ℕ → Type 0) (slots first : ℕ) (offsets : List ℕ) (offset : ℕ) → AreAnswers post slots first offsets → post (first + length offsets) slots offset → offset < slots
    → AreAnswers post slots first (offsets ++ offset ∷ [])
answers_more post slots first [] offset answered answer below = (subst (λ (sweep : ℕ). post sweep slots offset) (omega arith) answer, below, record {})
answers_more post slots first (one ∷ offsets) offset answered answer below =
    let next : first + suc (length offsets) ≡ (first + 1) + length offsets = omega arith in
    (answered.0, answered.1, answers_more post slots (first + 1) offsets offset answered.2 (subst (λ (sweep : ℕ). post sweep slots offset) next answer) below)
