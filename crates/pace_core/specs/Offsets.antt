-- What a pace answers: for each sweep, the slot from which it begins.
use Rattle.std.specs.Prelude.{ℕ, ◌<◌, ◌^◌, ◌+◌, List, [], ◌∷◌}
use Rattle.std.specs.Bool.{⊤}

-- a closure may be called for any sweep, and answers below the number of slots, wherever there are slots
pub record AnswersBelow (pre : ℕ → ℕ → Type 0) (post : ℕ → ℕ → ℕ → Type 0) : Type 0 where
  pub callable : (sweep slots : ℕ) → sweep < 2 ^ 64 → slots < 2 ^ 32 → 0 < slots → pre sweep slots
  pub below : (sweep slots offset : ℕ) → sweep < 2 ^ 64 → slots < 2 ^ 32 → 0 < slots → post sweep slots offset → offset < slots

-- these offsets were answered for the sweeps from one on, each below the number of slots
abbrev pub AreAnswers : (ℕ → ℕ → ℕ → Type 0) → ℕ → ℕ → List ℕ → Type 0
AreAnswers post slots sweep [] = ⊤
AreAnswers post slots sweep (offset ∷ offsets) = post sweep slots offset × (offset < slots) × AreAnswers post slots (sweep + 1) offsets
