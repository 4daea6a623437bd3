-- Words that are the form of no command, by their number.
use Rattle.std.proofs.Common.{◌≡◌, ℕ, List, [], ◌∷◌, length, map, Bor, None, refl}
use Rattle.commands.specs.Arguments.{command_named}

pub no_form : (words : List (Bor (List ℕ))) → (length words ≡ 1 → ⊥) → (length words ≡ 2 → ⊥) → (length words ≡ 3 → ⊥) → (length words ≡ 5 → ⊥)
    → command_named (map (λ (word : Bor (List ℕ)). word.now) words) ≡ None
no_form [] one two three five = refl
no_form (a ∷ []) one two three five = absurd (one refl)
no_form (a ∷ b ∷ []) one two three five = absurd (two refl)
no_form (a ∷ b ∷ c ∷ []) one two three five = absurd (three refl)
no_form (a ∷ b ∷ c ∷ d ∷ []) one two three five = refl
no_form (a ∷ b ∷ c ∷ d ∷ e ∷ []) one two three five = absurd (five refl)
no_form (a ∷ b ∷ c ∷ d ∷ e ∷ f ∷ words) one two three five = refl
