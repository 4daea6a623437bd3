-- Between two rounds of a run: the possible event of the lowest slot is done.
use Rattle.std.proofs.Common.{◌≡◌, ℕ, ◌<◌, ◌||◌, Bool, true, false, cond, List, [], ◌∷◌, Option, Some, None, length, refl, sym, ◌∙◌, ap, inl, inr}
use Rattle.std.specs.Prelude.{find, nat_le, is_some, Result, Ok, Err, OnOk, OnErr}
use Rattle.std.proofs.lemmas.Bool.{cases_lt, le-leb}
use Rattle.std.proofs.lemmas.Option.{same_Some}
use Rattle.mesh_gen.specs.Partial.{◌>>=◌}
use Rattle.report_text.specs.declared.event.Event.{Event}
use Rattle.chip_model.specs.Chip.{Chip}
use Rattle.chip_model.specs.Units.{Behaviour}
use Rattle.chip_model.specs.ChipState.{ChipState, finished}
use Rattle.chip_model.specs.Events.{step}
use Rattle.chip_model.specs.Runs.{after, enabled, noted}
use Rattle.round_laws.specs.Rounds.{is_over}

-- a run that has not ended has budget left, and is not finished
pub still_going : (budget : ℕ) (s : ChipState) → is_over budget s ≡ false → (length s.journal < budget) × (finished s ≡ false)
still_going budget s going = by (nat_le budget (length s.journal)) refl (finished s) refl going
  where
    less : nat_le budget (length s.journal) ≡ false → length s.journal < budget
    less not_spent = elim (cases_lt (length s.journal) budget) [
      | inl below ↦ below
      | inr spent ↦ absurd (let is : nat_le budget (length s.journal) ≡ true = le-leb budget (length s.journal) spent in cc)
    ]

    by : (spent : Bool) → nat_le budget (length s.journal) ≡ spent → (ends : Bool) → finished s ≡ ends → (spent || ends) ≡ false
        → (length s.journal < budget) × (finished s ≡ false)
    by true is ends end over = cc
    by false is true end over = cc
    by false is false end over = (less is, end)

-- what is found passes the test
pub found_passes : {X : Type 0} (test : X → Bool) (xs : List X) (x : X) → find test xs ≡ Some x → test x ≡ true
found_passes test [] x found = cc
found_passes {X} test (y ∷ xs) x found = by (test y) refl found (found_passes test xs x)
  where
    by : (passes : Bool) → test y ≡ passes → cond passes (Some y) (find test xs) ≡ Some x → (find test xs ≡ Some x → test x ≡ true) → test x ≡ true
    by true is here rest = ap test (sym (same_Some y x here)) ∙ is
    by false is here rest = rest here

-- a possible event was done
pub was_done : {X E : Type 0} (b : Behaviour) (chip : Chip) (s new : ChipState) (event : Event) (answer : Result X E) → enabled b chip s event ≡ true
    → OnOk answer (after b chip s event ≡ Some new) → OnErr answer (after b chip s event ≡ None) → after b chip s event ≡ Some new
unfolding enabled after
was_done b chip s new event (Ok x) possible done refused = done
was_done b chip s new event (Err e) possible done refused = absurd (by (step b chip s event) possible refused)
  where
    by : (o : Option ChipState) → is_some o ≡ true → (o >>= (λ next. Some (noted event next))) ≡ None → ⊥
    by None possible refused = cc
    by (Some next) possible refused = cc
