-- A run that leaves nothing to do leaves the chip finished: because it has as many events as the bound, because no event is
-- possible, or because its sweeps have ended with a budget of at least the bound.
use Rattle.std.proofs.Common.{◌≡◌, ◌⊎◌, ℕ, ◌+◌, ◌≤◌, Bool, true, false, Option, Some, None, List, length, refl, sym, ◌∙◌, subst, inl, inr, arith, eqb-true}
use Rattle.std.specs.Prelude.{◌==◌, ◌||◌, is_some}
use Rattle.report_text.specs.declared.event.Event.{Event}
use Rattle.doc_text.specs.Doc.{Doc}
use Rattle.chip_model.specs.Chip.{Chip, chip_of}
use Rattle.chip_model.specs.Units.{Behaviour, in_order}
use Rattle.chip_model.specs.ChipState.{ChipState, opening, finished}
use Rattle.chip_model.specs.Events.{step}
use Rattle.chip_model.specs.Runs.{enabled, run}
use Rattle.chip_model.specs.Schedules.{bound, IsSweptTo}
use Rattle.progress_laws.specs.Possible.{SomeIsEnabled}
use Rattle.bound_laws.specs.Measure.{measure, Falls}
use Rattle.bound_laws.proofs.Journals.{opening_reached}
use Rattle.bound_laws.proofs.SweptStates.{GoesOnTo, sweeps_on}

-- a possible event leads to a state
step_of : (b : Behaviour) (chip : Chip) (s : ChipState) (event : Event) → enabled b chip s event ≡ true → (new : ChipState) × (step b chip s event ≡ Some new)
unfolding enabled
step_of b chip s event possible = by (step b chip s event) possible
  where
    by : (o : Option ChipState) → is_some o ≡ true → (new : ChipState) × (o ≡ Some new)
    by None is = cc
    by (Some new) is = (new, refl)

-- the measure is spent
pub full_finished : (d : Doc) (s : ChipState) (count : ℕ) → count + measure (chip_of d) s ≤ bound d → count ≡ bound d
    → ((new : ChipState) (event : Event) → step in_order (chip_of d) s event ≡ Some new → Falls (chip_of d) s new)
    → (finished s ≡ true) ⊎ SomeIsEnabled in_order (chip_of d) s → finished s ≡ true
full_finished d s count within same falls (inl done) = done
full_finished d s count within same falls (inr some) =
    let next = step_of in_order (chip_of d) s some.event some.possible in
    absurd (let less = falls next.0 some.event next.1 in omega arith)

-- nothing is possible
pub rest_finished : (b : Behaviour) (chip : Chip) (s : ChipState) → ((event : Event) → enabled b chip s event ≡ false)
    → (finished s ≡ true) ⊎ SomeIsEnabled b chip s → finished s ≡ true
rest_finished b chip s none (inl done) = done
rest_finished b chip s none (inr some) = let both : true ≡ false = sym some.possible ∙ none some.event in cc

-- the budget was not what ended the run
pub ample_finished : (d : Doc) (budget : ℕ) (offsets : List ℕ) (s : ChipState) → bound d ≤ budget → IsSweptTo in_order d budget offsets s
    → ((events : List Event) → run in_order (chip_of d) (opening d) events ≡ Some s → (length events ≤ bound d) × (length events ≡ bound d → finished s ≡ true))
    → finished s ≡ true
ample_finished d budget offsets s ample to known = by (length s.journal == budget) refl (finished s) refl to.ended
  where
    goes : GoesOnTo in_order d budget (opening d) s
    goes = subst (GoesOnTo in_order d budget (opening d)) to.swept (sweeps_on in_order d budget (opening d) offsets (opening_reached in_order d) (omega arith))

    by : (spent : Bool) → (length s.journal == budget) ≡ spent → (done : Bool) → finished s ≡ done → (spent || done) ≡ true → finished s ≡ true
    by true spent done is either =
        let of = known s.journal goes.reached in
        let all = eqb-true (length s.journal) budget spent in
        let few = of.0 in
        of.1 (omega arith)
    by false spent true is either = is
    by false spent false is either = cc
