-- The report of a run by a pace.
use Rattle.std.proofs.Common.{◌≡◌, ◌≤◌, ℕ, ◌==◌, ◌||◌, Bool, true, false, List, length, Some, refl, sym, subst}
use Rattle.std.proofs.lemmas.Bool.{eqb-true}
use Rattle.report_text.specs.declared.event.Event.{Event}
use Rattle.report_text.specs.declared.finish.Finish.TheVariants.{Finished, Budget}
use Rattle.doc_text.specs.Doc.{Doc}
use Rattle.chip_model.specs.Chip.{chip_of}
use Rattle.chip_model.specs.Units.{in_order}
use Rattle.chip_model.specs.ChipState.{ChipState, opening, finished}
use Rattle.chip_model.specs.Runs.{IsReachable, run}
use Rattle.chip_model.specs.Reports.{report_of, report_with}
use Rattle.chip_model.specs.Schedules.{IsSweptTo, IsForward, bound, pace_offsets}
use Rattle.chip_laws.specs.DocFits.{DocFits}
use Rattle.machine_core.specs.Machine.{MachineState}
use Rattle.bound_laws.specs.EveryRun.{EveryRun}
use Rattle.commands.specs.Steps.{HasSwept, IsReportOfSteps}

one_of : (b : Bool) → (b || false) ≡ true → b ≡ true
one_of true e = refl
one_of false e = absurd cc

spent_with : (d : Doc) (s : ChipState) (budget : ℕ) (is_finished : Bool) → ((length s.journal == budget) || is_finished) ≡ true
    → (report_with d s is_finished).ended ≡ Budget → length s.journal ≡ budget
spent_with d s budget true ended is = absurd cc
spent_with d s budget false ended is = eqb-true _ _ (one_of (length s.journal == budget) ended)

pub finished_with : (d : Doc) (s : ChipState) (is_finished : Bool) → is_finished ≡ true → (report_with d s is_finished).ended ≡ Finished
finished_with d s true is = refl
finished_with d s false is = absurd cc

-- sweeps by the offsets of a pace lead to a state: its report is one of `step`
pub reported : (pace budget sweeps : ℕ) (d : Doc) (s : ChipState) → IsReachable in_order d s → EveryRun d s.journal s
    → IsSweptTo in_order d budget (pace_offsets pace (chip_of d) sweeps) s → (IsForward d → bound d ≤ budget → finished s ≡ true) → IsReportOfSteps pace budget d (report_of d s)
unfolding report_of
reported pace budget sweeps d s reached every swept ample = record {
  state = s;
  sweeps = sweeps;
  swept = swept;
  report_is = refl;
  journal_leads = reached;
  every_run = every;
  spent = spent_with d s budget (finished s) swept.ended;
  ample = λ forward enough. finished_with d s (finished s) (ample forward enough);
}

-- what holds of every run
abbrev pub AllRunsHold : Type 0
AllRunsHold = (d : Doc) (events : List Event) (s : ChipState) → DocFits d → run in_order (chip_of d) (opening d) events ≡ Some s → EveryRun d events s

-- with a budget of at least the bound a run of programs that go forward is finished
abbrev pub BoundIsAmple : Type 0
BoundIsAmple = (d : Doc) (budget : ℕ) (offsets : List ℕ) (s : ChipState) → DocFits d → IsForward d → bound d ≤ budget → IsSweptTo in_order d budget offsets s → finished s ≡ true

-- the report of a machine in which the sweeps have ended is one of `step`
pub machine_reports : (pace budget : ℕ) (doc : Doc) (machine : MachineState) → AllRunsHold → BoundIsAmple → HasSwept pace budget doc machine → DocFits machine.document
    → IsReachable in_order machine.document machine.state → IsReportOfSteps pace budget doc (report_of machine.document machine.state)
machine_reports pace budget doc machine holds ample has fits reached =
    let doc_fits : DocFits doc = subst DocFits has.document fits in
    let doc_reached : IsReachable in_order doc machine.state = subst (λ (d : Doc). IsReachable in_order d machine.state) has.document reached in
    let every = holds doc machine.state.journal machine.state doc_fits doc_reached in
    subst (λ (d : Doc). IsReportOfSteps pace budget doc (report_of d machine.state)) (sym has.document)
    (reported pace budget has.sweeps doc machine.state doc_reached every has.swept (λ forward enough.
    ample doc budget (pace_offsets pace (chip_of doc) has.sweeps) machine.state doc_fits forward enough has.swept))
