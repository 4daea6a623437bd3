-- The report of a run by rounds.
use Rattle.std.proofs.Common.{◌≡◌, ◌≤◌, ◌<◌, ◌+◌, ◌*◌, ℕ, ◌||◌, Bool, true, false, List, length, Some, refl, sym, subst, arith}
use Rattle.std.specs.Prelude.{nat_le}
use Rattle.std.proofs.lemmas.Bool.Decides.{nat_tests}
use Rattle.report_text.specs.declared.event.Event.{Event}
use Rattle.report_text.specs.declared.finish.Finish.TheVariants.{Finished, Budget}
use Rattle.doc_text.specs.Doc.{Doc}
use Rattle.chip_model.specs.Chip.{chip_of, tile_count}
use Rattle.chip_model.specs.Units.{in_order}
use Rattle.chip_model.specs.ChipState.{ChipState, opening, finished}
use Rattle.chip_model.specs.Runs.{IsReachable, run}
use Rattle.chip_model.specs.Reports.{report_of, report_with}
use Rattle.chip_model.specs.Schedules.{IsForward, bound}
use Rattle.chip_laws.specs.DocFits.{DocFits}
use Rattle.machine_core.specs.Machine.{MachineState}
use Rattle.round_laws.specs.Rounds.{IsRunOfRounds}
use Rattle.commands.specs.Rounds.{HasRounded, IsReportOfRounds}
use Rattle.commands.proofs.ReportedRuns.{AllRunsHold, finished_with}

reached_budget : (budget n : ℕ) → (nat_le budget n || false) ≡ true → budget ≤ n
reached_budget budget n over = by (nat_le budget n) refl over
  where
    by : (b : Bool) → nat_le budget n ≡ b → (b || false) ≡ true → budget ≤ n
    by true is over = grind (arith, nat_tests)
    by false is over = absurd cc

spent_with : (d : Doc) (s : ChipState) (budget : ℕ) (is_finished : Bool) → (nat_le budget (length s.journal) || is_finished) ≡ true
    → (report_with d s is_finished).ended ≡ Budget → budget ≤ length s.journal
spent_with d s budget true over is = absurd cc
spent_with d s budget false over is = reached_budget budget (length s.journal) over

-- where no run is longer than the budget, the chip is finished
finished_by : (budget n : ℕ) (is_finished : Bool) → (nat_le budget n || is_finished) ≡ true → (budget ≤ n → is_finished ≡ true) → is_finished ≡ true
finished_by budget n true over full = refl
finished_by budget n false over full = full (reached_budget budget n over)

-- a run of programs that go forward is finished once it has as many events as the bound
abbrev pub BoundIsFull : Type 0
BoundIsFull = (d : Doc) (events : List Event) (s : ChipState) → DocFits d → IsForward d → run in_order (chip_of d) (opening d) events ≡ Some s → length events ≡ bound d → finished s ≡ true

rounded : (budget left : ℕ) (d : Doc) (s : ChipState) → AllRunsHold → BoundIsFull → DocFits d → IsReachable in_order d s
    → IsRunOfRounds in_order (chip_of d) budget left (opening d) s → length s.journal < budget + 17 * tile_count (chip_of d) → IsReportOfRounds budget left d (report_of d s)
unfolding report_of
rounded budget left d s holds full fits reached rounds few =
    let every = holds d s.journal s fits reached in
    record {
      state = s;
      rounds = rounds;
      report_is = refl;
      journal_leads = reached;
      every_run = every;
      spent = spent_with d s budget (finished s) rounds.over;
      few = few;
      ample = λ forward enough. finished_with d s (finished s) (finished_by budget (length s.journal) (finished s) rounds.over (λ long.
          full d s.journal s fits forward reached (omega (arith, long, enough, every.bounded forward))));
    }

-- the report of a machine in which the rounds have ended is one of `run`
pub machine_reports_rounds : (budget left : ℕ) (doc : Doc) (machine : MachineState) → AllRunsHold → BoundIsFull → HasRounded budget left doc machine → DocFits machine.document
    → IsReachable in_order machine.document machine.state → IsReportOfRounds budget left doc (report_of machine.document machine.state)
machine_reports_rounds budget left doc machine holds full has fits reached =
    subst (λ (d : Doc). IsReportOfRounds budget left doc (report_of d machine.state)) (sym has.document)
    (rounded budget left doc machine.state holds full (subst DocFits has.document fits) (subst (λ (d : Doc). IsReachable in_order d machine.state) has.document reached) has.rounds has.few)
