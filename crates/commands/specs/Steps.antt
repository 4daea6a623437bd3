-- What `step` reports: the state in which the sweeps by a pace end.
use Rattle.std.specs.Prelude.{◌≡◌, ◌≤◌, ℕ, length}
use Rattle.report_text.specs.declared.report.Report.{Report}
use Rattle.report_text.specs.declared.finish.Finish.TheVariants.{Finished, Budget}
use Rattle.doc_text.specs.Doc.{Doc}
use Rattle.chip_model.specs.Chip.{chip_of}
use Rattle.chip_model.specs.Units.{in_order}
use Rattle.chip_model.specs.ChipState.{ChipState}
use Rattle.chip_model.specs.Runs.{IsReachable}
use Rattle.chip_model.specs.Reports.{report_of}
use Rattle.chip_model.specs.Schedules.{IsSweptTo, IsForward, bound, pace_offsets}
use Rattle.machine_core.specs.Machine.{MachineState}
use Rattle.bound_laws.specs.EveryRun.{EveryRun}

-- a machine of a document in which the sweeps by the pace of a number have ended
pub record HasSwept (pace budget : ℕ) (doc : Doc) (machine : MachineState) : Type 0 where
  pub document : machine.document ≡ doc
  pub sweeps : ℕ
  pub swept : IsSweptTo in_order doc budget (pace_offsets pace (chip_of doc) sweeps) machine.state

-- the report of the state in which sweeps of a document's chip end, each from the offset that the pace of a number gives it
pub record IsReportOfSteps (pace budget : ℕ) (doc : Doc) (report : Report) : Type 0 where
  pub state : ChipState
  pub sweeps : ℕ
  pub swept : IsSweptTo in_order doc budget (pace_offsets pace (chip_of doc) sweeps) state
  pub report_is : report ≡ report_of doc state
  -- what its journal records leads there, event by event, and what holds of every such run holds of it: tiles deliver
  -- prefixes of one order; the accesses, in their order here, are one sequential execution of the first steps of the
  -- programs, and of the whole ones, ending in the memory here, where the chip is finished; until then some event is possible
  pub journal_leads : IsReachable in_order doc state
  pub every_run : EveryRun doc state.journal state
  -- it is not finished only where the budget is spent; for programs that go forward, not with a budget of the bound
  pub spent : report.ended ≡ Budget → length report.journal ≡ budget
  pub ample : IsForward doc → bound doc ≤ budget → report.ended ≡ Finished
