-- What `run` reports: the state in which the rounds end, in which each tile has a thread.
use Rattle.std.specs.Prelude.{◌≡◌, ◌≤◌, ◌<◌, ◌+◌, ◌*◌, ℕ, length}
use Rattle.report_text.specs.declared.report.Report.{Report}
use Rattle.report_text.specs.declared.finish.Finish.TheVariants.{Finished, Budget}
use Rattle.doc_text.specs.Doc.{Doc}
use Rattle.chip_model.specs.Chip.{chip_of, tile_count}
use Rattle.chip_model.specs.Units.{in_order}
use Rattle.chip_model.specs.ChipState.{ChipState, opening}
use Rattle.chip_model.specs.Runs.{IsReachable}
use Rattle.chip_model.specs.Reports.{report_of}
use Rattle.chip_model.specs.Schedules.{IsForward, bound}
use Rattle.machine_core.specs.Machine.{MachineState}
use Rattle.bound_laws.specs.EveryRun.{EveryRun}
use Rattle.round_laws.specs.Rounds.{IsRunOfRounds}

-- a machine of a document in which the rounds have ended, of which so many were left out
pub record HasRounded (budget left : ℕ) (doc : Doc) (machine : MachineState) : Type 0 where
  pub document : machine.document ≡ doc
  pub rounds : IsRunOfRounds in_order (chip_of doc) budget left (opening doc) machine.state
  pub few : length machine.state.journal < budget + 17 * tile_count (chip_of doc)

-- the report of the state in which rounds of a document's chip end, whatever the threads did
pub record IsReportOfRounds (budget left : ℕ) (doc : Doc) (report : Report) : Type 0 where
  pub state : ChipState
  pub rounds : IsRunOfRounds in_order (chip_of doc) budget left (opening doc) state
  pub report_is : report ≡ report_of doc state
  -- what its journal records leads there, event by event, and what holds of every such run holds of it: tiles deliver
  -- prefixes of one order; the accesses, in their order here, are one sequential execution of the first steps of the
  -- programs, and of the whole ones, ending in the memory here, where the chip is finished; until then some event is possible
  pub journal_leads : IsReachable in_order doc state
  pub every_run : EveryRun doc state.journal state
  -- it is not finished only where the budget is spent, by fewer than 17 events a tile too many
  pub spent : report.ended ≡ Budget → budget ≤ length report.journal
  pub few : length report.journal < budget + 17 * tile_count (chip_of doc)
  -- for programs that go forward, not with a budget of the bound
  pub ample : IsForward doc → bound doc ≤ budget → report.ended ≡ Finished
