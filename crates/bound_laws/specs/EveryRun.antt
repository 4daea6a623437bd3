-- What holds along every run of a chip of in-order cores.
use Rattle.std.specs.Prelude.{◌≡◌, ◌⊎◌, ◌≤◌, ℕ, true, false, List, Some, length, take}
use Rattle.report_text.specs.declared.event.Event.{Event}
use Rattle.doc_text.specs.Doc.{Doc}
use Rattle.flat_ref.specs.Execution.{IsExecution, IsWholeExecution, flat_memory}
use Rattle.chip_model.specs.Chip.{chip_of}
use Rattle.chip_model.specs.Units.{in_order}
use Rattle.chip_model.specs.ChipState.{ChipState, opening, finished}
use Rattle.chip_model.specs.Runs.{enabled}
use Rattle.chip_model.specs.Reports.{report_of}
use Rattle.chip_model.specs.Schedules.{bound, IsForward}
use Rattle.chip_model.specs.Suppliers.{delivered_at}
use Rattle.net_iface.specs.OneOrder.{IsOneOrder}
use Rattle.progress_laws.specs.Possible.{SomeIsEnabled}
use Rattle.value_laws.specs.Deliveries.{deliveries}

-- these events, each possible when it was done, have led a document's chip to this state
pub record EveryRun (d : Doc) (events : List Event) (s : ChipState) : Type 0 where
  -- what each tile has delivered is a prefix of one list of requests
  pub prefixes : (t : ℕ) → deliveries in_order (chip_of d) t (Some (opening d)) events ≡ take (delivered_at s t) s.network.ordered
  -- which holds each request once, those of each tile in the order in which it made them
  pub one_order : IsOneOrder (chip_of d) s.network
  -- the accesses in their printed order are one sequential execution of the first steps of the programs
  pub execution : IsExecution d.programs d.memory (report_of d s).accesses (report_of d s).steps
  -- once the chip is finished it is one of the whole programs, and ends in the memory that is printed
  pub whole : finished s ≡ true → IsWholeExecution d.programs d.memory (report_of d s).accesses (report_of d s).steps
  pub memory : finished s ≡ true → flat_memory d.programs d.memory (report_of d s).accesses ≡ Some (report_of d s).memory
  -- until then some event is possible, and from then on none is
  pub moves : (finished s ≡ true) ⊎ SomeIsEnabled in_order (chip_of d) s
  pub stops : finished s ≡ true → (event : Event) → enabled in_order (chip_of d) s event ≡ false
  -- programs whose branches and jumps all go forward have no more events than the bound
  pub bounded : IsForward d → length events ≤ bound d
