-- The records so far are those of the first lines.
use Rattle.std.proofs.Common.{◌≡◌, map}
use Rattle.order_tracker.specs.Order.{upwards}
use Rattle.chip_model.specs.Chip.{chip_of_mesh}
use Rattle.chip_model.specs.Node.{record_at}
use Rattle.mem_ctrl.proofs.controller.Controller.open.Given as goal

abbrev pub invariant-loop-line : goal.invariant-loop-line
invariant-loop-line l = l.records.items ≡ map (record_at (chip_of_mesh l.mesh) l.tile l.memory) (upwards 0 l.line)
