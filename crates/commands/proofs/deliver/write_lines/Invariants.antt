-- What is written and what is left make the lines of all tiles.
use Rattle.std.proofs.Common.{drop}
use Rattle.outside_io.specs.Streams.{stream}
use Rattle.outside_io.proofs.Writes.{WritesAllBut}
use Rattle.chip_model.specs.Delivery.{delivered_lists}
use Rattle.commands.specs.Deliveries.{lines_from, deliveries_text}
use Rattle.commands.proofs.deliver.write_lines.Given as goal

abbrev pub invariant-loop-t : goal.invariant-loop-t
invariant-loop-t g l =
    WritesAllBut (stream g.K.Sink.held g.K.Sink.faults l.initial.sink l.sink) (deliveries_text (delivered_lists l.net.network)) (lines_from l.t (drop l.t (delivered_lists l.net.network)))
