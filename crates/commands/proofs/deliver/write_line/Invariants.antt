-- What is written and what is left make the line.
use Rattle.std.proofs.Common.{true, drop}
use Rattle.outside_io.specs.Streams.{stream}
use Rattle.outside_io.proofs.Writes.{WritesAllBut}
use Rattle.chip_model.specs.OrderedNetwork.{sources}
use Rattle.commands.specs.Entries.{rest_text}
use Rattle.commands.specs.Deliveries.{tile_line}
use Rattle.commands.proofs.deliver.write_line.Given as goal

abbrev pub invariant-loop-request : goal.invariant-loop-request
invariant-loop-request g l =
    WritesAllBut (stream g.K.Sink.held g.K.Sink.faults l.fn.sink l.sink) (tile_line l.fn.tile (sources l.delivered)) (rest_text true (sources (drop l.request-index l.delivered)))
