-- A prefix of the lines is written, and the rest is that of the items from here on.
use Rattle.std.proofs.Common.{drop}
use Rattle.outside_io.specs.Streams.{stream}
use Rattle.outside_io.proofs.Writes.{WritesAllBut}
use Rattle.report_text.specs.Lines.{text_of_lines}
use Rattle.report_text.specs.Report.{tile_part, tile_rows}
use Rattle.report_text.proofs.writing.write_tiles.Given as goal

abbrev pub invariant-loop-tile : goal.invariant-loop-tile
invariant-loop-tile g l =
    WritesAllBut (stream g.K.Sink.held g.K.Sink.faults l.fn.sink l.sink) (text_of_lines (tile_part l.seen l.steps)) (text_of_lines (tile_rows l.tile (drop l.tile l.seen) (drop l.tile l.steps)))
