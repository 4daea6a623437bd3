-- What is written and what is left make the whole.
use Rattle.std.proofs.Common.{drop}
use Rattle.doc_text.specs.Canonical.{cores_text}
use Rattle.outside_io.specs.Streams.{stream}
use Rattle.outside_io.proofs.Writes.{WritesAllBut}
use Rattle.doc_text.proofs.cores.write_cores.Given as goal

abbrev pub invariant-loop-tile : goal.invariant-loop-tile
invariant-loop-tile g l = WritesAllBut (stream g.K.Sink.held g.K.Sink.faults l.initial.sink l.sink) (cores_text 0 l.programs) (cores_text l.tile (drop l.tile l.programs))
