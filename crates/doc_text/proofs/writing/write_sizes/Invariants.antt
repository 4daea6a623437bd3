-- What is written and what is left make the whole.
use Rattle.std.proofs.Common.{drop}
use Rattle.doc_text.specs.Canonical.{sizes_text}
use Rattle.outside_io.specs.Streams.{stream}
use Rattle.outside_io.proofs.Writes.{WritesAllBut}
use Rattle.doc_text.proofs.writing.write_sizes.Given as goal

abbrev pub invariant-loop-key : goal.invariant-loop-key
invariant-loop-key g l = WritesAllBut (stream g.K.Sink.held g.K.Sink.faults l.initial.sink l.sink) (sizes_text l.sizes) (sizes_text (drop l.key-index l.sizes))
