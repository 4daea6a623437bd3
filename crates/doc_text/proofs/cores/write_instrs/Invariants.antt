-- What is written and what is left make the whole.
use Rattle.std.proofs.Common.{drop}
use Rattle.core_isa.specs.Printing.{program_text}
use Rattle.outside_io.specs.Streams.{stream}
use Rattle.outside_io.proofs.Writes.{WritesAllBut}
use Rattle.doc_text.proofs.cores.write_instrs.Given as goal

abbrev pub invariant-loop-instr : goal.invariant-loop-instr
invariant-loop-instr g l = WritesAllBut (stream g.K.Sink.held g.K.Sink.faults l.initial.sink l.sink) (program_text l.instrs) (program_text (drop l.instr-index l.instrs))
