-- What is written and what is left make the whole.
use Rattle.std.proofs.Common.{ℕ, List, drop}
use Rattle.std.specs.List.{flat_map}
use Rattle.outside_io.specs.Streams.{stream}
use Rattle.outside_io.proofs.Writes.{WritesAllBut}
use Rattle.commands.proofs.summary.write_lines.Given as goal

abbrev pub invariant-loop-line : goal.invariant-loop-line
invariant-loop-line g l =
    WritesAllBut (stream g.K.Sink.held g.K.Sink.faults l.initial.sink l.sink) (flat_map (λ (line : List ℕ). line) l.lines) (flat_map (λ (line : List ℕ). line) (drop l.line-index l.lines))
