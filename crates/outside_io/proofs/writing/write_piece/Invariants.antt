-- The part of the piece before the rest is appended.
use Rattle.std.proofs.Common.{◌≡◌, ◌≤◌, length, ◌++◌, List, ℕ}
use Rattle.outside_io.specs.Streams.{Appends}
use Rattle.outside_io.proofs.writing.write_piece.Given as goal

abbrev pub invariant-loop-rest : goal.invariant-loop-rest
invariant-loop-rest g l =
    ((part : List ℕ) × (l.piece ≡ part ++ l.rest) × Appends (g.K.Sink.held l.initial.sink) (g.K.Sink.held l.sink) part) ×
    (g.K.Sink.faults l.initial.sink ≤ g.K.Sink.faults l.sink)

abbrev pub decreases-loop-rest : goal.decreases-loop-rest
decreases-loop-rest g l = length l.rest
