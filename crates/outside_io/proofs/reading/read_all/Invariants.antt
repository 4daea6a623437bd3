-- The bytes so far are the front of the input, and no more than one past the limit.
use Rattle.std.proofs.Common.{◌≡◌, ◌+◌, ◌-◌, ◌≤◌, ◌++◌, option_map, vec_len}
use Rattle.outside_io.proofs.reading.read_all.Given as goal

abbrev pub invariant-loop-chunk : goal.invariant-loop-chunk
invariant-loop-chunk g l =
    (g.S.Source.left l.initial.source ≡ option_map (λ rest. l.bytes.items ++ rest) (g.S.Source.left l.source)) ×
    (vec_len l.bytes ≤ l.most) ×
    (l.most ≡ l.limit + 1) ×
    (g.S.Source.faults l.initial.source ≤ g.S.Source.faults l.source)

abbrev pub decreases-loop-chunk : goal.decreases-loop-chunk
decreases-loop-chunk g l = l.most - vec_len l.bytes
