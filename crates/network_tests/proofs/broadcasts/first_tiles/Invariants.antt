use Rattle.std.proofs.Common.{◌≡◌}
use Rattle.std.specs.List.{range_with_len}
use Rattle.network_tests.proofs.broadcasts.first_tiles.Given as goal

-- the tiles so far
abbrev pub invariant-loop-t : goal.invariant-loop-t
invariant-loop-t l = l.tiles.items ≡ range_with_len 0 l.t
