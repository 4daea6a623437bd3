use Rattle.std.proofs.Common.{◌≡◌, replicate, []}
use Rattle.circular_buffer.specs.Buffer.{buffer}
use Rattle.net_iface.proofs.requests.empty_lists.Given as goal

abbrev pub invariant-loop : goal.invariant-loop
invariant-loop l = l.lists.items ≡ replicate l.counter (buffer [] l.channels)
