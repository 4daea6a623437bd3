-- The places below the counter have what they take in.
use Rattle.std.proofs.Common.{◌≡◌, ℕ, ◌<◌}
use Rattle.std.specs.Prelude.{slice_get, slice_index, IfSome}
use Rattle.notify_net.specs.Links.{union_of}
use Rattle.notify_net.proofs.latches.take_in.Given as goal

abbrev pub invariant-loop-t : goal.invariant-loop-t
invariant-loop-t l =
    (u : ℕ) → u < l.t → IfSome (slice_get l.links u) (λ sides. slice_index l.next u ≡ union_of l.latches u sides)
