use Rattle.std.proofs.Common.{◌≡◌, ℕ, ◌<◌, false}
use Rattle.std.specs.Prelude.{slice_get}
use Rattle.vc_bank.specs.Channels.{is_there_and_free}
use Rattle.vc_bank.proofs.slots.first_free.Given as goal

abbrev pub invariant-loop-slot : goal.invariant-loop-slot
invariant-loop-slot g l = (k : ℕ) → k < l.slot → is_there_and_free (slice_get l.slots k) ≡ false
