use Rattle.std.proofs.Common.{◌≡◌, Some, take}
use Rattle.flat_ref.specs.Taking.{taken_all}
use Rattle.flat_ref.proofs.checking.take_all.Given as goal

abbrev pub invariant-loop-at : goal.invariant-loop-at
invariant-loop-at l =
    taken_all l.programs (record { cores = l.initial.cores; memory = l.initial.memory }) (take l.at l.accesses) ≡ Some (record { cores = l.cores; memory = l.memory })
