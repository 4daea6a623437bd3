use Rattle.std.proofs.Common.{◌≡◌, ◌+◌, Some}
use Rattle.core_isa.specs.Core.{advanced}
use Rattle.core_isa.proofs.tile_core.Core.advance.Given as goal

abbrev pub invariant-loop-done : goal.invariant-loop-done
invariant-loop-done l =
    (advanced l.program l.done l.initial.self ≡ Some l.self) × (l.self.steps ≡ l.initial.self.steps + l.done)
