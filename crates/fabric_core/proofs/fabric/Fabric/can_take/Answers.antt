use Rattle.std.proofs.Common.{◌∙◌}
use Rattle.fabric_core.specs.Fabric.{fabric_after_take}
use Rattle.fabric_core.proofs.Steps.{is_some-step}
use Rattle.fabric_core.proofs.fabric.Fabric.can_take.Goals as goal

pub returns : goal.returns
unfolding fabric_after_take
returns c = rw (← c.self.view_is) (c.can_take.ensures ∙ is_some-step _ _)
