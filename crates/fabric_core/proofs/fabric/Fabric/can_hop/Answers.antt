use Rattle.std.proofs.Common.{◌∙◌}
use Rattle.fabric_core.specs.Fabric.{fabric_after_hop}
use Rattle.fabric_core.proofs.Steps.{is_some-step}
use Rattle.fabric_core.proofs.fabric.Fabric.can_hop.Goals as goal

pub returns : goal.returns
unfolding fabric_after_hop
returns c = rw (← c.self.view_is) (c.can_hop.ensures ∙ is_some-step _ _)
