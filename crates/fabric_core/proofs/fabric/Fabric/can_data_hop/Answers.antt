use Rattle.std.proofs.Common.{◌∙◌}
use Rattle.fabric_core.specs.Fabric.{fabric_after_data_hop}
use Rattle.fabric_core.proofs.Steps.{is_some-step}
use Rattle.fabric_core.proofs.fabric.Fabric.can_data_hop.Goals as goal

pub returns : goal.returns
unfolding fabric_after_data_hop
returns c = rw (← c.self.view_is) ((rw c.self.invariant.0.grid at c.can_hop.ensures) ∙ is_some-step _ _)
