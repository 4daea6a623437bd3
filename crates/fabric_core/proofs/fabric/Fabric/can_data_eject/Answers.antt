use Rattle.std.proofs.Common.{◌∙◌}
use Rattle.fabric_core.specs.Fabric.{fabric_after_data_eject}
use Rattle.fabric_core.proofs.Steps.{is_some-step}
use Rattle.fabric_core.proofs.fabric.Fabric.can_data_eject.Goals as goal

pub returns : goal.returns
unfolding fabric_after_data_eject
returns c = rw (← c.self.view_is) (c.can_eject.ensures ∙ is_some-step _ _)
