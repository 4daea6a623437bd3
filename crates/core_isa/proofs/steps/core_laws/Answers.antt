use Rattle.core_isa.proofs.CoreSteps.{can_step, DidMore-stepped, advanced-zero, DidMore-advanced, advanced-add, loaded-at, swapped-at, added-at}
use Rattle.core_isa.proofs.steps.core_laws.Goals as goal

pub returns : goal.returns
returns c = record { can_step = can_step; one = DidMore-stepped; none = advanced-zero; many = DidMore-advanced; joined = advanced-add; received = loaded-at; swapped = swapped-at; added = added-at }
