use Rattle.supply_laws.proofs.OwnerGets.{owner_get, memory_owns, owner_inside}
use Rattle.supply_laws.proofs.owners.owner_laws.Goals as goal

pub returns : goal.returns
returns c = record { tile = owner_get; memory = memory_owns; inside = owner_inside }
