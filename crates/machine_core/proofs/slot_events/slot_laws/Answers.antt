use Rattle.machine_core.proofs.SlotTiles.{slot_at, slot_within}
use Rattle.machine_core.proofs.slot_events.slot_laws.Goals as goal

pub returns-clause-at : goal.returns-clause-at
returns-clause-at c = slot_at

pub returns-clause-within : goal.returns-clause-within
returns-clause-within c = slot_within
