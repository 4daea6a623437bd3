use Rattle.chip_laws.proofs.DoneUnits.{done_of, all_delivered, only_copies}
use Rattle.chip_laws.proofs.tiles.done_laws.Goals as goal

pub returns : goal.returns
returns c = record { done = done_of; whole = all_delivered; copies = only_copies }
