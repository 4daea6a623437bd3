use Rattle.chip_laws.proofs.InOrderLaws.{in_order_laws}
use Rattle.chip_laws.proofs.laws.behaviour_laws.Goals as goal

pub returns : goal.returns
returns c = in_order_laws
