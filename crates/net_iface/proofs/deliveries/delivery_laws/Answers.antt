use Rattle.net_iface.proofs.Histories.{prefixes_delivered, history_of_one_order}
use Rattle.net_iface.proofs.deliveries.delivery_laws.Goals as goal

pub returns-clause-prefixes : goal.returns-clause-prefixes
returns-clause-prefixes c = let laws = c.step_laws.ensures in λ chip calls h. prefixes_delivered chip calls h laws.opened laws.enters laws.hops laws.serves

pub returns-clause-one_order : goal.returns-clause-one_order
returns-clause-one_order c = let laws = c.step_laws.ensures in λ chip calls h. history_of_one_order chip calls h laws.opened laws.enters laws.hops laws.serves
