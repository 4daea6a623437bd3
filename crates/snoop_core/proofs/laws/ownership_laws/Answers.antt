use Rattle.snoop_core.proofs.OwnershipSteps.{owns-after_snoop, owns-after_data}
use Rattle.snoop_core.proofs.ByOrder.{OwnsByOrder-opening_node, OwnsByOrder-append, OwnsByOrder-node_after_request, OwnsByOrder-node_after_message, OwnsByOrder-node_after_access, OwnsByOrder-after_request_sent, OwnsByOrder-after_message_sent}
use Rattle.snoop_core.proofs.laws.ownership_laws.Goals as goal

pub returns-clause-snooped : goal.returns-clause-snooped
returns-clause-snooped c = owns-after_snoop

pub returns-clause-kept : goal.returns-clause-kept
returns-clause-kept c = owns-after_data

pub returns-clause-opened : goal.returns-clause-opened
returns-clause-opened c = OwnsByOrder-opening_node

pub returns-clause-grown : goal.returns-clause-grown
returns-clause-grown c = OwnsByOrder-append

pub returns-clause-delivered : goal.returns-clause-delivered
returns-clause-delivered c = OwnsByOrder-node_after_request

pub returns-clause-arrived : goal.returns-clause-arrived
returns-clause-arrived c = OwnsByOrder-node_after_message

pub returns-clause-accessed : goal.returns-clause-accessed
returns-clause-accessed c = OwnsByOrder-node_after_access

pub returns-clause-asked : goal.returns-clause-asked
returns-clause-asked c = OwnsByOrder-after_request_sent

pub returns-clause-sent : goal.returns-clause-sent
returns-clause-sent c = OwnsByOrder-after_message_sent
