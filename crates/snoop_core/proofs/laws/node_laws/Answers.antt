use Rattle.snoop_core.proofs.Opened.{NodeFits-opening_node}
use Rattle.snoop_core.proofs.ShapeSteps.{NodeFits-node_after_request, NodeFits-node_after_message, NodeFits-node_after_access, NodeFits-after_request_sent, NodeFits-after_message_sent}
use Rattle.snoop_core.proofs.laws.node_laws.Goals as goal

pub returns-clause-opened : goal.returns-clause-opened
returns-clause-opened c = NodeFits-opening_node

pub returns-clause-delivered : goal.returns-clause-delivered
returns-clause-delivered c = NodeFits-node_after_request

pub returns-clause-arrived : goal.returns-clause-arrived
returns-clause-arrived c = NodeFits-node_after_message

pub returns-clause-accessed : goal.returns-clause-accessed
returns-clause-accessed c = NodeFits-node_after_access

pub returns-clause-asked : goal.returns-clause-asked
returns-clause-asked c = NodeFits-after_request_sent

pub returns-clause-sent : goal.returns-clause-sent
returns-clause-sent c = NodeFits-after_message_sent
