use Rattle.net_iface.proofs.StepParts.{request_made, request_posted, network_ticked, vector_taken, copy_moved, request_delivered}
use Rattle.net_iface.proofs.laws.part_laws.Goals as goal

pub returns-clause-made : goal.returns-clause-made
returns-clause-made c = request_made

pub returns-clause-posted : goal.returns-clause-posted
returns-clause-posted c = request_posted

pub returns-clause-ticked : goal.returns-clause-ticked
returns-clause-ticked c = network_ticked

pub returns-clause-taken : goal.returns-clause-taken
returns-clause-taken c = vector_taken

pub returns-clause-hopped : goal.returns-clause-hopped
returns-clause-hopped c = copy_moved

pub returns-clause-delivered : goal.returns-clause-delivered
returns-clause-delivered c = request_delivered
