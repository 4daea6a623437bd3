use Rattle.flow_laws.proofs.NetworkMoves.{delivery_moves, network_moves}
use Rattle.flow_laws.proofs.laws.request_progress_laws.Goals as goal

pub returns-clause-delivers : goal.returns-clause-delivers
returns-clause-delivers c = delivery_moves

pub returns-clause-moves : goal.returns-clause-moves
returns-clause-moves c = network_moves
