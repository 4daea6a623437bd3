use Rattle.flow_laws.proofs.MessageMoves.{message_moves}
use Rattle.flow_laws.proofs.laws.message_progress_laws.Goals as goal

pub returns : goal.returns
returns c = record { moves = message_moves }
