use Rattle.broadcast.proofs.Sweeping.{still_channel}
use Rattle.broadcast.proofs.passes.hop_by_sides.Goals as goal

pub returns-then-not-has_side : goal.returns-then-not-has_side
returns-then-not-has_side c = still_channel c.args.net.now c.args.router c.args.port c.args.slot c.owed-owed.result c.has_side.result c.owed-owed.ensures.none c.has_side.ensures c.if-not-has_side.true
