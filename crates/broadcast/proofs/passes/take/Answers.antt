use Rattle.broadcast.proofs.Sweeping.{take_sweeps}
use Rattle.broadcast.proofs.passes.take.Goals as goal

pub returns : goal.returns
returns c =
    take_sweeps c.args.net.now c.take.new.self c.args.t c.take.result c.is_ok.result c.is_ok.ensures.value
    c.take.ensures.sizes c.take.ensures.ok c.take.ensures.err c.take.ensures.kept c.take.ensures.moves
