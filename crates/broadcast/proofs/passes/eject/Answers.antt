use Rattle.broadcast.proofs.Sweeping.{eject_sweeps}
use Rattle.broadcast.proofs.passes.eject.Goals as goal

pub returns : goal.returns
returns c =
    eject_sweeps c.args.net.now c.eject.new.self c.args.t c.eject.result c.is_ok.result c.is_ok.ensures.value
    c.eject.ensures.sizes c.eject.ensures.ok c.eject.ensures.err c.eject.ensures.kept c.eject.ensures.moves
