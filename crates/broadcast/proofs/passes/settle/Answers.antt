use Rattle.broadcast.proofs.Sweeping.{no_pass, one_more, settles, fewer_left}
use Rattle.broadcast.proofs.passes.settle.Goals as goal

pub loop-net-init : goal.loop-net-init
loop-net-init c = no_pass c.args.net.now

pub loop-net-smaller : goal.loop-net-smaller
loop-net-smaller c = fewer_left c.loop-net.net c.pass.new.net c.pass.result c.pass.ensures c.loop-net-test.true c.tiles-tiles.ensures.moves

pub loop-net-preserved : goal.loop-net-preserved
loop-net-preserved c = one_more c.args.net.now c.loop-net.net c.pass.new.net c.pass.result c.loop-net.invariant c.pass.ensures c.loop-net-test.true

pub returns : goal.returns
returns c = settles c.args.net.now c.loop-net.net c.pass.new.net c.pass.result c.loop-net.invariant c.pass.ensures c.loop-net-test.false c.tiles.ensures.moves
