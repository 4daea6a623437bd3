use Rattle.mesh_gen.specs.Mesh.{grid}
use Rattle.router_xy.specs.Wirings.{sides_of}
use Rattle.router_xy.proofs.LookedUp.{one_more}
use Rattle.router_xy.proofs.wiring.links.Goals as goal

pub loop-t-preserved : goal.loop-t-preserved
loop-t-preserved c =
    one_more (sides_of (grid c.args.mesh.now)) c.loop-t.links.items c.push.new.self.items c.loop-t.t c.sides_of.result c.in_ok-push.ensures.items c.sides_of.ensures c.loop-t.invariant.0 c.loop-t.invariant.1
