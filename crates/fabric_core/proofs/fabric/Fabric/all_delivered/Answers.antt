use Rattle.std.proofs.Common.{length, ◌∙◌, arith}
use Rattle.fabric_core.proofs.Idle.{next_all}
use Rattle.fabric_core.proofs.fabric.Fabric.all_delivered.Goals.{then-all, else-all}
use Rattle.fabric_core.proofs.fabric.Fabric.all_delivered.Goals as goal

pub loop-t-preserved : goal.loop-t-preserved
loop-t-preserved c =
    let net = c.self.inside.network.network in
    let before = rw (← c.self.view_is) at c.loop-t.invariant in
    let next = next_all (length net.ordered) c.loop-t.t net.interfaces c.loop-t.all c.if-all.all (omega (arith, c.loop-t-test.true, c.tiles-t-end.ensures.tiles, c.tiles-t-end.ensures.fits.interfaces)) before in
    rw (← c.self.view_is) (elim c.if-all.branch [ then-all w ↦ next (rw w.if-all.true (rw (w.delivered.ensures, c.order.ensures) at w.all-is)) | else-all w ↦ next (rw w.if-all.false (w.all-is ∙ w.if-all.false)) ])
