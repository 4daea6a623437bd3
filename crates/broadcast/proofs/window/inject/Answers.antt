use Rattle.std.proofs.Common.{sym, ◌∙◌}
use Rattle.report_text.specs.declared.event.Event.TheVariants.{Inject}
use Rattle.broadcast.proofs.Broadcasting.{inject_begins, begins_with, begins_without}
use Rattle.broadcast.proofs.window.inject.Goals as goal
use Rattle.broadcast.proofs.window.inject.Goals.{then-has_tile, else-has_tile}

pub loop-t-preserved : goal.loop-t-preserved
loop-t-preserved c = elim c.if-has_tile.branch [
  | then-has_tile w ↦
      let told = w.inject-request.ensures in
      let one = inject_begins c.loop-t.net w.inject-request.new.self c.loop-t.t w.inject-request.result told.sizes told.ok told.err told.kept in
      rw w.net-is (begins_with Inject c.args.set c.loop-t.t c.args.net.now c.loop-t.net w.inject-request.new.self (sym c.has_tile.ensures ∙ w.if-has_tile.true) c.loop-t.invariant one)
  | else-has_tile w ↦
      rw w.net-is (begins_without Inject c.args.set c.loop-t.t c.args.net.now c.loop-t.net (sym c.has_tile.ensures ∙ w.if-has_tile.false) c.loop-t.invariant)
]
