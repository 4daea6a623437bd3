use Rattle.std.proofs.Common.{sym, ◌∙◌}
use Rattle.report_text.specs.declared.event.Event.TheVariants.{Post}
use Rattle.broadcast.proofs.Broadcasting.{post_begins, begins_with, begins_without}
use Rattle.broadcast.proofs.window.post.Goals as goal
use Rattle.broadcast.proofs.window.post.Goals.{then-has_tile, else-has_tile}

pub loop-t-preserved : goal.loop-t-preserved
loop-t-preserved c = elim c.if-has_tile.branch [
  | then-has_tile w ↦
      let told = w.post-posted.ensures in
      let one = post_begins c.loop-t.net w.post-posted.new.self c.loop-t.t w.post-posted.result told.sizes told.ok told.err told.kept in
      rw w.net-is (begins_with Post c.args.set c.loop-t.t c.args.net.now c.loop-t.net w.post-posted.new.self (sym c.has_tile.ensures ∙ w.if-has_tile.true) c.loop-t.invariant one)
  | else-has_tile w ↦
      rw w.net-is (begins_without Post c.args.set c.loop-t.t c.args.net.now c.loop-t.net (sym c.has_tile.ensures ∙ w.if-has_tile.false) c.loop-t.invariant)
]
