use Rattle.std.specs.Prelude.{map, filter}
use Rattle.mesh_gen.specs.TileSet.{has_tile}
use Rattle.order_tracker.specs.Order.{upwards}
use Rattle.report_text.specs.declared.event.Event.TheVariants.{Post}
use Rattle.broadcast.specs.Broadcasts.{BeginsWindow}
use Rattle.broadcast.proofs.window.post.Given as goal

-- the tiles so far had their turn
abbrev pub invariant-loop-t : goal.invariant-loop-t
invariant-loop-t l = BeginsWindow (map Post (filter (has_tile l.set) (upwards 0 l.t))) l.initial.net l.net
