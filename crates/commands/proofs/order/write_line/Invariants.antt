-- The windows so far are used up, and what is written and what is left make the line.
use Rattle.std.proofs.Common.{◌≡◌, ◌*◌, ◌<◌, ◌≤◌, ℕ, [], drop, map}
use Rattle.std.specs.Prelude.{slice_index}
use Rattle.outside_io.specs.Streams.{stream}
use Rattle.outside_io.proofs.Writes.{WritesAllBut}
use Rattle.mesh_gen.specs.Limits.{most_tiles}
use Rattle.mesh_gen.specs.TileSet.{set_of}
use Rattle.order_tracker.specs.Order.{order_from}
use Rattle.commands.specs.Entries.{rest_text}
use Rattle.commands.specs.Line.{numbers_line}
use Rattle.commands.proofs.order.write_line.Given as goal

abbrev pub invariant-loop-window : goal.invariant-loop-window
invariant-loop-window g l = record {
  written : WritesAllBut (stream g.K.Sink.held g.K.Sink.faults l.initial.sink l.sink) (numbers_line (order_from l.fn.tracker.tiles 0 (map set_of l.posts)))
      (rest_text l.begun (order_from l.fn.tracker.tiles l.window-index (map set_of (drop l.window-index l.posts))));
  grid : l.latches.grid ≡ l.fn.latches.grid;
  tiles : l.tracker.tiles ≡ l.fn.tracker.tiles;
  windows : l.tracker.windows ≡ [];
  number : l.tracker.number ≡ l.window-index;
  room : 0 < l.tracker.room;
  used : (t : ℕ) → slice_index l.tracker.used t ≤ most_tiles * l.window-index;
}
