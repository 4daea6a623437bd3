-- What is written and what is left make the whole, and no tile has more entries used than were written.
use Rattle.std.proofs.Common.{◌≡◌, ◌+◌, ◌≤◌, ℕ, length}
use Rattle.std.specs.Prelude.{slice_index}
use Rattle.outside_io.specs.Streams.{stream}
use Rattle.outside_io.proofs.Writes.{WritesAllBut}
use Rattle.order_tracker.specs.Tracker.{left_of}
use Rattle.commands.specs.Entries.{entries_text, has_begun}
use Rattle.commands.proofs.order.write_entries.Given as goal

abbrev pub invariant-loop-source : goal.invariant-loop-source
invariant-loop-source g l = record {
  written : WritesAllBut (stream g.K.Sink.held g.K.Sink.faults l.initial.sink l.sink) (entries_text l.fn.begun (left_of l.initial.tracker)) (entries_text l.begun (left_of l.tracker));
  begun : has_begun l.begun (left_of l.tracker) ≡ has_begun l.fn.begun (left_of l.initial.tracker);
  tiles : l.tracker.tiles ≡ l.initial.tracker.tiles;
  room : l.tracker.room ≡ l.initial.tracker.room;
  number : l.tracker.number + length l.tracker.windows ≡ l.initial.tracker.number + length l.initial.tracker.windows;
  used : (t : ℕ) → slice_index l.tracker.used t + length (left_of l.tracker) ≤ slice_index l.initial.tracker.used t + length (left_of l.initial.tracker);
}

abbrev pub decreases-loop-source : goal.decreases-loop-source
decreases-loop-source g l = length (left_of l.tracker)
