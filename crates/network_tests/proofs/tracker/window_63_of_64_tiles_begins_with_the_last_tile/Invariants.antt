-- There is room for the window of each round.
use Rattle.std.proofs.Common.{◌≡◌, ◌+◌, ◌≤◌, length}
use Rattle.network_tests.proofs.tracker.window_63_of_64_tiles_begins_with_the_last_tile.Given as goal

abbrev pub invariant-loop : goal.invariant-loop
invariant-loop g l = record {
  tiles : l.tracker.tiles ≡ 64;
  room : l.tracker.room ≡ 576;
  windows : length l.tracker.windows ≤ l.counter;
  number : l.tracker.number + length l.tracker.windows ≤ l.counter;
}
