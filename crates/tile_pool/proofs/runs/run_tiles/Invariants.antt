use Rattle.std.proofs.Common.{◌≡◌, ℕ, ◌+◌, ◌-◌, ◌*◌, ◌<◌, ◌≤◌, List, Option, length}
use Rattle.std.specs.Prelude.{count_by, is_none}
use Rattle.chip_model.specs.Chip.{chip_of, tile_count}
use Rattle.round_laws.specs.Rounds.{RoundsLead}
use Rattle.tile_pool.proofs.runs.run_tiles.Given as goal

-- the rounds so far, each after an event
abbrev pub invariant-loop-finish : goal.invariant-loop-finish
invariant-loop-finish g l = record {
  rounds : List (Option ℕ);
  lead : RoundsLead g.U.Unit.behaviour (chip_of l.fn.machine.document) l.budget l.fn.machine.state rounds l.machine.state;
  left_out : count_by is_none rounds ≡ l.left;
  number : length rounds ≡ l.turn;
  few_left : l.left ≤ l.turn;
  began : l.turn ≤ length l.machine.state.journal;
  few : length l.machine.state.journal < l.budget + 17 * tile_count (chip_of l.fn.machine.document);
  document : l.machine.document ≡ l.fn.machine.document;
  room : l.machine.room ≡ l.fn.machine.room;
}

-- the events for which there is room
abbrev pub decreases-loop-finish : goal.decreases-loop-finish
decreases-loop-finish g l = l.budget + 17 * tile_count (chip_of l.fn.machine.document) - length l.machine.state.journal
