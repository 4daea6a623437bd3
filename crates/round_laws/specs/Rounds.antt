-- Rounds: each tile does core events by itself, some get a turn, one after the other; and runs that are made of rounds.
use Rattle.std.specs.Prelude.{◌≡◌, ◌≢◌, ◌⊎◌, ℕ, ◌<◌, ◌||◌, nat_le, Bool, true, false, List, [], ◌∷◌, length, find, count_by, AllPairs, Contains, Option, Some, None, is_none}
use Rattle.order_tracker.specs.Order.{upwards}
use Rattle.mesh_gen.specs.TileSet.{has_tile}
use Rattle.report_text.specs.declared.entry.Entry.{Entry}
use Rattle.report_text.specs.declared.event.Event.{Event}
use Rattle.chip_model.specs.Chip.{Chip}
use Rattle.chip_model.specs.Units.{Behaviour}
use Rattle.chip_model.specs.ChipState.{ChipState, finished}
use Rattle.chip_model.specs.Runs.{after, enabled, run}
use Rattle.chip_model.specs.Schedules.{slots}
use Rattle.round_laws.specs.Turns.{FindsNothing, TurnsLead, has_turn, left_over}

-- A round from one state to another, in which the tiles of a set came to a turn: first the turns, one after the other, and then
-- the core events of the tiles that had none.
pub record IsRound (b : Behaviour) (chip : Chip) (turn had : ℕ) (start new : ChipState) : Type 0 where
  pub turns : List Entry
  -- the state after the turns
  pub last : ChipState
  pub lead : TurnsLead b chip turn start start turns last
  -- no tile has two
  pub once : AllPairs (λ entry later. entry.by ≢ later.by) turns
  -- whoever has one came to a turn; those who came and have none found nothing that was possible
  pub had_turns : (entry : Entry) → Contains turns entry → has_tile had entry.by ≡ true
  pub had_nothing : (t : ℕ) → has_tile had t ≡ true → has_turn turns t ≡ false → FindsNothing b chip turn start turns t
  -- some tile came to a turn, and none but tiles did
  pub some : (t : ℕ) × (has_tile had t ≡ true)
  pub tiles : (t : ℕ) → has_tile had t ≡ true → t < length start.units
  pub left : run b chip last (left_over b start turns (upwards 0 (length start.units))) ≡ Some new

-- a run of rounds ends where the chip is finished or the journal has as many events as the budget
abbrev pub is_over : ℕ → ChipState → Bool
is_over budget s = nat_le budget (length s.journal) || finished s

-- between two rounds of a run that has not ended, the possible event of the lowest slot is done
pub record GoesOn (b : Behaviour) (chip : Chip) (budget : ℕ) (s new : ChipState) : Type 0 where
  pub going : is_over budget s ≡ false
  pub event : Event
  pub first : find (enabled b chip s) (slots chip) ≡ Some event
  pub done : after b chip s event ≡ Some new

-- a round in which the tiles of a set came to a turn, or one that was left out for want of memory
abbrev pub DoesRound : Behaviour → Chip → ℕ → Option ℕ → ChipState → ChipState → Type 0
DoesRound b chip turn None s new = s ≡ new
DoesRound b chip turn (Some had) s new = IsRound b chip turn had s new

-- rounds, the last one first, each of them after the possible event of the lowest slot, lead from a state to another; the run ended at none of them
abbrev pub RoundsLead : Behaviour → Chip → ℕ → ChipState → List (Option ℕ) → ChipState → Type 0
RoundsLead b chip budget start [] new = start ≡ new
RoundsLead b chip budget start (round ∷ earlier) new =
    (before : ChipState) × (between : ChipState) × RoundsLead b chip budget start earlier before × GoesOn b chip budget before between
    × (is_over budget between ≡ false) × DoesRound b chip (length earlier) round between new

-- a run of rounds, of which so many were left out, from a state to the one in which it has ended: with a round, or with the event
-- between two rounds
pub record IsRunOfRounds (b : Behaviour) (chip : Chip) (budget left : ℕ) (start new : ChipState) : Type 0 where
  pub rounds : List (Option ℕ)
  pub last : ChipState
  pub lead : RoundsLead b chip budget start rounds last
  pub left_out : count_by is_none rounds ≡ left
  pub ends : (last ≡ new) ⊎ GoesOn b chip budget last new
  pub over : is_over budget new ≡ true
