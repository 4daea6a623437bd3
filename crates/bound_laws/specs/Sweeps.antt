-- The runs by the offsets of a pace.
use Rattle.std.specs.Prelude.{ℕ, ◌≤◌, List, length, map}
use Rattle.order_tracker.specs.Order.{upwards}
use Rattle.doc_text.specs.Doc.{Doc}
use Rattle.chip_model.specs.Units.{Behaviour}
use Rattle.chip_model.specs.ChipState.{ChipState}
use Rattle.chip_model.specs.Schedules.{IsSweptTo}

-- the offsets that a pace gives to its first sweeps, where it gives each of them its own
abbrev pub first_offsets : (ℕ → ℕ) → ℕ → List ℕ
first_offsets pace sweeps = map pace (upwards 0 sweeps)

-- a run by a pace ends: after so many sweeps, in this state; it has at least an event for each sweep, and no more than the
-- budget
pub record SweepsEnd (b : Behaviour) (d : Doc) (budget : ℕ) (pace : ℕ → ℕ) : Type 0 where
  pub sweeps : ℕ
  pub state : ChipState
  pub swept : IsSweptTo b d budget (first_offsets pace sweeps) state
  pub few : sweeps ≤ length state.journal
  pub within : length state.journal ≤ budget
