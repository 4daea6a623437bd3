-- What it is for a chip to be never stuck.
use Rattle.std.specs.Prelude.{◌≡◌, true}
use Rattle.report_text.specs.declared.event.Event.{Event}
use Rattle.chip_model.specs.Chip.{Chip}
use Rattle.chip_model.specs.Units.{Behaviour}
use Rattle.chip_model.specs.ChipState.{ChipState}
use Rattle.chip_model.specs.Runs.{enabled}

-- some event is possible
pub record SomeIsEnabled (b : Behaviour) (chip : Chip) (s : ChipState) : Type 0 where
  pub event : Event
  pub possible : enabled b chip s event ≡ true
