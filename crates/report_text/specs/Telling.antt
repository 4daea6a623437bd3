-- What the reader finds that one line tells.
use Rattle.std.specs.Prelude.{◌≡◌, ℕ, IsTrue, List}
use Rattle.report_text.specs.declared.reading.Told.{Told}
use Rattle.report_text.specs.declared.reading.Told.TheVariants.{Event, Nothing, Bad}
use Rattle.report_text.specs.Events.{IsWithinLimits}
use Rattle.report_text.specs.Reading.{is_passed, IsGood}
use Rattle.report_text.specs.Report.{event_line}

-- a line tells this: an event, nothing, or that it is bad
abbrev pub IsToldBy : List ℕ → Told → Type 0
IsToldBy line (Event e) = IsWithinLimits e × (line ≡ event_line e)
IsToldBy line Nothing = IsTrue (is_passed line)
IsToldBy line Bad = IsGood line → ⊥
