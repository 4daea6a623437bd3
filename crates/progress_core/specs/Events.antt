-- Parts of a list of events.
use Rattle.std.specs.Prelude.{ℕ, ◌-◌, List, take, drop}
use Rattle.report_text.specs.declared.event.Event.{Event}

-- the events from one place of a list up to another
abbrev pub events_between : ℕ → ℕ → List Event → List Event
events_between first last events = take (last - first) (drop first events)
