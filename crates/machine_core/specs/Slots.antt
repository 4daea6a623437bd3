-- The slots of a tile that name no channel.
use Rattle.std.specs.Prelude.{ℕ, List, [], ◌∷◌}
use Rattle.report_text.specs.declared.event.Event.{Event}
use Rattle.report_text.specs.declared.event.Event.TheVariants.{Core, Inject, Post, Take, Eject, Send}

-- the core event, and what a tile does at its interface
abbrev pub own_events : ℕ → List Event
own_events t = Core t ∷ Inject t ∷ Post t ∷ Take t ∷ Eject t ∷ Send t ∷ []
