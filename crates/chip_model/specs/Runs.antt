-- Runs: lists of events, each of which is possible in the state that those before it leave.
use Rattle.std.specs.Prelude.{◌≡◌, Bool, List, [], ◌∷◌, ◌++◌, Option, Some, is_some}
use Rattle.mesh_gen.specs.Partial.{◌>>=◌}
use Rattle.report_text.specs.declared.event.Event.{Event}
use Rattle.doc_text.specs.Doc.{Doc}
use Rattle.chip_model.specs.Chip.{Chip, chip_of}
use Rattle.chip_model.specs.Units.{Behaviour}
use Rattle.chip_model.specs.ChipState.{ChipState, opening}
use Rattle.chip_model.specs.Events.{step}

-- the state with an event in its journal
abbrev pub noted : Event → ChipState → ChipState
noted event s = record s { journal = s.journal ++ event ∷ [] }

-- the state after an event: none where it is not possible
unfoldable pub after : Behaviour → Chip → ChipState → Event → Option ChipState
after behaviour chip s event = step behaviour chip s event >>= (λ new. Some (noted event new))

-- whether an event is possible in a state
unfoldable pub enabled : Behaviour → Chip → ChipState → Event → Bool
enabled behaviour chip s event = is_some (step behaviour chip s event)

-- the state after a list of events
unfoldable pub run : Behaviour → Chip → ChipState → List Event → Option ChipState
run behaviour chip s [] = Some s
run behaviour chip s (event ∷ events) = after behaviour chip s event >>= (λ new. run behaviour chip new events)

-- a state of a document's runs: its journal leads to it
abbrev pub IsReachable : Behaviour → Doc → ChipState → Type 0
IsReachable behaviour d s = run behaviour (chip_of d) (opening d) s.journal ≡ Some s
