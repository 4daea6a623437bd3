-- The table of the events: the word of each kind, its number in a packed word, and what it names. The text and the packed
-- word of an event follow from it. A new kind of event has a line here, and one in each match of `Event`.
use Rattle.std.specs.Prelude.{◌≢◌, ℕ, ◌≤◌, List, [], ◌∷◌, codes, decimal}
use Rattle.mesh_gen.specs.declared.port.Port.{Port}
use Rattle.mesh_gen.specs.declared.port.Port.TheVariants.{L, E, W, N, S}
use Rattle.report_text.specs.declared.event.Event.{Event}
use Rattle.report_text.specs.declared.event.Event.TheVariants.{Tick, Core, Inject, Post, Take, Eject, Send, Hop, DataHop, DataEject}
use Rattle.report_text.specs.declared.operands.Operands.{Operands}
use Rattle.report_text.specs.declared.operands.Operands.TheVariants.{Nothing, Tile, Channel, Way}

-- of an event its word, its number in a packed word, and what it names
pub record EventForm : Type 0 where
  pub word : List ℕ
  pub number : ℕ
  pub operands : Operands

-- the table
abbrev pub event_form : Event → EventForm
event_form Tick = record { word = codes "tick"; number = 0; operands = Nothing }
event_form (Core t) = record { word = codes "core"; number = 1; operands = Tile t }
event_form (Inject t) = record { word = codes "inject"; number = 2; operands = Tile t }
event_form (Post t) = record { word = codes "post"; number = 3; operands = Tile t }
event_form (Take t) = record { word = codes "take"; number = 4; operands = Tile t }
event_form (Eject t) = record { word = codes "eject"; number = 5; operands = Tile t }
event_form (Send t) = record { word = codes "send"; number = 6; operands = Tile t }
event_form (Hop r port slot out) = record { word = codes "hop"; number = 7; operands = Way r port slot out }
event_form (DataHop r port slot) = record { word = codes "datahop"; number = 8; operands = Channel r port slot }
event_form (DataEject r port slot) = record { word = codes "dataeject"; number = 9; operands = Channel r port slot }

-- the word of a port
abbrev pub port_word : Port → List ℕ
port_word L = codes "l"
port_word E = codes "e"
port_word W = codes "w"
port_word N = codes "n"
port_word S = codes "s"

-- the words of what an event names
abbrev pub operand_words : Operands → List (List ℕ)
operand_words Nothing = []
operand_words (Tile t) = decimal t ∷ []
operand_words (Channel r port slot) = decimal r ∷ port_word port ∷ decimal slot ∷ []
operand_words (Way r port slot out) = decimal r ∷ port_word port ∷ decimal slot ∷ port_word out ∷ []

-- the words of an event's line
abbrev pub event_words : Event → List (List ℕ)
event_words e = codes "e" ∷ (event_form e).word ∷ operand_words (event_form e).operands

-- tiles and routers up to 63, slots up to 15, and a way that leaves the router
abbrev pub AreWithin : Operands → Type 0
AreWithin Nothing = Unit {0}
AreWithin (Tile t) = t ≤ 63
AreWithin (Channel r port slot) = (r ≤ 63) × (slot ≤ 15)
AreWithin (Way r port slot out) = (r ≤ 63) × (slot ≤ 15) × (out ≢ L)

-- an event within these limits, which a packed word has room for
abbrev pub IsWithinLimits : Event → Type 0
IsWithinLimits e = AreWithin (event_form e).operands
