-- The packed word of a journal's entry.
use Rattle.std.specs.Prelude.{ℕ, ◌+◌, ◌*◌, ◌^◌, ◌≤◌}
use Rattle.mesh_gen.specs.Ports.{port_number}
use Rattle.report_text.specs.declared.entry.Entry.{Entry}
use Rattle.report_text.specs.declared.operands.Fields.{Fields}
use Rattle.report_text.specs.declared.operands.Operands.{Operands}
use Rattle.report_text.specs.declared.operands.Operands.TheVariants.{Nothing, Tile, Channel, Way}
use Rattle.report_text.specs.Events.{event_form, IsWithinLimits}

-- the fields of what an event names; those that it lacks are 0
abbrev pub fields_of : Operands → Fields
fields_of Nothing = record { tile = 0; port = 0; slot = 0; out = 0 }
fields_of (Tile t) = record { tile = t; port = 0; slot = 0; out = 0 }
fields_of (Channel r port slot) = record { tile = r; port = port_number port; slot = slot; out = 0 }
fields_of (Way r port slot out) = record { tile = r; port = port_number port; slot = slot; out = port_number out }

-- the word of these fields after those of the entry: its own events, its tile and its event's kind
abbrev pub packed_fields : ℕ → ℕ → ℕ → Fields → ℕ
packed_fields cores by kind f = cores * 2 ^ 26 + by * 2 ^ 20 + kind * 2 ^ 16 + f.tile * 2 ^ 10 + f.port * 2 ^ 7 + f.slot * 2 ^ 3 + f.out

-- the packed word of an entry
abbrev pub packed : Entry → ℕ
packed entry = packed_fields entry.cores entry.by (event_form entry.event).number (fields_of (event_form entry.event).operands)

-- an entry that has a packed word
pub record IsValid (entry : Entry) : Type 0 where
  pub tile : entry.by ≤ 63
  pub cores : entry.cores ≤ 16
  pub event : IsWithinLimits entry.event
