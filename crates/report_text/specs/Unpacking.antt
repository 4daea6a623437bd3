-- What the code takes out of a packed word, before it is packed again and compared.
use Rattle.std.specs.Prelude.{ℕ, ◌/◌, ◌%◌, ◌^◌, ◌==◌, Option, Some, None, if◌then◌else◌}
use Rattle.std.specs.Option.{option_and_then}
use Rattle.mesh_gen.specs.declared.port.Port.{Port}
use Rattle.mesh_gen.specs.declared.port.Port.TheVariants.{L, E, W, N, S}
use Rattle.report_text.specs.declared.entry.Entry.{Entry}
use Rattle.report_text.specs.declared.event.Event.{Event}
use Rattle.report_text.specs.declared.event.Event.TheVariants.{Tick, Core, Inject, Post, Take, Eject, Send, Hop, DataHop, DataEject}
use Rattle.report_text.specs.declared.operands.Fields.{Fields}

-- the port of this number
abbrev pub port_numbered : ℕ → Option Port
port_numbered n =
    if n == 0 then Some L else if n == 1 then Some E else if n == 2 then Some W else if n == 3 then Some N else if n == 4 then Some S else None

-- a reply's event, where its port is one
abbrev pub at_channel : (Port → Event) → ℕ → Option Event
at_channel event port = option_and_then (λ p. Some (event p)) (port_numbered port)

-- the event of the kind with this number, with the fields that it names
abbrev pub event_numbered : ℕ → Fields → Option Event
event_numbered n f =
    if n == 0 then Some Tick
    else if n == 1 then Some (Core f.tile)
    else if n == 2 then Some (Inject f.tile)
    else if n == 3 then Some (Post f.tile)
    else if n == 4 then Some (Take f.tile)
    else if n == 5 then Some (Eject f.tile)
    else if n == 6 then Some (Send f.tile)
    else if n == 7 then option_and_then (λ port. option_and_then (λ out. Some (Hop f.tile port f.slot out)) (port_numbered f.out)) (port_numbered f.port)
    else if n == 8 then at_channel (λ port. DataHop f.tile port f.slot) f.port
    else if n == 9 then at_channel (λ port. DataEject f.tile port f.slot) f.port
    else None

-- the fields that a word has where it is a packed one
abbrev pub fields_near : ℕ → Fields
fields_near word = record { tile = word / 2 ^ 10 % 64; port = word / 2 ^ 7 % 8; slot = word / 2 ^ 3 % 16; out = word % 8 }

-- the entry of the numbers in the fields of a word
abbrev pub entry_near : ℕ → Option Entry
entry_near word =
    option_and_then (λ event. Some (record { by = word / 2 ^ 20 % 64; cores = word / 2 ^ 26 % 64; event = event })) (event_numbered (word / 2 ^ 16 % 16) (fields_near word))
