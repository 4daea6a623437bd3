-- How a copy leaves a router by a side, told before what is expected at the next router is known.
use Rattle.std.specs.Prelude.{◌≡◌, ℕ, Bool, true, false, not, ◌||◌, Option, Some, option_map}
use Rattle.std.specs.Option.{option_or}
use Rattle.mesh_gen.specs.declared.port.Port.{Port}
use Rattle.mesh_gen.specs.Grid.{Grid, neighbour}
use Rattle.mesh_gen.specs.Partial.{when}
use Rattle.mesh_gen.specs.Ports.{port_number, opposite}
use Rattle.vc_bank.specs.Channels.{Channels, lowest_free, reserved_free, normal_slots}
use Rattle.vc_bank.specs.Places.{Network, at}
use Rattle.chip_model.specs.declared.net_copy.NetCopy.{NetCopy}
use Rattle.chip_model.specs.Copies.{Name, owes, channels_of, entry_slot, expects}
use Rattle.router_xy.specs.declared.way.Entry.{Entry}
use Rattle.router_xy.specs.declared.way.Way.{Way}

-- a normal channel, and the reserved one
abbrev pub normal_entry : ℕ → Entry
normal_entry slot = record { slot = slot; is_reserved = false }

abbrev pub reserved_entry : ℕ → Entry
reserved_entry slot = record { slot = slot; is_reserved = true }

-- the channel of a port that is free for a copy: the lowest normal one, and where there is none the reserved one
abbrev pub free_entry : Channels NetCopy → Port → Option Entry
free_entry channels port =
    option_or (option_map normal_entry (lowest_free channels (port_number port))) (when (reserved_free channels (port_number port)) (Some (reserved_entry (normal_slots channels))))

-- the reserved channel takes in the request alone that is expected at its router
abbrev pub takes_in : Way → Option Name → Bool
takes_in way expected = not way.entry.is_reserved || expects expected way.copy.request

-- a copy owes an output port, there is a router there, and a channel of it is free
pub record IsWay (g : Grid) (net : Network NetCopy) (r : ℕ) (port : Port) (slot : ℕ) (out : Port) (way : Way) : Type 0 where
  pub stands : at net r (port_number port) slot ≡ Some way.copy
  pub owed : owes way.copy out ≡ true
  pub next : neighbour g r out ≡ Some way.to
  pub entry : free_entry (channels_of net way.to) (opposite out) ≡ Some way.entry

-- the same where that channel takes the copy in: the copy can go
pub record IsOpenHop (g : Grid) (net : Network NetCopy) (r : ℕ) (port : Port) (slot : ℕ) (out : Port) (expected : Option Name) (way : Way) : Type 0 where
  pub stands : at net r (port_number port) slot ≡ Some way.copy
  pub owed : owes way.copy out ≡ true
  pub next : neighbour g r out ≡ Some way.to
  pub entry : entry_slot (channels_of net way.to) (opposite out) (expects expected way.copy.request) ≡ Some way.entry.slot
