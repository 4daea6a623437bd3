-- The messages in the routers' reply channels. Each goes to one tile, along its row first and then along its column.
use Rattle.std.specs.Prelude.{ℕ, ◌==◌, Bool, false, Option, Some, None, is_none, replicate}
use Rattle.std.specs.List.{list_all}
use Rattle.mesh_gen.specs.declared.msg.Msg.{Msg}
use Rattle.mesh_gen.specs.declared.port.Port.{Port}
use Rattle.mesh_gen.specs.declared.port.Port.TheVariants.{L}
use Rattle.mesh_gen.specs.Grid.{Grid, tiles, neighbour}
use Rattle.mesh_gen.specs.Ports.{port_number, opposite}
use Rattle.mesh_gen.specs.Routes.{route}
use Rattle.mesh_gen.specs.Partial.{when, ◌>>=◌}
use Rattle.vc_bank.specs.Channels.{empty_channels, lowest_free}
use Rattle.vc_bank.specs.Places.{Network, at, put}
use Rattle.chip_model.specs.declared.channel.Channel.{Channel}
use Rattle.chip_model.specs.Copies.{channels_of}

-- no message in any router; each port has so many channels
abbrev pub no_replies : Grid → ℕ → Network Msg
no_replies g data_vcs = replicate (tiles g) (empty_channels data_vcs false)

-- a message enters the lowest free channel of a router's local port
unfoldable pub after_send : Network Msg → ℕ → Msg → Option (Network Msg)
after_send net r msg =
    lowest_free (channels_of net r) (port_number L) >>= (λ slot.
    Some (put net r (port_number L) slot (Some msg)))

-- the channel to which a message goes next: the lowest free one at the port by which its route enters the next router; no router is next at its own tile
unfoldable pub next_channel : Grid → Network Msg → ℕ → Msg → Option Channel
next_channel g net r msg = let out = route g r msg.to in
    neighbour g r out >>= (λ to.
    lowest_free (channels_of net to) (port_number (opposite out)) >>= (λ slot.
    Some (record { router = to; port = opposite out; slot = slot })))

-- the message in a channel goes on to the next one
unfoldable pub after_data_hop : Grid → Network Msg → ℕ → Port → ℕ → Option (Network Msg)
after_data_hop g net r port slot =
    at net r (port_number port) slot >>= (λ msg.
    next_channel g net r msg >>= (λ next.
    Some (put (put net r (port_number port) slot None) next.router (port_number next.port) next.slot (Some msg))))

-- the message that leaves a channel at its own tile, and the messages then
unfoldable pub after_data_eject : Network Msg → ℕ → Port → ℕ → Option (Msg × Network Msg)
after_data_eject net r port slot =
    at net r (port_number port) slot >>= (λ msg. when (msg.to == r)
    (Some (msg, put net r (port_number port) slot None)))

-- no message stands in any channel
abbrev pub is_empty : Network Msg → Bool
is_empty net = list_all (list_all (list_all is_none)) net
