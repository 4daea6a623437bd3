-- The copies of requests in the routers' channels. A copy owes the ports of its source's tree by which it has to leave.
use Rattle.std.specs.Prelude.{ℕ, suc, ◌==◌, Bool, true, false, ◌&&◌, [], ◌∷◌, Option, Some, None, option_map, slice_index_or, position, replicate, if◌then◌else◌}
use Rattle.std.specs.Option.{option_or}
use Rattle.mesh_gen.specs.declared.request.Request.{Request}
use Rattle.mesh_gen.specs.declared.port.Port.{Port}
use Rattle.mesh_gen.specs.declared.port.Port.TheVariants.{L}
use Rattle.mesh_gen.specs.Grid.{Grid, tiles, neighbour}
use Rattle.mesh_gen.specs.Ports.{port_number, opposite, has, without_port}
use Rattle.mesh_gen.specs.PortSets.{bits_of, ports_of}
use Rattle.mesh_gen.specs.Tree.{tree_outs}
use Rattle.mesh_gen.specs.Partial.{when, ◌>>=◌}
use Rattle.vc_bank.specs.Channels.{Channels, empty_channels, lowest_free, reserved_free, normal_slots}
use Rattle.vc_bank.specs.Places.{Network, at, put}
use Rattle.chip_model.specs.declared.net_copy.NetCopy.{NetCopy}

-- no copy in any router; each port has so many normal channels, and those between routers a reserved one
abbrev pub no_copies : Grid → ℕ → Network NetCopy
no_copies g vcs = replicate (tiles g) (empty_channels vcs true)

-- the channels of a router
abbrev pub channels_of : {P : Type 0} → Network P → ℕ → Channels P
channels_of network r = slice_index_or network r []

-- a request is named by its source, and by how many requests that source made before
abbrev pub Name : Type 0
Name = ℕ × ℕ

-- the name of a request: its tile and its number there
abbrev pub name_of : Request → Name
name_of q = (q.source, q.number)

-- whether a request has this name
abbrev pub is_named : Name → Request → Bool
is_named name q = (q.source == name.0) && (q.number == name.1)

-- a copy that comes to a router owes all ports of the tree there
abbrev pub arriving : Grid → ℕ → Request → NetCopy
arriving g r q = record { request = q; owed = ports_of (tree_outs g q.source r) }

-- what is left of a copy once it has left by a port: nothing where that was the last that it owed
abbrev pub copy_owing : Request → ℕ → Option NetCopy
copy_owing q owed = if owed == 0 then None else Some (record { request = q; owed = ports_of owed })

-- a copy once it has left by a port, as long as it owes another
abbrev pub left_by : Port → NetCopy → Option NetCopy
left_by out copy = copy_owing copy.request (without_port (bits_of copy.owed) out)

-- whether a copy has to leave by a port
abbrev pub owes : NetCopy → Port → Bool
owes copy out = has (bits_of copy.owed) out

-- a request enters the lowest free channel of its own router's local port
unfoldable pub after_entry : Grid → Network NetCopy → Request → Option (Network NetCopy)
after_entry g net q =
    lowest_free (channels_of net q.source) (port_number L) >>= (λ slot.
    Some (put net q.source (port_number L) slot (Some (arriving g q.source q))))

-- the channel that takes in a copy: the lowest free normal one; where there is none the reserved one, if it is free and
-- the request is the one expected there
abbrev pub entry_slot : Channels NetCopy → Port → Bool → Option ℕ
entry_slot channels port is_expected =
    option_or (lowest_free channels (port_number port)) (when (is_expected && reserved_free channels (port_number port)) (Some (normal_slots channels)))

-- whether a tile expects a request next
abbrev pub expects : Option Name → Request → Bool
expects None q = false
expects (Some name) q = is_named name q

-- a copy leaves by a side and comes to the neighbour there, which expects this request next
unfoldable pub after_hop : Grid → Network NetCopy → ℕ → Port → ℕ → Port → Option Name → Option (Network NetCopy)
after_hop g net r port slot out expected =
    at net r (port_number port) slot >>= (λ copy. when (owes copy out) (
    neighbour g r out >>= (λ to.
    entry_slot (channels_of net to) (opposite out) (expects expected copy.request) >>= (λ entry.
    Some (put (put net r (port_number port) slot (left_by out copy)) to (port_number (opposite out)) entry (Some (arriving g to copy.request)))))))

-- whether a channel holds a copy of this request that owes the router's own tile
abbrev pub owes_tile : Name → Option NetCopy → Bool
owes_tile name None = false
owes_tile name (Some copy) = is_named name copy.request && owes copy L

-- the first such channel of a router, by its port and slot
abbrev pub local_place_from : Name → ℕ → Channels NetCopy → Option (ℕ × ℕ)
local_place_from name port [] = None
local_place_from name port (slots ∷ ports) =
    option_or (option_map (λ slot. (port, slot)) (position (owes_tile name) slots)) (local_place_from name (suc port) ports)

-- the channel of a router in which a request waits for its tile
unfoldable pub local_place : Network NetCopy → ℕ → Name → Option (ℕ × ℕ)
local_place net r name = local_place_from name 0 (channels_of net r)

-- the request that is served to the router's own tile from that channel, and the copies then
unfoldable pub after_serve : Network NetCopy → ℕ → Name → Option (Request × Network NetCopy)
after_serve net r name =
    local_place net r name >>= (λ place.
    at net r place.0 place.1 >>= (λ copy.
    Some (copy.request, put net r place.0 place.1 (left_by L copy))))
