-- A copy leads to some tile, and the channels of the router at its next hop.
use Rattle.std.proofs.Common.{◌≡◌, ℕ, zero, suc, ◌+◌, ◌<◌, Bool, true, false, refl, ◌∙◌, ap, arith, Option, Some, None, [], length}
use Rattle.std.specs.Prelude.{slice_get, is_some, ◌&&◌}
use Rattle.std.specs.Option.{option_or}
use Rattle.std.proofs.lemmas.List.{length-replicate}
use Rattle.std.proofs.lemmas.Option.{slice_get-get_or, get_or_from_slice_get}
use Rattle.mesh_gen.specs.declared.port.Port.{Port}
use Rattle.mesh_gen.specs.declared.port.Port.TheVariants.{L, E, W, N, S}
use Rattle.mesh_gen.specs.Grid.{Grid, tiles, neighbour}
use Rattle.mesh_gen.specs.Ports.{port_number, opposite}
use Rattle.mesh_gen.specs.Routes.{HasTiles}
use Rattle.mesh_gen.specs.Tree.{leaves_by, Edge, Leads, here, there}
use Rattle.mesh_gen.proofs.Led.{edge_from}
use Rattle.mesh_gen.proofs.Beside.{neighbour_inside}
use Rattle.vc_bank.specs.Channels.{Channels, slots_at, empty_channels, lowest_free, reserved_free, normal_slots, is_there_and_free}
use Rattle.vc_bank.specs.Places.{Network, at, slots}
use Rattle.vc_bank.proofs.SlotWrites.{outer_within}
use Rattle.vc_bank.proofs.PlaceLaws.{place_of}
use Rattle.chip_model.specs.declared.net_copy.NetCopy.{NetCopy}
use Rattle.mesh_gen.specs.Partial.{when}
use Rattle.chip_model.specs.Copies.{channels_of, entry_slot}
use Rattle.chip_model.specs.NetworkShape.{HasChannels}
use Rattle.net_iface.proofs.Places.{item_at}

-- ---- a port of the tree leads to some tile
pub record LeadsToTile (g : Grid) (s r : ℕ) (out : Port) : Type 0 where
  pub tile : ℕ
  pub inside : tile < tiles g
  pub leads : Leads g s r out tile

by_side : (g : Grid) (s r : ℕ) (out : Port) → HasTiles g → (n : ℕ) × Edge g s r out n → LeadsToTile g s r out
by_side g s r out some edge = record { tile = edge.0; inside = neighbour_inside g r out edge.0 some edge.1.next; leads = there edge.1 here }

pub leads_to_tile : (g : Grid) (s r : ℕ) (out : Port) → HasTiles g → r < tiles g → leaves_by g s r out ≡ true → LeadsToTile g s r out
leads_to_tile g s r L some inside leaves = record { tile = r; inside = inside; leads = here }
leads_to_tile g s r E some inside leaves = by_side g s r E some (edge_from g s r E (λ same. cc) leaves)
leads_to_tile g s r W some inside leaves = by_side g s r W some (edge_from g s r W (λ same. cc) leaves)
leads_to_tile g s r N some inside leaves = by_side g s r N some (edge_from g s r N (λ same. cc) leaves)
leads_to_tile g s r S some inside leaves = by_side g s r S some (edge_from g s r S (λ same. cc) leaves)

-- ---- ports by their numbers
pub record IsPort (number : ℕ) : Type 0 where
  pub port : Port
  pub is : port_number port ≡ number

pub port_of : (number : ℕ) → number < 5 → IsPort number
port_of zero below = record { port = L; is = refl }
port_of (suc zero) below = record { port = E; is = refl }
port_of (suc (suc zero)) below = record { port = W; is = refl }
port_of (suc (suc (suc zero))) below = record { port = N; is = refl }
port_of (suc (suc (suc (suc zero)))) below = record { port = S; is = refl }
port_of (suc (suc (suc (suc (suc n))))) below = absurd (omega arith)

-- ---- the channels of a router
pub bank_there : {P : Type 0} (g : Grid) (normal : ℕ) (reserved : Bool) (net : Network P) (r : ℕ) → HasChannels g normal reserved net → r < tiles g → slice_get net r ≡ Some (channels_of net r)
bank_there g normal reserved net r have inside = slice_get-get_or net r [] (omega (arith, have.routers))

pub port_below : {P : Type 0} (g : Grid) (normal : ℕ) (reserved : Bool) (net : Network P) (r p slot : ℕ) (packet : P) → HasChannels g normal reserved net → r < tiles g
    → at net r p slot ≡ Some packet → p < 5
unfolding slots
port_below g normal reserved net r p slot packet have inside stands =
    let within : slot < length (slots_at (channels_of net r) p) = place_of net r p slot packet stands in
    omega (arith, outer_within (channels_of net r) p slot within, have.ports r (channels_of net r) (bank_there g normal reserved net r have inside))

pub normal_there : {P : Type 0} (g : Grid) (normal : ℕ) (reserved : Bool) (net : Network P) (r : ℕ) → HasChannels g normal reserved net → r < tiles g → normal_slots (channels_of net r) ≡ normal
normal_there {P} g normal reserved net r have inside = have.slots r 0 (channels_of net r) (bank_there g normal reserved net r have inside) ∙ length-replicate {A = Option P} normal None

-- a packet that a list of slots has stands there
pub stands_there : {P : Type 0} (net : Network P) (r p slot : ℕ) (packet : P) → slice_get (slots_at (channels_of net r) p) slot ≡ Some (Some packet) → at net r p slot ≡ Some packet
unfolding at
stands_there net r p slot packet is = get_or_from_slice_get (slots_at (channels_of net r) p) slot (Some packet) None is

-- the port by which a packet comes from a neighbour has a reserved channel
reserved_slots : (P : Type 0) (vcs : ℕ) (g : Grid) (r : ℕ) (out : Port) (n : ℕ) → neighbour g r out ≡ Some n
    → length (slots_at (empty_channels {P = P} vcs true) (port_number (opposite out))) ≡ vcs + 1
reserved_slots P vcs g r L n next = cc
reserved_slots P vcs g r E n next = length-replicate {A = Option P} (vcs + 1) None
reserved_slots P vcs g r W n next = length-replicate {A = Option P} (vcs + 1) None
reserved_slots P vcs g r N n next = length-replicate {A = Option P} (vcs + 1) None
reserved_slots P vcs g r S n next = length-replicate {A = Option P} (vcs + 1) None

-- the reserved channel of that port is free, or a copy stands in it
pub data ReservedIs (net : Network NetCopy) (n p vcs : ℕ) : Type 0 where
  free : reserved_free (channels_of net n) p ≡ true → ReservedIs net n p vcs
  held : (copy : NetCopy) → at net n p vcs ≡ Some copy → ReservedIs net n p vcs

pub reserved_is : (g : Grid) (vcs : ℕ) (net : Network NetCopy) (r : ℕ) (out : Port) (n : ℕ) → HasTiles g → HasChannels g vcs true net → neighbour g r out ≡ Some n
    → ReservedIs net n (port_number (opposite out)) vcs
reserved_is g vcs net r out n some have next =
    let p = port_number (opposite out) in
    let inside = neighbour_inside g r out n some next in
    let long : length (slots_at (channels_of net n) p) ≡ vcs + 1 = have.slots n p (channels_of net n) (bank_there g vcs true net n have inside) ∙ reserved_slots NetCopy vcs g r out n next in
    let one = item_at (slots_at (channels_of net n) p) vcs (omega arith) in
    by p one.item one.there (normal_there g vcs true net n have inside)
  where
    by : (p : ℕ) (packet : Option NetCopy) → slice_get (slots_at (channels_of net n) p) vcs ≡ Some packet → normal_slots (channels_of net n) ≡ vcs → ReservedIs net n p vcs
    by p None is normal = free (ap (λ (slot : ℕ). is_there_and_free (slice_get (slots_at (channels_of net n) p) slot)) normal ∙ ap is_there_and_free is)
    by p (Some copy) is normal = held copy (stands_there net n p vcs copy is)

-- where the reserved channel is free, a request that is expected comes in
pub comes_in : (channels : Channels NetCopy) (port : Port) → reserved_free channels (port_number port) ≡ true → is_some (entry_slot channels port true) ≡ true
comes_in channels port is_free = by (lowest_free channels (port_number port)) (reserved_free channels (port_number port)) is_free
  where
    by : (lowest : Option ℕ) (spare : Bool) → spare ≡ true → is_some (option_or lowest (when (true && spare) (Some (normal_slots channels)))) ≡ true
    by None true is = refl
    by None false is = cc
    by (Some slot) spare is = refl
