-- Of the messages in the channels the one of least rank can move.
use Rattle.std.proofs.Common.{◌≡◌, ◌≢◌, ◌⊎◌, ℕ, zero, suc, ◌+◌, ◌<◌, Bool, true, false, Option, Some, None, length, refl, sym, ◌∙◌, inl, inr, arith}
use Rattle.std.specs.Prelude.{slice_get, is_some}
use Rattle.std.proofs.lemmas.Bool.{cases_lt, cases_eq, eq-eqb}
use Rattle.std.proofs.lemmas.List.{length-replicate}
use Rattle.mesh_gen.specs.declared.msg.Msg.{Msg}
use Rattle.mesh_gen.specs.declared.port.Port.{Port}
use Rattle.mesh_gen.specs.declared.port.Port.TheVariants.{L, E, W, N, S}
use Rattle.mesh_gen.specs.Grid.{Grid, tiles, neighbour}
use Rattle.mesh_gen.specs.Ports.{port_number, opposite}
use Rattle.mesh_gen.specs.Routes.{HasTiles, route, rank}
use Rattle.mesh_gen.proofs.RouteHops.{route_goes_on, rank-hop}
use Rattle.vc_bank.specs.Channels.{slots_at, empty_channels, lowest_free, normal_slots}
use Rattle.vc_bank.specs.Places.{Network, at, slots, weigh}
use Rattle.vc_bank.proofs.FreeSlots.{none-lowest_free}
use Rattle.vc_bank.proofs.SlotWrites.{outer_within}
use Rattle.vc_bank.proofs.PlaceLaws.{place_of, weigh_at, Found, found}
use Rattle.chip_model.specs.Copies.{channels_of}
use Rattle.chip_model.specs.Replies.{next_channel, after_data_hop, after_data_eject}
use Rattle.chip_model.specs.NetworkShape.{HasChannels, IsOnRoute}
use Rattle.net_iface.proofs.Places.{item_at}
use Rattle.flow_laws.specs.MessageMoves.{MessageMoves, message_hops, message_ejects, NoMessages, AreForTiles}
use Rattle.flow_laws.proofs.RouterChannels.{port_of, port_below, bank_there, normal_there, stands_there}

-- ---- the first slot of a port
pub reply_slots : (P : Type 0) (vcs : ℕ) (port : Port) → length (slots_at (empty_channels {P = P} vcs false) (port_number port)) ≡ vcs
reply_slots P vcs L = length-replicate {A = Option P} vcs None
reply_slots P vcs E = let long = length-replicate {A = Option P} (vcs + 0) None in omega arith
reply_slots P vcs W = let long = length-replicate {A = Option P} (vcs + 0) None in omega arith
reply_slots P vcs N = let long = length-replicate {A = Option P} (vcs + 0) None in omega arith
reply_slots P vcs S = let long = length-replicate {A = Option P} (vcs + 0) None in omega arith

-- a port has a free channel, or a packet stands in its first one
pub data PortIs {P : Type 0} (net : Network P) (r p : ℕ) : Type 0 where
  free : (slot : ℕ) → lowest_free (channels_of net r) p ≡ Some slot → PortIs net r p
  full : (packet : P) → at net r p 0 ≡ Some packet → PortIs net r p

pub port_is : {P : Type 0} (net : Network P) (r p : ℕ) → 0 < length (slots_at (channels_of net r) p) → 0 < normal_slots (channels_of net r) → PortIs net r p
port_is {P} net r p there normal = by (lowest_free (channels_of net r) p) refl (item_at (slots_at (channels_of net r) p) 0 there).item (item_at (slots_at (channels_of net r) p) 0 there).there
  where
    by : (lowest : Option ℕ) → lowest_free (channels_of net r) p ≡ lowest → (first : Option P) → slice_get (slots_at (channels_of net r) p) 0 ≡ Some first → PortIs net r p
    by (Some slot) is first first_is = free slot is
    by None is (Some packet) first_is = full packet (stands_there net r p 0 packet first_is)
    by None is None first_is = absurd (none-lowest_free (channels_of net r) p is 0 normal first_is)

pub reply_port_is : (g : Grid) (vcs : ℕ) (net : Network Msg) (r : ℕ) (port : Port) → 0 < vcs → HasChannels g vcs false net → r < tiles g → PortIs net r (port_number port)
reply_port_is g vcs net r port some have inside =
    let long = have.slots r (port_number port) (channels_of net r) (bank_there g vcs false net r have inside) ∙ reply_slots Msg vcs port in
    port_is net r (port_number port) (omega arith) (omega (arith, normal_there g vcs false net r have inside))

-- ---- a message that stands somewhere
pub router_inside : {P : Type 0} (g : Grid) (normal : ℕ) (reserved : Bool) (net : Network P) (r p slot : ℕ) (packet : P) → HasChannels g normal reserved net → at net r p slot ≡ Some packet
    → r < tiles g
unfolding slots
router_inside g normal reserved net r p slot packet have stands =
    let within : slot < length (slots_at (channels_of net r) p) = place_of net r p slot packet stands in
    omega (arith, outer_within net r p (outer_within (channels_of net r) p slot within), have.routers)

can_eject : (net : Network Msg) (r : ℕ) (port : Port) (slot : ℕ) (msg : Msg) → at net r (port_number port) slot ≡ Some msg → msg.to ≡ r → is_some (after_data_eject net r port slot) ≡ true
unfolding after_data_eject
can_eject net r port slot msg stands same = rw (stands, eq-eqb msg.to r same) refl

can_hop : (g : Grid) (net : Network Msg) (r : ℕ) (port : Port) (slot : ℕ) (msg : Msg) (n entry : ℕ) → at net r (port_number port) slot ≡ Some msg → neighbour g r (route g r msg.to) ≡ Some n
    → lowest_free (channels_of net n) (port_number (opposite (route g r msg.to))) ≡ Some entry → is_some (after_data_hop g net r port slot) ≡ true
unfolding after_data_hop next_channel
can_hop g net r port slot msg n entry stands next lowest = rw (stands, next, lowest) refl

-- ---- by induction on the rank: the channel that a message wants is free, or has a message of lower rank
moves_below : (g : Grid) (vcs : ℕ) (net : Network Msg) → HasTiles g → 0 < vcs → HasChannels g vcs false net → IsOnRoute g net → AreForTiles g net
    → (bound : ℕ) (r : ℕ) (port : Port) (slot : ℕ) (msg : Msg) → rank g r port < bound → at net r (port_number port) slot ≡ Some msg → MessageMoves g net
moves_below g vcs net some some_vcs have routes for_tiles zero r port slot msg below stands = absurd (omega arith)
moves_below g vcs net some some_vcs have routes for_tiles (suc bound) r port slot msg below stands =
    by (cases_eq msg.to r) (λ n port slot other lower is. moves_below g vcs net some some_vcs have routes for_tiles bound n port slot other lower is)
  where
    inside : r < tiles g
    inside = router_inside g vcs false net r (port_number port) slot msg have stands

    behind : ((n : ℕ) (port : Port) (slot : ℕ) (other : Msg) → rank g n port < bound → at net n (port_number port) slot ≡ Some other → MessageMoves g net) → (n : ℕ)
        → neighbour g r (route g r msg.to) ≡ Some n → PortIs net n (port_number (opposite (route g r msg.to))) → MessageMoves g net
    behind moves n next (free entry lowest) = message_hops r port slot (can_hop g net r port slot msg n entry stands next lowest)
    behind moves n next (full other stands_too) =
        let lower = rank-hop g msg.to r n port some (routes r slot port msg stands) next in
        moves n (opposite (route g r msg.to)) 0 other (omega arith) stands_too

    by : (msg.to ≡ r) ⊎ (msg.to ≢ r) → ((n : ℕ) (port : Port) (slot : ℕ) (other : Msg) → rank g n port < bound → at net n (port_number port) slot ≡ Some other → MessageMoves g net)
        → MessageMoves g net
    by (inl same) moves = message_ejects r port slot inside (can_eject net r port slot msg stands same)
    by (inr other) moves =
        let way = route_goes_on g r msg.to some inside (for_tiles r (port_number port) slot msg stands) (λ same. other (sym same)) in
        behind moves way.0 way.1 (reply_port_is g vcs net way.0 (opposite (route g r msg.to)) some_vcs have way.2)

pub message_moves : (g : Grid) (vcs : ℕ) (net : Network Msg) → HasTiles g → 0 < vcs → HasChannels g vcs false net → IsOnRoute g net → AreForTiles g net → MessageMoves g net ⊎ NoMessages net
message_moves g vcs net some some_vcs have routes for_tiles = elim (cases_lt 0 (weigh (λ r p slot msg. 1) net)) [
  | inl one ↦ inl (moves (found (λ r p slot msg. 1) net one))
  | inr none ↦ inr (λ r p slot. rests r p slot (at net r p slot) refl (omega arith))
]
  where
    moves : Found (λ r p slot msg. 1) net → MessageMoves g net
    moves one =
        let inside = router_inside g vcs false net one.router one.port one.slot one.packet have one.stands in
        let port = port_of one.port (port_below g vcs false net one.router one.port one.slot one.packet have inside one.stands) in
        moves_below g vcs net some some_vcs have routes for_tiles (rank g one.router port.port + 1) one.router port.port one.slot one.packet (omega arith) (rw port.is one.stands)

    rests : (r p slot : ℕ) (there : Option Msg) → at net r p slot ≡ there → weigh (λ r p slot msg. 1) net ≡ 0 → at net r p slot ≡ None
    rests r p slot None is none = is
    rests r p slot (Some msg) is none = absurd (let one = weigh_at (λ r p slot msg. 1) net r p slot msg is in omega arith)
