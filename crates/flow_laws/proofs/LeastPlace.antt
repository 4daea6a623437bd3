-- The ordered request of least place that is not delivered everywhere: a copy of it moves.
use Rattle.std.proofs.lemmas.Option.{slice_get_within}
use Rattle.std.proofs.Common.{◌≡◌, ℕ, ◌<◌, ◌≤◌, length, true, Option, Some, refl, sym, ◌∙◌, ap, subst, inl, inr, arith}
use Rattle.std.specs.Prelude.{slice_get, is_some}
use Rattle.std.proofs.lemmas.Bool.{cases_lt, true≢false, and_from, eq-eqb}
use Rattle.mesh_gen.specs.declared.request.Request.{Request}
use Rattle.mesh_gen.specs.declared.port.Port.{Port}
use Rattle.mesh_gen.specs.declared.port.Port.TheVariants.{L}
use Rattle.mesh_gen.specs.Grid.{tiles, neighbour}
use Rattle.mesh_gen.specs.Ports.{port_number, opposite}
use Rattle.mesh_gen.specs.Routes.{HasTiles}
use Rattle.mesh_gen.specs.Tree.{Edge, Leads, here, there}
use Rattle.mesh_gen.proofs.Beside.{neighbour_inside}
use Rattle.vc_bank.specs.Channels.{reserved_free}
use Rattle.vc_bank.specs.Places.{at}
use Rattle.chip_model.specs.declared.net_copy.NetCopy.{NetCopy}
use Rattle.chip_model.specs.Chip.{Chip}
use Rattle.chip_model.specs.Copies.{Name, name_of, is_named, owes, expects, after_hop, channels_of, entry_slot}
use Rattle.chip_model.specs.CopiesOwed.{Owes}
use Rattle.chip_model.specs.OrderedNetwork.{OrderedNetwork, Interface, expected_at, expected_at_next_hop, after_copy_hop}
use Rattle.router_xy.proofs.LocalPlaces.{local_found}
use Rattle.router_xy.proofs.CopyOutputs.{name_is}
use Rattle.router_xy.proofs.OwedOutputs.{owed_once}
use Rattle.router_xy.proofs.Steps.{hops_away}
use Rattle.chip_model.specs.NetworkFits.{NetworkFits}
use Rattle.net_iface.proofs.Places.{HasItem, item_at}
use Rattle.window_core.proofs.Steps.{there_too}
use Rattle.router_xy.proofs.CopySteps.{serve_found}
use Rattle.net_iface.proofs.Steps.{is_some-after_copy_hop, is_some-after_delivery}
use Rattle.flow_laws.specs.NetworkMoves.{DeliveryMoves, ejects}
use Rattle.flow_laws.specs.NetworkMoves.{hops}
use Rattle.flow_laws.proofs.OwedRequests.{StandsAt, stands_at, still_owed, owed_no_more, AllTaken, expects_it}
use Rattle.flow_laws.proofs.RouterChannels.{leads_to_tile, port_of, port_below, ReservedIs, free, held, reserved_is, comes_in}

-- ---- where a hop is possible
pub can_hop : (chip : Chip) (net : OrderedNetwork) (r : ℕ) (port : Port) (slot : ℕ) (out : Port) (copy : NetCopy) (n : ℕ) (expected : Option Name) → expected ≡ expected_at_next_hop chip net r out
    → at net.copies r (port_number port) slot ≡ Some copy → owes copy out ≡ true → neighbour chip.grid r out ≡ Some n
    → is_some (entry_slot (channels_of net.copies n) (opposite out) (expects expected copy.request)) ≡ true → is_some (after_copy_hop chip net r port slot out) ≡ true
unfolding after_hop
can_hop chip net r port slot out copy n expected is stands owed next entry =
    is_some-after_copy_hop chip net r port slot out expected is
    ∙ rw (stands, owed, next) (there_too (entry_slot (channels_of net.copies n) (opposite out) (expects expected copy.request)) _ ∙ entry)

-- every tile has come to the place
abbrev pub AllCameTo : OrderedNetwork → ℕ → Type 0
AllCameTo net place = (t : ℕ) (to : Interface) → slice_get net.interfaces t ≡ Some to → place ≤ to.delivered

pub own_name : (q : Request) → is_named (name_of q) q ≡ true
own_name q = and_from _ _ (eq-eqb q.source q.source refl) (eq-eqb q.number q.number refl)

pub interface_at : (chip : Chip) (net : OrderedNetwork) (t : ℕ) → NetworkFits chip net → t < tiles chip.grid → HasItem net.interfaces t
interface_at chip net t fits inside = item_at net.interfaces t (omega (arith, fits.interfaces))

-- a copy of a request that every tile has delivered stands nowhere
nothing_left : (chip : Chip) (net : OrderedNetwork) (place : ℕ) (q : Request) (r p slot : ℕ) (copy : NetCopy) → HasTiles chip.grid → NetworkFits chip net → StandsAt chip net place q
    → ((t : ℕ) (to : Interface) → slice_get net.interfaces t ≡ Some to → place < to.delivered) → at net.copies r p slot ≡ Some copy → is_named (name_of q) copy.request ≡ true → ⊥
nothing_left chip net place q r p slot copy some fits at_place all stands named =
    let on = fits.copies.stand r p slot copy stands in
    let way = leads_to_tile chip.grid copy.request.source r on.some.0 some on.inside (on.outs on.some.0 on.some.1) in
    let owes_it : Owes chip.grid net.copies (name_of q) way.tile =
    record { router = r; port = p; slot = slot; copy = copy; out = on.some.0; stands = stands; is_named = named; owed = on.some.1; leads = way.leads } in
    let one = (owed_once chip.grid net.copies (name_of q) way.tile fits.copies way.inside).0 owes_it in
    let to = interface_at chip net way.tile fits way.inside in
    let none = owed_no_more at_place way.tile to.item to.there (all way.tile to.item to.there) in
    omega arith

-- ---- a copy at a router that owes an output port to a neighbour hops
pub copy_moves : (chip : Chip) (net : OrderedNetwork) (place : ℕ) (q : Request) (r p slot : ℕ) (copy : NetCopy) (out : Port) (n : ℕ) → HasTiles chip.grid → NetworkFits chip net → AllTaken net
    → AllCameTo net place → StandsAt chip net place q
    → at net.copies r p slot ≡ Some copy → is_named (name_of q) copy.request ≡ true → owes copy out ≡ true → Edge chip.grid copy.request.source r out n → DeliveryMoves chip net
copy_moves chip net place q r p slot copy out n some fits all came at_place stands named owed edge =
    let port = port_of p (port_below chip.grid chip.vcs true net.copies r p slot copy fits.channels (fits.copies.stand r p slot copy stands).inside stands) in
    hops r port.port slot out
    (can_hop chip net r port.port slot out copy n (Some (name_of q)) (sym (rw edge.next expected)) (rw port.is stands) owed edge.next
    (rw named (comes_in (channels_of net.copies n) (opposite out) reserved)))
  where
    inside : n < tiles chip.grid
    inside = neighbour_inside chip.grid r out n some edge.next

    to : HasItem net.interfaces n
    to = interface_at chip net n fits inside

    -- the next router is owed the request
    owed_there : Owes chip.grid net.copies (name_of q) n
    owed_there = record { router = r; port = p; slot = slot; copy = copy; out = out; stands = stands; is_named = named; owed = owed; leads = there edge here }

    -- so its tile has not delivered it, and it is the next one there
    delivered_is : to.item.delivered ≡ place
    delivered_is = elim (cases_lt place to.item.delivered) [
      | inl past ↦ absurd (let one = (owed_once chip.grid net.copies (name_of q) n fits.copies inside).0 owed_there in let none = owed_no_more at_place n to.item to.there past in omega arith)
      | inr not_past ↦ omega (arith, came n to.item to.there)
    ]

    expected : expected_at chip net n ≡ Some (name_of q)
    expected = expects_it chip net n to.item q fits all to.there (subst (λ (k : ℕ). StandsAt chip net k q) (sym delivered_is) at_place)

    -- nothing stands in the reserved channel there
    none_held : (other : NetCopy) → at net.copies n (port_number (opposite out)) chip.vcs ≡ Some other → ⊥
    none_held other stands_too =
        let is = fits.reserved n (port_number (opposite out)) other to.item stands_too to.there in
        let name : name_of is.1 ≡ name_of other.request = is.3 in
        elim (cases_lt is.0 place) [
          | inl before ↦ nothing_left chip net is.0 is.1 n (port_number (opposite out)) chip.vcs other some fits (stands_at chip net is.0 is.1 some fits is.2)
              (λ t v v_there. omega (arith, came t v v_there)) stands_too (subst (λ (m : Name). is_named m other.request ≡ true) (sym name) (own_name other.request))
          | inr behind ↦
              let same_place : is.0 ≡ place = omega (arith, delivered_is, is.4) in
              let same : is.1 ≡ q = same_item is.0 is.1 same_place is.2 in
              let other_name : name_of copy.request ≡ name_of other.request = name_is (name_of q) copy.request named ∙ ap name_of (sym same) ∙ name in
              true≢false (sym (subst (λ (m : Name). is_named m other.request ≡ true) (sym other_name) (own_name other.request))
              ∙ fits.ahead r p slot copy out n (port_number (opposite out)) chip.vcs other stands owed (there edge here) stands_too (hops_away chip.grid r out n some edge.next))
        ]
      where
        same_item : (k : ℕ) (other : Request) → k ≡ place → slice_get net.ordered k ≡ Some other → other ≡ q
        same_item k other same is = let mine = at_place.there in let here : slice_get net.ordered place ≡ Some other = ap (slice_get net.ordered) (sym same) ∙ is in cc

    by : ReservedIs net.copies n (port_number (opposite out)) chip.vcs → reserved_free (channels_of net.copies n) (port_number (opposite out)) ≡ true
    by (free is) = is
    by (held other is) = absurd (none_held other is)

    reserved : reserved_free (channels_of net.copies n) (port_number (opposite out)) ≡ true
    reserved = by (reserved_is chip.grid chip.vcs net.copies r out n some fits.channels edge.next)

-- ---- a copy at its tile is delivered
pub is_delivered : (chip : Chip) (net : OrderedNetwork) (t : ℕ) (to : Interface) (q : Request) (p slot : ℕ) (copy : NetCopy) → NetworkFits chip net → AllTaken net
    → slice_get net.interfaces t ≡ Some to → StandsAt chip net to.delivered q
    → at net.copies t p slot ≡ Some copy → is_named (name_of q) copy.request ≡ true → owes copy L ≡ true → DeliveryMoves chip net
is_delivered chip net t to q p slot copy fits all to_there at_place stands named owed =
    ejects t (omega (arith, slice_get_within net.interfaces t to to_there, fits.interfaces))
    (is_some-after_delivery chip net t to (name_of q) (serve_found net.copies t (name_of q)) to_there (expects_it chip net t to q fits all to_there at_place)
    ∙ (local_found net.copies t (name_of q)).1 (record { port = p; slot = slot; copy = copy; stands = stands; is_named = named; owed = owed }))

-- a copy that leads to the tile stands there, or has an output port to hop by
follow : (chip : Chip) (net : OrderedNetwork) (to : Interface) (q : Request) (p slot : ℕ) (copy : NetCopy) (r : ℕ) (out : Port) (t : ℕ) → HasTiles chip.grid → NetworkFits chip net
    → AllTaken net → AllCameTo net to.delivered
    → slice_get net.interfaces t ≡ Some to → StandsAt chip net to.delivered q → at net.copies r p slot ≡ Some copy → is_named (name_of q) copy.request ≡ true → owes copy out ≡ true
    → Leads chip.grid copy.request.source r out t → DeliveryMoves chip net
follow chip net to q p slot copy r out t some fits all came to_there at_place stands named owed here = is_delivered chip net t to q p slot copy fits all to_there at_place stands named owed
follow chip net to q p slot copy r out t some fits all came to_there at_place stands named owed (there {n = n} edge leads) =
    copy_moves chip net to.delivered q r p slot copy out n some fits all came at_place stands named owed edge

-- where every tile has taken every vector and a tile that is behind no other has not delivered all, a request moves
pub undelivered_moves : (chip : Chip) (net : OrderedNetwork) (t : ℕ) (to : Interface) → HasTiles chip.grid → NetworkFits chip net → AllTaken net → AllCameTo net to.delivered
    → slice_get net.interfaces t ≡ Some to → to.delivered < length net.ordered
    → DeliveryMoves chip net
undelivered_moves chip net t to some fits all came to_there less =
    let next = item_at net.ordered to.delivered less in
    let at_place = stands_at chip net to.delivered next.item some fits next.there in
    let inside : t < tiles chip.grid = omega (arith, slice_get_within net.interfaces t to to_there, fits.interfaces) in
    let a = (owed_once chip.grid net.copies (name_of next.item) t fits.copies inside).1 (still_owed at_place t to to_there (omega arith)) in
    follow chip net to next.item a.port a.slot a.copy a.router a.out t some fits all came to_there at_place a.stands a.is_named a.owed a.leads
