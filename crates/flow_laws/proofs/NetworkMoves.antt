-- The ordered network moves on, or there is nothing left for it to do.
use Rattle.std.proofs.Common.{◌≡◌, ◌⊎◌, ℕ, ◌+◌, ◌<◌, Bool, true, false, cond, Option, Some, None, length, take, refl, ◌∙◌, ap, inl, inr, arith}
use Rattle.std.specs.Prelude.{◌==◌, nat_lt, slice_get, is_some}
use Rattle.std.proofs.lemmas.Bool.{cases_lt, lt-ltb, ltb-true, ltb-false, eq-eqb}
use Rattle.std.proofs.lemmas.List.{take_all}
use Rattle.std.proofs.lemmas.Option.{slice_get_within}
use Rattle.mesh_gen.specs.TileSet.{has_tile}
use Rattle.mesh_gen.specs.Routes.{HasTiles}
use Rattle.mesh_gen.proofs.TileSets.{has_tile-none}
use Rattle.vc_bank.specs.Places.{at}
use Rattle.chip_model.specs.declared.net_copy.NetCopy.{NetCopy}
use Rattle.chip_model.specs.Chip.{Chip}
use Rattle.chip_model.specs.Windows.{Windows, after_post, after_tick, after_take}
use Rattle.chip_model.specs.Copies.{name_of}
use Rattle.chip_model.specs.CopiesOwed.{Owes, times_named}
use Rattle.chip_model.specs.OrderedNetwork.{OrderedNetwork, Interface}
use Rattle.chip_model.specs.Bookkeeping.{count_by_tile}
use Rattle.router_xy.proofs.OwedOutputs.{owed_once}
use Rattle.chip_model.specs.NetworkFits.{NetworkFits}
use Rattle.net_iface.proofs.Named.{times_named-made}
use Rattle.net_iface.proofs.Places.{item_at}
use Rattle.net_iface.proofs.Steps.{is_some-after_network_tick, is_some-after_request_post, is_some-after_vector_take}
use Rattle.flow_laws.specs.NetworkMoves.{DeliveryMoves, NetworkMoves, AllDelivered, NetworkRests, takes, delivers, ticks, posts}
use Rattle.flow_laws.specs.NetworkMoves.{takes, ticks}
use Rattle.flow_laws.proofs.Searches.{Passes, NonePasses, search_list, Least, least_in}
use Rattle.flow_laws.proofs.OwedRequests.{AllTaken, times_in_front}
use Rattle.flow_laws.proofs.OwedRequests.{ordered_le}
use Rattle.flow_laws.proofs.RouterChannels.{leads_to_tile}
use Rattle.flow_laws.proofs.LeastPlace.{own_name, undelivered_moves}
use Rattle.flow_laws.proofs.LeastPlace.{interface_at}

-- ---- a vector that was not taken
can_take : (w : Windows) (t count : ℕ) → slice_get w.taken t ≡ Some count → count < length w.closed → is_some (after_take w t) ≡ true
unfolding after_take
can_take w t count there less = rw (there, (item_at w.closed count less).there) refl

pub untaken_moves : (chip : Chip) (net : OrderedNetwork) (t count : ℕ) → slice_get net.windows.taken t ≡ Some count → count < length net.windows.closed → DeliveryMoves chip net
untaken_moves chip net t count there less = takes t (is_some-after_vector_take net t ∙ can_take net.windows t count there less)

-- ---- a request that is not ordered
can_tick : (chip : Chip) (w : Windows) → 0 < w.posts → is_some (after_tick chip.window w) ≡ true
unfolding after_tick
can_tick chip w some = rw (lt-ltb 0 w.posts some) refl

can_post : (w : Windows) (t : ℕ) → w.phase ≡ 0 → w.posts ≡ 0 → t < length w.taken → is_some (after_post w t) ≡ true
unfolding after_post
can_post w t phase none within =
    let first : (w.phase == 0) ≡ true = eq-eqb w.phase 0 phase in
    let free : has_tile w.posts t ≡ false = ap (λ (set : ℕ). has_tile set t) none ∙ has_tile-none t in
    rw (first, lt-ltb t (length w.taken) within, free) refl

pub unordered_moves : (chip : Chip) (net : OrderedNetwork) (t : ℕ) (interface : Interface) → NetworkFits chip net → slice_get net.interfaces t ≡ Some interface
    → count_by_tile t net.ordered < length interface.made → NetworkMoves chip net
unordered_moves chip net t interface fits there less = elim (cases_lt 0 net.windows.posts) [
  | inl some ↦ ticks (is_some-after_network_tick chip net ∙ can_tick chip net.windows some)
  | inr none ↦
      let empty : net.windows.posts ≡ 0 = omega arith in
      let free : has_tile net.windows.posts t ≡ false = ap (λ (set : ℕ). has_tile set t) empty ∙ has_tile-none t in
      let agrees = fits.agree t interface there in
      let few : interface.posted ≡ count_by_tile t net.ordered + 0 = agrees.posted ∙ ap (λ (b : Bool). count_by_tile t net.ordered + cond b 1 0) free in
      let within : t < length net.windows.taken = omega (arith, slice_get_within net.interfaces t interface there, fits.interfaces, fits.windows.tiles) in
      let phase : net.windows.phase ≡ 0 = begun fits.windows.begun empty in
      posts t (is_some-after_request_post net t interface there (lt-ltb interface.posted (length interface.made) (omega arith)) ∙ can_post net.windows t phase empty within)
]
  where
    begun : (net.windows.phase ≡ 0) ⊎ (0 < net.windows.posts) → net.windows.posts ≡ 0 → net.windows.phase ≡ 0
    begun (inl first) empty = first
    begun (inr some) empty = absurd (omega arith)

-- ---- where all is ordered and delivered, no copy stands
abbrev pub AllOrdered : OrderedNetwork → Type 0
AllOrdered net = (t : ℕ) (interface : Interface) → slice_get net.interfaces t ≡ Some interface → length interface.made ≡ count_by_tile t net.ordered

no_copy_stands : (chip : Chip) (net : OrderedNetwork) (r p slot : ℕ) (copy : NetCopy) → HasTiles chip.grid → NetworkFits chip net → AllOrdered net → AllDelivered net
    → at net.copies r p slot ≡ Some copy → ⊥
no_copy_stands chip net r p slot copy some fits ordered all_there stands =
    let on = fits.copies.stand r p slot copy stands in
    let way = leads_to_tile chip.grid copy.request.source r on.some.0 some on.inside (on.outs on.some.0 on.some.1) in
    let name = name_of copy.request in
    let owes_it : Owes chip.grid net.copies (name_of copy.request) way.tile =
    record { router = r; port = p; slot = slot; copy = copy; out = on.some.0; stands = stands; is_named = own_name copy.request; owed = on.some.1; leads = way.leads } in
    let one = (owed_once chip.grid net.copies (name_of copy.request) way.tile fits.copies way.inside).0 owes_it in
    let to = interface_at chip net way.tile fits way.inside in
    let made = fits.made r p slot copy stands in
    let from = made.interface in
    let agrees = fits.agree copy.request.source from made.source in
    let within : copy.request.number < length from.made = slice_get_within from.made copy.request.number copy.request made.made in
    let whole = fits.owed (name_of copy.request) copy.request.source way.tile from to.item made.source refl to.there in
    let all : take to.item.delivered net.ordered ≡ net.ordered = take_all to.item.delivered net.ordered (omega (arith, all_there.delivered way.tile to.item to.there)) in
    let count = ap (count_by_tile copy.request.source) all in
    let in_order : times_named (name_of copy.request) (take to.item.delivered net.ordered) ≡ 1 =
    times_in_front net copy.request.source copy.request.number to.item.delivered from agrees
    ∙ ap (λ (b : Bool). cond b 1 0) (lt-ltb copy.request.number (count_by_tile copy.request.source (take to.item.delivered net.ordered)) (omega (arith, ordered copy.request.source from made.source)))
    in
    let in_made : times_named (name_of copy.request) from.made ≡ 1 =
    times_named-made copy.request.source copy.request.number from.made agrees.made ∙ ap (λ (b : Bool). cond b 1 0) (lt-ltb copy.request.number (length from.made) within)
    in
    omega arith

pub rests : (chip : Chip) (net : OrderedNetwork) → HasTiles chip.grid → NetworkFits chip net → AllOrdered net → AllDelivered net → NetworkRests net
rests chip net some fits ordered all = record { all = all; ordered = ordered; copies = λ r p slot. by r p slot (at net.copies r p slot) refl }
  where
    by : (r p slot : ℕ) (found : Option NetCopy) → at net.copies r p slot ≡ found → at net.copies r p slot ≡ None
    by r p slot None is = is
    by r p slot (Some copy) is = absurd (no_copy_stands chip net r p slot copy some fits ordered all is)

-- ---- the laws
pub delivery_moves : (chip : Chip) (net : OrderedNetwork) → HasTiles chip.grid → NetworkFits chip net → DeliveryMoves chip net ⊎ AllDelivered net
delivery_moves chip net some fits = by_taken (search_list untaken net.windows.taken)
  where
    untaken : ℕ → ℕ → Bool
    untaken t count = nat_lt count (length net.windows.closed)

    undelivered : ℕ → Interface → Bool
    undelivered t interface = nat_lt interface.delivered (length net.ordered)

    moves_least : AllTaken net → Least (λ (interface : Interface). interface.delivered) net.interfaces → (t : ℕ) (interface : Interface) → slice_get net.interfaces t ≡ Some interface
        → interface.delivered < length net.ordered → DeliveryMoves chip net
    moves_least taken least t interface there less =
        let below = least.least t interface there in
        undelivered_moves chip net least.place least.item some fits taken least.least least.there (omega arith)

    by_delivered : AllTaken net → Passes undelivered net.interfaces ⊎ NonePasses undelivered net.interfaces → DeliveryMoves chip net ⊎ AllDelivered net
    by_delivered taken (inl one) =
        inl (moves_least taken (least_in (λ (interface : Interface). interface.delivered) net.interfaces one.place one.item one.there) one.place one.item one.there (ltb-true _ _ one.passes))
    by_delivered taken (inr none) =
        inr (record {
          taken = taken;
          delivered = λ t interface there. omega (arith, (fits.agree t interface there).within, ltb-false interface.delivered (length net.ordered) (none t interface there));
        })

    by_taken : Passes untaken net.windows.taken ⊎ NonePasses untaken net.windows.taken → DeliveryMoves chip net ⊎ AllDelivered net
    by_taken (inl one) = inl (untaken_moves chip net one.place one.item one.there (ltb-true _ _ one.passes))
    by_taken (inr none) =
        by_delivered (λ t count there. omega (arith, fits.windows.taken t count there, ltb-false count (length net.windows.closed) (none t count there)))
        (search_list undelivered net.interfaces)

pub network_moves : (chip : Chip) (net : OrderedNetwork) → HasTiles chip.grid → NetworkFits chip net → NetworkMoves chip net ⊎ NetworkRests net
network_moves chip net some fits = by_passes (delivery_moves chip net some fits)
  where
    unordered : ℕ → Interface → Bool
    unordered t interface = nat_lt (count_by_tile t net.ordered) (length interface.made)

    by_ordered : AllDelivered net → Passes unordered net.interfaces ⊎ NonePasses unordered net.interfaces → NetworkMoves chip net ⊎ NetworkRests net
    by_ordered all (inl one) = inl (unordered_moves chip net one.place one.item fits one.there (ltb-true _ _ one.passes))
    by_ordered all (inr none) =
        inr (rests chip net some fits
        (λ t interface there. omega (arith, ordered_le net t interface (fits.agree t interface there), ltb-false (count_by_tile t net.ordered) (length interface.made) (none t interface there)))
        all)

    by_passes : DeliveryMoves chip net ⊎ AllDelivered net → NetworkMoves chip net ⊎ NetworkRests net
    by_passes (inl moves) = inl (delivers moves)
    by_passes (inr all) = by_ordered all (search_list unordered net.interfaces)
