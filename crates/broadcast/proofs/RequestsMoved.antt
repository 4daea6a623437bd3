-- Requests move on until nothing moves, and then every tile has delivered all that is ordered.
use Rattle.std.proofs.Common.{◌≡◌, ◌⊎◌, ℕ, zero, suc, ◌+◌, ◌≤◌, Bool, true, false, cond, List, [], ◌∷◌, length, Option, Some, None, refl, sym, ◌∙◌, ap, subst, arith, inl, inr}
use Rattle.std.specs.Prelude.{slice_get, filter, is_some, nat_lt, Contains, option_map, set}
use Rattle.std.specs.List.{AllByRecursion}
use Rattle.std.proofs.lemmas.Bool.{cases_eq, true≢false}
use Rattle.std.proofs.lemmas.Bool.Decides.{nat_tests}
use Rattle.std.proofs.lemmas.Option.{slice_get_within}
use Rattle.mesh_gen.specs.declared.port.Port.{Port}
use Rattle.mesh_gen.specs.declared.request.Request.{Request}
use Rattle.mesh_gen.specs.Ports.{port_number, count_if}
use Rattle.mesh_gen.specs.Routes.{HasTiles}
use Rattle.report_text.specs.declared.event.Event.{Event}
use Rattle.report_text.specs.declared.event.Event.TheVariants.{Tick, Core, Inject, Post, Take, Eject, Send, Hop, DataHop, DataEject}
use Rattle.chip_model.specs.Chip.{Chip}
use Rattle.chip_model.specs.Windows.{Windows, after_tick}
use Rattle.chip_model.specs.OrderedNetwork.{OrderedNetwork, Interface, after_request_post, after_network_tick, after_vector_take, after_copy_hop, after_delivery, expected_at_next_hop}
use Rattle.chip_model.specs.Delivery.{network_step, network_tried, network_swept, moves_requests, request_slots, passes, IsQuiet}
use Rattle.chip_model.specs.NetworkFits.{NetworkFits}
use Rattle.chip_model.specs.Schedules.{slots}
use Rattle.router_xy.specs.CopiesHold.{CopiesHold}
use Rattle.window_core.proofs.Holds.{take_is}
use Rattle.net_iface.specs.Moves.{moves_done}
use Rattle.net_iface.specs.NetworkSteps.{RequestDelivered}
use Rattle.net_iface.proofs.Moving.{take_moves, hop_moves, delivery_moves}
use Rattle.net_iface.proofs.Places.{same_some, slice_get-set_same, slice_get-set_other}
use Rattle.net_iface.proofs.StepParts.{request_posted, network_ticked, vector_taken, copy_moved, request_delivered}
use Rattle.flow_laws.specs.NetworkMoves.{DeliveryMoves, NetworkMoves, NetworkRests, takes, hops, ejects, delivers, ticks, posts}
use Rattle.flow_laws.proofs.RequestSlots.{own_slot, hop_slot, is_taker, is_hop, slot_below}
use Rattle.flow_laws.proofs.MessageMoves.{router_inside}
use Rattle.broadcast.proofs.BroadcastStages.{NetworkLaws, AreMoving, tried_some, tried_none}

-- what an event that moves requests leaves: one more move where it is possible
pub record MovesOn (chip : Chip) (closed : List ℕ) (event : Event) (old new : OrderedNetwork) : Type 0 where
  pub moving : AreMoving chip closed new
  pub moves : moves_done new ≡ moves_done old + count_if (is_some (network_step chip old event))

module _ (laws : NetworkLaws) (chip : Chip) (closed : List ℕ) where
  no_windows : {windows : Windows} → ◌≡◌ {A = Option Windows} None (Some windows) → ⊥
  no_windows is = cc

  copies_hold : (net : OrderedNetwork) → AreMoving chip closed net → CopiesHold chip.grid chip.vcs net.copies
  copies_hold net before = record { channels = before.rests.holds.fits.channels; fit = before.rests.holds.fits.copies }

  -- an event that is not possible
  stays : (net : OrderedNetwork) (event : Event) → network_step chip net event ≡ None → AreMoving chip closed net → MovesOn chip closed event net (network_tried chip net event)
  stays net event none before = tried_none (MovesOn chip closed event net) chip net event none (record { moving = before; moves = let no = ap (λ (step : Option OrderedNetwork). count_if (is_some step)) none in omega (arith, no) })

  goes : (net new : OrderedNetwork) (event : Event) → network_step chip net event ≡ Some new → AreMoving chip closed new → moves_done new ≡ moves_done net + 1
      → MovesOn chip closed event net (network_tried chip net event)
  goes net new event is moving more = tried_some (MovesOn chip closed event net) chip net new event is (record { moving = moving; moves = let yes = ap (λ (step : Option OrderedNetwork). count_if (is_some step)) is in omega (arith, yes, more) })

  take_goes : (net new : OrderedNetwork) (t : ℕ) → AreMoving chip closed net → after_vector_take net t ≡ Some new → AreMoving chip closed new
  take_goes net new t before is =
      let step = vector_taken net new t is in
      let took = take_is t net.windows new.windows step.takes in
      record {
        rests = record {
          holds = laws.taken chip net new t before.rests.holds is;
          phase = ap (λ (w : Windows). w.phase) took.is ∙ before.rests.phase;
          closed_is = ap (λ (w : Windows). w.closed) took.is ∙ before.rests.closed_is;
        };
        posts = ap (λ (w : Windows). w.posts) took.is ∙ before.posts;
        left = λ u interface there. before.left u interface (ap (λ (is : List Interface). slice_get is u) (sym step.same.interfaces) ∙ there);
      }

  hop_goes : (net new : OrderedNetwork) (r : ℕ) (port : Port) (slot : ℕ) (out : Port) → AreMoving chip closed net → after_copy_hop chip net r port slot out ≡ Some new → AreMoving chip closed new
  hop_goes net new r port slot out before is =
      let step = copy_moved chip net new r port slot out is in
      record {
        rests = record {
          holds = laws.hopped chip net new r port slot out before.rests.holds is;
          phase = ap (λ (w : Windows). w.phase) step.windows ∙ before.rests.phase;
          closed_is = ap (λ (w : Windows). w.closed) step.windows ∙ before.rests.closed_is;
        };
        posts = ap (λ (w : Windows). w.posts) step.windows ∙ before.posts;
        left = λ u interface there. before.left u interface (ap (λ (is : List Interface). slice_get is u) (sym step.same.interfaces) ∙ there);
      }

  eject_goes : (net new : OrderedNetwork) (t : ℕ) (q : Request) → AreMoving chip closed net → after_delivery chip net t ≡ Some (q, new) → AreMoving chip closed new
  eject_goes net new t q before is =
      record {
        rests = record {
          holds = laws.delivered chip net new t q before.rests.holds is;
          phase = ap (λ (w : Windows). w.phase) step.windows ∙ before.rests.phase;
          closed_is = ap (λ (w : Windows). w.closed) step.windows ∙ before.rests.closed_is;
        };
        posts = ap (λ (w : Windows). w.posts) step.windows ∙ before.posts;
        left = λ u interface there. left_of u interface (ap (λ (is : List Interface). slice_get is u) (sym step.sets.interfaces) ∙ there);
      }
    where
      step : RequestDelivered chip net new t q
      step = request_delivered chip net new t q is

      now : Interface
      now = record step.was { delivered = step.was.delivered + 1 }

      left_of : (u : ℕ) (interface : Interface) → slice_get (set net.interfaces t now) u ≡ Some interface → length interface.made ≡ interface.posted + 0
      left_of u interface there = elim (cases_eq u t) [
        | inl same ↦ (
            let is : now ≡ interface = same_some now interface (sym (slice_get-set_same net.interfaces t now (slice_get_within net.interfaces t step.was step.sets.there)) ∙ ap (slice_get (set net.interfaces t now)) (sym same) ∙ there) in
            let was = before.left t step.was step.sets.there in
            ap (λ (i : Interface). length i.made) (sym is) ∙ was ∙ ap (λ (i : Interface). i.posted + 0) is)
        | inr other ↦ before.left u interface (sym (slice_get-set_other net.interfaces t u now other) ∙ there)
      ]

  -- one event that moves requests
  one_moves : (net : OrderedNetwork) (event : Event) → moves_requests event ≡ true → AreMoving chip closed net → MovesOn chip closed event net (network_tried chip net event)
  unfolding network_step
  one_moves net (Take t) moves before = by (after_vector_take net t) refl
    where
      by : (step : Option OrderedNetwork) → after_vector_take net t ≡ step → MovesOn chip closed (Take t) net (network_tried chip net (Take t))
      by None is = stays net (Take t) is before
      by (Some new) is = goes net new (Take t) is (take_goes net new t before is) (take_moves net new t is)
  one_moves net (Hop r port slot out) moves before = by (after_copy_hop chip net r port slot out) refl
    where
      by : (step : Option OrderedNetwork) → after_copy_hop chip net r port slot out ≡ step → MovesOn chip closed (Hop r port slot out) net (network_tried chip net (Hop r port slot out))
      by None is = stays net (Hop r port slot out) is before
      by (Some new) is =
          let step = copy_moved chip net new r port slot out is in
          let hopped = laws.hops chip.grid chip.vcs net.copies new.copies r port slot out (expected_at_next_hop chip net r out) (copies_hold net before) step.hops in
          goes net new (Hop r port slot out) is (hop_goes net new r port slot out before is) (hop_moves chip net new r port slot out is hopped.arrives)
  one_moves net (Eject t) moves before = by (after_delivery chip net t) refl
    where
      by : (step : Option (Request × OrderedNetwork)) → after_delivery chip net t ≡ step → MovesOn chip closed (Eject t) net (network_tried chip net (Eject t))
      by None is = stays net (Eject t) (ap (option_map (λ (out : Request × OrderedNetwork). out.1)) is) before
      by (Some out) is =
          let step = request_delivered chip net out.1 t out.0 is in
          let served = laws.serves chip.grid chip.vcs net.copies out.1.copies t step.name out.0 (copies_hold net before) step.serves in
          goes net out.1 (Eject t) (ap (option_map (λ (out : Request × OrderedNetwork). out.1)) is) (eject_goes net out.1 t out.0 before is) (delivery_moves chip net out.1 t out.0 is served.leaves)
  one_moves net Tick moves before = cc
  one_moves net (Core t) moves before = cc
  one_moves net (Inject t) moves before = cc
  one_moves net (Post t) moves before = cc
  one_moves net (Send t) moves before = cc
  one_moves net (DataHop r port slot) moves before = cc
  one_moves net (DataEject r port slot) moves before = cc

  -- some such events, each where it is possible
  record Swept (old new : OrderedNetwork) : Type 0 where
    moving : AreMoving chip closed new
    more : moves_done old ≤ moves_done new

  all_move : (events : List Event) (net : OrderedNetwork) → AllByRecursion (λ event. moves_requests event ≡ true) events → AreMoving chip closed net → Swept net (network_swept chip net events)
  all_move [] net moves before = record { moving = before; more = omega arith }
  all_move (event ∷ events) net moves before =
      let one = one_moves net event moves.0 before in
      let rest = all_move events (network_tried chip net event) moves.1 one.moving in
      record { moving = rest.moving; more = omega (arith, rest.more, one.moves) }

  all_kept : (events : List Event) → AllByRecursion (λ event. moves_requests event ≡ true) (filter moves_requests events)
  all_kept [] = record {}
  all_kept (event ∷ events) = by (all_kept events) (moves_requests event) refl
    where
      by : AllByRecursion (λ event. moves_requests event ≡ true) (filter moves_requests events) → (moves : Bool) → moves_requests event ≡ moves → AllByRecursion (λ event. moves_requests event ≡ true) (cond {A = List Event} moves (event ∷ filter moves_requests events) (filter moves_requests events))
      by rest true is = (is, rest)
      by rest false is = rest

  -- passes
  pub passes_move : (count : ℕ) (net : OrderedNetwork) → AreMoving chip closed net → AreMoving chip closed (passes chip count net)
  unfolding passes
  passes_move zero net before = before
  passes_move (suc count) net before = passes_move count (network_swept chip net (request_slots chip)) (all_move (request_slots chip) net (all_kept (slots chip)) before).moving

  -- ---- where a pass does nothing none of its events is possible
  none_moves : (events : List Event) (net : OrderedNetwork) → AllByRecursion (λ event. moves_requests event ≡ true) events → AreMoving chip closed net → network_swept chip net events ≡ net
      → AllByRecursion (λ event. is_some (network_step chip net event) ≡ false) events
  none_moves [] net moves before still = record {}
  none_moves (event ∷ events) net moves before still = by (none_moves events net moves.1 before) (network_step chip net event) refl
    where
      one : MovesOn chip closed event net (network_tried chip net event)
      one = one_moves net event moves.0 before

      by : (network_swept chip net events ≡ net → AllByRecursion (λ event. is_some (network_step chip net event) ≡ false) events)
          → (step : Option OrderedNetwork) → network_step chip net event ≡ step → AllByRecursion (λ event. is_some (network_step chip net event) ≡ false) (event ∷ events)
      by rest None is =
          let same : network_tried chip net event ≡ net = tried_none (λ (new : OrderedNetwork). new ≡ net) chip net event is refl in
          (ap is_some is, rest (ap (λ (start : OrderedNetwork). network_swept chip start events) (sym same) ∙ still))
      by rest (Some new) is =
          let more = all_move events (network_tried chip net event) moves.1 one.moving in
          let yes = ap (λ (step : Option OrderedNetwork). count_if (is_some step)) is in
          absurd (omega (arith, more.more, one.moves, yes, ap moves_done still))

  kept_all : (P : Event → Type 0) (events : List Event) (event : Event) → AllByRecursion P (filter moves_requests events) → moves_requests event ≡ true → Contains events event → P event
  kept_all P [] event all moves has = absurd (omega (arith, has.1))
  kept_all P (first ∷ events) event all moves (zero, below, is) = by (moves_requests first) refl all
    where
      same : first ≡ event
      same = is

      by : (keeps : Bool) → moves_requests first ≡ keeps → AllByRecursion P (cond {A = List Event} keeps (first ∷ filter moves_requests events) (filter moves_requests events)) → P event
      by true kept all = subst P same all.0
      by false kept all = absurd (true≢false (sym moves ∙ ap moves_requests (sym same) ∙ kept))
  kept_all P (first ∷ events) event all moves (suc k, below, is) = by (λ all. kept_all P events event all moves (k, omega (arith, below), is)) (moves_requests first) refl all
    where
      by : (AllByRecursion P (filter moves_requests events) → P event) → (keeps : Bool) → moves_requests first ≡ keeps → AllByRecursion P (cond {A = List Event} keeps (first ∷ filter moves_requests events) (filter moves_requests events)) → P event
      by later true kept all = later all.1
      by later false kept all = later all

  -- ---- so a network in which nothing moves is at rest
  module _ (some : HasTiles chip.grid) (net : OrderedNetwork) (before : AreMoving chip closed net) (quiet : IsQuiet chip net) where
    fits : NetworkFits chip net
    fits = before.rests.holds.fits

    none_possible : (event : Event) → moves_requests event ≡ true → Contains (slots chip) event → is_some (network_step chip net event) ≡ true → ⊥
    none_possible event moves has possible =
        true≢false (sym possible ∙ kept_all (λ event. is_some (network_step chip net event) ≡ false) (slots chip) event (none_moves (request_slots chip) net (all_kept (slots chip)) before quiet) moves has)

    delivery_stops : DeliveryMoves chip net → ⊥
    unfolding network_step
    delivery_stops (takes t possible) = none_possible (Take t) refl (own_slot chip t (Take t) (is_taker chip net t fits.windows.tiles possible) (3, omega arith, refl)) possible
    delivery_stops (hops r port slot out possible) =
        let hop = is_hop chip net r port slot out possible in
        none_possible (Hop r port slot out) refl
        (hop_slot chip r port slot out (router_inside chip.grid chip.vcs true net.copies r (port_number port) slot hop.copy fits.channels hop.stands) hop.side
        (slot_below chip.grid chip.vcs true net.copies r (port_number port) slot hop.copy fits.channels hop.stands)) possible
    delivery_stops (ejects t inside possible) = none_possible (Eject t) refl (own_slot chip t (Eject t) inside (4, omega arith, refl)) (mapped (after_delivery chip net t) possible)
      where
        mapped : (step : Option (Request × OrderedNetwork)) → is_some step ≡ true → is_some (option_map (λ (out : Request × OrderedNetwork). out.1) step) ≡ true
        mapped None some = some
        mapped (Some out) some = refl

    no_tick : is_some (after_network_tick chip net) ≡ true → ⊥
    unfolding after_tick
    no_tick possible = by (after_network_tick chip net) refl possible
      where
        by : (step : Option OrderedNetwork) → after_network_tick chip net ≡ step → is_some step ≡ true → ⊥
        by None is some = absurd (true≢false (sym some))
        by (Some new) is some = ticked (network_ticked chip net new is).ticks
          where
            ticked : {windows : Windows} → after_tick chip.window net.windows ≡ Some windows → ⊥
            ticked is = let none : nat_lt 0 net.windows.posts ≡ false = grind (arith, nat_tests, before.posts) in absurd (no_windows (rw none at is))

    no_post : (t : ℕ) → is_some (after_request_post net t) ≡ true → ⊥
    no_post t possible = by (after_request_post net t) refl possible
      where
        by : (step : Option OrderedNetwork) → after_request_post net t ≡ step → is_some step ≡ true → ⊥
        by None is some = absurd (true≢false (sym some))
        by (Some new) is some = let step = request_posted net new t is in absurd (omega (arith, step.some, before.left t step.was step.sets.there))

    pub at_rest : NetworkRests net
    at_rest = by (laws.moves chip net some fits)
      where
        by : NetworkMoves chip net ⊎ NetworkRests net → NetworkRests net
        by (inl (delivers moves)) = absurd (delivery_stops moves)
        by (inl (ticks possible)) = absurd (no_tick possible)
        by (inl (posts t possible)) = absurd (no_post t possible)
        by (inr rests) = rests
