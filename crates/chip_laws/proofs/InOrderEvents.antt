-- Every event of a chip of in-order cores keeps each core in order.
use Rattle.std.proofs.Common.{◌≡◌, ℕ, ◌≤◌, true, refl, sym, ◌∙◌, ap, subst, arith, Option, Some, None, slice_get}
use Rattle.std.specs.Prelude.{is_some, unwrap_or, not, ◌||◌}
use Rattle.std.proofs.lemmas.Bool.{false≢true}
use Rattle.std.proofs.lemmas.Option.{same_Some}
use Rattle.mesh_gen.specs.declared.port.Port.{Port}
use Rattle.core_isa.specs.Core.{Effect, Becomes, Loads, Stores, Swaps, Adds, Halts}
use Rattle.report_text.specs.declared.access.Access.{Access}
use Rattle.report_text.specs.declared.access.AccessKind.{AccessKind}
use Rattle.report_text.specs.declared.access.AccessKind.TheVariants.{Load, Store, Swap, Add}
use Rattle.report_text.specs.declared.event.Event.{Event}
use Rattle.report_text.specs.declared.event.Event.TheVariants.{Tick, Core, Inject, Post, Take, Eject, Send, Hop, DataHop, DataEject}
use Rattle.doc_text.specs.Doc.{Doc}
use Rattle.chip_model.specs.declared.done.Done.{Done}
use Rattle.chip_model.specs.Chip.{Chip, chip_of, address_in}
use Rattle.chip_model.specs.Misses.{Demand}
use Rattle.chip_model.specs.Node.{Node, Performed, has_entry, node_after_access, node_after_request, node_after_message, after_request_sent, after_message_sent}
use Rattle.chip_model.specs.Units.{UnitState, Acted, access_of, performed, access_tried, executed, core_event, in_order}
use Rattle.chip_model.specs.ChipState.{ChipState}
use Rattle.chip_model.specs.Events.{with_access}
use Rattle.chip_model.specs.Writers.{time_of_place, time_of_demand, latest_time}
use Rattle.chip_model.specs.UnitShape.{InOrderHolds}
use Rattle.chip_model.specs.ChipInvariant.{CoresInOrder, ProtocolHolds}
use Rattle.chip_laws.specs.InOrderUnits.{next_effect}
use Rattle.chip_laws.specs.EventSteps.{ChangesUnit, CoreWorks, RequestEnters, RequestComes, MessageEnters, MessageComes, EventDoes}
use Rattle.chip_laws.specs.Tiles.{TileOf}
use Rattle.chip_laws.proofs.Options.{none_some, when_some, option_map_some}
use Rattle.chip_laws.proofs.UnitFrames.{each_unit, same_units}
use Rattle.chip_laws.proofs.StepAccesses.{Waits, delivered_goes, arrived_goes, request_waits}
use Rattle.chip_laws.proofs.DoneTimes.{delivered_time, arrived_time, accessed_time}
use Rattle.chip_laws.proofs.RequestsInside.{tile_of, tile_of_unit}
use Rattle.chip_laws.proofs.InOrderCores.{IsNextAccess, HitsLate, step_in_order, node_in_order, others_in_order, core_in_order}

-- ---- no node has performed an access later than its count
latest_by : (d : Doc) (s : ChipState) (t : ℕ) (tile : TileOf d s t) → latest_time tile.unit.node ≤ tile.unit.node.delivered
latest_by d s t tile = by tile.unit.node.side.misses.demand refl
  where
    at_place : (x : Demand) (o : Option ℕ) → tile.unit.node.side.misses.demand ≡ Some x → x.ordered ≡ o → time_of_place o tile.unit.node.delivered ≤ tile.unit.node.delivered
    at_place x None stands is = omega arith
    at_place x (Some g) stands is = let before = (tile.holds.node.agrees.demand x g stands is).before in omega (arith, before)

    by : (o : Option Demand) → tile.unit.node.side.misses.demand ≡ o → time_of_demand o tile.unit.node.delivered ≤ tile.unit.node.delivered
    by None stands = omega arith
    by (Some x) stands = at_place x x.ordered stands refl

-- what is known of the unit of a tile
pub record UnitIs (s : ChipState) (t : ℕ) (unit : UnitState) : Type 0 where
  pub tile : unit.node.tile ≡ t
  pub latest : latest_time unit.node ≤ unit.node.delivered
  pub late : (place : ℕ) (access : Access) → slice_get s.accesses place ≡ Some access → access.tile ≡ t → access.time ≤ latest_time unit.node

pub unit_is : (d : Doc) (s : ChipState) (t : ℕ) (unit : UnitState) → ProtocolHolds d s → slice_get s.units t ≡ Some unit → UnitIs s t unit
unit_is d s t unit holds at =
    let tile = tile_of d s t holds (tile_of_unit d s t unit holds at) in
    let same : tile.unit ≡ unit = same_Some tile.unit unit (sym tile.unit_at ∙ at) in
    subst (UnitIs s t) same (record {
      tile = tile.holds.node.agrees.tile;
      latest = latest_by d s t tile;
      late = λ place access at_place own. holds.timely.times t place tile.unit access tile.unit_at at_place own;
    })

late_by : (s : ChipState) (t : ℕ) (unit : UnitState) (one : Done) → UnitIs s t unit → latest_time unit.node ≤ one.time
    → (place : ℕ) (access : Access) → slice_get s.accesses place ≡ Some access → access.tile ≡ t → access.time ≤ one.time
late_by s t unit one is after place access at own = omega (arith, is.late place access at own, after)

-- ---- one unit changed
pub own_tile : (t : ℕ) (unit : UnitState) (step : Performed) → unit.node.tile ≡ t → (a : Access) → (performed unit step).1 ≡ Some a → a.tile ≡ t
own_tile t unit (node, None) tile a e = none_some a e
own_tile t unit (node, Some done) tile a e = ap (λ (x : Access). x.tile) (sym (same_Some (access_of unit done) a e)) ∙ tile

one_in_order : (s new : ChipState) (t : ℕ) (unit after : UnitState) (o : Option Access) → CoresInOrder s → ChangesUnit s new t unit after → new.accesses ≡ with_access o s.accesses
    → ((a : Access) → o ≡ Some a → a.tile ≡ t) → InOrderHolds new t after → CoresInOrder new
one_in_order s new t unit after o holds changes accesses tile here =
    each_unit (InOrderHolds new) s new t unit after changes here (λ u other away at. others_in_order s new t u o other (holds u other at) away tile accesses)

same_in_order : (s new : ChipState) → CoresInOrder s → new.units ≡ s.units → new.accesses ≡ s.accesses → CoresInOrder new
same_in_order s new holds units accesses =
    same_units (InOrderHolds new) s new units (λ u other at. node_in_order s new u other other.node (holds u other at) refl (holds u other at).waits accesses)

node_changes : (s new : ChipState) (t : ℕ) (unit : UnitState) (node : Node) → CoresInOrder s → ChangesUnit s new t unit (record unit { node = node }) → new.accesses ≡ s.accesses → node.chip ≡ unit.node.chip
    → Waits (IsNextAccess unit) node.side.misses.demand → CoresInOrder new
node_changes s new t unit node holds changes accesses chip waits =
    one_in_order s new t unit (record unit { node = node }) None holds changes accesses (λ a e. none_some a e)
    (node_in_order s new t unit node (holds t unit changes.at) chip waits accesses)

-- ---- the core of a tile
hits_late : (s : ChipState) (t : ℕ) (unit : UnitState) → UnitIs s t unit → HitsLate s t unit
hits_late s t unit is access step tried one done = late_by s t unit one is (omega (arith, is.latest, accessed_time access unit.node step one tried done))

pub event_of : (unit : UnitState) (o : Option Acted) → is_some o ≡ true → o ≡ Some (unwrap_or o (unit, None))
event_of unit None e = absurd (false≢true e)
event_of unit (Some acted) e = refl

abbrev OwnTile : ℕ → Acted → Type 0
OwnTile t acted = (a : Access) → acted.1 ≡ Some a → a.tile ≡ t

-- an access of a core event is of the tile
tried_tile : (t : ℕ) (unit : UnitState) (kind : AccessKind) (sum value : ℕ) (acted : Acted) → unit.node.tile ≡ t → access_tried unit kind sum value ≡ Some acted → OwnTile t acted
tried_tile t unit kind sum value acted tile e =
    option_map_some (performed unit) (node_after_access (record { kind = kind; address = address_in unit.node.chip sum; value = value }) unit.node) acted e (λ step tried same.
    subst (OwnTile t) same (own_tile t unit step tile))

executed_tile : (t : ℕ) (unit : UnitState) (effect : Effect) (acted : Acted) → unit.node.tile ≡ t → executed unit effect ≡ Some acted → OwnTile t acted
executed_tile t unit (Becomes core) acted tile e = subst (OwnTile t) (same_Some {A = Acted} (record unit { core = core }, None) acted e) (λ a none. none_some a none)
executed_tile t unit Halts acted tile e = subst (OwnTile t) (same_Some {A = Acted} (record unit { halted = true }, None) acted e) (λ a none. none_some a none)
executed_tile t unit (Loads register sum) acted tile e = tried_tile t unit Load sum 0 acted tile e
executed_tile t unit (Stores sum value) acted tile e = tried_tile t unit Store sum value acted tile e
executed_tile t unit (Swaps register sum value) acted tile e = tried_tile t unit Swap sum value acted tile e
executed_tile t unit (Adds register sum value) acted tile e = tried_tile t unit Add sum value acted tile e

pub core_tile : (t : ℕ) (unit : UnitState) (acted : Acted) → unit.node.tile ≡ t → core_event unit ≡ Some acted → OwnTile t acted
unfolding core_event
core_tile t unit acted tile e =
    when_some (not (unit.halted || has_entry unit.node)) (executed unit (next_effect unit)) acted e (λ free does. executed_tile t unit (next_effect unit) acted tile does)

core_changes : (d : Doc) (s new : ChipState) (t : ℕ) → ProtocolHolds d s → CoresInOrder s → CoreWorks in_order s new t → CoresInOrder new
unfolding in_order
core_changes d s new t holds cores does =
    let acted = unwrap_or (core_event does.unit) (does.unit, None) in
    let is = unit_is d s t does.unit holds does.changes.at in
    let event = event_of does.unit (core_event does.unit) does.ready in
    one_in_order s new t does.unit acted.0 acted.1 cores does.changes does.accesses (core_tile t does.unit acted is.tile event)
    (core_in_order s new t does.unit acted (cores t does.unit does.changes.at) (hits_late s t does.unit is) event does.accesses)

-- ---- a request or a message comes
eject_changes : (d : Doc) (s new : ChipState) (chip : Chip) (t : ℕ) → ProtocolHolds d s → CoresInOrder s → RequestComes in_order chip s new t → CoresInOrder new
unfolding in_order
eject_changes d s new chip t holds cores does =
    let step = node_after_request does.request does.unit.node in
    let is = unit_is d s t does.unit holds does.changes.at in
    let before = cores t does.unit does.changes.at in
    one_in_order s new t does.unit (performed does.unit step).0 (performed does.unit step).1 cores does.changes does.accesses (own_tile t does.unit step is.tile)
    (step_in_order s new t does.unit step.0 step.1 before (delivered_goes (IsNextAccess does.unit) does.request does.unit.node before.waits)
    (λ one done. late_by s t does.unit one is (omega (arith, is.latest, delivered_time does.request does.unit.node one done))) does.accesses)

data_changes : (d : Doc) (s new : ChipState) (t : ℕ) (port : Port) (slot : ℕ) → ProtocolHolds d s → CoresInOrder s → MessageComes in_order s new t port slot → CoresInOrder new
unfolding in_order
data_changes d s new t port slot holds cores does =
    let step = node_after_message does.msg does.unit.node in
    let is = unit_is d s t does.unit holds does.changes.at in
    let before = cores t does.unit does.changes.at in
    one_in_order s new t does.unit (performed does.unit step).0 (performed does.unit step).1 cores does.changes does.accesses (own_tile t does.unit step is.tile)
    (step_in_order s new t does.unit step.0 step.1 before (arrived_goes (IsNextAccess does.unit) does.msg does.unit.node before.waits)
    (λ one done. late_by s t does.unit one is (arrived_time does.msg does.unit.node one done)) does.accesses)

-- ---- a request or a message leaves
sent_chip : (node : Node) → (after_request_sent node).chip ≡ node.chip
unfolding after_request_sent
sent_chip node = refl

inject_changes : (s new : ChipState) (chip : Chip) (t : ℕ) → CoresInOrder s → RequestEnters chip s new t → CoresInOrder new
inject_changes s new chip t cores does =
    node_changes s new t does.unit (after_request_sent does.unit.node) cores does.changes does.accesses (sent_chip does.unit.node)
    (request_waits (IsNextAccess does.unit) does.unit.node (cores t does.unit does.changes.at).waits)

send_changes : (s new : ChipState) (t : ℕ) → CoresInOrder s → MessageEnters s new t → CoresInOrder new
unfolding after_message_sent
send_changes s new t cores does =
    node_changes s new t does.unit (after_message_sent does.unit.node) cores does.changes does.accesses refl (cores t does.unit does.changes.at).waits

-- ---- all events
pub cores_in_order : (d : Doc) (s new : ChipState) (event : Event) → ProtocolHolds d s → CoresInOrder s → EventDoes in_order (chip_of d) s new event → CoresInOrder new
cores_in_order d s new Tick holds cores does = same_in_order s new cores does.units does.accesses
cores_in_order d s new (Core t) holds cores does = core_changes d s new t holds cores does
cores_in_order d s new (Inject t) holds cores does = inject_changes s new (chip_of d) t cores does
cores_in_order d s new (Post t) holds cores does = same_in_order s new cores does.units does.accesses
cores_in_order d s new (Take t) holds cores does = same_in_order s new cores does.units does.accesses
cores_in_order d s new (Eject t) holds cores does = eject_changes d s new (chip_of d) t holds cores does
cores_in_order d s new (Send t) holds cores does = send_changes s new t cores does
cores_in_order d s new (Hop r port slot out) holds cores does = same_in_order s new cores does.units does.accesses
cores_in_order d s new (DataHop r port slot) holds cores does = same_in_order s new cores does.units does.accesses
cores_in_order d s new (DataEject r port slot) holds cores does = data_changes d s new r port slot holds cores does
