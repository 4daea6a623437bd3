-- The events that leave nodes alone, and those that take a request or a message from one, lower the measure.
use Rattle.std.proofs.Common.{◌≡◌, ◌≢◌, ℕ, ◌+◌, ◌<◌, ◌≤◌, Bool, true, false, cond, List, [], ◌∷◌, drop, Option, Some, None, length, set, refl, sym, ◌∙◌, ap, ⊎_elim, arith}
use Rattle.std.specs.Prelude.{slice_get, is_some, not}
use Rattle.std.specs.List.{sum_by}
use Rattle.std.proofs.lemmas.Bool.{cases_eq}
use Rattle.std.proofs.lemmas.Option.{slice_get_within}
use Rattle.std.proofs.lemmas.List.Sums.{sum_by-cons}
use Rattle.mesh_gen.specs.declared.kind.Kind.{Kind}
use Rattle.mesh_gen.specs.declared.kind.Kind.TheVariants.{PutM}
use Rattle.mesh_gen.specs.declared.msg.Msg.{Msg}
use Rattle.mesh_gen.specs.declared.port.Port.{Port}
use Rattle.mesh_gen.specs.Grid.{Grid, distance}
use Rattle.mesh_gen.specs.Routes.{HasTiles}
use Rattle.mesh_gen.specs.Partial.{when}
use Rattle.chip_model.specs.Chip.{Chip, tile_count}
use Rattle.chip_model.specs.NetworkShape.{WindowsFit}
use Rattle.chip_model.specs.CopiesOwed.{CopiesFit}
use Rattle.chip_model.specs.OrderedNetwork.{OrderedNetwork, after_inject, after_request_post, after_network_tick, after_vector_take, after_copy_hop}
use Rattle.chip_model.specs.Replies.{after_send, after_data_hop}
use Rattle.chip_model.specs.Misses.{Misses, Demand, WriteBack, wanted_by_demand, wanted_by, wanted, sent_demand, sent_by, marked_sent}
use Rattle.chip_model.specs.Node.{Node, after_request_sent, after_message_sent}
use Rattle.chip_model.specs.Units.{UnitState}
use Rattle.chip_model.specs.ChipState.{ChipState}
use Rattle.chip_model.specs.Events.{with_network, with_node, unit_at, tick, inject, post, take_vector, send, hop, data_hop}
use Rattle.chip_model.specs.Suppliers.{count_of}
use Rattle.net_iface.proofs.Binds.{bind_eq, made}
use Rattle.net_iface.proofs.Places.{slice_get-set_same, slice_get-set_other}
use Rattle.chip_laws.proofs.SupplyCounts.{sum_by-set}
use Rattle.bound_laws.specs.Measure.{per_request, demand_promises, unsent_to_go, node_to_go, core_to_go, unit_to_go, Falls}
use Rattle.bound_laws.proofs.NetworkChanges.{Lowers}
use Rattle.bound_laws.proofs.CoreToGo.{core_side}
use Rattle.bound_laws.proofs.WindowSteps.{take_lowers, post_lowers, tick_lowers}
use Rattle.bound_laws.proofs.RequestSteps.{hop_lowers, inject_grows}
use Rattle.bound_laws.proofs.MessageSteps.{sent_grows, forwarded_lowers}
use Rattle.bound_laws.proofs.AnswerCounts.{answers_grow, answers_same}

-- ---- steps of the ordered network alone
pub network_falls : (chip : Chip) (s : ChipState) (net : OrderedNetwork) → Lowers chip s.network net → Falls chip s (with_network net s)
network_falls chip s net step =
    let answers = answers_same chip s (with_network net s) step.ordered (λ t. refl) in
    let lowers = step.lowers in omega arith

pub tick_falls : (chip : Chip) (s new : ChipState) → 0 < tile_count chip → WindowsFit chip s.network.windows → length s.network.interfaces ≡ tile_count chip
    → tick chip s ≡ Some new → Falls chip s new
tick_falls chip s new tiles fits interfaces = bind_eq (Falls chip s) (after_network_tick chip s.network) _
    (λ net ticks n is. made (Falls chip s) (with_network net s) n
    (let step = tick_lowers chip s.network net tiles fits interfaces ticks in
    let answers = answers_grow chip s (with_network net s) step.more step.ordered (λ t. refl) in
    let lowers = step.lowers in omega arith) is) new

pub post_falls : (chip : Chip) (s new : ChipState) (t : ℕ) → post s t ≡ Some new → Falls chip s new
post_falls chip s new t = bind_eq (Falls chip s) (after_request_post s.network t) _
    (λ net posts n is. made (Falls chip s) (with_network net s) n (network_falls chip s net (post_lowers chip s.network net t posts)) is) new

pub take_falls : (chip : Chip) (s new : ChipState) (t : ℕ) → take_vector s t ≡ Some new → Falls chip s new
take_falls chip s new t = bind_eq (Falls chip s) (after_vector_take s.network t) _
    (λ net takes n is. made (Falls chip s) (with_network net s) n (network_falls chip s net (take_lowers chip s.network net t takes)) is) new

pub hop_falls : (chip : Chip) (s new : ChipState) (r : ℕ) (port : Port) (slot : ℕ) (out : Port) → HasTiles chip.grid → CopiesFit chip.grid s.network.copies
    → hop chip s r port slot out ≡ Some new → Falls chip s new
hop_falls chip s new r port slot out some fits = bind_eq (Falls chip s) (after_copy_hop chip s.network r port slot out) _
    (λ net hops n is. made (Falls chip s) (record s { network = net; hops = s.hops + 1 }) n
    (let step = hop_lowers chip s.network net r port slot out some fits hops in
    let answers = answers_same chip s (record s { network = net; hops = s.hops + 1 }) step.ordered (λ t. refl) in
    let lowers = step.lowers in omega arith) is) new

-- ---- the unit of one tile changes
pub counts_set : (units : List UnitState) (tile : ℕ) (unit new : UnitState) → slice_get units tile ≡ Some unit → new.node.delivered ≡ unit.node.delivered
    → (t : ℕ) → count_of (slice_get (set units tile new) t) ≡ count_of (slice_get units t)
counts_set units tile unit new there same t = ⊎_elim
    (λ (here : t ≡ tile).
    ap (λ (k : ℕ). count_of (slice_get (set units tile new) k)) here ∙ ap count_of
    (slice_get-set_same units tile new (slice_get_within units tile unit there)) ∙ same
    ∙ sym (ap count_of there) ∙ sym (ap (λ (k : ℕ). count_of (slice_get units k)) here))
    (λ (other : t ≢ tile). ap count_of (slice_get-set_other units tile t new other))
    (cases_eq t tile)

-- ---- a request is made
record IsMarked (chip : Chip) (old new : Misses) : Type 0 where
  unsent : unsent_to_go chip new + per_request chip ≡ unsent_to_go chip old
  promises : (g : Grid) (t : ℕ) → demand_promises g t new.demand ≡ demand_promises g t old.demand
  waits : is_some new.demand ≡ is_some old.demand

marked : (chip : Chip) (misses : Misses) (asked : Kind × ℕ) → wanted misses ≡ Some asked → IsMarked chip misses (marked_sent misses)
unfolding wanted marked_sent
marked chip misses asked = by misses.demand misses.back
  where
    demand_by : (demand : Demand) (back : Option WriteBack) (sent : Bool) → demand.sent ≡ sent
        → when (not sent) (Some (demand.kind, demand.line)) ≡ Some asked
        → IsMarked chip (record { demand = Some demand; back = back }) (record { demand = sent_demand (Some demand); back = back })
    demand_by demand back true is wants = cc
    demand_by demand back false is wants = record { unsent = rw is (omega arith); promises = λ g t. refl; waits = refl }

    demand_is : (demand : Option Demand) (back : Option WriteBack) → wanted_by_demand demand ≡ Some asked
        → IsMarked chip (record { demand = demand; back = back }) (record { demand = sent_demand demand; back = back })
    demand_is None back wants = cc
    demand_is (Some demand) back wants = demand_by demand back demand.sent refl wants

    back_by : (demand : Option Demand) (back : WriteBack) (sent : Bool) → back.sent ≡ sent
        → cond {A = Option (Kind × ℕ)} sent (wanted_by_demand demand) (Some (PutM, back.line)) ≡ Some asked
        → IsMarked chip (record { demand = demand; back = Some back })
        (cond {A = Misses} sent (record { demand = sent_demand demand; back = Some back })
        (record { demand = demand; back = Some (record back { sent = true }) }))
    back_by demand back true is wants = demand_is demand (Some back) wants
    back_by demand back false is wants = record { unsent = rw is (omega arith); promises = λ g t. refl; waits = refl }

    by : (demand : Option Demand) (back : Option WriteBack) → wanted_by demand back ≡ Some asked
        → IsMarked chip (record { demand = demand; back = back }) (sent_by demand back)
    by demand None wants = demand_is demand None wants
    by demand (Some back) wants = back_by demand back back.sent refl wants

sent_falls : (chip : Chip) (unit : UnitState) (asked : Kind × ℕ) → wanted unit.node.side.misses ≡ Some asked
    → unit_to_go chip (record unit { node = after_request_sent unit.node }) + per_request chip ≤ unit_to_go chip unit
unfolding after_request_sent node_to_go
sent_falls chip unit asked wants =
    let mark = marked chip unit.node.side.misses asked wants in
    let core = core_side chip unit (record unit.node.side { misses = marked_sent unit.node.side.misses }) mark.waits (λ line fits. fits) in
    let promises = mark.promises chip.grid unit.node.tile in
    let unsent = mark.unsent in
    omega arith

same_delivered : (node : Node) → (after_request_sent node).delivered ≡ node.delivered
unfolding after_request_sent
same_delivered node = refl

pub inject_falls : (chip : Chip) (s new : ChipState) (tile : ℕ) → length s.network.interfaces ≡ tile_count chip → inject chip s tile ≡ Some new
    → Falls chip s new
unfolding unit_at
inject_falls chip s new tile interfaces =
    bind_eq (Falls chip s) (slice_get s.units tile) _
    (λ unit there n last. bind_eq (Falls chip s) (wanted unit.node.side.misses) _
    (λ asked wants n last. bind_eq (Falls chip s) (after_inject chip s.network tile asked.0 asked.1) _
    (λ net injects n is. made (Falls chip s) (with_node tile unit (after_request_sent unit.node) (with_network net s)) n
    (let step = inject_grows chip s.network net tile asked.0 asked.1 interfaces injects in
    let after = with_node tile unit (after_request_sent unit.node) (with_network net s) in
    let sent_unit = record unit { node = after_request_sent unit.node } in
    let answers = answers_same chip s after step.ordered (counts_set s.units tile unit sent_unit there (same_delivered unit.node)) in
    let units = sum_by-set (unit_to_go chip) s.units tile unit sent_unit there in
    let falls = sent_falls chip unit asked wants in
    let grows = step.grows in omega arith) is) n last) n last)
    new

-- ---- a message is sent
dropped : (f : Msg → ℕ) (out : List Msg) (msg : Msg) → slice_get out 0 ≡ Some msg → sum_by f (drop 1 out) + f msg ≡ sum_by f out
dropped f [] msg there = cc
dropped f (first ∷ out) msg there = let same : first ≡ msg = cc in let weight = ap f same in omega (arith, sum_by-cons f first out)

message_falls : (chip : Chip) (unit : UnitState) (msg : Msg) → slice_get unit.node.out 0 ≡ Some msg
    → unit_to_go chip (record unit { node = after_message_sent unit.node }) + (2 + distance chip.grid unit.node.tile msg.to) ≡ unit_to_go chip unit
unfolding after_message_sent node_to_go core_to_go
message_falls chip unit msg there = let falls = dropped (λ (msg : Msg). 2 + distance chip.grid unit.node.tile msg.to) unit.node.out msg there in omega arith

still_delivered : (node : Node) → (after_message_sent node).delivered ≡ node.delivered
unfolding after_message_sent
still_delivered node = refl

-- each unit is that of its tile
abbrev pub AreOfTiles : ChipState → Type 0
AreOfTiles s = (t : ℕ) (unit : UnitState) → slice_get s.units t ≡ Some unit → unit.node.tile ≡ t

pub send_falls : (chip : Chip) (s new : ChipState) (tile : ℕ) → AreOfTiles s → send s tile ≡ Some new → Falls chip s new
unfolding unit_at
send_falls chip s new tile own =
    bind_eq (Falls chip s) (slice_get s.units tile) _
    (λ unit there n last. bind_eq (Falls chip s) (slice_get unit.node.out 0) _
    (λ msg first n last. bind_eq (Falls chip s) (after_send s.replies tile msg) _
    (λ replies sends n is. made (Falls chip s) (with_node tile unit (after_message_sent unit.node) (record s { replies = replies })) n
    (let after = with_node tile unit (after_message_sent unit.node) (record s { replies = replies }) in
    let sent_unit = record unit { node = after_message_sent unit.node } in
    let answers = answers_same chip s after refl (counts_set s.units tile unit sent_unit there (still_delivered unit.node)) in
    let units = sum_by-set (unit_to_go chip) s.units tile unit sent_unit there in
    let falls = message_falls chip unit msg first in
    let far = ap (λ (t : ℕ). distance chip.grid t msg.to) (own tile unit there) in
    let grows = sent_grows chip.grid s.replies replies tile msg sends in omega arith) is) n last) n last)
    new

pub data_hop_falls : (chip : Chip) (s new : ChipState) (r : ℕ) (port : Port) (slot : ℕ) → HasTiles chip.grid → data_hop chip s r port slot ≡ Some new
    → Falls chip s new
data_hop_falls chip s new r port slot some = bind_eq (Falls chip s) (after_data_hop chip.grid s.replies r port slot) _
    (λ replies goes n is. made (Falls chip s) (record s { replies = replies }) n
    (let lowers = forwarded_lowers chip.grid s.replies replies r port slot some goes in
    let answers = answers_same chip s (record s { replies = replies }) refl (λ t. refl) in omega arith) is) new
