-- Each event of a station: the fabric's step with the unit's call is the step of the chip that the station sees, and where the
-- fabric refuses it, so does the chip.
use Rattle.std.proofs.Common.{◌≡◌, ℕ, ◌+◌, Option, Some, None, refl, ◌∙◌, ap, subst}
use Rattle.std.specs.Prelude.{slice_get, set}
use Rattle.mesh_gen.specs.declared.kind.Kind.{Kind}
use Rattle.mesh_gen.specs.declared.msg.Msg.{Msg}
use Rattle.mesh_gen.specs.declared.port.Port.{Port}
use Rattle.mesh_gen.specs.declared.request.Request.{Request}
use Rattle.mesh_gen.specs.Partial.{◌>>=◌}
use Rattle.vc_bank.specs.Places.{Network}
use Rattle.report_text.specs.declared.access.Access.{Access}
use Rattle.report_text.specs.declared.event.Event.TheVariants.{Tick, Inject, Post, Take, Eject, Send, Hop, DataHop, DataEject}
use Rattle.chip_model.specs.OrderedNetwork.{OrderedNetwork, after_inject, after_request_post, after_network_tick, after_vector_take, after_copy_hop}
use Rattle.chip_model.specs.OrderedNetwork.{after_delivery}
use Rattle.chip_model.specs.Replies.{after_send, after_data_hop, after_data_eject}
use Rattle.chip_model.specs.Misses.{wanted}
use Rattle.chip_model.specs.Node.{after_request_sent, after_message_sent}
use Rattle.chip_model.specs.Units.{UnitState, Behaviour}
use Rattle.chip_model.specs.Events.{step, unit_at}
use Rattle.fabric_core.specs.declared.made.Made.{Made}
use Rattle.fabric_core.specs.Fabric.{FabricState, MayNote, with_network, with_replies, fabric_after_inject, fabric_after_post, fabric_after_tick}
use Rattle.fabric_core.specs.Fabric.{fabric_after_take, fabric_after_hop, fabric_after_send, fabric_after_data_hop, fabric_after_eject}
use Rattle.fabric_core.specs.Fabric.{fabric_after_data_eject}
use Rattle.fabric_core.specs.Parts.{NetworksFit}
use Rattle.fabric_core.proofs.Entries.{inject_valid, tick_valid, post_valid, take_valid, eject_valid, hop_valid, send_valid, data_hop_valid, data_eject_valid}
use Rattle.std.proofs.lemmas.Option.{option_and_then_some, same_Some}
use Rattle.machine_core.specs.Stations.{StationState, IsDone, IsRefused, settled}
use Rattle.machine_core.proofs.SeenSteps.{Steps, set_twice, set_there, made_by, accesses_with, done_by, refused_by}

-- what a step that is possible came from
record Came {X Y : Type 0} (o : Option X) (f : X → Y) (y : Y) : Type 0 where
  value : X
  was : o ≡ Some value
  made : f value ≡ y

came : {X Y : Type 0} (o : Option X) (f : X → Y) (y : Y) → (o >>= (λ x. Some (f x))) ≡ Some y → Came o f y
came o f y e = option_and_then_some (λ x. Some (f x)) o y e (λ x was done. record { value = x; was = was; made = same_Some (f x) y done })

none_came : {X Y : Type 0} (o : Option X) (f : X → Y) → (o >>= (λ x. Some (f x))) ≡ None → o ≡ None
none_came None f e = refl
none_came (Some x) f e = cc

-- ---- ticks

tick_steps : (b : Behaviour) (st : StationState) (fab : FabricState) (network : OrderedNetwork) → after_network_tick fab.chip fab.network ≡ Some network
    → Steps b st fab Tick network fab.replies fab.hops st.unit None
unfolding step unit_at
tick_steps b st fab network was units inside = (set units st.tile st.unit, refl, rw was refl)

pub tick_done : (b : Behaviour) (st new : StationState) (fab moved new_fab : FabricState) → MayNote (made_by st) fab → NetworksFit fab
    → fabric_after_tick (made_by st) fab ≡ Some moved
    → settled st ≡ new → record moved { accesses = accesses_with st moved None } ≡ new_fab → IsDone b Tick st fab new new_fab
unfolding fabric_after_tick
tick_done b st new fab moved new_fab may fit is same same_fab =
    let from = came (after_network_tick fab.chip fab.network) (λ network. with_network (made_by st) Tick network fab) moved is in
    done_by b st new fab new_fab Tick from.value fab.replies fab.hops st.unit None (tick_valid fab (made_by st) may fit)
    (tick_steps b st fab from.value from.was) same
    (ap (λ (f : FabricState). record f { accesses = accesses_with st f None }) from.made ∙ same_fab)

pub tick_refused : (b : Behaviour) (st : StationState) (fab : FabricState) → fabric_after_tick (made_by st) fab ≡ None → IsRefused b fab.chip Tick st fab
unfolding fabric_after_tick step
tick_refused b st fab none =
    let nothing = none_came (after_network_tick fab.chip fab.network) (λ network. with_network (made_by st) Tick network fab) none in
    refused_by b st fab Tick (λ units inside. rw nothing refl)

-- ---- a request enters the network

inject_steps : (b : Behaviour) (st : StationState) (fab : FabricState) (kind : Kind) (line : ℕ) (network : OrderedNetwork)
    → wanted st.unit.node.side.misses ≡ Some (kind, line) → after_inject fab.chip fab.network st.tile kind line ≡ Some network
    → Steps b st fab (Inject st.tile) network fab.replies fab.hops (record st.unit { node = after_request_sent st.unit.node }) None
unfolding step unit_at
inject_steps b st fab kind line network wants was units inside = (
  set (set units st.tile st.unit) st.tile (record st.unit { node = after_request_sent st.unit.node }),
  set_twice units st.tile st.unit
      (record st.unit { node = after_request_sent st.unit.node }),
  rw (set_there units st.tile st.unit inside, wants, was) refl,
)

pub inject_done : (b : Behaviour) (st new : StationState) (fab moved new_fab : FabricState) (kind : Kind) (line : ℕ) → MayNote (made_by st) fab
    → NetworksFit fab
    → wanted st.unit.node.side.misses ≡ Some (kind, line) → fabric_after_inject (made_by st) kind line fab ≡ Some moved
    → settled (record st { unit = record st.unit { node = after_request_sent st.unit.node } }) ≡ new
    → record moved { accesses = accesses_with st moved None } ≡ new_fab
    → IsDone b (Inject st.tile) st fab new new_fab
unfolding fabric_after_inject step unit_at
inject_done b st new fab moved new_fab kind line may fit wants is same same_fab =
    let from = came (after_inject fab.chip fab.network st.tile kind line) (λ network. with_network (made_by st) (Inject st.tile) network fab) moved is in
    let sent : UnitState = record st.unit { node = after_request_sent st.unit.node } in
    done_by b st new fab new_fab (Inject st.tile) from.value fab.replies fab.hops sent None (inject_valid fab (made_by st) may fit)
    (inject_steps b st fab kind line from.value wants from.was) same
    (ap (λ (f : FabricState). record f { accesses = accesses_with st f None }) from.made ∙ same_fab)

pub inject_refused : (b : Behaviour) (st : StationState) (fab : FabricState) (kind : Kind) (line : ℕ) → wanted st.unit.node.side.misses ≡ Some (kind, line)
    → fabric_after_inject (made_by st) kind line fab ≡ None → IsRefused b fab.chip (Inject st.tile) st fab
unfolding fabric_after_inject step unit_at
inject_refused b st fab kind line wants none =
    let nothing = none_came (after_inject fab.chip fab.network st.tile kind line) (λ network. with_network (made_by st) (Inject st.tile) network fab) none in
    refused_by b st fab (Inject st.tile) (λ units inside. rw (set_there units st.tile st.unit inside, wants, nothing) refl)

pub inject_unwanted : (b : Behaviour) (st : StationState) (fab : FabricState) → wanted st.unit.node.side.misses ≡ None
    → IsRefused b fab.chip (Inject st.tile) st fab
unfolding step unit_at
inject_unwanted b st fab none = refused_by b st fab (Inject st.tile) (λ units inside. rw (set_there units st.tile st.unit inside, none) refl)

-- ---- posts and vectors

post_steps : (b : Behaviour) (st : StationState) (fab : FabricState) (network : OrderedNetwork) → after_request_post fab.network st.tile ≡ Some network
    → Steps b st fab (Post st.tile) network fab.replies fab.hops st.unit None
unfolding step unit_at
post_steps b st fab network was units inside = (set units st.tile st.unit, refl, rw was refl)

pub post_done : (b : Behaviour) (st new : StationState) (fab moved new_fab : FabricState) → MayNote (made_by st) fab → NetworksFit fab
    → fabric_after_post (made_by st) st.tile fab ≡ Some moved
    → settled st ≡ new → record moved { accesses = accesses_with st moved None } ≡ new_fab → IsDone b (Post st.tile) st fab new new_fab
unfolding fabric_after_post step
post_done b st new fab moved new_fab may fit is same same_fab =
    let from = came (after_request_post fab.network st.tile) (λ network. with_network (made_by st) (Post st.tile) network fab) moved is in
    done_by b st new fab new_fab (Post st.tile) from.value fab.replies fab.hops st.unit None (post_valid fab (made_by st) st.tile from.value may fit from.was)
    (post_steps b st fab from.value from.was) same
    (ap (λ (f : FabricState). record f { accesses = accesses_with st f None }) from.made ∙ same_fab)

pub post_refused : (b : Behaviour) (st : StationState) (fab : FabricState) → fabric_after_post (made_by st) st.tile fab ≡ None
    → IsRefused b fab.chip (Post st.tile) st fab
unfolding fabric_after_post step
post_refused b st fab none =
    let nothing = none_came (after_request_post fab.network st.tile) (λ network. with_network (made_by st) (Post st.tile) network fab) none in
    refused_by b st fab (Post st.tile) (λ units inside. rw nothing refl)

take_steps : (b : Behaviour) (st : StationState) (fab : FabricState) (network : OrderedNetwork) → after_vector_take fab.network st.tile ≡ Some network
    → Steps b st fab (Take st.tile) network fab.replies fab.hops st.unit None
unfolding step unit_at
take_steps b st fab network was units inside = (set units st.tile st.unit, refl, rw was refl)

pub take_done : (b : Behaviour) (st new : StationState) (fab moved new_fab : FabricState) → MayNote (made_by st) fab → NetworksFit fab
    → fabric_after_take (made_by st) st.tile fab ≡ Some moved
    → settled st ≡ new → record moved { accesses = accesses_with st moved None } ≡ new_fab → IsDone b (Take st.tile) st fab new new_fab
unfolding fabric_after_take step
take_done b st new fab moved new_fab may fit is same same_fab =
    let from = came (after_vector_take fab.network st.tile) (λ network. with_network (made_by st) (Take st.tile) network fab) moved is in
    done_by b st new fab new_fab (Take st.tile) from.value fab.replies fab.hops st.unit None (take_valid fab (made_by st) st.tile from.value may fit from.was)
    (take_steps b st fab from.value from.was) same
    (ap (λ (f : FabricState). record f { accesses = accesses_with st f None }) from.made ∙ same_fab)

pub take_refused : (b : Behaviour) (st : StationState) (fab : FabricState) → fabric_after_take (made_by st) st.tile fab ≡ None
    → IsRefused b fab.chip (Take st.tile) st fab
unfolding fabric_after_take step
take_refused b st fab none =
    let nothing = none_came (after_vector_take fab.network st.tile) (λ network. with_network (made_by st) (Take st.tile) network fab) none in
    refused_by b st fab (Take st.tile) (λ units inside. rw nothing refl)

-- ---- a request is delivered

pub delivery_came : (st : StationState) (fab moved : FabricState) (q : Request) → fabric_after_eject (made_by st) st.tile fab ≡ Some (q, moved)
    → (network : OrderedNetwork) × (after_delivery fab.chip fab.network st.tile ≡ Some (q, network))
    × (with_network (made_by st) (Eject st.tile) network fab ≡ moved)
unfolding fabric_after_eject
delivery_came st fab moved q is =
    let from = came {Y = Request × FabricState} (after_delivery fab.chip fab.network st.tile)
    (λ out. (out.0, with_network (made_by st) (Eject st.tile) out.1 fab)) (q, moved) is in (
      from.value.1,
      from.was ∙ ap (λ (r : Request). Some (r, from.value.1)) (ap (λ (p : Request × FabricState). p.0) from.made),
      ap (λ (p : Request
          × FabricState). p.1) from.made,
    )

pub eject_done : (b : Behaviour) (st new : StationState) (fab moved new_fab : FabricState) (q : Request) (unit : UnitState) (access : Option Access)
    → MayNote (made_by st) fab → NetworksFit fab
    → fabric_after_eject (made_by st) st.tile fab ≡ Some (q, moved) → b.delivered q st.unit ≡ (unit, access)
    → settled (record st { unit = unit }) ≡ new → record moved { accesses = accesses_with st moved access } ≡ new_fab
    → IsDone b (Eject st.tile) st fab new new_fab
unfolding step unit_at
eject_done b st new fab moved new_fab q unit access may fit is acts same same_fab =
    let from = delivery_came st fab moved q is in
    done_by b st new fab new_fab (Eject st.tile) from.0 fab.replies fab.hops unit access (eject_valid fab (made_by st) st.tile q from.0 may fit from.1)
    (λ units inside. (
      set (set units st.tile st.unit) st.tile unit,
      set_twice units st.tile st.unit unit,
      rw
          (set_there units st.tile st.unit inside, from.1, acts) refl,
    )) same
    (ap (λ (f : FabricState). record f { accesses = accesses_with st f access }) from.2 ∙ same_fab)

pub eject_refused : (b : Behaviour) (st : StationState) (fab : FabricState) → fabric_after_eject (made_by st) st.tile fab ≡ None
    → IsRefused b fab.chip (Eject st.tile) st fab
unfolding fabric_after_eject step unit_at
eject_refused b st fab none =
    let nothing = none_came {Y = Request × FabricState} (after_delivery fab.chip fab.network st.tile)
    (λ out. (out.0, with_network (made_by st) (Eject st.tile) out.1 fab)) none in
    refused_by b st fab (Eject st.tile) (λ units inside. rw (set_there units st.tile st.unit inside, nothing) refl)

-- ---- a message enters the reply network

send_steps : (b : Behaviour) (st : StationState) (fab : FabricState) (msg : Msg) (replies : Network Msg) → slice_get st.unit.node.out 0 ≡ Some msg
    → after_send fab.replies st.tile msg ≡ Some replies
    → Steps b st fab (Send st.tile) fab.network replies fab.hops (record st.unit { node = after_message_sent st.unit.node }) None
unfolding step unit_at
send_steps b st fab msg replies first was units inside = (
  set (set units st.tile st.unit) st.tile (record st.unit { node = after_message_sent st.unit.node }),
  set_twice units st.tile st.unit
      (record st.unit { node = after_message_sent st.unit.node }),
  rw (set_there units st.tile st.unit inside, first, was) refl,
)

pub send_done : (b : Behaviour) (st new : StationState) (fab moved new_fab : FabricState) (msg : Msg) → MayNote (made_by st) fab → NetworksFit fab
    → slice_get st.unit.node.out 0 ≡ Some msg → fabric_after_send (made_by st) st.tile msg fab ≡ Some moved
    → settled (record st { unit = record st.unit { node = after_message_sent st.unit.node } }) ≡ new
    → record moved { accesses = accesses_with st moved None } ≡ new_fab
    → IsDone b (Send st.tile) st fab new new_fab
unfolding fabric_after_send step unit_at
send_done b st new fab moved new_fab msg may fit first is same same_fab =
    let from = came (after_send fab.replies st.tile msg) (λ replies. with_replies (made_by st) (Send st.tile) replies fab) moved is in
    let sent : UnitState = record st.unit { node = after_message_sent st.unit.node } in
    done_by b st new fab new_fab (Send st.tile) fab.network from.value fab.hops sent None (send_valid fab (made_by st) st.tile msg from.value may fit from.was)
    (send_steps b st fab msg from.value first from.was) same
    (ap (λ (f : FabricState). record f { accesses = accesses_with st f None }) from.made ∙ same_fab)

pub send_refused : (b : Behaviour) (st : StationState) (fab : FabricState) (msg : Msg) → slice_get st.unit.node.out 0 ≡ Some msg
    → fabric_after_send (made_by st) st.tile msg fab ≡ None → IsRefused b fab.chip (Send st.tile) st fab
unfolding fabric_after_send step unit_at
send_refused b st fab msg first none =
    let nothing = none_came (after_send fab.replies st.tile msg) (λ replies. with_replies (made_by st) (Send st.tile) replies fab) none in
    refused_by b st fab (Send st.tile) (λ units inside. rw (set_there units st.tile st.unit inside, first, nothing) refl)

pub send_empty : (b : Behaviour) (st : StationState) (fab : FabricState) → slice_get st.unit.node.out 0 ≡ None → IsRefused b fab.chip (Send st.tile) st fab
unfolding step unit_at
send_empty b st fab none = refused_by b st fab (Send st.tile) (λ units inside. rw (set_there units st.tile st.unit inside, none) refl)

-- ---- hops

hop_steps : (b : Behaviour) (st : StationState) (fab : FabricState) (port : Port) (slot : ℕ) (out : Port) (network : OrderedNetwork)
    → after_copy_hop fab.chip fab.network st.tile port slot out ≡ Some network
    → Steps b st fab (Hop st.tile port slot out) network fab.replies (fab.hops + 1) st.unit None
unfolding step unit_at
hop_steps b st fab port slot out network was units inside = (set units st.tile st.unit, refl, rw was refl)

pub hop_done : (b : Behaviour) (st new : StationState) (fab moved new_fab : FabricState) (port : Port) (slot : ℕ) (out : Port) → MayNote (made_by st) fab
    → NetworksFit fab
    → fabric_after_hop (made_by st) st.tile port slot out fab ≡ Some moved
    → settled st ≡ new → record moved { accesses = accesses_with st moved None } ≡ new_fab → IsDone b (Hop st.tile port slot out) st fab new new_fab
unfolding fabric_after_hop step
hop_done b st new fab moved new_fab port slot out may fit is same same_fab =
    let from = came (after_copy_hop fab.chip fab.network st.tile port slot out)
    (λ network. with_network (made_by st) (Hop st.tile port slot out) network (record fab { hops = fab.hops + 1 })) moved is in
    done_by b st new fab new_fab (Hop st.tile port slot out) from.value fab.replies (fab.hops + 1) st.unit None (hop_valid fab
    (made_by st) st.tile port slot out from.value may fit from.was)
    (hop_steps b st fab port slot out from.value from.was) same
    (ap (λ (f : FabricState). record f { accesses = accesses_with st f None }) from.made ∙ same_fab)

pub hop_refused : (b : Behaviour) (st : StationState) (fab : FabricState) (port : Port) (slot : ℕ) (out : Port)
    → fabric_after_hop (made_by st) st.tile port slot out fab ≡ None
    → IsRefused b fab.chip (Hop st.tile port slot out) st fab
unfolding fabric_after_hop step
hop_refused b st fab port slot out none =
    let nothing = none_came (after_copy_hop fab.chip fab.network st.tile port slot out)
    (λ network. with_network (made_by st) (Hop st.tile port slot out) network (record fab { hops = fab.hops + 1 })) none in
    refused_by b st fab (Hop st.tile port slot out) (λ units inside. rw nothing refl)

data_hop_steps : (b : Behaviour) (st : StationState) (fab : FabricState) (port : Port) (slot : ℕ) (replies : Network Msg)
    → after_data_hop fab.chip.grid fab.replies st.tile port slot ≡ Some replies
    → Steps b st fab (DataHop st.tile port slot) fab.network replies fab.hops st.unit None
unfolding step unit_at
data_hop_steps b st fab port slot replies was units inside = (set units st.tile st.unit, refl, rw was refl)

pub data_hop_done : (b : Behaviour) (st new : StationState) (fab moved new_fab : FabricState) (port : Port) (slot : ℕ) → MayNote (made_by st) fab
    → NetworksFit fab
    → fabric_after_data_hop (made_by st) st.tile port slot fab ≡ Some moved
    → settled st ≡ new → record moved { accesses = accesses_with st moved None } ≡ new_fab → IsDone b (DataHop st.tile port slot) st fab new new_fab
unfolding fabric_after_data_hop step
data_hop_done b st new fab moved new_fab port slot may fit is same same_fab =
    let from = came (after_data_hop fab.chip.grid fab.replies st.tile port slot)
    (λ replies. with_replies (made_by st) (DataHop st.tile port slot) replies fab) moved is in
    done_by b st new fab new_fab (DataHop st.tile port slot) fab.network from.value fab.hops st.unit None (data_hop_valid fab
    (made_by st) st.tile port slot from.value may fit from.was)
    (data_hop_steps b st fab port slot from.value from.was) same
    (ap (λ (f : FabricState). record f { accesses = accesses_with st f None }) from.made ∙ same_fab)

pub data_hop_refused : (b : Behaviour) (st : StationState) (fab : FabricState) (port : Port) (slot : ℕ)
    → fabric_after_data_hop (made_by st) st.tile port slot fab ≡ None
    → IsRefused b fab.chip (DataHop st.tile port slot) st fab
unfolding fabric_after_data_hop step
data_hop_refused b st fab port slot none =
    let nothing = none_came (after_data_hop fab.chip.grid fab.replies st.tile port slot)
    (λ replies. with_replies (made_by st) (DataHop st.tile port slot) replies fab) none in
    refused_by b st fab (DataHop st.tile port slot) (λ units inside. rw nothing refl)

-- ---- a message comes

pub arrival_came : (st : StationState) (fab moved : FabricState) (port : Port) (slot : ℕ) (msg : Msg)
    → fabric_after_data_eject (made_by st) st.tile port slot fab ≡ Some (msg, moved)
    → (replies : Network Msg) × (after_data_eject fab.replies st.tile port slot ≡ Some (msg, replies))
    × (with_replies (made_by st) (DataEject st.tile port slot) replies fab ≡ moved)
unfolding fabric_after_data_eject
arrival_came st fab moved port slot msg is =
    let from = came {Y = Msg × FabricState} (after_data_eject fab.replies st.tile port slot)
    (λ out. (out.0, with_replies (made_by st) (DataEject st.tile port slot) out.1 fab)) (msg, moved) is in (
      from.value.1,
      from.was ∙ ap (λ (m : Msg). Some (m, from.value.1)) (ap (λ (p : Msg × FabricState). p.0) from.made),
      ap (λ (p : Msg
          × FabricState). p.1) from.made,
    )

pub data_eject_done : (b : Behaviour) (st new : StationState) (fab moved new_fab : FabricState) (port : Port) (slot : ℕ) (msg : Msg) (unit : UnitState)
    (access : Option Access)
    → MayNote (made_by st) fab → NetworksFit fab → fabric_after_data_eject (made_by st) st.tile port slot fab ≡ Some (msg, moved)
    → b.received msg st.unit ≡ (unit, access)
    → settled (record st { unit = unit }) ≡ new → record moved { accesses = accesses_with st moved access } ≡ new_fab
    → IsDone b (DataEject st.tile port slot) st fab new new_fab
unfolding step unit_at
data_eject_done b st new fab moved new_fab port slot msg unit access may fit is acts same same_fab =
    let from = arrival_came st fab moved port slot msg is in
    done_by b st new fab new_fab (DataEject st.tile port slot) fab.network from.0 fab.hops unit access (data_eject_valid fab
    (made_by st) st.tile port slot msg from.0 may fit from.1)
    (λ units inside. (
      set (set units st.tile st.unit) st.tile unit,
      set_twice units st.tile st.unit unit,
      rw
          (from.1, set_there units st.tile st.unit inside, acts) refl,
    )) same
    (ap (λ (f : FabricState). record f { accesses = accesses_with st f access }) from.2 ∙ same_fab)

pub data_eject_refused : (b : Behaviour) (st : StationState) (fab : FabricState) (port : Port) (slot : ℕ)
    → fabric_after_data_eject (made_by st) st.tile port slot fab ≡ None
    → IsRefused b fab.chip (DataEject st.tile port slot) st fab
unfolding fabric_after_data_eject step
data_eject_refused b st fab port slot none =
    let nothing = none_came {Y = Msg × FabricState} (after_data_eject fab.replies st.tile port slot)
    (λ out. (out.0, with_replies (made_by st) (DataEject st.tile port slot) out.1 fab)) none in
    refused_by b st fab (DataEject st.tile port slot) (λ units inside. rw nothing refl)

-- ---- what every event leaves of the fabric

pub record SameRoom (fab moved : FabricState) : Type 0 where
  pub accesses : moved.accesses ≡ fab.accesses
  pub room : moved.room ≡ fab.room

same_room : {X : Type 0} (fab moved : FabricState) (o : Option X) (f : X → FabricState) → ((x : X) → SameRoom fab (f x))
    → (o >>= (λ x. Some (f x))) ≡ Some moved → SameRoom fab moved
same_room fab moved o f each is = let from = came o f moved is in subst (SameRoom fab) from.made (each from.value)

pub tick_room : (who : Made) (fab moved : FabricState) → fabric_after_tick who fab ≡ Some moved → SameRoom fab moved
unfolding fabric_after_tick
tick_room who fab moved is = same_room fab moved _ _ (λ x. record { accesses = refl; room = refl }) is

pub inject_room : (who : Made) (kind : Kind) (line : ℕ) (fab moved : FabricState) → fabric_after_inject who kind line fab ≡ Some moved → SameRoom fab moved
unfolding fabric_after_inject
inject_room who kind line fab moved is = same_room fab moved _ _ (λ x. record { accesses = refl; room = refl }) is

pub post_room : (who : Made) (t : ℕ) (fab moved : FabricState) → fabric_after_post who t fab ≡ Some moved → SameRoom fab moved
unfolding fabric_after_post
post_room who t fab moved is = same_room fab moved _ _ (λ x. record { accesses = refl; room = refl }) is

pub take_room : (who : Made) (t : ℕ) (fab moved : FabricState) → fabric_after_take who t fab ≡ Some moved → SameRoom fab moved
unfolding fabric_after_take
take_room who t fab moved is = same_room fab moved _ _ (λ x. record { accesses = refl; room = refl }) is

pub hop_room : (who : Made) (r : ℕ) (port : Port) (slot : ℕ) (out : Port) (fab moved : FabricState)
    → fabric_after_hop who r port slot out fab ≡ Some moved → SameRoom fab moved
unfolding fabric_after_hop
hop_room who r port slot out fab moved is = same_room fab moved _ _ (λ x. record { accesses = refl; room = refl }) is

pub send_room : (who : Made) (r : ℕ) (msg : Msg) (fab moved : FabricState) → fabric_after_send who r msg fab ≡ Some moved → SameRoom fab moved
unfolding fabric_after_send
send_room who r msg fab moved is = same_room fab moved _ _ (λ x. record { accesses = refl; room = refl }) is

pub data_hop_room : (who : Made) (r : ℕ) (port : Port) (slot : ℕ) (fab moved : FabricState) → fabric_after_data_hop who r port slot fab ≡ Some moved
    → SameRoom fab moved
unfolding fabric_after_data_hop
data_hop_room who r port slot fab moved is = same_room fab moved _ _ (λ x. record { accesses = refl; room = refl }) is

pub eject_room : (st : StationState) (fab moved : FabricState) (q : Request) → fabric_after_eject (made_by st) st.tile fab ≡ Some (q, moved)
    → SameRoom fab moved
eject_room st fab moved q is = subst (SameRoom fab) (delivery_came st fab moved q is).2 (record { accesses = refl; room = refl })

pub data_eject_room : (st : StationState) (fab moved : FabricState) (port : Port) (slot : ℕ) (msg : Msg)
    → fabric_after_data_eject (made_by st) st.tile port slot fab ≡ Some (msg, moved) → SameRoom fab moved
data_eject_room st fab moved port slot msg is = subst (SameRoom fab) (arrival_came st fab moved port slot msg is).2 (record { accesses = refl; room = refl })
