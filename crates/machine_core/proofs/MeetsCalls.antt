-- What the calls of a station's events ask follows from what holds of every state that a run comes to.
use Rattle.std.proofs.Common.{◌≡◌, ℕ, false, ◌+◌, ◌<◌, ◌≤◌, List, Some, length, refl, sym, ◌∙◌, ap, subst, arith}
use Rattle.std.specs.Prelude.{slice_get, replicate}
use Rattle.std.proofs.lemmas.List.{length-append, length-replicate}
use Rattle.mesh_gen.specs.declared.msg.Msg.{Msg}
use Rattle.mesh_gen.specs.declared.port.Port.{Port}
use Rattle.mesh_gen.specs.declared.request.Request.{Request}
use Rattle.mesh_gen.specs.Limits.{most_tiles}
use Rattle.vc_bank.specs.Places.{Network}
use Rattle.report_text.specs.declared.access.Access.{Access}
use Rattle.report_text.specs.declared.event.Event.{Event}
use Rattle.report_text.specs.declared.event.Event.TheVariants.{Core}
use Rattle.report_text.specs.Journals.{events_of}
use Rattle.doc_text.specs.Doc.{Doc}
use Rattle.chip_model.specs.Chip.{Chip, chip_of, tile_count}
use Rattle.chip_model.specs.NetworkFits.{NetworkFits}
use Rattle.chip_model.specs.NetworkShape.{HasChannels}
use Rattle.chip_model.specs.OrderedNetwork.{OrderedNetwork, after_delivery}
use Rattle.chip_model.specs.Replies.{after_data_eject}
use Rattle.chip_model.specs.Units.{UnitState, Behaviour}
use Rattle.chip_model.specs.ChipState.{ChipState, opening}
use Rattle.chip_model.specs.Runs.{run}
use Rattle.chip_model.specs.BehaviourLaws.{KeepsLaws}
use Rattle.chip_model.specs.ChipInvariant.{ProtocolHolds}
use Rattle.chip_laws.specs.DocFits.{DocFits}
use Rattle.core_unit.specs.Counts.{CountsOne}
use Rattle.supply_laws.specs.OpenGets.{DataAnswersGets}
use Rattle.supply_laws.specs.Reachable.{StateHolds}
use Rattle.supply_laws.specs.UnitCalls.{DeliveryFits, ArrivalFits}
use Rattle.fabric_core.specs.Fabric.{FabricState, event_count, MayNote, fabric_after_eject, fabric_after_data_eject}
use Rattle.fabric_core.specs.Parts.{NetworksFit}
use Rattle.machine_core.specs.Stations.{StationState, seen_by}
use Rattle.machine_core.specs.Meetings.{AreOfRun, MeetsCalls}
use Rattle.machine_core.proofs.SeenSteps.{set_there, made_by}
use Rattle.machine_core.proofs.StationEvents.{SameRoom, delivery_came, arrival_came}
use Rattle.machine_core.proofs.Counted.{EventLaws, reached_counted}

-- what deliveries and arrivals meet, as the laws below say it
abbrev pub DeliveriesMeet : ℕ → ℕ → Type 0
DeliveriesMeet places queue = (d : Doc) (s : ChipState) (t : ℕ) (unit : UnitState) (q : Request) (net : OrderedNetwork) → DocFits d
    → tile_count (chip_of d) ≤ most_tiles
    → ProtocolHolds d s → slice_get s.units t ≡ Some unit → after_delivery (chip_of d) s.network t ≡ Some (q, net) → DeliveryFits places queue unit.node q

abbrev pub ArrivalsMeet : ℕ → Type 0
ArrivalsMeet queue = (d : Doc) (s : ChipState) (t : ℕ) (port : Port) (slot : ℕ) (unit : UnitState) (m : Msg) (replies : Network Msg) → DocFits d
    → tile_count (chip_of d) ≤ most_tiles
    → ProtocolHolds d s → DataAnswersGets s → slice_get s.units t ≡ Some unit → after_data_eject s.replies t port slot ≡ Some (m, replies)
    → ArrivalFits queue unit.node m

networks_of : (d : Doc) (s : ChipState) (fab : FabricState) → fab.chip ≡ chip_of d → fab.network ≡ s.network → fab.replies ≡ s.replies
    → 0 < tile_count fab.chip → tile_count (chip_of d) ≤ most_tiles
    → d.vcs ≤ 8 → d.data_vcs ≤ 4 → ProtocolHolds d s → NetworksFit fab
networks_of d s fab chip network replies some few vcs data_vcs holds = record {
  some = some;
  few = subst (λ (c : Chip). tile_count c ≤ most_tiles) (sym chip) few;
  vcs = subst (λ (c : Chip). c.vcs ≤ 8) (sym chip) vcs;
  data_vcs = subst (λ (c : Chip). c.data_vcs ≤ 4) (sym chip) data_vcs;
  network = subst (λ (c : Chip). NetworkFits c fab.network) (sym chip) (subst (NetworkFits (chip_of d)) (sym network) holds.network.requests);
  replies = subst (λ (c : Chip). HasChannels c.grid c.data_vcs false fab.replies) (sym chip) (subst (HasChannels (chip_of d).grid d.data_vcs false)
      (sym replies) holds.network.replies);
}

-- how long the journal is that a station sees
seen_length : (st : StationState) (fab : FabricState) (units : List UnitState) → length (seen_by st fab units).journal ≡ event_count fab + st.cores
seen_length st fab units = length-append (events_of fab.entries) (replicate st.cores (Core st.tile))
    ∙ ap (λ n. event_count fab + n) (length-replicate st.cores (Core st.tile))

pub meets_calls : (places queue : ℕ) (b : Behaviour) (laws : KeepsLaws b) → CountsOne b
    → ((d : Doc) → DocFits d → EventLaws b laws d)
    → ((d : Doc) → DocFits d → StateHolds b laws d (opening d))
    → ((d : Doc) (events : List Event) (s : ChipState) → DocFits d → run b (chip_of d) (opening d) events ≡ Some s → StateHolds b laws d s)
    → DeliveriesMeet places queue → ArrivalsMeet queue
    → (st : StationState) (fab : FabricState) → AreOfRun b st fab → 0 < tile_count fab.chip → event_count fab ≤ fab.room → st.cores ≤ 16
    → MeetsCalls places queue st fab
meets_calls places queue b laws one events opens reaches delivers arrives st fab of some room cores =
    let d = of.document in
    let s = seen_by st fab of.units in
    let fits = of.within.fits in
    let holds = reaches d s.journal s fits of.reached in
    let known = events d fits in
    let counted = reached_counted b laws one d known s (opens d fits) of.reached in
    let long = seen_length st fab of.units in
    let at = set_there of.units st.tile st.unit of.there in
    let mine = counted.units st.tile st.unit at in
    let inside : st.tile < tile_count (chip_of d) = known.inside s st.tile st.unit holds.protocol at in
    let tile = known.tile s st.tile holds.protocol inside in
    let node = holds.protocol.tiles st.tile tile.interface st.unit tile.interface_at at in
    record {
      networks = networks_of d s fab of.chip refl refl some of.within.tiles of.within.vcs of.within.data_vcs holds.protocol;
      tile = subst (λ (c : Chip). st.tile < tile_count c) (sym of.chip) inside;
      cores = cores;
      chip = node.node.chip ∙ sym of.chip;
      steps = omega (arith, mine.steps, long, room, cores, of.few);
      delivered = omega (arith, mine.delivered, long, room, cores, of.few);
      accesses = omega (arith, counted.accesses, long, length-append fab.accesses st.accesses);
      deliver = λ q net is. delivers d s st.tile st.unit q net fits of.within.tiles holds.protocol at
          (subst (λ (c : Chip). after_delivery c fab.network st.tile ≡ Some (q, net)) of.chip is);
      receive = λ port slot msg replies is. arrives d s st.tile port slot st.unit msg replies fits of.within.tiles holds.protocol holds.messages at is;
      send = λ msg first. subst (λ (c : Chip). msg.to < tile_count c) (sym of.chip) (node.node.messages 0 msg first).to;
    }

-- the next event may be noted, and there is room for its access
pub may_note : (places queue : ℕ) (st : StationState) (fab : FabricState) → MeetsCalls places queue st fab → event_count fab + st.cores + 1 ≤ fab.room
    → MayNote (made_by st) fab
may_note places queue st fab meets room = record { by = meets.tile; cores = meets.cores; room = room }

pub room_left : (places queue : ℕ) (st : StationState) (fab moved : FabricState) → MeetsCalls places queue st fab
    → event_count fab + st.cores + 1 ≤ fab.room → SameRoom fab moved
    → length moved.accesses + length st.accesses + 1 ≤ moved.room
room_left places queue st fab moved meets room same = omega (arith, meets.accesses, room, same.room, ap (λ (a : List Access). length a) same.accesses)

-- a request that the fabric delivers, and a message that it brings, meet what the unit's calls ask
pub delivery_meets : (places queue : ℕ) (st : StationState) (fab moved : FabricState) (q : Request) → MeetsCalls places queue st fab
    → fabric_after_eject (made_by st) st.tile fab ≡ Some (q, moved)
    → DeliveryFits places queue st.unit.node q
delivery_meets places queue st fab moved q meets is = let from = delivery_came st fab moved q is in meets.deliver q from.0 from.1

pub arrival_meets : (places queue : ℕ) (st : StationState) (fab moved : FabricState) (port : Port) (slot : ℕ) (msg : Msg) → MeetsCalls places queue st fab
    → fabric_after_data_eject (made_by st) st.tile port slot fab ≡ Some (msg, moved) → ArrivalFits queue st.unit.node msg
arrival_meets places queue st fab moved port slot msg meets is = let from = arrival_came st fab moved port slot msg is in meets.receive port slot msg
    from.0 from.1
