-- What holds of a state holds of it with one event more in its journal, which nothing speaks of.
use Rattle.std.proofs.Common.{ℕ}
use Rattle.report_text.specs.declared.event.Event.{Event}
use Rattle.doc_text.specs.Doc.{Doc}
use Rattle.chip_model.specs.OrderedNetwork.{Interface}
use Rattle.chip_model.specs.Node.{Node}
use Rattle.chip_model.specs.Units.{UnitState, Behaviour}
use Rattle.chip_model.specs.ChipState.{ChipState}
use Rattle.chip_model.specs.Runs.{noted}
use Rattle.chip_model.specs.BehaviourLaws.{KeepsLaws}
use Rattle.chip_model.specs.Suppliers.{ReachesMemory, GetsWait}
use Rattle.chip_model.specs.ChipInvariant.{NetworkHolds, NodeHolds, NodeServes, UnitHolds, ProtocolHolds, CoresInOrder}
use Rattle.supply_laws.specs.OpenGets.{WaitsFor}
use Rattle.supply_laws.specs.Reachable.{StateHolds}

noted_network : (d : Doc) (s : ChipState) (e : Event) → NetworkHolds d s → NetworkHolds d (noted e s)
noted_network d s e h = record { requests = h.requests; took = h.took; replies = h.replies; routes = h.routes; messages = h.messages }

noted_node : (d : Doc) (s : ChipState) (e : Event) (t : ℕ) (interface : Interface) (node : Node) → NodeHolds d s t interface node → NodeHolds d (noted e s) t interface node
noted_node d s e t interface node h = record { chip = h.chip; fits = h.fits; agrees = h.agrees; followed = h.followed; messages = h.messages }

noted_serves : (d : Doc) (s : ChipState) (e : Event) (t : ℕ) (node : Node) → NodeServes d s t node → NodeServes d (noted e s) t node
noted_serves d s e t node h = record { owns = h.owns; writers = h.writers; supplied = h.supplied; one = h.one; fresh = h.fresh; waiters = h.waiters }

noted_unit : (d : Doc) (s : ChipState) (e : Event) (t : ℕ) (interface : Interface) (unit : UnitState) → UnitHolds d s t interface unit → UnitHolds d (noted e s) t interface unit
noted_unit d s e t interface unit h = record {
  core = h.core;
  node = noted_node d s e t interface unit.node h.node;
  serves = noted_serves d s e t unit.node h.serves;
}

noted_memory : (s : ChipState) (e : Event) (line : ℕ) → ReachesMemory s line → ReachesMemory (noted e s) line
noted_memory s e line h = record { once = h.once; last = h.last; undelivered = h.undelivered }

noted_wait : (s : ChipState) (e : Event) (line : ℕ) → GetsWait s line → GetsWait (noted e s) line
noted_wait s e line h = record { after_write = h.after_write; after_back = h.after_back }

noted_protocol : (d : Doc) (s : ChipState) (e : Event) → ProtocolHolds d s → ProtocolHolds d (noted e s)
noted_protocol d s e h = record {
  units = h.units;
  network = noted_network d s e h.network;
  tiles = λ t interface unit at_interface at_unit. noted_unit d s e t interface unit (h.tiles t interface unit at_interface at_unit);
  backs = λ line. noted_memory s e line (h.backs line);
  wait = λ line. noted_wait s e line (h.wait line);
  performers = h.performers;
  timely = record { times = h.timely.times; writers = h.timely.writers };
}

noted_waits : (s : ChipState) (e : Event) (t line : ℕ) → WaitsFor s t line → WaitsFor (noted e s) t line
noted_waits s e t line h = record { unit = h.unit; unit_at = h.unit_at; place = h.place; waits = h.waits; get = h.get; get_at = h.get_at; same = h.same }

pub noted_state : (b : Behaviour) (laws : KeepsLaws b) (d : Doc) (s : ChipState) (e : Event) → StateHolds b laws d s → StateHolds b laws d (noted e s)
noted_state b laws d s e h = record {
  protocol = noted_protocol d s e h.protocol;
  fit = h.fit;
  none_back = h.none_back;
  messages = record {
    queued = λ u place unit msg at_unit at_msg kind. noted_waits s e msg.to msg.line (h.messages.queued u place unit msg at_unit at_msg kind);
    carried = λ router port slot msg stands kind. noted_waits s e msg.to msg.line (h.messages.carried router port slot msg stands kind);
  };
}

pub noted_cores : (s : ChipState) (e : Event) → CoresInOrder s → CoresInOrder (noted e s)
noted_cores s e h t unit at =
    let was = h t unit at in
    record { waits = was.waits; numbers = was.numbers; rising = was.rising; unbuffered = was.unbuffered }
