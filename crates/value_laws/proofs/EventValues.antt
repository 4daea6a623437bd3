-- Every event keeps all values, where one of a core that performs an access does.
use Rattle.std.proofs.Common.{◌≡◌, ℕ, refl, sym, ◌∙◌, ap, Option, Some, None}
use Rattle.mesh_gen.specs.declared.msg.Msg.{Msg}
use Rattle.vc_bank.specs.Places.{Network, at as stands_at}
use Rattle.report_text.specs.declared.access.Access.{Access}
use Rattle.report_text.specs.declared.event.Event.{Event}
use Rattle.report_text.specs.declared.event.Event.TheVariants.{Tick, Core, Inject, Post, Take, Eject, Send, Hop, DataHop, DataEject}
use Rattle.doc_text.specs.Doc.{Doc}
use Rattle.chip_model.specs.Chip.{chip_of}
use Rattle.chip_model.specs.OrderedNetwork.{OrderedNetwork}
use Rattle.chip_model.specs.Node.{after_request_sent, after_message_sent}
use Rattle.chip_model.specs.Units.{Behaviour}
use Rattle.chip_model.specs.ChipState.{ChipState}
use Rattle.chip_model.specs.BehaviourLaws.{KeepsLaws}
use Rattle.chip_model.specs.Values.{MessageHasValue, ValuesHold}
use Rattle.chip_laws.specs.DocLaws.{DocLaws}
use Rattle.chip_laws.specs.EventSteps.{CoreWorks, EventDoes}
use Rattle.chip_laws.specs.MessageLaws.{MessageLaws}
use Rattle.chip_laws.proofs.OrderGrows.{injected_order, delivered_order}
use Rattle.chip_laws.proofs.OrderedTiles.{tiles_some}
use Rattle.chip_laws.proofs.RequestsInside.{tile_of}
use Rattle.supply_laws.specs.Reachable.{StateHolds}
use Rattle.supply_laws.proofs.Carried.{hopped_stands}
use Rattle.supply_laws.proofs.KeptOrders.{posted_order, taken_order, hopped_order}
use Rattle.value_laws.specs.Sequences.{AreSucceeding}
use Rattle.value_laws.proofs.EventFrames.{orders_nothing}
use Rattle.value_laws.proofs.GrownValues.{tick_values}
use Rattle.value_laws.proofs.NodeEvents.{core_values, request_values, message_values}
use Rattle.value_laws.proofs.StayedValues.{same_values}
use Rattle.value_laws.proofs.QuietValues.{no_change, node_kept_values, message_sent_values, request_sent_values}
use Rattle.value_laws.proofs.SettledSteps.{OrdersNothing}

-- core events that perform an access keep all values
abbrev pub AccessesKeepValues : Behaviour → Doc → ChipState → ChipState → Type 0
AccessesKeepValues b d s new = (t : ℕ) (does : CoreWorks b s new t) (a : Access) → (b.stepped does.unit).1 ≡ Some a → OrdersNothing d s new → ValuesHold d new

module _ (messages : MessageLaws) (b : Behaviour) (laws : KeepsLaws b) (d : Doc) (s new : ChipState) (fits : DocLaws d) (holds : StateHolds b laws d s)
    (left : StateHolds b laws d new)
    (turn : AreSucceeding s.accesses) (values : ValuesHold d s) (hits : AccessesKeepValues b d s new) where
  same_order : new.network ≡ s.network → new.network.ordered ≡ s.network.ordered
  same_order same = ap (λ (net : OrderedNetwork). net.ordered) same

  stood : new.replies ≡ s.replies → (router port slot : ℕ) (msg : Msg) → stands_at new.replies router port slot ≡ Some msg → MessageHasValue d s msg msg.kind
  stood same router port slot msg there = values.channels router port slot msg (ap (λ (net : Network Msg). stands_at net router port slot) (sym same) ∙ there)

  -- no unit changes
  networks : (event : Event) → EventDoes b (chip_of d) s new event → new.network.ordered ≡ s.network.ordered → new.units ≡ s.units → new.accesses ≡ s.accesses
      → ((router port slot : ℕ) (msg : Msg) → stands_at new.replies router port slot ≡ Some msg → MessageHasValue d s msg msg.kind) → ValuesHold d new
  networks event does order units accesses stands =
      let tile = tile_of d s 0 holds.protocol (tiles_some d fits.doc) in
      node_kept_values d s new (orders_nothing messages b laws d s new event fits holds left does order) values 0 tile.unit tile.unit
      (no_change s new 0 tile.unit tile.unit_at units) refl
      (same_values d s new accesses) stands

  core_works : (t : ℕ) (does : CoreWorks b s new t) → ValuesHold d new
  core_works t does = by (b.stepped does.unit).1 refl where
    e : OrdersNothing d s new
    e = orders_nothing messages b laws d s new (Core t) fits holds left does (same_order does.network)

    by : (answer : Option Access) → (b.stepped does.unit).1 ≡ answer → ValuesHold d new
    by None none = core_values b laws d s new e values holds.fit t does none
    by (Some a) some = hits t does a some e

  pub values_after : (event : Event) → EventDoes b (chip_of d) s new event → ValuesHold d new
  values_after Tick does = tick_values d s new fits holds.protocol values does
  values_after (Core t) does = core_works t does
  values_after (Inject t) does =
      request_sent_values d s new
      (orders_nothing messages b laws d s new (Inject t) fits holds left does
      (injected_order (chip_of d) s.network new.network t does.kind does.line does.network)) values t does.unit
      (record does.unit { node = after_request_sent does.unit.node }) does.changes refl does.accesses does.replies
  values_after (Post t) does = networks (Post t) does (posted_order s.network new.network t does.network) does.units does.accesses (stood does.replies)
  values_after (Take t) does = networks (Take t) does (taken_order s.network new.network t does.network) does.units does.accesses (stood does.replies)
  values_after (Eject t) does =
      request_values b laws d s new
      (orders_nothing messages b laws d s new (Eject t) fits holds left does
      (delivered_order (chip_of d) s.network new.network t does.request does.network)) values holds.fit fits turn t does
  values_after (Send t) does =
      message_sent_values d s new (orders_nothing messages b laws d s new (Send t) fits holds left does (same_order does.network)) values t does.unit
      (record does.unit { node = after_message_sent does.unit.node }) does.changes refl does.msg does.first does.replies does.accesses
  values_after (Hop r port slot out) does =
      networks (Hop r port slot out) does (hopped_order (chip_of d) s.network new.network r port slot out does.network) does.units does.accesses
      (stood does.replies)
  values_after (DataHop r port slot) does =
      networks (DataHop r port slot) does (same_order does.network) does.units does.accesses (λ n q j msg there.
      hopped_stands (chip_of d).grid s.replies new.replies r port slot n q j msg does.replies there (λ u v w was. values.channels u v w msg was))
  values_after (DataEject r port slot) does =
      message_values b laws d s new (orders_nothing messages b laws d s new (DataEject r port slot) fits holds left does
      (same_order does.network)) values holds.fit fits r port slot does
      turn holds.none_back holds.messages
