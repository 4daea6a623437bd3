-- Every event keeps what reads received, where a core event that answers an access tries it at the node.
use Rattle.std.proofs.Common.{◌≡◌, ℕ, ◌<◌, Option, Some, None, [], ◌∷◌, ◌++◌, sym, ap, ◌∙◌, refl, subst, inl, inr, arith}
use Rattle.std.specs.Prelude.{slice_get}
use Rattle.std.specs.List.{AllByRecursion}
use Rattle.mesh_gen.specs.declared.msg.Msg.{Msg}
use Rattle.mesh_gen.specs.declared.msg_kind.MsgKind.{MsgKind}
use Rattle.mesh_gen.specs.declared.msg_kind.MsgKind.TheVariants.{Data, Back}
use Rattle.mesh_gen.specs.declared.port.Port.{Port}
use Rattle.mesh_gen.specs.declared.request.Request.{Request}
use Rattle.mesh_gen.specs.Ports.{port_number}
use Rattle.report_text.specs.declared.access.Access.{Access}
use Rattle.report_text.specs.declared.event.Event.{Event}
use Rattle.report_text.specs.declared.event.Event.TheVariants.{Tick, Core, Inject, Post, Take, Eject, Send, Hop, DataHop, DataEject}
use Rattle.doc_text.specs.Doc.{Doc}
use Rattle.chip_model.specs.declared.done.Done.{Done}
use Rattle.chip_model.specs.Chip.{Chip, chip_of, line_of}
use Rattle.chip_model.specs.OrderedNetwork.{OrderedNetwork, after_network_tick}
use Rattle.chip_model.specs.Snoop.{done_by}
use Rattle.chip_model.specs.Node.{Node, node_after_request, node_after_message, arrived_as, after_request_sent, after_message_sent}
use Rattle.chip_model.specs.Units.{UnitState, Acted, Behaviour}
use Rattle.chip_model.specs.ChipState.{ChipState}
use Rattle.chip_model.specs.BehaviourLaws.{numbered, GoesOn, TriesAccess, Works, KeepsLaws}
use Rattle.chip_model.specs.Cache.{lookup}
use Rattle.chip_model.specs.NodeShape.{IsCache, is_modified}
use Rattle.chip_model.specs.Values.{AnswersGet, MessageHasValue, ValuesHold}
use Rattle.chip_model.specs.ChipInvariant.{ProtocolHolds}
use Rattle.reply_net.proofs.Accounts.{IsReceived, received_is}
use Rattle.snoop_core.specs.Requests.{DataFits}
use Rattle.snoop_core.proofs.Accesses.{accessed_frame}
use Rattle.chip_laws.specs.DocLaws.{DocLaws}
use Rattle.chip_laws.specs.EventSteps.{ChangesNetwork, ChangesUnit, CoreWorks, RequestComes, MessageComes, EventDoes}
use Rattle.chip_laws.specs.MessageLaws.{MessageLaws}
use Rattle.chip_laws.proofs.Deliveries.{deliveries_fit}
use Rattle.chip_laws.proofs.OrderFrames.{IsNext}
use Rattle.chip_laws.proofs.OrderGrows.{injected_order, delivered_order}
use Rattle.chip_laws.proofs.OrderedTiles.{tiles_some}
use Rattle.chip_laws.proofs.RequestsInside.{tile_of}
use Rattle.chip_laws.proofs.WholeSteps.{delivers_next}
use Rattle.chip_laws.proofs.SuppliedEvents.{unit_holds}
use Rattle.supply_laws.specs.Reachable.{StateHolds}
use Rattle.supply_laws.proofs.Arrivals.{arrivals_fit}
use Rattle.supply_laws.proofs.KeptOrders.{posted_order, taken_order, hopped_order}
use Rattle.supply_laws.proofs.Ticked.{ticked}
use Rattle.value_laws.specs.Sequences.{Follows, AreRising}
use Rattle.value_laws.specs.Reads.{ReadsHold}
use Rattle.value_laws.proofs.Sequences.{all_succeed, all_succeeding, pairs_before, pairs_last}
use Rattle.value_laws.proofs.SettledSteps.{OrdersNothing}
use Rattle.value_laws.proofs.StepValues.{quiet_keeps}
use Rattle.value_laws.proofs.Completion.{CompletesBy, at_line, follows}
use Rattle.value_laws.proofs.CompletedAccesses.{request_completes, message_completes}
use Rattle.value_laws.proofs.CoreHits.{hits}
use Rattle.value_laws.proofs.EventFrames.{orders_nothing}
use Rattle.value_laws.proofs.GrownValues.{ticks_grow}
use Rattle.value_laws.proofs.HitAccesses.{hit_access, hit_acts}
use Rattle.value_laws.proofs.HitValues.{hit_keeps}
use Rattle.value_laws.proofs.NodeEvents.{no_answer, some_answer, none_noted, one_noted}
use Rattle.value_laws.proofs.QuietValues.{no_change}
use Rattle.value_laws.proofs.CompletedValues.{completion_keeps}
use Rattle.value_laws.proofs.Acting.{completion_acts}
use Rattle.value_laws.proofs.ReadsKept.{reads_stay, reads_performed, reads_grown}
use Rattle.value_laws.proofs.CleanSteps.{NoneModified, request_clean, message_clean, accessed_clean}

sent_clean : (node : Node) → NoneModified node.chip node.side.cache (after_request_sent node).side.cache × ((after_request_sent node).chip ≡ node.chip)
unfolding after_request_sent
sent_clean node = (λ line only. only, refl)

queue_clean : (node : Node) → NoneModified node.chip node.side.cache (after_message_sent node).side.cache × ((after_message_sent node).chip ≡ node.chip)
unfolding after_message_sent
queue_clean node = (λ line only. only, refl)

delivered_chip : (q : Request) (node : Node) → (node_after_request q node).0.chip ≡ node.chip
unfolding node_after_request
delivered_chip q node = refl

kind_chip : (msg : Msg) (node : Node) (kind : MsgKind) → (arrived_as msg node kind).0.chip ≡ node.chip
kind_chip msg node Data = refl
kind_chip msg node Back = refl

arrived_chip : (msg : Msg) (node : Node) → (node_after_message msg node).0.chip ≡ node.chip
unfolding node_after_message
arrived_chip msg node = kind_chip msg node msg.kind

-- a tick
reads_ticked : (d : Doc) (s new : ChipState) → DocLaws d → ProtocolHolds d s → ReadsHold d s → ChangesNetwork (after_network_tick (chip_of d) s.network) s new
    → ReadsHold d new
reads_ticked d s new fits holds reads does = reads_grown d s new (ticked d s new fits holds does).more (ticks_grow d s new fits holds does) reads

-- a core event that answers an access tries it at its node
abbrev pub TriesAll : Behaviour → ChipState → ChipState → Type 0
TriesAll b s new = (t : ℕ) (does : CoreWorks b s new t) (a : Access) → (b.stepped does.unit).1 ≡ Some a → TriesAccess does.unit (b.stepped does.unit)

module _ (d : Doc) (s new : ChipState) (e : OrdersNothing d s new) (reads : ReadsHold d s) (t : ℕ) (unit after : UnitState)
    (c : ChangesUnit s new t unit after) where
  -- ---- a step of one unit

  -- without an access
  pub quiet : NoneModified unit.node.chip unit.node.side.cache after.node.side.cache → after.node.chip ≡ unit.node.chip → new.accesses ≡ s.accesses
      → ReadsHold d new
  quiet clean chip accesses =
      reads_stay d s new e t unit after c
      (quiet_keeps d s new e t unit after c accesses (λ line only. clean line (ap (λ (x : Chip). is_modified (lookup x after.node.side.cache line)) (sym chip)
      ∙ only)))
      reads accesses

  -- with one that completes a demand
  completes : DocLaws d → AreRising s.accesses → (number : ℕ) → CompletesBy d s new t unit after number → ReadsHold d new
  completes fits rising number by =
      let is = by.is in
      let within = (unit_holds d s t unit e.before c.at).holds.node.fits.lines.demand is.demand is.stands in
      let lines : unit.node.chip.lines ≡ d.lines = ap (λ (x : Chip). x.lines) (unit_holds d s t unit e.before c.at).holds.node.chip in
      let inside : line_of is.access.address < d.lines =
      subst (λ (l : ℕ). l < d.lines) (sym (at_line d s new t unit after e.before is)) (subst (λ (n : ℕ). is.demand.line < n) lines within) in
      reads_performed d s new e t unit after c (completion_keeps d s new e t unit after c is
      (all_succeeding s.accesses rising)) reads is.access is.place is.words
      (completion_acts d s new t unit after e.before is number by.same) (follows d s new t unit after e.before is) is.accesses fits.doc inside

  -- with one that hits
  hit_reads : DocLaws d → ValuesHold d s → AreRising new.accesses → (acted : Acted) (is : acted.0 ≡ after) (tries : TriesAccess unit acted) (a : Access)
      → acted.1 ≡ Some a
      → new.accesses ≡ s.accesses ++ a ∷ [] → ReadsHold d new
  hit_reads fits values rising acted is tries a some accesses =
      let (hit, number, same) = hits unit acted a tries some in
      let rises : AreRising (s.accesses ++ a ∷ []) = subst AreRising accesses rising in
      let last = subst (λ (x : Access). AllByRecursion (λ b. Follows b x) s.accesses) same (pairs_last Follows s.accesses a rises) in
      let behind = all_succeed (numbered unit (done_by tries.access unit.node.delivered hit.held.words) number) s.accesses last in
      let pushed = subst (λ (x : Access). new.accesses ≡ s.accesses ++ x ∷ []) same accesses in
      let node : after.node ≡ tries.left.0 = ap (λ (x : UnitState). x.node) (sym is) ∙ tries.goes_on.node in
      let lines : unit.node.chip.lines ≡ d.lines = ap (λ (x : Chip). x.lines) (unit_holds d s t unit e.before c.at).holds.node.chip in
      let inside : line_of tries.access.address < d.lines = omega (arith, tries.address, lines) in
      reads_performed d s new e t unit after c
      (hit_keeps d s new e values (all_succeeding s.accesses (pairs_before Follows s.accesses a rises)) t unit after c tries.access tries.left hit number node
      behind pushed)
      reads (hit_access d s t unit e.before values c.at tries.access tries.left hit number behind) unit.node.delivered hit.held.words
      (hit_acts d s t unit e.before values c.at tries.access tries.left hit number behind) last pushed fits.doc inside

module _ (messages : MessageLaws) (b : Behaviour) (laws : KeepsLaws b) (d : Doc) (s new : ChipState) (fits : DocLaws d) (holds : StateHolds b laws d s)
    (left : StateHolds b laws d new)
    (rising : AreRising s.accesses) (rises : AreRising new.accesses) (values : ValuesHold d s) (reads : ReadsHold d s) (tries : TriesAll b s new) where
  same_order : new.network ≡ s.network → new.network.ordered ≡ s.network.ordered
  same_order same = ap (λ (net : OrderedNetwork). net.ordered) same

  -- no unit changes
  networks : (event : Event) → EventDoes b (chip_of d) s new event → new.network.ordered ≡ s.network.ordered → new.units ≡ s.units → new.accesses ≡ s.accesses
      → ReadsHold d new
  networks event does order units accesses =
      let tile = tile_of d s 0 holds.protocol (tiles_some d fits.doc) in
      quiet d s new (orders_nothing messages b laws d s new event fits holds left does order) reads 0 tile.unit tile.unit
      (no_change s new 0 tile.unit tile.unit_at units)
      (λ line only. only) refl accesses

  core_reads : (t : ℕ) (does : CoreWorks b s new t) → ReadsHold d new
  core_reads t does = by (b.stepped does.unit).1 refl where
    e : OrdersNothing d s new
    e = orders_nothing messages b laws d s new (Core t) fits holds left does (same_order does.network)

    law : Works does.unit (b.stepped does.unit)
    law = (laws.stepped does.unit (holds.fit t does.unit does.changes.at) does.ready).1

    shape : IsCache does.unit.node.chip does.unit.node.side.cache
    shape = (unit_holds d s t does.unit holds.protocol does.changes.at).holds.node.fits.side.cache

    none_by : new.accesses ≡ s.accesses → Works does.unit (b.stepped does.unit) → ReadsHold d new
    none_by accesses (inl alone) =
        quiet d s new e reads t does.unit (b.stepped does.unit).0 does.changes
        (λ line only. ap (λ (n : Node). is_modified (lookup does.unit.node.chip n.side.cache line)) (sym alone.node) ∙ only)
        (ap (λ (n : Node). n.chip) alone.node) accesses
    none_by accesses (inr tried) =
        quiet d s new e reads t does.unit (b.stepped does.unit).0 does.changes
        (λ line only. accessed_clean tried.access does.unit.node tried.left shape tried.tried line
        (ap (λ (n : Node). is_modified (lookup does.unit.node.chip n.side.cache line)) (sym tried.goes_on.node) ∙ only))
        (ap (λ (n : Node). n.chip) (tried.goes_on.node ∙ accessed_frame tried.access does.unit.node tried.left tried.tried shape)) accesses

    by : (answer : Option Access) → (b.stepped does.unit).1 ≡ answer → ReadsHold d new
    by None none = none_by (none_noted s new (b.stepped does.unit).1 does.accesses none) law
    by (Some a) some =
        hit_reads d s new e reads t does.unit (b.stepped does.unit).0 does.changes fits values rises (b.stepped does.unit) refl (tries t does a some) a some
        (one_noted s new (b.stepped does.unit).1 a does.accesses some)

  request_reads : (t : ℕ) (does : RequestComes b (chip_of d) s new t) → ReadsHold d new
  request_reads t does = by (node_after_request does.request does.unit.node).1 refl where
    e : OrdersNothing d s new
    e = orders_nothing messages b laws d s new (Eject t) fits holds left does (delivered_order (chip_of d) s.network new.network t does.request does.network)

    goes : GoesOn does.unit (node_after_request does.request does.unit.node) (b.delivered does.request does.unit)
    goes = (laws.delivered does.request does.unit (holds.fit t does.unit does.changes.at)).1.goes_on

    next : IsNext s.network.ordered does.unit.node does.request
    next = delivers_next d s holds.protocol (deliveries_fit d s fits holds.protocol) t does.unit does.request new.network does.changes.at does.network

    by : (done : Option Done) → (node_after_request does.request does.unit.node).1 ≡ done → ReadsHold d new
    by None none =
        quiet d s new e reads t does.unit (b.delivered does.request does.unit).0 does.changes
        (λ line only. request_clean does.request does.unit.node none line
        (ap (λ (n : Node). is_modified (lookup does.unit.node.chip n.side.cache line)) (sym goes.node) ∙ only))
        (ap (λ (n : Node). n.chip) goes.node ∙ delivered_chip does.request does.unit.node)
        (none_noted s new (b.delivered does.request does.unit).1 does.accesses
        (no_answer does.unit (b.delivered does.request does.unit).0 (node_after_request does.request does.unit.node).1
        (b.delivered does.request does.unit).1 none goes.answers))
    by (Some one) some =
        let (number, answer) =
        some_answer does.unit (b.delivered does.request does.unit).0 (node_after_request does.request does.unit.node).1
        (b.delivered does.request does.unit).1 one some goes.answers in
        completes d s new e reads t does.unit (b.delivered does.request does.unit).0 does.changes fits rising number
        (request_completes d s new e values fits (all_succeeding s.accesses rising) t does.unit
        (b.delivered does.request does.unit).0 does.changes does.request next.at next.own goes.node one some number
        (one_noted s new (b.delivered does.request does.unit).1 (numbered does.unit one number) does.accesses answer))

  message_reads : (t : ℕ) (port : Port) (slot : ℕ) (does : MessageComes b s new t port slot) → ReadsHold d new
  message_reads t port slot does = by (node_after_message does.msg does.unit.node).1 refl where
    e : OrdersNothing d s new
    e = orders_nothing messages b laws d s new (DataEject t port slot) fits holds left does (same_order does.network)

    goes : GoesOn does.unit (node_after_message does.msg does.unit.node) (b.received does.msg does.unit)
    goes = (laws.received does.msg does.unit (holds.fit t does.unit does.changes.at)).1.goes_on

    came : IsReceived s.replies new.replies t port slot does.msg
    came = received_is s.replies t port slot (does.msg, new.replies) does.replies

    awaited : DataFits does.unit.node.side does.msg
    awaited = arrivals_fit d s holds.protocol holds.messages t port slot does.unit does.msg new.replies does.changes.at does.replies

    answers : does.msg.kind ≡ Data → AnswersGet d s does.unit.node does.msg.line does.msg.words
    answers kind =
        (subst (MessageHasValue d s does.msg) kind (values.channels t (port_number port) slot does.msg came.stood)) does.unit
        (ap (slice_get s.units) came.here ∙ does.changes.at)

    by : (done : Option Done) → (node_after_message does.msg does.unit.node).1 ≡ done → ReadsHold d new
    by None none =
        quiet d s new e reads t does.unit (b.received does.msg does.unit).0 does.changes
        (λ line only. message_clean does.msg does.unit.node none line
        (ap (λ (n : Node). is_modified (lookup does.unit.node.chip n.side.cache line)) (sym goes.node) ∙ only))
        (ap (λ (n : Node). n.chip) goes.node ∙ arrived_chip does.msg does.unit.node)
        (none_noted s new (b.received does.msg does.unit).1 does.accesses
        (no_answer does.unit (b.received does.msg does.unit).0 (node_after_message does.msg does.unit.node).1
        (b.received does.msg does.unit).1 none goes.answers))
    by (Some one) some =
        let (number, answer) =
        some_answer does.unit (b.received does.msg does.unit).0 (node_after_message does.msg does.unit.node).1
        (b.received does.msg does.unit).1 one some goes.answers in
        completes d s new e reads t does.unit (b.received does.msg does.unit).0 does.changes fits rising number
        (message_completes d s new e values (all_succeeding s.accesses rising) t does.unit
        (b.received does.msg does.unit).0 does.changes does.msg awaited answers goes.node one some number
        (one_noted s new (b.received does.msg does.unit).1 (numbered does.unit one number) does.accesses answer))

  pub reads_after : (event : Event) → EventDoes b (chip_of d) s new event → ReadsHold d new
  reads_after Tick does = reads_ticked d s new fits holds.protocol reads does
  reads_after (Core t) does = core_reads t does
  reads_after (Inject t) does =
      quiet d s new
      (orders_nothing messages b laws d s new (Inject t) fits holds left does
      (injected_order (chip_of d) s.network new.network t does.kind does.line does.network)) reads t does.unit
      (record does.unit { node = after_request_sent does.unit.node }) does.changes (sent_clean does.unit.node).0 (sent_clean does.unit.node).1 does.accesses
  reads_after (Post t) does = networks (Post t) does (posted_order s.network new.network t does.network) does.units does.accesses
  reads_after (Take t) does = networks (Take t) does (taken_order s.network new.network t does.network) does.units does.accesses
  reads_after (Eject t) does = request_reads t does
  reads_after (Send t) does =
      quiet d s new (orders_nothing messages b laws d s new (Send t) fits holds left does (same_order does.network)) reads t does.unit
      (record does.unit { node = after_message_sent does.unit.node }) does.changes (queue_clean does.unit.node).0 (queue_clean does.unit.node).1 does.accesses
  reads_after (Hop r port slot out) does =
      networks (Hop r port slot out) does (hopped_order (chip_of d) s.network new.network r port slot out does.network) does.units does.accesses
  reads_after (DataHop r port slot) does = networks (DataHop r port slot) does (same_order does.network) does.units does.accesses
  reads_after (DataEject r port slot) does = message_reads r port slot does
