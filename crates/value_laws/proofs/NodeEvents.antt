-- The events of a tile's node: a core event that performs no access, the delivery of a request, and a message that comes. Each
-- keeps all values.
use Rattle.std.proofs.Common.{◌≡◌, ℕ, ◌+◌, true, refl, sym, ◌∙◌, ap, subst, inl, inr, Option, Some, None, List, [], ◌∷◌, ◌++◌}
use Rattle.std.specs.Prelude.{slice_get}
use Rattle.std.proofs.lemmas.Bool.{cases_eq}
use Rattle.mesh_gen.specs.declared.kind.Kind.{Kind}
use Rattle.mesh_gen.specs.declared.kind.Kind.TheVariants.{GetS, GetM, PutM}
use Rattle.mesh_gen.specs.declared.msg.Msg.{Msg}
use Rattle.mesh_gen.specs.declared.msg_kind.MsgKind.{MsgKind}
use Rattle.mesh_gen.specs.declared.msg_kind.MsgKind.TheVariants.{Data, Back}
use Rattle.mesh_gen.specs.declared.port.Port.{Port}
use Rattle.mesh_gen.specs.Ports.{port_number}
use Rattle.vc_bank.specs.Places.{Network, at as stands_at}
use Rattle.report_text.specs.declared.access.Access.{Access}
use Rattle.doc_text.specs.Doc.{Doc}
use Rattle.chip_model.specs.declared.done.Done.{Done}
use Rattle.chip_model.specs.Chip.{chip_of}
use Rattle.chip_model.specs.Misses.{Demand}
use Rattle.chip_model.specs.Snoop.{done_by, words_here, ordered_with, own_request}
use Rattle.chip_model.specs.Node.{Performed, node_after_request, node_after_message, arrived_as, words_arrived}
use Rattle.chip_model.specs.Units.{UnitState, Behaviour, Acted}
use Rattle.chip_model.specs.ChipState.{ChipState}
use Rattle.chip_model.specs.Events.{with_access}
use Rattle.chip_model.specs.BehaviourLaws.{KeepsLaws, Answers, numbered, Works, GoesOn}
use Rattle.chip_model.specs.Bookkeeping.{is_get}
use Rattle.chip_model.specs.Values.{AnswersGet, MessageHasValue, ValuesHold}
use Rattle.snoop_core.specs.Requests.{MeetsDemand, MeetsOwn, OwnRequestFits}
use Rattle.reply_net.proofs.Accounts.{IsReceived, received_is}
use Rattle.chip_laws.specs.DocLaws.{DocLaws}
use Rattle.chip_laws.specs.EventSteps.{ChangesUnit, CoreWorks, RequestComes, MessageComes}
use Rattle.chip_laws.specs.Meetings.{UnitsFit}
use Rattle.chip_laws.proofs.Deliveries.{deliveries_fit}
use Rattle.chip_laws.proofs.Options.{none_some}
use Rattle.chip_laws.proofs.WholeSteps.{delivers_next}
use Rattle.supply_laws.specs.OpenGets.{NoneWritesBackBefore, DataAnswersGets}
use Rattle.supply_laws.proofs.Arrivals.{arrivals_fit}
use Rattle.supply_laws.proofs.Carried.{received_leaves}
use Rattle.value_laws.specs.Sequences.{AreSucceeding}
use Rattle.value_laws.proofs.ArrivedValues.{arrived_values}
use Rattle.value_laws.proofs.EarlyValues.{early_values}
use Rattle.value_laws.proofs.GrownValues.{carried_due}
use Rattle.value_laws.proofs.MissValues.{miss_values}
use Rattle.value_laws.proofs.OrderedGetValues.{ordered_get_values}
use Rattle.value_laws.proofs.OwnCompletedValues.{own_completed_values}
use Rattle.value_laws.proofs.DoneAccesses.{completed_done, own_done, get_done, put_done, other_done, data_done}
use Rattle.value_laws.proofs.StayedValues.{same_values}
use Rattle.value_laws.proofs.QuietValues.{node_kept_values}
use Rattle.value_laws.proofs.ReturnedValues.{returned_values}
use Rattle.value_laws.proofs.SettledSteps.{OrdersNothing}
use Rattle.value_laws.proofs.SnoopedValues.{other_request_values}
use Rattle.value_laws.proofs.WrittenBackValues.{written_back_values}

-- ---- the access that a unit answers
pub no_answer : (old new : UnitState) (done : Option Done) (answer : Option Access) → done ≡ None → Answers old new done answer → answer ≡ None
no_answer old new None answer is answers = answers.0
no_answer old new (Some done) answer is answers = cc

pub some_answer : (old new : UnitState) (done : Option Done) (answer : Option Access) (one : Done) → done ≡ Some one → Answers old new done answer
    → (n : ℕ) × (answer ≡ Some (numbered old one n))
some_answer old new None answer one is answers = cc
some_answer old new (Some done) answer one is answers =
    let same : done ≡ one = cc in (answers.0, answers.1 ∙ ap (λ (x : Done). Some (numbered old x answers.0)) same)

pub none_noted : (s new : ChipState) (answer : Option Access) → new.accesses ≡ with_access answer s.accesses → answer ≡ None → new.accesses ≡ s.accesses
none_noted s new answer accesses none = accesses ∙ ap (λ (o : Option Access). with_access o s.accesses) none

pub one_noted : (s new : ChipState) (answer : Option Access) (a : Access) → new.accesses ≡ with_access answer s.accesses → answer ≡ Some a
    → new.accesses ≡ s.accesses ++ a ∷ []
one_noted s new answer a accesses some = accesses ∙ ap (λ (o : Option Access). with_access o s.accesses) some

-- ---- a core event without an access
module _ (d : Doc) (s new : ChipState) (e : OrdersNothing d s new) (values : ValuesHold d s) (t : ℕ) where
  stood : new.replies ≡ s.replies → (router port slot : ℕ) (msg : Msg) → stands_at new.replies router port slot ≡ Some msg → MessageHasValue d s msg msg.kind
  stood replies router port slot msg there =
      values.channels router port slot msg (ap (λ (net : Network Msg). stands_at net router port slot) (sym replies) ∙ there)

  quiet_works : (unit : UnitState) (acted : Acted) → ChangesUnit s new t unit acted.0 → new.accesses ≡ s.accesses → new.replies ≡ s.replies → acted.1 ≡ None
      → Works unit acted → ValuesHold d new
  quiet_works unit acted c accesses replies none (inl alone) =
      node_kept_values d s new e values t unit acted.0 c alone.node (same_values d s new accesses) (stood replies)
  quiet_works unit acted c accesses replies none (inr tries) =
      miss_values d s new e values t unit acted.0 c tries.access tries.left tries.tried
      (nothing tries.left.1 refl tries.goes_on.answers) tries.goes_on.node accesses replies
    where
      nothing : (done : Option Done) → tries.left.1 ≡ done → Answers unit acted.0 done acted.1 → tries.left.1 ≡ None
      nothing None is answers = is
      nothing (Some done) is answers = let wrong = sym none ∙ answers.1 in none_some (numbered unit done answers.0) wrong

pub core_values : (b : Behaviour) (laws : KeepsLaws b) (d : Doc) (s new : ChipState) → OrdersNothing d s new → ValuesHold d s → UnitsFit b laws s
    → (t : ℕ) (does : CoreWorks b s new t)
    → (b.stepped does.unit).1 ≡ None → ValuesHold d new
core_values b laws d s new e values fit t does none =
    quiet_works d s new e values t does.unit (b.stepped does.unit) does.changes (none_noted s new (b.stepped does.unit).1 does.accesses none) does.replies none
    (laws.stepped does.unit (fit t does.unit does.changes.at) does.ready).1

-- ---- the delivery of a request
module _ (b : Behaviour) (laws : KeepsLaws b) (d : Doc) (s new : ChipState) (e : OrdersNothing d s new) (values : ValuesHold d s) (fit : UnitsFit b laws s)
    (fits : DocLaws d)
    (turn : AreSucceeding s.accesses) (t : ℕ) (does : RequestComes b (chip_of d) s new t) (source : does.request.source ≡ does.unit.node.tile) where
  goes : GoesOn does.unit (node_after_request does.request does.unit.node) (b.delivered does.request does.unit)
  goes = (laws.delivered does.request does.unit (fit t does.unit does.changes.at)).1.goes_on

  next : slice_get s.network.ordered does.unit.node.delivered ≡ Some does.request
  next = deliveries_fit d s fits e.before t does.unit does.request new.network does.changes.at does.network

  own : OwnRequestFits does.unit.node.tile does.unit.node.side does.request
  own = (delivers_next d s e.before (deliveries_fit d s fits e.before) t does.unit does.request new.network does.changes.at does.network).own

  put_delivered : does.request.kind ≡ PutM → ValuesHold d new
  put_delivered kind =
      let nothing : (node_after_request does.request does.unit.node).1 ≡ None =
      own_done does.request does.unit.node source
      ∙ ap (λ (k : Kind). (own_request does.unit.node.chip does.unit.node.side does.unit.node.delivered k).done) kind
      ∙ put_done does.unit.node in
      written_back_values d s new e values fits t does.unit (b.delivered does.request does.unit).0 does.changes does.request next own source kind goes.node
      (none_noted s new (b.delivered does.request does.unit).1 does.accesses
      (no_answer does.unit (b.delivered does.request does.unit).0 (node_after_request does.request does.unit.node).1
      (b.delivered does.request does.unit).1 nothing goes.answers)) does.replies

  get_delivered : is_get does.request.kind ≡ true → MeetsDemand does.unit.node.side does.request → ValuesHold d new
  get_delivered asks (demand, stands, is_for) = by (words_here does.unit.node.chip does.unit.node.side demand demand.early) refl where
    by : (words : Option (List ℕ)) → words_here does.unit.node.chip does.unit.node.side demand demand.early ≡ words → ValuesHold d new
    by None here =
        let nothing =
        get_done does.request does.unit.node demand source asks stands
        ∙ ap (λ (o : Option (List ℕ)). (ordered_with does.unit.node.chip does.unit.node.side does.unit.node.delivered demand o).done) here in
        ordered_get_values d s new e values fits t does.unit
        (b.delivered does.request does.unit).0 does.changes does.request next source asks demand stands is_for.unordered here goes.node
        (none_noted s new (b.delivered does.request does.unit).1 does.accesses
        (no_answer does.unit (b.delivered does.request does.unit).0 (node_after_request does.request does.unit.node).1
        (b.delivered does.request does.unit).1 nothing goes.answers)) does.replies
    by (Some words) here =
        let done = done_by demand.pending (does.unit.node.delivered + 1) words in
        let is : (node_after_request does.request does.unit.node).1 ≡ Some (done_by demand.pending (does.unit.node.delivered + 1) words) =
        get_done does.request does.unit.node demand source asks stands
        ∙ ap (λ (o : Option (List ℕ)). (ordered_with does.unit.node.chip does.unit.node.side does.unit.node.delivered demand o).done) here
        ∙ completed_done does.unit.node.chip demand does.unit.node.delivered words does.unit.node.side in
        let (number, answer) =
        some_answer does.unit (b.delivered does.request does.unit).0 (node_after_request does.request does.unit.node).1
        (b.delivered does.request does.unit).1 done is goes.answers in
        own_completed_values d s new e values fits turn t does.unit
        (b.delivered does.request does.unit).0 does.changes does.request next source asks demand stands is_for words here goes.node
        number (one_noted s new (b.delivered does.request does.unit).1 (numbered does.unit done number) does.accesses answer) does.replies

  by_kind : (kind : Kind) → does.request.kind ≡ kind → MeetsOwn does.unit.node.side does.request kind → ValuesHold d new
  by_kind GetS kind meets = get_delivered (ap is_get kind) meets
  by_kind GetM kind meets = get_delivered (ap is_get kind) meets
  by_kind PutM kind meets = put_delivered kind

  own_request_values : ValuesHold d new
  own_request_values = by_kind does.request.kind refl (own source)

pub request_values : (b : Behaviour) (laws : KeepsLaws b) (d : Doc) (s new : ChipState) → OrdersNothing d s new → ValuesHold d s → UnitsFit b laws s
    → DocLaws d → AreSucceeding s.accesses
    → (t : ℕ) → RequestComes b (chip_of d) s new t → ValuesHold d new
request_values b laws d s new e values fit fits turn t does = elim (cases_eq does.request.source does.unit.node.tile) [
  | inl own ↦ own_request_values b laws d s new e values fit fits turn t does own
  | inr away ↦ (
      let goes = (laws.delivered does.request does.unit (fit t does.unit does.changes.at)).1.goes_on in
      other_request_values d s new e values fits t does.unit (b.delivered does.request does.unit).0 does.changes does.request
      (deliveries_fit d s fits e.before t does.unit does.request new.network does.changes.at does.network) away goes.node
      (none_noted s new (b.delivered does.request does.unit).1 does.accesses
      (no_answer does.unit (b.delivered does.request does.unit).0 (node_after_request does.request does.unit.node).1 (b.delivered does.request does.unit).1
      (other_done does.request does.unit.node away) goes.answers)) does.replies)
]

-- ---- a message comes
module _ (b : Behaviour) (laws : KeepsLaws b) (d : Doc) (s new : ChipState) (e : OrdersNothing d s new) (values : ValuesHold d s) (fit : UnitsFit b laws s)
    (fits : DocLaws d) (t : ℕ) (port : Port) (slot : ℕ) (does : MessageComes b s new t port slot) where
  received : IsReceived s.replies new.replies t port slot does.msg
  received = received_is s.replies t port slot (does.msg, new.replies) does.replies

  reacts : GoesOn does.unit (node_after_message does.msg does.unit.node) (b.received does.msg does.unit)
  reacts = (laws.received does.msg does.unit (fit t does.unit does.changes.at)).1.goes_on

  left : (r p i : ℕ) (msg : Msg) → stands_at new.replies r p i ≡ Some msg → stands_at s.replies r p i ≡ Some msg
  left r p i msg there = received_leaves s.replies new.replies t port slot does.msg r p i msg does.replies there

  carried : MessageHasValue d s does.msg does.msg.kind
  carried = values.channels t (port_number port) slot does.msg received.stood

  message_as : (kind : MsgKind) → does.msg.kind ≡ kind → node_after_message does.msg does.unit.node ≡ arrived_as does.msg does.unit.node kind
  unfolding node_after_message
  message_as kind is = ap (arrived_as does.msg does.unit.node) is

  -- words that are written back
  back_values : NoneWritesBackBefore s → does.msg.kind ≡ Back → ValuesHold d new
  back_values none kind =
      let shown : node_after_message does.msg does.unit.node ≡ arrived_as does.msg does.unit.node Back = message_as Back kind in
      returned_values d s new e values fits none t does.unit (b.received does.msg does.unit).0 does.changes does.msg.line does.msg.words
      (e.before.network.messages t (port_number port) slot does.msg received.stood).line (carried_due s t (port_number port) slot does.msg received.stood kind)
      (subst (MessageHasValue d s does.msg) kind carried)
      (reacts.node ∙ ap (λ (p : Performed). p.0) shown)
      (none_noted s new (b.received does.msg does.unit).1 does.accesses
      (no_answer does.unit (b.received does.msg does.unit).0 (node_after_message does.msg does.unit.node).1 (b.received does.msg does.unit).1
      (ap (λ (p : Performed). p.1) shown) reacts.answers)) left

  answers : does.msg.kind ≡ Data → AnswersGet d s does.unit.node does.msg.line does.msg.words
  answers kind = (subst (MessageHasValue d s does.msg) kind carried) does.unit (ap (slice_get s.units) received.here ∙ does.changes.at)

  -- for an ordered demand
  ordered_data : AreSucceeding s.accesses → does.msg.kind ≡ Data → (demand : Demand) (place : ℕ) → does.unit.node.side.misses.demand ≡ Some demand
      → demand.ordered ≡ Some place → ValuesHold d new
  ordered_data turn kind demand place stands ordered =
      let shown : node_after_message does.msg does.unit.node ≡ words_arrived does.unit.node does.msg.words = message_as Data kind in
      let done : (node_after_message does.msg does.unit.node).1 ≡ Some (done_by demand.pending (place + 1) does.msg.words) =
      ap (λ (p : Performed). p.1) shown ∙ data_done does.unit.node does.msg.words demand (Some place) stands ordered
      ∙ completed_done does.unit.node.chip demand place does.msg.words does.unit.node.side in
      let (number, answer) =
      some_answer does.unit (b.received does.msg does.unit).0 (node_after_message does.msg does.unit.node).1 (b.received does.msg does.unit).1
      (done_by demand.pending (place + 1) does.msg.words) done reacts.answers in
      arrived_values d s new e values turn t does.unit (b.received does.msg does.unit).0 does.changes does.msg.line does.msg.words
      (answers kind) demand place stands ordered
      (reacts.node ∙ ap (λ (p : Performed). p.0) shown) number
      (one_noted s new (b.received does.msg does.unit).1
      (numbered does.unit (done_by demand.pending (place + 1) does.msg.words) number) does.accesses answer) left

  -- for one that is not ordered yet
  early_data : does.msg.kind ≡ Data → (demand : Demand) → does.unit.node.side.misses.demand ≡ Some demand → does.msg.line ≡ demand.line
      → demand.ordered ≡ None → ValuesHold d new
  early_data kind demand stands line unordered =
      let done : (node_after_message does.msg does.unit.node).1 ≡ None =
      ap (λ (p : Performed). p.1) (message_as Data kind) ∙ data_done does.unit.node does.msg.words demand None stands unordered in
      early_values d s new e values t does.unit (b.received does.msg does.unit).0 does.changes does.msg demand kind stands unordered
      (subst (λ (l : ℕ). AnswersGet d s does.unit.node l does.msg.words) line (answers kind)) reacts.node
      (none_noted s new (b.received does.msg does.unit).1 does.accesses
      (no_answer does.unit (b.received does.msg does.unit).0 (node_after_message does.msg does.unit.node).1
      (b.received does.msg does.unit).1 done reacts.answers))
      (λ r p i m there. values.channels r p i m (left r p i m there))

  data_values : AreSucceeding s.accesses → DataAnswersGets s → does.msg.kind ≡ Data → ValuesHold d new
  data_values turn waiting kind =
      let (demand, stands, is_for) = arrivals_fit d s e.before waiting t port slot does.unit does.msg new.replies does.changes.at does.replies kind in
      by demand stands is_for.line demand.ordered refl
    where
      by : (demand : Demand) → does.unit.node.side.misses.demand ≡ Some demand → demand.line ≡ does.msg.line → (place : Option ℕ) → demand.ordered ≡ place
          → ValuesHold d new
      by demand stands line (Some place) ordered = ordered_data turn kind demand place stands ordered
      by demand stands line None unordered = early_data kind demand stands (sym line) unordered

  pub message_values : AreSucceeding s.accesses → NoneWritesBackBefore s → DataAnswersGets s → ValuesHold d new
  message_values turn none waiting = by does.msg.kind refl where
    by : (kind : MsgKind) → does.msg.kind ≡ kind → ValuesHold d new
    by Data kind = data_values turn waiting kind
    by Back kind = back_values none kind
