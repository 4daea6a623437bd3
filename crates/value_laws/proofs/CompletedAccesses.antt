-- An access that a delivery or a message completes is that of the demand: by the own get, or by words that come.
use Rattle.std.proofs.Common.{◌≡◌, ℕ, ◌+◌, Option, Some, None, List, [], ◌∷◌, ◌++◌, sym, ap, ◌∙◌, refl, subst, inl, inr, true}
use Rattle.std.specs.Prelude.{slice_get}
use Rattle.std.proofs.lemmas.Bool.{cases_eq}
use Rattle.std.proofs.lemmas.Option.{same_Some}
use Rattle.mesh_gen.specs.declared.kind.Kind.{Kind}
use Rattle.mesh_gen.specs.declared.kind.Kind.TheVariants.{GetS, GetM, PutM}
use Rattle.mesh_gen.specs.declared.msg.Msg.{Msg}
use Rattle.mesh_gen.specs.declared.msg_kind.MsgKind.{MsgKind}
use Rattle.mesh_gen.specs.declared.msg_kind.MsgKind.TheVariants.{Data, Back}
use Rattle.mesh_gen.specs.declared.request.Request.{Request}
use Rattle.doc_text.specs.Doc.{Doc}
use Rattle.chip_model.specs.declared.done.Done.{Done}
use Rattle.chip_model.specs.Misses.{Demand}
use Rattle.chip_model.specs.Snoop.{done_by, words_here, ordered_with, own_request}
use Rattle.chip_model.specs.Node.{Node, node_after_request, node_after_message, arrived_as, words_arrived}
use Rattle.chip_model.specs.Units.{UnitState}
use Rattle.chip_model.specs.ChipState.{ChipState}
use Rattle.chip_model.specs.BehaviourLaws.{numbered}
use Rattle.chip_model.specs.Bookkeeping.{is_get}
use Rattle.chip_model.specs.Values.{AnswersGet, ValuesHold}
use Rattle.snoop_core.specs.Requests.{IsRequestOf, MeetsDemand, MeetsOwn, OwnRequestFits, DataFits}
use Rattle.chip_laws.specs.DocLaws.{DocLaws}
use Rattle.chip_laws.specs.EventSteps.{ChangesUnit}
use Rattle.chip_laws.proofs.Options.{none_some}
use Rattle.value_laws.specs.Sequences.{AreSucceeding}
use Rattle.value_laws.proofs.SettledSteps.{OrdersNothing}
use Rattle.value_laws.proofs.DoneAccesses.{completed_done, own_done, get_done, put_done, other_done, data_done}
use Rattle.value_laws.proofs.Completion.{CompletesBy}
use Rattle.value_laws.proofs.OwnCompletedValues.{completes as own_completes}
use Rattle.value_laws.proofs.ArrivedValues.{completes as data_completes}

-- ---- a request

-- the own get is that of the demand, whose words are here
record OwnGet (q : Request) (node : Node) (one : Done) : Type 0 where
  source : q.source ≡ node.tile
  asks : is_get q.kind ≡ true
  demand : Demand
  stands : node.side.misses.demand ≡ Some demand
  is_for : IsRequestOf demand q
  words : List ℕ
  here : words_here node.chip node.side demand demand.early ≡ Some words
  done : one ≡ done_by demand.pending (node.delivered + 1) words

get_performs : (q : Request) (node : Node) (one : Done) → q.source ≡ node.tile → is_get q.kind ≡ true → MeetsDemand node.side q
    → (node_after_request q node).1 ≡ Some one → OwnGet q node one
get_performs q node one source asks (demand, stands, is_for) done = by (words_here node.chip node.side demand demand.early) refl where
  by : (words : Option (List ℕ)) → words_here node.chip node.side demand demand.early ≡ words → OwnGet q node one
  by None here =
      none_some one (sym (get_done q node demand source asks stands ∙ ap
      (λ (o : Option (List ℕ)). (ordered_with node.chip node.side node.delivered demand o).done) here) ∙ done)
  by (Some words) here = record {
    source = source;
    asks = asks;
    demand = demand;
    stands = stands;
    is_for = is_for;
    words = words;
    here = here;
    done = same_Some one (done_by demand.pending (node.delivered + 1) words) (sym done
        ∙ get_done q node demand source asks stands
        ∙ ap (λ (o : Option (List ℕ)). (ordered_with node.chip node.side node.delivered demand o).done) here
        ∙ completed_done node.chip demand node.delivered words node.side);
  }

own_performs : (q : Request) (node : Node) (one : Done) (kind : Kind) → q.kind ≡ kind → q.source ≡ node.tile → MeetsOwn node.side q kind
    → (node_after_request q node).1 ≡ Some one → OwnGet q node one
own_performs q node one GetS kind source meets done = get_performs q node one source (ap is_get kind) meets done
own_performs q node one GetM kind source meets done = get_performs q node one source (ap is_get kind) meets done
own_performs q node one PutM kind source meets done =
    none_some one (sym (own_done q node source ∙ ap (λ (k : Kind). (own_request node.chip node.side node.delivered k).done) kind ∙ put_done node) ∙ done)

request_performs : (q : Request) (node : Node) (one : Done) → OwnRequestFits node.tile node.side q → (node_after_request q node).1 ≡ Some one
    → OwnGet q node one
request_performs q node one own done = elim (cases_eq q.source node.tile) [
  | inl source ↦ own_performs q node one q.kind refl source (own source) done
  | inr away ↦ none_some one (sym (other_done q node away) ∙ done)
]

-- a delivery that performs an access completes the demand
pub request_completes : (d : Doc) (s new : ChipState) → OrdersNothing d s new → ValuesHold d s → DocLaws d → AreSucceeding s.accesses
    → (t : ℕ) (unit after : UnitState)
    → ChangesUnit s new t unit after → (q : Request) → slice_get s.network.ordered unit.node.delivered ≡ Some q → OwnRequestFits unit.node.tile unit.node.side q
    → after.node ≡ (node_after_request q unit.node).0 → (one : Done) → (node_after_request q unit.node).1 ≡ Some one
    → (number : ℕ) → new.accesses ≡ s.accesses ++ numbered unit one number ∷ [] → CompletesBy d s new t unit after number
request_completes d s new e values fits turn t unit after c q next own node one done number accesses =
    let get = request_performs q unit.node one own done in
    own_completes d s new e values fits t unit after c turn q next get.source get.asks get.demand get.stands get.is_for get.words get.here node number
    (subst (λ (x : Done). new.accesses ≡ s.accesses ++ numbered unit x number ∷ []) get.done accesses)

-- ---- a message

-- words came for an ordered demand
record Words (msg : Msg) (node : Node) (one : Done) : Type 0 where
  kind : msg.kind ≡ Data
  demand : Demand
  place : ℕ
  stands : node.side.misses.demand ≡ Some demand
  ordered : demand.ordered ≡ Some place
  done : one ≡ done_by demand.pending (place + 1) msg.words

words_perform : (msg : Msg) (node : Node) (one : Done) (demand : Demand) → msg.kind ≡ Data → node.side.misses.demand ≡ Some demand
    → (words_arrived node msg.words).1 ≡ Some one
    → Words msg node one
words_perform msg node one demand kind stands done = by demand.ordered refl where
  by : (place : Option ℕ) → demand.ordered ≡ place → Words msg node one
  by None ordered = none_some one (sym (data_done node msg.words demand None stands ordered) ∙ done)
  by (Some place) ordered = record {
    kind = kind;
    demand = demand;
    place = place;
    stands = stands;
    ordered = ordered;
    done = same_Some one (done_by demand.pending (place + 1) msg.words) (sym done ∙ data_done node msg.words demand (Some place) stands ordered
        ∙ completed_done node.chip demand place msg.words node.side);
  }

kind_performs : (msg : Msg) (node : Node) (one : Done) (kind : MsgKind) → msg.kind ≡ kind → DataFits node.side msg → (arrived_as msg node kind).1 ≡ Some one
    → Words msg node one
kind_performs msg node one Data kind fits done = (let met = fits kind in words_perform msg node one met.0 kind met.1 done)
kind_performs msg node one Back kind fits done = none_some one done

message_performs : (msg : Msg) (node : Node) (one : Done) → DataFits node.side msg → (node_after_message msg node).1 ≡ Some one → Words msg node one
unfolding node_after_message
message_performs msg node one fits done = kind_performs msg node one msg.kind refl fits done

words_node : (msg : Msg) (node : Node) → msg.kind ≡ Data → (node_after_message msg node).0 ≡ (words_arrived node msg.words).0
unfolding node_after_message
words_node msg node kind = ap (λ (k : MsgKind). (arrived_as msg node k).0) kind

-- a message that performs an access completes the demand
pub message_completes : (d : Doc) (s new : ChipState) → OrdersNothing d s new → ValuesHold d s → AreSucceeding s.accesses → (t : ℕ) (unit after : UnitState)
    → ChangesUnit s new t unit after → (msg : Msg) → DataFits unit.node.side msg → (msg.kind ≡ Data → AnswersGet d s unit.node msg.line msg.words)
    → after.node ≡ (node_after_message msg unit.node).0 → (one : Done) → (node_after_message msg unit.node).1 ≡ Some one
    → (number : ℕ) → new.accesses ≡ s.accesses ++ numbered unit one number ∷ [] → CompletesBy d s new t unit after number
message_completes d s new e values turn t unit after c msg fits answers node one done number accesses =
    let came = message_performs msg unit.node one fits done in
    data_completes d s new e values t unit after c turn msg.line msg.words came.demand came.stands came.place came.ordered (answers came.kind)
    (node ∙ words_node msg unit.node came.kind) number
    (subst (λ (x : Done). new.accesses ≡ s.accesses ++ numbered unit x number ∷ []) came.done accesses)
