-- Events that leave copies and records as they are keep all values: those of the networks alone, requests and messages that
-- enter them, and core events that leave the node.
use Rattle.std.proofs.Common.{◌≡◌, ℕ, ◌+◌, zero, suc, true, Bool, Option, Some, None, List, [], ◌∷◌, drop, set, refl, sym, ◌∙◌, ap, subst, arith}
use Rattle.std.specs.Prelude.{slice_get, if◌then◌else◌}
use Rattle.std.proofs.lemmas.Option.{same_Some}
use Rattle.mesh_gen.specs.declared.msg.Msg.{Msg}
use Rattle.vc_bank.specs.Places.{Network, at as stands_at}
use Rattle.doc_text.specs.Doc.{Doc}
use Rattle.chip_model.specs.Replies.{after_send}
use Rattle.chip_model.specs.Misses.{Demand, WriteBack, Misses, sent_demand, marked_sent}
use Rattle.chip_model.specs.Node.{Node, after_request_sent, after_message_sent}
use Rattle.chip_model.specs.Units.{UnitState}
use Rattle.chip_model.specs.ChipState.{ChipState}
use Rattle.chip_model.specs.Witness.{line_value}
use Rattle.chip_model.specs.Writers.{is_ordered_write}
use Rattle.chip_model.specs.Values.{place_of_demand, AnswersGet, MessageHasValue, ValuesHold}
use Rattle.snoop_core.proofs.Sending.{sent_forms}
use Rattle.chip_laws.specs.EventSteps.{ChangesUnit}
use Rattle.chip_laws.proofs.Options.{none_some}
use Rattle.supply_laws.proofs.Carried.{sent_stands}
use Rattle.value_laws.proofs.SettledSteps.{OrdersNothing, now}
use Rattle.value_laws.proofs.StepValues.{early_on}
use Rattle.value_laws.proofs.StayedValues.{NodeStays, node_same, stays_settled, stayed_values, same_values}

-- ---- the node is as it was

-- a list with an element that it has
set_same : {X : Type 0} (xs : List X) (k : ℕ) (x : X) → slice_get xs k ≡ Some x → set xs k x ≡ xs
set_same [] k x at = none_some x at
set_same (y ∷ xs) zero x at = ap (λ (z : _). z ∷ xs) (sym (same_Some y x at))
set_same (y ∷ xs) (suc k) x at = ap (λ (zs : List _). y ∷ zs) (set_same xs k x at)

-- no unit changes: so that of a tile becomes what it was
pub no_change : (s new : ChipState) (t : ℕ) (unit : UnitState) → slice_get s.units t ≡ Some unit → new.units ≡ s.units → ChangesUnit s new t unit unit
no_change s new t unit at units = record { at = at; units = units ∙ sym (set_same s.units t unit at) }

-- a unit changes, and its node does not
pub node_kept_values : (d : Doc) (s new : ChipState) → OrdersNothing d s new → ValuesHold d s → (t : ℕ) (unit after : UnitState)
    → ChangesUnit s new t unit after
    → after.node ≡ unit.node → ((line place : ℕ) → line_value d new.accesses line place ≡ line_value d s.accesses line place)
    → ((router port slot : ℕ) (msg : Msg) → stands_at new.replies router port slot ≡ Some msg → MessageHasValue d s msg msg.kind) → ValuesHold d new
node_kept_values d s new e values t unit after c node same stood =
    let stays : NodeStays unit.node after.node = subst (NodeStays unit.node) (sym node) (node_same unit.node) in
    let keeps = stays_settled d s new e values t unit after c same stays in
    let was = values.nodes t unit c.at in
    stayed_values d s new e values t unit after c same stays (record {
      early = λ demand words stands early.
          early_on d s new e t unit after c keeps t unit after demand words c.at (now d s new e t unit after c) stands early
          (was.early demand words (ap (λ (n : Node). n.side.misses.demand) (sym node) ∙ stands) early);
      out = λ place msg there. was.out place msg (ap (λ (n : Node). slice_get n.out place) (sym node) ∙ there);
    }) stood

-- ---- the first message of a queue enters the network

message_stays : (node : Node) → NodeStays node (after_message_sent node)
unfolding after_message_sent
message_stays node = record {
  chip = refl;
  cache = refl;
  records = refl;
  delivered = refl;
  shared = λ line. refl;
  back = λ back stands live. record { was = back; stood = stands; live = live; line = refl; words = refl };
}

dropped : {X : Type 0} (xs : List X) (i : ℕ) (x : X) → slice_get (drop 1 xs) i ≡ Some x → slice_get xs (i + 1) ≡ Some x
dropped [] i x at = at
dropped (y ∷ xs) i x at = let next : i + 1 ≡ suc i = omega arith in ap (slice_get (y ∷ xs)) next ∙ at

message_queue : (node : Node) (place : ℕ) (msg : Msg) → slice_get (after_message_sent node).out place ≡ Some msg → slice_get node.out (place + 1) ≡ Some msg
unfolding after_message_sent
message_queue node place msg at = dropped node.out place msg at

message_demand : (node : Node) → (after_message_sent node).side.misses.demand ≡ node.side.misses.demand
unfolding after_message_sent
message_demand node = refl

pub message_sent_values : (d : Doc) (s new : ChipState) → OrdersNothing d s new → ValuesHold d s → (t : ℕ) (unit after : UnitState)
    → ChangesUnit s new t unit after
    → after.node ≡ after_message_sent unit.node → (msg : Msg) → slice_get unit.node.out 0 ≡ Some msg → after_send s.replies t msg ≡ Some new.replies
    → new.accesses ≡ s.accesses → ValuesHold d new
message_sent_values d s new e values t unit after c node msg first enters accesses =
    let stays : NodeStays unit.node after.node = subst (NodeStays unit.node) (sym node) (message_stays unit.node) in
    let keeps = stays_settled d s new e values t unit after c (same_values d s new accesses) stays in
    let was = values.nodes t unit c.at in
    stayed_values d s new e values t unit after c (same_values d s new accesses) stays (record {
      early = λ demand words stands early.
          early_on d s new e t unit after c keeps t unit after demand words c.at (now d s new e t unit after c) stands early
          (was.early demand words (sym (ap (λ (n : Node). n.side.misses.demand) node ∙ message_demand unit.node) ∙ stands) early);
      out = λ place m there. was.out (place + 1) m (message_queue unit.node place m (ap (λ (n : Node). slice_get n.out place) (sym node) ∙ there));
    }) (λ router port slot m there.
    sent_stands s.replies new.replies t msg router port slot m enters there
    (λ same. subst (λ (x : Msg). MessageHasValue d s x x.kind) (sym same) (was.out 0 msg first))
    (λ stood. values.channels router port slot m stood))

-- ---- a request enters the network

sent_shared : (line count : ℕ) (entry : Option Demand) → (is_ordered_write line (sent_demand entry) ≡ is_ordered_write line entry)
    × (place_of_demand (sent_demand entry) count ≡ place_of_demand entry count)
sent_shared line count None = (refl, refl)
sent_shared line count (Some demand) = (refl, refl)

-- what the table keeps where its request is sent
record SentMisses (old new : Misses) : Type 0 where
  writes : (line : ℕ) → is_ordered_write line new.demand ≡ is_ordered_write line old.demand
  place : (count : ℕ) → place_of_demand new.demand count ≡ place_of_demand old.demand count
  back : (back : WriteBack) → new.back ≡ Some back → (was : WriteBack) × (old.back ≡ Some was) × (was.live ≡ back.live) × (was.line ≡ back.line) × (was.words
      ≡ back.words)
  early : (demand : Demand) → new.demand ≡ Some demand → (was : Demand) × (old.demand ≡ Some was) × (was.line ≡ demand.line) × (was.early ≡ demand.early)

sent_early : (entry : Option Demand) (demand : Demand) → sent_demand entry ≡ Some demand
    → (was : Demand) × (entry ≡ Some was) × (was.line ≡ demand.line) × (was.early ≡ demand.early)
sent_early None demand is = none_some demand is
sent_early (Some was) demand is =
    let same : record was { sent = true } ≡ demand = same_Some (record was { sent = true }) demand is in
    (was, refl, ap (λ (x : Demand). x.line) same, ap (λ (x : Demand). x.early) same)

sent_misses : (misses : Misses) → SentMisses misses (marked_sent misses)
unfolding marked_sent
sent_misses misses = sent_forms misses.demand misses.back (λ after. SentMisses misses after) (record {
  get = record {
    writes = λ line. (sent_shared line 0 misses.demand).0;
    place = λ count. (sent_shared 0 count misses.demand).1;
    back = λ back is. (back, is, refl, refl, refl);
    early = λ demand is. sent_early misses.demand demand is;
  };
  put = λ old stood. record {
    writes = λ line. refl;
    place = λ count. refl;
    back = λ back is. (
        let same : record old { sent = true } ≡ back = same_Some (record old { sent = true }) back is in
        (old, stood, ap (λ (x : WriteBack). x.live) same, ap (λ (x : WriteBack). x.line) same, ap (λ (x : WriteBack). x.words) same));
    early = λ demand is. (demand, is, refl, refl);
  };
})

request_stays : (node : Node) → NodeStays node (after_request_sent node)
unfolding after_request_sent
request_stays node =
    let sent = sent_misses node.side.misses in
    record {
      chip = refl;
      cache = refl;
      records = refl;
      delivered = refl;
      shared = λ line.
          ap (λ (b : Bool). if b then place_of_demand (marked_sent node.side.misses).demand node.delivered else node.delivered) (sent.writes line)
          ∙ ap (λ (k : ℕ). if is_ordered_write line node.side.misses.demand then k else node.delivered) (sent.place node.delivered);
      back = λ back stands live. (
          let (was, stood, same, line, words) = sent.back back stands in
          record { was = was; stood = stood; live = same ∙ live; line = line; words = words });
    }

request_misses : (node : Node) → (after_request_sent node).side.misses ≡ marked_sent node.side.misses
unfolding after_request_sent
request_misses node = refl

request_queue : (node : Node) → (after_request_sent node).out ≡ node.out
unfolding after_request_sent
request_queue node = refl

pub request_sent_values : (d : Doc) (s new : ChipState) → OrdersNothing d s new → ValuesHold d s → (t : ℕ) (unit after : UnitState)
    → ChangesUnit s new t unit after
    → after.node ≡ after_request_sent unit.node → new.accesses ≡ s.accesses → new.replies ≡ s.replies → ValuesHold d new
request_sent_values d s new e values t unit after c node accesses replies =
    let stays : NodeStays unit.node after.node = subst (NodeStays unit.node) (sym node) (request_stays unit.node) in
    let keeps = stays_settled d s new e values t unit after c (same_values d s new accesses) stays in
    let was = values.nodes t unit c.at in
    stayed_values d s new e values t unit after c (same_values d s new accesses) stays (record {
      early = λ demand words stands early.
          let is = ap (λ (n : Node). n.side.misses.demand) node ∙ ap (λ (m : Misses). m.demand) (request_misses unit.node) in
          let (old, stood, line, same) = (sent_misses unit.node.side.misses).early demand (sym is ∙ stands) in
          early_on d s new e t unit after c keeps t unit after demand words c.at (now d s new e t unit after c) stands early
          (subst (λ (l : ℕ). AnswersGet d s unit.node l words) line (was.early old words stood (same ∙ early)));
      out = λ place msg there. was.out place msg (sym (ap (λ (n : Node). slice_get n.out place) node ∙ ap (λ (out : List Msg). slice_get out place)
          (request_queue unit.node)) ∙ there);
    }) (λ router port slot msg there. values.channels router port slot msg (ap (λ (net : Network Msg). stands_at net router port slot) (sym replies) ∙ there))
