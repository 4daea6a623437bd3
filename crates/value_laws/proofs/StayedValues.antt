-- A step leaves the copies of a node, its records and its count as they are, and writes nothing: all values stay.
use Rattle.std.proofs.Common.{◌≡◌, ℕ, true, Some, None, List, inl, refl, sym, ◌∙◌, ap, subst}
use Rattle.std.specs.Prelude.{slice_get, slice_index_or}
use Rattle.mesh_gen.specs.declared.msg.Msg.{Msg}
use Rattle.vc_bank.specs.Places.{at as stands_at}
use Rattle.report_text.specs.declared.access.Access.{Access}
use Rattle.doc_text.specs.Doc.{Doc}
use Rattle.chip_model.specs.Chip.{Chip}
use Rattle.chip_model.specs.Cache.{Cache, lookup}
use Rattle.chip_model.specs.Misses.{Demand, WriteBack}
use Rattle.chip_model.specs.Records.{Records}
use Rattle.chip_model.specs.Node.{Node}
use Rattle.chip_model.specs.Units.{UnitState}
use Rattle.chip_model.specs.ChipState.{ChipState}
use Rattle.chip_model.specs.NodeShape.{is_modified}
use Rattle.chip_model.specs.Witness.{line_value}
use Rattle.chip_model.specs.Values.{HasValue, place_of_shared, AnswersGet, MessageHasValue, NodeHasValues, ValuesHold}
use Rattle.chip_laws.specs.EventSteps.{ChangesUnit}
use Rattle.value_laws.proofs.SettledSteps.{OrdersNothing, now, settled_on}
use Rattle.value_laws.proofs.StepValues.{KeepsSettled, value_on, itself_copy_on, message_on, record_on, values_on}

-- a write-back stood with the same line and words, and was live
pub record BackStood (node : Node) (back : WriteBack) : Type 0 where
  pub was : WriteBack
  pub stood : node.side.misses.back ≡ Some was
  pub live : was.live ≡ true
  pub line : was.line ≡ back.line
  pub words : was.words ≡ back.words

-- the copies, the records and the count are as they were, a copy in S has its value at the same place, and each live
-- write-back stood
pub record NodeStays (node after : Node) : Type 0 where
  pub chip : after.chip ≡ node.chip
  pub cache : after.side.cache ≡ node.side.cache
  pub records : after.records ≡ node.records
  pub delivered : after.delivered ≡ node.delivered
  pub shared : (line : ℕ) → place_of_shared after line ≡ place_of_shared node line
  pub back : (back : WriteBack) → after.side.misses.back ≡ Some back → back.live ≡ true → BackStood node back

pub node_same : (node : Node) → NodeStays node node
node_same node = record {
  chip = refl;
  cache = refl;
  records = refl;
  delivered = refl;
  shared = λ line. refl;
  back = λ back stands live. record { was = back; stood = stands; live = live; line = refl; words = refl };
}

-- early data answers the node's get, and each message that it has to send had its value
pub record HasSent (d : Doc) (s new : ChipState) (after : Node) : Type 0 where
  pub early : (demand : Demand) (words : List ℕ) → after.side.misses.demand ≡ Some demand → demand.early ≡ Some words → AnswersGet d new after demand.line words
  pub out : (place : ℕ) (msg : Msg) → slice_get after.out place ≡ Some msg → MessageHasValue d s msg msg.kind

module _ (d : Doc) (s new : ChipState) (e : OrdersNothing d s new) (values : ValuesHold d s) (t : ℕ) (unit after : UnitState)
    (c : ChangesUnit s new t unit after)
    (same : (line place : ℕ) → line_value d new.accesses line place ≡ line_value d s.accesses line place) (stays : NodeStays unit.node after.node) where
  copy_stood : (line : ℕ) → lookup after.node.chip after.node.side.cache line ≡ lookup unit.node.chip unit.node.side.cache line
  copy_stood line =
      ap (λ (x : Chip). lookup x after.node.side.cache line) stays.chip ∙ ap (λ (x : Cache). lookup unit.node.chip x line) stays.cache

  pub stays_settled : KeepsSettled d s new unit after
  stays_settled = record {
    settled = λ line place is. settled_on d s new e t unit after c line place (λ only. inl (ap is_modified (sym (copy_stood line)) ∙ only)) is;
    value = λ line place is. same line place;
  }

  back_stays : (back : WriteBack) → BackStood unit.node back → HasValue d new back.line after.node.delivered back.words
  back_stays back stood =
      let has = (values.nodes t unit c.at).back stood.was stood.stood stood.live in
      let on = value_on d s new e t unit after c stays_settled stood.was.line unit.node.delivered stood.was.words has in
      subst (HasValue d new back.line after.node.delivered) stood.words
      (subst (λ (k : ℕ). HasValue d new back.line k stood.was.words) (sym stays.delivered)
      (subst (λ (l : ℕ). HasValue d new l unit.node.delivered stood.was.words) stood.line on))

  node_stays : HasSent d s new after.node → NodeHasValues d new after.node
  node_stays sent = record {
    copies = λ line held there.
        itself_copy_on d s new e t unit after c stays_settled line held held.state stays.delivered (stays.shared line)
        (λ only. same line unit.node.delivered)
        ((values.nodes t unit c.at).copies line held (sym (copy_stood line) ∙ there));
    back = λ back stands live. back_stays back (stays.back back stands live);
    early = sent.early;
    out = λ place msg there.
        message_on d s new e t unit after c stays_settled msg (λ kind. e.answers.queued t place after msg (now d s new e t unit after c) there kind)
        (sent.out place msg there);
    records = λ line r there fresh.
        record_on d s new e t unit after c stays_settled unit.node after.node line r r.owner stays.delivered
        ((values.nodes t unit c.at).records line r (ap (λ (rs : Records). slice_index_or rs line None) (sym stays.records) ∙ there) fresh);
  }

  pub stayed_values : HasSent d s new after.node
      → ((router port slot : ℕ) (msg : Msg) → stands_at new.replies router port slot ≡ Some msg → MessageHasValue d s msg msg.kind) → ValuesHold d new
  stayed_values sent stood = values_on d s new e t unit after c stays_settled values (node_stays sent) stood

-- where no access is performed the values of lines are the same
pub same_values : (d : Doc) (s new : ChipState) → new.accesses ≡ s.accesses → (line place : ℕ)
    → line_value d new.accesses line place ≡ line_value d s.accesses line place
same_values d s new accesses line place = ap (λ (xs : List Access). line_value d xs line place) accesses
