-- Data comes for a demand whose request is not ordered yet: it waits at the demand, and all values stay.
use Rattle.std.proofs.Common.{◌≡◌, ℕ, Option, Some, None, List, ◌++◌, refl, sym, ◌∙◌, ap, subst}
use Rattle.std.specs.Prelude.{slice_get}
use Rattle.std.proofs.lemmas.Option.{same_Some}
use Rattle.std.proofs.lemmas.List.{append-nil}
use Rattle.mesh_gen.specs.declared.msg.Msg.{Msg}
use Rattle.mesh_gen.specs.declared.msg_kind.MsgKind.{MsgKind}
use Rattle.mesh_gen.specs.declared.msg_kind.MsgKind.TheVariants.{Data}
use Rattle.vc_bank.specs.Places.{at as stands_at}
use Rattle.doc_text.specs.Doc.{Doc}
use Rattle.chip_model.specs.Misses.{Demand}
use Rattle.chip_model.specs.Snoop.{Outcome, quiet, with_demand, data_at, data_for, after_data}
use Rattle.chip_model.specs.Node.{Node, arrived_as, words_arrived, node_after_message}
use Rattle.chip_model.specs.Units.{UnitState}
use Rattle.chip_model.specs.ChipState.{ChipState}
use Rattle.chip_model.specs.Values.{place_of_shared, AnswersGet, MessageHasValue, ValuesHold}
use Rattle.chip_laws.specs.EventSteps.{ChangesUnit}
use Rattle.value_laws.proofs.SettledSteps.{OrdersNothing, now}
use Rattle.value_laws.proofs.StepValues.{early_on}
use Rattle.value_laws.proofs.StayedValues.{NodeStays, stays_settled, stayed_values, same_values}

-- a demand with data that came early
abbrev with_early : Demand → List ℕ → Demand
with_early demand words = record demand { early = Some words }

-- the node whose demand has such data
abbrev early_node : Node → Demand → List ℕ → Node
early_node node demand words = record node { side = with_demand (Some (with_early demand words)) node.side }

data_node : (node : Node) (words : List ℕ) (demand : Demand) → node.side.misses.demand ≡ Some demand → demand.ordered ≡ None
    → (words_arrived node words).0 ≡ early_node node demand words
unfolding after_data
data_node node words demand stands unordered =
    let is : after_data node.chip node.side words ≡ quiet (with_demand (Some (with_early demand words)) node.side) =
    ap (data_for node.chip node.side words) stands ∙ ap (data_at node.chip node.side words demand) unordered in
    ap (λ (outcome : Outcome). record node { side = outcome.side; out = node.out ++ outcome.sends }) is
    ∙ ap (λ (out : List Msg). record node { side = with_demand (Some (with_early demand words)) node.side; out = out }) (append-nil node.out)

pub arrived_early : (msg : Msg) (node : Node) (demand : Demand) → msg.kind ≡ Data → node.side.misses.demand ≡ Some demand → demand.ordered ≡ None
    → (node_after_message msg node).0 ≡ early_node node demand msg.words
unfolding node_after_message
arrived_early msg node demand kind stands unordered =
    ap (λ (k : MsgKind). (arrived_as msg node k).0) kind ∙ data_node node msg.words demand stands unordered

early_stays : (node : Node) (demand : Demand) (words : List ℕ) → node.side.misses.demand ≡ Some demand → NodeStays node (early_node node demand words)
early_stays node demand words stands = record {
  chip = refl;
  cache = refl;
  records = refl;
  delivered = refl;
  shared = λ line. by line ∙ sym (at line);
  back = λ back there live. record { was = back; stood = there; live = live; line = refl; words = refl };
}
  where
    waits : Demand → Node
    waits x = record node { side = with_demand (Some x) node.side }

    by : (line : ℕ) → place_of_shared (early_node node demand words) line ≡ place_of_shared (waits demand) line
    by line = refl

    at : (line : ℕ) → place_of_shared node line ≡ place_of_shared (waits demand) line
    at line = ap (λ (entry : Option Demand). place_of_shared (record node { side = with_demand entry node.side }) line) stands

-- data that comes before its request is ordered keeps all values
pub early_values : (d : Doc) (s new : ChipState) → OrdersNothing d s new → ValuesHold d s → (t : ℕ) (unit after : UnitState) → ChangesUnit s new t unit after
    → (msg : Msg) (demand : Demand) → msg.kind ≡ Data → unit.node.side.misses.demand ≡ Some demand → demand.ordered ≡ None
    → AnswersGet d s unit.node demand.line msg.words → after.node ≡ (node_after_message msg unit.node).0 → new.accesses ≡ s.accesses
    → ((router port slot : ℕ) (m : Msg) → stands_at new.replies router port slot ≡ Some m → MessageHasValue d s m m.kind) → ValuesHold d new
early_values d s new e values t unit after c msg demand kind stands unordered answers node accesses stood =
    let form : after.node ≡ early_node unit.node demand msg.words = node ∙ arrived_early msg unit.node demand kind stands unordered in
    let stays : NodeStays unit.node after.node = subst (NodeStays unit.node) (sym form) (early_stays unit.node demand msg.words stands) in
    let keeps = stays_settled d s new e values t unit after c (same_values d s new accesses) stays in
    stayed_values d s new e values t unit after c (same_values d s new accesses) stays (record {
      early = λ x words there early.
          let same : with_early demand msg.words ≡ x = same_Some (with_early demand msg.words) x (sym (ap (λ (n : Node). n.side.misses.demand) form) ∙ there) in
          let is : msg.words ≡ words = same_Some msg.words words (ap (λ (y : Demand). y.early) same ∙ early) in
          early_on d s new e t unit after c keeps t unit after x words c.at (now d s new e t unit after c) there early
          (subst (AnswersGet d s unit.node x.line) is (subst (λ (l : ℕ). AnswersGet d s unit.node l msg.words) (ap (λ (y : Demand). y.line) same) answers));
      out = λ place m there. (values.nodes t unit c.at).out place m (ap (λ (n : Node). slice_get n.out place) (sym form) ∙ there);
    }) stood
