-- A tile that has no write to a line still to come at a place has none at the next one, unless it may write there.
use Rattle.std.proofs.Common.{◌≡◌, ℕ, ◌+◌, ◌<◌, ◌≤◌, true, List, Option, Some, None, take, slice_get, ap, ◌∙◌, refl, subst, inl, inr, arith}
use Rattle.std.proofs.lemmas.Bool.{cases_eq, false≢true}
use Rattle.mesh_gen.specs.declared.request.Request.{Request}
use Rattle.mesh_gen.specs.declared.kind.Kind.TheVariants.{GetM}
use Rattle.chip_model.specs.declared.line_state.State.{State}
use Rattle.chip_model.specs.declared.line_state.State.TheVariants.{M, O, S}
use Rattle.chip_model.specs.declared.owner.Owner.TheVariants.{Tile}
use Rattle.chip_model.specs.Cache.{Held, lookup}
use Rattle.chip_model.specs.Misses.{Demand}
use Rattle.chip_model.specs.Node.{Node}
use Rattle.chip_model.specs.Ownership.{writer, delivered_to}
use Rattle.chip_model.specs.NodeShape.{is_modified, is_modified_state}
use Rattle.chip_model.specs.Bookkeeping.{IsOrderedAt}
use Rattle.chip_model.specs.Writers.{writer_for_state, WritersFit, IsSettled}
use Rattle.chip_laws.proofs.OwnerFolds.{writer_of_kind}

modified_copy : (copy : Option Held) → is_modified copy ≡ true → (held : Held) × (copy ≡ Some held) × (held.state ≡ M)
modified_copy None e = absurd (false≢true e)
modified_copy (Some held) e = (held, refl, state held.state e) where
  state : (x : State) → is_modified_state x ≡ true → x ≡ M
  state M e = refl
  state O e = absurd (false≢true e)
  state S e = absurd (false≢true e)

-- a node with the only copy may write the line
pub may_write : (ordered : List Request) (node : Node) (line : ℕ) → WritersFit ordered node → is_modified (lookup node.chip node.side.cache line) ≡ true
    → writer line (delivered_to ordered node) ≡ Tile node.tile
may_write ordered node line writers e =
    let (held, here, modified) = modified_copy (lookup node.chip node.side.cache line) e in
    subst (λ (x : State). writer_for_state node held x (writer line (delivered_to ordered node))) modified (writers line held here)

-- each ordered demand stands in the order
abbrev pub DemandsAreOrdered : List Request → Node → Type 0
DemandsAreOrdered ordered node = (demand : Demand) (g : ℕ) → node.side.misses.demand ≡ Some demand → demand.ordered ≡ Some g → IsOrderedAt ordered node demand g

pub settled_next : (ordered : List Request) (node : Node) (line place : ℕ) → WritersFit ordered node → DemandsAreOrdered ordered node
    → (writer line (take (place + 1) ordered) ≡ Tile node.tile → ⊥) → IsSettled ordered node line place → IsSettled ordered node line (place + 1)
settled_next ordered node line place writers orders other settled = record {
  delivered = λ g q less at same kind source. elim (cases_eq g place) [
    | inl here ↦ absurd (other (writer_of_kind line place ordered q GetM (subst (λ n. slice_get ordered n ≡ Some q) here at) kind same ∙ ap Tile source))
    | inr away ↦ settled.delivered g q (omega arith) at same kind source
  ];
  demand = λ demand g stands is_ordered kind same. elim (cases_eq g place) [
    | inl here ↦ (let o = orders demand g stands is_ordered in
        absurd (other (writer_of_kind line place ordered o.request GetM (subst (λ n. slice_get ordered n ≡ Some o.request) here o.at) (o.kind ∙ kind)
        (o.line ∙ same) ∙ ap Tile o.source)))
    | inr away ↦ (let least : place ≤ g = settled.demand demand g stands is_ordered kind same in omega arith)
  ];
  modified = λ e. elim (cases_eq node.delivered (place + 1)) [
    | inl here ↦ absurd (other (subst (λ n. writer line (take n ordered) ≡ Tile node.tile) here (may_write ordered node line writers e)))
    | inr away ↦ (let less : place < node.delivered = settled.modified e in omega arith)
  ];
}
