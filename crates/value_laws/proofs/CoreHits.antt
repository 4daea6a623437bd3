-- A core event that performs an access: it hits, or reads a store that the core has still to make. All values stay.
use Rattle.std.proofs.Common.{◌≡◌, ℕ, Bool, false, ◌&&◌, ◌==◌, Option, Some, None, List, [], ◌∷◌, ◌++◌, sym, ap, ◌∙◌, refl, subst, inl, inr}
use Rattle.std.specs.Prelude.{nat_le, IfSome}
use Rattle.std.specs.List.{AllByRecursion}
use Rattle.std.proofs.lemmas.Option.{same_Some}
use Rattle.report_text.specs.declared.access.Access.{Access}
use Rattle.report_text.specs.Accesses.{writes}
use Rattle.doc_text.specs.Doc.{Doc}
use Rattle.chip_model.specs.declared.done.Done.{Done}
use Rattle.chip_model.specs.Chip.{line_of}
use Rattle.chip_model.specs.Snoop.{done_by}
use Rattle.chip_model.specs.Units.{UnitState, Acted, Behaviour}
use Rattle.chip_model.specs.ChipState.{ChipState}
use Rattle.chip_model.specs.BehaviourLaws.{numbered, IsOfCore, Answers, WorksAlone, TriesAccess, Works, KeepsLaws}
use Rattle.chip_model.specs.Witness.{line_value}
use Rattle.chip_model.specs.Values.{MessageHasValue, ValuesHold}
use Rattle.vc_bank.specs.Places.{Network, at as stands_at}
use Rattle.mesh_gen.specs.declared.msg.Msg.{Msg}
use Rattle.chip_laws.specs.EventSteps.{ChangesUnit}
use Rattle.chip_laws.specs.Meetings.{UnitsFit}
use Rattle.chip_laws.proofs.Options.{none_some}
use Rattle.value_laws.specs.Sequences.{Succeeds, AreSucceeding}
use Rattle.value_laws.proofs.Sequences.{pairs_before, pairs_last}
use Rattle.value_laws.proofs.LineValues.{value_kept}
use Rattle.value_laws.proofs.SettledSteps.{OrdersNothing}
use Rattle.value_laws.proofs.NodeEvents.{one_noted}
use Rattle.value_laws.proofs.EventValues.{AccessesKeepValues}
use Rattle.value_laws.proofs.QuietValues.{node_kept_values}
use Rattle.value_laws.proofs.HitAccesses.{Hit, hit_of}
use Rattle.value_laws.proofs.HitValues.{hit_values}

-- an access that writes nothing leaves all values of lines
pub read_leaves : (d : Doc) (s new : ChipState) (a : Access) → AllByRecursion (λ b. Succeeds b a) s.accesses → new.accesses ≡ s.accesses ++ a ∷ []
    → writes a.kind ≡ false
    → (line place : ℕ) → line_value d new.accesses line place ≡ line_value d s.accesses line place
read_leaves d s new a follows accesses reads_only line place =
    ap (λ (xs : List Access). line_value d xs line place) accesses
    ∙ value_kept d s.accesses a line place follows (ap (λ (b : Bool). b && (line_of a.address == line) && nat_le a.time place) reads_only)

-- ---- a core event

-- the access that a unit answers is that of its node's step
pub hits : (unit : UnitState) (acted : Acted) (a : Access) (tries : TriesAccess unit acted) → acted.1 ≡ Some a
    → (hit : Hit tries.access unit.node tries.left) × (n : ℕ) × (a ≡ numbered unit (done_by tries.access unit.node.delivered hit.held.words) n)
hits unit acted a tries some = by tries.left.1 refl tries.goes_on.answers where
  by : (done : Option Done) → tries.left.1 ≡ done → Answers unit acted.0 done acted.1
      → (hit : Hit tries.access unit.node tries.left) × (n : ℕ) × (a ≡ numbered unit (done_by tries.access unit.node.delivered hit.held.words) n)
  by None is answers = none_some a (sym answers.0 ∙ some)
  by (Some one) is answers =
      let hit = hit_of tries.access unit.node tries.left one tries.tried is in
      let same : one ≡ done_by tries.access unit.node.delivered hit.held.words = same_Some one _ (sym is ∙ hit.done) in
      (hit, answers.0, same_Some a _ (sym some ∙ answers.1) ∙ ap (λ (x : Done). numbered unit x answers.0) same)

-- what a core answers without its node writes nothing
alone_reads : (unit : UnitState) (acted : Acted) (a : Access) → WorksAlone unit acted → acted.1 ≡ Some a → writes a.kind ≡ false
alone_reads unit acted a alone some = by acted.1 some alone.reads where
  Reads : Access → Type 0
  Reads x = (writes x.kind ≡ false) × (x.tile ≡ unit.node.tile) × (x.time ≡ unit.node.delivered) × IsOfCore unit acted.0 x

  by : (answer : Option Access) → answer ≡ Some a → IfSome answer (λ x. Reads x) → writes a.kind ≡ false
  by None is reads_it = none_some a is
  by (Some b) is reads_it = subst (λ (x : Access). writes x.kind ≡ false) (same_Some b a is) reads_it.0

module _ (d : Doc) (s new : ChipState) (e : OrdersNothing d s new) (values : ValuesHold d s) (turn : AreSucceeding new.accesses) (t : ℕ) (unit : UnitState)
    (acted : Acted)
    (c : ChangesUnit s new t unit acted.0) (a : Access) (accesses : new.accesses ≡ s.accesses ++ a ∷ []) (some : acted.1 ≡ Some a)
    (replies : new.replies ≡ s.replies) where
  turns : AreSucceeding (s.accesses ++ a ∷ [])
  turns = subst AreSucceeding accesses turn

  stood : (router port slot : ℕ) (msg : Msg) → stands_at new.replies router port slot ≡ Some msg → MessageHasValue d s msg msg.kind
  stood router port slot msg there = values.channels router port slot msg (ap (λ (net : Network Msg). stands_at net router port slot) (sym replies) ∙ there)

  works_values : Works unit acted → ValuesHold d new
  works_values (inl alone) =
      node_kept_values d s new e values t unit acted.0 c alone.node
      (read_leaves d s new a (pairs_last Succeeds s.accesses a turns) accesses (alone_reads unit acted a alone some)) stood
  works_values (inr tries) =
      let (hit, number, is) = hits unit acted a tries some in
      hit_values d s new e values (pairs_before Succeeds s.accesses a turns) t unit acted.0 c tries.access tries.left hit number tries.goes_on.node
      (subst (λ (x : Access). AllByRecursion (λ b. Succeeds b x) s.accesses) is (pairs_last Succeeds s.accesses a turns))
      (subst (λ (x : Access). new.accesses ≡ s.accesses ++ x ∷ []) is accesses) replies

-- a core event that performs an access keeps all values
pub accesses_keep_values : (b : Behaviour) (laws : KeepsLaws b) (d : Doc) (s new : ChipState) → UnitsFit b laws s → AreSucceeding new.accesses → ValuesHold d s
    → AccessesKeepValues b d s new
accesses_keep_values b laws d s new fit turn values t does a some e =
    works_values d s new e values turn t does.unit (b.stepped does.unit) does.changes a
    (one_noted s new (b.stepped does.unit).1 a does.accesses some) some does.replies
    (laws.stepped does.unit (fit t does.unit does.changes.at) does.ready).1
