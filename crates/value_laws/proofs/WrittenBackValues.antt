-- A tile delivers its own write-back: its words go home with the value that their line has there; where another tile has come
-- to own the line, nothing goes. All values stay.
use Rattle.std.proofs.Common.{◌≡◌, ℕ, ◌+◌, Bool, true, false, cond, refl, sym, ◌∙◌, ap, subst, arith, inl, inr, Option, Some, List, [], ◌∷◌, ◌++◌, take, zero, suc}
use Rattle.std.specs.Prelude.{◌==◌, ◌&&◌, not, nat_le, slice_get}
use Rattle.std.proofs.lemmas.Bool.{eq-eqb, le-leb}
use Rattle.std.proofs.lemmas.Option.{same_Some}
use Rattle.mesh_gen.specs.declared.kind.Kind.{Kind}
use Rattle.mesh_gen.specs.declared.kind.Kind.TheVariants.{PutM}
use Rattle.mesh_gen.specs.declared.request.Request.{Request}
use Rattle.mesh_gen.specs.declared.msg.Msg.{Msg}
use Rattle.mesh_gen.specs.declared.msg_kind.MsgKind.TheVariants.{Back}
use Rattle.vc_bank.specs.Places.{Network, at as stands_at}
use Rattle.report_text.specs.declared.access.Access.{Access}
use Rattle.doc_text.specs.Doc.{Doc}
use Rattle.chip_model.specs.Chip.{home}
use Rattle.chip_model.specs.Cache.{lookup}
use Rattle.chip_model.specs.Misses.{WriteBack}
use Rattle.chip_model.specs.Records.{answered}
use Rattle.chip_model.specs.Snoop.{own_put, own_request}
use Rattle.chip_model.specs.Node.{Node, node_after_request}
use Rattle.chip_model.specs.Units.{UnitState}
use Rattle.chip_model.specs.ChipState.{ChipState}
use Rattle.chip_model.specs.NodeShape.{is_modified}
use Rattle.chip_model.specs.Ownership.{owner, is_tile}
use Rattle.chip_model.specs.Bookkeeping.{is_get}
use Rattle.chip_model.specs.Suppliers.{count_of, delivered_at, writes_back_as, writes_back, is_undelivered_at, is_undelivered}
use Rattle.chip_model.specs.Witness.{line_value}
use Rattle.chip_model.specs.Values.{MessageHasValue, NodeHasValues, ValuesHold}
use Rattle.snoop_core.specs.Requests.{MeetsBack, MeetsOwn, OwnRequestFits}
use Rattle.chip_laws.specs.DocLaws.{DocLaws}
use Rattle.chip_laws.specs.EventSteps.{ChangesUnit}
use Rattle.chip_laws.proofs.Options.{none_some}
use Rattle.chip_laws.proofs.SuppliedEvents.{unit_holds}
use Rattle.value_laws.proofs.SettledSteps.{OrdersNothing, now}
use Rattle.value_laws.proofs.StepValues.{KeepsSettled, quiet_keeps, message_on, early_on, values_on}
use Rattle.value_laws.proofs.NextValues.{same_shared, back_owned, copy_next}
use Rattle.value_laws.proofs.AnsweredValues.{records_next, home_sends}
use Rattle.value_laws.proofs.OwnDeliveries.{delivered_node, own_node, of_append}

module _ (d : Doc) (s new : ChipState) (e : OrdersNothing d s new) (values : ValuesHold d s) (fits : DocLaws d) (t : ℕ) (unit after : UnitState)
    (c : ChangesUnit s new t unit after)
    (accesses : new.accesses ≡ s.accesses) (q : Request) (next : slice_get s.network.ordered unit.node.delivered ≡ Some q)
    (source : q.source ≡ unit.node.tile) (kind : q.kind ≡ PutM)
    (back : WriteBack) (stands : unit.node.side.misses.back ≡ Some back) (line : back.line ≡ q.line)
    (node : after.node ≡ (node_after_request q unit.node).0) where
  was : NodeHasValues d s unit.node
  was = values.nodes t unit c.at

  form : after.node ≡ delivered_node q unit.node (own_put unit.node.chip unit.node.side (Some back))
  form =
      node
      ∙ own_node q unit.node source
      ∙ ap (λ (k : Kind). delivered_node q unit.node (own_request unit.node.chip unit.node.side unit.node.delivered k)) kind
      ∙ ap (λ (o : Option WriteBack). delivered_node q unit.node (own_put unit.node.chip unit.node.side o)) stands

  keeps : KeepsSettled d s new unit after
  keeps = quiet_keeps d s new e t unit after c accesses (λ m only. ap (λ (x : Node). is_modified (lookup x.chip x.side.cache m)) (sym form) ∙ only)

  count : after.node.delivered ≡ unit.node.delivered + 1
  count = ap (λ (x : Node). x.delivered) form

  -- the words of a live write-back are those that reach memory last
  writes : back.live ≡ true → writes_back back.line s.network.ordered unit.node.delivered ≡ true
  writes live =
      let own = (unit_holds d s t unit e.before c.at).holds in
      let owned : is_tile unit.node.tile (owner back.line (take unit.node.delivered s.network.ordered)) ≡ true =
      sym (own.serves.owns.lines back.line) ∙ back_owned unit.node.chip unit.node.side back stands live in
      ap (writes_back_as back.line (owner back.line (take unit.node.delivered s.network.ordered))) next
      ∙ ap (λ (k : Kind). not (is_get k) && (q.line == back.line) && is_tile q.source (owner back.line (take unit.node.delivered s.network.ordered))) kind
      ∙ ap (λ (b : Bool). true && b && is_tile q.source (owner back.line (take unit.node.delivered s.network.ordered))) (eq-eqb q.line back.line (sym line))
      ∙ ap (λ (u : ℕ). is_tile u (owner back.line (take unit.node.delivered s.network.ordered))) source
      ∙ owned

  undelivered : is_undelivered s unit.node.delivered ≡ true
  undelivered =
      let same : delivered_at s q.source ≡ unit.node.delivered =
      ap (delivered_at s) (source ∙ (unit_holds d s t unit e.before c.at).holds.node.agrees.tile) ∙ ap count_of c.at in
      ap (is_undelivered_at s unit.node.delivered) next ∙ ap (λ (k : ℕ). nat_le k unit.node.delivered) same
      ∙ le-leb unit.node.delivered unit.node.delivered (omega arith)

  back_sent : (i : ℕ) (msg : Msg) → slice_get (own_put unit.node.chip unit.node.side (Some back)).sends i ≡ Some msg → MessageHasValue d s msg msg.kind
  back_sent i msg at = by back.live refl i at where
    by : (live : Bool) → back.live ≡ live → (i : ℕ)
        → slice_get (cond {A = List Msg} live
        (record { to = home unit.node.chip back.line; kind = Back; line = back.line; words = back.words } ∷ []) []) i ≡ Some msg
        → MessageHasValue d s msg msg.kind
    by true live zero e_is =
        subst (λ (m : Msg). MessageHasValue d s m m.kind)
        (same_Some (record { to = home unit.node.chip back.line; kind = Back; line = back.line; words = back.words }) msg e_is)
        (record {
          place = unit.node.delivered;
          put = (e.before.backs back.line).undelivered unit.node.delivered (writes live) undelivered;
          value = was.back back stands live;
        })
    by true live (suc i) e_is = none_some msg e_is
    by false live i e_is = none_some msg e_is

  sent : (i : ℕ) (msg : Msg)
      → slice_get (unit.node.out ++ (own_put unit.node.chip unit.node.side (Some back)).sends ++ (answered q unit.node.records).sends) i ≡ Some msg
      → MessageHasValue d s msg msg.kind
  sent i msg at = elim (of_append (unit.node.out ++ (own_put unit.node.chip unit.node.side (Some back)).sends) (answered q unit.node.records).sends i msg at) [
    | inl ours ↦ elim (of_append unit.node.out (own_put unit.node.chip unit.node.side (Some back)).sends i msg ours) [
      | inl queued ↦ was.out i msg queued
      | inr home_bound ↦ back_sent home_bound.0 msg home_bound.1
    ]
    | inr answered_is ↦ home_sends d s t unit q answered_is.0 msg fits e.before c.at next was answered_is.1
  ]

  node_values : NodeHasValues d new after.node
  node_values = record {
    copies = λ m held there.
        copy_next d s new e t unit after c keeps count m held there (same_shared unit.node after.node m (ap (λ (x : Node). x.side.misses.demand) form))
        (λ only. ap (λ (xs : List Access). line_value d xs m (unit.node.delivered + 1)) accesses)
        (was.copies m held (ap (λ (x : Node). lookup x.chip x.side.cache m) (sym form) ∙ there));
    back = λ b there live. none_some b (ap (λ (x : Node). x.side.misses.back) (sym form) ∙ there);
    early = λ demand words there early.
        early_on d s new e t unit after c keeps t unit after demand words c.at (now d s new e t unit after c) there early
        (was.early demand words (ap (λ (x : Node). x.side.misses.demand) (sym form) ∙ there) early);
    out = λ i msg there.
        message_on d s new e t unit after c keeps msg (λ is_data. e.answers.queued t i after msg (now d s new e t unit after c) there is_data)
        (sent i msg (ap (λ (x : Node). slice_get x.out i) (sym form) ∙ there));
    records = λ m r there fresh. records_next d s new e t unit after c keeps count q next was (ap (λ (x : Node). x.records) form) m r there fresh;
  }

  put_values : new.replies ≡ s.replies → ValuesHold d new
  put_values replies =
      values_on d s new e t unit after c keeps values node_values
      (λ router port slot msg there. values.channels router port slot msg (ap (λ (net : Network Msg). stands_at net router port slot) (sym replies) ∙ there))

-- the delivery of a tile's own write-back keeps all values
pub written_back_values : (d : Doc) (s new : ChipState) → OrdersNothing d s new → ValuesHold d s → DocLaws d → (t : ℕ) (unit after : UnitState)
    → ChangesUnit s new t unit after
    → (q : Request) → slice_get s.network.ordered unit.node.delivered ≡ Some q → OwnRequestFits unit.node.tile unit.node.side q → q.source ≡ unit.node.tile
    → q.kind ≡ PutM
    → after.node ≡ (node_after_request q unit.node).0 → new.accesses ≡ s.accesses → new.replies ≡ s.replies → ValuesHold d new
written_back_values d s new e values fits t unit after c q next own source kind node accesses replies =
    let meets : MeetsBack unit.node.side q = subst (MeetsOwn unit.node.side q) kind (own source) in
    put_values d s new e values fits t unit after c accesses q next source kind meets.0 meets.1 meets.2.line node replies
