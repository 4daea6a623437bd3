-- A tile delivers its own get, whose words are not here yet: its demand is ordered, and all values stay.
use Rattle.std.proofs.Common.{◌≡◌, ℕ, ◌+◌, Bool, true, cond, refl, sym, ◌∙◌, ap, subst, inl, inr, Option, Some, None, List, ◌++◌}
use Rattle.std.specs.Prelude.{slice_get}
use Rattle.std.proofs.lemmas.Option.{same_Some}
use Rattle.mesh_gen.specs.declared.request.Request.{Request}
use Rattle.mesh_gen.specs.declared.msg.Msg.{Msg}
use Rattle.vc_bank.specs.Places.{Network, at as stands_at}
use Rattle.report_text.specs.declared.access.Access.{Access}
use Rattle.doc_text.specs.Doc.{Doc}
use Rattle.chip_model.specs.Chip.{Chip}
use Rattle.chip_model.specs.Cache.{lookup}
use Rattle.chip_model.specs.Misses.{Demand}
use Rattle.chip_model.specs.Records.{answered}
use Rattle.chip_model.specs.Snoop.{CacheSide, Outcome, quiet, with_demand, words_here, ordered_with, own_get}
use Rattle.chip_model.specs.Node.{Node, node_after_request}
use Rattle.chip_model.specs.Units.{UnitState}
use Rattle.chip_model.specs.ChipState.{ChipState}
use Rattle.chip_model.specs.NodeShape.{is_modified}
use Rattle.chip_model.specs.Bookkeeping.{is_get}
use Rattle.chip_model.specs.Witness.{line_value}
use Rattle.chip_model.specs.Values.{place_of_demand, MessageHasValue, NodeHasValues, ValuesHold}
use Rattle.chip_laws.specs.DocLaws.{DocLaws}
use Rattle.chip_laws.specs.EventSteps.{ChangesUnit}
use Rattle.chip_laws.proofs.Options.{none_some}
use Rattle.value_laws.proofs.SettledSteps.{OrdersNothing, now}
use Rattle.value_laws.proofs.StepValues.{KeepsSettled, quiet_keeps, message_on, values_on}
use Rattle.value_laws.proofs.MissValues.{shared_at_count}
use Rattle.value_laws.proofs.NextValues.{KeepsShared, copy_next, back_next}
use Rattle.value_laws.proofs.AnsweredValues.{records_next, home_sends}
use Rattle.value_laws.proofs.OwnDeliveries.{delivered_node, own_node, get_request, of_append}

-- the demand, ordered at a place
abbrev ordered_at : Demand → ℕ → Demand
ordered_at demand place = record demand { ordered = Some place }

-- without words there is no early data
no_early : (chip : Chip) (side : CacheSide) (demand : Demand) (early : Option (List ℕ)) → words_here chip side demand early ≡ None → early ≡ None
no_early chip side demand None none = refl
no_early chip side demand (Some words) none = none_some words (sym none)

module _ (d : Doc) (s new : ChipState) (e : OrdersNothing d s new) (values : ValuesHold d s) (fits : DocLaws d) (t : ℕ) (unit after : UnitState)
    (c : ChangesUnit s new t unit after)
    (accesses : new.accesses ≡ s.accesses) (q : Request) (next : slice_get s.network.ordered unit.node.delivered ≡ Some q)
    (source : q.source ≡ unit.node.tile) (asks : is_get q.kind ≡ true)
    (demand : Demand) (stands : unit.node.side.misses.demand ≡ Some demand) (unordered : demand.ordered ≡ None)
    (wordless : words_here unit.node.chip unit.node.side demand demand.early ≡ None) (node : after.node ≡ (node_after_request q unit.node).0) where
  abbrev n : ℕ
  n = unit.node.delivered

  was : NodeHasValues d s unit.node
  was = values.nodes t unit c.at

  abbrev waits : Outcome
  waits = quiet (with_demand (Some (ordered_at demand n)) unit.node.side)

  form : after.node ≡ delivered_node q unit.node (quiet (with_demand (Some (ordered_at demand unit.node.delivered)) unit.node.side))
  form =
      node
      ∙ own_node q unit.node source
      ∙ ap (delivered_node q unit.node)
      (get_request unit.node.chip unit.node.side unit.node.delivered q.kind asks
      ∙ ap (own_get unit.node.chip unit.node.side unit.node.delivered) stands
      ∙ ap (ordered_with unit.node.chip unit.node.side unit.node.delivered demand) wordless)

  keeps : KeepsSettled d s new unit after
  keeps = quiet_keeps d s new e t unit after c accesses (λ m only. ap (λ (x : Node). is_modified (lookup x.chip x.side.cache m)) (sym form) ∙ only)

  count : after.node.delivered ≡ unit.node.delivered + 1
  count = ap (λ (x : Node). x.delivered) form

  demand_is : after.node.side.misses.demand ≡ Some (ordered_at demand n)
  demand_is = ap (λ (x : Node). x.side.misses.demand) form

  shared : (line : ℕ) → KeepsShared unit.node after.node line
  shared line =
      let before = shared_at_count unit.node line (λ x there. subst (λ (y : Demand). y.ordered ≡ None) (same_Some demand x (sym stands ∙ there)) unordered) in
      record {
        asks = λ is.
            ap (λ (b : Bool). cond b (place_of_demand after.node.side.misses.demand after.node.delivered) after.node.delivered) is
            ∙ ap (λ (o : Option Demand). place_of_demand o after.node.delivered) demand_is
            ∙ sym before;
        free = λ is. before;
      }

  sent : (i : ℕ) (msg : Msg) → slice_get (unit.node.out ++ waits.sends ++ (answered q unit.node.records).sends) i ≡ Some msg → MessageHasValue d s msg msg.kind
  sent i msg at = elim (of_append (unit.node.out ++ waits.sends) (answered q unit.node.records).sends i msg at) [
    | inl ours ↦ elim (of_append unit.node.out waits.sends i msg ours) [
      | inl queued ↦ was.out i msg queued
      | inr none ↦ none_some msg none.1
    ]
    | inr answered_is ↦ home_sends d s t unit q answered_is.0 msg fits e.before c.at next was answered_is.1
  ]

  same_value : (line : ℕ) → line_value d new.accesses line (unit.node.delivered + 1) ≡ line_value d s.accesses line (unit.node.delivered + 1)
  same_value line = ap (λ (xs : List Access). line_value d xs line (unit.node.delivered + 1)) accesses

  node_values : NodeHasValues d new after.node
  node_values = record {
    copies = λ line held there.
        copy_next d s new e t unit after c keeps count line held there (shared line) (λ only. same_value line)
        (was.copies line held (ap (λ (x : Node). lookup x.chip x.side.cache line) (sym form) ∙ there));
    back = λ back there live.
        back_next d s new e t unit after c keeps count back there live (same_value back.line)
        (was.back back (ap (λ (x : Node). x.side.misses.back) (sym form) ∙ there) live);
    early = λ x words there early.
        let same : ordered_at demand n ≡ x = same_Some (ordered_at demand n) x (sym demand_is ∙ there) in
        none_some words (sym (no_early unit.node.chip unit.node.side demand demand.early wordless) ∙ (ap (λ (y : Demand). y.early) same ∙ early));
    out = λ i msg there.
        message_on d s new e t unit after c keeps msg (λ is_data. e.answers.queued t i after msg (now d s new e t unit after c) there is_data)
        (sent i msg (ap (λ (x : Node). slice_get x.out i) (sym form) ∙ there));
    records = λ line r there fresh. records_next d s new e t unit after c keeps count q next was (ap (λ (x : Node). x.records) form) line r there fresh;
  }

  get_values : new.replies ≡ s.replies → ValuesHold d new
  get_values replies =
      values_on d s new e t unit after c keeps values node_values
      (λ router port slot msg there. values.channels router port slot msg (ap (λ (net : Network Msg). stands_at net router port slot) (sym replies) ∙ there))

-- the delivery of a tile's own get that does not complete keeps all values
pub ordered_get_values : (d : Doc) (s new : ChipState) → OrdersNothing d s new → ValuesHold d s → DocLaws d → (t : ℕ) (unit after : UnitState)
    → ChangesUnit s new t unit after
    → (q : Request) → slice_get s.network.ordered unit.node.delivered ≡ Some q → q.source ≡ unit.node.tile → is_get q.kind ≡ true
    → (demand : Demand) → unit.node.side.misses.demand ≡ Some demand → demand.ordered ≡ None
    → words_here unit.node.chip unit.node.side demand demand.early ≡ None
    → after.node ≡ (node_after_request q unit.node).0 → new.accesses ≡ s.accesses → new.replies ≡ s.replies → ValuesHold d new
ordered_get_values d s new e values fits t unit after c q next source asks demand stands unordered wordless node accesses replies =
    get_values d s new e values fits t unit after c accesses q next source asks demand stands unordered wordless node replies
