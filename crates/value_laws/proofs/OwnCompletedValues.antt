-- A tile delivers its own get, whose words are here: they came early, or its copy owns the line. The demand completes, and all
-- values stay.
use Rattle.std.proofs.Common.{◌≡◌, ◌≢◌, ℕ, ◌+◌, Bool, true, false, cond, refl, sym, ◌∙◌, ap, subst, arith, inl, inr, ◌⊎◌, Option, Some, None, List, [], ◌∷◌, ◌++◌}
use Rattle.std.specs.Prelude.{◌==◌, filter, slice_get}
use Rattle.std.specs.List.{list_any}
use Rattle.std.proofs.lemmas.Bool.{both_ways, cases_lt, eq-eqb}
use Rattle.std.proofs.lemmas.Option.{same_Some, slice_get_within}
use Rattle.mesh_gen.specs.declared.request.Request.{Request}
use Rattle.mesh_gen.specs.declared.msg.Msg.{Msg}
use Rattle.vc_bank.specs.Places.{Network, at as stands_at}
use Rattle.doc_text.specs.Doc.{Doc}
use Rattle.chip_model.specs.declared.line_state.State.{State}
use Rattle.chip_model.specs.declared.line_state.State.TheVariants.{M, O, S}
use Rattle.chip_model.specs.Cache.{Held, lookup}
use Rattle.chip_model.specs.Misses.{Demand, WriteBack, is_getm}
use Rattle.chip_model.specs.Records.{answered}
use Rattle.chip_model.specs.Snoop.{completed, done_by, words_in_state, owned_words, words_here, ordered_with, own_get}
use Rattle.chip_model.specs.Node.{Node, node_after_request}
use Rattle.chip_model.specs.Units.{UnitState}
use Rattle.chip_model.specs.ChipState.{ChipState}
use Rattle.chip_model.specs.BehaviourLaws.{numbered}
use Rattle.chip_model.specs.Bookkeeping.{is_get, is_get_of, between, gets_of_others, up_to_getm, waiting_for}
use Rattle.chip_model.specs.Suppliers.{place_of_get}
use Rattle.chip_model.specs.Writers.{is_ordered_write}
use Rattle.chip_model.specs.Values.{HasValue, CopyHasValue, MessageHasValue, NodeHasValues, ValuesHold}
use Rattle.snoop_core.specs.Requests.{IsRequestOf}
use Rattle.chip_laws.specs.DocLaws.{DocLaws}
use Rattle.chip_laws.specs.EventSteps.{ChangesUnit}
use Rattle.chip_laws.proofs.Options.{none_some}
use Rattle.chip_laws.proofs.OrderLists.{between_none}
use Rattle.chip_laws.proofs.SuppliedEvents.{unit_holds}
use Rattle.supply_laws.proofs.GetPlaces.{get_of, undelivered_open}
use Rattle.supply_laws.proofs.PlaceEvents.{one_of}
use Rattle.value_laws.specs.Sequences.{AreSucceeding}
use Rattle.value_laws.proofs.AnsweredValues.{records_next, home_sends}
use Rattle.value_laws.proofs.Completion.{Completion, CompletesBy, value_elsewhere}
use Rattle.value_laws.proofs.CompletedValues.{idle, back_stood, completion_keeps, completed_node}
use Rattle.value_laws.proofs.MissValues.{shared_at_count}
use Rattle.value_laws.proofs.NextValues.{KeepsShared, latest_within, copy_next, back_next}
use Rattle.value_laws.proofs.OwnDeliveries.{delivered_node, own_node, get_request, of_append}
use Rattle.value_laws.proofs.SettledSteps.{OrdersNothing}
use Rattle.value_laws.proofs.StepValues.{values_on}

-- ---- the words that are here
-- the words of a copy that owns the line
record OwnedHere (node : Node) (line : ℕ) (words : List ℕ) : Type 0 where
  pub held : Held
  pub there : lookup node.chip node.side.cache line ≡ Some held
  pub state : held.state ≡ O
  pub same : held.words ≡ words

owned_here : (node : Node) (line : ℕ) (words : List ℕ) (copy : Option Held) → lookup node.chip node.side.cache line ≡ copy → owned_words copy ≡ Some words
    → OwnedHere node line words
owned_here node line words None there is = none_some words is
owned_here node line words (Some held) there is = by held.state refl is where
  by : (state : State) → held.state ≡ state → words_in_state held.words state ≡ Some words → OwnedHere node line words
  by M state_is x = none_some words x
  by S state_is x = none_some words x
  by O state_is x = record { held = held; there = there; state = state_is; same = same_Some held.words words x }

module _ (d : Doc) (s new : ChipState) (e : OrdersNothing d s new) (values : ValuesHold d s) (fits : DocLaws d) (t : ℕ) (unit after : UnitState)
    (c : ChangesUnit s new t unit after)
    (turn : AreSucceeding s.accesses) (q : Request) (next : slice_get s.network.ordered unit.node.delivered ≡ Some q) (source : q.source ≡ unit.node.tile)
    (asks : is_get q.kind ≡ true)
    (demand : Demand) (stands : unit.node.side.misses.demand ≡ Some demand) (is_for : IsRequestOf demand q)
    (words : List ℕ) (here : words_here unit.node.chip unit.node.side demand demand.early ≡ Some words) (node : after.node ≡ (node_after_request q unit.node).0)
    (number : ℕ) (accesses : new.accesses ≡ s.accesses ++ numbered unit (done_by demand.pending (unit.node.delivered + 1) words) number ∷ []) where
  abbrev n : ℕ
  n = unit.node.delivered

  was : NodeHasValues d s unit.node
  was = values.nodes t unit c.at

  tile : unit.node.tile ≡ t
  tile = (unit_holds d s t unit e.before c.at).holds.node.agrees.tile

  unordered : (x : Demand) → unit.node.side.misses.demand ≡ Some x → x.ordered ≡ None
  unordered x there = subst (λ (y : Demand). y.ordered ≡ None) (same_Some demand x (sym stands ∙ there)) is_for.unordered

  form : after.node ≡ delivered_node q unit.node (completed unit.node.chip demand unit.node.delivered words unit.node.side)
  form =
      node
      ∙ own_node q unit.node source
      ∙ ap (delivered_node q unit.node)
      (get_request unit.node.chip unit.node.side unit.node.delivered q.kind asks
      ∙ ap (own_get unit.node.chip unit.node.side unit.node.delivered) stands
      ∙ ap (ordered_with unit.node.chip unit.node.side unit.node.delivered demand) here)

  count : after.node.delivered ≡ unit.node.delivered + 1
  count = ap (λ (x : Node). x.delivered) form

  waits : place_of_get s unit.node ≡ Some n
  waits = undelivered_open s.network.ordered unit.node n q (one_of d s t unit e.before c.at) next (get_of unit.node.tile q asks source) (omega arith)

  -- they have the value of the line where the get stands
  early_value : (early : Option (List ℕ)) → demand.early ≡ early → words_here unit.node.chip unit.node.side demand early ≡ Some words
      → HasValue d s demand.line n words
  early_value (Some came) early is =
      let answers = was.early demand came stands early in
      let same_place : answers.place ≡ n = same_Some answers.place n (sym answers.get ∙ waits) in
      subst (λ (ws : List ℕ). HasValue d s demand.line n ws) (same_Some came words is)
      (subst (λ (k : ℕ). HasValue d s demand.line k came) same_place answers.value)
  early_value None early is = by (is_getm demand.kind) is where
    by : (b : Bool) → cond {A = Option (List ℕ)} b (owned_words (lookup unit.node.chip unit.node.side.cache demand.line)) None ≡ Some words
        → HasValue d s demand.line n words
    by false x = none_some words x
    by true x =
        let owned = owned_here unit.node demand.line words (lookup unit.node.chip unit.node.side.cache demand.line) refl x in
        subst (λ (ws : List ℕ). HasValue d s demand.line n ws) owned.same
        (subst (λ (state : State). CopyHasValue d s unit.node demand.line owned.held state) owned.state (was.copies demand.line owned.held owned.there))

  none_since : between n after.node.delivered s.network.ordered ≡ []
  none_since = ap (λ (k : ℕ). between n k s.network.ordered) count ∙ between_none s.network.ordered n (slice_get_within s.network.ordered n q next)

  completion : Completion d s new t unit after
  completion =
      let fresh = ((unit_holds d s t unit e.before c.at).holds.node.fits.side.demand demand stands).unordered is_for.unordered in
      record {
        at_unit = c.at;
        demand = demand;
        stands = stands;
        place = n;
        get = q;
        at = next;
        source = source ∙ tile;
        kind = sym is_for.kind;
        line = sym is_for.line;
        waits = waits;
        latest = latest_within unit.node (λ x place there ordered. none_some place (sym (unordered x there) ∙ ordered));
        late = λ kind p settled. elim (cases_lt n p) [
          | inl beyond ↦ (let less = settled.delivered n q beyond next (sym is_for.line) (sym is_for.kind ∙ kind) source in absurd (omega (arith, less)))
          | inr within ↦ within
        ];
        reached = omega (arith, count);
        once = λ kind.
            fresh.1 ∙ sym (ap (λ (requests : List Request). list_any (λ (r : Request). is_getm r.kind) (gets_of_others t demand.line requests)) none_since);
        list = λ kind. fresh.0 ∙ sym (ap (λ (requests : List Request). waiting_for (up_to_getm (gets_of_others t demand.line requests))) none_since);
        alone = ap (filter (is_get_of t)) none_since;
        words = words;
        has = early_value demand.early refl here;
        side = ap (λ (x : Node). x.side) form;
        access = numbered unit (done_by demand.pending (n + 1) words) number;
        accesses = accesses;
        tile = tile;
        time = refl;
        address = refl;
        access_kind = refl;
        value = refl;
      }

  pub completes : CompletesBy d s new t unit after number
  unfolding completion
  completes = record { is = completion; same = refl }

  shared : (line : ℕ) → KeepsShared unit.node after.node line
  shared line = record {
    asks = λ is.
        absurd (both_ways (is_ordered_write line after.node.side.misses.demand)
        (ap (is_ordered_write line) (idle d s new e t unit after c completion turn)) is);
    free = λ is. shared_at_count unit.node line unordered;
  }

  other_copy : (m : ℕ) (held : Held) → m ≢ demand.line → lookup unit.node.chip unit.node.side.cache m ≡ Some held
      → lookup after.node.chip after.node.side.cache m ≡ Some held
      → CopyHasValue d new after.node m held held.state
  unfolding completion
  other_copy m held away stood there =
      copy_next d s new e t unit after c (completion_keeps d s new e t unit after c completion turn) count m held there (shared m)
      (λ only. value_elsewhere d s new t unit after e.before completion m (n + 1) (λ write same. absurd (away same))) (was.copies m held stood)

  back_value : (back : WriteBack) → after.node.side.misses.back ≡ Some back → back.live ≡ true → HasValue d new back.line after.node.delivered back.words
  unfolding completion
  back_value back there live =
      let stood = back_stood d s new e t unit after c completion turn back there in
      back_next d s new e t unit after c (completion_keeps d s new e t unit after c completion turn) count back there live
      (value_elsewhere d s new t unit after e.before completion back.line (n + 1) (λ write same.
      absurd (both_ways (demand.line == back.line) ((unit_holds d s t unit e.before c.at).holds.node.fits.side.apart demand back stands stood)
      (eq-eqb demand.line back.line (sym same)))))
      (was.back back stood live)

  queued : (i : ℕ) (msg : Msg)
      → slice_get (unit.node.out ++ (completed unit.node.chip demand n words unit.node.side).sends ++ (answered q unit.node.records).sends) i ≡ Some msg
      → MessageHasValue d s msg msg.kind ⊎ ((j : ℕ) × (slice_get (completed unit.node.chip demand n words unit.node.side).sends j ≡ Some msg))
  queued i msg at =
      elim (of_append (unit.node.out ++ (completed unit.node.chip demand n words unit.node.side).sends) (answered q unit.node.records).sends i msg at) [
        | inl ours ↦ elim (of_append unit.node.out (completed unit.node.chip demand n words unit.node.side).sends i msg ours) [
          | inl stood ↦ inl (was.out i msg stood)
          | inr sent ↦ inr sent
        ]
        | inr answered_is ↦ inl (home_sends d s t unit q answered_is.0 msg fits e.before c.at next was answered_is.1)
      ]

  own_completed : NodeHasValues d new after.node
  unfolding completion
  own_completed =
      completed_node d s new e t unit after c completion turn other_copy back_value
      (λ i msg there. queued i msg (ap (λ (x : Node). slice_get x.out i) (sym form) ∙ there))
      (λ m r there fresh.
      records_next d s new e t unit after c (completion_keeps d s new e t unit after c completion turn) count q next was
      (ap (λ (x : Node). x.records) form) m r there fresh)

  own_from : new.replies ≡ s.replies → ValuesHold d new
  own_from replies =
      values_on d s new e t unit after c (completion_keeps d s new e t unit after c completion turn) values own_completed
      (λ router port slot msg there. values.channels router port slot msg (ap (λ (net : Network Msg). stands_at net router port slot) (sym replies) ∙ there))

-- the delivery of a tile's own get that completes keeps all values
pub own_completed_values : (d : Doc) (s new : ChipState) → OrdersNothing d s new → ValuesHold d s → DocLaws d → AreSucceeding s.accesses
    → (t : ℕ) (unit after : UnitState)
    → ChangesUnit s new t unit after → (q : Request) → slice_get s.network.ordered unit.node.delivered ≡ Some q → q.source ≡ unit.node.tile
    → is_get q.kind ≡ true
    → (demand : Demand) → unit.node.side.misses.demand ≡ Some demand → IsRequestOf demand q
    → (words : List ℕ) → words_here unit.node.chip unit.node.side demand demand.early ≡ Some words → after.node ≡ (node_after_request q unit.node).0
    → (number : ℕ) → new.accesses ≡ s.accesses ++ numbered unit (done_by demand.pending (unit.node.delivered + 1) words) number ∷ []
    → new.replies ≡ s.replies → ValuesHold d new
own_completed_values d s new e values fits turn t unit after c q next source asks demand stands is_for words here node number accesses replies =
    own_from d s new e values fits t unit after c turn q next source asks demand stands is_for words here node number accesses replies
