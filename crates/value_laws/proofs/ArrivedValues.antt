-- Words come for a demand that is ordered: it completes, and all values stay.
use Rattle.std.proofs.Common.{◌≡◌, ◌≢◌, ℕ, ◌+◌, Bool, false, cond, refl, sym, ◌∙◌, ap, subst, arith, inl, inr, Option, Some, None, List, [], ◌∷◌, ◌++◌}
use Rattle.std.specs.Prelude.{◌&&◌, filter, is_some, slice_get, slice_index_or}
use Rattle.std.specs.List.{list_any}
use Rattle.std.proofs.lemmas.Bool.{ne_eqb}
use Rattle.std.proofs.lemmas.Option.{same_Some}
use Rattle.mesh_gen.specs.declared.request.Request.{Request}
use Rattle.mesh_gen.specs.declared.msg.Msg.{Msg}
use Rattle.vc_bank.specs.Places.{at as stands_at}
use Rattle.doc_text.specs.Doc.{Doc}
use Rattle.chip_model.specs.Cache.{Held, lookup}
use Rattle.chip_model.specs.Misses.{Demand, is_getm}
use Rattle.chip_model.specs.Snoop.{Outcome, completed, done_by, after_data, data_for, data_at}
use Rattle.chip_model.specs.Node.{Node, words_arrived}
use Rattle.chip_model.specs.Units.{UnitState}
use Rattle.chip_model.specs.ChipState.{ChipState}
use Rattle.chip_model.specs.BehaviourLaws.{numbered}
use Rattle.chip_model.specs.Bookkeeping.{is_get_of, between, gets_of_others, up_to_getm, waiting_for, IsOrderedAt, IsFollowed}
use Rattle.chip_model.specs.Suppliers.{place_of_ordered, place_of_get}
use Rattle.chip_model.specs.Writers.{is_ordered_write, time_of_place, time_of_demand, latest_time}
use Rattle.chip_model.specs.Values.{HasValue, CopyHasValue, place_of_demand, place_of_shared, AnswersGet, NodeHasValues, ValuesHold}
use Rattle.chip_laws.specs.EventSteps.{ChangesUnit}
use Rattle.chip_laws.proofs.SuppliedEvents.{unit_holds}
use Rattle.supply_laws.proofs.GetPlaces.{at_waits}
use Rattle.value_laws.specs.Sequences.{AreSucceeding}
use Rattle.value_laws.proofs.Completion.{Completion, CompletesBy, value_elsewhere}
use Rattle.value_laws.proofs.CompletedValues.{back_stood, shared_at, completion_keeps, completed_node}
use Rattle.value_laws.proofs.OwnDeliveries.{of_append}
use Rattle.value_laws.proofs.SettledSteps.{OrdersNothing}
use Rattle.value_laws.proofs.StepValues.{value_on, itself_copy_on, record_on, values_on}

-- the node after words came for its ordered demand
abbrev completed_as : Node → Outcome → Node
completed_as node outcome = record node { side = outcome.side; out = node.out ++ outcome.sends }

-- a demand asks to write no line but its own
pub other_write : (line : ℕ) (demand : Demand) → line ≢ demand.line → is_ordered_write line (Some demand) ≡ false
other_write line demand away =
    ap (λ (b : Bool). b && is_getm demand.kind && is_some demand.ordered) (ne_eqb demand.line line (λ same. away (sym same)))

module _ (d : Doc) (s new : ChipState) (e : OrdersNothing d s new) (values : ValuesHold d s) (t : ℕ) (unit after : UnitState)
    (c : ChangesUnit s new t unit after) (turn : AreSucceeding s.accesses)
    (line : ℕ) (words : List ℕ) (demand : Demand) (stands : unit.node.side.misses.demand ≡ Some demand) (place : ℕ) (ordered : demand.ordered ≡ Some place)
    (answers : AnswersGet d s unit.node line words) (node : after.node ≡ (words_arrived unit.node words).0)
    (number : ℕ) (accesses : new.accesses ≡ s.accesses ++ numbered unit (done_by demand.pending (place + 1) words) number ∷ []) where
  was : NodeHasValues d s unit.node
  was = values.nodes t unit c.at

  tile : unit.node.tile ≡ t
  tile = (unit_holds d s t unit e.before c.at).holds.node.agrees.tile

  form : after.node ≡ completed_as unit.node (completed unit.node.chip demand place words unit.node.side)
  unfolding after_data
  form =
      node
      ∙ ap (λ (o : Option Demand). completed_as unit.node (data_for unit.node.chip unit.node.side words o)) stands
      ∙ ap (λ (o : Option ℕ). completed_as unit.node (data_at unit.node.chip unit.node.side words demand o)) ordered

  count : after.node.delivered ≡ unit.node.delivered
  count = ap (λ (x : Node). x.delivered) form

  get : IsOrderedAt s.network.ordered unit.node demand place
  get = (unit_holds d s t unit e.before c.at).holds.node.agrees.demand demand place stands ordered

  followed : IsFollowed s.network.ordered unit.node demand place
  followed = (unit_holds d s t unit e.before c.at).holds.node.followed demand place stands ordered

  waits : place_of_get s unit.node ≡ Some place
  waits = at_waits s.network.ordered unit.node place (inl (ap place_of_ordered stands ∙ ordered))

  latest : latest_time unit.node ≡ place
  latest = ap (λ (o : Option Demand). time_of_demand o unit.node.delivered) stands ∙ ap (λ (o : Option ℕ). time_of_place o unit.node.delivered) ordered

  -- the words are those of its line at its place
  has : HasValue d s demand.line place words
  has =
      let same_place : answers.place ≡ place = same_Some answers.place place (sym answers.get ∙ waits) in
      let same : answers.request ≡ get.request =
      same_Some answers.request get.request (sym answers.at ∙ (ap (slice_get s.network.ordered) same_place ∙ get.at)) in
      let same_line : line ≡ demand.line = sym answers.line_is ∙ ap (λ (q : Request). q.line) same ∙ get.line in
      subst (λ (l : ℕ). HasValue d s l place words) same_line (subst (λ (k : ℕ). HasValue d s line k words) same_place answers.value)

  -- what was delivered since, at the new count
  between_is : between place unit.node.delivered s.network.ordered ≡ between place after.node.delivered s.network.ordered
  between_is = ap (λ (k : ℕ). between place k s.network.ordered) (sym count)

  others_are : gets_of_others unit.node.tile demand.line (between place unit.node.delivered s.network.ordered)
      ≡ gets_of_others t demand.line (between place after.node.delivered s.network.ordered)
  others_are =
      ap (λ (u : ℕ). gets_of_others u demand.line (between place unit.node.delivered s.network.ordered)) tile
      ∙ ap (gets_of_others t demand.line) between_is

  completion : Completion d s new t unit after
  completion = record {
    at_unit = c.at;
    demand = demand;
    stands = stands;
    place = place;
    get = get.request;
    at = get.at;
    source = get.source ∙ tile;
    kind = get.kind;
    line = get.line;
    waits = waits;
    latest = omega (arith, latest);
    late = λ kind p settled. settled.demand demand place stands ordered kind refl;
    reached = omega (arith, count, get.before);
    once = λ kind. followed.once kind ∙ ap (list_any (λ (q : Request). is_getm q.kind)) others_are;
    list = λ kind. followed.list kind ∙ ap (λ (requests : List Request). waiting_for (up_to_getm requests)) others_are;
    alone =
        sym (ap (λ (u : ℕ). filter (is_get_of u) (between place unit.node.delivered s.network.ordered)) tile ∙ ap (filter (is_get_of t)) between_is)
        ∙ get.alone;
    words = words;
    has = has;
    side = ap (λ (x : Node). x.side) form;
    access = numbered unit (done_by demand.pending (place + 1) words) number;
    accesses = accesses;
    tile = tile;
    time = refl;
    address = refl;
    access_kind = refl;
    value = refl;
  }

  pub completes : CompletesBy d s new t unit after number
  unfolding completion
  completes = record { is = completion; same = refl }

  other_copy : (m : ℕ) (held : Held) → m ≢ demand.line → lookup unit.node.chip unit.node.side.cache m ≡ Some held
      → lookup after.node.chip after.node.side.cache m ≡ Some held
      → CopyHasValue d new after.node m held held.state
  unfolding completion
  other_copy m held away stood there =
      let free : place_of_shared unit.node m ≡ unit.node.delivered =
      ap (λ (o : Option Demand). cond (is_ordered_write m o) (place_of_demand o unit.node.delivered) unit.node.delivered) stands
      ∙ ap (λ (b : Bool). cond b (place_of_demand (Some demand) unit.node.delivered) unit.node.delivered) (other_write m demand away) in
      itself_copy_on d s new e t unit after c (completion_keeps d s new e t unit after c completion turn) m held held.state count
      (shared_at d s new e t unit after c completion turn m ∙ count ∙ sym free)
      (λ only. value_elsewhere d s new t unit after e.before completion m unit.node.delivered (λ write same. absurd (away same)))
      (was.copies m held stood)

  arrived_node : NodeHasValues d new after.node
  unfolding completion
  arrived_node =
      completed_node d s new e t unit after c completion turn other_copy
      (λ back there live.
      subst (λ (k : ℕ). HasValue d new back.line k back.words) (sym count)
      (value_on d s new e t unit after c (completion_keeps d s new e t unit after c completion turn) back.line unit.node.delivered back.words
      (was.back back (back_stood d s new e t unit after c completion turn back there) live)))
      (λ i msg there. elim (of_append unit.node.out (completed unit.node.chip demand place words unit.node.side).sends i msg
      (ap (λ (x : Node). slice_get x.out i) (sym form) ∙ there)) [
        | inl queued ↦ inl (was.out i msg queued)
        | inr sent ↦ inr sent
      ])
      (λ m r there fresh.
      record_on d s new e t unit after c (completion_keeps d s new e t unit after c completion turn) unit.node after.node m r r.owner count
      (was.records m r (ap (λ (x : Node). slice_index_or x.records m None) (sym form) ∙ there) fresh))

  arrived_from : ((router port slot : ℕ) (msg : Msg) → stands_at new.replies router port slot ≡ Some msg → stands_at s.replies router port slot ≡ Some msg)
      → ValuesHold d new
  arrived_from left =
      values_on d s new e t unit after c (completion_keeps d s new e t unit after c completion turn) values arrived_node
      (λ router port slot msg there. values.channels router port slot msg (left router port slot msg there))

-- words that come for an ordered demand keep all values
pub arrived_values : (d : Doc) (s new : ChipState) → OrdersNothing d s new → ValuesHold d s → AreSucceeding s.accesses → (t : ℕ) (unit after : UnitState)
    → ChangesUnit s new t unit after
    → (line : ℕ) (words : List ℕ) → AnswersGet d s unit.node line words
    → (demand : Demand) (place : ℕ) → unit.node.side.misses.demand ≡ Some demand → demand.ordered ≡ Some place
    → after.node ≡ (words_arrived unit.node words).0
    → (number : ℕ) → new.accesses ≡ s.accesses ++ numbered unit (done_by demand.pending (place + 1) words) number ∷ []
    → ((router port slot : ℕ) (msg : Msg) → stands_at new.replies router port slot ≡ Some msg → stands_at s.replies router port slot ≡ Some msg)
    → ValuesHold d new
arrived_values d s new e values turn t unit after c line words answers demand place stands ordered node number accesses left =
    arrived_from d s new e values t unit after c turn line words demand stands place ordered answers node number accesses left
