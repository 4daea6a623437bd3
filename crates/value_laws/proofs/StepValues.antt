-- What an event that orders nothing and changes the unit of one tile leaves of the values of lines everywhere else.
use Rattle.std.proofs.Common.{◌≡◌, ◌≢◌, ℕ, true, refl, sym, ◌∙◌, ap, subst, inl, inr, Some, List}
use Rattle.std.specs.Prelude.{slice_get}
use Rattle.std.proofs.lemmas.Bool.{cases_eq}
use Rattle.std.proofs.lemmas.Option.{same_Some}
use Rattle.mesh_gen.specs.declared.request.Request.{Request}
use Rattle.mesh_gen.specs.declared.msg.Msg.{Msg}
use Rattle.mesh_gen.specs.declared.msg_kind.MsgKind.{MsgKind}
use Rattle.mesh_gen.specs.declared.msg_kind.MsgKind.TheVariants.{Data, Back}
use Rattle.vc_bank.specs.Places.{at as stands_at}
use Rattle.report_text.specs.declared.access.Access.{Access}
use Rattle.doc_text.specs.Doc.{Doc}
use Rattle.chip_model.specs.declared.line_state.State.{State}
use Rattle.chip_model.specs.declared.line_state.State.TheVariants.{M, O, S}
use Rattle.chip_model.specs.declared.owner.Owner.{Owner}
use Rattle.chip_model.specs.declared.owner.Owner.TheVariants.{Memory, Tile}
use Rattle.chip_model.specs.Cache.{Held, lookup}
use Rattle.chip_model.specs.Misses.{Demand}
use Rattle.chip_model.specs.Records.{LineRecord}
use Rattle.chip_model.specs.Node.{Node}
use Rattle.chip_model.specs.Units.{UnitState}
use Rattle.chip_model.specs.ChipState.{ChipState}
use Rattle.chip_model.specs.NodeShape.{is_modified}
use Rattle.chip_model.specs.Witness.{line_value}
use Rattle.chip_model.specs.Suppliers.{place_of_get, last_written_back, next_from, places_written_back}
use Rattle.chip_model.specs.Writers.{IsSettled, AllSettled, OthersSettled}
use Rattle.chip_model.specs.Values.{HasValue, HasOwnValue, CopyHasValue, place_of_shared, AnswersGet, MessageHasValue, RecordHasValue, NodeHasValues, ValuesHold}
use Rattle.chip_laws.specs.EventSteps.{ChangesUnit}
use Rattle.chip_laws.proofs.Options.{none_some}
use Rattle.chip_laws.proofs.SuppliedEvents.{unit_holds}
use Rattle.chip_laws.proofs.UnitFrames.{each_unit, other_unit}
use Rattle.supply_laws.specs.OpenGets.{WaitsFor}
use Rattle.supply_laws.proofs.Arrivals.{early_waits}
use Rattle.value_laws.proofs.SettledSteps.{OrdersNothing, still_at, settled_still, now, settled_on}

-- where the unit that changes had no write to come it has none, and the values there stay
pub record KeepsSettled (d : Doc) (s new : ChipState) (unit after : UnitState) : Type 0 where
  pub settled : (line place : ℕ) → IsSettled s.network.ordered unit.node line place → IsSettled new.network.ordered after.node line place
  pub value : (line place : ℕ) → IsSettled s.network.ordered unit.node line place → line_value d new.accesses line place ≡ line_value d s.accesses line place

-- a step that performs no access, and after which no copy is the only one that was not, keeps them
pub quiet_keeps : (d : Doc) (s new : ChipState) → OrdersNothing d s new → (t : ℕ) (unit after : UnitState) → ChangesUnit s new t unit after
    → new.accesses ≡ s.accesses
    → ((line : ℕ) → is_modified (lookup after.node.chip after.node.side.cache line) ≡ true
    → is_modified (lookup unit.node.chip unit.node.side.cache line) ≡ true)
    → KeepsSettled d s new unit after
quiet_keeps d s new e t unit after c accesses modified = record {
  settled = λ line place is. settled_on d s new e t unit after c line place (λ only. inl (modified line only)) is;
  value = λ line place is. ap (λ (xs : List Access). line_value d xs line place) accesses;
}

-- the place of the get for which a tile waits
pub waits_place : (s : ChipState) (u line : ℕ) (unit : UnitState) → slice_get s.units u ≡ Some unit → WaitsFor s u line
    → (place : ℕ) × (place_of_get s unit.node ≡ Some place)
waits_place s u line unit at waits =
    let same : waits.unit ≡ unit = same_Some waits.unit unit (sym waits.unit_at ∙ at) in
    (waits.place, ap (λ (x : UnitState). place_of_get s x.node) (sym same) ∙ waits.waits)

module _ (d : Doc) (s new : ChipState) (e : OrdersNothing d s new) (t : ℕ) (unit after : UnitState) (c : ChangesUnit s new t unit after)
    (keeps : KeepsSettled d s new unit after) where
  -- ---- values of lines at places
  all_settled : (line place : ℕ) → AllSettled s line place → AllSettled new line place
  all_settled line place is =
      each_unit (λ u x. IsSettled new.network.ordered x.node line place) s new t unit after c (keeps.settled line place (is t unit c.at))
      (λ u other away at. settled_still d s new e other.node line place (is u other at))

  pub value_on : (line place : ℕ) (words : List ℕ) → HasValue d s line place words → HasValue d new line place words
  value_on line place words has = record {
    value = has.value ∙ sym (keeps.value line place (has.settled t unit c.at));
    settled = all_settled line place has.settled;
  }

  others_settled : (u line place : ℕ) → u ≢ t → OthersSettled s line place u → OthersSettled new line place u
  others_settled u line place away is =
      each_unit (λ v x. v ≢ u → IsSettled new.network.ordered x.node line place) s new t unit after c
      (λ apart. keeps.settled line place (is t unit c.at apart))
      (λ v other far at apart. settled_still d s new e other.node line place (is v other at apart))

  -- the only copy of another tile
  pub own_value_on : (u line place : ℕ) (words : List ℕ) → u ≢ t → HasOwnValue d s u line place words → HasOwnValue d new u line place words
  own_value_on u line place words away has = record {
    value = has.value ∙ sym (keeps.value line place (has.settled t unit c.at (λ same. away (sym same))));
    settled = others_settled u line place away has.settled;
  }

  -- that of the tile itself, where the value stays
  pub itself_settled : (line place : ℕ) → OthersSettled s line place t → OthersSettled new line place t
  itself_settled line place is =
      each_unit (λ v x. v ≢ t → IsSettled new.network.ordered x.node line place) s new t unit after c
      (λ apart. absurd (apart refl))
      (λ v other far at apart. settled_still d s new e other.node line place (is v other at apart))

  pub itself_on : (line place : ℕ) (words : List ℕ) → line_value d new.accesses line place ≡ line_value d s.accesses line place
      → HasOwnValue d s t line place words
      → HasOwnValue d new t line place words
  itself_on line place words same has = record { value = has.value ∙ sym same; settled = itself_settled line place has.settled }

  -- a copy of the tile itself that stays, where its node has delivered no more
  pub itself_copy_on : (line : ℕ) (held : Held) (state : State) → after.node.delivered ≡ unit.node.delivered
      → place_of_shared after.node line ≡ place_of_shared unit.node line
      → (state ≡ M → line_value d new.accesses line unit.node.delivered ≡ line_value d s.accesses line unit.node.delivered)
      → CopyHasValue d s unit.node line held state → CopyHasValue d new after.node line held state
  itself_copy_on line held M count shared same has =
      let here : unit.node.tile ≡ t = (unit_holds d s t unit e.before c.at).holds.node.agrees.tile in
      let there : after.node.tile ≡ t = (unit_holds d new t after e.behind (now d s new e t unit after c)).holds.node.agrees.tile in
      subst (λ (u : ℕ). HasOwnValue d new u line after.node.delivered held.words) (sym there)
      (subst (λ (k : ℕ). HasOwnValue d new t line k held.words) (sym count)
      (itself_on line unit.node.delivered held.words (same refl) (subst (λ (u : ℕ). HasOwnValue d s u line unit.node.delivered held.words) here has)))
  itself_copy_on line held O count shared same has =
      subst (λ (k : ℕ). HasValue d new line k held.words) (sym count) (value_on line unit.node.delivered held.words has)
  itself_copy_on line held S count shared same has =
      subst (λ (k : ℕ). HasValue d new line k held.words) (sym shared) (value_on line (place_of_shared unit.node line) held.words has)

  -- a value of which the tile alone may have a write to come is one of which none has, where the tile has none
  pub with_itself : (line place : ℕ) (words : List ℕ) → IsSettled new.network.ordered after.node line place → HasOwnValue d new t line place words
      → HasValue d new line place words
  with_itself line place words settled has = record {
    value = has.value;
    settled = λ u other at. elim (cases_eq u t) [
      | inl same ↦ (
          let is : after ≡ other = same_Some after other (sym (now d s new e t unit after c) ∙ (ap (slice_get new.units) (sym same) ∙ at)) in
          subst (λ (x : UnitState). IsSettled new.network.ordered x.node line place) is settled)
      | inr away ↦ has.settled u other at away
    ];
  }

  -- ---- words that answer gets
  -- a tile that still waits for a get waits for the one for which it waited
  pub place_on : (u place : ℕ) (old other : UnitState) → slice_get s.units u ≡ Some old → slice_get new.units u ≡ Some other
      → (k : ℕ) × (place_of_get new other.node ≡ Some k)
      → place_of_get s old.node ≡ Some place → place_of_get new other.node ≡ Some place
  place_on u place old other was is waits get = elim (e.places.places u old other was is) [
    | inl same ↦ same ∙ get
    | inr ends ↦ none_some waits.0 (sym ends.0 ∙ waits.1)
  ]

  pub answers_on : (u line : ℕ) (old other : UnitState) (words : List ℕ) → slice_get s.units u ≡ Some old → slice_get new.units u ≡ Some other
      → (place : ℕ) × (place_of_get new other.node ≡ Some place) → AnswersGet d s old.node line words → AnswersGet d new other.node line words
  answers_on u line old other words was is waits has = record {
    place = has.place;
    request = has.request;
    get = place_on u has.place old other was is waits has.get;
    at = still_at d s new e has.place has.request has.at;
    line_is = has.line_is;
    value = value_on line has.place words has.value;
  }

  message_by : (msg : Msg) (kind : MsgKind) → (kind ≡ Data → WaitsFor new msg.to msg.line) → MessageHasValue d s msg kind → MessageHasValue d new msg kind
  message_by msg Data waits has = λ other is.
      let old = e.places.units msg.to other is in
      answers_on msg.to msg.line old.0 other msg.words old.1 is (waits_place new msg.to msg.line other is (waits refl)) (has old.0 old.1)
  message_by msg Back waits has = record {
    place = has.place;
    put = ap (last_written_back msg.line) e.places.order ∙ has.put;
    value = value_on msg.line has.place msg.words has.value;
  }

  -- a message on its way
  pub message_on : (msg : Msg) → (msg.kind ≡ Data → WaitsFor new msg.to msg.line) → MessageHasValue d s msg msg.kind → MessageHasValue d new msg msg.kind
  message_on msg waits has = message_by msg msg.kind waits has

  -- words that came early, of a demand that still stands
  pub early_on : (u : ℕ) (old other : UnitState) (demand : Demand) (words : List ℕ) → slice_get s.units u ≡ Some old → slice_get new.units u ≡ Some other
      → other.node.side.misses.demand ≡ Some demand → demand.early ≡ Some words → AnswersGet d s old.node demand.line words
      → AnswersGet d new other.node demand.line words
  early_on u old other demand words was is stands early has =
      answers_on u demand.line old other words was is
      (waits_place new u demand.line other is (early_waits d new u other demand words e.behind is stands early)) has

  -- ---- records
  pub record_on : (old node : Node) (line : ℕ) (r : LineRecord) (owner : Owner) → node.delivered ≡ old.delivered → RecordHasValue d s old line r owner
      → RecordHasValue d new node line r owner
  record_on old node line r Memory same has = subst (λ (n : ℕ). HasValue d new line n r.words) (sym same) (value_on line old.delivered r.words has)
  record_on old node line r (Tile owner) same has = λ place next.
      value_on line place r.words (has place (ap (λ (n : ℕ). next_from n (places_written_back line s.network.ordered)) (sym same)
      ∙ ap (λ (rs : List Request). next_from node.delivered (places_written_back line rs)) (sym e.places.order)
      ∙ next))

  -- ---- the node of another tile
  copy_on : (u : ℕ) (other : UnitState) (line : ℕ) (held : Held) (state : State) → u ≢ t → slice_get s.units u ≡ Some other
      → CopyHasValue d s other.node line held state → CopyHasValue d new other.node line held state
  copy_on u other line held M away at has =
      let tile : other.node.tile ≡ u = (unit_holds d s u other e.before at).holds.node.agrees.tile in
      own_value_on other.node.tile line other.node.delivered held.words (λ same. away (sym tile ∙ same)) has
  copy_on u other line held O away at has = value_on line other.node.delivered held.words has
  copy_on u other line held S away at has = value_on line (place_of_shared other.node line) held.words has

  other_on : (u : ℕ) (other : UnitState) → u ≢ t → slice_get s.units u ≡ Some other → NodeHasValues d s other.node → NodeHasValues d new other.node
  other_on u other away at has =
      let is : slice_get new.units u ≡ Some other = other_unit s new t u unit after c away ∙ at in
      record {
        copies = λ line held there. copy_on u other line held held.state away at (has.copies line held there);
        back = λ back stands live. value_on back.line other.node.delivered back.words (has.back back stands live);
        early = λ demand words stands early. early_on u other other demand words at is stands early (has.early demand words stands early);
        out = λ place msg there. message_on msg (λ kind. e.answers.queued u place other msg is there kind) (has.out place msg there);
        records = λ line r there fresh. record_on other.node other.node line r r.owner refl (has.records line r there fresh);
      }

  -- all values, where the node that changed has its own and no message came into a channel
  pub values_on : ValuesHold d s → NodeHasValues d new after.node
      → ((router port slot : ℕ) (msg : Msg) → stands_at new.replies router port slot ≡ Some msg → MessageHasValue d s msg msg.kind) → ValuesHold d new
  values_on values own stood = record {
    nodes = each_unit (λ u x. NodeHasValues d new x.node) s new t unit after c own (λ u other away at. other_on u other away at (values.nodes u other at));
    channels = λ router port slot msg there. message_on msg (λ kind. e.answers.carried router port slot msg there kind) (stood router port slot msg there);
  }
