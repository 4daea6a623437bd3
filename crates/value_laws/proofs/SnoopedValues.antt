-- A tile delivers the request of another tile: its copies keep their values, and the words that it sends answer the request.
use Rattle.std.proofs.Common.{◌≡◌, ◌≢◌, ℕ, ◌+◌, Bool, true, false, cond, ◌==◌, Some, List, ◌++◌, take, is_some, sym, ap, ◌∙◌, refl, subst, inl, inr, ◌⊎◌, arith}
use Rattle.std.specs.Prelude.{slice_get, not, ◌||◌}
use Rattle.std.proofs.lemmas.Bool.{false≢true, true≢false}
use Rattle.std.proofs.lemmas.Bool.Decides.{nat_tests}
use Rattle.mesh_gen.specs.declared.request.Request.{Request}
use Rattle.mesh_gen.specs.declared.kind.Kind.TheVariants.{GetS}
use Rattle.mesh_gen.specs.declared.msg.Msg.{Msg}
use Rattle.mesh_gen.specs.declared.msg_kind.MsgKind.TheVariants.{Data}
use Rattle.vc_bank.specs.Places.{Network, at as stands_at}
use Rattle.report_text.specs.declared.access.Access.{Access}
use Rattle.doc_text.specs.Doc.{Doc}
use Rattle.chip_model.specs.declared.line_state.State.{State}
use Rattle.chip_model.specs.declared.line_state.State.TheVariants.{M, O, S}
use Rattle.chip_model.specs.declared.owner.Owner.TheVariants.{Memory, Tile}
use Rattle.chip_model.specs.Chip.{Chip, chip_of}
use Rattle.chip_model.specs.Cache.{Held, is_shared, lookup}
use Rattle.chip_model.specs.Misses.{Demand}
use Rattle.chip_model.specs.Snoop.{CacheSide, Outcome, holding, snooped_with, data_to, own_request, after_snoop}
use Rattle.chip_model.specs.Records.{answered}
use Rattle.chip_model.specs.Node.{Node, node_after_request}
use Rattle.chip_model.specs.Units.{UnitState}
use Rattle.chip_model.specs.ChipState.{ChipState}
use Rattle.chip_model.specs.NodeShape.{SideFits, is_modified}
use Rattle.chip_model.specs.Ownership.{owner, owns, writer, is_owned_copy, is_live_back, is_open_write}
use Rattle.chip_model.specs.Bookkeeping.{is_get}
use Rattle.chip_model.specs.Suppliers.{supplier}
use Rattle.chip_model.specs.Witness.{line_value}
use Rattle.chip_model.specs.Writers.{is_ordered_write, IsSettled}
use Rattle.chip_model.specs.Values.{HasValue, HasOwnValue, CopyHasValue, place_of_demand, AnswersGet, MessageHasValue, NodeHasValues, ValuesHold}
use Rattle.chip_laws.specs.EventSteps.{ChangesUnit}
use Rattle.chip_laws.specs.DocLaws.{DocLaws}
use Rattle.chip_laws.proofs.OwnerFolds.{writer_of_kind}
use Rattle.chip_laws.proofs.SuppliedEvents.{unit_holds}
use Rattle.chip_laws.proofs.UnitFrames.{other_unit}
use Rattle.supply_laws.proofs.OwnerGets.{is_owner}
use Rattle.supply_laws.proofs.GetPlaces.{open_place}
use Rattle.value_laws.proofs.Passing.{value_passes}
use Rattle.value_laws.proofs.SettledSteps.{OrdersNothing, still_at, now}
use Rattle.value_laws.proofs.StepValues.{KeepsSettled, quiet_keeps, value_on, itself_on, with_itself, message_on, early_on, values_on}
use Rattle.value_laws.proofs.NextValues.{KeepsShared, same_shared, copy_next, back_next, back_owned}
use Rattle.value_laws.proofs.AnsweredValues.{records_next, supplied_open, home_sends}
use Rattle.value_laws.proofs.OwnDeliveries.{delivered_node, of_append}
use Rattle.value_laws.proofs.Snooping.{DemandStays, BecomesOwned, OfCopy, OfBack, Snooped, snooped_side}
use Rattle.value_laws.proofs.CleanSteps.{snooped_clean}

-- the node after its cache side met the request of another tile
pub other_node : (q : Request) (node : Node) → q.source ≢ node.tile
    → (node_after_request q node).0 ≡ delivered_node q node (snooped_with node.chip q node.side (holding node.chip node.side q.line) q.kind)
unfolding node_after_request after_snoop
other_node q node away =
    let test : (q.source == node.tile) ≡ false = grind (arith, nat_tests) in
    ap (λ (b : Bool). delivered_node q node (cond b (own_request node.chip node.side node.delivered q.kind) (snooped_with node.chip q node.side
    (holding node.chip node.side q.line) q.kind))) test

-- a line with an owned copy is owned
copy_owned : (chip : Chip) (side : CacheSide) (line : ℕ) → is_owned_copy (lookup chip side.cache line) ≡ true → owns chip side line ≡ true
unfolding owns
copy_owned chip side line is = ap (λ (b : Bool). b || is_live_back line side.misses.back || is_open_write line side.misses.demand) is

-- where a copy in S has its value does not change with a demand that stays
stays_shared : (old node : Node) (line : ℕ) → DemandStays old.side.misses.demand node.side.misses.demand → KeepsShared old node line
stays_shared old node line stays =
    let same = same_shared old (record node { side = record node.side { misses = record node.side.misses { demand = old.side.misses.demand } } }) line refl in
    record {
      asks = λ is.
          ap (λ (b : Bool). cond b (place_of_demand node.side.misses.demand node.delivered) node.delivered) (stays.writes line)
          ∙ ap (λ (k : ℕ). cond (is_ordered_write line old.side.misses.demand) k node.delivered) (stays.place node.delivered)
          ∙ same.asks (sym (stays.writes line) ∙ is);
      free = λ is. same.free (sym (stays.writes line) ∙ is);
    }

-- a copy that the node owns has its value, for the tile itself
owned_value : (d : Doc) (s : ChipState) (node : Node) (line : ℕ) (held : Held) (state : State) → is_shared state ≡ false → CopyHasValue d s node line held state
    → HasOwnValue d s node.tile line node.delivered held.words
owned_value d s node line held M owned has = has
owned_value d s node line held O owned has = record { value = has.value; settled = λ u other at away. has.settled u other at }
owned_value d s node line held S owned has = absurd (true≢false owned)

module _ (d : Doc) (s new : ChipState) (e : OrdersNothing d s new) (values : ValuesHold d s) (fits : DocLaws d) (t : ℕ) (unit after : UnitState)
    (c : ChangesUnit s new t unit after)
    (accesses : new.accesses ≡ s.accesses) (q : Request) (next : slice_get s.network.ordered unit.node.delivered ≡ Some q) (away : q.source ≢ unit.node.tile)
    (node : after.node ≡ (node_after_request q unit.node).0) where
  abbrev n : ℕ
  n = unit.node.delivered

  abbrev outcome : Outcome
  outcome = snooped_with unit.node.chip q unit.node.side (holding unit.node.chip unit.node.side q.line) q.kind

  was : NodeHasValues d s unit.node
  was = values.nodes t unit c.at

  here : unit.node.tile ≡ t
  here = (unit_holds d s t unit e.before c.at).holds.node.agrees.tile

  side : SideFits unit.node.chip unit.node.side
  side = (unit_holds d s t unit e.before c.at).holds.node.fits.side

  form : after.node ≡ delivered_node q unit.node outcome
  form = node ∙ other_node q unit.node away

  count : after.node.delivered ≡ unit.node.delivered + 1
  count = ap (λ (x : Node). x.delivered) form

  met : Snooped unit.node.chip unit.node.side q outcome
  met = snooped_side unit.node.chip unit.node.side q

  demand_stays : DemandStays unit.node.side.misses.demand after.node.side.misses.demand
  demand_stays = subst (λ (x : Node). DemandStays unit.node.side.misses.demand x.side.misses.demand) (sym form) met.demand

  copy_from : (line : ℕ) (held : Held) → lookup after.node.chip after.node.side.cache line ≡ Some held
      → (lookup unit.node.chip unit.node.side.cache line ≡ Some held) ⊎ BecomesOwned unit.node.chip unit.node.side q line held
  copy_from line held there = met.copies line held (ap (λ (x : Node). lookup x.chip x.side.cache line) (sym form) ∙ there)

  unmodified : (line : ℕ) → is_modified (lookup after.node.chip after.node.side.cache line) ≡ true
      → is_modified (lookup unit.node.chip unit.node.side.cache line) ≡ true
  unmodified line only =
      snooped_clean unit.node.chip unit.node.side q line
      (ap (λ (x : Node). is_modified (lookup x.chip x.side.cache line)) (sym form) ∙ only)

  keeps : KeepsSettled d s new unit after
  keeps = quiet_keeps d s new e t unit after c accesses unmodified

  same_value : (line : ℕ) → line_value d new.accesses line (unit.node.delivered + 1) ≡ line_value d s.accesses line (unit.node.delivered + 1)
  same_value line = ap (λ (xs : List Access). line_value d xs line (unit.node.delivered + 1)) accesses

  -- ---- the words of an owned copy that the request met

  -- the node does not wait to write a line of which it has an owned copy
  none_waits : (held : Held) → lookup unit.node.chip unit.node.side.cache q.line ≡ Some held → is_shared held.state ≡ false
      → (demand : Demand) (g : ℕ) → unit.node.side.misses.demand ≡ Some demand → demand.ordered ≡ Some g → demand.line ≡ q.line → ⊥
  none_waits held there owned demand g stands is same =
      let unowned = (side.demand demand stands).unowned (ap is_some is) in
      let held_is : is_owned_copy (lookup unit.node.chip unit.node.side.cache demand.line) ≡ not (is_shared held.state) =
      ap is_owned_copy (ap (lookup unit.node.chip unit.node.side.cache) same ∙ there) in
      true≢false (sym (held_is ∙ ap not owned) ∙ unowned)

  settled_here : (held : Held) → lookup unit.node.chip unit.node.side.cache q.line ≡ Some held → is_shared held.state ≡ false
      → is_modified (lookup after.node.chip after.node.side.cache q.line) ≡ false → IsSettled new.network.ordered after.node q.line unit.node.delivered
  settled_here held there owned clean = record {
    delivered = λ g r less at same kind source. omega (arith, less, count);
    demand = λ demand g stands ordered kind same.
        let stood = demand_stays.stood demand stands in
        absurd (none_waits held there owned stood.was g stood.stood (stood.ordered ∙ ordered) (stood.line ∙ same));
    modified = λ only. absurd (false≢true (sym clean ∙ only));
  }

  copy_words : (held : Held) → lookup unit.node.chip unit.node.side.cache q.line ≡ Some held → is_shared held.state ≡ false
      → is_modified (lookup after.node.chip after.node.side.cache q.line) ≡ false → HasValue d new q.line unit.node.delivered held.words
  copy_words held there owned clean =
      let own = subst (λ (u : ℕ). HasOwnValue d s u q.line unit.node.delivered held.words) here
      (owned_value d s unit.node q.line held held.state owned (was.copies q.line held there)) in
      with_itself d s new e t unit after c keeps q.line unit.node.delivered held.words (settled_here held there owned clean)
      (itself_on d s new e t unit after c keeps q.line unit.node.delivered held.words
      (ap (λ (xs : List Access). line_value d xs q.line unit.node.delivered) accesses) own)

  -- ---- copies

  owned_copy : (line : ℕ) (held : Held) → lookup after.node.chip after.node.side.cache line ≡ Some held → BecomesOwned unit.node.chip unit.node.side q line held
      → CopyHasValue d new after.node line held held.state
  owned_copy line held there owned =
      let clean : is_modified (lookup after.node.chip after.node.side.cache q.line) ≡ false =
      ap (λ (l : ℕ). is_modified (lookup after.node.chip after.node.side.cache l)) owned.same ∙ ap is_modified there
      ∙ ap (λ (x : State). is_modified (Some (record held { state = x }))) owned.state in
      let none : writer line (take (unit.node.delivered + 1) new.network.ordered) ≡ Memory =
      writer_of_kind line unit.node.delivered new.network.ordered q GetS (still_at d s new e unit.node.delivered q next) owned.kind owned.same in
      let value = subst (λ (l : ℕ). HasValue d new l unit.node.delivered owned.was.words) owned.same (copy_words owned.was owned.at owned.owned clean) in
      subst (λ (x : State). CopyHasValue d new after.node line held x) (sym owned.state)
      (subst (λ (words : List ℕ). HasValue d new line after.node.delivered words) (sym owned.words)
      (subst (λ (k : ℕ). HasValue d new line k owned.was.words) (sym count) (value_passes d new line unit.node.delivered owned.was.words e.behind none value)))

  copies_hold : (line : ℕ) (held : Held) → lookup after.node.chip after.node.side.cache line ≡ Some held → CopyHasValue d new after.node line held held.state
  copies_hold line held there = elim (copy_from line held there) [
    | inl stood ↦
        copy_next d s new e t unit after c keeps count line held there (stays_shared unit.node after.node line demand_stays) (λ only. same_value line)
        (was.copies line held stood)
    | inr owned ↦ owned_copy line held there owned
  ]

  -- ---- what is sent

  -- the get of the tile that asked is the one that was delivered
  open_now : (other : UnitState) → slice_get new.units q.source ≡ Some other → is_get q.kind ≡ true
      → supplier (chip_of d) q.line (owner q.line (take unit.node.delivered s.network.ordered)) ≡ t
      → open_place new.network.ordered other.node ≡ Some unit.node.delivered
  open_now other is asks supplies =
      let before : slice_get s.units q.source ≡ Some other = sym (other_unit s new t q.source unit after c (λ same. away (same ∙ sym here))) ∙ is in
      ap (λ (rs : List Request). open_place rs other.node) e.places.order ∙ supplied_open d s t unit q e.before c.at next asks supplies other before

  answers : (words : List ℕ) → is_get q.kind ≡ true → owner q.line (take unit.node.delivered s.network.ordered) ≡ Tile t
      → HasValue d new q.line unit.node.delivered words
      → MessageHasValue d new (data_to q.source q.line words) Data
  answers words asks owned value other is = record {
    place = unit.node.delivered;
    request = q;
    get = open_now other is asks (ap (supplier (chip_of d) q.line) owned);
    at = still_at d s new e unit.node.delivered q next;
    line_is = refl;
    value = value;
  }

  owner_is : (line : ℕ) → owns unit.node.chip unit.node.side line ≡ true → owner line (take unit.node.delivered s.network.ordered) ≡ Tile t
  owner_is line owned =
      is_owner unit.node.tile (owner line (take unit.node.delivered s.network.ordered))
      (sym ((unit_holds d s t unit e.before c.at).holds.serves.owns.lines line) ∙ owned) ∙ ap Tile here

  words_sent : (words : List ℕ) → is_get q.kind ≡ true
      → OfCopy unit.node.chip unit.node.side outcome.side.cache q.line words ⊎ OfBack unit.node.side q.line words
      → MessageHasValue d new (data_to q.source q.line words) Data
  words_sent words asks (inl copy) =
      let clean = ap (λ (x : Node). is_modified (lookup x.chip x.side.cache q.line)) form ∙ copy.clean in
      let owned = copy_owned unit.node.chip unit.node.side q.line (ap is_owned_copy copy.at ∙ ap not copy.owned) in
      answers words asks (owner_is q.line owned) (subst (HasValue d new q.line unit.node.delivered) copy.is (copy_words copy.held copy.at copy.owned clean))
  words_sent words asks (inr back) =
      let owned = subst (λ (l : ℕ). owns unit.node.chip unit.node.side l ≡ true) back.same
      (back_owned unit.node.chip unit.node.side back.back back.stands back.live) in
      let value = subst (λ (l : ℕ). HasValue d s l unit.node.delivered back.back.words) back.same (was.back back.back back.stands back.live) in
      answers words asks (owner_is q.line owned)
      (subst (HasValue d new q.line unit.node.delivered) back.is (value_on d s new e t unit after c keeps q.line unit.node.delivered back.back.words value))

  outcome_sent : (i : ℕ) (msg : Msg) → slice_get outcome.sends i ≡ Some msg → MessageHasValue d new msg msg.kind
  outcome_sent i msg at =
      let sends = met.sends i msg at in
      subst (λ (m : Msg). MessageHasValue d new m m.kind) (sym sends.is) (words_sent sends.words sends.asks sends.of)

  stood_sent : (place : ℕ) (msg : Msg) → slice_get after.node.out place ≡ Some msg → MessageHasValue d s msg msg.kind → MessageHasValue d new msg msg.kind
  stood_sent place msg there has =
      message_on d s new e t unit after c keeps msg (λ is_data. e.answers.queued t place after msg (now d s new e t unit after c) there is_data) has

  out_holds : (place : ℕ) (msg : Msg) → slice_get after.node.out place ≡ Some msg → MessageHasValue d new msg msg.kind
  out_holds place msg there = elim (of_append (unit.node.out ++ outcome.sends) (answered q unit.node.records).sends place msg (ap (λ
      (x : Node). slice_get x.out place) (sym form) ∙ there)) [
        | inl ours ↦ elim (of_append unit.node.out outcome.sends place msg ours) [
          | inl queued ↦ stood_sent place msg there (was.out place msg queued)
          | inr sent ↦ outcome_sent sent.0 msg sent.1
        ]
        | inr home ↦ stood_sent place msg there (home_sends d s t unit q home.0 msg fits e.before c.at next was home.1)
      ]

  -- ---- all of it

  node_values : NodeHasValues d new after.node
  node_values = record {
    copies = copies_hold;
    back = λ back there live.
        back_next d s new e t unit after c keeps count back there live (same_value back.line)
        (was.back back (met.back back (ap (λ (x : Node). x.side.misses.back) (sym form) ∙ there) live) live);
    early = λ demand words there early.
        let stood = demand_stays.stood demand there in
        early_on d s new e t unit after c keeps t unit after demand words c.at (now d s new e t unit after c) there early
        (subst (λ (l : ℕ). AnswersGet d s unit.node l words) stood.line (was.early stood.was words stood.stood (stood.early ∙ early)));
    out = out_holds;
    records = λ line r there fresh. records_next d s new e t unit after c keeps count q next was (ap (λ (x : Node). x.records) form) line r there fresh;
  }

  other_values : new.replies ≡ s.replies → ValuesHold d new
  other_values replies =
      values_on d s new e t unit after c keeps values node_values
      (λ router port slot msg there. values.channels router port slot msg (ap (λ (net : Network Msg). stands_at net router port slot) (sym replies) ∙ there))

-- the delivery of another tile's request keeps all values
pub other_request_values : (d : Doc) (s new : ChipState) → OrdersNothing d s new → ValuesHold d s → DocLaws d → (t : ℕ) (unit after : UnitState)
    → ChangesUnit s new t unit after
    → (q : Request) → slice_get s.network.ordered unit.node.delivered ≡ Some q → q.source ≢ unit.node.tile
    → after.node ≡ (node_after_request q unit.node).0 → new.accesses ≡ s.accesses → new.replies ≡ s.replies → ValuesHold d new
other_request_values d s new e values fits t unit after c q next away node accesses replies =
    other_values d s new e values fits t unit after c accesses q next away node replies
