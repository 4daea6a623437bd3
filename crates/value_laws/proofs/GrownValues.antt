-- The order grows by the requests of a window: all values stay at the places that there were.
use Rattle.std.proofs.Common.{◌≡◌, ℕ, ◌<◌, ◌≤◌, Bool, true, false, cond, ◌==◌, ◌&&◌, Option, Some, None, List, ◌++◌, length, refl, sym, ◌∙◌, ap, subst, inl, inr, eq-eqb, arith}
use Rattle.std.specs.Prelude.{slice_get, slice_index_or, count_by}
use Rattle.std.proofs.lemmas.Bool.{false≢true, false_from_ne_true, cases_lt}
use Rattle.std.proofs.lemmas.List.{length-append}
use Rattle.std.proofs.lemmas.Option.{same_Some, slice_get_within}
use Rattle.mesh_gen.specs.Ports.{count_if}
use Rattle.mesh_gen.specs.declared.request.Request.{Request}
use Rattle.mesh_gen.specs.declared.msg.Msg.{Msg}
use Rattle.mesh_gen.specs.declared.msg_kind.MsgKind.{MsgKind}
use Rattle.mesh_gen.specs.declared.msg_kind.MsgKind.TheVariants.{Data, Back}
use Rattle.vc_bank.specs.Places.{Network, at as stands_at}
use Rattle.vc_bank.proofs.PlaceLaws.{weigh_at}
use Rattle.report_text.specs.declared.access.Access.{Access}
use Rattle.doc_text.specs.Doc.{Doc}
use Rattle.chip_model.specs.declared.line_state.State.{State}
use Rattle.chip_model.specs.declared.line_state.State.TheVariants.{M, O, S}
use Rattle.chip_model.specs.declared.owner.Owner.{Owner}
use Rattle.chip_model.specs.declared.owner.Owner.TheVariants.{Memory, Tile}
use Rattle.chip_model.specs.Chip.{chip_of}
use Rattle.chip_model.specs.OrderedNetwork.{after_network_tick}
use Rattle.chip_model.specs.Cache.{Held}
use Rattle.chip_model.specs.Misses.{Demand}
use Rattle.chip_model.specs.Records.{LineRecord}
use Rattle.chip_model.specs.Node.{Node, is_back}
use Rattle.chip_model.specs.Units.{UnitState}
use Rattle.chip_model.specs.ChipState.{ChipState}
use Rattle.chip_model.specs.Witness.{line_value}
use Rattle.chip_model.specs.Suppliers.{place_of_get, is_back_for, last_written_back, next_from, next_written_back, places_written_back, writes_back, has_come, is_fresh_by}
use Rattle.chip_model.specs.Writers.{IsSettled, is_ordered_write, time_of_place}
use Rattle.chip_model.specs.Values.{HasValue, HasOwnValue, CopyHasValue, place_of_demand, place_of_shared, AnswersGet, MessageHasValue, RecordHasValue, NodeHasValues, ValuesHold}
use Rattle.chip_model.specs.ChipInvariant.{ProtocolHolds}
use Rattle.net_iface.proofs.Named.{slice_get-append_left, slice_get_grown}
use Rattle.chip_laws.specs.DocLaws.{DocLaws}
use Rattle.chip_laws.specs.EventSteps.{ChangesNetwork}
use Rattle.chip_laws.proofs.Options.{none_some}
use Rattle.chip_laws.proofs.OrderFrames.{KnownOf, known_of}
use Rattle.chip_laws.proofs.RequestsInside.{tile_of}
use Rattle.chip_laws.proofs.SuppliedEvents.{unit_holds, delivered_within}
use Rattle.chip_laws.proofs.SupplyRoom.{sum_by-part}
use Rattle.supply_laws.proofs.GetPlaces.{open_place, one_counts}
use Rattle.supply_laws.proofs.GrownPlaces.{grown_place}
use Rattle.supply_laws.proofs.LastPlaces.{LastIs, NextIs, last_unique, next_unique}
use Rattle.supply_laws.proofs.NewWriteBacks.{OrdersMore, none_while_due}
use Rattle.supply_laws.proofs.Ticked.{ticked, ticked_network}
use Rattle.supply_laws.proofs.WordsDue.{due}
use Rattle.supply_laws.proofs.WriteBackPlaces.{last_of_all, next_after, writes_back_grown}

-- ---- words that are on their way are due

back_for : (msg : Msg) → msg.kind ≡ Back → is_back_for msg.line msg ≡ true
back_for msg kind = ap (λ (k : MsgKind). is_back k && (msg.line == msg.line)) kind ∙ eq-eqb msg.line msg.line refl

queued_due : (s : ChipState) (u place : ℕ) (unit : UnitState) (msg : Msg) → slice_get s.units u ≡ Some unit → slice_get unit.node.out place ≡ Some msg
    → msg.kind ≡ Back
    → 0 < due s msg.line
queued_due s u place unit msg at there kind =
    let one = one_counts (is_back_for msg.line) unit.node.out place msg there (back_for msg kind) in
    let part = sum_by-part (λ (x : UnitState). count_by (is_back_for msg.line) x.node.out) s.units u unit at in
    omega (arith, one, part)

pub carried_due : (s : ChipState) (router port slot : ℕ) (msg : Msg) → stands_at s.replies router port slot ≡ Some msg → msg.kind ≡ Back → 0 < due s msg.line
carried_due s router port slot msg there kind =
    let one : count_if (is_back_for msg.line msg) ≡ 1 = ap count_if (back_for msg kind) in
    let sum = weigh_at (λ r p i m. count_if (is_back_for msg.line m)) s.replies router port slot msg there in
    omega (arith, one, sum)

-- ---- who may still write

pub settled_grown : (ordered more : List Request) (node : Node) (line place : ℕ) → place ≤ length ordered → IsSettled ordered node line place
    → IsSettled (ordered ++ more) node line place
settled_grown ordered more node line place within settled = record {
  delivered = λ g q less at same kind source.
      settled.delivered g q less (sym (slice_get-append_left ordered more g (omega (arith, less, within))) ∙ at) same kind source;
  demand = settled.demand;
  modified = settled.modified;
}

-- a copy in S has its value at the count at the latest
shared_within : (ordered : List Request) (node : Node) (line : ℕ) → KnownOf ordered node → place_of_shared node line ≤ node.delivered
shared_within ordered node line known = by (is_ordered_write line node.side.misses.demand) node.side.misses.demand refl where
  at : (demand : Demand) (place : Option ℕ) → node.side.misses.demand ≡ Some demand → demand.ordered ≡ place
      → time_of_place place node.delivered ≤ node.delivered
  at demand None stands is = omega arith
  at demand (Some place) stands is = let less = (known.demand demand place stands is).before in omega (arith, less)

  by : (b : Bool) (entry : Option Demand) → node.side.misses.demand ≡ entry → cond b (place_of_demand entry node.delivered) node.delivered ≤ node.delivered
  by false entry stands = omega arith
  by true None stands = omega arith
  by true (Some demand) stands = at demand demand.ordered stands refl

-- ---- the chip

-- the order grows, and nothing else changes
pub record GrowsAlone (d : Doc) (s new : ChipState) (more : List Request) : Type 0 where
  pub before : ProtocolHolds d s
  pub orders : OrdersMore d s new more
  pub units : new.units ≡ s.units
  pub accesses : new.accesses ≡ s.accesses
  pub replies : new.replies ≡ s.replies

module _ (d : Doc) (s new : ChipState) (more : List Request) (g : GrowsAlone d s new more) (values : ValuesHold d s) where
  order : new.network.ordered ≡ s.network.ordered ++ more
  order = g.orders.grows.order

  unit_before : (u : ℕ) (unit : UnitState) → slice_get new.units u ≡ Some unit → slice_get s.units u ≡ Some unit
  unit_before u unit at = ap (λ (us : List UnitState). slice_get us u) (sym g.units) ∙ at

  within : (u : ℕ) (unit : UnitState) → slice_get s.units u ≡ Some unit → unit.node.delivered ≤ length s.network.ordered
  within u unit at = (known_of d s g.before u unit at).within

  same_settled : (node : Node) (line place : ℕ) → place ≤ length s.network.ordered → IsSettled s.network.ordered node line place
      → IsSettled new.network.ordered node line place
  same_settled node line place less is =
      subst (λ (rs : List Request). IsSettled rs node line place) (sym order) (settled_grown s.network.ordered more node line place less is)

  same_value : (line place : ℕ) → line_value d s.accesses line place ≡ line_value d new.accesses line place
  same_value line place = ap (λ (xs : List Access). line_value d xs line place) (sym g.accesses)

  value_stays : (line place : ℕ) (words : List ℕ) → place ≤ length s.network.ordered → HasValue d s line place words → HasValue d new line place words
  value_stays line place words less has = record {
    value = has.value ∙ same_value line place;
    settled = λ u other at. same_settled other.node line place less (has.settled u other (unit_before u other at));
  }

  own_stays : (tile line place : ℕ) (words : List ℕ) → place ≤ length s.network.ordered → HasOwnValue d s tile line place words
      → HasOwnValue d new tile line place words
  own_stays tile line place words less has = record {
    value = has.value ∙ same_value line place;
    settled = λ u other at away. same_settled other.node line place less (has.settled u other (unit_before u other at) away);
  }

  -- ---- answers and messages

  get_stays : (node : Node) (place : ℕ) → place_of_get s node ≡ Some place → place_of_get new node ≡ Some place
  get_stays node place waits = ap (λ (rs : List Request). open_place rs node) order ∙ elim (grown_place s.network.ordered more node) [
    | inl same ↦ same ∙ waits
    | inr now_is ↦ none_some place (sym now_is.none ∙ waits)
  ]

  answers_stay : (node : Node) (line : ℕ) (words : List ℕ) → AnswersGet d s node line words → AnswersGet d new node line words
  answers_stay node line words has =
      let less = slice_get_within s.network.ordered has.place has.request has.at in
      record {
        place = has.place;
        request = has.request;
        get = get_stays node has.place has.get;
        at = ap (λ (rs : List Request). slice_get rs has.place) order ∙ slice_get_grown s.network.ordered more has.place has.request has.at;
        line_is = has.line_is;
        value = value_stays line has.place words (omega (arith, less)) has.value;
      }

  -- a request that is new does not write a line back whose words are due
  none_new : (line : ℕ) → 0 < due s line → (k : ℕ) → length s.network.ordered ≤ k → writes_back line (s.network.ordered ++ more) k ≡ false
  none_new line some k above =
      false_from_ne_true (writes_back line (s.network.ordered ++ more) k)
      (none_while_due d s new more g.orders line (g.before.backs line) (g.before.wait line) some k above)

  last_stays : (line : ℕ) → 0 < due s line → (o : Option ℕ) → last_written_back line s.network.ordered ≡ o
      → LastIs (writes_back line s.network.ordered) 0 (length s.network.ordered) o
      → LastIs (writes_back line (s.network.ordered ++ more)) 0 (length (s.network.ordered ++ more)) o
  last_stays line some None is none = λ k above below. elim (cases_lt k (length s.network.ordered)) [
    | inl old ↦ writes_back_grown line s.network.ordered more k old ∙ none k above (omega (arith, old))
    | inr late ↦ none_new line some k late
  ]
  last_stays line some (Some place) is last =
      let old : place < length s.network.ordered = omega (arith, last.below) in
      record {
        from = last.from;
        below = omega (arith, old, length-append s.network.ordered more);
        passes = writes_back_grown line s.network.ordered more place old ∙ last.passes;
        after = λ k above below. elim (cases_lt k (length s.network.ordered)) [
          | inl less ↦ writes_back_grown line s.network.ordered more k less ∙ last.after k above (omega (arith, less))
          | inr late ↦ none_new line some k late
        ];
      }

  last_same : (line : ℕ) → 0 < due s line → last_written_back line new.network.ordered ≡ last_written_back line s.network.ordered
  last_same line some =
      ap (last_written_back line) order
      ∙ last_unique (writes_back line (s.network.ordered ++ more)) 0 (length (s.network.ordered ++ more)) (last_written_back line (s.network.ordered ++ more))
      (last_written_back line s.network.ordered) (last_of_all line (s.network.ordered ++ more))
      (last_stays line some (last_written_back line s.network.ordered) refl (last_of_all line s.network.ordered))

  message_by : (msg : Msg) (kind : MsgKind) → (kind ≡ Back → 0 < due s msg.line) → MessageHasValue d s msg kind → MessageHasValue d new msg kind
  message_by msg Data some has = λ other at. answers_stay other.node msg.line msg.words (has other (unit_before msg.to other at))
  message_by msg Back some has =
      let last = subst (LastIs (writes_back msg.line s.network.ordered) 0 (length s.network.ordered)) has.put (last_of_all msg.line s.network.ordered) in
      record {
        place = has.place;
        put = last_same msg.line (some refl) ∙ has.put;
        value = value_stays msg.line has.place msg.words (omega (arith, last.below)) has.value;
      }

  -- ---- records

  next_stays : (node : Node) (line place next : ℕ) → next_written_back s line node.delivered ≡ Some next
      → next_written_back new line node.delivered ≡ Some place
      → (next ≡ place) × (next ≤ length s.network.ordered)
  next_stays node line place next was is =
      let ordered = s.network.ordered in
      let old = subst (NextIs (writes_back line ordered) (length ordered) node.delivered) was (next_after line node.delivered ordered) in
      let less : next < length ordered = old.below in
      let longer = next_unique (writes_back line (ordered ++ more)) (length (ordered ++ more)) node.delivered
      (next_from node.delivered (places_written_back line (ordered ++ more)))
      (Some next) (next_after line node.delivered (ordered ++ more)) (record {
        beyond = old.beyond;
        below = omega (arith, less, length-append ordered more);
        passes = writes_back_grown line ordered more next less ∙ old.passes;
        before = λ k above below. writes_back_grown line ordered more k (omega (arith, below, less)) ∙ old.before k above below;
      }) in
      let now_is : next_from node.delivered (places_written_back line (ordered ++ more)) ≡ Some place =
      ap (λ (rs : List Request). next_from node.delivered (places_written_back line rs)) (sym order) ∙ is in
      (same_Some next place (sym longer ∙ now_is), omega (arith, less))

  -- a record that is fresh under a tile has its words from a request that is in the order
  fresh_next : (u : ℕ) (unit : UnitState) (line tile : ℕ) (r : LineRecord) → slice_get s.units u ≡ Some unit
      → slice_index_or unit.node.records line None ≡ Some r → r.fresh ≡ true
      → r.owner ≡ Tile tile → (next : ℕ) × (next_written_back s line unit.node.delivered ≡ Some next)
  fresh_next u unit line tile r at there fresh owner = by (next_written_back s line unit.node.delivered) refl where
    test : has_come s line false (next_written_back s line unit.node.delivered) ≡ true
    test = ap (is_fresh_by s unit.node line) (sym owner) ∙ (sym ((unit_holds d s u unit g.before at).holds.serves.fresh line r there) ∙ fresh)

    by : (o : Option ℕ) → next_written_back s line unit.node.delivered ≡ o → (next : ℕ) × (next_written_back s line unit.node.delivered ≡ Some next)
    by None is = absurd (false≢true (ap (has_come s line false) (sym is) ∙ test))
    by (Some next) is = (next, is)

  record_stays : (u : ℕ) (unit : UnitState) (line : ℕ) (r : LineRecord) (owner : Owner) → slice_get s.units u ≡ Some unit
      → slice_index_or unit.node.records line None ≡ Some r
      → r.fresh ≡ true → r.owner ≡ owner → RecordHasValue d s unit.node line r owner → RecordHasValue d new unit.node line r owner
  record_stays u unit line r Memory at there fresh owned has = value_stays line unit.node.delivered r.words (within u unit at) has
  record_stays u unit line r (Tile tile) at there fresh owned has = λ place is.
      let (next, was) = fresh_next u unit line tile r at there fresh owned in
      let (same, less) = next_stays unit.node line place next was is in
      subst (λ (k : ℕ). HasValue d new line k r.words) same (value_stays line next r.words less (has next was))

  -- ---- nodes

  copy_stays : (u : ℕ) (unit : UnitState) (line : ℕ) (held : Held) (state : State) → slice_get s.units u ≡ Some unit
      → CopyHasValue d s unit.node line held state
      → CopyHasValue d new unit.node line held state
  copy_stays u unit line held M at has = own_stays unit.node.tile line unit.node.delivered held.words (within u unit at) has
  copy_stays u unit line held O at has = value_stays line unit.node.delivered held.words (within u unit at) has
  copy_stays u unit line held S at has =
      let early = shared_within s.network.ordered unit.node line (known_of d s g.before u unit at) in
      value_stays line (place_of_shared unit.node line) held.words (omega (arith, early, within u unit at)) has

  node_stays : (u : ℕ) (unit : UnitState) → slice_get s.units u ≡ Some unit → NodeHasValues d s unit.node → NodeHasValues d new unit.node
  node_stays u unit at has = record {
    copies = λ line held there. copy_stays u unit line held held.state at (has.copies line held there);
    back = λ back stands live. value_stays back.line unit.node.delivered back.words (within u unit at) (has.back back stands live);
    early = λ demand words stands early. answers_stay unit.node demand.line words (has.early demand words stands early);
    out = λ place msg there. message_by msg msg.kind (λ kind. queued_due s u place unit msg at there kind) (has.out place msg there);
    records = λ line r there fresh. record_stays u unit line r r.owner at there fresh refl (has.records line r there fresh);
  }

  grown_values : ValuesHold d new
  grown_values = record {
    nodes = λ u unit at. (let was = unit_before u unit at in node_stays u unit was (values.nodes u unit was));
    channels = λ router port slot msg there.
        let stood : stands_at s.replies router port slot ≡ Some msg = ap (λ (net : Network Msg). stands_at net router port slot) (sym g.replies) ∙ there in
        message_by msg msg.kind (λ kind. carried_due s router port slot msg stood kind) (values.channels router port slot msg stood);
  }

-- a tick lets the order grow, and changes nothing else
pub ticks_grow : (d : Doc) (s new : ChipState) (fits : DocLaws d) (holds : ProtocolHolds d s)
    (does : ChangesNetwork (after_network_tick (chip_of d) s.network) s new)
    → GrowsAlone d s new (ticked d s new fits holds does).more
ticks_grow d s new fits holds does =
    let is = ticked d s new fits holds does in
    let after = ticked_network d s new fits holds does in
    record {
      before = holds;
      orders = record {
        grows = record { units = is.units; order = is.order; replies = does.replies };
        within = delivered_within d s holds;
        sources = λ k q at.
            let there : slice_get new.network.ordered k ≡ Some q = ap (λ (rs : List Request). slice_get rs k) is.order ∙ at in
            let tile = tile_of d s q.source holds (fits.inside new.network k q after there) in
            record {
              unit = tile.unit;
              at = tile.unit_at;
              within = omega (arith, tile.holds.node.agrees.counts, tile.agrees.within);
              side = tile.holds.node.fits.side;
              interface = tile.interface;
              agrees = tile.agrees;
              tile = tile.holds.node.agrees;
              ticked = is.tiles q.source tile.unit tile.unit_at;
            };
      };
      units = does.units;
      accesses = does.accesses;
      replies = does.replies;
    }

-- a tick keeps all values
pub tick_values : (d : Doc) (s new : ChipState) → DocLaws d → ProtocolHolds d s → ValuesHold d s
    → ChangesNetwork (after_network_tick (chip_of d) s.network) s new → ValuesHold d new
tick_values d s new fits holds values does = grown_values d s new (ticked d s new fits holds does).more (ticks_grow d s new fits holds does) values
