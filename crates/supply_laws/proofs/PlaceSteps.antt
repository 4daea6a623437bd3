-- A step of a node keeps the place of the get for which its tile waits, or completes that get.
use Rattle.std.proofs.Common.{◌≡◌, ℕ, ◌+◌, ◌<◌, ◌≤◌, Bool, true, false, cond, refl, sym, ◌∙◌, ap, subst, arith, inl, inr, ◌⊎◌, Option, Some, None, List}
use Rattle.std.specs.Prelude.{◌==◌, ◌&&◌, is_some, slice_get, drop}
use Rattle.std.specs.List.{count_by}
use Rattle.std.specs.Option.{option_or}
use Rattle.std.proofs.lemmas.Bool.{false≢true, cases_eq, eqb-true}
use Rattle.std.proofs.lemmas.Option.{same_Some}
use Rattle.mesh_gen.specs.declared.kind.Kind.{Kind}
use Rattle.mesh_gen.specs.declared.kind.Kind.TheVariants.{GetS, GetM, PutM}
use Rattle.mesh_gen.specs.declared.request.Request.{Request}
use Rattle.mesh_gen.specs.declared.msg.Msg.{Msg}
use Rattle.mesh_gen.specs.declared.msg_kind.MsgKind.{MsgKind}
use Rattle.mesh_gen.specs.declared.msg_kind.MsgKind.TheVariants.{Data, Back}
use Rattle.mesh_gen.specs.Ports.{count_if}
use Rattle.chip_model.specs.declared.pending.Pending.{Pending}
use Rattle.chip_model.specs.Chip.{Chip}
use Rattle.chip_model.specs.Misses.{Misses, Demand, WriteBack, sent_demand, marked_sent}
use Rattle.chip_model.specs.Snoop.{CacheSide, Outcome, holding, snooped_with, words_here, ordered_with, own_get, own_put, own_request, after_snoop, data_at, data_for, after_data}
use Rattle.chip_model.specs.Node.{Node, Performed, node_after_access, node_after_request, node_after_message, arrived_as, after_request_sent, after_message_sent}
use Rattle.chip_model.specs.NodeShape.{IsCache}
use Rattle.chip_model.specs.Bookkeeping.{is_get, is_get_of}
use Rattle.chip_model.specs.Suppliers.{place_of_ordered, is_ordered}
use Rattle.snoop_core.specs.Requests.{MeetsOwn, MeetsDemand, OwnRequestFits}
use Rattle.snoop_core.proofs.Sending.{sent_forms}
use Rattle.snoop_core.proofs.SnoopSteps.{snoop_forms}
use Rattle.snoop_core.proofs.Accesses.{access_forms, accessed_free}
use Rattle.chip_laws.proofs.UnderWay.{completed_none}
use Rattle.chip_laws.proofs.SuppliedComes.{OneOpen}
use Rattle.supply_laws.proofs.GetPlaces.{get_of, NoGet, FirstGetIs, first_get, first_get_is, first_get_at, first_get_none, none_counts}
use Rattle.supply_laws.proofs.GetPlaces.{open_place, at_waits, waits_for_none, undelivered_open, both_count}

-- the place stays, or the get is complete and no other one is ordered
abbrev pub StaysOrEnds : Option ℕ → Option ℕ → Type 0
StaysOrEnds old new = (new ≡ old) ⊎ (new ≡ None)

-- ---- nothing is delivered
pub place_kept : (ordered : List Request) (old new : Node) → new.tile ≡ old.tile → new.delivered ≡ old.delivered
    → place_of_ordered new.side.misses.demand ≡ place_of_ordered old.side.misses.demand → open_place ordered new ≡ open_place ordered old
place_kept ordered old new tile delivered demand =
    ap (λ (x : Option ℕ). option_or x (first_get ordered new.tile new.delivered)) demand
    ∙ ap (λ (t : ℕ). option_or (place_of_ordered old.side.misses.demand) (first_get ordered t new.delivered)) tile
    ∙ ap (λ (n : ℕ). option_or (place_of_ordered old.side.misses.demand) (first_get ordered old.tile n)) delivered

sent_place : (entry : Option Demand) → place_of_ordered (sent_demand entry) ≡ place_of_ordered entry
sent_place None = refl
sent_place (Some demand) = refl

marked_place : (misses : Misses) → place_of_ordered (marked_sent misses).demand ≡ place_of_ordered misses.demand
unfolding marked_sent
marked_place misses = sent_forms misses.demand misses.back (λ after. place_of_ordered after.demand ≡ place_of_ordered misses.demand) (record {
  get = sent_place misses.demand;
  put = λ back stands. refl;
})

-- the node's request is sent
pub asked_place : (ordered : List Request) (node : Node) → open_place ordered (after_request_sent node) ≡ open_place ordered node
unfolding after_request_sent
asked_place ordered node = ap (λ (x : Option ℕ). option_or x (first_get ordered node.tile node.delivered)) (marked_place node.side.misses)

-- its first message is sent
pub message_sent_place : (ordered : List Request) (node : Node) → open_place ordered (after_message_sent node) ≡ open_place ordered node
unfolding after_message_sent
message_sent_place ordered node = refl

record AccessKeeps (old new : Node) : Type 0 where
  pub tile : new.tile ≡ old.tile
  pub delivered : new.delivered ≡ old.delivered
  pub demand : place_of_ordered new.side.misses.demand ≡ place_of_ordered old.side.misses.demand

-- an access
pub accessed_place : (ordered : List Request) (access : Pending) (node : Node) (step : Performed) → node_after_access access node ≡ Some step → IsCache node.chip node.side.cache
    → open_place ordered step.0 ≡ open_place ordered node
accessed_place ordered access node step done cache =
    let none : None ≡ place_of_ordered node.side.misses.demand = sym (ap place_of_ordered (accessed_free access node step done)) in
    let keeps : AccessKeeps node step.0 = access_forms access node step (λ after. AccessKeeps node after) cache (record {
      hit = record { tile = refl; delivered = refl; demand = refl };
      wrote = λ held there modified words. record { tile = refl; delivered = refl; demand = refl };
      missed = λ a at apart absent room. record { tile = refl; delivered = refl; demand = none };
      upgraded = λ a at apart changes held there unmodified. record { tile = refl; delivered = refl; demand = none };
      made_room = λ a at apart absent left drops. record { tile = refl; delivered = refl; demand = none };
      put_back = λ held puts queue alone. record { tile = refl; delivered = refl; demand = refl };
    }) done in
    place_kept ordered node step.0 keeps.tile keeps.delivered keeps.demand

-- ---- a get completes
-- where its ordered demand is complete no get of the tile is left
none_left : (ordered : List Request) (old new : Node) (place : ℕ) → new.tile ≡ old.tile → new.delivered ≡ old.delivered → OneOpen ordered old.tile old
    → is_ordered old.side.misses.demand ≡ true → place_of_ordered new.side.misses.demand ≡ None → open_place ordered new ≡ None
none_left ordered old new place tile delivered few ordered_before now =
    let one : count_if (is_ordered old.side.misses.demand) ≡ 1 = ap count_if ordered_before in
    let most = at_most_one (is_some old.side.misses.demand) in
    let zero_left : count_by (is_get_of old.tile) (drop old.delivered ordered) ≡ 0 = omega (arith, few, one, most) in
    waits_for_none ordered new now
    (subst (λ (t : ℕ). NoGet ordered t new.delivered) (sym tile) (subst (λ (n : ℕ). NoGet ordered old.tile n) (sym delivered) (none_counts ordered old.tile old.delivered zero_left)))
  where
    at_most_one : (b : Bool) → count_if b ≤ 1
    at_most_one true = omega arith
    at_most_one false = omega arith

-- data for an ordered demand completes it, and other data is kept
data_at_place : (ordered : List Request) (node : Node) (words : List ℕ) (demand : Demand) (place : Option ℕ) → node.side.misses.demand ≡ Some demand → demand.ordered ≡ place
    → OneOpen ordered node.tile node
    → StaysOrEnds (open_place ordered node) (open_place ordered (record node { side = (data_at node.chip node.side words demand place).side }))
data_at_place ordered node words demand (Some place) stands is few =
    inr (none_left ordered node (record node { side = (data_at node.chip node.side words demand (Some place)).side }) place refl refl few
    (ap is_ordered stands ∙ ap is_some is)
    (ap (λ (misses : Misses). place_of_ordered misses.demand) (completed_none node.chip demand place words node.side)))
data_at_place ordered node words demand None stands is few =
    inl (place_kept ordered node (record node { side = (data_at node.chip node.side words demand None).side }) refl refl (sym (ap place_of_ordered stands)))

data_place : (ordered : List Request) (node : Node) (words : List ℕ) (entry : Option Demand) → node.side.misses.demand ≡ entry → OneOpen ordered node.tile node
    → StaysOrEnds (open_place ordered node) (open_place ordered (record node { side = (data_for node.chip node.side words entry).side }))
data_place ordered node words None stands few = inl refl
data_place ordered node words (Some demand) stands few = data_at_place ordered node words demand demand.ordered stands refl few

arrived_kind : (ordered : List Request) (msg : Msg) (node : Node) (kind : MsgKind) → OneOpen ordered node.tile node
    → StaysOrEnds (open_place ordered node) (open_place ordered (arrived_as msg node kind).0)
unfolding after_data
arrived_kind ordered msg node Data few = data_place ordered node msg.words node.side.misses.demand refl few
arrived_kind ordered msg node Back few = inl refl

-- a message comes
pub arrived_place : (ordered : List Request) (msg : Msg) (node : Node) → OneOpen ordered node.tile node → StaysOrEnds (open_place ordered node) (open_place ordered (node_after_message msg node).0)
unfolding node_after_message
arrived_place ordered msg node few = arrived_kind ordered msg node msg.kind few

back_place : (ordered : List Request) (msg : Msg) (node : Node) (kind : MsgKind) → kind ≡ Back → open_place ordered (arrived_as msg node kind).0 ≡ open_place ordered node
back_place ordered msg node Data kind = cc
back_place ordered msg node Back kind = refl

-- words that are written back complete none
pub returned_place : (ordered : List Request) (msg : Msg) (node : Node) → msg.kind ≡ Back → open_place ordered (node_after_message msg node).0 ≡ open_place ordered node
unfolding node_after_message
returned_place ordered msg node kind = back_place ordered msg node msg.kind kind

-- ---- a request is delivered
-- one that is no get of the tile
pub passed_place : (ordered : List Request) (old new : Node) (q : Request) → new.tile ≡ old.tile → new.delivered ≡ old.delivered + 1 → slice_get ordered old.delivered ≡ Some q
    → is_get_of old.tile q ≡ false → place_of_ordered new.side.misses.demand ≡ place_of_ordered old.side.misses.demand → open_place ordered new ≡ open_place ordered old
passed_place ordered old new q tile delivered at passes demand =
    ap (λ (x : Option ℕ). option_or x (first_get ordered new.tile new.delivered)) demand
    ∙ ap (λ (t : ℕ). option_or (place_of_ordered old.side.misses.demand) (first_get ordered t new.delivered)) tile
    ∙ ap (λ (n : ℕ). option_or (place_of_ordered old.side.misses.demand) (first_get ordered old.tile n)) delivered
    ∙ ap (option_or (place_of_ordered old.side.misses.demand)) (by (first_get ordered old.tile old.delivered) refl (first_get_is ordered old.tile old.delivered))
  where
    away : (k : ℕ) (r : Request) → slice_get ordered k ≡ Some r → is_get_of old.tile r ≡ true → old.delivered ≤ k → old.delivered + 1 ≤ k
    away k r there get beyond = elim (cases_eq k old.delivered) [
      | inl here ↦ (let same : q ≡ r = same_Some q r (sym at ∙ (ap (slice_get ordered) (sym here) ∙ there)) in absurd (false≢true (sym passes ∙ (ap (is_get_of old.tile) same ∙ get))))
      | inr other ↦ omega (arith, other, beyond)
    ]

    by : (o : Option ℕ) → first_get ordered old.tile old.delivered ≡ o → FirstGetIs ordered old.tile old.delivered o
        → first_get ordered old.tile (old.delivered + 1) ≡ first_get ordered old.tile old.delivered
    by None is none = first_get_none ordered old.tile (old.delivered + 1) (λ k r beyond there. none k r (omega (arith, beyond)) there) ∙ sym is
    by (Some place) is first =
        first_get_at ordered old.tile (old.delivered + 1) place (record {
          get = first.get;
          at = first.at;
          gets = first.gets;
          beyond = away place first.get first.at first.gets first.beyond;
          first = λ k r beyond before there. first.first k r (omega (arith, beyond)) before there;
        })
        ∙ sym is

snooped_demand : (chip : Chip) (side : CacheSide) (q : Request)
    → place_of_ordered (snooped_with chip q side (holding chip side q.line) q.kind).side.misses.demand ≡ place_of_ordered side.misses.demand
snooped_demand chip side q = snoop_forms chip side q (λ (outcome : Outcome). place_of_ordered outcome.side.misses.demand ≡ place_of_ordered side.misses.demand) (record {
  put = λ kind. refl;
  copy_read = λ kind held there owned. refl;
  copy_written = λ kind held there owned. refl;
  back_read = λ kind back. refl;
  back_written = λ kind copy back stands line. refl;
  list_read = λ kind demand meets writes goes_on. sym (ap place_of_ordered meets.stands);
  list_written = λ kind demand meets writes goes_on. sym (ap place_of_ordered meets.stands);
  read = λ kind. refl;
  once = λ kind demand meets reads. sym (ap place_of_ordered meets.stands);
  shared_written = λ kind unowned. refl;
  nothing_written = λ kind unowned. refl;
})

own_put_demand : (chip : Chip) (side : CacheSide) (entry : Option WriteBack) → place_of_ordered (own_put chip side entry).side.misses.demand ≡ place_of_ordered side.misses.demand
own_put_demand chip side None = refl
own_put_demand chip side (Some back) = refl

-- the own get is ordered where it stands, or complete
own_get_demand : (chip : Chip) (side : CacheSide) (place : ℕ) (demand : Demand) (words : Option (List ℕ))
    → (place_of_ordered (ordered_with chip side place demand words).side.misses.demand ≡ Some place) ⊎ (place_of_ordered (ordered_with chip side place demand words).side.misses.demand ≡ None)
own_get_demand chip side place demand (Some words) = inr (ap (λ (misses : Misses). place_of_ordered misses.demand) (completed_none chip demand place words side))
own_get_demand chip side place demand None = inl refl

own_gets : (ordered : List Request) (node new : Node) (q : Request) → OneOpen ordered node.tile node → slice_get ordered node.delivered ≡ Some q → is_get_of node.tile q ≡ true
    → new.tile ≡ node.tile → new.delivered ≡ node.delivered + 1
    → (place_of_ordered new.side.misses.demand ≡ Some node.delivered) ⊎ (place_of_ordered new.side.misses.demand ≡ None)
    → StaysOrEnds (open_place ordered node) (open_place ordered new)
own_gets ordered node new q few at get tile delivered (inl waits) =
    inl (at_waits ordered new node.delivered (inl waits) ∙ sym (undelivered_open ordered node node.delivered q few at get (omega arith)))
own_gets ordered node new q few at get tile delivered (inr ends) =
    inr (waits_for_none ordered new ends (λ k r beyond there. by k r (omega (arith, beyond, delivered)) there (is_get_of new.tile r) refl)) where
      most : (b : Bool) → count_if b ≤ 1
      most true = omega arith
      most false = omega arith

      by : (k : ℕ) (r : Request) → node.delivered < k → slice_get ordered k ≡ Some r → (b : Bool) → is_get_of new.tile r ≡ b → is_get_of new.tile r ≡ false
      by k r beyond there true also =
          let two = both_count ordered node.tile node.delivered node.delivered k q r at get (omega arith) beyond there (sym (ap (λ (t : ℕ). is_get_of t r) tile) ∙ also) in
          absurd (omega (arith, few, two, most (is_some node.side.misses.demand)))
      by k r beyond there false fails = fails

abbrev AfterOwn : Node → CacheSide → Node
AfterOwn node side = record node { side = side; delivered = node.delivered + 1 }

-- the demand that the own get is for
get_demand : (node : Node) (q : Request) → MeetsDemand node.side q
    → (place_of_ordered (own_get node.chip node.side node.delivered node.side.misses.demand).side.misses.demand ≡ Some node.delivered)
    ⊎ (place_of_ordered (own_get node.chip node.side node.delivered node.side.misses.demand).side.misses.demand ≡ None)
get_demand node q (demand, stands, is) =
    let At : Option Demand → Type 0 = λ (entry : Option Demand).
    (place_of_ordered (own_get node.chip node.side node.delivered entry).side.misses.demand ≡ Some node.delivered)
    ⊎ (place_of_ordered (own_get node.chip node.side node.delivered entry).side.misses.demand ≡ None) in
    subst At (sym stands) (own_get_demand node.chip node.side node.delivered demand (words_here node.chip node.side demand demand.early))

own_place : (ordered : List Request) (q : Request) (node : Node) (kind : Kind) → q.kind ≡ kind → q.source ≡ node.tile → OneOpen ordered node.tile node → slice_get ordered node.delivered ≡ Some q
    → MeetsOwn node.side q kind → StaysOrEnds (open_place ordered node) (open_place ordered (AfterOwn node (own_request node.chip node.side node.delivered kind).side))
own_place ordered q node GetS kind own few at meets =
    own_gets ordered node (AfterOwn node (own_request node.chip node.side node.delivered GetS).side) q few at (get_of node.tile q (ap is_get kind) own) refl refl
    (get_demand node q meets)
own_place ordered q node GetM kind own few at meets =
    own_gets ordered node (AfterOwn node (own_request node.chip node.side node.delivered GetM).side) q few at (get_of node.tile q (ap is_get kind) own) refl refl
    (get_demand node q meets)
own_place ordered q node PutM kind own few at meets =
    inl (passed_place ordered node (AfterOwn node (own_request node.chip node.side node.delivered PutM).side) q refl refl at (ap (λ (k : Kind). is_get k && (q.source == node.tile)) kind)
    (own_put_demand node.chip node.side node.side.misses.back))

no_own : (t : ℕ) (q : Request) → (q.source == t) ≡ false → is_get_of t q ≡ false
no_own t q other = ap (λ (b : Bool). is_get q.kind && b) other ∙ none (is_get q.kind) where
  none : (b : Bool) → (b && false) ≡ false
  none true = refl
  none false = refl

-- a request is delivered
pub delivered_place : (ordered : List Request) (q : Request) (node : Node) → OneOpen ordered node.tile node → slice_get ordered node.delivered ≡ Some q → OwnRequestFits node.tile node.side q
    → StaysOrEnds (open_place ordered node) (open_place ordered (node_after_request q node).0)
unfolding node_after_request after_snoop
delivered_place ordered q node few at meets = by (q.source == node.tile) refl where
  by : (own : Bool) → (q.source == node.tile) ≡ own
      → StaysOrEnds (open_place ordered node)
      (open_place ordered (AfterOwn node (cond own (own_request node.chip node.side node.delivered q.kind) (snooped_with node.chip q node.side (holding node.chip node.side q.line) q.kind)).side))
  by true own = let source = eqb-true q.source node.tile own in own_place ordered q node q.kind refl source few at (meets source)
  by false other =
      inl (passed_place ordered node (AfterOwn node (snooped_with node.chip q node.side (holding node.chip node.side q.line) q.kind).side) q refl refl at (no_own node.tile q other)
      (snooped_demand node.chip node.side q))

own_ends : (ordered : List Request) (q : Request) (node : Node) (kind : Kind) → q.kind ≡ kind → slice_get ordered node.delivered ≡ Some q
    → open_place ordered (AfterOwn node (own_request node.chip node.side node.delivered kind).side) ≡ None → (open_place ordered node ≡ None) ⊎ (is_get q.kind ≡ true)
own_ends ordered q node GetS kind at none = inr (ap is_get kind)
own_ends ordered q node GetM kind at none = inr (ap is_get kind)
own_ends ordered q node PutM kind at none =
    inl (sym (passed_place ordered node (AfterOwn node (own_request node.chip node.side node.delivered PutM).side) q refl refl at (ap (λ (k : Kind). is_get k && (q.source == node.tile)) kind)
    (own_put_demand node.chip node.side node.side.misses.back)) ∙ none)

-- only the delivery of its own get completes one
pub delivered_ends : (ordered : List Request) (q : Request) (node : Node) → OneOpen ordered node.tile node → slice_get ordered node.delivered ≡ Some q → OwnRequestFits node.tile node.side q
    → open_place ordered (node_after_request q node).0 ≡ None → (open_place ordered node ≡ None) ⊎ (((q.source == node.tile) ≡ true) × (is_get q.kind ≡ true))
unfolding node_after_request after_snoop
delivered_ends ordered q node few at meets none = by (q.source == node.tile) refl none where
  by : (own : Bool) → (q.source == node.tile) ≡ own
      → open_place ordered
      (AfterOwn node (cond own (own_request node.chip node.side node.delivered q.kind) (snooped_with node.chip q node.side (holding node.chip node.side q.line) q.kind)).side)
      ≡ None
      → (open_place ordered node ≡ None) ⊎ (((q.source == node.tile) ≡ true) × (is_get q.kind ≡ true))
  by true own ends = elim (own_ends ordered q node q.kind refl at ends) [ inl none_before ↦ inl none_before | inr get ↦ inr (own, get) ]
  by false other ends =
      inl (sym (passed_place ordered node (AfterOwn node (snooped_with node.chip q node.side (holding node.chip node.side q.line) q.kind).side) q refl refl at (no_own node.tile q other)
      (snooped_demand node.chip node.side q)) ∙ ends)
