-- An ordered demand is the request of its place, and has what the requests after it made of it: through each step of a node.
use Rattle.std.proofs.Common.{◌≡◌, ℕ, ◌+◌, Bool, true, false, cond, refl, sym, ◌∙◌, ap, subst, arith, Option, Some, None, List, [], ◌∷◌, ◌++◌, take}
use Rattle.std.specs.Prelude.{◌==◌, ◌&&◌, ◌≤◌, length, slice_get, filter}
use Rattle.std.specs.List.{list_any}
use Rattle.std.proofs.lemmas.List.{take-append-le}
use Rattle.std.proofs.lemmas.Option.{same_Some}
use Rattle.std.proofs.lemmas.List.Elements.{filter-append}
use Rattle.mesh_gen.specs.declared.request.Request.{Request}
use Rattle.mesh_gen.specs.declared.msg.Msg.{Msg}
use Rattle.mesh_gen.specs.declared.msg_kind.MsgKind.{MsgKind}
use Rattle.mesh_gen.specs.declared.msg_kind.MsgKind.TheVariants.{Data, Back}
use Rattle.chip_model.specs.declared.pending.Pending.{Pending}
use Rattle.chip_model.specs.Chip.{Chip}
use Rattle.chip_model.specs.Misses.{Demand, Misses, sent_demand, marked_sent, is_getm, ends_in_getm}
use Rattle.chip_model.specs.Snoop.{CacheSide, data_at, data_for, after_data}
use Rattle.chip_model.specs.Node.{Node, Performed, node_after_access, arrived_as, node_after_message, after_request_sent}
use Rattle.chip_model.specs.NodeShape.{IsCache}
use Rattle.chip_model.specs.Ownership.{owner, is_tile}
use Rattle.chip_model.specs.Bookkeeping.{is_get, is_get_of, between, gets_of_others, up_to_getm, waiting_for, IsOrderedAt, IsFollowed}
use Rattle.snoop_core.proofs.Accesses.{access_forms}
use Rattle.snoop_core.proofs.Sending.{sent_forms}
use Rattle.chip_laws.proofs.Options.{none_some}
use Rattle.chip_laws.proofs.OrderLists.{between_next, between_grown, get_grown}
use Rattle.chip_laws.proofs.UnderWay.{completed_none}
use Rattle.chip_laws.proofs.FollowedDemands.{Follows, waiting_of, request_follows}

-- an ordered demand is the request of its place, and is followed as the order says
pub record OrderedHolds (ordered : List Request) (node : Node) (demand : Demand) (place : ℕ) : Type 0 where
  pub at : IsOrderedAt ordered node demand place
  pub follows : IsFollowed ordered node demand place

abbrev pub OrderedFits : List Request → Node → Type 0
OrderedFits ordered node = (demand : Demand) (place : ℕ) → node.side.misses.demand ≡ Some demand → demand.ordered ≡ Some place → OrderedHolds ordered node demand place

-- ---- steps that leave an ordered demand as it is
pub record WasOrdered (old : Option Demand) (demand : Demand) (place : ℕ) : Type 0 where
  pub was : Demand
  pub stood : old ≡ Some was
  pub ordered : was.ordered ≡ Some place
  pub kind : demand.kind ≡ was.kind
  pub line : demand.line ≡ was.line
  pub once : demand.once ≡ was.once
  pub list : demand.list ≡ was.list

abbrev pub OrderedStays : Option Demand → Option Demand → Type 0
OrderedStays old new = (demand : Demand) (place : ℕ) → new ≡ Some demand → demand.ordered ≡ Some place → WasOrdered old demand place

pub stays_same : (entry : Option Demand) → OrderedStays entry entry
stays_same entry demand place stands ordered = record { was = demand; stood = stands; ordered = ordered; kind = refl; line = refl; once = refl; list = refl }

pub stays_none : (entry : Option Demand) → OrderedStays entry None
stays_none entry demand place stands ordered = none_some demand stands

-- a demand that is not ordered
pub stays_unordered : (entry : Option Demand) (new : Demand) → new.ordered ≡ None → OrderedStays entry (Some new)
stays_unordered entry new unordered demand place stands ordered =
    let same : new ≡ demand = same_Some new demand stands in
    none_some place (sym unordered ∙ (ap (λ (d : Demand). d.ordered) same ∙ ordered))

ordered_still : (ordered : List Request) (old new : Node) (demand was : Demand) (place : ℕ) → new.tile ≡ old.tile → new.delivered ≡ old.delivered
    → demand.kind ≡ was.kind → demand.line ≡ was.line → IsOrderedAt ordered old was place → IsOrderedAt ordered new demand place
ordered_still ordered old new demand was place tile delivered kind line is = record {
  request = is.request;
  at = is.at;
  before = omega (arith, is.before, delivered);
  source = is.source ∙ sym tile;
  kind = is.kind ∙ sym kind;
  line = is.line ∙ sym line;
  unowned = ap (λ (l : ℕ). is_tile new.tile (owner l (take place ordered))) line ∙ ap (λ (t : ℕ). is_tile t (owner was.line (take place ordered))) tile ∙ is.unowned;
  alone = ap (λ (n : ℕ). filter (is_get_of new.tile) (between place n ordered)) delivered ∙ ap (λ (t : ℕ). filter (is_get_of t) (between place old.delivered ordered)) tile ∙ is.alone;
}

abbrev followed_gets : List Request → ℕ → ℕ → ℕ → ℕ → List Request
followed_gets ordered tile line place delivered = gets_of_others tile line (between place delivered ordered)

pub follows_of : (ordered : List Request) (node : Node) (demand : Demand) (place : ℕ) → IsFollowed ordered node demand place → Follows node.tile demand (between place node.delivered ordered)
follows_of ordered node demand place is = record { once = is.once; list = is.list }

pub follows_by : (ordered : List Request) (node : Node) (demand : Demand) (place tile : ℕ) (requests : List Request) → node.tile ≡ tile → between place node.delivered ordered ≡ requests
    → Follows tile demand requests → IsFollowed ordered node demand place
follows_by ordered node demand place tile requests tile_is between_is is =
    let now = subst (λ (t : ℕ). Follows t demand (between place node.delivered ordered)) (sym tile_is) (subst (Follows tile demand) (sym between_is) is) in
    record { once = now.once; list = now.list }

follows_kept : (tile : ℕ) (demand was : Demand) (requests : List Request) → demand.kind ≡ was.kind → demand.line ≡ was.line → demand.once ≡ was.once → demand.list ≡ was.list
    → Follows tile was requests → Follows tile demand requests
follows_kept tile demand was requests kind line once list is = record {
  once = λ reads. once ∙ is.once (sym kind ∙ reads) ∙ ap (λ (l : ℕ). list_any (λ (q : Request). is_getm q.kind) (gets_of_others tile l requests)) (sym line);
  list = λ writes. list ∙ is.list (sym kind ∙ writes) ∙ ap (λ (l : ℕ). waiting_for (up_to_getm (gets_of_others tile l requests))) (sym line);
}

pub ordered_stays : (ordered : List Request) (old new : Node) → new.tile ≡ old.tile → new.delivered ≡ old.delivered → OrderedStays old.side.misses.demand new.side.misses.demand
    → OrderedFits ordered old → OrderedFits ordered new
ordered_stays ordered old new tile delivered stays fits demand place stands is_ordered =
    let w = stays demand place stands is_ordered in
    let holds = fits w.was place w.stood w.ordered in
    record {
      at = ordered_still ordered old new demand w.was place tile delivered w.kind w.line holds.at;
      follows = follows_by ordered new demand place old.tile (between place old.delivered ordered) tile (ap (λ (n : ℕ). between place n ordered) delivered)
          (follows_kept old.tile demand w.was (between place old.delivered ordered) w.kind w.line w.once w.list (follows_of ordered old w.was place holds.follows));
    }

-- the order grows
pub ordered_grown : (ordered more : List Request) (node : Node) → node.delivered ≤ length ordered → OrderedFits ordered node → OrderedFits (ordered ++ more) node
ordered_grown ordered more node within fits demand place stands is_ordered =
    let holds = fits demand place stands is_ordered in
    let same = between_grown ordered more place node.delivered within in
    record {
      at = record {
        request = holds.at.request;
        at = get_grown ordered more place holds.at.request holds.at.at;
        before = holds.at.before;
        source = holds.at.source;
        kind = holds.at.kind;
        line = holds.at.line;
        unowned = ap (λ (rs : List Request). is_tile node.tile (owner demand.line rs)) (take-append-le place ordered more (omega (arith, holds.at.before))) ∙ holds.at.unowned;
        alone = ap (filter (is_get_of node.tile)) same ∙ holds.at.alone;
      };
      follows = follows_by (ordered ++ more) node demand place node.tile (between place node.delivered ordered) refl same (follows_of ordered node demand place holds.follows);
    }

-- ---- which steps leave it
sent_stays : (old : Option Demand) → OrderedStays old (sent_demand old)
sent_stays None demand place stands ordered = none_some demand stands
sent_stays (Some was) demand place stands ordered =
    let same : record was { sent = true } ≡ demand = same_Some (record was { sent = true }) demand stands in
    record {
      was = was;
      stood = refl;
      ordered = ap (λ (d : Demand). d.ordered) same ∙ ordered;
      kind = sym (ap (λ (d : Demand). d.kind) same);
      line = sym (ap (λ (d : Demand). d.line) same);
      once = sym (ap (λ (d : Demand). d.once) same);
      list = sym (ap (λ (d : Demand). d.list) same);
    }

pub request_sent_stays : (node : Node) → OrderedStays node.side.misses.demand (after_request_sent node).side.misses.demand
unfolding after_request_sent marked_sent
request_sent_stays node = sent_forms node.side.misses.demand node.side.misses.back (λ misses. OrderedStays node.side.misses.demand misses.demand) (record {
  get = sent_stays node.side.misses.demand;
  put = λ back stands. stays_same node.side.misses.demand;
})

at_stays : (chip : Chip) (side : CacheSide) (words : List ℕ) (demand : Demand) (place : Option ℕ) → demand.ordered ≡ place → OrderedStays side.misses.demand (data_at chip side words demand place).side.misses.demand
at_stays chip side words demand (Some place) ordered =
    subst (λ (misses : Misses). OrderedStays side.misses.demand misses.demand) (sym (completed_none chip demand place words side)) (stays_none side.misses.demand)
at_stays chip side words demand None unordered = stays_unordered side.misses.demand (record demand { early = Some words }) unordered

for_stays : (chip : Chip) (side : CacheSide) (words : List ℕ) (entry : Option Demand) → side.misses.demand ≡ entry → OrderedStays side.misses.demand (data_for chip side words entry).side.misses.demand
for_stays chip side words None stands = stays_same side.misses.demand
for_stays chip side words (Some demand) stands = at_stays chip side words demand demand.ordered refl

kind_stays : (msg : Msg) (node : Node) (kind : MsgKind) → OrderedStays node.side.misses.demand (arrived_as msg node kind).0.side.misses.demand
unfolding after_data
kind_stays msg node Data = for_stays node.chip node.side msg.words node.side.misses.demand refl
kind_stays msg node Back = stays_same node.side.misses.demand

pub arrived_stays : (msg : Msg) (node : Node) → OrderedStays node.side.misses.demand (node_after_message msg node).0.side.misses.demand
unfolding node_after_message
arrived_stays msg node = kind_stays msg node msg.kind

pub accessed_stays : (access : Pending) (node : Node) (step : Performed) → node_after_access access node ≡ Some step → IsCache node.chip node.side.cache → OrderedStays node.side.misses.demand step.0.side.misses.demand
accessed_stays access node step done is =
    access_forms access node step (λ after. OrderedStays node.side.misses.demand after.side.misses.demand) is (record {
      hit = stays_same node.side.misses.demand;
      wrote = λ held there modified words. stays_same node.side.misses.demand;
      missed = λ a at apart absent room. stays_unordered node.side.misses.demand _ refl;
      upgraded = λ a at apart changes held there unmodified. stays_unordered node.side.misses.demand _ refl;
      made_room = λ a at apart absent cache drops. stays_unordered node.side.misses.demand _ refl;
      put_back = λ held puts queue alone. stays_same node.side.misses.demand;
    }) done

-- ---- a request is delivered
-- one that is no get of the tile leaves the demand at its place
pub ordered_next : (ordered : List Request) (old new : Node) (q : Request) (demand was : Demand) (place : ℕ) → new.tile ≡ old.tile → new.delivered ≡ old.delivered + 1
    → slice_get ordered old.delivered ≡ Some q → is_get_of old.tile q ≡ false → demand.kind ≡ was.kind → demand.line ≡ was.line
    → IsOrderedAt ordered old was place → IsOrderedAt ordered new demand place
ordered_next ordered old new q demand was place tile delivered at no_get kind line is = record {
  request = is.request;
  at = is.at;
  before = omega (arith, is.before, delivered);
  source = is.source ∙ sym tile;
  kind = is.kind ∙ sym kind;
  line = is.line ∙ sym line;
  unowned = ap (λ (l : ℕ). is_tile new.tile (owner l (take place ordered))) line ∙ ap (λ (t : ℕ). is_tile t (owner was.line (take place ordered))) tile ∙ is.unowned;
  alone = ap (λ (n : ℕ). filter (is_get_of new.tile) (between place n ordered)) delivered
      ∙ ap (λ (t : ℕ). filter (is_get_of t) (between place (old.delivered + 1) ordered)) tile
      ∙ ap (filter (is_get_of old.tile)) (between_next ordered place old.delivered q is.before at)
      ∙ filter-append (is_get_of old.tile) (between place old.delivered ordered) (q ∷ [])
      ∙ ap (λ (rs : List Request). rs ++ filter (is_get_of old.tile) (q ∷ [])) is.alone
      ∙ ap (λ (b : Bool). cond b (q ∷ []) []) no_get;
}

-- a request that follows a demand changes at most its list and whether it serves once
follows_same : {A : Type 0} (f : Demand → A) (q : Request) (demand : Demand) → f (record demand { list = demand.list ++ waiting_of q ∷ [] }) ≡ f demand
    → f (record demand { once = true }) ≡ f demand → f (request_follows q demand) ≡ f demand
follows_same f q demand listed served = by (is_get q.kind && (q.line == demand.line)) (is_getm demand.kind) (ends_in_getm demand.list) (is_getm q.kind) where
  by : (here writes ends wants : Bool)
      → f (cond {A = Demand} here (cond writes (cond ends demand (record demand { list = demand.list ++ waiting_of q ∷ [] })) (cond wants (record demand { once = true }) demand)) demand)
      ≡ f demand
  by false writes ends wants = refl
  by true true true wants = refl
  by true true false wants = listed
  by true false ends true = served
  by true false ends false = refl

pub follows_kind : (q : Request) (demand : Demand) → (request_follows q demand).kind ≡ demand.kind
follows_kind q demand = follows_same (λ (d : Demand). d.kind) q demand refl refl

pub follows_line : (q : Request) (demand : Demand) → (request_follows q demand).line ≡ demand.line
follows_line q demand = follows_same (λ (d : Demand). d.line) q demand refl refl

pub follows_ordered : (q : Request) (demand : Demand) → (request_follows q demand).ordered ≡ demand.ordered
follows_ordered q demand = follows_same (λ (d : Demand). d.ordered) q demand refl refl
