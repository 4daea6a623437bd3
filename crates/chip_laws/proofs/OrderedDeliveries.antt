-- The delivery of a request, and the demand that stands ordered after it.
use Rattle.std.proofs.Common.{◌≡◌, ℕ, ◌+◌, Bool, true, false, cond, refl, sym, ◌∙◌, ap, subst, arith, Option, Some, None, List, [], ◌∷◌, ◌++◌, take}
use Rattle.std.specs.Prelude.{◌==◌, ◌&&◌, ◌||◌, not, slice_get, is_some, filter}
use Rattle.std.proofs.lemmas.Bool.{false≢true, eq-eqb, eqb-true}
use Rattle.std.proofs.lemmas.Option.{same_Some, slice_get_within}
use Rattle.mesh_gen.specs.declared.kind.Kind.{Kind}
use Rattle.mesh_gen.specs.declared.kind.Kind.TheVariants.{GetS, GetM, PutM}
use Rattle.mesh_gen.specs.declared.request.Request.{Request}
use Rattle.chip_model.specs.Chip.{Chip}
use Rattle.chip_model.specs.Cache.{lookup}
use Rattle.chip_model.specs.Misses.{Demand, WriteBack, Misses, is_getm, ends_in_getm}
use Rattle.chip_model.specs.Snoop.{CacheSide, words_here, ordered_with, own_get, own_put, own_request, holding, snooped_with, after_snoop}
use Rattle.chip_model.specs.Node.{Node, node_after_request}
use Rattle.chip_model.specs.NodeShape.{SideFits}
use Rattle.chip_model.specs.Ownership.{owner, is_tile, owns, is_owned_copy, is_live_back, is_open_write, OwnsByOrder}
use Rattle.chip_model.specs.Bookkeeping.{is_get, is_get_of, between, IsOrderedAt, IsOutstanding}
use Rattle.snoop_core.specs.Requests.{IsRequestOf}
use Rattle.snoop_core.proofs.SnoopSteps.{snoop_forms}
use Rattle.snoop_core.proofs.OwnRequests.{lacks_words}
use Rattle.chip_laws.proofs.Options.{none_some}
use Rattle.chip_laws.proofs.OrderLists.{between_next, between_none}
use Rattle.chip_laws.proofs.UnderWay.{meets_get, completed_none}
use Rattle.chip_laws.proofs.FollowedDemands.{request_follows, other_demand, follows_more, follows_own}
use Rattle.chip_laws.proofs.OrderedDemands.{OrderedHolds, OrderedFits, ordered_next, follows_of, follows_by, follows_kind, follows_line, follows_ordered}

-- ---- of another tile
pub record WasWaiting (side : CacheSide) : Type 0 where
  pub was : Demand
  pub stood : side.misses.demand ≡ Some was
  pub ordered : is_some was.ordered ≡ true

abbrev WasBefore : CacheSide → Option Demand → Type 0
WasBefore side entry = (demand : Demand) → entry ≡ Some demand → is_some demand.ordered ≡ true → WasWaiting side

stood_before : (side : CacheSide) → WasBefore side side.misses.demand
stood_before side demand stands ordered = record { was = demand; stood = stands; ordered = ordered }

was_before : (chip : Chip) (side : CacheSide) (q : Request) → WasBefore side (snooped_with chip q side (holding chip side q.line) q.kind).side.misses.demand
was_before chip side q = snoop_forms chip side q (λ outcome. WasBefore side outcome.side.misses.demand) (record {
  put = λ kind. stood_before side;
  copy_read = λ kind held there owned. stood_before side;
  copy_written = λ kind held there owned. stood_before side;
  back_read = λ kind back. stood_before side;
  back_written = λ kind copy back stands line. stood_before side;
  list_read = λ kind demand meets writes goes_on d stands ordered. record { was = demand; stood = meets.stands; ordered = meets.ordered };
  list_written = λ kind demand meets writes goes_on d stands ordered. record { was = demand; stood = meets.stands; ordered = meets.ordered };
  read = λ kind. stood_before side;
  once = λ kind demand meets reads d stands ordered. record { was = demand; stood = meets.stands; ordered = meets.ordered };
  shared_written = λ kind unowned. stood_before side;
  nothing_written = λ kind unowned. stood_before side;
})

-- the node after a delivery
abbrev After : List Request → Node → CacheSide → Type 0
After ordered node side = (demand : Demand) (place : ℕ) → side.misses.demand ≡ Some demand → demand.ordered ≡ Some place
    → OrderedHolds ordered (record node { side = side; delivered = node.delivered + 1 }) demand place

no_get_of : (t : ℕ) (q : Request) → (q.source == t) ≡ false → is_get_of t q ≡ false
no_get_of t q other = by (is_get q.kind) (q.source == t) other where
  by : (get here : Bool) → here ≡ false → (get && here) ≡ false
  by true false e = refl
  by false false e = refl
  by get true e = absurd (false≢true (sym e))

other_after : (ordered : List Request) (q : Request) (node : Node) → slice_get ordered node.delivered ≡ Some q → (q.source == node.tile) ≡ false → SideFits node.chip node.side → OrderedFits ordered node
    → After ordered node (snooped_with node.chip q node.side (holding node.chip node.side q.line) q.kind).side
other_after ordered q node at other shape fits demand place stands ordered_at =
    let w = was_before node.chip node.side q demand stands (ap is_some ordered_at) in
    let same : request_follows q w.was ≡ demand =
    same_Some (request_follows q w.was) demand (sym (other_demand node.chip q node.side w.was shape w.stood w.ordered) ∙ stands) in
    let before : w.was.ordered ≡ Some place = sym (follows_ordered q w.was) ∙ ap (λ (d : Demand). d.ordered) same ∙ ordered_at in
    let holds = fits w.was place w.stood before in
    let new : Node = record node { side = (snooped_with node.chip q node.side (holding node.chip node.side q.line) q.kind).side; delivered = node.delivered + 1 } in
    subst (λ (d : Demand). OrderedHolds ordered new d place) same (record {
      at = ordered_next ordered node new q (request_follows q w.was) w.was place refl refl at (no_get_of node.tile q other) (follows_kind q w.was) (follows_line q w.was) holds.at;
      follows = follows_by ordered new (request_follows q w.was) place node.tile (between place node.delivered ordered ++ q ∷ []) refl
          (between_next ordered place node.delivered q holds.at.before at)
          (follows_more node.tile w.was q (between place node.delivered ordered) other (follows_of ordered node w.was place holds.follows));
    })

-- ---- of the tile itself: a write-back
put_keeps : (chip : Chip) (side : CacheSide) (back : Option WriteBack) → (own_put chip side back).side.misses.demand ≡ side.misses.demand
put_keeps chip side None = refl
put_keeps chip side (Some back) = refl

put_after : (ordered : List Request) (q : Request) (node : Node) → slice_get ordered node.delivered ≡ Some q → (q.source == node.tile) ≡ true → is_get q.kind ≡ false → OrderedFits ordered node
    → After ordered node (own_put node.chip node.side node.side.misses.back).side
put_after ordered q node at own put fits demand place stands ordered_at =
    let holds = fits demand place (sym (put_keeps node.chip node.side node.side.misses.back) ∙ stands) ordered_at in
    let new : Node = record node { side = (own_put node.chip node.side node.side.misses.back).side; delivered = node.delivered + 1 } in
    record {
      at = ordered_next ordered node new q demand demand place refl refl at (ap (λ (b : Bool). b && (q.source == node.tile)) put) refl refl holds.at;
      follows = follows_by ordered new demand place node.tile (between place node.delivered ordered ++ q ∷ []) refl
          (between_next ordered place node.delivered q holds.at.before at)
          (follows_own node.tile demand q (between place node.delivered ordered) own (follows_of ordered node demand place holds.follows));
    }

-- ---- a get: the demand is ordered now
neither : (a b c : Bool) → a ≡ false → b ≡ false → c ≡ false → ((a || b) || c) ≡ false
neither false false false x y z = refl
neither true b c x y z = absurd (false≢true (sym x))
neither false true c x y z = absurd (false≢true (sym y))
neither false false true x y z = absurd (false≢true (sym z))

-- no write-back of the demand's line stands
no_live_back : (line : ℕ) (entry : Option WriteBack) → ((back : WriteBack) → entry ≡ Some back → (line == back.line) ≡ false) → is_live_back line entry ≡ false
no_live_back line None apart = refl
no_live_back line (Some back) apart = by (back.line == line) refl back.live where
  by : (same : Bool) → (back.line == line) ≡ same → (live : Bool) → (same && live) ≡ false
  by false is live = refl
  by true is live = absurd (false≢true (sym (apart back refl) ∙ eq-eqb line back.line (sym (eqb-true back.line line is))))

no_open_write : (demand : Demand) → demand.ordered ≡ None → is_open_write demand.line (Some demand) ≡ false
no_open_write demand unordered = by (demand.line == demand.line) (is_getm demand.kind) (is_some demand.ordered) (ap is_some unordered) where
  by : (a b c : Bool) → c ≡ false → (a && b && c && not (ends_in_getm demand.list)) ≡ false
  by true true false e = refl
  by true false false e = refl
  by false true false e = refl
  by false false false e = refl
  by a b true e = absurd (false≢true (sym e))

-- a demand without words owns its line in no way
not_owned : (chip : Chip) (side : CacheSide) (demand : Demand) → SideFits chip side → side.misses.demand ≡ Some demand → demand.ordered ≡ None
    → is_owned_copy (lookup chip side.cache demand.line) ≡ false → owns chip side demand.line ≡ false
unfolding owns
not_owned chip side demand fits stands unordered unowned =
    neither (is_owned_copy (lookup chip side.cache demand.line)) (is_live_back demand.line side.misses.back) (is_open_write demand.line side.misses.demand) unowned
    (no_live_back demand.line side.misses.back (λ back is. fits.apart demand back stands is))
    (ap (is_open_write demand.line) stands ∙ no_open_write demand unordered)

now_ordered : (ordered : List Request) (q : Request) (node : Node) (demand : Demand) → slice_get ordered node.delivered ≡ Some q → q.source ≡ node.tile → SideFits node.chip node.side → OwnsByOrder ordered node
    → node.side.misses.demand ≡ Some demand → IsRequestOf demand q → words_here node.chip node.side demand demand.early ≡ None → (new : Node) → new.tile ≡ node.tile → new.delivered ≡ node.delivered + 1
    → OrderedHolds ordered new (record demand { ordered = Some node.delivered }) node.delivered
now_ordered ordered q node demand at source shape owns_is stands is none new tile delivered =
    let fits = shape.demand demand stands in
    let lacks = lacks_words node.chip node.side demand fits none in
    let inside = slice_get_within ordered node.delivered q at in
    let nothing : between node.delivered new.delivered ordered ≡ [] = ap (λ (n : ℕ). between node.delivered n ordered) delivered ∙ between_none ordered node.delivered inside in
    let empty = fits.unordered is.unordered in
    record {
      at = record {
        request = q;
        at = at;
        before = omega (arith, delivered);
        source = source ∙ sym tile;
        kind = sym is.kind;
        line = sym is.line;
        unowned = ap (λ (t : ℕ). is_tile t (owner demand.line (take node.delivered ordered))) tile
            ∙ sym (owns_is.lines demand.line)
            ∙ not_owned node.chip node.side demand shape stands is.unordered lacks.unowned;
        alone = ap (filter (is_get_of new.tile)) nothing;
      };
      follows = follows_by ordered new (record demand { ordered = Some node.delivered }) node.delivered new.tile [] refl nothing
          (record { once = λ reads. empty.1; list = λ writes. empty.0 });
    }

completes_or_waits : (ordered : List Request) (q : Request) (node : Node) (demand : Demand) (words : Option (List ℕ)) → slice_get ordered node.delivered ≡ Some q → q.source ≡ node.tile
    → SideFits node.chip node.side → OwnsByOrder ordered node → node.side.misses.demand ≡ Some demand → IsRequestOf demand q → words_here node.chip node.side demand demand.early ≡ words
    → After ordered node (ordered_with node.chip node.side node.delivered demand words).side
completes_or_waits ordered q node demand (Some words) at source shape owns_is stands is here d place there ordered_at =
    none_some d (ap (λ (misses : Misses). misses.demand) (sym (completed_none node.chip demand node.delivered words node.side)) ∙ there)
completes_or_waits ordered q node demand None at source shape owns_is stands is none d place there ordered_at =
    let now : Demand = record demand { ordered = Some node.delivered } in
    let same : now ≡ d = same_Some now d there in
    let at_place : node.delivered ≡ place = same_Some node.delivered place (ap (λ (x : Demand). x.ordered) same ∙ ordered_at) in
    let new : Node = record node { side = (ordered_with node.chip node.side node.delivered demand None).side; delivered = node.delivered + 1 } in
    subst (λ (x : Demand). OrderedHolds ordered new x place) same
    (subst (OrderedHolds ordered new now) at_place (now_ordered ordered q node demand at source shape owns_is stands is none new refl refl))

get_after : (ordered : List Request) (q : Request) (node : Node) (rest : List Request) → slice_get ordered node.delivered ≡ Some q → q.source ≡ node.tile → is_get q.kind ≡ true
    → SideFits node.chip node.side → OwnsByOrder ordered node → IsOutstanding (q ∷ rest) node.side.misses
    → After ordered node (own_get node.chip node.side node.delivered node.side.misses.demand).side
get_after ordered q node rest at source get shape owns_is under =
    let m = meets_get node.side q rest get under in
    subst (λ (o : Option Demand). After ordered node (own_get node.chip node.side node.delivered o).side) (sym m.stands)
    (completes_or_waits ordered q node m.demand (words_here node.chip node.side m.demand m.demand.early) at source shape owns_is m.stands m.is refl)

own_after : (ordered : List Request) (q : Request) (node : Node) (rest : List Request) (kind : Kind) → q.kind ≡ kind → slice_get ordered node.delivered ≡ Some q → (q.source == node.tile) ≡ true
    → SideFits node.chip node.side → OwnsByOrder ordered node → IsOutstanding (q ∷ rest) node.side.misses → OrderedFits ordered node
    → After ordered node (own_request node.chip node.side node.delivered kind).side
own_after ordered q node rest GetS is at own shape owns_is under fits = get_after ordered q node rest at (eqb-true q.source node.tile own) (ap is_get is) shape owns_is under
own_after ordered q node rest GetM is at own shape owns_is under fits = get_after ordered q node rest at (eqb-true q.source node.tile own) (ap is_get is) shape owns_is under
own_after ordered q node rest PutM is at own shape owns_is under fits = put_after ordered q node at own (ap is_get is) fits

-- what the delivery of the order's next request asks of what the tile has on its way: its own request is the first
abbrev pub IsFirstOwn : ℕ → Request → Misses → Type 0
IsFirstOwn tile q misses = (q.source == tile) ≡ true → (rest : List Request) × IsOutstanding (q ∷ rest) misses

pub ordered_delivered : (ordered : List Request) (q : Request) (node : Node) → slice_get ordered node.delivered ≡ Some q → SideFits node.chip node.side → OwnsByOrder ordered node
    → IsFirstOwn node.tile q node.side.misses → OrderedFits ordered node → OrderedFits ordered (node_after_request q node).0
unfolding node_after_request after_snoop
ordered_delivered ordered q node at shape owns_is first fits demand place stands ordered_at =
    let holds = by (q.source == node.tile) refl demand place stands ordered_at in
    record { at = same_at holds.at; follows = record { once = holds.follows.once; list = holds.follows.list } }
  where
    by : (own : Bool) → (q.source == node.tile) ≡ own
        → After ordered node (cond own (own_request node.chip node.side node.delivered q.kind) (snooped_with node.chip q node.side (holding node.chip node.side q.line) q.kind)).side
    by true own = let f = first own in own_after ordered q node f.0 q.kind refl at own shape owns_is f.1 fits
    by false other = other_after ordered q node at other shape fits

    same_at : IsOrderedAt ordered (record node { side = (cond (q.source == node.tile) (own_request node.chip node.side node.delivered q.kind) (snooped_with node.chip q node.side (holding node.chip node.side q.line) q.kind)).side; delivered = node.delivered + 1 }) demand place
        → IsOrderedAt ordered (node_after_request q node).0 demand place
    same_at is = record { request = is.request; at = is.at; before = is.before; source = is.source; kind = is.kind; line = is.line; unowned = is.unowned; alone = is.alone }
