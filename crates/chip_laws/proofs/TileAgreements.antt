-- A tile's node and interface agree with the order of requests: through each step of the node and of the network.
use Rattle.std.proofs.Common.{◌≡◌, ℕ, ◌+◌, ◌<◌, ◌≤◌, Bool, true, false, cond, refl, sym, ◌∙◌, ap, subst, arith, Some, List, [], ◌∷◌, ◌++◌, take, drop, length}
use Rattle.std.specs.Prelude.{◌==◌, slice_get}
use Rattle.std.proofs.lemmas.Bool.{eqb-true, eq-eqb}
use Rattle.std.proofs.lemmas.List.{take-append-le, drop-append-le}
use Rattle.mesh_gen.specs.declared.request.Request.{Request}
use Rattle.chip_model.specs.Chip.{Chip}
use Rattle.chip_model.specs.OrderedNetwork.{OrderedNetwork, Interface}
use Rattle.chip_model.specs.Snoop.{own_request, holding, snooped_with, after_snoop}
use Rattle.chip_model.specs.Node.{Node, node_after_request}
use Rattle.chip_model.specs.NodeShape.{SideFits}
use Rattle.chip_model.specs.Ownership.{delivered_to, OwnsByOrder}
use Rattle.chip_model.specs.Bookkeeping.{count_by_tile, IsOutstanding, TileAgrees, DemandIsFollowed}
use Rattle.chip_model.specs.NetworkFits.{InterfaceAgrees}
use Rattle.snoop_core.specs.Requests.{OwnRequestFits}
use Rattle.chip_laws.proofs.OrderLists.{count_next, drop_next, request_at, get_take}
use Rattle.chip_laws.proofs.SameAsked.{SameAsked, other_asked}
use Rattle.chip_laws.proofs.UnderWay.{under_way_same, meets_own, own_under_way}
use Rattle.chip_laws.proofs.OrderedDemands.{OrderedFits, ordered_grown, ordered_stays, OrderedStays}
use Rattle.chip_laws.proofs.OrderedDeliveries.{IsFirstOwn, ordered_delivered}
use Rattle.chip_laws.proofs.Each.{each_at, each_from, each_append}

-- what a node and an interface agree on, but for the place of an ordered demand
pub record TileKeeps (ordered : List Request) (t : ℕ) (interface : Interface) (node : Node) : Type 0 where
  pub tile : node.tile ≡ t
  pub counts : node.delivered ≡ interface.delivered
  pub lines : (n : ℕ) (q : Request) → slice_get interface.made n ≡ Some q → q.line < node.chip.lines
  pub under_way : IsOutstanding (drop (count_by_tile t (delivered_to ordered node)) interface.made) node.side.misses
  pub demand : OrderedFits ordered node

pub keeps_of : (net : OrderedNetwork) (t : ℕ) (interface : Interface) (node : Node) → TileAgrees net t interface node → DemandIsFollowed net.ordered node → TileKeeps net.ordered t interface node
keeps_of net t interface node agrees followed = record {
  tile = agrees.tile;
  counts = agrees.counts;
  lines = agrees.lines;
  under_way = agrees.under_way;
  demand = λ demand place stands ordered. record { at = agrees.demand demand place stands ordered; follows = followed demand place stands ordered };
}

pub agrees_by : (net : OrderedNetwork) (ordered : List Request) (t : ℕ) (interface : Interface) (node : Node) → net.ordered ≡ ordered → TileKeeps ordered t interface node → TileAgrees net t interface node
agrees_by net ordered t interface node same keeps =
    let now : TileKeeps net.ordered t interface node = subst (λ (rs : List Request). TileKeeps rs t interface node) (sym same) keeps in
    record {
      tile = now.tile;
      counts = now.counts;
      lines = now.lines;
      under_way = now.under_way;
      demand = λ demand place stands is. (now.demand demand place stands is).at;
    }

pub followed_by : (net : OrderedNetwork) (ordered : List Request) (t : ℕ) (interface : Interface) (node : Node) → net.ordered ≡ ordered → TileKeeps ordered t interface node → DemandIsFollowed net.ordered node
followed_by net ordered t interface node same keeps demand place stands is =
    let now : TileKeeps net.ordered t interface node = subst (λ (rs : List Request). TileKeeps rs t interface node) (sym same) keeps in
    (now.demand demand place stands is).follows

-- ---- the network steps, and the node does not: the order may grow
pub keeps_grown : (ordered more : List Request) (t : ℕ) (old new : Interface) (node : Node) → new.made ≡ old.made → new.delivered ≡ old.delivered → old.delivered ≤ length ordered
    → TileKeeps ordered t old node → TileKeeps (ordered ++ more) t new node
keeps_grown ordered more t old new node made delivered within is =
    let inside : node.delivered ≤ length ordered = omega (arith, is.counts) in
    record {
      tile = is.tile;
      counts = is.counts ∙ sym delivered;
      lines = λ n q at. is.lines n q (ap (λ (rs : List Request). slice_get rs n) (sym made) ∙ at);
      under_way = subst (λ (rest : List Request). IsOutstanding rest node.side.misses)
          (sym (ap (λ (rs : List Request). drop (count_by_tile t (take node.delivered (ordered ++ more))) rs) made
          ∙ ap (λ (rs : List Request). drop (count_by_tile t rs) old.made) (take-append-le node.delivered ordered more inside)))
          is.under_way;
      demand = ordered_grown ordered more node inside is.demand;
    }

-- ---- the node steps, and delivers nothing
pub record SameCounts (old new : Node) : Type 0 where
  pub chip : new.chip ≡ old.chip
  pub tile : new.tile ≡ old.tile
  pub delivered : new.delivered ≡ old.delivered

pub keeps_quiet : (ordered : List Request) (t : ℕ) (interface : Interface) (old new : Node) → SameCounts old new → SameAsked old.side.misses new.side.misses
    → OrderedStays old.side.misses.demand new.side.misses.demand → TileKeeps ordered t interface old → TileKeeps ordered t interface new
keeps_quiet ordered t interface old new same asked stays is = record {
  tile = same.tile ∙ is.tile;
  counts = same.delivered ∙ is.counts;
  lines = λ n q at. subst (λ (c : Chip). q.line < c.lines) (sym same.chip) (is.lines n q at);
  under_way = subst (λ (k : ℕ). IsOutstanding (drop (count_by_tile t (take k ordered)) interface.made) new.side.misses) (sym same.delivered)
      (under_way_same (drop (count_by_tile t (delivered_to ordered old)) interface.made) old.side.misses new.side.misses asked is.under_way);
  demand = ordered_stays ordered old new same.tile same.delivered stays is.demand;
}

-- ---- the node's request enters the network
pub keeps_made : (ordered : List Request) (t : ℕ) (old new : Interface) (before after : Node) (q : Request) → new.made ≡ old.made ++ q ∷ [] → new.delivered ≡ old.delivered
    → count_by_tile t (delivered_to ordered before) ≤ length old.made → q.line < before.chip.lines → SameCounts before after
    → ((rest : List Request) → IsOutstanding rest before.side.misses → IsOutstanding (rest ++ q ∷ []) after.side.misses)
    → OrderedStays before.side.misses.demand after.side.misses.demand → TileKeeps ordered t old before → TileKeeps ordered t new after
keeps_made ordered t old new before after q made delivered within line same under stays is = record {
  tile = same.tile ∙ is.tile;
  counts = same.delivered ∙ is.counts ∙ sym delivered;
  lines = λ n r at. subst (λ (c : Chip). r.line < c.lines) (sym same.chip) (one n r (ap (λ (rs : List Request). slice_get rs n) (sym made) ∙ at));
  under_way =
      let count = count_by_tile t (delivered_to ordered before) in
      let now : drop (count_by_tile t (delivered_to ordered after)) new.made ≡ drop count old.made ++ q ∷ [] =
      ap (λ (k : ℕ). drop (count_by_tile t (take k ordered)) new.made) same.delivered ∙ ap (drop count) made ∙ drop-append-le count old.made (q ∷ []) within in
      subst (λ (rest : List Request). IsOutstanding rest after.side.misses) (sym now) (under (drop count old.made) is.under_way);
  demand = ordered_stays ordered before after same.tile same.delivered stays is.demand;
}
  where
    last : (xs : List Request) (n : ℕ) (r : Request) → ((k : ℕ) (x : Request) → slice_get xs k ≡ Some x → x.line < before.chip.lines) → slice_get (xs ++ q ∷ []) n ≡ Some r → r.line < before.chip.lines
    last xs n r all at =
        each_at (λ (x : Request). x.line < before.chip.lines) (xs ++ q ∷ []) n r
        (each_append (λ (x : Request). x.line < before.chip.lines) xs (q ∷ []) (each_from (λ (x : Request). x.line < before.chip.lines) xs all) (line, _)) at

    one : (n : ℕ) (r : Request) → slice_get (old.made ++ q ∷ []) n ≡ Some r → r.line < before.chip.lines
    one n r at = last old.made n r is.lines at

-- ---- the next request of the order is delivered
-- the own request that comes next is the first of those that were made and not delivered
pub next_made : (net : OrderedNetwork) (t n : ℕ) (interface : Interface) (q : Request) → InterfaceAgrees net t interface → slice_get net.ordered n ≡ Some q → q.source ≡ t
    → slice_get interface.made (count_by_tile t (take n net.ordered)) ≡ Some q
next_made net t n interface q agrees at source =
    get_take interface.made (count_by_tile t net.ordered) (count_by_tile t (take n net.ordered)) q
    (ap (λ (rs : List Request). slice_get rs (count_by_tile t (take n net.ordered))) (sym agrees.ordered) ∙ request_at t net.ordered n q at source)

-- what is delivered to a tile is known
pub record Delivery (net : OrderedNetwork) (t : ℕ) (interface : Interface) (node : Node) (q : Request) : Type 0 where
  pub agrees : InterfaceAgrees net t interface
  pub at : slice_get net.ordered node.delivered ≡ Some q
  pub keeps : TileKeeps net.ordered t interface node

pub first_own : (net : OrderedNetwork) (t : ℕ) (interface : Interface) (node : Node) (q : Request) → Delivery net t interface node q → IsFirstOwn node.tile q node.side.misses
first_own net t interface node q is own =
    let source : q.source ≡ t = eqb-true q.source node.tile own ∙ is.keeps.tile in
    let count = count_by_tile t (delivered_to net.ordered node) in
    let next : drop count interface.made ≡ q ∷ drop (count + 1) interface.made = drop_next interface.made count q (next_made net t node.delivered interface q is.agrees is.at source) in
    (drop (count + 1) interface.made, subst (λ (rest : List Request). IsOutstanding rest node.side.misses) next is.keeps.under_way)

-- what the delivery of a request asks of its caller
pub own_request_fits : (net : OrderedNetwork) (t : ℕ) (interface : Interface) (node : Node) (q : Request) → Delivery net t interface node q → OwnRequestFits node.tile node.side q
own_request_fits net t interface node q is source =
    let first = first_own net t interface node q is (eq-eqb q.source node.tile source) in
    meets_own node.side q first.0 q.kind refl first.1

under_next : (net : OrderedNetwork) (t : ℕ) (interface : Interface) (node : Node) (q : Request) → Delivery net t interface node q
    → IsOutstanding (drop (count_by_tile t (take (node.delivered + 1) net.ordered)) interface.made) (after_snoop node.chip node.tile node.side node.delivered q).side.misses
unfolding after_snoop
under_next net t interface node q is = by (q.source == node.tile) refl
  where
    count : ℕ
    count = count_by_tile t (delivered_to net.ordered node)

    counted : (b : Bool) → (q.source == node.tile) ≡ b → count_by_tile t (take (node.delivered + 1) net.ordered) ≡ count + cond b 1 0
    counted b own = count_next t net.ordered node.delivered q is.at ∙ ap (λ (c : Bool). count + cond c 1 0) (ap (λ (k : ℕ). q.source == k) (sym is.keeps.tile) ∙ own)

    by : (b : Bool) → (q.source == node.tile) ≡ b → IsOutstanding (drop (count_by_tile t (take (node.delivered + 1) net.ordered)) interface.made)
        (cond b (own_request node.chip node.side node.delivered q.kind) (snooped_with node.chip q node.side (holding node.chip node.side q.line) q.kind)).side.misses
    by true own =
        let source : q.source ≡ t = eqb-true q.source node.tile own ∙ is.keeps.tile in
        let next : drop count interface.made ≡ q ∷ drop (count + 1) interface.made = drop_next interface.made count q (next_made net t node.delivered interface q is.agrees is.at source) in
        subst (λ (k : ℕ). IsOutstanding (drop k interface.made) (own_request node.chip node.side node.delivered q.kind).side.misses) (sym (counted true own))
        (own_under_way node.chip node.side node.delivered q (drop (count + 1) interface.made) q.kind refl (subst (λ (rest : List Request). IsOutstanding rest node.side.misses) next is.keeps.under_way))
    by false other =
        let same : count + 0 ≡ count = omega arith in
        subst (λ (k : ℕ). IsOutstanding (drop k interface.made) (snooped_with node.chip q node.side (holding node.chip node.side q.line) q.kind).side.misses) (sym (counted false other ∙ same))
        (under_way_same (drop count interface.made) node.side.misses _ (other_asked node.chip node.side q) is.keeps.under_way)

pub keeps_delivered : (net : OrderedNetwork) (t : ℕ) (interface new : Interface) (node : Node) (q : Request) → Delivery net t interface node q → new.made ≡ interface.made → new.delivered ≡ interface.delivered + 1
    → SideFits node.chip node.side → OwnsByOrder net.ordered node → TileKeeps net.ordered t new (node_after_request q node).0
unfolding node_after_request
keeps_delivered net t interface new node q is made delivered shape owns_is = record {
  tile = is.keeps.tile;
  counts = ap (λ (k : ℕ). k + 1) is.keeps.counts ∙ sym delivered;
  lines = λ n r at. is.keeps.lines n r (ap (λ (rs : List Request). slice_get rs n) (sym made) ∙ at);
  under_way = subst (λ (rs : List Request). IsOutstanding (drop (count_by_tile t (take (node.delivered + 1) net.ordered)) rs) (after_snoop node.chip node.tile node.side node.delivered q).side.misses) (sym made)
      (under_next net t interface node q is);
  demand = ordered_delivered net.ordered q node is.at shape owns_is (first_own net t interface node q is) is.keeps.demand;
}
