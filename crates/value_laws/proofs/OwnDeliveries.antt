-- A tile delivers its own request: what its node becomes, and which messages it has to send.
use Rattle.std.proofs.Common.{◌≡◌, ℕ, zero, suc, ◌+◌, Bool, true, cond, refl, ap, inl, inr, ◌⊎◌, Some, List, [], ◌∷◌, ◌++◌}
use Rattle.std.specs.Prelude.{slice_get}
use Rattle.std.proofs.lemmas.Bool.{eq-eqb}
use Rattle.mesh_gen.specs.declared.kind.Kind.{Kind}
use Rattle.mesh_gen.specs.declared.kind.Kind.TheVariants.{GetS, GetM, PutM}
use Rattle.mesh_gen.specs.declared.request.Request.{Request}
use Rattle.chip_model.specs.Chip.{Chip}
use Rattle.chip_model.specs.Records.{answered}
use Rattle.chip_model.specs.Snoop.{CacheSide, Outcome, holding, snooped_with, own_get, own_request, after_snoop}
use Rattle.chip_model.specs.Node.{Node, node_after_request}
use Rattle.chip_model.specs.Bookkeeping.{is_get}

-- the node after its cache did this, and its controller what it does
abbrev pub delivered_node : Request → Node → Outcome → Node
delivered_node q node outcome = record node {
  side = outcome.side;
  records = (answered q node.records).records;
  out = node.out ++ outcome.sends ++ (answered q node.records).sends;
  delivered = node.delivered + 1;
}

pub own_node : (q : Request) (node : Node) → q.source ≡ node.tile
    → (node_after_request q node).0 ≡ delivered_node q node (own_request node.chip node.side node.delivered q.kind)
unfolding node_after_request after_snoop
own_node q node source =
    ap (λ (b : Bool). delivered_node q node (cond b (own_request node.chip node.side node.delivered q.kind)
    (snooped_with node.chip q node.side (holding node.chip node.side q.line) q.kind)))
    (eq-eqb q.source node.tile source)

-- a get is that of the demand
pub get_request : (chip : Chip) (side : CacheSide) (place : ℕ) (kind : Kind) → is_get kind ≡ true
    → own_request chip side place kind ≡ own_get chip side place side.misses.demand
get_request chip side place GetS asks = refl
get_request chip side place GetM asks = refl
get_request chip side place PutM asks = cc

-- an element of two lists that are joined
pub of_append : {X : Type 0} (xs ys : List X) (i : ℕ) (x : X) → slice_get (xs ++ ys) i ≡ Some x
    → (slice_get xs i ≡ Some x) ⊎ ((j : ℕ) × (slice_get ys j ≡ Some x))
of_append [] ys i x at = inr (i, at)
of_append (y ∷ xs) ys zero x at = inl at
of_append (y ∷ xs) ys (suc i) x at = of_append xs ys i x at
