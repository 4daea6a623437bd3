-- Which access a delivery or words that come complete: that of the demand, where its words are here, and else none.
use Rattle.std.proofs.Common.{◌≡◌, ◌≢◌, ℕ, ◌+◌, Bool, true, cond, refl, ◌∙◌, ap, Option, Some, None, List}
use Rattle.std.proofs.lemmas.Bool.{cond_both, eq-eqb, ne_eqb}
use Rattle.mesh_gen.specs.declared.kind.Kind.TheVariants.{PutM}
use Rattle.mesh_gen.specs.declared.request.Request.{Request}
use Rattle.chip_model.specs.Chip.{Chip}
use Rattle.chip_model.specs.Misses.{Demand, is_getm}
use Rattle.chip_model.specs.Snoop.{CacheSide, Outcome, completed, completed_load, completed_store, done_by, words_here, ordered_with, own_get, own_put}
use Rattle.chip_model.specs.Snoop.{own_request, holding, snooped_with, after_snoop, data_at, data_for, after_data}
use Rattle.chip_model.specs.Node.{Node, node_after_request, words_arrived}
use Rattle.chip_model.specs.Bookkeeping.{is_get}
use Rattle.snoop_core.proofs.OwnSteps.{met_done}
use Rattle.value_laws.proofs.OwnDeliveries.{get_request}

-- a completion does the access that waits
pub completed_done : (chip : Chip) (demand : Demand) (place : ℕ) (words : List ℕ) (side : CacheSide)
    → (completed chip demand place words side).done ≡ Some (done_by demand.pending (place + 1) words)
completed_done chip demand place words side =
    cond_both (is_getm demand.kind) (completed_store chip demand place words side) (completed_load chip demand place words side)
    (λ outcome. outcome.done ≡ Some (done_by demand.pending (place + 1) words)) (λ writes. refl) (λ reads. refl)

-- ---- a request of the tile's own
pub own_done : (q : Request) (node : Node) → q.source ≡ node.tile
    → (node_after_request q node).1 ≡ (own_request node.chip node.side node.delivered q.kind).done
unfolding node_after_request after_snoop
own_done q node source =
    ap (λ (b : Bool). (cond b (own_request node.chip node.side node.delivered q.kind)
    (snooped_with node.chip q node.side (holding node.chip node.side q.line) q.kind)).done)
    (eq-eqb q.source node.tile source)

-- its get, by the words that are here
pub get_done : (q : Request) (node : Node) (demand : Demand) → q.source ≡ node.tile → is_get q.kind ≡ true → node.side.misses.demand ≡ Some demand
    → (node_after_request q node).1
    ≡ (ordered_with node.chip node.side node.delivered demand (words_here node.chip node.side demand demand.early)).done
get_done q node demand source asks stands =
    own_done q node source
    ∙ ap (λ (o : Outcome). o.done) (get_request node.chip node.side node.delivered q.kind asks)
    ∙ ap (λ (o : Option Demand). (own_get node.chip node.side node.delivered o).done) stands

-- its write-back
pub put_done : (node : Node) → (own_request node.chip node.side node.delivered PutM).done ≡ None
put_done node = by node.side.misses.back where
  by : (entry : Option _) → (own_put node.chip node.side entry).done ≡ None
  by None = refl
  by (Some back) = refl

-- ---- a request of another tile
pub other_done : (q : Request) (node : Node) → q.source ≢ node.tile → (node_after_request q node).1 ≡ None
unfolding node_after_request after_snoop
other_done q node away =
    ap (λ (b : Bool). (cond b (own_request node.chip node.side node.delivered q.kind)
    (snooped_with node.chip q node.side (holding node.chip node.side q.line) q.kind)).done)
    (ne_eqb q.source node.tile away)
    ∙ met_done q (record { chip = node.chip; side = node.side })

-- ---- words that come, by the place of the demand
pub data_done : (node : Node) (words : List ℕ) (demand : Demand) (place : Option ℕ) → node.side.misses.demand ≡ Some demand → demand.ordered ≡ place
    → (words_arrived node words).1 ≡ (data_at node.chip node.side words demand place).done
unfolding after_data
data_done node words demand place stands ordered =
    ap (λ (o : Option Demand). (data_for node.chip node.side words o).done) stands
    ∙ ap (λ (o : Option ℕ). (data_at node.chip node.side words demand o).done) ordered
