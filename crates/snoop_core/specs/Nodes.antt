-- What holds of every node.
use Rattle.std.specs.Prelude.{◌≡◌, ℕ, ◌<◌, Some}
use Rattle.chip_model.specs.Chip.{tile_count}
use Rattle.chip_model.specs.Misses.{Demand, Misses}
use Rattle.chip_model.specs.Node.{Node}
use Rattle.chip_model.specs.NodeShape.{NodeFits}

-- an ordered demand has its place among the requests that were delivered
abbrev pub IsPlaced : Misses → ℕ → Type 0
IsPlaced misses delivered = (demand : Demand) (place : ℕ) → misses.demand ≡ Some demand → demand.ordered ≡ Some place → place < delivered

-- its tile is one of the chip, and its cache, demand, write-back and records fit each other
pub record NodeIsSound (node : Node) : Type 0 where
  pub tile : node.tile < tile_count node.chip
  pub fits : NodeFits node
  pub placed : IsPlaced node.side.misses node.delivered
