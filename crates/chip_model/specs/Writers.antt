-- Who has written and who may still write: by the order of requests and by what nodes have of it.
use Rattle.std.specs.Prelude.{◌≡◌, ◌≢◌, ◌⊎◌, ℕ, ◌<◌, ◌≤◌, ◌==◌, Bool, true, false, ◌&&◌, is_some, List, length, take, Option, Some, None, slice_get}
use Rattle.mesh_gen.specs.declared.kind.Kind.TheVariants.{GetM}
use Rattle.mesh_gen.specs.declared.request.Request.{Request}
use Rattle.report_text.specs.declared.access.Access.{Access}
use Rattle.chip_model.specs.declared.line_state.State.{State}
use Rattle.chip_model.specs.declared.line_state.State.TheVariants.{M, O, S}
use Rattle.chip_model.specs.declared.owner.Owner.{Owner}
use Rattle.chip_model.specs.declared.owner.Owner.TheVariants.{Memory, Tile}
use Rattle.chip_model.specs.Chip.{line_of}
use Rattle.chip_model.specs.Cache.{Held, lookup}
use Rattle.chip_model.specs.Misses.{Demand, is_getm}
use Rattle.chip_model.specs.Node.{Node}
use Rattle.chip_model.specs.Units.{UnitState}
use Rattle.chip_model.specs.ChipState.{ChipState}
use Rattle.chip_model.specs.Ownership.{writer, delivered_to}
use Rattle.chip_model.specs.NodeShape.{is_modified}
use Rattle.chip_model.specs.Witness.{is_write}

-- the place of an ordered demand, and else a count
abbrev pub time_of_place : Option ℕ → ℕ → ℕ
time_of_place None delivered = delivered
time_of_place (Some place) delivered = place

-- an ordered demand to write a line
abbrev pub is_ordered_write : ℕ → Option Demand → Bool
is_ordered_write line None = false
is_ordered_write line (Some demand) = (demand.line == line) && is_getm demand.kind && is_some demand.ordered

-- the time up to which a node has performed accesses: the place of its ordered demand, and else its delivered count
abbrev pub time_of_demand : Option Demand → ℕ → ℕ
time_of_demand None delivered = delivered
time_of_demand (Some demand) delivered = time_of_place demand.ordered delivered

-- the same of a node
abbrev pub latest_time : Node → ℕ
latest_time node = time_of_demand node.side.misses.demand node.delivered

-- each access that was performed came in time, and each write from the tile that might write its line then
pub record IsTimely (s : ChipState) : Type 0 where
  pub times : (t place : ℕ) (unit : UnitState) (access : Access) → slice_get s.units t ≡ Some unit → slice_get s.accesses place ≡ Some access → access.tile ≡ t → access.time ≤ latest_time unit.node
  pub writers : (place : ℕ) (access : Access) → slice_get s.accesses place ≡ Some access → is_write access ≡ true →
      (writer (line_of access.address) (take access.time s.network.ordered) ≡ Tile access.tile) × (access.time ≤ length s.network.ordered)

-- a copy in M may be written by its tile, one in O by none, and one in S by none but a tile whose own demand to write the
-- line is ordered
abbrev pub writer_for_state : Node → Held → State → Owner → Type 0
writer_for_state node held M w = w ≡ Tile node.tile
writer_for_state node held O w = w ≡ Memory
writer_for_state node held S w = (w ≡ Memory) ⊎ ((w ≡ Tile node.tile) × (is_ordered_write held.line node.side.misses.demand ≡ true))

-- what a copy's state says of who may write its line
abbrev pub writer_for : Node → Held → Owner → Type 0
writer_for node held w = writer_for_state node held held.state w

-- what the copies of a node say of who may write their lines
abbrev pub WritersFit : List Request → Node → Type 0
WritersFit ordered node = (line : ℕ) (held : Held) → lookup node.chip node.side.cache line ≡ Some held → writer_for node held (writer line (delivered_to ordered node))

-- a tile has no write to a line still to come with a time up to a place: it has delivered its GetM for the line at the
-- places below, an ordered one that has not completed stands at the place or after it, and where it has the only copy
-- its count is beyond the place
pub record IsSettled (ordered : List Request) (node : Node) (line place : ℕ) : Type 0 where
  pub delivered : (g : ℕ) (q : Request) → g < place → slice_get ordered g ≡ Some q → q.line ≡ line → q.kind ≡ GetM → q.source ≡ node.tile → g < node.delivered
  pub demand : (demand : Demand) (g : ℕ) → node.side.misses.demand ≡ Some demand → demand.ordered ≡ Some g → demand.kind ≡ GetM → demand.line ≡ line → place ≤ g
  pub modified : is_modified (lookup node.chip node.side.cache line) ≡ true → place < node.delivered

-- no tile has one
abbrev pub AllSettled : ChipState → ℕ → ℕ → Type 0
AllSettled s line place = (t : ℕ) (unit : UnitState) → slice_get s.units t ≡ Some unit → IsSettled s.network.ordered unit.node line place

-- no tile but this one has one
abbrev pub OthersSettled : ChipState → ℕ → ℕ → ℕ → Type 0
OthersSettled s line place tile = (t : ℕ) (unit : UnitState) → slice_get s.units t ≡ Some unit → t ≢ tile → IsSettled s.network.ordered unit.node line place
