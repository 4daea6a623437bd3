-- Who owns a line, and who may write it: folds over the global order.
use Rattle.std.specs.Prelude.{◌≡◌, ℕ, ◌==◌, Bool, false, not, ◌&&◌, ◌||◌, List, take, Option, Some, None, is_some, slice_index_or, if◌then◌else◌}
use Rattle.std.specs.List.{fold}
use Rattle.mesh_gen.specs.declared.kind.Kind.{Kind}
use Rattle.mesh_gen.specs.declared.kind.Kind.TheVariants.{GetS, GetM, PutM}
use Rattle.mesh_gen.specs.declared.request.Request.{Request}
use Rattle.chip_model.specs.declared.owner.Owner.{Owner}
use Rattle.chip_model.specs.declared.owner.Owner.TheVariants.{Memory, Tile}
use Rattle.chip_model.specs.Chip.{Chip}
use Rattle.chip_model.specs.Cache.{Held, is_shared, lookup}
use Rattle.chip_model.specs.Misses.{Demand, WriteBack, is_getm, ends_in_getm}
use Rattle.chip_model.specs.Snoop.{CacheSide}
use Rattle.chip_model.specs.Records.{LineRecord}
use Rattle.chip_model.specs.Node.{Node}

-- the owner is this tile
abbrev pub is_tile : ℕ → Owner → Bool
is_tile t Memory = false
is_tile t (Tile owner) = owner == t

-- a tile writes the line back: that counts where it owned it
abbrev pub written_back : ℕ → Owner → Owner
written_back t owner = if is_tile t owner then Memory else owner

-- the owner after one more request for the line: a GetM makes its tile the owner, a PutM of the owner the memory
abbrev pub owner_by : ℕ → Kind → Owner → Owner
owner_by t GetS owner = owner
owner_by t GetM owner = Tile t
owner_by t PutM owner = written_back t owner

-- the owner of a line after one more request
unfoldable pub owner_after : ℕ → Owner → Request → Owner
owner_after line owner q = if q.line == line then owner_by q.source q.kind owner else owner

-- the owner of a line after these requests
unfoldable pub owner : ℕ → List Request → Owner
owner line requests = fold (owner_after line) Memory requests

-- who may write the line after one more request for it: a GetS takes that from everyone
abbrev pub writer_by : ℕ → Kind → Owner → Owner
writer_by t GetS writer = Memory
writer_by t GetM writer = Tile t
writer_by t PutM writer = written_back t writer

-- who may write a line after one more request
unfoldable pub writer_after : ℕ → Owner → Request → Owner
writer_after line writer q = if q.line == line then writer_by q.source q.kind writer else writer

-- the tile that may write a line after these requests, and Memory where none may
unfoldable pub writer : ℕ → List Request → Owner
writer line requests = fold (writer_after line) Memory requests

-- The ways in which a node owns a line: a copy in M or O, a live write-back, and an ordered demand to write from which
-- the line does not go on to another tile.
abbrev pub is_owned_copy : Option Held → Bool
is_owned_copy None = false
is_owned_copy (Some held) = not (is_shared held.state)

-- a write-back under which the node owns the line
abbrev pub is_live_back : ℕ → Option WriteBack → Bool
is_live_back line None = false
is_live_back line (Some back) = (back.line == line) && back.live

-- an ordered demand to write from which the line does not go on
abbrev pub is_open_write : ℕ → Option Demand → Bool
is_open_write line None = false
is_open_write line (Some demand) =
    (demand.line == line) && is_getm demand.kind && is_some demand.ordered && not (ends_in_getm demand.list)

-- the node owns a line in one of these ways
unfoldable pub owns : Chip → CacheSide → ℕ → Bool
owns chip side line =
    is_owned_copy (lookup chip side.cache line) || is_live_back line side.misses.back || is_open_write line side.misses.demand

-- the requests that were delivered to a node
abbrev pub delivered_to : List Request → Node → List Request
delivered_to ordered node = take node.delivered ordered

-- the law of ownership at a node: it owns exactly the lines of which it is the owner after the requests delivered to it,
-- and its records name the owners
pub record OwnsByOrder (ordered : List Request) (node : Node) : Type 0 where
  pub lines : (line : ℕ) → owns node.chip node.side line ≡ is_tile node.tile (owner line (delivered_to ordered node))
  pub records : (line : ℕ) (r : LineRecord) → slice_index_or node.records line None ≡ Some r → r.owner ≡ owner line (delivered_to ordered node)
