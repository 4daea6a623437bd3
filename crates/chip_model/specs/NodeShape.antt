-- The shape of a node: what holds of its cache, its demand and its write-back whatever the order of requests is.
use Rattle.std.specs.Prelude.{◌≡◌, ℕ, ◌+◌, ◌<◌, ◌≤◌, ◌==◌, Bool, true, false, [], ◌∷◌, length, Option, Some, None, is_some, slice_get, slice_index_or, count_by}
use Rattle.mesh_gen.specs.declared.kind.Kind.TheVariants.{GetS, GetM}
use Rattle.mesh_gen.specs.declared.msg.Msg.{Msg}
use Rattle.mesh_gen.specs.Ports.{count_if}
use Rattle.chip_model.specs.declared.line_state.State.{State}
use Rattle.chip_model.specs.declared.line_state.State.TheVariants.{M, O, S}
use Rattle.chip_model.specs.Chip.{Chip, set_number, line_of, home}
use Rattle.chip_model.specs.Cache.{Cache, Ways, Held, found, lookup, fits}
use Rattle.chip_model.specs.Misses.{Demand, WriteBack, request_for, ends_in_getm}
use Rattle.chip_model.specs.Snoop.{CacheSide}
use Rattle.chip_model.specs.Node.{Node, is_back}
use Rattle.chip_model.specs.Ownership.{is_owned_copy}

-- no line stands in two ways of a set
abbrev pub IsApart : Ways → Type 0
IsApart [] = Unit {0}
IsApart (None ∷ ways) = IsApart ways
IsApart (Some held ∷ ways) = (found held.line ways ≡ None) × IsApart ways

-- a cache has its sets and ways, and a line stands in its own set, once
pub record IsCache (chip : Chip) (cache : Cache) : Type 0 where
  pub sets : length cache ≡ chip.sets
  pub ways : (set : ℕ) (ways : Ways) → slice_get cache set ≡ Some ways → length ways ≡ chip.ways
  pub apart : (set : ℕ) → IsApart (slice_index_or cache set [])
  pub placed : (set line : ℕ) → is_some (found line (slice_index_or cache set [])) ≡ true → set_number chip line ≡ set

-- the state of the only valid copy
abbrev pub is_modified_state : State → Bool
is_modified_state M = true
is_modified_state O = false
is_modified_state S = false

-- the copy is the only valid one
abbrev pub is_modified : Option Held → Bool
is_modified None = false
is_modified (Some held) = is_modified_state held.state

-- how a demand stands to the cache: its line may come in without another one leaving; it is there only where a write
-- waits for more than a copy to read; a demand asks for what its access needs, and is sent, ordered and answered in turn
pub record DemandFits (chip : Chip) (cache : Cache) (demand : Demand) : Type 0 where
  pub asks : demand.kind ≡ request_for demand.pending.kind
  pub line : line_of demand.pending.address ≡ demand.line
  pub room : fits chip cache demand.line ≡ true
  pub unmodified : is_modified (lookup chip cache demand.line) ≡ false
  pub absent : demand.kind ≡ GetS → lookup chip cache demand.line ≡ None
  pub unowned : is_some demand.ordered ≡ true → is_owned_copy (lookup chip cache demand.line) ≡ false
  pub unsent : demand.sent ≡ false → (demand.ordered ≡ None) × (demand.early ≡ None)
  pub waits : is_some demand.ordered ≡ true → demand.early ≡ None
  pub unordered : demand.ordered ≡ None → (demand.list ≡ []) × (demand.once ≡ false)
  pub reads : demand.kind ≡ GetS → demand.list ≡ []
  pub writes : demand.kind ≡ GetM → demand.once ≡ false
  -- no copy stays where the line goes on to a tile that writes it
  pub gone : ends_in_getm demand.list ≡ true → lookup chip cache demand.line ≡ None

-- the cache, the demand and the write-back of a node fit each other
pub record SideFits (chip : Chip) (side : CacheSide) : Type 0 where
  pub cache : IsCache chip side.cache
  pub demand : (demand : Demand) → side.misses.demand ≡ Some demand → DemandFits chip side.cache demand
  -- a line that is written back has left the cache, and is none that is waited for
  pub back : (back : WriteBack) → side.misses.back ≡ Some back → lookup chip side.cache back.line ≡ None
  pub apart : (demand : Demand) (back : WriteBack) → side.misses.demand ≡ Some demand → side.misses.back ≡ Some back → (demand.line == back.line) ≡ false

-- all lines are lines of memory, and the records are those of the lines whose home the node is
pub record LinesFit (node : Node) : Type 0 where
  pub cached : (line : ℕ) → is_some (lookup node.chip node.side.cache line) ≡ true → line < node.chip.lines
  pub demand : (demand : Demand) → node.side.misses.demand ≡ Some demand → demand.line < node.chip.lines
  pub back : (back : WriteBack) → node.side.misses.back ≡ Some back → back.line < node.chip.lines
  pub records : (line : ℕ) → line < node.chip.lines → is_some (slice_index_or node.records line None) ≡ (home node.chip line == node.tile)

-- at most one line is under way back to memory from here: as a write-back, or as words in the queue
abbrev pub OneBack : Node → Type 0
OneBack node = count_if (is_some node.side.misses.back) + count_by (λ (msg : Msg). is_back msg.kind) node.out ≤ 1

-- the shape of a node
pub record NodeFits (node : Node) : Type 0 where
  pub side : SideFits node.chip node.side
  pub back : OneBack node
  pub lines : LinesFit node
