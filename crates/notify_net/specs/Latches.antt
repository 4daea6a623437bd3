-- The latches of a mesh, one a tile, and what calls do to them.
use Rattle.std.specs.Prelude.{◌≡◌, ℕ, ◌^◌, ◌<◌, List, length, replicate, slice_index, slice_set, Option, None, Some, bit_or}
use Rattle.mesh_gen.specs.declared.port.Port.{Port}
use Rattle.mesh_gen.specs.declared.port.Port.TheVariants.{E, W, N, S}
use Rattle.mesh_gen.specs.Grid.{Grid, tiles, neighbour}

-- a set of tiles for each tile of the grid
pub record LatchState : Type 0 where
  pub grid : Grid
  pub latches : List ℕ

-- each latch is empty
abbrev pub cleared : Grid → LatchState
cleared g = record { grid = g; latches = replicate (tiles g) 0 }

-- the latch of a tile takes in the tile itself
abbrev pub latches_after_post : ℕ → LatchState → LatchState
latches_after_post t s = record s { latches = slice_set s.latches t (bit_or (slice_index s.latches t) (2 ^ t)) }

-- what the latch of a tile holds, where there is one
abbrev pub latch_of : LatchState → Option ℕ → ℕ
latch_of s None = 0
latch_of s (Some t) = slice_index s.latches t

-- what a latch and those of its neighbours hold together
abbrev pub taken_in : LatchState → ℕ → ℕ
taken_in s t =
    let beside : Port → ℕ = λ p. latch_of s (neighbour s.grid t p) in
    bit_or (bit_or (bit_or (bit_or (slice_index s.latches t) (beside E)) (beside W)) (beside N)) (beside S)

-- each latch takes in what those of its neighbours hold, all at once
pub record Ticks (old new : LatchState) : Type 0 where
  pub grid_is : new.grid ≡ old.grid
  pub count : length new.latches ≡ length old.latches
  pub each : (t : ℕ) → t < tiles old.grid → slice_index new.latches t ≡ taken_in old t
