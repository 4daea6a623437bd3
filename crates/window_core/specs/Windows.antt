-- The windows of a mesh's notification network, and what is true of them at every moment.
use Rattle.std.specs.Prelude.{◌≡◌, ◌⊎◌, ℕ, ◌^◌, ◌<◌, ◌≤◌, List, length, Some, slice_get}
use Rattle.mesh_gen.specs.Grid.{Grid, tiles, diameter}
use Rattle.mesh_gen.specs.TileSet.{set_of}
use Rattle.notify_net.specs.Latches.{LatchState}
use Rattle.notify_net.specs.Merge.{IsAtPhase}
use Rattle.order_tracker.specs.Tracker.{IsWindow}
use Rattle.chip_model.specs.Windows.{Windows, opening_windows}

-- the grid, the ticks that a window takes, the windows, and how many of them there is room for in all
pub record WindowsState : Type 0 where
  pub grid : Grid
  pub ticks : ℕ
  pub windows : Windows
  pub room : ℕ

-- the windows of latches
abbrev pub state_of : LatchState → ℕ → Windows → ℕ → WindowsState
state_of latches ticks windows room = record { grid = latches.grid; ticks = ticks; windows = windows; room = room }

-- before any tick
abbrev pub opening_state : Grid → ℕ → ℕ → WindowsState
opening_state g ticks room = record { grid = g; ticks = ticks; windows = opening_windows (tiles g); room = room }

-- what no call changes
pub record SameSizes (old new : WindowsState) : Type 0 where
  pub grid_is : new.grid ≡ old.grid
  pub ticks_is : new.ticks ≡ old.ticks
  pub room_is : new.room ≡ old.room

-- a window of so many ticks is not over and ticks only where a tile posted, each closed vector is a set of some tiles, and
-- no tile has taken more vectors than there are
pub record WindowsHold (tiles ticks : ℕ) (w : Windows) : Type 0 where
  pub phase : w.phase < ticks
  pub begun : (w.phase ≡ 0) ⊎ (0 < w.posts)
  pub posts : w.posts < 2 ^ tiles
  pub closed : (k vector : ℕ) → slice_get w.closed k ≡ Some vector → IsWindow tiles vector
  pub count : length w.taken ≡ tiles
  pub taken : (t count : ℕ) → slice_get w.taken t ≡ Some count → count ≤ length w.closed

-- besides, a window is long enough to cross the grid, and there is room for the vectors
pub record AreSound (s : WindowsState) : Type 0 where
  pub some : 0 < tiles s.grid
  pub few : tiles s.grid ≤ 64
  pub wide : diameter s.grid ≤ s.ticks
  pub holds : WindowsHold (tiles s.grid) s.ticks s.windows
  pub room : length s.windows.closed ≤ s.room

-- besides, the latches hold what the ticks of the open window have made of its posts
pub record IsKept (latches : LatchState) (ticks : ℕ) (windows : Windows) (room : ℕ) : Type 0 where
  pub sound : AreSound (state_of latches ticks windows room)
  pub list : List ℕ
  pub set : set_of list ≡ windows.posts
  pub at : IsAtPhase latches.grid list windows.phase latches
