-- What each step of the windows does.
use Rattle.std.specs.Prelude.{◌≡◌, ℕ, ◌+◌, ◌^◌, ◌<◌, false, length, Some, slice_get, set, bit_or, if◌then◌else◌}
use Rattle.mesh_gen.specs.TileSet.{has_tile}
use Rattle.chip_model.specs.Windows.{Windows, window_closed, is_last_tick}

-- a tile that has not posted in the open window does so before its first tick
pub record TilePosts (t : ℕ) (old new : Windows) : Type 0 where
  pub first : old.phase ≡ 0
  pub tile : t < length old.taken
  pub fresh : has_tile old.posts t ≡ false
  pub is : new ≡ record old { posts = bit_or (2 ^ t) old.posts }

-- a tick passes in a window in which a tile posted, and the last one closes it
pub record TickPasses (ticks : ℕ) (old new : Windows) : Type 0 where
  pub posted : 0 < old.posts
  pub is : new ≡ (if is_last_tick ticks old then window_closed old else record old { phase = old.phase + 1 })

-- a tile takes the closed vector after those that it has taken
pub record TileTakes (t : ℕ) (old new : Windows) : Type 0 where
  pub count : ℕ
  pub vector : ℕ
  pub counted : slice_get old.taken t ≡ Some count
  pub there : slice_get old.closed count ≡ Some vector
  pub is : new ≡ record old { taken = set old.taken t (count + 1) }
