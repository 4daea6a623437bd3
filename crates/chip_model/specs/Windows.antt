-- The notification network, window by window: which tiles posted, and what each tile has taken of the merged vectors.
use Rattle.std.specs.Prelude.{ℕ, ◌+◌, ◌^◌, ◌==◌, Bool, not, ◌&&◌, List, [], ◌∷◌, ◌++◌, length, Option, Some, slice_get, set, replicate, nat_lt, bit_or, if◌then◌else◌}
use Rattle.mesh_gen.specs.TileSet.{has_tile}
use Rattle.mesh_gen.specs.Partial.{when, ◌>>=◌}

-- the ticks of the open window so far, the set of the tiles that posted in it, the vectors of the closed windows, and of
-- each tile how many of these it has taken
pub record Windows : Type 0 where
  pub phase : ℕ
  pub posts : ℕ
  pub closed : List ℕ
  pub taken : List ℕ

-- the windows of so many tiles before any tick
abbrev pub opening_windows : ℕ → Windows
opening_windows tiles = record { phase = 0; posts = 0; closed = []; taken = replicate tiles 0 }

-- a tile may post before the window's first tick, once
abbrev pub may_post : Windows → ℕ → Bool
may_post w t = (w.phase == 0) && nat_lt t (length w.taken) && not (has_tile w.posts t)

-- a tile posts
unfoldable pub after_post : Windows → ℕ → Option Windows
after_post w t = when (may_post w t) (Some (record w { posts = bit_or (2 ^ t) w.posts }))

-- the window ends: its vector is the set of all that posted
abbrev pub window_closed : Windows → Windows
window_closed w = record w { phase = 0; posts = 0; closed = w.closed ++ w.posts ∷ [] }

-- whether one more tick ends a window of so many
abbrev pub is_last_tick : ℕ → Windows → Bool
is_last_tick ticks w = w.phase + 1 == ticks

-- a tick is only in a window in which a tile posted
unfoldable pub after_tick : ℕ → Windows → Option Windows
after_tick ticks w = when (nat_lt 0 w.posts) (Some (
    if is_last_tick ticks w then window_closed w else record w { phase = w.phase + 1 }))

-- the vector that the tick closes
unfoldable pub closed_by_tick : ℕ → Windows → Option ℕ
closed_by_tick ticks w = when (is_last_tick ticks w) (Some w.posts)

-- the next vector that a tile has not taken
unfoldable pub next_vector : Windows → ℕ → Option ℕ
next_vector w t = slice_get w.taken t >>= slice_get w.closed

-- a tile takes the next closed vector
unfoldable pub after_take : Windows → ℕ → Option Windows
after_take w t = slice_get w.taken t >>= (λ count. slice_get w.closed count >>= (λ vector. Some (record w { taken = set w.taken t (count + 1) })))
