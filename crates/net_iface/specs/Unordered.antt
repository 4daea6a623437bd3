-- The requests of each tile that are not ordered yet, in lists of fixed room.
use Rattle.std.specs.Prelude.{◌≡◌, ◌⊎◌, ℕ, ◌<◌, ◌≤◌, true, false, List, [], ◌∷◌, ◌++◌, length, drop, Option, slice_get, slice_index_or}
use Rattle.circular_buffer.specs.Buffer.{Buffer, buffer}
use Rattle.mesh_gen.specs.declared.request.Request.{Request}
use Rattle.mesh_gen.specs.TileSet.{has_tile}

-- the list of a tile, with its room
abbrev pub unordered_at : List (Buffer Request) → ℕ → Buffer Request
unordered_at lists t = slice_index_or lists t (buffer [] 0)

-- the requests of a tile that are not ordered
abbrev pub unordered_of : List (Buffer Request) → ℕ → List Request
unordered_of lists t = (unordered_at lists t).items

-- the first request of a tile that is not ordered
abbrev pub lowest_of : List (Buffer Request) → ℕ → Option Request
lowest_of lists t = slice_get (unordered_of lists t) 0

-- a list with one more request
abbrev pub with_last : Buffer Request → Request → Buffer Request
with_last list q = buffer (list.items ++ q ∷ []) list.capacity

-- a list without its first request
abbrev pub without_first : Buffer Request → Buffer Request
without_first list = buffer (drop 1 list.items) list.capacity

-- the tiles of a set from one tile on and below another have lost their first request, and every other has what it had
pub record LoseLowest (from to tiles : ℕ) (old new : List (Buffer Request)) : Type 0 where
  pub count : length new ≡ length old
  pub lost : (t : ℕ) → from ≤ t → t < to → has_tile tiles t ≡ true → unordered_at new t ≡ without_first (unordered_at old t)
  pub left_out : (t : ℕ) → has_tile tiles t ≡ false → unordered_at new t ≡ unordered_at old t
  pub outside : (t : ℕ) → (t < from) ⊎ (to ≤ t) → unordered_at new t ≡ unordered_at old t
