-- What a tracker keeps, and what it stands for.
use Rattle.std.specs.Prelude.{◌≡◌, ℕ, ◌+◌, ◌^◌, ◌<◌, ◌≤◌, List, [], length, take, drop, Option, option_map, slice_get, slice_index}
use Rattle.order_tracker.specs.Order.{order_from, order, times}

-- how many tiles there are; the windows that are not used up, of the first of them the tiles whose turn is to come;
-- that window's number; of each tile how many entries were used; and how many windows there is room for
pub record TrackerState : Type 0 where
  pub tiles : ℕ
  pub windows : List ℕ
  pub number : ℕ
  pub used : List ℕ
  pub room : ℕ

-- a tracker of a mesh with so many tiles and room for so many windows, before any window
pub record IsNew (tiles room : ℕ) (s : TrackerState) : Type 0 where
  pub tiles_is : s.tiles ≡ tiles
  pub windows_is : s.windows ≡ []
  pub number_is : s.number ≡ 0
  pub used_is : (t : ℕ) → slice_index s.used t ≡ 0
  pub room_is : s.room ≡ room

-- the sources of the requests that are still to come
abbrev pub left_of : TrackerState → List ℕ
left_of s = order_from s.tiles s.number s.windows

-- the request that comes next
abbrev pub next_request_of : TrackerState → Option (ℕ × ℕ)
next_request_of s = option_map (λ source. (source, slice_index s.used source)) (slice_get (left_of s) 0)

-- these windows were pushed, and so many entries of their order were used
pub record Follows (windows : List ℕ) (used : ℕ) (s : TrackerState) : Type 0 where
  pub pushed : s.number + length s.windows ≡ length windows
  pub left : left_of s ≡ drop used (order s.tiles windows)
  pub within : used ≤ length (order s.tiles windows)
  pub counted : (t : ℕ) → t < s.tiles → slice_index s.used t ≡ times t (take used (order s.tiles windows))

-- a set of some of so many tiles
pub record IsWindow (tiles window : ℕ) : Type 0 where
  pub some : 0 < window
  pub inside : window < 2 ^ tiles
