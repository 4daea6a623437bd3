-- The trackers of all tiles.
use Rattle.std.specs.Prelude.{◌≡◌, ◌≢◌, ℕ, ◌+◌, ◌^◌, ◌<◌, List, [], ◌∷◌, ◌++◌, length, Some, IsSome, IfSome, slice_get}
use Rattle.std.specs.List.{All, AllByRecursion}
use Rattle.order_tracker.specs.Tracker.{TrackerState, IsNew, IsWindow, Follows, next_request_of}

-- a tracker that has seen no window
pub record IsUnused (tiles room : ℕ) (tracker : TrackerState) : Type 0 where
  pub new : IsNew tiles room tracker
  pub follows : Follows [] 0 tracker

-- so many of them
pub record AreUnused (tiles room : ℕ) (trackers : List TrackerState) : Type 0 where
  pub count : length trackers ≡ tiles
  pub each : All (IsUnused tiles room) trackers

-- a tracker may take in the vector of a window
pub record MayTakeIn (vector : ℕ) (tracker : TrackerState) : Type 0 where
  pub some : 0 < vector
  pub tiles : vector < 2 ^ tracker.tiles
  pub room : length tracker.windows < tracker.room
  pub count : tracker.number + length tracker.windows + 1 < 2 ^ 63

-- a tracker with one window more
abbrev pub with_window : TrackerState → ℕ → TrackerState
with_window tracker vector = record tracker { windows = tracker.windows ++ vector ∷ [] }

-- a tracker may pass over the request that comes next
pub record MayPass (tracker : TrackerState) : Type 0 where
  pub expected : IsSome (next_request_of tracker)
  pub count : IfSome (next_request_of tracker) (λ entry. entry.1 + 1 < 2 ^ 31)

-- a tracker has passed over one request
pub record PassesOver (old new : TrackerState) : Type 0 where
  pub tiles : new.tiles ≡ old.tiles
  pub room : new.room ≡ old.room
  pub sets : AllByRecursion (IsWindow new.tiles) new.windows
  pub follows : (windows : List ℕ) (used : ℕ) → Follows windows used old → Follows windows (used + 1) new

-- the tracker of a tile has passed over one request, and every other is as it was
pub record PassesAt (t : ℕ) (old new : List TrackerState) : Type 0 where
  pub count : length new ≡ length old
  pub passed : (before after : TrackerState) → slice_get old t ≡ Some before → slice_get new t ≡ Some after → PassesOver before after
  pub others : (u : ℕ) → u ≢ t → slice_get new u ≡ slice_get old u
