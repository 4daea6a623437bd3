-- The global order of requests: what every interface derives from the merged vectors of the windows.
use Rattle.std.specs.Prelude.{ℕ, ◌+◌, ◌-◌, ◌%◌, ◌==◌, List, [], ◌∷◌, ◌++◌, take, filter, count_by, Option, option_map, slice_get}
use Rattle.std.specs.List.{range_with_len}
use Rattle.mesh_gen.specs.TileSet.{has_tile}

-- so many numbers, upwards from a first one
abbrev pub upwards : ℕ → ℕ → List ℕ
upwards first count = range_with_len first count

-- n tiles, upwards from a first one and then from tile 0 up to it
abbrev pub round_from : ℕ → ℕ → List ℕ
round_from n first = upwards first (n - first) ++ upwards 0 first

-- the tiles of window number k by the rotating priority: its first turn is that of tile k modulo n
abbrev pub expansion : ℕ → ℕ → ℕ → List ℕ
expansion n k window = filter (has_tile window) (round_from n (k % n))

-- the sources of the requests of windows from number k on, window after window
abbrev pub order_from : ℕ → ℕ → List ℕ → List ℕ
order_from n k [] = []
order_from n k (window ∷ windows) = expansion n k window ++ order_from n (k + 1) windows

-- the sources of all requests
abbrev pub order : ℕ → List ℕ → List ℕ
order n windows = order_from n 0 windows

-- how many of some sources are this one
abbrev pub times : ℕ → List ℕ → ℕ
times source sources = count_by (λ s. s == source) sources

-- the request at a place of the order: its source, and how many requests of that source stand before it
abbrev pub entry_at : List ℕ → ℕ → Option (ℕ × ℕ)
entry_at sources place = option_map (λ source. (source, times source (take place sources))) (slice_get sources place)
