-- The neighbours of each tile, looked up once.
use Rattle.std.specs.Prelude.{◌≡◌, ℕ, ◌<◌, List, length, slice_index, slice_get, Some, unwrap_or, bit_or}
use Rattle.mesh_gen.specs.declared.port.Port.{Port}
use Rattle.mesh_gen.specs.declared.port.Port.TheVariants.{E, W, N, S}
use Rattle.mesh_gen.specs.Grid.{Grid, tiles, neighbour}
use Rattle.notify_net.specs.declared.links.Sides.{Sides}

-- the neighbour on a side, or the tile itself where there is none
abbrev pub beside : Grid → ℕ → Port → ℕ
beside g t p = unwrap_or (neighbour g t p) t

-- the four sides of a tile
abbrev pub neighbours_of : Grid → ℕ → Sides
neighbours_of g t = record { east = beside g t E; west = beside g t W; north = beside g t N; south = beside g t S }

-- the sides of each tile, in the order of the tiles
pub record AreLinks (g : Grid) (links : List Sides) : Type 0 where
  pub count : length links ≡ tiles g
  pub each : (t : ℕ) → t < tiles g → slice_get links t ≡ Some (neighbours_of g t)

-- the sides are among the first n tiles
pub record AreBelow (n : ℕ) (sides : Sides) : Type 0 where
  pub east : sides.east < n
  pub west : sides.west < n
  pub north : sides.north < n
  pub south : sides.south < n

-- what the word of a tile and those of its sides hold together
abbrev pub union_of : List ℕ → ℕ → Sides → ℕ
union_of words t sides =
    let word : ℕ → ℕ = λ u. slice_index words u in
    bit_or (bit_or (bit_or (bit_or (word t) (word sides.east)) (word sides.west)) (word sides.north)) (word sides.south)
