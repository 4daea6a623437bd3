-- The mesh of a chip.
use Rattle.std.specs.Prelude.{◌≡◌, ℕ, ◌%◌, List, [], ◌∷◌, length, slice_index}
use Rattle.mesh_gen.specs.declared.mesh.Mesh.{Mesh}
use Rattle.mesh_gen.specs.Grid.{Grid}

-- the mesh as a grid of tiles
abbrev pub grid : Mesh → Grid
grid mesh = record { cols = mesh.cols; rows = mesh.rows }

-- a mesh of these sizes whose other fields have their defaults
pub record HasSize (cols rows window : ℕ) (mesh : Mesh) : Type 0 where
  pub cols_is : mesh.cols ≡ cols
  pub rows_is : mesh.rows ≡ rows
  pub window_is : mesh.window ≡ window
  pub vcs_is : mesh.vcs ≡ 1
  pub data_vcs_is : mesh.data_vcs ≡ 1
  pub lines_is : mesh.lines ≡ 16
  pub sets_is : mesh.sets ≡ 4
  pub ways_is : mesh.ways ≡ 1
  pub controllers_is : mesh.controllers ≡ 0 ∷ []

-- the tile whose controller keeps a line: the lines go round the tiles with a controller
abbrev pub home_among : List ℕ → ℕ → ℕ
home_among controllers line = slice_index controllers (line % length controllers)

-- the home of a line: the tile whose memory controller keeps it
abbrev pub home : Mesh → ℕ → ℕ
home mesh line = home_among mesh.controllers line
