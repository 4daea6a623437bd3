-- The sizes of a chip as plain data.
use Rattle.std.specs.Prelude.{ℕ, ◌*◌, ◌/◌, ◌%◌, List}
use Rattle.mesh_gen.specs.declared.mesh.Mesh.{Mesh}
use Rattle.mesh_gen.specs.Grid.{Grid, tiles}
use Rattle.mesh_gen.specs.Mesh.{grid, home_among}
use Rattle.doc_text.specs.Doc.{Doc}

-- where its tiles stand, how many ticks a window takes, the channels of a port for requests and for replies, the lines
-- of memory, the sets and ways of a cache, and the tiles with a memory controller
pub record Chip : Type 0 where
  pub grid : Grid
  pub window : ℕ
  pub vcs : ℕ
  pub data_vcs : ℕ
  pub lines : ℕ
  pub sets : ℕ
  pub ways : ℕ
  pub controllers : List ℕ

-- the chip of a mesh, and that of a document
abbrev pub chip_of_mesh : Mesh → Chip
chip_of_mesh mesh = record {
  grid = grid mesh;
  window = mesh.window;
  vcs = mesh.vcs;
  data_vcs = mesh.data_vcs;
  lines = mesh.lines;
  sets = mesh.sets;
  ways = mesh.ways;
  controllers = mesh.controllers;
}

-- the chip of a document
abbrev pub chip_of : Doc → Chip
chip_of d = record {
  grid = record { cols = d.cols; rows = d.rows };
  window = d.window;
  vcs = d.vcs;
  data_vcs = d.data_vcs;
  lines = d.lines;
  sets = d.sets;
  ways = d.ways;
  controllers = d.controllers;
}

-- how many tiles the chip has
abbrev pub tile_count : Chip → ℕ
tile_count chip = tiles chip.grid

-- the tile whose controller keeps a line
abbrev pub home : Chip → ℕ → ℕ
home chip line = home_among chip.controllers line

-- the set of a cache to which a line belongs
unfoldable pub set_number : Chip → ℕ → ℕ
set_number chip line = line % chip.sets

-- an address of the chip's memory: sums of addresses wrap at its end
abbrev pub address_in : Chip → ℕ → ℕ
address_in chip sum = sum % (4 * chip.lines)

-- the line of an address, and the place of its word there
abbrev pub line_of : ℕ → ℕ
line_of address = address / 4

-- the place of an address in its line
abbrev pub word_of : ℕ → ℕ
word_of address = address % 4
