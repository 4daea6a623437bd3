-- The limits of a document, as premises of the laws.
use Rattle.std.specs.Prelude.{◌≡◌, ◌*◌, ◌<◌, length}
use Rattle.mesh_gen.specs.Limits.{AreTiles}
use Rattle.mesh_gen.specs.Routes.{HasTiles}
use Rattle.doc_text.specs.Doc.{Doc}
use Rattle.chip_model.specs.Chip.{Chip, chip_of, tile_count}

-- a chip has some of each of its parts, and its controllers stand at tiles
pub record ChipFits (chip : Chip) : Type 0 where
  pub tiles : HasTiles chip.grid
  pub window : 0 < chip.window
  pub vcs : 0 < chip.vcs
  pub data_vcs : 0 < chip.data_vcs
  pub lines : 0 < chip.lines
  pub sets : 0 < chip.sets
  pub ways : 0 < chip.ways
  pub controllers : AreTiles (tile_count chip) chip.controllers

-- a document's chip fits, and it has four words a line and a program a tile
pub record DocFits (d : Doc) : Type 0 where
  pub chip : ChipFits (chip_of d)
  pub memory : length d.memory ≡ 4 * d.lines
  pub programs : length d.programs ≡ tile_count (chip_of d)
