-- What the code has read of the values.
use Rattle.std.specs.Prelude.{◌≡◌, ℕ, ◌+◌, ◌-◌, ◌*◌, max, List, Some}
use Rattle.mesh_gen.specs.Limits.{IsFrom}
use Rattle.core_isa.specs.declared.instr.Instr.{Instr}
use Rattle.doc_text.specs.declared.document.Document.{Document}
use Rattle.toml.specs.Data.{Members}
use Rattle.doc_text.specs.declared.key.Key.TheVariants.{Posts, Controllers, Memory}
use Rattle.mesh_doc.specs.declared.said.Said.{Said}
use Rattle.mesh_doc.specs.Tables.{value}
use Rattle.mesh_doc.specs.Values.{tiles, windows, words}
use Rattle.mesh_doc.specs.Faults.{mesh_table, core_tiles}
use Rattle.mesh_doc.specs.Reading.{image}
use Rattle.mesh_doc.specs.Seen.{IsExtentOf, AreSizesOf}

-- how many tiles there are
abbrev pub count_of : Said → ℕ
count_of said = said.extent.cols * said.extent.rows

-- the values say this
pub record Says (top : Members) (said : Said) : Type 0 where
  pub extent : IsExtentOf (mesh_table top) said.extent
  pub sizes : AreSizesOf (mesh_table top) said.sizes
  pub window : IsFrom (max 1 ((said.extent.cols - 1) + (said.extent.rows - 1))) 64 said.sizes.window
  pub posts : windows (count_of said) (value Posts top) ≡ Some said.posts
  pub controllers : tiles (count_of said) (value Controllers (mesh_table top)) ≡ Some said.controllers.items
  pub words : words said.sizes.lines (value Memory (mesh_table top)) ≡ Some said.words.items
  pub core_tiles : core_tiles top ≡ said.core_tiles.items

-- the document of what was said, with these programs
pub record IsDocumentOf (said : Said) (placed : List (List Instr)) (document : Document) : Type 0 where
  pub cols : document.mesh.cols ≡ said.extent.cols
  pub rows : document.mesh.rows ≡ said.extent.rows
  pub window : document.mesh.window ≡ said.sizes.window
  pub vcs : document.mesh.vcs ≡ said.sizes.vcs
  pub data_vcs : document.mesh.data_vcs ≡ said.sizes.data_vcs
  pub lines : document.mesh.lines ≡ said.sizes.lines
  pub sets : document.mesh.sets ≡ said.sizes.sets
  pub ways : document.mesh.ways ≡ said.sizes.ways
  pub controllers : document.mesh.controllers ≡ said.controllers.items
  pub memory : document.memory ≡ image (4 * said.sizes.lines) said.words.items
  pub programs : document.programs ≡ placed
  pub posts : document.posts ≡ said.posts
