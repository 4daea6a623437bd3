-- What holds of every document that is accepted.
use Rattle.std.specs.Prelude.{◌≡◌, ◌+◌, ◌-◌, ◌*◌, max, length}
use Rattle.std.specs.List.{AllByRecursion}
use Rattle.mesh_gen.specs.Limits.{IsFrom, AreTiles, most_side}
use Rattle.doc_text.specs.Limits.{ArePosts}
use Rattle.doc_text.specs.Doc.{Doc}

-- every limit of a document
pub record KeepsLimits (doc : Doc) : Type 0 where
  pub cols : IsFrom 1 most_side doc.cols
  pub rows : IsFrom 1 most_side doc.rows
  pub window : IsFrom (max 1 ((doc.cols - 1) + (doc.rows - 1))) 64 doc.window
  pub vcs : IsFrom 1 8 doc.vcs
  pub data_vcs : IsFrom 1 4 doc.data_vcs
  pub lines : IsFrom 1 256 doc.lines
  pub sets : IsFrom 1 64 doc.sets
  pub ways : IsFrom 1 4 doc.ways
  pub controllers : AreTiles (doc.cols * doc.rows) doc.controllers
  pub memory : length doc.memory ≡ 4 * doc.lines
  pub words : AllByRecursion (IsFrom 0 4294967295) doc.memory
  pub programs : length doc.programs ≡ doc.cols * doc.rows
  pub posts : ArePosts (doc.cols * doc.rows) doc.posts
