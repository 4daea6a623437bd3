-- The documents that a text can hold: the integers of TOML have 64 bits with a sign.
use Rattle.std.specs.Prelude.{ℕ, ◌<◌, ◌^◌, length}
use Rattle.std.specs.List.{All}
use Rattle.doc_text.specs.Doc.{Doc}

-- a number that is an integer of TOML
abbrev pub IsWritableNumber : ℕ → Type 0
IsWritableNumber n = n < 2 ^ 63

-- each number of the document is one; the tiles that have a program are numbered by their places
pub record IsWritable (doc : Doc) : Type 0 where
  pub cols : IsWritableNumber doc.cols
  pub rows : IsWritableNumber doc.rows
  pub window : IsWritableNumber doc.window
  pub vcs : IsWritableNumber doc.vcs
  pub data_vcs : IsWritableNumber doc.data_vcs
  pub lines : IsWritableNumber doc.lines
  pub sets : IsWritableNumber doc.sets
  pub ways : IsWritableNumber doc.ways
  pub controllers : All IsWritableNumber doc.controllers
  pub memory : All IsWritableNumber doc.memory
  pub programs : IsWritableNumber (length doc.programs)
  pub posts : All (All IsWritableNumber) doc.posts
