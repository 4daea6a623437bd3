-- A document as plain data.
use Rattle.std.specs.Prelude.{ℕ, List}
use Rattle.core_isa.specs.declared.instr.Instr.{Instr}
use Rattle.doc_text.specs.declared.document.Document.{Document}

-- the sizes of the chip, the tiles with a controller, the words of memory before the first step, the program of each
-- tile, and for each window the tiles that post in it
pub record Doc : Type 0 where
  pub cols : ℕ
  pub rows : ℕ
  pub window : ℕ
  pub vcs : ℕ
  pub data_vcs : ℕ
  pub lines : ℕ
  pub sets : ℕ
  pub ways : ℕ
  pub controllers : List ℕ
  pub memory : List ℕ
  pub programs : List (List Instr)
  pub posts : List (List ℕ)

-- the document as it is kept
abbrev pub doc_of : Document → Doc
doc_of document = record {
  cols = document.mesh.cols;
  rows = document.mesh.rows;
  window = document.mesh.window;
  vcs = document.mesh.vcs;
  data_vcs = document.mesh.data_vcs;
  lines = document.mesh.lines;
  sets = document.mesh.sets;
  ways = document.mesh.ways;
  controllers = document.mesh.controllers;
  memory = document.memory;
  programs = document.programs;
  posts = document.posts;
}
