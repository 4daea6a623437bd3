-- The load of a number: 16 tiles, whose programs are drawn.
use Rattle.std.specs.Prelude.{ℕ, ◌+◌, ◌*◌, ◌/◌, ◌%◌, ◌==◌, List, [], ◌∷◌, ◌++◌, map, replicate, if◌then◌else◌}
use Rattle.std.specs.List.{range_with_len}
use Rattle.core_isa.specs.declared.instr.Instr.{Instr}
use Rattle.core_isa.specs.declared.instr.Instr.TheVariants.{Addi, Ld, St, Bne, Tid}
use Rattle.doc_text.specs.Doc.{Doc}
use Rattle.rand_core.specs.Steps.{first_words}
use Rattle.rand_pcg.specs.Lcg.{Lcg, advance, started, increment_of}
use Rattle.rand_pcg.specs.Pcg.{multiplier_64, pcg32}

-- the generator of a load: its first stream, started from the load's number
abbrev pub generator : ℕ → Lcg
generator number = started 64 multiplier_64 number (increment_of 64 1)

-- the access that a word stands for: its address is one of 56, after the lines of the token and of the counter; a load into
-- r2, or a store of the tile's number
abbrev pub access : ℕ → Instr
access word = if word / 64 % 2 == 0 then Ld 2 0 (8 + word % 56) else St 1 0 (8 + word % 56)

-- waits at place 9 until the token at address 0 is the tile's number, adds one to the counter at address 4, and makes the
-- token the next tile's number
abbrev pub guarded : List Instr
guarded = Ld 3 0 0 ∷ Bne 3 1 9 ∷ Ld 4 0 4 ∷ Addi 4 4 1 ∷ St 4 0 4 ∷ Addi 5 1 1 ∷ St 5 0 0 ∷ []

-- a program whose eight accesses are drawn from a generator
abbrev pub program : Lcg → List Instr
program words = Tid 1 ∷ map access (first_words pcg32 8 words) ++ guarded

-- the program of a tile: its eight words come after those of the tiles before it
abbrev pub program_at : ℕ → ℕ → List Instr
program_at number tile = program (advance 64 multiplier_64 (8 * tile) (generator number))

-- the programs of all tiles
abbrev pub programs : ℕ → List (List Instr)
programs number = map (program_at number) (range_with_len 0 16)

-- the load of a number
abbrev pub load : ℕ → Doc
load number = record {
  cols = 4;
  rows = 4;
  window = 6;
  vcs = 2;
  data_vcs = 2;
  lines = 16;
  sets = 2;
  ways = 1;
  controllers = 0 ∷ 15 ∷ [];
  memory = replicate 64 0;
  programs = programs number;
  posts = [];
}
