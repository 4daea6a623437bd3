-- The canonical table says each field of its document.
use Rattle.std.proofs.Common.{◌≡◌, ℕ, zero, suc, ◌+◌, ◌*◌, ◌<◌, ◌≤◌, List, [], ◌∷◌, ◌++◌, length, map, refl, sym, ap, ◌∙◌, arith}
use Rattle.std.specs.List.{AllByRecursion, range_with_len}
use Rattle.std.proofs.lemmas.Bool.{ne_eqb}
use Rattle.std.proofs.lemmas.Bool.Decides.{nat_tests}
use Rattle.core_isa.specs.declared.instr.Instr.{Instr}
use Rattle.core_isa.specs.Program.{IsProgram}
use Rattle.toml.specs.Data.{Members}
use Rattle.doc_text.specs.Canonical.{shown_words}
use Rattle.doc_text.specs.Doc.{Doc}
use Rattle.doc_text.proofs.ShownWords.{shown_words-padded}
use Rattle.mesh_doc.specs.Tables.{Part, cores_of}
use Rattle.mesh_doc.specs.Faults.{tiles_described, core_tile}
use Rattle.mesh_doc.specs.Reading.{image, program_in, program_of_tile, document}
use Rattle.mesh_doc.specs.Laws.{KeepsLimits}
use Rattle.canonical_form.specs.CanonicalDoc.{IsCanonicalDoc}
use Rattle.canonical_form.proofs.ListValues.{windows-lists}
use Rattle.canonical_form.proofs.CoreParts.{part_of_core, placed_cores}
use Rattle.canonical_form.proofs.WholeTable.{IsWhole, count_said}
use Rattle.canonical_form.proofs.InRange.{words_said}
use Rattle.canonical_form.proofs.CoresApart.{controllers_said, core_tile-placed}
use Rattle.canonical_form.proofs.ProgramsAssemble.{program_in-placed}

-- ---- the program of each tile

here : (count : ℕ) (core : Part) (rest : List Part) (t : ℕ) (program : List Instr) → core_tile count core ≡ t → program_in core ≡ program → program_of_tile count (core ∷ rest) t ≡ program
unfolding program_of_tile
here count core rest t program tile_is is = rw (tile_is, is) (grind (arith, nat_tests))

elsewhere : (count : ℕ) (core : Part) (rest : List Part) (t u : ℕ) → core_tile count core ≡ t → (t ≡ u → ⊥) → program_of_tile count (core ∷ rest) u ≡ program_of_tile count rest u
unfolding program_of_tile
elsewhere count core rest t u tile_is other = rw (tile_is, ne_eqb t u other) refl

nothing_before : (count at t : ℕ) (programs : List (List Instr)) (u : ℕ) → u < t → t + length programs ≤ count → program_of_tile count (placed_cores at t programs) u ≡ []
unfolding program_of_tile
nothing_before count at t [] u before inside = refl
nothing_before count at t ([] ∷ programs) u before inside = nothing_before count at (t + 1) programs u (omega arith) (omega arith)
nothing_before count at t ((instr ∷ instrs) ∷ programs) u before inside =
    elsewhere count (part_of_core at t (instr ∷ instrs)) (placed_cores (at + 1) (t + 1) programs) t u
    (core_tile-placed count at t (instr ∷ instrs) (omega arith)) (λ same. omega arith)
    ∙ nothing_before count (at + 1) (t + 1) programs u (omega arith) (omega arith)

past : (count : ℕ) (core : Part) (rest : List Part) (t low n : ℕ) → core_tile count core ≡ t → t < low
    → map (program_of_tile count (core ∷ rest)) (range_with_len low n) ≡ map (program_of_tile count rest) (range_with_len low n)
past count core rest t low zero tile_is above = refl
past count core rest t low (suc n) tile_is above =
    rw (elsewhere count core rest t low tile_is (λ same. omega arith), past count core rest t (low + 1) n tile_is (omega arith)) refl

programs_placed : (count at t : ℕ) (programs : List (List Instr)) → t + length programs ≤ count → AllByRecursion IsProgram programs
    → map (program_of_tile count (placed_cores at t programs)) (range_with_len t (length programs)) ≡ programs
programs_placed count at t [] inside are = refl
programs_placed count at t ([] ∷ programs) inside are =
    rw (nothing_before count at (t + 1) programs t (omega arith) (omega arith), programs_placed count at (t + 1) programs (omega arith) are.1) refl
programs_placed count at t ((instr ∷ instrs) ∷ programs) inside are =
    let core : Part = part_of_core at t (instr ∷ instrs) in
    let rest : List Part = placed_cores (at + 1) (t + 1) programs in
    let tile_is : core_tile count core ≡ t = core_tile-placed count at t (instr ∷ instrs) (omega arith) in
    rw (
      here count core rest t (instr ∷ instrs) tile_is (program_in-placed at t (instr ∷ instrs) are.0),
      past count core rest t (t + 1) (length programs) tile_is (omega arith),
      programs_placed count (at + 1) (t + 1) programs (omega arith) are.1,
    ) refl

pub programs_said : (doc : Doc) (top : Members) → IsWhole doc top → IsCanonicalDoc doc → map (program_of_tile (tiles_described top) (cores_of top)) (range_with_len 0 (tiles_described top)) ≡ doc.programs
programs_said doc top said is =
    let count : tiles_described top ≡ length doc.programs = count_said doc top said.mesh ∙ sym is.keeps.programs in
    rw (said.cores, count) (programs_placed (length doc.programs) 0 0 doc.programs (omega arith) is.programs)

-- ---- the other fields

memory_said : (doc : Doc) → KeepsLimits doc → image (4 * doc.lines) (shown_words doc.memory) ≡ doc.memory
memory_said doc limits = rw (← limits.memory) (shown_words-padded doc.memory)

pub fields_said : (doc : Doc) (top : Members) → IsWhole doc top → IsCanonicalDoc doc → document top ≡ doc
unfolding document
fields_said doc top said is =
    rw (
      programs_said doc top said is,
      controllers_said doc top said.mesh is.keeps,
      said.mesh.window,
      said.mesh.vcs,
      said.mesh.data_vcs,
      said.mesh.lines,
      said.mesh.sets,
      said.mesh.ways,
      said.mesh.memory,
      words_said doc is.keeps,
      memory_said doc is.keeps,
      said.mesh.cols,
      said.mesh.rows,
      said.posts,
      windows-lists (doc.cols * doc.rows) doc.posts is.keeps.posts,
    ) refl
