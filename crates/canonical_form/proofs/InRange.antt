-- Each value of the canonical table keeps to its limit.
use Rattle.std.proofs.Common.{◌≡◌, ℕ, ◌+◌, ◌-◌, ◌*◌, ◌≤◌, max, true, List, [], ◌∷◌, length, Some, refl, arith}
use Rattle.std.specs.List.{flat_map}
use Rattle.mesh_gen.specs.Limits.{IsFrom, most_side}
use Rattle.core_isa.specs.declared.instr.Instr.{Instr}
use Rattle.toml.specs.Data.{array, Members}
use Rattle.doc_text.specs.declared.key.Key.{Key}
use Rattle.doc_text.specs.declared.key.Key.TheVariants.{Posts, Cols, Rows, Window, Vcs, DataVcs, Lines, Sets, Ways, Controllers, Memory}
use Rattle.doc_text.specs.declared.column.Limit.TheVariants.{Number}
use Rattle.doc_text.specs.Keys.{row_of}
use Rattle.doc_text.specs.Canonical.{shown_words}
use Rattle.doc_text.specs.Doc.{Doc}
use Rattle.mesh_doc.specs.Tables.{value}
use Rattle.mesh_doc.specs.Values.{Sizes, sizes_of, is_within, words}
use Rattle.mesh_doc.specs.Faults.{mesh_table, mesh_sizes, tiles_described, range_fault, core_range_fault, out_of_range}
use Rattle.mesh_doc.specs.Laws.{KeepsLimits}
use Rattle.mesh_doc.proofs.Limits.{fits, core_fits}
use Rattle.mesh_doc.proofs.Ranges.{of_size, of_numbers, of_tiles, nowhere}
use Rattle.canonical_form.specs.CanonicalTable.{number, numbers}
use Rattle.canonical_form.proofs.LookUps.{IsMesh}
use Rattle.canonical_form.proofs.ListValues.{number_in-number, tile-number, tiles-numbers, windows-lists, words-numbers, all_shown, few_shown}
use Rattle.canonical_form.proofs.CoreParts.{part_of_core, placed_cores}
use Rattle.canonical_form.proofs.WholeTable.{IsWhole, count_said}

number_fits : (sizes : Sizes) (mesh : Members) (key : Key) (least most n : ℕ) → (row_of key).limit ≡ Number least most → value key mesh ≡ number n → IsFrom least most n → range_fault sizes mesh key ≡ []
number_fits sizes mesh key least most n limit said is = fits sizes mesh key (rw (limit, said, number_in-number least most n is) refl)

-- ---- values whose limits depend on the sizes

window_fits : (doc : Doc) (mesh : Members) → IsMesh doc mesh → KeepsLimits doc → is_within (sizes_of mesh) (row_of Window).limit (value Window mesh) ≡ true
window_fits doc mesh said limits = rw (said.cols, said.rows, said.window, number_in-number (max 1 ((doc.cols - 1) + (doc.rows - 1))) 64 doc.window limits.window) refl

controllers_fit : (doc : Doc) (mesh : Members) → IsMesh doc mesh → KeepsLimits doc → is_within (sizes_of mesh) (row_of Controllers).limit (value Controllers mesh) ≡ true
controllers_fit doc mesh said limits = rw (said.cols, said.rows, said.controllers, tiles-numbers (doc.cols * doc.rows) doc.controllers limits.controllers) refl

pub words_said : (doc : Doc) → KeepsLimits doc → words doc.lines (array (numbers (shown_words doc.memory))) ≡ Some (shown_words doc.memory)
words_said doc limits =
    words-numbers doc.lines (shown_words doc.memory) (omega (arith, few_shown doc.memory, limits.memory)) (all_shown (IsFrom 0 4294967295) doc.memory limits.words)

memory_fits : (doc : Doc) (mesh : Members) → IsMesh doc mesh → KeepsLimits doc → is_within (sizes_of mesh) (row_of Memory).limit (value Memory mesh) ≡ true
memory_fits doc mesh said limits = rw (said.lines, said.memory, words_said doc limits) refl

posts_fit : (doc : Doc) (top : Members) → IsWhole doc top → KeepsLimits doc → is_within (mesh_sizes top) (row_of Posts).limit (value Posts top) ≡ true
posts_fit doc top said limits = rw (said.mesh.cols, said.mesh.rows, said.posts, windows-lists (doc.cols * doc.rows) doc.posts limits.posts) refl

-- ---- the tiles of the cores

cores_fit : (count at t : ℕ) (programs : List (List Instr)) → t + length programs ≤ count → flat_map (core_range_fault count) (placed_cores at t programs) ≡ []
cores_fit count at t [] inside = refl
cores_fit count at t ([] ∷ programs) inside = cores_fit count at (t + 1) programs (omega arith)
cores_fit count at t ((instr ∷ instrs) ∷ programs) inside =
    rw (core_fits count (part_of_core at t (instr ∷ instrs)) t (tile-number count t (omega arith))) (cores_fit count (at + 1) (t + 1) programs (omega arith))

-- ---- the whole

numbers_fit : (doc : Doc) (top : Members) → IsMesh doc (mesh_table top) → KeepsLimits doc → of_numbers top ≡ []
numbers_fit doc top said limits =
    let mesh = mesh_table top in
    let sizes = mesh_sizes top in
    rw (
      fits sizes mesh Window (window_fits doc mesh said limits),
      number_fits sizes mesh Vcs 1 8 doc.vcs refl said.vcs limits.vcs,
      number_fits sizes mesh DataVcs 1 4 doc.data_vcs refl said.data_vcs limits.data_vcs,
      number_fits sizes mesh Lines 1 256 doc.lines refl said.lines limits.lines,
      number_fits sizes mesh Sets 1 64 doc.sets refl said.sets limits.sets,
      number_fits sizes mesh Ways 1 4 doc.ways refl said.ways limits.ways,
    ) refl

size_fits : (doc : Doc) (top : Members) → IsMesh doc (mesh_table top) → KeepsLimits doc → of_size top ≡ []
size_fits doc top said limits =
    let mesh = mesh_table top in
    let sizes = mesh_sizes top in
    rw (number_fits sizes mesh Cols 1 most_side doc.cols refl said.cols limits.cols, number_fits sizes mesh Rows 1 most_side doc.rows refl said.rows limits.rows) refl

tiles_fit : (doc : Doc) (top : Members) → IsWhole doc top → KeepsLimits doc → of_tiles top ≡ []
tiles_fit doc top said limits = rw (said.cores) (cores_fit (tiles_described top) 0 0 doc.programs (omega (arith, limits.programs, count_said doc top said.mesh)))

pub in_range : (doc : Doc) (top : Members) → IsWhole doc top → KeepsLimits doc → out_of_range top ≡ []
in_range doc top said limits =
    let mesh = mesh_table top in
    let sizes = mesh_sizes top in
    nowhere top (size_fits doc top said.mesh limits) (fits sizes top Posts (posts_fit doc top said limits)) (numbers_fit doc top said.mesh limits)
    (fits sizes mesh Controllers (controllers_fit doc mesh said.mesh limits)) (fits sizes mesh Memory (memory_fits doc mesh said.mesh limits)) (tiles_fit doc top said limits)
