-- No tile stands twice in the canonical table: among the controllers, and as the tile of a core.
use Rattle.std.proofs.Common.{◌≡◌, ℕ, ◌+◌, ◌*◌, ◌<◌, ◌≤◌, nat_eq, false, List, [], ◌∷◌, length, map, refl, ◌∙◌, ap, arith}
use Rattle.std.specs.List.{IsDistinct, AllByRecursion}
use Rattle.std.proofs.lemmas.Bool.{ne_eqb}
use Rattle.core_isa.specs.declared.instr.Instr.{Instr}
use Rattle.toml.specs.Data.{Members}
use Rattle.doc_text.specs.Doc.{Doc}
use Rattle.mesh_doc.specs.Values.{repeated}
use Rattle.mesh_doc.specs.Faults.{mesh_table, tiles_described, controllers, core_tile, core_tiles, controllers_twice, cores_twice}
use Rattle.mesh_doc.specs.Laws.{KeepsLimits}
use Rattle.canonical_form.proofs.LookUps.{IsMesh}
use Rattle.canonical_form.proofs.DistinctNumbers.{none_repeated}
use Rattle.canonical_form.proofs.ListValues.{tile-number, tiles-numbers}
use Rattle.canonical_form.proofs.CoreParts.{part_of_core, placed_cores}
use Rattle.canonical_form.proofs.WholeTable.{IsWhole, count_said}

-- ---- controllers

pub controllers_said : (doc : Doc) (top : Members) → IsMesh doc (mesh_table top) → KeepsLimits doc → controllers top ≡ doc.controllers
controllers_said doc top said limits = rw (said.cols, said.rows, said.controllers, tiles-numbers (doc.cols * doc.rows) doc.controllers limits.controllers) refl

none_twice : (list : List ℕ) → repeated list ≡ [] → controllers_twice list ≡ []
none_twice list none = rw none refl

pub controllers_apart : (doc : Doc) (top : Members) → IsMesh doc (mesh_table top) → KeepsLimits doc → controllers_twice (controllers top) ≡ []
controllers_apart doc top said limits =
    ap controllers_twice (controllers_said doc top said limits) ∙ none_twice doc.controllers (none_repeated doc.controllers limits.controllers.distinct)

-- ---- cores

pub core_tile-placed : (count at t : ℕ) (program : List Instr) → t < count → core_tile count (part_of_core at t program) ≡ t
core_tile-placed count at t program inside = rw (tile-number count t inside) refl

-- the tiles of the programs that have instructions
abbrev placed_tiles : ℕ → List (List Instr) → List ℕ
placed_tiles t [] = []
placed_tiles t ([] ∷ programs) = placed_tiles (t + 1) programs
placed_tiles t ((instr ∷ instrs) ∷ programs) = t ∷ placed_tiles (t + 1) programs

tiles_placed : (count at t : ℕ) (programs : List (List Instr)) → t + length programs ≤ count → map (core_tile count) (placed_cores at t programs) ≡ placed_tiles t programs
tiles_placed count at t [] inside = refl
tiles_placed count at t ([] ∷ programs) inside = tiles_placed count at (t + 1) programs (omega arith)
tiles_placed count at t ((instr ∷ instrs) ∷ programs) inside =
    rw (core_tile-placed count at t (instr ∷ instrs) (omega arith), tiles_placed count (at + 1) (t + 1) programs (omega arith)) refl

all_above : (low t : ℕ) (programs : List (List Instr)) → low < t → AllByRecursion (λ u. nat_eq low u ≡ false) (placed_tiles t programs)
all_above low t [] above = tt
all_above low t ([] ∷ programs) above = all_above low (t + 1) programs (omega arith)
all_above low t ((instr ∷ instrs) ∷ programs) above = (ne_eqb low t (omega arith), all_above low (t + 1) programs (omega arith))

tiles_apart : (t : ℕ) (programs : List (List Instr)) → IsDistinct nat_eq (placed_tiles t programs)
unfolding IsDistinct
tiles_apart t [] = tt
tiles_apart t ([] ∷ programs) = tiles_apart (t + 1) programs
tiles_apart t ((instr ∷ instrs) ∷ programs) = (all_above t (t + 1) programs (omega arith), tiles_apart (t + 1) programs)

none_again : (list : List ℕ) → repeated list ≡ [] → cores_twice list ≡ []
none_again list none = rw none refl

core_tiles_said : (doc : Doc) (top : Members) → IsWhole doc top → KeepsLimits doc → core_tiles top ≡ placed_tiles 0 doc.programs
core_tiles_said doc top said limits = rw (said.cores) (tiles_placed (tiles_described top) 0 0 doc.programs (omega (arith, limits.programs, count_said doc top said.mesh)))

pub cores_apart : (doc : Doc) (top : Members) → IsWhole doc top → KeepsLimits doc → cores_twice (core_tiles top) ≡ []
cores_apart doc top said limits =
    let tiles : List ℕ = placed_tiles 0 doc.programs in
    ap cores_twice (core_tiles_said doc top said limits) ∙ none_again tiles (none_repeated tiles (tiles_apart 0 doc.programs))
