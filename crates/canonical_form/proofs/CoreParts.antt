-- The tables of the canonical table, in their places.
use Rattle.std.proofs.Common.{◌≡◌, ℕ, ◌+◌, List, [], ◌∷◌, Some, refl, ap}
use Rattle.std.specs.List.{flat_map, filter_map, enumerate_from}
use Rattle.core_isa.specs.declared.instr.Instr.{Instr}
use Rattle.toml.specs.Data.{array, Members}
use Rattle.doc_text.specs.declared.fault.DocFault.{DocFault}
use Rattle.doc_text.specs.declared.fault.Place.TheVariants.{Top, Mesh, Core}
use Rattle.doc_text.specs.declared.key.Key.TheVariants as key
use Rattle.doc_text.specs.Doc.{Doc}
use Rattle.mesh_doc.specs.Tables.{Part, listed, value, core_part, table_of_mesh, cores_of, parts_of}
use Rattle.canonical_form.specs.CanonicalTable.{mesh_entries, core_entries, core_items, canonical_table}
use Rattle.canonical_form.proofs.LookUps.{table_of_mesh-whole, core-whole}

abbrev pub whole_part : Members → Part
whole_part top = record { place = Top; table = top }

abbrev pub part_of_mesh : Members → Part
part_of_mesh mesh = record { place = Mesh; table = mesh }

-- the table of a core at its position in the list
abbrev pub part_of_core : ℕ → ℕ → List Instr → Part
part_of_core at tile program = record { place = Core at; table = core_entries tile program }

-- the tables of the programs that have instructions, of the tiles from this one on
abbrev pub placed_cores : ℕ → ℕ → List (List Instr) → List Part
placed_cores at tile [] = []
placed_cores at tile ([] ∷ programs) = placed_cores at (tile + 1) programs
placed_cores at tile ((instr ∷ instrs) ∷ programs) = part_of_core at tile (instr ∷ instrs) ∷ placed_cores (at + 1) (tile + 1) programs

listed-placed : (at tile : ℕ) (programs : List (List Instr)) → filter_map core_part (enumerate_from at (listed (core_items tile programs))) ≡ placed_cores at tile programs
listed-placed at tile [] = refl
listed-placed at tile ([] ∷ programs) = listed-placed at (tile + 1) programs
listed-placed at tile ((instr ∷ instrs) ∷ programs) =
    ap (λ (rest : List Part). part_of_core at tile (instr ∷ instrs) ∷ rest) (listed-placed (at + 1) (tile + 1) programs)

cores_of-placed : (top : Members) (programs : List (List Instr)) → value key.Core top ≡ array (core_items 0 programs) → cores_of top ≡ placed_cores 0 0 programs
unfolding cores_of
cores_of-placed top programs is = rw is (listed-placed 0 0 programs)

pub canonical-cores : (doc : Doc) → cores_of (canonical_table doc) ≡ placed_cores 0 0 doc.programs
canonical-cores doc = cores_of-placed (canonical_table doc) doc.programs (core-whole (core_items 0 doc.programs) (mesh_entries doc) doc.posts)

-- ---- what is found in no table is found nowhere

cores_clear : (f : Part → List DocFault) → ((at tile : ℕ) (program : List Instr) → f (part_of_core at tile program) ≡ []) → (at tile : ℕ) (programs : List (List Instr))
    → flat_map f (placed_cores at tile programs) ≡ []
cores_clear f clear at tile [] = refl
cores_clear f clear at tile ([] ∷ programs) = cores_clear f clear at (tile + 1) programs
cores_clear f clear at tile ((instr ∷ instrs) ∷ programs) = rw (clear at tile (instr ∷ instrs)) (cores_clear f clear (at + 1) (tile + 1) programs)

parts_clear : (f : Part → List DocFault) (top mesh : Members) (cores : List Part) → table_of_mesh top ≡ Some mesh → cores_of top ≡ cores
    → f (whole_part top) ≡ [] → f (part_of_mesh mesh) ≡ [] → flat_map f cores ≡ [] → flat_map f (parts_of top) ≡ []
unfolding parts_of
parts_clear f top mesh cores has_mesh has_cores in_whole in_mesh in_cores = rw (has_mesh, has_cores, in_whole, in_mesh, in_cores) refl

pub clear_everywhere : (f : Part → List DocFault) (doc : Doc) → f (whole_part (canonical_table doc)) ≡ [] → f (part_of_mesh (mesh_entries doc)) ≡ []
    → ((at tile : ℕ) (program : List Instr) → f (part_of_core at tile program) ≡ []) → flat_map f (parts_of (canonical_table doc)) ≡ []
clear_everywhere f doc in_whole in_mesh in_core =
    parts_clear f (canonical_table doc) (mesh_entries doc) (placed_cores 0 0 doc.programs)
    (table_of_mesh-whole (core_items 0 doc.programs) (mesh_entries doc) doc.posts) (canonical-cores doc)
    in_whole in_mesh (cores_clear f in_core 0 0 doc.programs)
