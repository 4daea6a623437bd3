-- Each value of the canonical table is of the kind that its key wants.
use Rattle.std.proofs.Common.{◌≡◌, ℕ, ◌+◌, true, List, [], ◌∷◌, refl, ◌∙◌}
use Rattle.std.specs.List.{flat_map, enumerate_from}
use Rattle.core_isa.specs.declared.instr.Instr.{Instr}
use Rattle.toml.specs.Data.{string, array, table, Items, no_items, item, Members}
use Rattle.doc_text.specs.declared.key.Key.TheVariants.{Mesh, Posts, Core, Controllers, Memory}
use Rattle.doc_text.specs.declared.column.Shape.TheVariants.{Table, Integer, Text, Integers, Lists, Tables}
use Rattle.doc_text.specs.declared.key.Key.{Key}
use Rattle.doc_text.specs.Doc.{Doc}
use Rattle.doc_text.specs.Canonical.{shown_words}
use Rattle.mesh_doc.specs.Tables.{listed}
use Rattle.mesh_doc.specs.Faults.{are_integers, are_lists, no_table, wrong_value, wrong_in, wrong_kinds}
use Rattle.mesh_doc.proofs.Shapes.{right_kind}
use Rattle.canonical_form.specs.CanonicalTable.{number, numbers, lists, mesh_showing, mesh_entries, core_items, canonical_table}
use Rattle.canonical_form.proofs.LookUps.{whole}
use Rattle.canonical_form.proofs.CoreParts.{whole_part, part_of_mesh, part_of_core, clear_everywhere}

are_integers-numbers : (ns : List ℕ) → are_integers (array (numbers ns)) ≡ true
are_integers-numbers [] = refl
are_integers-numbers (n ∷ ns) = are_integers-numbers ns

are_lists-lists : (posts : List (List ℕ)) → are_lists (array (lists posts)) ≡ true
are_lists-lists [] = refl
are_lists-lists (window ∷ windows) = rw (are_integers-numbers window) (are_lists-lists windows)

no_table-cores : (at tile : ℕ) (programs : List (List Instr)) → flat_map (no_table Core) (enumerate_from at (listed (core_items tile programs))) ≡ []
no_table-cores at tile [] = refl
no_table-cores at tile ([] ∷ programs) = no_table-cores at (tile + 1) programs
no_table-cores at tile ((instr ∷ instrs) ∷ programs) = no_table-cores (at + 1) (tile + 1) programs

-- ---- value by value

right-table : (mesh : Members) → wrong_value Table Mesh 0 (table mesh) ≡ []
unfolding wrong_value
right-table mesh = refl

right-lists : (posts : List (List ℕ)) → wrong_value Lists Posts 0 (array (lists posts)) ≡ []
right-lists posts = right_kind Lists Posts 0 (array (lists posts)) (are_lists-lists posts)

right-cores : (programs : List (List Instr)) → wrong_value Tables Core 0 (array (core_items 0 programs)) ≡ []
right-cores programs = right_kind Tables Core 0 (array (core_items 0 programs)) refl ∙ no_table-cores 0 0 programs

right-numbers : (key : Key) (ns : List ℕ) → wrong_value Integers key 0 (array (numbers ns)) ≡ []
right-numbers key ns = right_kind Integers key 0 (array (numbers ns)) (are_integers-numbers ns)

right-number : (key : Key) (at n : ℕ) → wrong_value Integer key at (number n) ≡ []
unfolding wrong_value
right-number key at n = refl

right-text : (key : Key) (at : ℕ) (text : List ℕ) → wrong_value Text key at (string text) ≡ []
unfolding wrong_value
right-text key at text = refl

-- ---- table by table

in_whole : (cores : Items) (mesh : Members) (posts : List (List ℕ)) → wrong_value Tables Core 0 (array cores) ≡ [] → wrong_in (whole_part (whole cores mesh posts)) ≡ []
unfolding wrong_in
in_whole no_items mesh [] right = rw (right-table mesh) refl
in_whole no_items mesh (window ∷ windows) right = rw (right-table mesh, right-lists (window ∷ windows)) refl
in_whole (item first more) mesh [] right = rw (right-table mesh, right) refl
in_whole (item first more) mesh (window ∷ windows) right = rw (right-table mesh, right-lists (window ∷ windows), right) refl

in_mesh : (doc : Doc) (shown : List ℕ) → wrong_in (part_of_mesh (mesh_showing shown doc)) ≡ []
unfolding wrong_in
in_mesh doc [] = simp (right-number, right-numbers)
in_mesh doc (word ∷ words) = simp (right-number, right-numbers Controllers doc.controllers, right-numbers Memory (word ∷ words))

in_core : (at tile : ℕ) (program : List Instr) → wrong_in (part_of_core at tile program) ≡ []
unfolding wrong_in
in_core at tile program = simp (right-number, right-text)

pub right_kinds : (doc : Doc) → wrong_kinds (canonical_table doc) ≡ []
right_kinds doc =
    clear_everywhere wrong_in doc (in_whole (core_items 0 doc.programs) (mesh_entries doc) doc.posts (right-cores doc.programs)) (in_mesh doc (shown_words doc.memory)) in_core
