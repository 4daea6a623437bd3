-- The canonical table has each key that is needed.
use Rattle.std.proofs.Common.{◌≡◌, ℕ, List, [], ◌∷◌, refl}
use Rattle.core_isa.specs.declared.instr.Instr.{Instr}
use Rattle.toml.specs.Data.{Items, no_items, item, Members}
use Rattle.doc_text.specs.Doc.{Doc}
use Rattle.doc_text.specs.Canonical.{shown_words}
use Rattle.mesh_doc.specs.Faults.{missing_in, missing_keys}
use Rattle.canonical_form.specs.CanonicalTable.{mesh_showing, mesh_entries, core_items, canonical_table}
use Rattle.canonical_form.proofs.LookUps.{whole}
use Rattle.canonical_form.proofs.CoreParts.{whole_part, part_of_mesh, part_of_core, clear_everywhere}

in_whole : (cores : Items) (mesh : Members) (posts : List (List ℕ)) → missing_in (whole_part (whole cores mesh posts)) ≡ []
unfolding missing_in
in_whole no_items mesh posts = refl
in_whole (item first more) mesh posts = refl

in_mesh : (doc : Doc) (shown : List ℕ) → missing_in (part_of_mesh (mesh_showing shown doc)) ≡ []
unfolding missing_in
in_mesh doc [] = refl
in_mesh doc (word ∷ words) = refl

in_core : (at tile : ℕ) (program : List Instr) → missing_in (part_of_core at tile program) ≡ []
unfolding missing_in
in_core at tile program = refl

pub none_missing : (doc : Doc) → missing_keys (canonical_table doc) ≡ []
none_missing doc = clear_everywhere missing_in doc (in_whole (core_items 0 doc.programs) (mesh_entries doc) doc.posts) (in_mesh doc (shown_words doc.memory)) in_core
