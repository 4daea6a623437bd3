-- Each key of the canonical table is a key of its level.
use Rattle.std.proofs.Common.{◌≡◌, ℕ, List, [], ◌∷◌, refl}
use Rattle.core_isa.specs.declared.instr.Instr.{Instr}
use Rattle.toml.specs.Data.{Items, no_items, item, Members}
use Rattle.doc_text.specs.Doc.{Doc}
use Rattle.doc_text.specs.Canonical.{shown_words}
use Rattle.mesh_doc.specs.Faults.{unknown_in, unknown_keys}
use Rattle.canonical_form.specs.CanonicalTable.{mesh_showing, mesh_entries, core_items, canonical_table}
use Rattle.canonical_form.proofs.LookUps.{whole}
use Rattle.canonical_form.proofs.CoreParts.{whole_part, part_of_mesh, part_of_core, clear_everywhere}

in_whole : (cores : Items) (mesh : Members) (posts : List (List ℕ)) → unknown_in (whole_part (whole cores mesh posts)) ≡ []
unfolding unknown_in
in_whole no_items mesh [] = refl
in_whole no_items mesh (window ∷ windows) = refl
in_whole (item first more) mesh [] = refl
in_whole (item first more) mesh (window ∷ windows) = refl

in_mesh : (doc : Doc) (shown : List ℕ) → unknown_in (part_of_mesh (mesh_showing shown doc)) ≡ []
unfolding unknown_in
in_mesh doc [] = refl
in_mesh doc (word ∷ words) = refl

in_core : (at tile : ℕ) (program : List Instr) → unknown_in (part_of_core at tile program) ≡ []
unfolding unknown_in
in_core at tile program = refl

pub no_unknown_key : (doc : Doc) → unknown_keys (canonical_table doc) ≡ []
no_unknown_key doc = clear_everywhere unknown_in doc (in_whole (core_items 0 doc.programs) (mesh_entries doc) doc.posts) (in_mesh doc (shown_words doc.memory)) in_core
