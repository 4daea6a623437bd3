-- The canonical table of a document is read as that document.
use Rattle.std.proofs.Common.{◌≡◌, [], ◌++◌, Ok, refl}
use Rattle.toml.specs.Data.{Members}
use Rattle.doc_text.specs.Doc.{Doc}
use Rattle.mesh_doc.specs.Faults.{unknown_keys, missing_keys, wrong_kinds, out_of_range, controllers, controllers_twice, core_tiles, cores_twice, bad_programs, table_faults, value_faults}
use Rattle.mesh_doc.specs.Reading.{document, reading_of}
use Rattle.mesh_doc.proofs.Firsts.{both_empty}
use Rattle.canonical_form.specs.CanonicalTable.{canonical_table}
use Rattle.canonical_form.specs.CanonicalDoc.{IsCanonicalDoc}
use Rattle.canonical_form.proofs.WholeTable.{IsWhole, canonical-whole}
use Rattle.canonical_form.proofs.NoUnknownKey.{no_unknown_key}
use Rattle.canonical_form.proofs.NoneMissing.{none_missing}
use Rattle.canonical_form.proofs.RightKinds.{right_kinds}
use Rattle.canonical_form.proofs.InRange.{in_range}
use Rattle.canonical_form.proofs.CoresApart.{controllers_apart, cores_apart}
use Rattle.canonical_form.proofs.ProgramsAssemble.{programs_assemble}
use Rattle.canonical_form.proofs.FieldByField.{fields_said}

tables_clear : (doc : Doc) → table_faults (canonical_table doc) ≡ []
unfolding table_faults
tables_clear doc =
    let top : Members = canonical_table doc in
    both_empty (unknown_keys top ++ missing_keys top) (wrong_kinds top) (both_empty (unknown_keys top) (missing_keys top) (no_unknown_key doc) (none_missing doc)) (right_kinds doc)

values_clear : (doc : Doc) (top : Members) → IsWhole doc top → IsCanonicalDoc doc → value_faults top ≡ []
unfolding value_faults
values_clear doc top said is =
    let ranges = out_of_range top in
    let twice = controllers_twice (controllers top) in
    let again = cores_twice (core_tiles top) in
    both_empty ((ranges ++ twice) ++ again) (bad_programs top)
    (both_empty (ranges ++ twice) again (both_empty ranges twice (in_range doc top said is.keeps) (controllers_apart doc top said.mesh is.keeps)) (cores_apart doc top said is.keeps))
    (programs_assemble doc top said is.programs)

accepted_whole : (top : Members) (doc : Doc) → table_faults top ≡ [] → value_faults top ≡ [] → document top ≡ doc → reading_of top ≡ Ok doc
unfolding reading_of
accepted_whole top doc tables values is = rw (tables, values, is) refl

pub table_read : (doc : Doc) → IsCanonicalDoc doc → reading_of (canonical_table doc) ≡ Ok doc
table_read doc is =
    let top : Members = canonical_table doc in
    let said : IsWhole doc top = canonical-whole doc in
    accepted_whole top doc (tables_clear doc) (values_clear doc top said is) (fields_said doc top said is)
