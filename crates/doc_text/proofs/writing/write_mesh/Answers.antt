use Rattle.std.proofs.Common.{ℕ, List, ◌++◌, refl}
use Rattle.doc_text.specs.declared.key.Key.TheVariants.{Controllers}
use Rattle.doc_text.specs.Doc.{Doc, doc_of}
use Rattle.doc_text.specs.Canonical.{value_line, numbers_text, sizes, sizes_text, mesh_text}
use Rattle.outside_io.proofs.Writes.{WritesAllBut-nothing, WritesAllBut-more, Writes-failed, Writes-last}
use Rattle.doc_text.proofs.writing.write_mesh.Goals as goal

abbrev last_line : Doc → List ℕ
last_line doc = value_line Controllers (numbers_text doc.controllers)

pub returns-in_err-write_name : goal.returns-in_err-write_name
returns-in_err-write_name g c =
    let doc = doc_of c.args.document.now in
    Writes-failed (sizes_text (sizes doc) ++ last_line doc) c.from_residual.result c.from_residual.ensures.0 (WritesAllBut-nothing (mesh_text doc)) refl c.in_err-write_name.ensures

pub returns-in_err-write_sizes : goal.returns-in_err-write_sizes
returns-in_err-write_sizes g c =
    let doc = doc_of c.args.document.now in
    let headed = WritesAllBut-more {rest = sizes_text (sizes doc) ++ last_line doc} (WritesAllBut-nothing (mesh_text doc)) refl c.in_ok-write_name.ensures in
    Writes-failed (last_line doc) c.from_residual-in_err-write_sizes.result c.from_residual-in_err-write_sizes.ensures.0 headed refl (rw c.sizes.ensures at c.in_err-write_sizes.ensures)

pub returns : goal.returns
returns g c =
    let doc = doc_of c.args.document.now in
    let headed = WritesAllBut-more {rest = sizes_text (sizes doc) ++ last_line doc} (WritesAllBut-nothing (mesh_text doc)) refl c.in_ok-write_name.ensures in
    let sized = WritesAllBut-more {rest = last_line doc} headed refl (rw c.sizes.ensures at c.in_ok-write_sizes.ensures) in
    Writes-last c.write_list_line.result sized refl (rw c.as_slice-controllers.ensures at c.write_list_line.ensures)
