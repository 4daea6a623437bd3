use Rattle.std.proofs.Common.{◌++◌, [], refl}
use Rattle.std.proofs.lemmas.Result.{err_from_is_err_and}
use Rattle.mesh_gen.specs.Limits.{most_side}
use Rattle.doc_text.specs.declared.key.Key.TheVariants.{Cols, Rows}
use Rattle.mesh_doc.specs.Tables.{value}
use Rattle.mesh_doc.proofs.Numbers.{number_in-number}
use Rattle.mesh_doc.specs.MeshSeen.{mesh_seen}
use Rattle.mesh_doc.specs.Values.{sizes_of}
use Rattle.mesh_doc.specs.Faults.{range_fault}
use Rattle.mesh_doc.proofs.Firsts.{first_front, first_rest}
use Rattle.mesh_doc.proofs.Limits.{some_found, none_found, exceeds, fits}
use Rattle.mesh_doc.proofs.sizes.Extent.read.Goals as goal

pub returns-in_err-cols-clause-finds : goal.returns-in_err-cols-clause-finds
returns-in_err-cols-clause-finds c =
    let m = mesh_seen c.args.mesh in
    let s = sizes_of m in
    let same = err_from_is_err_and c.from_residual.result c.from_residual.ensures.1 in
    rw (same.1, same.2, c.in_err-cols.ensures.fault.0) (first_front (range_fault s m Cols) (range_fault s m Rows ++ []) _ (exceeds s m Cols (none_found _ c.in_err-cols.ensures.fault.1)))

pub returns-in_err-rows-clause-finds : goal.returns-in_err-rows-clause-finds
returns-in_err-rows-clause-finds c =
    let m = mesh_seen c.args.mesh in
    let s = sizes_of m in
    let same = err_from_is_err_and c.from_residual-in_err-rows.result c.from_residual-in_err-rows.ensures.1 in
    rw (same.1, same.2, c.in_err-rows.ensures.fault.0)
    (first_rest (range_fault s m Cols) (range_fault s m Rows ++ []) _ (fits s m Cols (some_found _ _ c.in_ok-cols.ensures.said))
    (first_front (range_fault s m Rows) [] _ (exceeds s m Rows (none_found _ c.in_err-rows.ensures.fault.1))))

pub returns-clause-finds : goal.returns-clause-finds
returns-clause-finds c =
    let m = mesh_seen c.args.mesh in
    let s = sizes_of m in
    rw (fits s m Cols (some_found _ _ c.in_ok-cols.ensures.said), fits s m Rows (some_found _ _ c.in_ok-rows.ensures.said)) refl

pub returns-clause-said : goal.returns-clause-said
returns-clause-said c = record {
  cols = number_in-number 1 most_side (value Cols (mesh_seen c.args.mesh)) _ c.in_ok-cols.ensures.said;
  rows = number_in-number 1 most_side (value Rows (mesh_seen c.args.mesh)) _ c.in_ok-rows.ensures.said;
}
