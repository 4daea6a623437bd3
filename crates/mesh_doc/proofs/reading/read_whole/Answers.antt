use Rattle.std.proofs.lemmas.Result.{err_from_is_err_and}
use Rattle.toml.specs.View.{table_view}
use Rattle.mesh_doc.proofs.Whole.{told, accepted_ok, told_rest}
use Rattle.mesh_doc.proofs.reading.read_whole.Goals as goal

pub returns-in_err-check_tables-clause-fault : goal.returns-in_err-check_tables-clause-fault
returns-in_err-check_tables-clause-fault c =
    let same = err_from_is_err_and c.from_residual-in_err-check_tables.result c.from_residual-in_err-check_tables.ensures.1 in
    rw (same.1, same.2) (told (table_view c.args.top.now) c.in_err-check_tables.field-0.0 c.in_err-check_tables.ensures)

pub returns-clause-ok : goal.returns-clause-ok
returns-clause-ok c = accepted_ok (table_view c.args.top.now) c.read_values.result c.in_ok-check_tables.ensures c.read_values.ensures.faults c.read_values.ensures.document

pub returns-clause-fault : goal.returns-clause-fault
returns-clause-fault c = told_rest (table_view c.args.top.now) c.read_values.result c.in_ok-check_tables.ensures c.read_values.ensures.faults
