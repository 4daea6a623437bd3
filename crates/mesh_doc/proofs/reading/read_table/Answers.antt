use Rattle.std.proofs.Common.{sym, rules}
use Rattle.mesh_doc.proofs.Written.{table_of-written, table_of-unwritten}
use Rattle.mesh_doc.proofs.reading.read_table.Goals as goal

pub returns-in-Ok : goal.returns-in-Ok
returns-in-Ok c = sym (table_of-written c.args.bytes.now _ c.in-Ok.ensures.ok.0 c.in-Ok.ensures.ok.1)

pub returns-in-Err-2 : goal.returns-in-Err-2
returns-in-Err-2 c = sym (table_of-unwritten c.args.bytes.now (c.in-Err.ensures.refused (search rules)))
