use Rattle.toml.specs.View.{table_view}
use Rattle.mesh_doc.specs.Tables.{table_of}
use Rattle.mesh_doc.specs.Reading.{reading}
use Rattle.mesh_doc.proofs.Whole.{same_table, no_table}
use Rattle.mesh_doc.proofs.reading.read_document.Goals as goal

pub returns-in-Some-clause-ok : goal.returns-in-Some-clause-ok
unfolding reading
returns-in-Some-clause-ok c =
    rw (same_table (table_of c.args.bytes.now) (table_view c.in-Some.top) (rw c.in-Some.is at c.in_ok-top.ensures)) c.read_whole.ensures.ok

pub returns-in-Some-clause-fault : goal.returns-in-Some-clause-fault
unfolding reading
returns-in-Some-clause-fault c =
    rw (same_table (table_of c.args.bytes.now) (table_view c.in-Some.top) (rw c.in-Some.is at c.in_ok-top.ensures)) c.read_whole.ensures.fault

pub returns-in-None-clause-fault : goal.returns-in-None-clause-fault
unfolding reading
returns-in-None-clause-fault c = no_table (table_of c.args.bytes.now) (rw c.in-None.is at c.in_ok-top.ensures)
