use Rattle.std.proofs.Common.{◌≡◌, Some}
use Rattle.toml.specs.Data.{as_array}
use Rattle.toml.specs.View.{view, items_view, table_view}
use Rattle.mesh_doc.proofs.Cores.{cores-listed, cores-other, cores-none}
use Rattle.mesh_doc.proofs.tables.core_parts.Goals as goal

pub returns-in-Some-as_array : goal.returns-in-Some-as_array
returns-in-Some-as_array c =
    let seen : Some (items_view c.as_slice.result.now) ≡ as_array (view c.in-Some.value.now) = rw c.as_slice.ensures.value (rw c.in-Some-as_array.is at c.as_array.ensures) in
    rw (cores-listed (table_view c.args.top.now) (view c.in-Some.value.now) (items_view c.as_slice.result.now) (rw c.in-Some.is at c.written_value.ensures) seen) c.parts_in.ensures

pub returns-in-None-as_array : goal.returns-in-None-as_array
returns-in-None-as_array c =
    rw (c.new.ensures.items, cores-other (table_view c.args.top.now) (view c.in-Some.value.now) (rw c.in-Some.is at c.written_value.ensures) (rw c.in-None-as_array.is at c.as_array.ensures))

pub returns-in-None : goal.returns-in-None
returns-in-None c = rw (c.new-in-None.ensures.items, cores-none (table_view c.args.top.now) (rw c.in-None.is at c.written_value.ensures))
