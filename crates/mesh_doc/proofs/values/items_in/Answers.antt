use Rattle.std.proofs.Common.{◌≡◌, Some, true, false, rules, sym}
use Rattle.toml.specs.Data.{as_array}
use Rattle.toml.specs.View.{view, items_view}
use Rattle.mesh_doc.proofs.Items.{items_in-other, items_in-count}
use Rattle.mesh_doc.proofs.values.items_in.Goals as goal

pub returns-in_default : goal.returns-in_default
returns-in_default c = sym (items_in-other c.args.least c.args.most (view c.args.value.now) (rw c.in_default.is at c.as_array.ensures))

pub returns-then-is_count : goal.returns-then-is_count
returns-then-is_count c =
    let values = c.as_slice-items.result.now in
    let seen : Some (items_view values) ≡ as_array (view c.args.value.now) = rw c.as_slice-items.ensures.value (rw c.in-Some.is at c.as_array.ensures) in
    let passes : c.is_count.result ≡ true = search rules in
    sym (items_in-count c.args.least c.args.most (view c.args.value.now) values true seen (cc))

pub returns-else-is_count : goal.returns-else-is_count
returns-else-is_count c =
    let values = c.as_slice-items.result.now in
    let seen : Some (items_view values) ≡ as_array (view c.args.value.now) = rw c.as_slice-items.ensures.value (rw c.in-Some.is at c.as_array.ensures) in
    let fails : c.is_count.result ≡ false = search rules in
    sym (items_in-count c.args.least c.args.most (view c.args.value.now) values false seen (cc))
