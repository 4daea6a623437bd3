use Rattle.std.proofs.Common.{◌≡◌, true, false, sym, ◌∙◌, rules}
use Rattle.toml.specs.View.{view}
use Rattle.doc_text.specs.Keys.{row_of}
use Rattle.mesh_doc.proofs.Shapes.{wrong_kind, right_kind, no_list}
use Rattle.mesh_doc.proofs.values.check_value.Goals as goal

pub returns-then-not-is_of : goal.returns-then-not-is_of
returns-then-not-is_of c =
    let seen : c.is_of.result ≡ false = search rules in
    wrong_kind (row_of c.args.key).shape c.args.key c.args.at (view c.args.value.now) (rw c.shape.ensures at (sym c.is_of.ensures ∙ seen))

pub returns-in-Tables : goal.returns-in-Tables
returns-in-Tables c =
    let seen : c.is_of.result ≡ true = search rules in
    let right = rw c.shape.ensures at (sym c.is_of.ensures ∙ seen) in
    rw (right_kind (row_of c.args.key).shape c.args.key c.args.at (view c.args.value.now) right, sym c.shape-2.ensures ∙ c.in-Tables.is) c.check_tables.ensures

pub returns-in_default : goal.returns-in_default
returns-in_default c =
    let seen : c.is_of.result ≡ true = search rules in
    let right = rw c.shape.ensures at (sym c.is_of.ensures ∙ seen) in
    right_kind (row_of c.args.key).shape c.args.key c.args.at (view c.args.value.now) right ∙ rw (← c.shape-2.ensures) (no_list c.shape-2.result c.args.key (view c.args.value.now) c.in_default.not-Tables)
