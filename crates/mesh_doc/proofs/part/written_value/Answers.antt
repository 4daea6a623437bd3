use Rattle.std.proofs.Common.{◌≡◌, List, ℕ, option_map, subst}
use Rattle.toml.specs.View.{view, members_view}
use Rattle.toml.specs.Data.{get_member}
use Rattle.toml.proofs.Views.{table_get}
use Rattle.mesh_doc.proofs.part.written_value.Goals as goal

pub returns : goal.returns
returns c =
    let entries = c.args.table.now.entries in
    subst (λ (name : List ℕ). option_map (λ v. view v.now) c.get.result ≡ get_member name (members_view entries)) c.name.ensures (table_get c.get.result c.name.result.now entries c.get.ensures.value)
