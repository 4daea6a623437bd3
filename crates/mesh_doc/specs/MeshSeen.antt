-- The table of the mesh, as the code has it.
use Rattle.std.specs.Prelude.{Option, option_map, String}
use Rattle.std.specs.Option.{unwrap_or}
use Rattle.std.specs.Borrow.{Bor}
use Rattle.std.specs.BTreeMap.{BTreeMap}
use Rattle.std.specs.declared.alloc.Global.{Global}
use Rattle.toml.specs.Data.{Members, no_members}
use Rattle.toml.specs.View.{table_view}
use Rattle.toml.specs.declared.value.Value.{Value}

-- the members of the table, and none where there is no table
abbrev pub mesh_seen : Option (Bor (BTreeMap (String Global) Value)) → Members
mesh_seen mesh = unwrap_or (option_map (λ t. table_view t.now) mesh) no_members
