-- The tables of a document that have keys of their own.
use Rattle.std.specs.Prelude.{ℕ, pos, if◌then◌else◌, List, [], ◌∷◌, ◌++◌, Option, Some, None, option_map, option_and_then}
use Rattle.std.specs.List.{enumerate_from, filter_map}
use Rattle.std.specs.Option.{unwrap_or}
use Rattle.std.specs.Str.{is_utf8}
use Rattle.toml.specs.Data.{Data, integer, array, Items, no_items, item, Members, no_members, member, get_member, as_table}
use Rattle.toml.specs.Parse.{parse_document}
use Rattle.doc_text.specs.declared.key.Level.{Level}
use Rattle.doc_text.specs.declared.key.Level.TheVariants as level
use Rattle.doc_text.specs.declared.key.Key.{Key}
use Rattle.doc_text.specs.declared.key.Key.TheVariants as key
use Rattle.doc_text.specs.declared.column.Omitted.{Omitted}
use Rattle.doc_text.specs.declared.column.Omitted.TheVariants.{Refused, Default, FirstTile, Empty}
use Rattle.doc_text.specs.declared.fault.Place.{Place}
use Rattle.doc_text.specs.declared.fault.Place.TheVariants.{Top, Mesh, Core}
use Rattle.doc_text.specs.Keys.{row_of}

-- the table that UTF-8 bytes write by the grammar of TOML; the members of each table stand in the byte order of their keys
unfoldable pub table_of : List ℕ → Option Members
table_of bytes = if is_utf8 bytes then parse_document bytes else None

-- the items of a list
abbrev pub listed : Items → List Data
listed no_items = []
listed (item value rest) = value ∷ listed rest

-- the keys of a table
abbrev pub keys : Members → List (List ℕ)
keys no_members = []
keys (member key value rest) = key ∷ keys rest

-- the items of a value that is a list; others have none
abbrev pub items : Data → List Data
items (array list) = listed list
items _ = []

-- what is written for a key in its table
abbrev pub written_value : Key → Members → Option Data
written_value key table = get_member (row_of key).name table

-- what stands for a key that is left out
abbrev pub default : Omitted → Data
default Refused = array no_items
default (Default number) = integer (pos number)
default FirstTile = array (item (integer (pos 0)) no_items)
default Empty = array no_items

-- the value of a key: what is written for it, or else what stands for it
abbrev pub value : Key → Members → Data
value key table = unwrap_or (written_value key table) (default (row_of key).omitted)

-- a table with keys of its own, and its place in the document
pub record Part : Type 0 where
  pub place : Place
  pub table : Members

-- the table's level
abbrev pub level_of : Place → Level
level_of Top = level.Top
level_of Mesh = level.Mesh
level_of (Core at) = level.Core

-- the position of a core in the list, and 0 for the other tables
abbrev pub position : Place → ℕ
position (Core at) = at
position _ = 0

-- the table of the mesh, where it is one
abbrev pub table_of_mesh : Members → Option Members
table_of_mesh top = option_and_then as_table (written_value key.Mesh top)

-- an item of the list of cores that is a table
abbrev pub core_part : ℕ × Data → Option Part
core_part numbered = option_map (λ table. record { place = Core numbered.0; table = table }) (as_table numbered.1)

-- the tables of the cores, where there is a list of them; the items that are no tables are passed over
unfoldable pub cores_of : Members → List Part
cores_of top = filter_map core_part (enumerate_from 0 (items (value key.Core top)))

-- the table of the mesh as a part, where there is one
abbrev pub mesh_part : Option Members → List Part
mesh_part None = []
mesh_part (Some mesh) = record { place = Mesh; table = mesh } ∷ []

-- all tables with keys of their own: the whole, the mesh, and the cores in their order
unfoldable pub parts_of : Members → List Part
parts_of top = record { place = Top; table = top } ∷ mesh_part (table_of_mesh top) ++ cores_of top
