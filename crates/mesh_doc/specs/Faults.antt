-- What is wrong with a document: all faults of each kind, in the order in which they are looked for.
use Rattle.std.specs.Prelude.{ℕ, Bool, true, false, not, ◌&&◌, if◌then◌else◌, List, [], ◌∷◌, ◌++◌, map, Result, Ok, Err, is_some, is_none}
use Rattle.std.specs.List.{list_any, list_all, enumerate_from, flat_map}
use Rattle.std.specs.Option.{option_to_list, unwrap_or}
use Rattle.std.specs.Str.{bytes_eq}
use Rattle.core_isa.specs.declared.fault.AsmFault.{AsmFault}
use Rattle.core_isa.specs.declared.instr.Instr.{Instr}
use Rattle.core_isa.specs.Assembly.{assembled}
use Rattle.toml.specs.Data.{Data, array, Members, no_members, as_str, as_integer, as_array, as_table}
use Rattle.doc_text.specs.declared.key.Key.{Key}
use Rattle.doc_text.specs.declared.key.Level.{Level}
use Rattle.doc_text.specs.declared.key.Key.TheVariants.{Posts, Cols, Rows, Window, Vcs, DataVcs, Lines, Sets, Ways, Controllers, Memory, Tile, Code}
use Rattle.doc_text.specs.declared.column.Shape.{Shape}
use Rattle.doc_text.specs.declared.column.Shape.TheVariants as shape
use Rattle.doc_text.specs.declared.column.Omitted.{Omitted}
use Rattle.doc_text.specs.declared.column.Omitted.TheVariants as omitted
use Rattle.doc_text.specs.declared.fault.DocFault.{DocFault}
use Rattle.doc_text.specs.declared.fault.DocFault.TheVariants as fault
use Rattle.doc_text.specs.Keys.{row_of, keys_at}
use Rattle.mesh_doc.specs.Tables.{Part, parts_of, cores_of, table_of_mesh, keys, items, written_value, value, level_of, position}
use Rattle.mesh_doc.specs.Values.{Sizes, sizes_of, tiles_of, is_within, tile, tiles, repeated}

-- the fault, where it stands
abbrev pub fault_if : Bool → DocFault → List DocFault
fault_if stands fault = if stands then fault ∷ [] else []

-- ---- keys that mean nothing in their table

-- whether one of the keys has the name
abbrev pub has_name : List Key → List ℕ → Bool
has_name these name = list_any (λ key. bytes_eq (row_of key).name name) these

-- whether it is the name of a key of the level
abbrev pub is_known : Level → List ℕ → Bool
is_known level name = has_name (keys_at level) name

-- the fault of a name that is no key of the part's level
abbrev pub unknown_key : Part → List ℕ → List DocFault
unknown_key part name = fault_if (not (is_known (level_of part.place) name)) (fault.UnknownKey part.place name)

-- the unknown keys of a part
unfoldable pub unknown_in : Part → List DocFault
unknown_in part = flat_map (unknown_key part) (keys part.table)

-- the unknown keys of a document
abbrev pub unknown_keys : Members → List DocFault
unknown_keys top = flat_map unknown_in (parts_of top)

-- ---- keys that are needed and not there

-- whether a key may not be left out
abbrev pub is_needed : Omitted → Bool
is_needed omitted.Refused = true
is_needed _ = false

-- the fault of a key that is needed and not there
abbrev pub missing_key : Part → Key → List DocFault
missing_key part key = fault_if (is_needed (row_of key).omitted && is_none (written_value key part.table)) (fault.Missing key (position part.place))

-- the missing keys of a part
unfoldable pub missing_in : Part → List DocFault
missing_in part = flat_map (missing_key part) (keys_at (level_of part.place))

-- the missing keys of a document
abbrev pub missing_keys : Members → List DocFault
missing_keys top = flat_map missing_in (parts_of top)

-- ---- values, and items of lists, of another kind than their key wants

-- a value is an integer
abbrev pub is_integer : Data → Bool
is_integer datum = is_some (as_integer datum)

-- a value is a list of integers
abbrev pub are_integers : Data → Bool
are_integers (array list) = list_all is_integer (items (array list))
are_integers _ = false

-- a value is a list of lists of integers
abbrev pub are_lists : Data → Bool
are_lists (array list) = list_all are_integers (items (array list))
are_lists _ = false

-- a value is a table
abbrev pub is_table : Data → Bool
is_table datum = is_some (as_table datum)

-- a value is of the kind that a key wants
abbrev pub is_of : Shape → Data → Bool
is_of shape.Table datum = is_table datum
is_of shape.Integer datum = is_integer datum
is_of shape.Text datum = is_some (as_str datum)
is_of shape.Integers datum = are_integers datum
is_of shape.Lists datum = are_lists datum
is_of shape.Tables datum = is_some (as_array datum)

-- the items of a list of tables that are no tables are told by their positions
abbrev pub no_table : Key → ℕ × Data → List DocFault
no_table key numbered = fault_if (not (is_table numbered.1)) (fault.WrongKind key numbered.0)

-- the items of a value that are no tables, where its key wants tables
abbrev pub no_tables : Shape → Key → Data → List DocFault
no_tables shape.Tables key datum = flat_map (no_table key) (enumerate_from 0 (items datum))
no_tables _ key datum = []

-- the fault of a value of another kind, and then those of its items
unfoldable pub wrong_value : Shape → Key → ℕ → Data → List DocFault
wrong_value shape key at datum = fault_if (not (is_of shape datum)) (fault.WrongKind key at) ++ no_tables shape key datum

-- the faults of kind at a key of a part
abbrev pub wrong_at : Part → Key → List DocFault
wrong_at part key = flat_map (wrong_value (row_of key).shape key (position part.place)) (option_to_list (written_value key part.table))

-- the faults of kind in a part
unfoldable pub wrong_in : Part → List DocFault
wrong_in part = flat_map (wrong_at part) (keys_at (level_of part.place))

-- the faults of kind of a document
abbrev pub wrong_kinds : Members → List DocFault
wrong_kinds top = flat_map wrong_in (parts_of top)

-- ---- values out of their limits: the size of the mesh first, then what is posted, then the others in their order

-- the table of the mesh, and one without members where there is none
abbrev pub mesh_table : Members → Members
mesh_table top = unwrap_or (table_of_mesh top) no_members

-- the sizes of the mesh
abbrev pub mesh_sizes : Members → Sizes
mesh_sizes top = sizes_of (mesh_table top)

-- how many tiles the mesh has
abbrev pub tiles_described : Members → ℕ
tiles_described top = tiles_of (mesh_sizes top)

-- the fault of a value out of the limit of its key
unfoldable pub range_fault : Sizes → Members → Key → List DocFault
range_fault sizes members key = fault_if (not (is_within sizes (row_of key).limit (value key members))) (fault.Range key 0)

-- the values of the mesh at these keys that are out of their limits
abbrev pub range_faults : Members → List Key → List DocFault
range_faults mesh these = flat_map (range_fault (sizes_of mesh) mesh) these

-- the fault of a core whose tile is none
unfoldable pub core_range_fault : ℕ → Part → List DocFault
core_range_fault count core = fault_if (is_none (tile count (value Tile core.table))) (fault.Range Tile (position core.place))

-- the values out of their limits of a document
abbrev pub out_of_range : Members → List DocFault
out_of_range top =
    range_faults (mesh_table top) (Cols ∷ Rows ∷ []) ++
    range_fault (mesh_sizes top) top Posts ++
    range_faults (mesh_table top) (Window ∷ Vcs ∷ DataVcs ∷ Lines ∷ Sets ∷ Ways ∷ Controllers ∷ Memory ∷ []) ++
    flat_map (core_range_fault (tiles_described top)) (cores_of top)

-- ---- a tile that stands twice: among the controllers, and as the tile of a core

-- the tiles with a controller
abbrev pub controllers : Members → List ℕ
controllers top = unwrap_or (tiles (tiles_described top) (value Controllers (mesh_table top))) []

-- the tile of a core
abbrev pub core_tile : ℕ → Part → ℕ
core_tile count core = unwrap_or (tile count (value Tile core.table)) 0

-- the tiles of the cores
abbrev pub core_tiles : Members → List ℕ
core_tiles top = map (core_tile (tiles_described top)) (cores_of top)

-- a fault for each controller that stood before
abbrev pub controllers_twice : List ℕ → List DocFault
controllers_twice list = map (λ again. fault.Controllers) (repeated list)

-- a fault for each tile of a core that stood before
abbrev pub cores_twice : List ℕ → List DocFault
cores_twice list = map fault.CoreTwice (repeated list)

-- ---- programs that do not assemble

-- the program of a core's table, or its first fault
abbrev pub core_program : Part → Result (List Instr) AsmFault
core_program core = assembled (unwrap_or (as_str (value Code core.table)) [])

-- the fault of a program that does not assemble
abbrev pub no_program : ℕ → Result (List Instr) AsmFault → List DocFault
no_program tile (Ok program) = []
no_program tile (Err found) = fault.Asm tile found ∷ []

-- the fault of the program of a core
unfoldable pub bad_program : ℕ → Part → List DocFault
bad_program count core = no_program (core_tile count core) (core_program core)

-- the programs of a document that do not assemble
abbrev pub bad_programs : Members → List DocFault
bad_programs top = flat_map (bad_program (tiles_described top)) (cores_of top)

-- the faults of the tables themselves, and those of what they say
unfoldable pub table_faults : Members → List DocFault
table_faults top = unknown_keys top ++ missing_keys top ++ wrong_kinds top

-- the faults of what the tables say: limits first, then tiles that stand twice, then programs
unfoldable pub value_faults : Members → List DocFault
value_faults top = out_of_range top ++ controllers_twice (controllers top) ++ cores_twice (core_tiles top) ++ bad_programs top

-- all faults of a document
abbrev pub faults : Members → List DocFault
faults top = table_faults top ++ value_faults top
