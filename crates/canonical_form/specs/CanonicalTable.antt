-- The table that a document's canonical text writes. The members of each table stand in the byte order of their keys.
use Rattle.std.specs.Prelude.{ℕ, ◌+◌, pos, List, [], ◌∷◌}
use Rattle.core_isa.specs.declared.instr.Instr.{Instr}
use Rattle.core_isa.specs.Printing.{program_text}
use Rattle.toml.specs.Data.{Data, string, integer, array, table, Items, no_items, item, Members, no_members, member}
use Rattle.doc_text.specs.declared.key.Key.{Key}
use Rattle.doc_text.specs.declared.key.Key.TheVariants.{Mesh, Posts, Core, Cols, Rows, Window, Vcs, DataVcs, Lines, Sets, Ways, Controllers, Memory, Tile, Code}
use Rattle.doc_text.specs.Keys.{row_of}
use Rattle.doc_text.specs.Doc.{Doc}
use Rattle.doc_text.specs.Canonical.{shown_words}

-- a key with its value
abbrev pub entry : Key → Data → Members → Members
entry key value rest = member (row_of key).name value rest

-- a number
abbrev pub number : ℕ → Data
number n = integer (pos n)

-- numbers
abbrev pub numbers : List ℕ → Items
numbers [] = no_items
numbers (n ∷ ns) = item (number n) (numbers ns)

-- lists of numbers
abbrev pub lists : List (List ℕ) → Items
lists [] = no_items
lists (ns ∷ rest) = item (array (numbers ns)) (lists rest)

-- the words of memory that are shown, where there are some
abbrev pub memory_entry : List ℕ → Members → Members
memory_entry [] rest = rest
memory_entry (word ∷ words) rest = entry Memory (array (numbers (word ∷ words))) rest

-- the members of the mesh, by the words of memory that they show
abbrev pub mesh_showing : List ℕ → Doc → Members
mesh_showing shown doc =
    entry Cols (number doc.cols) (
    entry Controllers (array (numbers doc.controllers)) (
    entry DataVcs (number doc.data_vcs) (
    entry Lines (number doc.lines) (
    memory_entry shown (
    entry Rows (number doc.rows) (
    entry Sets (number doc.sets) (
    entry Vcs (number doc.vcs) (
    entry Ways (number doc.ways) (
    entry Window (number doc.window) no_members)))))))))

-- its members, which show the words up to the last that is not 0
abbrev pub mesh_entries : Doc → Members
mesh_entries doc = mesh_showing (shown_words doc.memory) doc

-- a tile and its program
abbrev pub core_entries : ℕ → List Instr → Members
core_entries tile instrs = entry Code (string (program_text instrs)) (entry Tile (number tile) no_members)

-- one program before others, where it has instructions
abbrev pub core_item : ℕ → List Instr → Items → Items
core_item tile [] rest = rest
core_item tile (instr ∷ instrs) rest = item (table (core_entries tile (instr ∷ instrs))) rest

-- the programs that have instructions, of the tiles from this one on
abbrev pub core_items : ℕ → List (List Instr) → Items
core_items tile [] = no_items
core_items tile (program ∷ programs) = core_item tile program (core_items (tile + 1) programs)

-- the list of them, where there are some
abbrev pub core_entry : Items → Members → Members
core_entry no_items rest = rest
core_entry (item first more) rest = entry Core (array (item first more)) rest

-- what is posted, where something is
abbrev pub posts_entry : List (List ℕ) → Members
posts_entry [] = no_members
posts_entry (window ∷ windows) = entry Posts (array (lists (window ∷ windows))) no_members

-- the whole
abbrev pub canonical_table : Doc → Members
canonical_table doc = core_entry (core_items 0 doc.programs) (entry Mesh (table (mesh_entries doc)) (posts_entry doc.posts))
