-- The canonical text of a document, line by line.
use Rattle.std.specs.Prelude.{ℕ, zero, List, [], ◌∷◌, ◌++◌, map, codes, decimal}
use Rattle.std.specs.List.{enumerate_from, flat_map, join_with_byte}
use Rattle.core_isa.specs.declared.instr.Instr.{Instr}
use Rattle.core_isa.specs.Printing.{program_text}
use Rattle.doc_text.specs.declared.key.Key.{Key}
use Rattle.doc_text.specs.declared.key.Key.TheVariants.{Mesh, Posts, Core, Cols, Rows, Window, Vcs, DataVcs, Lines, Sets, Ways, Controllers, Memory, Tile, Code}
use Rattle.doc_text.specs.Keys.{row_of}
use Rattle.doc_text.specs.Doc.{Doc}

-- the line that gives a key this value
abbrev pub value_line : Key → List ℕ → List ℕ
value_line key value = (row_of key).name ++ codes " = " ++ value ++ codes "\n"

-- the line that begins the table of a key
abbrev pub table_line : Key → List ℕ
table_line key = codes "[" ++ (row_of key).name ++ codes "]\n"

-- the line that begins one of the tables of a key
abbrev pub tables_line : Key → List ℕ
tables_line key = codes "[[" ++ (row_of key).name ++ codes "]]\n"

-- a list of values
abbrev pub list_text : List (List ℕ) → List ℕ
list_text values = codes "[" ++ join_with_byte 44 values ++ codes "]"

-- a list of numbers
abbrev pub numbers_text : List ℕ → List ℕ
numbers_text numbers = list_text (map decimal numbers)

-- the line of what is posted, and an empty line, where something is posted
abbrev pub posts_text : List (List ℕ) → List ℕ
posts_text [] = []
posts_text (window ∷ windows) = value_line Posts (list_text (map numbers_text (window ∷ windows))) ++ codes "\n"

-- the sizes of the chip by their keys
abbrev pub sizes : Doc → List (Key × ℕ)
sizes doc = (Cols, doc.cols) ∷ (Rows, doc.rows) ∷ (Window, doc.window) ∷ (Vcs, doc.vcs) ∷ (DataVcs, doc.data_vcs) ∷ (Lines, doc.lines) ∷ (Sets, doc.sets) ∷ (Ways, doc.ways) ∷ []

-- a line for each of the sizes
abbrev pub sizes_text : List (Key × ℕ) → List ℕ
sizes_text sizes = flat_map (λ size. value_line size.0 (decimal size.1)) sizes

-- the lines of the mesh
abbrev pub mesh_text : Doc → List ℕ
mesh_text doc = table_line Mesh ++ sizes_text (sizes doc) ++ value_line Controllers (numbers_text doc.controllers)

-- a word of memory is shown where it is not 0 or some word after it is shown
abbrev pub shown_with : ℕ → List ℕ → List ℕ
shown_with zero [] = []
shown_with word shown = word ∷ shown

-- the words of memory up to the last that is not 0
abbrev pub shown_words : List ℕ → List ℕ
shown_words [] = []
shown_words (word ∷ words) = shown_with word (shown_words words)

-- the line of the words of memory that are shown, where there are some
abbrev pub memory_text : List ℕ → List ℕ
memory_text [] = []
memory_text (word ∷ words) = value_line Memory (numbers_text (word ∷ words))

-- the lines of a program
abbrev pub code_text : List Instr → List ℕ
code_text instrs = value_line Code (codes "'''") ++ program_text instrs ++ codes "'''\n"

-- an empty line and the lines of a tile and its program, where that has instructions
abbrev pub core_text : ℕ → List Instr → List ℕ
core_text tile [] = []
core_text tile (instr ∷ instrs) = codes "\n" ++ tables_line Core ++ value_line Tile (decimal tile) ++ code_text (instr ∷ instrs)

-- the lines of the programs of the tiles from this one on
abbrev pub cores_text : ℕ → List (List Instr) → List ℕ
cores_text tile programs = flat_map (λ core. core_text core.0 core.1) (enumerate_from tile programs)

-- the text
abbrev pub canonical : Doc → List ℕ
canonical doc = posts_text doc.posts ++ mesh_text doc ++ memory_text (shown_words doc.memory) ++ cores_text 0 doc.programs
