-- What the lines of the programs define.
use Rattle.std.proofs.Common.{◌≡◌, ℕ, ◌+◌, List, [], ◌∷◌, ◌++◌, Option, Some, option_map, refl, ap, ◌∙◌}
use Rattle.core_isa.specs.declared.instr.Instr.{Instr}
use Rattle.core_isa.specs.Printing.{program_text}
use Rattle.toml.specs.Data.{string, array, table, Items, no_items, push_item, Members, member}
use Rattle.toml.specs.Tables.{Document, Expression, Node, Nodes, no_nodes, node, value, open_array, close, close_node, define, along_header, along_dots, at_key}
use Rattle.toml.proofs.ReadLines.{run}
use Rattle.toml.proofs.ReadValues.{item_join, item_join-none, item_join-push}
use Rattle.doc_text.specs.declared.key.Key.TheVariants.{Mesh, Posts, Core, Tile, Code}
use Rattle.doc_text.specs.Keys.{row_of}
use Rattle.canonical_form.specs.CanonicalTable.{number, lists, core_entries, core_items, core_entry}
use Rattle.canonical_form.proofs.LinesRead.{said}
use Rattle.canonical_form.proofs.CanonicalLines.{core_lines, cores_lines}

-- the table that the document is, where the lines are taken
abbrev pub closed : Option Document → Option Members
closed result = option_map (λ doc. close doc.0) result

-- the table of a core while its lines are read
abbrev core_nodes : ℕ → List Instr → Nodes
core_nodes tile instrs = node (row_of Code).name (value (string (program_text instrs))) (node (row_of Tile).name (value (number tile)) no_nodes)

-- what is posted, where something is
abbrev pub posts_nodes : List (List ℕ) → Nodes
posts_nodes [] = no_nodes
posts_nodes (window ∷ windows) = node (row_of Posts).name (value (array (lists (window ∷ windows)))) no_nodes

-- the first core stands before the mesh
first_core : (tile : ℕ) (instr : Instr) (instrs : List Instr) (x : Node) (posts : List (List ℕ)) (path : List (List ℕ)) (more : List Expression)
    → run (node (row_of Mesh).name x (posts_nodes posts), path) (said (core_lines tile (instr ∷ instrs)) ++ more)
    ≡ run (node (row_of Core).name (open_array no_items (core_nodes tile (instr ∷ instrs))) (node (row_of Mesh).name x (posts_nodes posts)), (row_of Core).name ∷ []) more
unfolding define along_header along_dots at_key
first_core tile instr instrs x [] path more = refl
first_core tile instr instrs x (window ∷ windows) path more = refl

-- a further core ends the one before
next_core : (tile : ℕ) (instr : Instr) (instrs : List Instr) (done : Items) (last rest : Nodes) (path : List (List ℕ)) (more : List Expression)
    → run (node (row_of Core).name (open_array done last) rest, path) (said (core_lines tile (instr ∷ instrs)) ++ more)
    ≡ run (node (row_of Core).name (open_array (push_item done (table (close last))) (core_nodes tile (instr ∷ instrs))) rest, (row_of Core).name ∷ []) more
unfolding define along_header along_dots at_key
next_core tile instr instrs done last rest path more = refl

-- the cores after one
more_cores : (programs : List (List Instr)) (tile : ℕ) (done : Items) (last rest : Nodes) (path : List (List ℕ))
    → closed (run (node (row_of Core).name (open_array done last) rest, path) (said (cores_lines tile programs)))
    ≡ Some (member (row_of Core).name (array (item_join (push_item done (table (close last))) (core_items tile programs))) (close rest))
more_cores [] tile done last rest path = rw (item_join-none (push_item done (table (close last))))
more_cores ([] ∷ programs) tile done last rest path = more_cores programs (tile + 1) done last rest path
more_cores ((instr ∷ instrs) ∷ programs) tile done last rest path =
    ap closed (next_core tile instr instrs done last rest path (said (cores_lines (tile + 1) programs)))
    ∙ more_cores programs (tile + 1) (push_item done (table (close last))) (core_nodes tile (instr ∷ instrs)) rest ((row_of Core).name ∷ [])
    ∙ ap (λ (all : Items). Some (member (row_of Core).name (array all) (close rest))) (item_join-push (push_item done (table (close last))) (table (core_entries tile (instr ∷ instrs))) (core_items (tile + 1) programs))

-- the lines of all programs, after those of the mesh
pub all_cores : (programs : List (List Instr)) (tile : ℕ) (x : Node) (posts : List (List ℕ)) (path : List (List ℕ))
    → closed (run (node (row_of Mesh).name x (posts_nodes posts), path) (said (cores_lines tile programs)))
    ≡ Some (core_entry (core_items tile programs) (member (row_of Mesh).name (close_node x) (close (posts_nodes posts))))
all_cores [] tile x posts path = refl
all_cores ([] ∷ programs) tile x posts path = all_cores programs (tile + 1) x posts path
all_cores ((instr ∷ instrs) ∷ programs) tile x posts path =
    ap closed (first_core tile instr instrs x posts path (said (cores_lines (tile + 1) programs)))
    ∙ more_cores programs (tile + 1) no_items (core_nodes tile (instr ∷ instrs)) (node (row_of Mesh).name x (posts_nodes posts)) ((row_of Core).name ∷ [])
