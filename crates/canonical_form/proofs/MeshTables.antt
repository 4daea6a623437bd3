-- What the lines of the posts, the mesh and the memory define.
use Rattle.std.proofs.Common.{◌≡◌, ℕ, List, [], ◌∷◌, ◌++◌, refl}
use Rattle.toml.specs.Data.{array}
use Rattle.toml.specs.Tables.{Nodes, no_nodes, node, value, open_table, header, close, define, along_header, along_dots, at_key}
use Rattle.toml.proofs.ReadLines.{run}
use Rattle.doc_text.specs.declared.key.Key.{Key}
use Rattle.doc_text.specs.declared.key.Key.TheVariants.{Mesh, Cols, Rows, Window, Vcs, DataVcs, Lines, Sets, Ways, Controllers, Memory}
use Rattle.doc_text.specs.Keys.{row_of}
use Rattle.doc_text.specs.Doc.{Doc}
use Rattle.doc_text.specs.Canonical.{shown_words}
use Rattle.canonical_form.specs.CanonicalTable.{number, numbers, memory_entry, mesh_entries, posts_entry}
use Rattle.canonical_form.proofs.LinesRead.{Line, said}
use Rattle.canonical_form.proofs.CanonicalLines.{some_posts, posts_lines, mesh_lines, memory_lines}
use Rattle.canonical_form.proofs.CoreTables.{posts_nodes}

abbrev number_node : Key → ℕ → Nodes → Nodes
number_node key n rest = node (row_of key).name (value (number n)) rest

abbrev numbers_node : Key → List ℕ → Nodes → Nodes
numbers_node key ns rest = node (row_of key).name (value (array (numbers ns))) rest

abbrev memory_nodes : List ℕ → Nodes → Nodes
memory_nodes [] rest = rest
memory_nodes (word ∷ words) rest = numbers_node Memory (word ∷ words) rest

-- the table of the mesh, whose memory shows these words
abbrev pub mesh_nodes : Doc → List ℕ → Nodes
mesh_nodes doc words =
    number_node Cols doc.cols (numbers_node Controllers doc.controllers (number_node DataVcs doc.data_vcs (number_node Lines doc.lines (
    memory_nodes words (number_node Rows doc.rows (number_node Sets doc.sets (number_node Vcs doc.vcs (number_node Ways doc.ways (number_node Window doc.window no_nodes)))))))))

-- the lines before those of the programs
pub front_defines : (posts : List (List ℕ)) (words : List ℕ) (doc : Doc) (cores : List Line)
    → run (no_nodes, []) (said (posts_lines posts ++ mesh_lines (some_posts posts) doc ++ memory_lines words ++ cores))
    ≡ run (node (row_of Mesh).name (open_table header (mesh_nodes doc words)) (posts_nodes posts), (row_of Mesh).name ∷ []) (said cores)
unfolding define along_header along_dots at_key
front_defines [] [] doc cores = refl
front_defines [] (word ∷ words) doc cores = refl
front_defines (window ∷ windows) [] doc cores = refl
front_defines (window ∷ windows) (word ∷ words) doc cores = refl

pub close-posts : (posts : List (List ℕ)) → close (posts_nodes posts) ≡ posts_entry posts
close-posts [] = refl
close-posts (window ∷ windows) = refl

close-memory : (words : List ℕ) (rest : Nodes) → close (memory_nodes words rest) ≡ memory_entry words (close rest)
close-memory [] rest = refl
close-memory (word ∷ words) rest = refl

close-with : (doc : Doc) (words : List ℕ) → shown_words doc.memory ≡ words → close (mesh_nodes doc words) ≡ mesh_entries doc
close-with doc [] is = rw is
close-with doc (word ∷ words) is = rw is

pub close-mesh : (doc : Doc) → close (mesh_nodes doc (shown_words doc.memory)) ≡ mesh_entries doc
close-mesh doc = close-with doc (shown_words doc.memory) refl
