-- The lines of the canonical text, and what each says.
use Rattle.std.proofs.Common.{◌≡◌, ℕ, ◌+◌, Bool, true, false, List, [], ◌∷◌, ◌++◌, map, codes, refl, sym, ap, ◌∙◌, append_assoc, append-nil}
use Rattle.std.specs.Fmt.{decimal}
use Rattle.std.proofs.lemmas.List.Concat.{flat_map-append}
use Rattle.core_isa.specs.declared.instr.Instr.{Instr}
use Rattle.core_isa.specs.Printing.{program_text}
use Rattle.toml.specs.Data.{array, string}
use Rattle.toml.specs.Tables.{key_value, std_table, array_table}
use Rattle.doc_text.specs.declared.key.Key.{Key}
use Rattle.doc_text.specs.declared.key.Key.TheVariants.{Mesh, Posts, Core, Controllers, Memory, Tile, Code}
use Rattle.doc_text.specs.Keys.{row_of}
use Rattle.doc_text.specs.Doc.{Doc}
use Rattle.doc_text.specs.Canonical.{sizes, sizes_text, value_line, table_line, tables_line, numbers_text, list_text, shown_words, posts_text, mesh_text, memory_text, code_text, core_text, cores_text, canonical}
use Rattle.canonical_form.specs.CanonicalTable.{number, numbers, lists}
use Rattle.canonical_form.proofs.LinesRead.{Line, texts}
use Rattle.canonical_form.proofs.EntryLines.{entry_line}
use Rattle.canonical_form.proofs.HeaderLines.{empty_line}

-- a line of a number, and a line of a list of numbers
abbrev pub number_line : Key → ℕ → Line
number_line key n = entry_line key (number n) (decimal n)

abbrev pub numbers_line : Key → List ℕ → Line
numbers_line key ns = entry_line key (array (numbers ns)) (numbers_text ns)

abbrev pub posts_lines : List (List ℕ) → List Line
posts_lines [] = []
posts_lines (window ∷ windows) = entry_line Posts (array (lists (window ∷ windows))) (list_text (map numbers_text (window ∷ windows))) ∷ []

abbrev pub some_posts : List (List ℕ) → Bool
some_posts [] = false
some_posts (window ∷ windows) = true

abbrev pub mesh_header : Bool → Line
mesh_header after = ((([], (row_of Mesh).name), std_table), empty_line after ++ table_line Mesh)

abbrev pub sizes_lines : List (Key × ℕ) → List Line
sizes_lines sizes = map (λ size. number_line size.0 size.1) sizes

-- the lines of the mesh, and whether they stand after others
abbrev pub mesh_lines : Bool → Doc → List Line
mesh_lines after doc = mesh_header after ∷ (sizes_lines (sizes doc) ++ numbers_line Controllers doc.controllers ∷ [])

abbrev pub memory_lines : List ℕ → List Line
memory_lines [] = []
memory_lines (word ∷ words) = numbers_line Memory (word ∷ words) ∷ []

abbrev pub core_header : Line
core_header = ((([], (row_of Core).name), array_table), codes "\n" ++ tables_line Core)

-- the lines of a program's text are one line of the table
abbrev pub code_line : List Instr → Line
code_line instrs = ((([], (row_of Code).name), key_value (string (program_text instrs))), code_text instrs)

abbrev pub core_lines : ℕ → List Instr → List Line
core_lines tile [] = []
core_lines tile (instr ∷ instrs) = core_header ∷ number_line Tile tile ∷ code_line (instr ∷ instrs) ∷ []

abbrev pub cores_lines : ℕ → List (List Instr) → List Line
cores_lines tile [] = []
cores_lines tile (program ∷ programs) = core_lines tile program ++ cores_lines (tile + 1) programs

abbrev pub canonical_lines : Doc → List Line
canonical_lines doc = posts_lines doc.posts ++ mesh_lines (some_posts doc.posts) doc ++ memory_lines (shown_words doc.memory) ++ cores_lines 0 doc.programs

texts-append : (ls more : List Line) → texts (ls ++ more) ≡ texts ls ++ texts more
texts-append ls more = flat_map-append (λ (l : Line). l.1) ls more

core_lines-text : (tile : ℕ) (program : List Instr) → texts (core_lines tile program) ≡ core_text tile program
core_lines-text tile [] = refl
core_lines-text tile (instr ∷ instrs) = simp (append_assoc, append-nil)

cores_lines-text : (tile : ℕ) (programs : List (List Instr)) → texts (cores_lines tile programs) ≡ cores_text tile programs
cores_lines-text tile [] = refl
cores_lines-text tile (program ∷ programs) =
    texts-append (core_lines tile program) (cores_lines (tile + 1) programs) ∙ rw (core_lines-text tile program, cores_lines-text (tile + 1) programs)

memory_lines-text : (words : List ℕ) → texts (memory_lines words) ≡ memory_text words
memory_lines-text [] = refl
memory_lines-text (word ∷ words) = append-nil (memory_text (word ∷ words))

four_pieces : (a b c d : List ℕ) → (a ++ b) ++ (c ++ d) ≡ a ++ (b ++ c ++ d)
four_pieces a b c d = simp append_assoc

sizes_lines-text : (sizes : List (Key × ℕ)) → texts (sizes_lines sizes) ≡ sizes_text sizes
sizes_lines-text [] = refl
sizes_lines-text (size ∷ sizes) = ap (λ (t : List ℕ). value_line size.0 (decimal size.1) ++ t) (sizes_lines-text sizes)

mesh_of-text : (after : Bool) (keys : List (Key × ℕ)) (tiles : List ℕ)
    → texts (mesh_header after ∷ (sizes_lines keys ++ numbers_line Controllers tiles ∷ [])) ≡ empty_line after ++ (table_line Mesh ++ sizes_text keys ++ value_line Controllers (numbers_text tiles))
mesh_of-text after keys tiles =
    let last = value_line Controllers (numbers_text tiles) in
    let whole : texts (sizes_lines keys ++ numbers_line Controllers tiles ∷ []) ≡ sizes_text keys ++ last =
    texts-append (sizes_lines keys) (numbers_line Controllers tiles ∷ []) ∙ rw (sizes_lines-text keys) (ap (λ (t : List ℕ). sizes_text keys ++ t) (append-nil last)) in
    ap (λ (t : List ℕ). (empty_line after ++ table_line Mesh) ++ t) whole ∙ four_pieces (empty_line after) (table_line Mesh) (sizes_text keys) last

mesh_lines-text : (after : Bool) (doc : Doc) → texts (mesh_lines after doc) ≡ empty_line after ++ mesh_text doc
mesh_lines-text after doc = mesh_of-text after (sizes doc) doc.controllers

after_posts : (line mesh : List ℕ) → (line ++ []) ++ (codes "\n" ++ mesh) ≡ (line ++ codes "\n") ++ mesh
after_posts line mesh = rw (append-nil line) (sym (append_assoc line (codes "\n") mesh))

-- the empty line that ends the posts stands before the mesh
posts_lines-text : (posts : List (List ℕ)) (mesh : List ℕ) → texts (posts_lines posts) ++ (empty_line (some_posts posts) ++ mesh) ≡ posts_text posts ++ mesh
posts_lines-text [] mesh = refl
posts_lines-text (window ∷ windows) mesh = after_posts (value_line Posts (list_text (map numbers_text (window ∷ windows)))) mesh

front-text : (doc : Doc) → texts (posts_lines doc.posts ++ mesh_lines (some_posts doc.posts) doc) ≡ posts_text doc.posts ++ mesh_text doc
front-text doc =
    texts-append (posts_lines doc.posts) (mesh_lines (some_posts doc.posts) doc)
    ∙ ap (λ (t : List ℕ). texts (posts_lines doc.posts) ++ t) (mesh_lines-text (some_posts doc.posts) doc)
    ∙ posts_lines-text doc.posts (mesh_text doc)

-- the lines one after another are the canonical text
pub canonical_lines-text : (doc : Doc) → texts (canonical_lines doc) ≡ canonical doc
canonical_lines-text doc =
    let front = posts_lines doc.posts ++ mesh_lines (some_posts doc.posts) doc in
    let memory = memory_lines (shown_words doc.memory) in
    texts-append (front ++ memory) (cores_lines 0 doc.programs)
    ∙ rw (texts-append front memory, front-text doc, memory_lines-text (shown_words doc.memory), cores_lines-text 0 doc.programs)
