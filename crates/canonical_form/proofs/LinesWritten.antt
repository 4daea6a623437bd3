-- Each line of the canonical text is read as what it says.
use Rattle.std.proofs.Common.{◌≡◌, ℕ, zero, suc, ◌+◌, ◌<◌, ◌≤◌, ◌^◌, List, [], ◌∷◌, ◌++◌, length, codes, subst, ap, arith, append_assoc}
use Rattle.std.proofs.lemmas.List.Elements.{All-nil, All-cons, All-head, All-tail}
use Rattle.std.specs.List.{All, AllByRecursion}
use Rattle.core_isa.specs.declared.instr.Instr.{Instr}
use Rattle.core_isa.specs.Printing.{program_text}
use Rattle.toml.specs.Data.{string}
use Rattle.toml.specs.Tables.{key_value}
use Rattle.doc_text.specs.Doc.{Doc}
use Rattle.doc_text.specs.Canonical.{sizes, value_line, shown_with, shown_words}
use Rattle.doc_text.specs.declared.key.Key.{Key}
use Rattle.doc_text.specs.declared.key.Key.TheVariants.{Posts, Controllers, Memory, Tile, Code}
use Rattle.doc_text.specs.Keys.{row_of}
use Rattle.canonical_form.specs.CanonicalTable.{number}
use Rattle.canonical_form.specs.Writable.{IsWritable, IsWritableNumber}
use Rattle.canonical_form.proofs.Decimals.{IsValue-number}
use Rattle.canonical_form.proofs.NumberLists.{IsValue-numbers, IsValue-lists}
use Rattle.canonical_form.proofs.CodeStrings.{code_value, IsValue-code, program_text-code}
use Rattle.canonical_form.proofs.LinesRead.{IsLine, AreLines, AreLines-append}
use Rattle.canonical_form.proofs.EntryLines.{IsLine-entry}
use Rattle.canonical_form.proofs.HeaderLines.{IsLine-mesh, IsLine-core}
use Rattle.canonical_form.proofs.CanonicalLines.{number_line, numbers_line, some_posts, posts_lines, sizes_lines, mesh_lines, memory_lines, code_line, core_lines, cores_lines, canonical_lines}

number-is : (key : Key) (n : ℕ) → n < 2 ^ 63 → IsLine (number_line key n).0 (number_line key n).1
number-is key n small = IsLine-entry key (number n) _ (IsValue-number 80 n small)

numbers-is : (key : Key) (ns : List ℕ) → All IsWritableNumber ns → IsLine (numbers_line key ns).0 (numbers_line key ns).1
numbers-is key ns small = IsLine-entry key _ _ (IsValue-numbers 79 ns small)

posts-are : (posts : List (List ℕ)) → All (All IsWritableNumber) posts → AreLines (posts_lines posts)
posts-are [] small = tt
posts-are (window ∷ windows) small = (IsLine-entry Posts _ _ (IsValue-lists 78 (window ∷ windows) small), tt)

sizes-are : (sizes : List (Key × ℕ)) → AllByRecursion (λ size. IsWritableNumber size.1) sizes → AreLines (sizes_lines sizes)
sizes-are [] small = tt
sizes-are (size ∷ sizes) small = (number-is size.0 size.1 small.0, sizes-are sizes small.1)

mesh-are : (doc : Doc) → IsWritable doc → AreLines (mesh_lines (some_posts doc.posts) doc)
mesh-are doc small =
    let numbers_are = sizes-are (sizes doc) (small.cols, (small.rows, (small.window, (small.vcs, (small.data_vcs, (small.lines, (small.sets, (small.ways, tt)))))))) in
    (IsLine-mesh (some_posts doc.posts), AreLines-append (sizes_lines (sizes doc)) (numbers_line Controllers doc.controllers ∷ []) numbers_are (numbers-is Controllers doc.controllers small.controllers, tt))

memory-are : (words : List ℕ) → All IsWritableNumber words → AreLines (memory_lines words)
memory-are [] small = tt
memory-are (word ∷ words) small = (numbers-is Memory (word ∷ words) small, tt)

shown_with-small : (word : ℕ) (shown : List ℕ) → IsWritableNumber word → All IsWritableNumber shown → All IsWritableNumber (shown_with word shown)
shown_with-small zero [] small others = All-nil IsWritableNumber
shown_with-small zero (next ∷ shown) small others = All-cons IsWritableNumber 0 (next ∷ shown) small others
shown_with-small (suc word) shown small others = All-cons IsWritableNumber (suc word) shown small others

shown_words-small : (words : List ℕ) → All IsWritableNumber words → All IsWritableNumber (shown_words words)
shown_words-small [] small = small
shown_words-small (word ∷ words) small =
    shown_with-small word (shown_words words) (All-head IsWritableNumber word words small) (shown_words-small words (All-tail IsWritableNumber word words small))

code_bytes : (text : List ℕ) → value_line Code (code_value text) ≡ value_line Code (codes "'''") ++ text ++ codes "'''\n"
code_bytes text = ap (λ (t : List ℕ). codes "code = '''\n" ++ t) (append_assoc text (codes "'''") (codes "\n"))

code-is : (instrs : List Instr) → IsLine (code_line instrs).0 (code_line instrs).1
code-is instrs =
    let text = program_text instrs in
    subst (λ (t : List ℕ). IsLine (([], (row_of Code).name), key_value (string text)) t) (code_bytes text) (IsLine-entry Code (string text) (code_value text) (IsValue-code 80 text (program_text-code instrs)))

core-are : (tile : ℕ) (program : List Instr) → tile < 2 ^ 63 → AreLines (core_lines tile program)
core-are tile [] small = tt
core-are tile (instr ∷ instrs) small = (IsLine-core, (number-is Tile tile small, (code-is (instr ∷ instrs), tt)))

cores-are : (programs : List (List Instr)) (tile : ℕ) → tile + length programs ≤ 2 ^ 63 → AreLines (cores_lines tile programs)
cores-are [] tile small = tt
cores-are (program ∷ programs) tile small =
    AreLines-append (core_lines tile program) (cores_lines (tile + 1) programs) (core-are tile program (omega arith)) (cores-are programs (tile + 1) (omega arith))

pub canonical-are : (doc : Doc) → IsWritable doc → AreLines (canonical_lines doc)
canonical-are doc small =
    let posts = posts_lines doc.posts in
    let mesh = mesh_lines (some_posts doc.posts) doc in
    let memory = memory_lines (shown_words doc.memory) in
    let front = AreLines-append posts mesh (posts-are doc.posts small.posts) (mesh-are doc small) in
    let words = AreLines-append (posts ++ mesh) memory front (memory-are (shown_words doc.memory) (shown_words-small doc.memory small.memory)) in
    AreLines-append (posts ++ mesh ++ memory) (cores_lines 0 doc.programs) words (cores-are doc.programs 0 (omega (arith, small.programs)))
