-- The canonical text writes the document's table.
use Rattle.std.proofs.Common.{◌≡◌, ℕ, suc, true, false, ◌==◌, List, [], ◌∷◌, length, Some, IsUtf8, refl, sym, ap, ◌∙◌, arith}
use Rattle.std.proofs.lemmas.Bool.{and_parts}
use Rattle.std.proofs.lemmas.Bool.Decides.{nat_tests}
use Rattle.std.proofs.lemmas.Str.{IsUtf8-from_ascii, is_utf8-from_IsUtf8}
use Rattle.std.proofs.lemmas.Str.Ascii.{IsAscii-nil, IsAscii-cons}
use Rattle.std.specs.Char.{is_ascii}
use Rattle.std.specs.List.{list_all}
use Rattle.std.specs.Str.{IsAscii, is_utf8}
use Rattle.toml_parser.specs.Lexical.{skip_blank}
use Rattle.toml.specs.Data.{Items, Members, member, table}
use Rattle.toml.specs.Tables.{no_nodes, open_table, header}
use Rattle.toml.specs.Parse.{lines, skip_bom, parse_document}
use Rattle.toml.proofs.ReadLines.{run}
use Rattle.doc_text.specs.Doc.{Doc}
use Rattle.doc_text.specs.Canonical.{canonical, shown_words}
use Rattle.doc_text.specs.declared.key.Key.TheVariants.{Mesh}
use Rattle.doc_text.specs.Keys.{row_of}
use Rattle.mesh_doc.specs.Tables.{table_of}
use Rattle.mesh_doc.proofs.Written.{table_of-written}
use Rattle.canonical_form.specs.CanonicalTable.{core_entry, core_items, canonical_table}
use Rattle.canonical_form.specs.Writable.{IsWritable}
use Rattle.canonical_form.proofs.LinesRead.{said, lines-read, texts-ascii}
use Rattle.canonical_form.proofs.LinesWritten.{canonical-are}
use Rattle.canonical_form.proofs.CanonicalLines.{cores_lines, canonical_lines, canonical_lines-text}
use Rattle.canonical_form.proofs.CoreTables.{closed, all_cores}
use Rattle.canonical_form.proofs.MeshTables.{mesh_nodes, front_defines, close-posts, close-mesh}

ascii_text : (text : List ℕ) → list_all is_ascii text ≡ true → IsAscii text
ascii_text [] all = IsAscii-nil
ascii_text (c ∷ text) all =
    let (here, more) = and_parts (is_ascii c) (list_all is_ascii text) all in
    IsAscii-cons c text (grind (arith, nat_tests)) (ascii_text text more)

canonical-ascii : (doc : Doc) → IsWritable doc → list_all is_ascii (canonical doc) ≡ true
canonical-ascii doc small = rw (← canonical_lines-text doc) (texts-ascii (canonical_lines doc) (canonical-are doc small))

canonical-utf8 : (doc : Doc) → IsWritable doc → IsUtf8 (canonical doc)
canonical-utf8 doc small = IsUtf8-from_ascii (canonical doc) (ascii_text (canonical doc) (canonical-ascii doc small))

-- the text is UTF-8
pub canonical-is_utf8 : (doc : Doc) → IsWritable doc → is_utf8 (canonical doc) ≡ true
canonical-is_utf8 doc small = is_utf8-from_IsUtf8 (canonical doc) (canonical-utf8 doc small)

-- no byte order mark begins with an ASCII byte
no_mark : (text : List ℕ) → list_all is_ascii text ≡ true → skip_bom text ≡ text
unfolding skip_bom
no_mark [] all = refl
no_mark (c ∷ text) all =
    let other : (c == 239) ≡ false = grind (arith, nat_tests) in
    rw other

parsed : (text : List ℕ) → list_all is_ascii text ≡ true → parse_document text ≡ closed (lines (suc (length text)) (no_nodes, []) text)
unfolding parse_document
parsed text all = rw (no_mark text all)

same_table : (cores : Items) (mesh entries posts windows : Members) → mesh ≡ entries → posts ≡ windows
    → core_entry cores (member (row_of Mesh).name (table mesh) posts) ≡ core_entry cores (member (row_of Mesh).name (table entries) windows)
same_table cores mesh entries posts windows one other = rw (one, other)

-- what the lines define is the table
lines_define : (doc : Doc) → closed (run (no_nodes, []) (said (canonical_lines doc))) ≡ Some (canonical_table doc)
lines_define doc =
    let words = shown_words doc.memory in
    let cores = cores_lines 0 doc.programs in
    ap closed (front_defines doc.posts words doc cores)
    ∙ all_cores doc.programs 0 (open_table header (mesh_nodes doc words)) doc.posts ((row_of Mesh).name ∷ [])
    ∙ ap Some (same_table (core_items 0 doc.programs) _ _ _ _ (close-mesh doc) (close-posts doc.posts))

pub canonical-written : (doc : Doc) → IsWritable doc → table_of (canonical doc) ≡ Some (canonical_table doc)
canonical-written doc small =
    let text = canonical doc in
    let read = lines-read (canonical_lines doc) text (no_nodes, []) (suc (length text)) (canonical-are doc small) (ap skip_blank (sym (canonical_lines-text doc))) (omega arith) in
    table_of-written text (canonical_table doc) (canonical-utf8 doc small) (parsed text (canonical-ascii doc small) ∙ ap closed read ∙ lines_define doc)
