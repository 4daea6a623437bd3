-- The lines that begin a table.
use Rattle.std.proofs.Common.{◌≡◌, ℕ, Bool, true, false, List, [], ◌++◌, codes, refl, arith}
use Rattle.std.specs.Char.{is_ascii}
use Rattle.std.specs.List.{list_all}
use Rattle.toml_writer.specs.Text.{key_text}
use Rattle.toml.specs.Tables.{Definition, std_table, array_table}
use Rattle.toml.specs.Text.{IsLineText}
use Rattle.toml.proofs.ReadLines.{line_turn, IsPrinted}
use Rattle.doc_text.specs.declared.key.Key.TheVariants.{Mesh, Core}
use Rattle.doc_text.specs.Keys.{row_of}
use Rattle.doc_text.specs.Canonical.{table_line, tables_line}
use Rattle.canonical_form.proofs.LinesRead.{IsLine}

-- a header as the library prints one is a line
printed_header : (started : Bool) (name text : List ℕ) (what : Definition) → IsLineText false started ([], name) what text → IsPrinted ([], name) what → list_all is_ascii text ≡ true
    → IsLine (([], name), what) text
printed_header started name text what is printed ascii =
    record {
      reads = λ rest. let (start, at_start, read, some, shorter, not_bom) = line_turn false started ([], name) what text rest is printed in (start, at_start, read, shorter);
      ascii = ascii;
    }

-- an empty line, where lines stand before the table
abbrev pub empty_line : Bool → List ℕ
empty_line true = codes "\n"
empty_line false = []

pub IsLine-mesh : (after : Bool) → IsLine (([], (row_of Mesh).name), std_table) (empty_line after ++ table_line Mesh)
unfolding key_text
IsLine-mesh true = printed_header true (row_of Mesh).name (codes "\n[mesh]\n") std_table refl (omega arith) refl
IsLine-mesh false = printed_header false (row_of Mesh).name (codes "[mesh]\n") std_table refl (omega arith) refl

pub IsLine-core : IsLine (([], (row_of Core).name), array_table) (codes "\n" ++ tables_line Core)
unfolding key_text
IsLine-core = printed_header true (row_of Core).name (codes "\n[[core]]\n") array_table refl (omega arith) refl
