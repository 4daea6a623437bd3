-- The line of a key and its value.
use Rattle.std.proofs.Common.{◌≡◌, ℕ, true, false, ◌==◌, List, [], ◌∷◌, ◌++◌, codes, Some, refl, arith, append_assoc, length-append}
use Rattle.std.proofs.lemmas.Bool.Decides.{nat_tests}
use Rattle.std.proofs.lemmas.List.Folds.{list_all-append}
use Rattle.std.specs.Char.{is_ascii}
use Rattle.std.specs.List.{list_all}
use Rattle.toml_parser.specs.Lexical.{first, skip_ws}
use Rattle.toml_parser.proofs.LexicalLemmas.{skip_ws_none}
use Rattle.toml_writer.specs.Text.{key_text}
use Rattle.toml_writer.proofs.Strings.{is_key_start-key_text}
use Rattle.toml.specs.Data.{Data}
use Rattle.toml.specs.Tables.{key_value}
use Rattle.toml.specs.Parse.{val, ends_line, expression, line}
use Rattle.toml.proofs.Turns.{keyval_ok}
use Rattle.toml.proofs.Blanks.{starts_value, skip_start}
use Rattle.toml.proofs.ReadValues.{EndsValue, key_equals-pair}
use Rattle.doc_text.specs.declared.key.Key.{Key}
use Rattle.doc_text.specs.declared.key.Key.TheVariants.{Mesh, Posts, Core, Cols, Rows, Window, Vcs, DataVcs, Lines, Sets, Ways, Controllers, Memory, Tile, Code}
use Rattle.doc_text.specs.Keys.{row_of}
use Rattle.doc_text.specs.Canonical.{value_line}
use Rattle.canonical_form.proofs.ValueTexts.{IsValue}
use Rattle.canonical_form.proofs.LinesRead.{Line, IsLine, ReadsLine}

-- a key that is written as it is
record IsPlainKey (key : List ℕ) : Type 0 where
  bare : key_text key ≡ key
  ascii : list_all is_ascii key ≡ true

-- so each key of a document
plain_key : (key : Key) → IsPlainKey (row_of key).name
unfolding key_text
plain_key Mesh = record { bare = refl; ascii = refl }
plain_key Posts = record { bare = refl; ascii = refl }
plain_key Core = record { bare = refl; ascii = refl }
plain_key Cols = record { bare = refl; ascii = refl }
plain_key Rows = record { bare = refl; ascii = refl }
plain_key Window = record { bare = refl; ascii = refl }
plain_key Vcs = record { bare = refl; ascii = refl }
plain_key DataVcs = record { bare = refl; ascii = refl }
plain_key Lines = record { bare = refl; ascii = refl }
plain_key Sets = record { bare = refl; ascii = refl }
plain_key Ways = record { bare = refl; ascii = refl }
plain_key Controllers = record { bare = refl; ascii = refl }
plain_key Memory = record { bare = refl; ascii = refl }
plain_key Tile = record { bare = refl; ascii = refl }
plain_key Code = record { bare = refl; ascii = refl }

ends_at_newline : (rest : List ℕ) → ends_line (skip_ws (10 ∷ rest)) ≡ true
ends_at_newline rest = rw (skip_ws_none (10 ∷ rest) refl) (grind (arith, nat_tests))

line_entry : (key value rest : List ℕ) (d : Data) → IsValue 80 d value
    → line (key_text key ++ (codes " = " ++ (value ++ 10 ∷ rest))) ≡ Some ((([], key), key_value d), 10 ∷ rest)
unfolding line expression
line_entry key value rest d is =
    let at_value = value ++ 10 ∷ rest in
    let whole = key_text key ++ (codes " = " ++ at_value) in
    let ends : EndsValue (10 ∷ rest) = ((refl, refl), (refl, refl)) in
    let pair = keyval_ok (val 80) whole at_value (10 ∷ rest) ([], key) d (key_equals-pair key at_value (is.starts (10 ∷ rest))) (is.reads (10 ∷ rest) ends) in
    let key_first = is_key_start-key_text key (codes " = " ++ at_value) in
    let other : (first whole == 91) ≡ false = grind (arith, nat_tests) in
    rw (other, pair, ends_at_newline rest)

reads_entry : (key value rest : List ℕ) (d : Data) → IsValue 80 d value
    → ReadsLine (([], key), key_value d) (key_text key ++ (codes " = " ++ (value ++ 10 ∷ rest))) rest
reads_entry key value rest d is =
    let at_value = value ++ 10 ∷ rest in
    let whole = key_text key ++ (codes " = " ++ at_value) in
    let key_first = is_key_start-key_text key (codes " = " ++ at_value) in
    let start : starts_value (first whole) ≡ true = grind (arith, nat_tests) in
    let key_size = length-append (key_text key) (codes " = " ++ at_value) in
    let value_size = length-append value (10 ∷ rest) in
    (whole, skip_start whole start, line_entry key value rest d is, omega (arith, key_size, value_size))

entry_bytes : (key value rest : List ℕ) → (key ++ codes " = " ++ value ++ codes "\n") ++ rest ≡ key ++ (codes " = " ++ (value ++ 10 ∷ rest))
entry_bytes key value rest = simp append_assoc

entry_ascii : (key value : List ℕ) → list_all is_ascii key ≡ true → list_all is_ascii value ≡ true → list_all is_ascii (key ++ codes " = " ++ value ++ codes "\n") ≡ true
entry_ascii key value of_key of_value =
    rw (list_all-append is_ascii (key ++ codes " = " ++ value) (codes "\n"), list_all-append is_ascii (key ++ codes " = ") value, list_all-append is_ascii key (codes " = "), of_key, of_value) refl

-- a key, its value, and the line that gives it
abbrev pub entry_line : Key → Data → List ℕ → Line
entry_line key d value = ((([], (row_of key).name), key_value d), value_line key value)

pub IsLine-entry : (key : Key) (d : Data) (value : List ℕ) → IsValue 80 d value → IsLine (([], (row_of key).name), key_value d) (value_line key value)
IsLine-entry key d value is =
    let name = (row_of key).name in
    let plain = plain_key key in
    record {
      reads = λ rest.
          let reads : ReadsLine (([], name), key_value d) (name ++ (codes " = " ++ (value ++ 10 ∷ rest))) rest =
          rw plain.bare at (reads_entry name value rest d is) in
          rw (entry_bytes name value rest) reads;
      ascii = entry_ascii name value plain.ascii is.ascii;
    }
