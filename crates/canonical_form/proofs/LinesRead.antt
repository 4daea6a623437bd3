-- Lines and what they say, read one after another.
use Rattle.std.proofs.Common.{◌≡◌, ℕ, suc, ◌-◌, ◌<◌, true, false, ◌==◌, List, [], ◌∷◌, ◌++◌, length, map, Option, Some, None, option_and_then, refl, sym, ap, ◌∙◌, arith}
use Rattle.std.proofs.lemmas.Bool.Decides.{nat_tests}
use Rattle.std.proofs.lemmas.List.Folds.{list_all-append}
use Rattle.std.specs.Char.{is_ascii}
use Rattle.std.specs.List.{list_all, flat_map}
use Rattle.toml_parser.specs.Lexical.{skip_blank}
use Rattle.toml_parser.proofs.LexicalLemmas.{skip_from-nil}
use Rattle.toml.specs.Tables.{Document, Expression, define}
use Rattle.toml.specs.Parse.{line, lines}
use Rattle.toml.proofs.Turns.{lines_end, lines_more, lines_refused}
use Rattle.toml.proofs.Blanks.{skip_newline, skip_within}
use Rattle.toml.proofs.ReadLines.{run}

-- what the reader has after the spaces before a line, and that it reads the line there
abbrev pub ReadsLine : Expression → List ℕ → List ℕ → Type 0
ReadsLine e text rest = (start : List ℕ) × (skip_blank text ≡ start) × (line start ≡ Some (e, 10 ∷ rest)) × (suc (length rest) < length start)

-- the text is a line that says this, whatever follows it
pub record IsLine (e : Expression) (text : List ℕ) : Type 0 where
  pub reads : (rest : List ℕ) → ReadsLine e (text ++ rest) rest
  pub ascii : list_all is_ascii text ≡ true

-- what a line says, and its text
abbrev pub Line : Type 0
Line = Expression × List ℕ

abbrev pub said : List Line → List Expression
said lines = map (λ l. l.0) lines

abbrev pub texts : List Line → List ℕ
texts lines = flat_map (λ l. l.1) lines

abbrev pub AreLines : List Line → Type 0
AreLines [] = Unit {0}
AreLines (l ∷ ls) = IsLine l.0 l.1 × AreLines ls

pub AreLines-append : (ls more : List Line) → AreLines ls → AreLines more → AreLines (ls ++ more)
AreLines-append [] more are others = others
AreLines-append (l ∷ ls) more are others = (are.0, AreLines-append ls more are.1 others)

read_step : (m : ℕ) (doc : Document) (text : List ℕ) (e : Expression) (after : List ℕ) (es : List Expression) (defined : Option Document) → defined ≡ define doc e → 0 < m → (length (skip_blank text) == 0) ≡ false
    → line (skip_blank text) ≡ Some (e, after) → ((next : Document) → lines (m - 1) next after ≡ option_and_then (λ n. run n es) (Some next)) → lines m doc text ≡ option_and_then (λ n. run n es) defined
read_step m doc text e after es None same some other read more = lines_refused m doc text e after some other read (sym same)
read_step m doc text e after es (Some next) same some other read more = lines_more m doc next text e after some other read (sym same) ∙ more next

-- the lines are read as what they say, with fuel for the length of the text
pub lines-read : (ls : List Line) (text : List ℕ) (doc : Document) (m : ℕ) → AreLines ls → skip_blank text ≡ skip_blank (texts ls) → length text < m → lines m doc text ≡ run doc (said ls)
lines-read [] text doc m are skip room =
    lines_end m doc text (omega arith) (rw (skip, skip_from-nil true false) refl)
lines-read (l ∷ ls) text doc m are skip room =
    let (start, at_start, read, shorter) = are.0.reads (texts ls) in
    let same : skip_blank text ≡ start = skip ∙ at_start in
    let other : (length (skip_blank text) == 0) ≡ false = rw same (grind (arith, nat_tests)) in
    let within = skip_within text in
    read_step m doc text l.0 (10 ∷ texts ls) (said ls) (define doc l.0) refl (omega arith) other (rw same read)
    (λ next. lines-read ls (10 ∷ texts ls) next (m - 1) are.1 (skip_newline (texts ls)) (omega (arith, ap length same)))

pub texts-ascii : (ls : List Line) → AreLines ls → list_all is_ascii (texts ls) ≡ true
texts-ascii [] are = refl
texts-ascii (l ∷ ls) are = rw (list_all-append is_ascii l.1 (texts ls), are.0.ascii) (texts-ascii ls are.1)
