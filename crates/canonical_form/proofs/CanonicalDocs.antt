-- The canonical text of a document that keeps every limit is read as that document.
use Rattle.std.proofs.Common.{◌≡◌, ℕ, ◌*◌, ◌<◌, ◌≤◌, ◌^◌, List, Result, Ok, ◌∙◌, ap, arith, mul-le-mul}
use Rattle.std.specs.List.{All, AllByRecursion}
use Rattle.std.proofs.lemmas.List.Elements.{All-from_recursion}
use Rattle.mesh_gen.specs.Limits.{IsFrom, AreTiles, most_tiles}
use Rattle.doc_text.specs.declared.fault.DocFault.{DocFault}
use Rattle.doc_text.specs.Canonical.{canonical}
use Rattle.doc_text.specs.Doc.{Doc}
use Rattle.mesh_doc.specs.Reading.{reading, reading_if}
use Rattle.mesh_doc.specs.Laws.{KeepsLimits}
use Rattle.canonical_form.specs.CanonicalDoc.{IsCanonicalDoc}
use Rattle.canonical_form.specs.Writable.{IsWritable, IsWritableNumber}
use Rattle.canonical_form.proofs.ListValues.{all_of}
use Rattle.canonical_form.proofs.TableRead.{table_read}
use Rattle.canonical_form.proofs.WholeText.{canonical-written}

-- ---- a number within limits is one that TOML can write

small : (least most n : ℕ) → IsFrom least most n → most < 2 ^ 63 → IsWritableNumber n
small least most n is few = omega (arith, is.high)

all_small : (P : ℕ → Type 0) → ((n : ℕ) → P n → IsWritableNumber n) → (list : List ℕ) → AllByRecursion P list → All IsWritableNumber list
all_small P weaker list all = All-from_recursion IsWritableNumber list (all_of P IsWritableNumber weaker list all)

tiles_small : (count : ℕ) → count ≤ most_tiles → (list : List ℕ) → AreTiles count list → All IsWritableNumber list
tiles_small count few list are = all_small (λ t. t < count) (λ t inside. omega arith) list are.inside

few_tiles : (doc : Doc) → KeepsLimits doc → doc.cols * doc.rows ≤ most_tiles
few_tiles doc limits = mul-le-mul limits.cols.high limits.rows.high

writable : (doc : Doc) → KeepsLimits doc → IsWritable doc
writable doc limits =
    let tiles = doc.cols * doc.rows in
    let few : tiles ≤ most_tiles = few_tiles doc limits in
    record {
      cols = omega (arith, limits.cols.high);
      rows = omega (arith, limits.rows.high);
      window = omega (arith, limits.window.high);
      vcs = omega (arith, limits.vcs.high);
      data_vcs = omega (arith, limits.data_vcs.high);
      lines = omega (arith, limits.lines.high);
      sets = omega (arith, limits.sets.high);
      ways = omega (arith, limits.ways.high);
      controllers = tiles_small tiles few doc.controllers limits.controllers;
      memory = all_small (IsFrom 0 4294967295) (λ n is. small 0 4294967295 n is (omega arith)) doc.memory limits.words;
      programs = omega (arith, limits.programs, few);
      posts = All-from_recursion (All IsWritableNumber) doc.posts (all_of (AreTiles tiles) (All IsWritableNumber) (tiles_small tiles few) doc.posts limits.posts.each);
    }

-- ---- by its table

same_doc : (read : Result Doc DocFault) (a b : Doc) → read ≡ Ok a → read ≡ Ok b → a ≡ b
same_doc read a b is_a is_b = cc

pub canonical_read : (doc : Doc) → IsCanonicalDoc doc → reading (canonical doc) ≡ Ok doc
unfolding reading
canonical_read doc is = ap reading_if (canonical-written doc (writable doc is.keeps)) ∙ table_read doc is

-- documents with one text are equal
pub canonical_apart : (a b : Doc) → IsCanonicalDoc a → IsCanonicalDoc b → canonical a ≡ canonical b → a ≡ b
canonical_apart a b is_a is_b same = same_doc (reading (canonical a)) a b (canonical_read a is_a) (ap reading same ∙ canonical_read b is_b)
