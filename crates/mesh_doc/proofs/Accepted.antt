-- A document that is accepted keeps to every limit.
use Rattle.std.proofs.Common.{◌≡◌, ℕ, zero, suc, ◌+◌, ◌-◌, ◌*◌, ◌<◌, max, Bool, true, false, not, List, [], ◌∷◌, ◌++◌, length, Option, Some, None, Ok, is_some, refl, sym, ap, ◌∙◌, subst, arith}
use Rattle.std.specs.Prelude.{replicate}
use Rattle.std.specs.List.{flat_map, AllByRecursion, range_with_len}
use Rattle.std.specs.Option.{unwrap_or}
use Rattle.std.proofs.lemmas.List.{length-append, length-map, length-replicate}
use Rattle.mesh_gen.specs.Limits.{IsFrom, AreTiles, most_side}
use Rattle.mesh_gen.proofs.OneTile.{product_positive}
use Rattle.toml.specs.Data.{Data, Members}
use Rattle.doc_text.specs.declared.key.Key.{Key}
use Rattle.doc_text.specs.declared.key.Key.TheVariants.{Posts, Cols, Rows, Window, Vcs, DataVcs, Lines, Sets, Ways, Controllers, Memory}
use Rattle.doc_text.specs.declared.fault.DocFault.{DocFault}
use Rattle.doc_text.specs.declared.fault.DocFault.TheVariants.{Range}
use Rattle.doc_text.specs.Keys.{row_of}
use Rattle.doc_text.specs.Limits.{ArePosts}
use Rattle.doc_text.specs.Doc.{Doc}
use Rattle.mesh_doc.specs.Tables.{table_of, cores_of, value}
use Rattle.mesh_doc.specs.Values.{Sizes, number_in, number_of, repeated, tiles, windows, words, is_within}
use Rattle.mesh_doc.specs.Faults.{fault_if, mesh_table, mesh_sizes, tiles_described, range_fault, range_faults, core_range_fault, out_of_range, controllers, core_tiles, controllers_twice, cores_twice, bad_programs, table_faults, value_faults, faults}
use Rattle.mesh_doc.specs.Reading.{image, document, first, accepted, reading_of, reading_if, reading}
use Rattle.mesh_doc.specs.Laws.{KeepsLimits}
use Rattle.mesh_doc.proofs.Firsts.{first_none}
use Rattle.mesh_doc.proofs.Items.{list_in-all}
use Rattle.mesh_doc.proofs.Numbers.{number_in-limits, number_in-number}
use Rattle.std.proofs.lemmas.List.FromFn.{length-range_with_len}
use Rattle.mesh_doc.proofs.Distinct.{AreTiles-tiles, ArePosts-windows, few_words}
use Rattle.mesh_doc.proofs.Described.{nothing_mapped}

halves : {A : Type 0} (a b : List A) → a ++ b ≡ [] → (a ≡ []) × (b ≡ [])
halves [] b is = (refl, is)
halves (x ∷ a) b is = cc

passes : (within : Bool) (fault : DocFault) → fault_if (not within) fault ≡ [] → within ≡ true
passes true fault is = refl
passes false fault is = cc

kept : (sizes : Sizes) (found : Members) (key : Key) → range_fault sizes found key ≡ [] → is_within sizes (row_of key).limit (value key found) ≡ true
unfolding range_fault
kept sizes found key is = passes (is_within sizes (row_of key).limit (value key found)) (Range key 0) is

there : {A : Type 0} (o : Option A) → is_some o ≡ true → (x : A) × (o ≡ Some x)
there None is = cc
there (Some x) is = (x, refl)

number_kept : (least most : ℕ) (datum : Data) → is_some (number_in least most datum) ≡ true → IsFrom least most (number_of datum)
number_kept least most datum is =
    let (n, said) = there (number_in least most datum) is in
    let (low, high) = number_in-limits least most datum n said in
    rw (number_in-number least most datum n said) (record { low = low; high = high })

-- ---- lists

positive : (top : Members) → IsFrom 1 most_side (mesh_sizes top).cols → IsFrom 1 most_side (mesh_sizes top).rows → 0 < tiles_described top
positive top cols rows = product_positive (mesh_sizes top).cols (mesh_sizes top).rows cols.low rows.low

controllers_kept : (top : Members) → 0 < tiles_described top → is_some (tiles (tiles_described top) (value Controllers (mesh_table top))) ≡ true → controllers_twice (controllers top) ≡ []
    → AreTiles (tiles_described top) (controllers top)
controllers_kept top some is none =
    let (list, said) = there (tiles (tiles_described top) (value Controllers (mesh_table top))) is in
    let same : controllers top ≡ list = ap (λ (o : Option (List ℕ)). unwrap_or o []) said in
    let single : repeated list ≡ [] = subst (λ (l : List ℕ). repeated l ≡ []) same (nothing_mapped _ (repeated (controllers top)) none) in
    subst (AreTiles (tiles_described top)) (sym same) (AreTiles-tiles (tiles_described top) some (value Controllers (mesh_table top)) list said single)

posts_kept : (count : ℕ) → 0 < count → (datum : Data) → is_some (windows count datum) ≡ true → ArePosts count (unwrap_or (windows count datum) [])
posts_kept count some datum is =
    let (list, said) = there (windows count datum) is in
    rw said (ArePosts-windows count some datum list said)

all_joined : (P : ℕ → Type 0) (a b : List ℕ) → AllByRecursion P a → AllByRecursion P b → AllByRecursion P (a ++ b)
all_joined P [] b first rest = rest
all_joined P (x ∷ a) b first rest = (first.0, all_joined P a b first.1 rest)

all_zero : (most n : ℕ) → AllByRecursion (IsFrom 0 most) (replicate n 0)
all_zero most zero = tt
all_zero most (suc n) = (record { low = omega arith; high = omega arith }, all_zero most n)

word_kept : (datum : Data) (n : ℕ) → number_in 0 4294967295 datum ≡ Some n → IsFrom 0 4294967295 n
word_kept datum n said = let (low, high) = number_in-limits 0 4294967295 datum n said in record { low = low; high = high }

record IsImage (lines : ℕ) (memory : List ℕ) : Type 0 where
  long : length memory ≡ 4 * lines
  limited : AllByRecursion (IsFrom 0 4294967295) memory

memory_kept : (lines : ℕ) (datum : Data) → is_some (words lines datum) ≡ true → IsImage lines (image (4 * lines) (unwrap_or (words lines datum) []))
memory_kept lines datum is =
    let (list, said) = there (words lines datum) is in
    let few = few_words lines datum list said in
    let all = (list_in-all (IsFrom 0 4294967295) 0 (4 * lines) (number_in 0 4294967295) word_kept datum list said).0 in
    rw said (record {
      long = simp (length-append, length-replicate) (omega (arith, few));
      limited = all_joined (IsFrom 0 4294967295) list (replicate (4 * lines - length list) 0) all (all_zero 4294967295 (4 * lines - length list));
    })

-- ---- the whole

abbrev numbers : Members → Key → List DocFault
numbers top key = range_fault (mesh_sizes top) (mesh_table top) key

keeps : (top : Members) → value_faults top ≡ [] → KeepsLimits (document top)
unfolding value_faults document
keeps top is =
    let ranges = out_of_range top in
    let twice = controllers_twice (controllers top) in
    let again = cores_twice (core_tiles top) in
    let (front, _) = halves ((ranges ++ twice) ++ again) (bad_programs top) is in
    let (limits, _) = halves (ranges ++ twice) again front in
    let (within, single) = halves ranges twice limits in
    let size = range_faults (mesh_table top) (Cols ∷ Rows ∷ []) in
    let posted = range_fault (mesh_sizes top) top Posts in
    let others = range_faults (mesh_table top) (Window ∷ Vcs ∷ DataVcs ∷ Lines ∷ Sets ∷ Ways ∷ Controllers ∷ Memory ∷ []) in
    let (inside, _) = halves ((size ++ posted) ++ others) (flat_map (core_range_fault (tiles_described top)) (cores_of top)) within in
    let (ahead, rest) = halves (size ++ posted) others inside in
    let (sized, posts) = halves size posted ahead in
    let (cols, sized_2) = halves (numbers top Cols) (numbers top Rows ++ []) sized in
    let (rows, _) = halves (numbers top Rows) [] sized_2 in
    let (window, rest_2) = halves (numbers top Window) _ rest in
    let (vcs, rest_3) = halves (numbers top Vcs) _ rest_2 in
    let (data_vcs, rest_4) = halves (numbers top DataVcs) _ rest_3 in
    let (lines, rest_5) = halves (numbers top Lines) _ rest_4 in
    let (sets, rest_6) = halves (numbers top Sets) _ rest_5 in
    let (ways, rest_7) = halves (numbers top Ways) _ rest_6 in
    let (listed, rest_8) = halves (numbers top Controllers) _ rest_7 in
    let (memory, _) = halves (numbers top Memory) [] rest_8 in
    let mesh = mesh_table top in
    let sizes = mesh_sizes top in
    let cols_kept = number_kept 1 most_side (value Cols mesh) (kept sizes mesh Cols cols) in
    let rows_kept = number_kept 1 most_side (value Rows mesh) (kept sizes mesh Rows rows) in
    let some = positive top cols_kept rows_kept in
    let words_kept = memory_kept sizes.lines (value Memory mesh) (kept sizes mesh Memory memory) in
    record {
      cols = cols_kept;
      rows = rows_kept;
      window = number_kept (max 1 ((sizes.cols - 1) + (sizes.rows - 1))) 64 (value Window mesh) (kept sizes mesh Window window);
      vcs = number_kept 1 8 (value Vcs mesh) (kept sizes mesh Vcs vcs);
      data_vcs = number_kept 1 4 (value DataVcs mesh) (kept sizes mesh DataVcs data_vcs);
      lines = number_kept 1 256 (value Lines mesh) (kept sizes mesh Lines lines);
      sets = number_kept 1 64 (value Sets mesh) (kept sizes mesh Sets sets);
      ways = number_kept 1 4 (value Ways mesh) (kept sizes mesh Ways ways);
      controllers = controllers_kept top some (kept sizes mesh Controllers listed) single;
      memory = words_kept.long;
      words = words_kept.limited;
      programs = length-map (range_with_len 0 (tiles_described top)) _ ∙ length-range_with_len 0 (tiles_described top);
      posts = posts_kept (tiles_described top) some (value Posts top) (kept sizes top Posts posts);
    }

accepted_only : (found : Option DocFault) (doc d : Doc) → accepted found doc ≡ Ok d → (found ≡ None) × (doc ≡ d)
accepted_only None doc d is = (refl, cc)
accepted_only (Some fault) doc d is = cc

whole_keeps : (top : Members) (d : Doc) → reading_of top ≡ Ok d → KeepsLimits d
unfolding reading_of
whole_keeps top d is =
    let (none, same) = accepted_only (first (faults top)) (document top) d is in
    let (_, values) = halves (table_faults top) (value_faults top) (first_none (faults top) none) in
    subst KeepsLimits same (keeps top values)

written_keeps : (written : Option Members) (d : Doc) → reading_if written ≡ Ok d → KeepsLimits d
written_keeps None d is = cc
written_keeps (Some top) d is = whole_keeps top d is

pub reading-keeps : (bytes : List ℕ) (d : Doc) → reading bytes ≡ Ok d → KeepsLimits d
unfolding reading
reading-keeps bytes d is = written_keeps (table_of bytes) d is
