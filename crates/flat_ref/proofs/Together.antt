-- The parts of an execution put together again.
use Rattle.std.proofs.Common.{◌≡◌, ℕ, ◌<◌, List, [], ◌∷◌, Option, Some, IsSome, is_some, length, slice_get, get_or, set, sym, ap, ◌∙◌, inl, inr, refl, length-set, arith}
use Rattle.std.specs.List.{AllByRecursion}
use Rattle.std.proofs.lemmas.Bool.{cases_eq}
use Rattle.std.proofs.lemmas.Option.{same_Some, option_and_then_some}
use Rattle.core_isa.specs.declared.instr.Instr.{Instr}
use Rattle.core_isa.specs.Core.{CoreState}
use Rattle.report_text.specs.declared.access.Access.{Access}
use Rattle.flat_ref.specs.declared.flat.Flat.{Flat}
use Rattle.mesh_gen.specs.Partial.{◌>>=◌}
use Rattle.flat_ref.specs.Taking.{flat_of, made_by, taken_all}
use Rattle.flat_ref.specs.Order.{last_written}
use Rattle.flat_ref.specs.Consistency.{accesses_of, made_all, ReadsLast}
use Rattle.flat_ref.proofs.Runs.{taken_all_none, taken_all_cons}
use Rattle.flat_ref.proofs.Takings.{taken_by_sides}
use Rattle.flat_ref.proofs.ProgramOrder.{slice_get-set_same, slice_get-set_other}
use Rattle.flat_ref.proofs.Parts.{some_of, found, serves_by, address_within, own_first, made_all_none, made_all_cons, same_run, run_first, run_other, CoresAlone}

-- each core alone makes its own accesses
abbrev pub RunsAlone : ℕ → List (List Instr) → List CoreState → List Access → Type 0
RunsAlone words programs cores accesses =
    (t : ℕ) (program : List Instr) (core : CoreState) → slice_get programs t ≡ Some program → slice_get cores t ≡ Some core → IsSome (made_all words program core (accesses_of t accesses))

pub record Together (words : ℕ) (programs : List (List Instr)) (old : Flat) (accesses : List Access) : Type 0 where
  pub new : Flat
  pub taken : taken_all programs old accesses ≡ Some new
  pub cores : CoresAlone words programs old.cores new.cores accesses
  pub many : length new.cores ≡ length old.cores

-- the core of the first access makes it
record First (words : ℕ) (programs : List (List Instr)) (old : Flat) (a : Access) (rest : List Access) : Type 0 where
  program : List Instr
  core : CoreState
  after : CoreState
  its_program : slice_get programs a.tile ≡ Some program
  its_core : slice_get old.cores a.tile ≡ Some core
  makes : made_by words program core a ≡ Some after
  others : IsSome (made_all words program after (accesses_of a.tile rest))

first_of_all : (words : ℕ) (programs : List (List Instr)) (old : Flat) (a : Access) (rest : List Access) → length old.cores ≡ length programs → a.tile < length programs → RunsAlone words programs old.cores (a ∷ rest) → First words programs old a rest
first_of_all words programs old a rest many within alone =
    let p = found programs a.tile within in
    let c = found old.cores a.tile (omega arith) in
    let all = some_of (made_all words p.0 c.0 (accesses_of a.tile (a ∷ rest))) (alone a.tile p.0 c.0 p.1 c.1) in
    let step = sym (made_all_cons words p.0 c.0 a (accesses_of a.tile rest)) ∙ (ap (made_all words p.0 c.0) (sym (own_first a.tile a rest refl)) ∙ all.1) in
    option_and_then_some (λ next. made_all words p.0 next (accesses_of a.tile rest)) (made_by words p.0 c.0 a) all.0 step (λ after makes others. record { program = p.0; core = c.0; after = after; its_program = p.1; its_core = c.1; makes = makes; others = ap is_some others })

-- the others make theirs as before
alone_after : (words : ℕ) (programs : List (List Instr)) (old : Flat) (a : Access) (rest : List Access) (f : First words programs old a rest) → RunsAlone words programs old.cores (a ∷ rest) → RunsAlone words programs (set old.cores a.tile f.after) rest
alone_after words programs old a rest f alone t program core is_program is_core =
    elim (cases_eq t a.tile) [
      | inl same ↦ let p = same_Some program f.program (sym is_program ∙ (ap (slice_get programs) same ∙ f.its_program)) in let c = same_Some core f.after (sym is_core ∙ (ap (slice_get (set old.cores a.tile f.after)) same ∙ slice_get-set_same old.cores a.tile f.core f.after f.its_core)) in let run = some_of (made_all words f.program f.after (accesses_of a.tile rest)) f.others in ap is_some (same_run words rest program f.program core f.after t a.tile (Some run.0) p c same run.1)
      | inr other ↦ let was = sym (slice_get-set_other old.cores t a.tile f.after other) ∙ is_core in ap is_some (sym (run_other words program core t a rest (λ e. other (sym e)))) ∙ alone t program core is_program was
    ]

cores_after : (words : ℕ) (programs : List (List Instr)) (old : Flat) (new : List CoreState) (a : Access) (rest : List Access) (f : First words programs old a rest) → CoresAlone words programs (set old.cores a.tile f.after) new rest → CoresAlone words programs old.cores new (a ∷ rest)
cores_after words programs old new a rest f others t program core is_program is_core =
    elim (cases_eq t a.tile) [
      | inl same ↦ let p = same_Some program f.program (sym is_program ∙ (ap (slice_get programs) same ∙ f.its_program)) in let c = same_Some core f.core (sym is_core ∙ (ap (slice_get old.cores) same ∙ f.its_core)) in same_run words (a ∷ rest) program f.program core f.core t a.tile (slice_get new t) p c same (run_first words f.program f.core f.after a rest (slice_get new t) f.makes (others a.tile f.program f.after f.its_program (slice_get-set_same old.cores a.tile f.core f.after f.its_core) ∙ ap (slice_get new) (sym same)))
      | inr other ↦ run_other words program core t a rest (λ e. other (sym e)) ∙ others t program core is_program (slice_get-set_other old.cores t a.tile f.after other ∙ is_core)
    ]

reads_after : (memory words : List ℕ) (a : Access) (rest : List Access) → ((address : ℕ) → get_or words address 0 ≡ last_written address (get_or memory address 0) (a ∷ [])) → ReadsLast memory (a ∷ rest) → ReadsLast words rest
reads_after memory words a rest word reads before later b e is_read =
    reads (a ∷ before) later b (ap (λ (xs : List Access). a ∷ xs) e) is_read ∙ ap (λ (w : ℕ). last_written b.address w before) (sym (word b.address))

-- accesses that each core makes alone, and that read what was written last, are taken together
pub together : (words : ℕ) (programs : List (List Instr)) (old : Flat) (accesses : List Access) → words ≡ length old.memory → 0 < words → length old.cores ≡ length programs → AllByRecursion (λ a. a.tile < length programs) accesses → RunsAlone words programs old.cores accesses → ReadsLast old.memory accesses → Together words programs old accesses
together words programs old [] is_words some many tiles alone reads = record {
  new = old;
  taken = taken_all_none programs old;
  cores = λ t program core is_program is_core. made_all_none words program core ∙ sym is_core;
  many = refl;
}
together words programs old (a ∷ rest) is_words some many tiles alone reads =
    let f = first_of_all words programs old a rest many tiles.0 alone in
    let within = address_within words f.program f.core f.after a some f.makes in
    let s = serves_by old.memory a (λ is_read. reads [] rest a refl is_read) in
    let next : Flat = flat_of (set old.cores a.tile f.after) s.words in
    let one = taken_by_sides programs old a f.program f.core f.after s.words f.its_program f.its_core (ap (λ (w : ℕ). made_by w f.program f.core a) (sym is_words) ∙ f.makes) s.served_is in
    let later = together words programs next rest (is_words ∙ sym s.as_long) some (length-set old.cores a.tile f.after ∙ many) tiles.1 (alone_after words programs old a rest f alone) (reads_after old.memory s.words a rest (λ address. s.word address (omega (arith, within))) reads) in
    record {
      new = later.new;
      taken = taken_all_cons programs old a rest ∙ (ap (λ (o : Option Flat). o >>= λ flat. taken_all programs flat rest) one ∙ later.taken);
      cores = cores_after words programs old later.new.cores a rest f later.cores;
      many = later.many ∙ length-set old.cores a.tile f.after;
    }
