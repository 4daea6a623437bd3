-- What a core makes alone, with one more instruction: a register instruction, or an access.
use Rattle.std.proofs.Common.{◌≡◌, ℕ, ◌+◌, ◌-◌, ◌*◌, ◌%◌, ◌≤◌, suc, true, ◌==◌, leb, List, [], ◌∷◌, ◌++◌, Option, Some, option_and_then, sym, ap, ◌∙◌}
use Rattle.std.proofs.Common.{refl, subst, eq-eqb, arith}
use Rattle.std.proofs.lemmas.Bool.{le-leb, and_from}
use Rattle.std.proofs.lemmas.Bool.Decides.{nat_tests}
use Rattle.std.proofs.lemmas.Option.{option_and_then_some}
use Rattle.std.proofs.lemmas.List.Sums.{fold_push}
use Rattle.std.proofs.lemmas.List.Elements.{filter-append}
use Rattle.std.proofs.lemmas.List.{append-nil}
use Rattle.core_isa.specs.declared.instr.Instr.{Instr}
use Rattle.core_isa.specs.Core.{CoreState, Effect, Becomes, Loads, Stores, Swaps, Adds, Halts, effect_of, instr_at, next_of, next_kind, stepped, becomes, advanced}
use Rattle.report_text.specs.declared.access.Access.{Access}
use Rattle.report_text.specs.declared.access.AccessKind.TheVariants as kind
use Rattle.report_text.specs.Accesses.{word_after}
use Rattle.mesh_gen.specs.Partial.{◌>>=◌}
use Rattle.flat_ref.specs.Taking.{core_at, made, made_by}
use Rattle.flat_ref.specs.Consistency.{accesses_of, made_all, run_alone}
use Rattle.flat_ref.proofs.Parts.{own_first, own_other}
use Rattle.chip_model.specs.declared.pending.Pending.{Pending}
use Rattle.chip_model.specs.Chip.{Chip}
use Rattle.chip_model.specs.Snoop.{old_word}
use Rattle.chip_model.specs.Units.{core_after}
use Rattle.chip_model.specs.UnitShape.{IsAccess}
use Rattle.chip_laws.proofs.Options.{when_some}
use Rattle.chip_laws.proofs.InOrder.{becomes_goes}

-- ---- a register instruction
core_at-more : (program : List Instr) (first core new : CoreState) (n : ℕ) → core_at n program first ≡ Some core → stepped program core ≡ Some new
    → core_at (n + 1) program first ≡ Some new
unfolding core_at advanced
core_at-more program first core new n e next_is =
    when_some (leb first.steps n) (advanced program (n - first.steps) first) core e (λ at_most reached.
    let within : first.steps ≤ n = grind (arith, nat_tests) in
    let test : leb first.steps (n + 1) ≡ true = le-leb first.steps (n + 1) (omega arith) in
    let more : n + 1 - first.steps ≡ suc (n - first.steps) = omega arith in
    rw (test, more) (ap (option_and_then (stepped program)) reached ∙ next_is))

pub runs_register : (words : ℕ) (program : List Instr) (start core new : CoreState) (own : List Access)
    → run_alone words program start own core.steps ≡ Some core
    → effect_of (instr_at program core.place) core ≡ Becomes new → run_alone words program start own new.steps ≡ Some new
unfolding stepped
runs_register words program start core new own runs e =
    option_and_then_some (λ last. core_at core.steps program last) (made_all words program start own) core runs (λ last made there.
    let steps : new.steps ≡ core.steps + 1 = (becomes_goes (instr_at program core.place) core new e).steps in
    subst (λ (n : ℕ). run_alone words program start own n ≡ Some new) (sym steps)
    (ap (λ (o : Option CoreState). o >>= λ c. core_at (core.steps + 1) program c) made ∙ core_at-more program last core new core.steps there (ap becomes e)))

-- ---- an access
made_all-push : (words : ℕ) (program : List Instr) (start : CoreState) (own : List Access) (a : Access)
    → made_all words program start (own ++ a ∷ []) ≡ (made_all words program start own >>= λ before. made_by words program before a)
unfolding made_all
made_all-push words program start own a = fold_push (λ (found : Option CoreState) (b : Access). found >>= λ before. made_by words program before b)
    (Some start) own a

pub core_at-itself : (program : List Instr) (core : CoreState) → core_at core.steps program core ≡ Some core
unfolding core_at advanced
core_at-itself program core =
    let test : leb core.steps core.steps ≡ true = le-leb core.steps core.steps (omega arith) in
    let none : core.steps - core.steps ≡ 0 = omega arith in
    rw (test, none) refl

pub runs_access : (words : ℕ) (program : List Instr) (start core new : CoreState) (own : List Access) (a : Access)
    → run_alone words program start own core.steps ≡ Some core
    → a.number ≡ core.steps
    → made words program core a (next_of program core) a.kind ≡ Some new → run_alone words program start (own ++ a ∷ []) new.steps ≡ Some new
unfolding made_by
runs_access words program start core new own a runs number makes =
    option_and_then_some (λ last. core_at core.steps program last) (made_all words program start own) core runs (λ last before there.
    let ready : core_at a.number program last ≡ Some core = ap (λ (n : ℕ). core_at n program last) number ∙ there in
    let after : made_all words program start (own ++ a ∷ []) ≡ Some new =
    made_all-push words program start own a
    ∙ ap (λ (o : Option CoreState). o >>= λ c. made_by words program c a) before
    ∙ ap (λ (o : Option CoreState). o >>= λ c. made words program c a (next_of program c) a.kind) ready
    ∙ makes in
    ap (λ (o : Option CoreState). o >>= λ c. core_at new.steps program c) after ∙ core_at-itself program new)

-- what was done of an access that waited, with the word that was there
pub record DoesAccess (access : Pending) (a : Access) : Type 0 where
  pub word : ℕ
  pub kind : a.kind ≡ access.kind
  pub address : a.address ≡ access.address
  pub value : a.value ≡ word_after access.kind access.value word
  pub old : a.old ≡ old_word access.kind word

right_place : (chip : Chip) (access : Pending) (a : Access) (sum : ℕ) → a.address ≡ access.address → access.address ≡ sum % (4 * chip.lines)
    → (sum % (4 * chip.lines) == a.address) ≡ true
right_place chip access a sum same at = eq-eqb (sum % (4 * chip.lines)) a.address (sym (same ∙ at))

-- the access that is next is made, and leaves the core that goes on with what it read
made_next : (chip : Chip) (program : List Instr) (core : CoreState) (access : Pending) (a : Access) (effect : Effect) → DoesAccess access a
    → IsAccess chip access effect
    → made (4 * chip.lines) program core a (next_kind effect) a.kind ≡ Some (core_after program a core)
made_next chip program core access a (Loads register sum) does is =
    let is_load : a.kind ≡ kind.Load = does.kind ∙ is.0 in
    let test = right_place chip access a sum does.address is.1 in
    rw (is_load, test) refl
made_next chip program core access a (Stores sum value) does is =
    let is_store : a.kind ≡ kind.Store = does.kind ∙ is.0 in
    let same : value ≡ a.value = sym (does.value ∙ ap (λ k. word_after k access.value does.word) is.0 ∙ is.2) in
    let test = and_from _ _ (right_place chip access a sum does.address is.1) (eq-eqb value a.value same) in
    rw (is_store, test) refl
made_next chip program core access a (Swaps register sum value) does is =
    let is_swap : a.kind ≡ kind.Swap = does.kind ∙ is.0 in
    let same : value ≡ a.value = sym (does.value ∙ ap (λ k. word_after k access.value does.word) is.0 ∙ is.2) in
    let test = and_from _ _ (right_place chip access a sum does.address is.1) (eq-eqb value a.value same) in
    rw (is_swap, test) refl
made_next chip program core access a (Adds register sum value) does is =
    let is_add : a.kind ≡ kind.Add = does.kind ∙ is.0 in
    let read : a.old ≡ does.word = does.old ∙ ap (λ k. old_word k does.word) is.0 in
    let same : word_after kind.Add value a.old ≡ a.value =
    ap (word_after kind.Add value) read ∙ ap (λ (v : ℕ). word_after kind.Add v does.word) (sym is.2)
    ∙ sym (does.value ∙ ap (λ k. word_after k access.value does.word) is.0) in
    let test = and_from _ _ (right_place chip access a sum does.address is.1) (eq-eqb (word_after kind.Add value a.old) a.value same) in
    rw (is_add, test) refl
made_next chip program core access a (Becomes new) does is = absurd is
made_next chip program core access a Halts does is = absurd is

pub makes_next : (chip : Chip) (program : List Instr) (core : CoreState) (access : Pending) (a : Access) → DoesAccess access a
    → IsAccess chip access (effect_of (instr_at program core.place) core)
    → made (4 * chip.lines) program core a (next_of program core) a.kind ≡ Some (core_after program a core)
unfolding next_of
makes_next chip program core access a does is = made_next chip program core access a (effect_of (instr_at program core.place) core) does is

-- ---- a tile's own accesses with one more
pub own_push : (t : ℕ) (xs : List Access) (a : Access) → a.tile ≡ t → accesses_of t (xs ++ a ∷ []) ≡ accesses_of t xs ++ a ∷ []
own_push t xs a own = filter-append (λ (b : Access). b.tile == t) xs (a ∷ []) ∙ ap (λ (ys : List Access). accesses_of t xs ++ ys) (own_first t a [] own)

pub other_push : (t : ℕ) (xs : List Access) (a : Access) → (a.tile ≡ t → ⊥) → accesses_of t (xs ++ a ∷ []) ≡ accesses_of t xs
other_push t xs a other =
    filter-append (λ (b : Access). b.tile == t) xs (a ∷ [])
    ∙ ap (λ (ys : List Access). accesses_of t xs ++ ys) (own_other t a [] other)
    ∙ append-nil (accesses_of t xs)
