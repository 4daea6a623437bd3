-- The accesses of a tile stand in the order of its program.
use Rattle.std.proofs.Common.{◌≡◌, ℕ, ◌+◌, ◌<◌, ◌≤◌, ◌≢◌, zero, suc, List, [], ◌∷◌, ◌++◌, Some, slice_get, set, sym, ap, ◌∙◌, subst, inl, inr, refl, arith}
use Rattle.std.proofs.lemmas.Option.{same_Some, option_and_then_some}
use Rattle.std.proofs.lemmas.Bool.{cases_eq}
use Rattle.core_isa.specs.declared.instr.Instr.{Instr}
use Rattle.core_isa.specs.Core.{CoreState}
use Rattle.report_text.specs.declared.access.Access.{Access}
use Rattle.flat_ref.specs.declared.flat.Flat.{Flat}
use Rattle.flat_ref.specs.Taking.{taken, taken_all}
use Rattle.flat_ref.specs.Order.{IsAccessOf}
use Rattle.flat_ref.proofs.Runs.{taken_all_none, taken_all_cons, taken_all-append}
use Rattle.flat_ref.proofs.Takings.{Counted, Received, takes}

pub slice_get-set_same : (cores : List CoreState) (t : ℕ) (core after : CoreState) → slice_get cores t ≡ Some core → slice_get (set cores t after) t ≡ Some after
slice_get-set_same [] t core after e = cc
slice_get-set_same (first ∷ cores) zero core after e = refl
slice_get-set_same (first ∷ cores) (suc t) core after e = slice_get-set_same cores t core after e

pub slice_get-set_other : (cores : List CoreState) (t k : ℕ) (after : CoreState) → t ≢ k → slice_get (set cores k after) t ≡ slice_get cores t
slice_get-set_other [] t k after other = refl
slice_get-set_other (first ∷ cores) zero zero after other = absurd (other refl)
slice_get-set_other (first ∷ cores) zero (suc k) after other = refl
slice_get-set_other (first ∷ cores) (suc t) zero after other = refl
slice_get-set_other (first ∷ cores) (suc t) (suc k) after other =
    slice_get-set_other cores t k after (λ same. other (ap (λ (n : ℕ). suc n) same))

-- the tile's core has done at least n instructions
record HasDone (flat : Flat) (t n : ℕ) : Type 0 where
  core : CoreState
  its_core : slice_get flat.cores t ≡ Some core
  done : n ≤ core.steps

one_done : (program : List Instr) (ready after : CoreState) (old new : List ℕ) (a : Access) → IsAccessOf program ready after old new a → after.steps ≡ ready.steps + 1
one_done program ready after old new a (inl l) = ap (λ (core : CoreState). core.steps) l.core
one_done program ready after old new a (inr (inl s)) = ap (λ (core : CoreState). core.steps) s.core
one_done program ready after old new a (inr (inr (inl s))) = ap (λ (core : CoreState). core.steps) s.core
one_done program ready after old new a (inr (inr (inr s))) = ap (λ (core : CoreState). core.steps) s.core

-- an access that was taken is done
done_after : Counted → Received → (programs : List (List Instr)) (old new : Flat) (a : Access) → taken programs old a ≡ Some new → HasDone new a.tile (a.number + 1)
done_after counted received programs old new a e =
    let t = takes counted received programs old new a e in
    let one = one_done t.program t.ready t.after old.memory new.memory a t.access in
    record {
      core = t.after;
      its_core = ap (λ (cores : List CoreState). slice_get cores a.tile) t.cores ∙ slice_get-set_same old.cores a.tile t.core t.after t.its_core;
      done = omega (arith, one, t.number);
    }

-- one that is taken has at least that number
number_of_next : Counted → Received → (programs : List (List Instr)) (old new : Flat) (a : Access) (n : ℕ) → HasDone old a.tile n → taken programs old a ≡ Some new → n ≤ a.number
number_of_next counted received programs old new a n h e =
    let t = takes counted received programs old new a e in
    let same = same_Some h.core t.core (sym h.its_core ∙ t.its_core) in
    let steps = ap (λ (core : CoreState). core.steps) same in
    let way = counted t.program t.between t.core t.ready t.gets_there in
    omega (arith, h.done, steps, way.steps, t.number)

-- what a core has done stays done
still_done : Counted → Received → (programs : List (List Instr)) (old new : Flat) (a : Access) (t n : ℕ) → HasDone old t n → taken programs old a ≡ Some new → HasDone new t n
still_done counted received programs old new a t n h e =
    elim (cases_eq t a.tile) [
      | inl same ↦ let here = subst (λ (k : ℕ). HasDone old k n) same h in let least = number_of_next counted received programs old new a n here e in let after = done_after counted received programs old new a e in subst (λ (k : ℕ). HasDone new k n) (sym same) (record { core = after.core; its_core = after.its_core; done = omega (arith, least, after.done) })
      | inr other ↦ let x = takes counted received programs old new a e in record { core = h.core; its_core = ap (λ (cores : List CoreState). slice_get cores t) x.cores ∙ (slice_get-set_other old.cores t a.tile x.after other ∙ h.its_core); done = h.done }
    ]

done_by_all : Counted → Received → (programs : List (List Instr)) (old new : Flat) (accesses : List Access) (t n : ℕ) → HasDone old t n → taken_all programs old accesses ≡ Some new → HasDone new t n
done_by_all counted received programs old new [] t n h e =
    subst (λ (flat : Flat). HasDone flat t n) (same_Some old new (sym (taken_all_none programs old) ∙ e)) h
done_by_all counted received programs old new (a ∷ rest) t n h e =
    option_and_then_some (λ next. taken_all programs next rest) (taken programs old a) new (sym (taken_all_cons programs old a rest) ∙ e) (λ next one others. done_by_all counted received programs next new rest t n (still_done counted received programs old next a t n h one) others)

first_then : Counted → Received → (programs : List (List Instr)) (flat after : Flat) (between rest : List Access) (a b : Access) → taken_all programs flat (a ∷ (between ++ b ∷ rest)) ≡ Some after → a.tile ≡ b.tile → a.number < b.number
first_then counted received programs flat after between rest a b e same =
    option_and_then_some (λ next. taken_all programs next (between ++ b ∷ rest)) (taken programs flat a) after (sym (taken_all_cons programs flat a (between ++ b ∷ rest)) ∙ e) (λ next one others.
    option_and_then_some (λ mid. taken_all programs mid (b ∷ rest)) (taken_all programs next between) after (sym (taken_all-append programs next between (b ∷ rest)) ∙ others) (λ mid earlier later.
    option_and_then_some (λ last. taken_all programs last rest) (taken programs mid b) after (sym (taken_all_cons programs mid b rest) ∙ later) (λ last its_own rest_done.
    let done = done_by_all counted received programs next mid between a.tile (a.number + 1) (done_after counted received programs flat next a one) earlier in
    let least = number_of_next counted received programs mid last b (a.number + 1) (subst (λ (t : ℕ). HasDone mid t (a.number + 1)) same done) its_own in
    omega (arith, least))))

-- of two accesses of one tile the first has the smaller number
pub in_program_order : Counted → Received → (programs : List (List Instr)) (flat after : Flat) (before between rest : List Access) (a b : Access) → taken_all programs flat (before ++ a ∷ (between ++ b ∷ rest)) ≡ Some after → a.tile ≡ b.tile → a.number < b.number
in_program_order counted received programs flat after before between rest a b e same =
    option_and_then_some (λ mid. taken_all programs mid (a ∷ (between ++ b ∷ rest))) (taken_all programs flat before) after (sym (taken_all-append programs flat before (a ∷ (between ++ b ∷ rest))) ∙ e) (λ mid earlier later. first_then counted received programs mid after between rest a b later same)
