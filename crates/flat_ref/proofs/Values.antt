-- What memory holds once accesses are taken.
use Rattle.std.proofs.Common.{◌≡◌, ℕ, ◌<◌, ◌%◌, true, false, eqb, cond, List, [], ◌∷◌, ◌++◌, Some, length, get_or, set, sym, ap, ◌∙◌, inl, inr, refl, length-set, get_or-set_same, get_or-set_other, arith}
use Rattle.std.proofs.lemmas.Option.{same_Some, option_and_then_some}
use Rattle.std.proofs.lemmas.Bool.{cases_eq, eq-eqb, false≢true}
use Rattle.std.proofs.lemmas.Bool.Decides.{nat_tests}
use Rattle.core_isa.specs.declared.instr.Instr.{Instr}
use Rattle.core_isa.specs.Core.{CoreState}
use Rattle.report_text.specs.declared.access.Access.{Access}
use Rattle.report_text.specs.Accesses.{reads, writes, read_by}
use Rattle.flat_ref.specs.declared.flat.Flat.{Flat}
use Rattle.flat_ref.specs.Taking.{taken, taken_all}
use Rattle.flat_ref.specs.Order.{IsLoadOf, IsAccessOf, word_by, last_written}
use Rattle.flat_ref.proofs.Runs.{taken_all_none, taken_all_cons, taken_all-append}
use Rattle.flat_ref.proofs.Takings.{Counted, Received, takes}

-- one access changes the word at its address alone, and only where it writes
record ChangesWords (old new : List ℕ) (a : Access) : Type 0 where
  as_long : length new ≡ length old
  words : (address : ℕ) → get_or new address 0 ≡ word_by address a (get_or old address 0)

pub set_word : (words : List ℕ) (at value address : ℕ) → at < length words → get_or (set words at value) address 0 ≡ cond (eqb at address) value (get_or words address 0)
set_word words at value address within =
    elim (cases_eq address at) [
      | inl same ↦ let here = get_or-set_same words at value 0 within in let test : eqb at address ≡ true = grind (arith, nat_tests) in rw (test, same) here
      | inr other ↦ let test : eqb at address ≡ false = grind (arith, nat_tests) in rw test (get_or-set_other words at address value 0 other)
    ]

load_changes : (program : List Instr) (ready after : CoreState) (old new : List ℕ) (a : Access) → IsLoadOf program ready after old new a → ChangesWords old new a
load_changes program ready after old new a l = record {
  as_long = ap length l.memory;
  words = λ address. rw l.kind (ap (λ (words : List ℕ). get_or words address 0) l.memory);
}

-- what an access that writes changes
write_changes : (old new : List ℕ) (a : Access) (address : ℕ) → 0 < length old → writes a.kind ≡ true → a.address ≡ address % length old → new ≡ set old a.address a.value → ChangesWords old new a
write_changes old new a there some is_write at memory =
    let within : a.address < length old = omega (arith, at) in
    record {
      as_long = ap length memory ∙ length-set old a.address a.value;
      words = λ address. rw is_write (ap (λ (words : List ℕ). get_or words address 0) memory ∙ set_word old a.address a.value address within);
    }

access_changes : (program : List Instr) (ready after : CoreState) (old new : List ℕ) (a : Access) → 0 < length old → IsAccessOf program ready after old new a → ChangesWords old new a
access_changes program ready after old new a some (inl l) = load_changes program ready after old new a l
access_changes program ready after old new a some (inr (inl s)) =
    write_changes old new a s.address some (ap writes s.kind) s.at s.memory
access_changes program ready after old new a some (inr (inr (inl s))) =
    write_changes old new a s.address some (ap writes s.kind) s.at s.memory
access_changes program ready after old new a some (inr (inr (inr s))) =
    write_changes old new a s.address some (ap writes s.kind) s.at s.memory

changes : Counted → Received → (programs : List (List Instr)) (old new : Flat) (a : Access) → 0 < length old.memory → taken programs old a ≡ Some new → ChangesWords old.memory new.memory a
changes counted received programs old new a some e =
    let t = takes counted received programs old new a e in
    access_changes t.program t.ready t.after old.memory new.memory a some t.access

-- the value of an access that writes is the word from then on
pub writes_value : Counted → Received → (programs : List (List Instr)) (old new : Flat) (a : Access) → 0 < length old.memory → taken programs old a ≡ Some new → writes a.kind ≡ true → get_or new.memory a.address 0 ≡ a.value
writes_value counted received programs old new a some e is_write =
    let here = (changes counted received programs old new a some e).words a.address in
    let same : eqb a.address a.address ≡ true = eq-eqb a.address a.address refl in
    rw (is_write, same) at here

-- after the accesses each word is what was last stored in it
pub record HoldsLast (old new : List ℕ) (accesses : List Access) : Type 0 where
  pub as_long : length new ≡ length old
  pub words : (address : ℕ) → get_or new address 0 ≡ last_written address (get_or old address 0) accesses

pub holds_last : Counted → Received → (programs : List (List Instr)) (old new : Flat) (accesses : List Access) → 0 < length old.memory → taken_all programs old accesses ≡ Some new → HoldsLast old.memory new.memory accesses
holds_last counted received programs old new [] some e =
    let same : old ≡ new = same_Some old new (sym (taken_all_none programs old) ∙ e) in
    record {
      as_long = ap (λ (flat : Flat). length flat.memory) (sym same);
      words = λ address. ap (λ (flat : Flat). get_or flat.memory address 0) (sym same);
    }
holds_last counted received programs old new (a ∷ rest) some e =
    option_and_then_some (λ next. taken_all programs next rest) (taken programs old a) new (sym (taken_all_cons programs old a rest) ∙ e) (λ next one others.
    let first = changes counted received programs old next a some one in
    let last = holds_last counted received programs next new rest (omega (arith, first.as_long)) others in
    record {
      as_long = last.as_long ∙ first.as_long;
      words = λ address. last.words address ∙ ap (λ (word : ℕ). last_written address word rest) (first.words address);
    })

-- an access that reads received the word that was there
read_value : (program : List Instr) (ready after : CoreState) (old new : List ℕ) (a : Access) → reads a.kind ≡ true → IsAccessOf program ready after old new a → read_by a ≡ get_or old a.address 0
read_value program ready after old new a is_read (inl l) = rw l.kind l.value
read_value program ready after old new a is_read (inr (inl s)) =
    absurd (false≢true (sym (ap reads s.kind) ∙ is_read))
read_value program ready after old new a is_read (inr (inr (inl s))) = rw s.kind s.before
read_value program ready after old new a is_read (inr (inr (inr s))) = rw s.kind s.before

-- it received the value that was last written at its address before it
pub reads_last : Counted → Received → (programs : List (List Instr)) (flat after : Flat) (before rest : List Access) (a : Access) → 0 < length flat.memory → taken_all programs flat (before ++ a ∷ rest) ≡ Some after → reads a.kind ≡ true → read_by a ≡ last_written a.address (get_or flat.memory a.address 0) before
reads_last counted received programs flat after before rest a some e is_read =
    option_and_then_some (λ mid. taken_all programs mid (a ∷ rest)) (taken_all programs flat before) after (sym (taken_all-append programs flat before (a ∷ rest)) ∙ e) (λ mid earlier later.
    option_and_then_some (λ next. taken_all programs next rest) (taken programs mid a) after (sym (taken_all_cons programs mid a rest) ∙ later) (λ next one others.
    let t = takes counted received programs mid next a one in
    let words = holds_last counted received programs flat mid before some earlier in
    read_value t.program t.ready t.after mid.memory next.memory a is_read t.access ∙ words.words a.address))
