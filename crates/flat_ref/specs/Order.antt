-- The same in the terms of memory models: taking an access as a relation of two flat states, and the value of the last
-- write to an address.
use Rattle.std.specs.Prelude.{◌≡◌, ℕ, ◌%◌, ◌==◌, ◌&&◌, ◌⊎◌, if◌then◌else◌, List, Some, length, slice_get, slice_index, slice_set}
use Rattle.std.specs.List.{fold}
use Rattle.core_isa.specs.declared.instr.Instr.{Instr}
use Rattle.core_isa.specs.declared.next.Next.TheVariants as next
use Rattle.core_isa.specs.Core.{CoreState, next_of, advanced, wrapped_sum, with_result, gone_on}
use Rattle.report_text.specs.declared.access.Access.{Access}
use Rattle.report_text.specs.declared.access.AccessKind.TheVariants as kind
use Rattle.report_text.specs.Accesses.{writes}
use Rattle.flat_ref.specs.declared.flat.Flat.{Flat}

-- the core is about to load, and its register receives the word at the address
pub record IsLoadOf (program : List Instr) (ready after : CoreState) (old new : List ℕ) (a : Access) : Type 0 where
  pub rd : ℕ
  pub address : ℕ
  pub is_next : next_of program ready ≡ next.Load rd address
  pub kind : a.kind ≡ kind.Load
  pub at : a.address ≡ address % length old
  pub value : a.value ≡ slice_index old a.address
  pub core : after ≡ with_result rd a.value ready
  pub memory : new ≡ old

-- the core is about to store, and the word at the address becomes its value
pub record IsStoreOf (program : List Instr) (ready after : CoreState) (old new : List ℕ) (a : Access) : Type 0 where
  pub address : ℕ
  pub is_next : next_of program ready ≡ next.Store address a.value
  pub kind : a.kind ≡ kind.Store
  pub at : a.address ≡ address % length old
  pub core : after ≡ gone_on ready
  pub memory : new ≡ slice_set old a.address a.value

-- the core is about to swap: the word at the address becomes its register's value, and the register the old word
pub record IsSwapOf (program : List Instr) (ready after : CoreState) (old new : List ℕ) (a : Access) : Type 0 where
  pub rd : ℕ
  pub address : ℕ
  pub is_next : next_of program ready ≡ next.Swap rd address a.value
  pub kind : a.kind ≡ kind.Swap
  pub at : a.address ≡ address % length old
  pub before : a.old ≡ slice_index old a.address
  pub core : after ≡ with_result rd a.old ready
  pub memory : new ≡ slice_set old a.address a.value

-- the core is about to add: the word at the address becomes the sum of the old word and its register's value, and the
-- register receives the old word
pub record IsAddOf (program : List Instr) (ready after : CoreState) (old new : List ℕ) (a : Access) : Type 0 where
  pub rd : ℕ
  pub address : ℕ
  pub value : ℕ
  pub is_next : next_of program ready ≡ next.Add rd address value
  pub kind : a.kind ≡ kind.Add
  pub at : a.address ≡ address % length old
  pub before : a.old ≡ slice_index old a.address
  pub sum : a.value ≡ wrapped_sum a.old value
  pub core : after ≡ with_result rd a.old ready
  pub memory : new ≡ slice_set old a.address a.value

-- the core is about to do the access, and does it
abbrev pub IsAccessOf : List Instr → CoreState → CoreState → List ℕ → List ℕ → Access → Type 0
IsAccessOf program ready after old new a =
    IsLoadOf program ready after old new a ⊎ IsStoreOf program ready after old new a
    ⊎ IsSwapOf program ready after old new a ⊎ IsAddOf program ready after old new a

-- the core of the access's tile does register instructions until it has done as many instructions as the access says,
-- and then makes it; nothing else changes
pub record Takes (programs : List (List Instr)) (old new : Flat) (a : Access) : Type 0 where
  pub program : List Instr
  pub core : CoreState
  pub its_program : slice_get programs a.tile ≡ Some program
  pub its_core : slice_get old.cores a.tile ≡ Some core
  pub between : ℕ
  pub ready : CoreState
  pub gets_there : advanced program between core ≡ Some ready
  pub number : ready.steps ≡ a.number
  pub after : CoreState
  pub access : IsAccessOf program ready after old.memory new.memory a
  pub cores : new.cores ≡ slice_set old.cores a.tile after

-- the word at an address after an access, by the word before it
abbrev pub word_by : ℕ → Access → ℕ → ℕ
word_by address a word = if writes a.kind && (a.address == address) then a.value else word

-- the value of the last write to the address among the accesses, or this word where there is none
abbrev pub last_written : ℕ → ℕ → List Access → ℕ
last_written address word accesses = fold (λ before a. word_by address a before) word accesses
