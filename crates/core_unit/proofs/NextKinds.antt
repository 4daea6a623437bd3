-- Which instruction is next, by its kind of access.
use Rattle.std.proofs.Common.{◌≡◌, true, refl, Some, List}
use Rattle.core_isa.specs.declared.instr.Instr.{Instr}
use Rattle.core_isa.specs.Core.{CoreState, Effect, Becomes, Loads, Stores, Swaps, Adds, Halts, effect_of, instr_at, next_kind, next_of, is_load, is_store, is_read_modify_write}
use Rattle.report_text.specs.declared.access.AccessKind.TheVariants.{Load, Store, Swap, Add}
use Rattle.core_unit.specs.Works.{kind_of_effect, access_next}

load_is : (effect : Effect) → kind_of_effect effect ≡ Some Load → is_load (next_kind effect) ≡ true
load_is (Becomes core) e = cc
load_is (Loads register sum) e = refl
load_is (Stores sum value) e = cc
load_is (Swaps register sum value) e = cc
load_is (Adds register sum value) e = cc
load_is Halts e = cc

store_is : (effect : Effect) → kind_of_effect effect ≡ Some Store → is_store (next_kind effect) ≡ true
store_is (Becomes core) e = cc
store_is (Loads register sum) e = cc
store_is (Stores sum value) e = refl
store_is (Swaps register sum value) e = cc
store_is (Adds register sum value) e = cc
store_is Halts e = cc

swap_is : (effect : Effect) → kind_of_effect effect ≡ Some Swap → is_read_modify_write (next_kind effect) ≡ true
swap_is (Becomes core) e = cc
swap_is (Loads register sum) e = cc
swap_is (Stores sum value) e = cc
swap_is (Swaps register sum value) e = refl
swap_is (Adds register sum value) e = cc
swap_is Halts e = cc

add_is : (effect : Effect) → kind_of_effect effect ≡ Some Add → is_read_modify_write (next_kind effect) ≡ true
add_is (Becomes core) e = cc
add_is (Loads register sum) e = cc
add_is (Stores sum value) e = cc
add_is (Swaps register sum value) e = cc
add_is (Adds register sum value) e = refl
add_is Halts e = cc

pub load_next : (program : List Instr) (core : CoreState) → access_next program core ≡ Some Load → is_load (next_of program core) ≡ true
unfolding next_of
load_next program core is = load_is (effect_of (instr_at program core.place) core) is

pub store_next : (program : List Instr) (core : CoreState) → access_next program core ≡ Some Store → is_store (next_of program core) ≡ true
unfolding next_of
store_next program core is = store_is (effect_of (instr_at program core.place) core) is

pub swap_next : (program : List Instr) (core : CoreState) → access_next program core ≡ Some Swap → is_read_modify_write (next_of program core) ≡ true
unfolding next_of
swap_next program core is = swap_is (effect_of (instr_at program core.place) core) is

pub add_next : (program : List Instr) (core : CoreState) → access_next program core ≡ Some Add → is_read_modify_write (next_of program core) ≡ true
unfolding next_of
add_next program core is = add_is (effect_of (instr_at program core.place) core) is
