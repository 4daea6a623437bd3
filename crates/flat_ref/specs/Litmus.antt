-- Litmus tests: for each an execution, and an outcome that no interleaving gives. Words are written and read at the
-- addresses 0 and 4.
use Rattle.std.specs.Prelude.{List, [], ◌∷◌, refl}
use Rattle.std.proofs.Common.{lit≤}
use Rattle.core_isa.specs.declared.instr.Instr.{Instr}
use Rattle.core_isa.specs.declared.instr.Instr.TheVariants.{Li, Ld, St, Swap, Fadd, Beq}
use Rattle.core_isa.specs.Core.{next_of, stepped, advanced, loaded}
use Rattle.flat_ref.specs.Taking.{core_at, made_by, taken, taken_all}
use Rattle.flat_ref.specs.Execution.{cores_at, executed_from}
use Rattle.flat_ref.specs.Rows.{ld, st, sw, fa, Runs, Refuses}

-- store buffering: not both loads miss the other's store
abbrev store_buffering : List (List Instr)
store_buffering = (Li 1 1 ∷ St 1 0 0 ∷ Ld 2 0 4 ∷ []) ∷ (Li 1 1 ∷ St 1 0 4 ∷ Ld 2 0 0 ∷ []) ∷ []

one_missed : Runs store_buffering (st 0 1 0 1 ∷ ld 0 2 4 0 ∷ st 1 1 4 1 ∷ ld 1 2 0 1 ∷ []) (3 ∷ 3 ∷ [])
unfolding executed_from cores_at taken_all taken made_by core_at advanced stepped next_of loaded
one_missed = refl

both_missed : Refuses store_buffering (st 0 1 0 1 ∷ st 1 1 4 1 ∷ ld 0 2 4 0 ∷ ld 1 2 0 0 ∷ []) (3 ∷ 3 ∷ []) 2
unfolding executed_from cores_at taken_all taken made_by core_at advanced stepped next_of loaded
both_missed = record { within = lit≤ tt; before = refl; here = λ _. refl; refused = refl }

-- no load comes before the store that its program has before it
load_first : Refuses store_buffering (ld 0 2 4 0 ∷ ld 1 2 0 0 ∷ st 0 1 0 1 ∷ st 1 1 4 1 ∷ []) (3 ∷ 3 ∷ []) 0
unfolding executed_from cores_at taken_all taken made_by core_at advanced stepped next_of loaded
load_first = record { within = lit≤ tt; before = refl; here = λ _. refl; refused = refl }

-- message passing: who has seen the flag sees the message
abbrev message_passing : List (List Instr)
message_passing =
    (Li 1 5 ∷ St 1 0 0 ∷ Li 2 1 ∷ St 2 0 4 ∷ []) ∷ (Ld 1 0 4 ∷ Beq 1 0 0 ∷ Ld 2 0 0 ∷ []) ∷ []

received : Runs message_passing (ld 1 0 4 0 ∷ st 0 1 0 5 ∷ st 0 3 4 1 ∷ ld 1 2 4 1 ∷ ld 1 4 0 5 ∷ []) (4 ∷ 5 ∷ [])
unfolding executed_from cores_at taken_all taken made_by core_at advanced stepped next_of loaded
received = refl

overtaken : Refuses message_passing (st 0 1 0 5 ∷ st 0 3 4 1 ∷ ld 1 0 4 1 ∷ ld 1 2 0 0 ∷ []) (4 ∷ 3 ∷ []) 3
unfolding executed_from cores_at taken_all taken made_by core_at advanced stepped next_of loaded
overtaken = record { within = lit≤ tt; before = refl; here = λ _. refl; refused = refl }

-- load buffering: not both loads see what is stored after them
abbrev load_buffering : List (List Instr)
load_buffering = (Ld 1 0 0 ∷ Li 2 1 ∷ St 2 0 4 ∷ []) ∷ (Ld 1 0 4 ∷ Li 2 1 ∷ St 2 0 0 ∷ []) ∷ []

one_seen : Runs load_buffering (ld 0 0 0 0 ∷ st 0 2 4 1 ∷ ld 1 0 4 1 ∷ st 1 2 0 1 ∷ []) (3 ∷ 3 ∷ [])
unfolding executed_from cores_at taken_all taken made_by core_at advanced stepped next_of loaded
one_seen = refl

both_seen : Refuses load_buffering (ld 0 0 0 1 ∷ st 0 2 4 1 ∷ ld 1 0 4 1 ∷ st 1 2 0 1 ∷ []) (3 ∷ 3 ∷ []) 0
unfolding executed_from cores_at taken_all taken made_by core_at advanced stepped next_of loaded
both_seen = record { within = lit≤ tt; before = refl; here = λ _. refl; refused = refl }

-- coherence of reads: a word once read new is not read old again
abbrev coherence : List (List Instr)
coherence = (Li 1 1 ∷ St 1 0 0 ∷ []) ∷ (Ld 1 0 0 ∷ Ld 2 0 0 ∷ []) ∷ []

old_and_new : Runs coherence (ld 1 0 0 0 ∷ st 0 1 0 1 ∷ ld 1 1 0 1 ∷ []) (2 ∷ 2 ∷ [])
unfolding executed_from cores_at taken_all taken made_by core_at advanced stepped next_of loaded
old_and_new = refl

new_and_old : Refuses coherence (st 0 1 0 1 ∷ ld 1 0 0 1 ∷ ld 1 1 0 0 ∷ []) (2 ∷ 2 ∷ []) 2
unfolding executed_from cores_at taken_all taken made_by core_at advanced stepped next_of loaded
new_and_old = record { within = lit≤ tt; before = refl; here = λ _. refl; refused = refl }

-- independent reads of independent writes: two readers see two writes in one order
abbrev independent : List (List Instr)
independent =
    (Li 1 1 ∷ St 1 0 0 ∷ []) ∷ (Li 1 1 ∷ St 1 0 4 ∷ []) ∷ (Ld 1 0 0 ∷ Ld 2 0 4 ∷ []) ∷ (Ld 1 0 4 ∷ Ld 2 0 0 ∷ []) ∷ []

agreed : Runs independent (st 0 1 0 1 ∷ ld 2 0 0 1 ∷ ld 2 1 4 0 ∷ st 1 1 4 1 ∷ ld 3 0 4 1 ∷ ld 3 1 0 1 ∷ []) (2 ∷ 2 ∷ 2 ∷ 2 ∷ [])
unfolding executed_from cores_at taken_all taken made_by core_at advanced stepped next_of loaded
agreed = refl

disagreed : Refuses independent (st 0 1 0 1 ∷ ld 2 0 0 1 ∷ ld 2 1 4 0 ∷ st 1 1 4 1 ∷ ld 3 0 4 1 ∷ ld 3 1 0 0 ∷ []) (2 ∷ 2 ∷ 2 ∷ 2 ∷ []) 5
unfolding executed_from cores_at taken_all taken made_by core_at advanced stepped next_of loaded
disagreed = record { within = lit≤ tt; before = refl; here = λ _. refl; refused = refl }

-- counting: of two adds to one word none is lost
abbrev counting : List (List Instr)
counting = (Li 1 1 ∷ Fadd 1 0 0 ∷ []) ∷ (Li 1 1 ∷ Fadd 1 0 0 ∷ []) ∷ []

both_counted : Runs counting (fa 1 1 0 1 0 ∷ fa 0 1 0 2 1 ∷ []) (2 ∷ 2 ∷ [])
unfolding executed_from cores_at taken_all taken made_by core_at advanced stepped next_of loaded
both_counted = refl

one_lost : Refuses counting (fa 1 1 0 1 0 ∷ fa 0 1 0 1 0 ∷ []) (2 ∷ 2 ∷ []) 1
unfolding executed_from cores_at taken_all taken made_by core_at advanced stepped next_of loaded
one_lost = record { within = lit≤ tt; before = refl; here = λ _. refl; refused = refl }

-- a lock: not both swaps find it open
abbrev locking : List (List Instr)
locking = (Li 1 1 ∷ Swap 1 0 0 ∷ []) ∷ (Li 1 1 ∷ Swap 1 0 0 ∷ []) ∷ []

one_waits : Runs locking (sw 0 1 0 1 0 ∷ sw 1 1 0 1 1 ∷ []) (2 ∷ 2 ∷ [])
unfolding executed_from cores_at taken_all taken made_by core_at advanced stepped next_of loaded
one_waits = refl

both_enter : Refuses locking (sw 0 1 0 1 0 ∷ sw 1 1 0 1 0 ∷ []) (2 ∷ 2 ∷ []) 1
unfolding executed_from cores_at taken_all taken made_by core_at advanced stepped next_of loaded
both_enter = record { within = lit≤ tt; before = refl; here = λ _. refl; refused = refl }
