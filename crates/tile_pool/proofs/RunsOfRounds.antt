-- Round after round: what one more does to a run.
use Rattle.std.proofs.Common.{◌≡◌, ◌↔◌, ℕ, ◌+◌, ◌*◌, ◌≤◌, Bool, true, false, cond, List, ◌∷◌, Option, Some, None, length, refl, sym, ap, arith}
use Rattle.std.specs.Prelude.{IsSome, count_by, is_none}
use Rattle.std.proofs.lemmas.List.Sums.{sum_by-cons}
use Rattle.chip_model.specs.Chip.{chip_of}
use Rattle.chip_model.specs.Units.{Behaviour}
use Rattle.machine_core.specs.Machine.{MachineState}
use Rattle.round_laws.specs.Rounds.{DoesRound}
use Rattle.round_laws.proofs.Runs.{EachIsNoted}
use Rattle.round_laws.proofs.RoundRuns.{round_grows}
use Rattle.tile_pool.specs.declared.rounds.Rounded.{Rounded}
use Rattle.tile_pool.specs.declared.rounds.Rounded.TheVariants.{Made, NoMemory}
use Rattle.tile_pool.specs.contracts.rounds.RoundedPartialEq.TheImpl.{ghosts}
use Rattle.tile_pool.specs.Rounded.{RoundDoes}

-- ---- whether a run has ended

-- it has not, where there is no answer
pub not_ended : {X : Type 0} (o : Option X) (over : Bool) → (IsSome o ↔ (over ≡ true)) → o ≡ None → over ≡ false
not_ended (Some x) over is none = cc
not_ended None true is none = absurd (let no : false ≡ true = is.1 refl in cc)
not_ended None false is none = refl

-- ---- a round, or one that was left out

-- the tiles that had a turn, where the round was made
abbrev pub taken : Rounded → Option ℕ
taken (Made had) = Some had
taken NoMemory = None

-- what was done is a round, or nothing
pub round_taken : (b : Behaviour) (turn : ℕ) (old new : MachineState) (rounded : Rounded) → RoundDoes b turn old new rounded
    → DoesRound b (chip_of old.document) turn (taken rounded) old.state new.state
round_taken b turn old new (Made had) does = does
round_taken b turn old new NoMemory does = ap (λ (machine : MachineState). machine.state) (sym does)

-- the journal grows by no more than 17 events a tile
pub taken_grows : (b : Behaviour) (turn tiles : ℕ) (old new : MachineState) → EachIsNoted b (chip_of old.document) → length old.state.units ≡ tiles → (rounded : Rounded)
    → RoundDoes b turn old new rounded → (length old.state.journal ≤ length new.state.journal) × (length new.state.journal ≤ length old.state.journal + 17 * tiles)
taken_grows b turn tiles old new noted units (Made had) does =
    let grows = round_grows b (chip_of old.document) turn had old.state new.state noted does in
    (grows.0, omega (arith, grows.1, units))
taken_grows b turn tiles old new noted units NoMemory does =
    let same = ap (λ (machine : MachineState). length machine.state.journal) does in
    (omega (arith, same), omega (arith, same))

-- whether a round was left out
abbrev pub is_left_out : Rounded → Bool
is_left_out (Made had) = false
is_left_out NoMemory = true

-- as the comparison of the program tells it
pub compared : (rounded : Rounded) (out : Bool) → ghosts.eq rounded NoMemory ≡ out → is_left_out rounded ≡ out
compared (Made had) out is = is
compared NoMemory out is = is

-- how many were left out, with one more
pub left_of : (rounded : Rounded) (rounds : List (Option ℕ)) (left more : ℕ) (out : Bool) → is_left_out rounded ≡ out → count_by is_none rounds ≡ left → more ≡ cond out (left + 1) left
    → (count_by is_none (taken rounded ∷ rounds) ≡ more) × (more ≤ left + 1)
left_of (Made had) rounds left more true is counted more_is = cc
left_of (Made had) rounds left more false is counted more_is =
    (omega (arith, sum_by-cons {X = Option ℕ} (λ round. cond (is_none round) 1 0) (Some had) rounds, counted, more_is), omega (arith, more_is))
left_of NoMemory rounds left more true is counted more_is =
    (omega (arith, sum_by-cons {X = Option ℕ} (λ round. cond (is_none round) 1 0) None rounds, counted, more_is), omega (arith, more_is))
left_of NoMemory rounds left more false is counted more_is = cc
