-- The accesses of a chip in sequence are a sequential execution of the first steps of its programs.
use Rattle.std.proofs.Common.{◌≡◌, ℕ, ◌*◌, ◌<◌, suc, List, [], ◌∷◌, Option, Some, None, IsSome, is_some, option_map, length, filter, slice_get, get_or, sym, ap, ◌∙◌, refl, subst, arith}
use Rattle.std.specs.List.{AllByRecursion}
use Rattle.std.specs.Prelude.{true}
use Rattle.std.proofs.lemmas.Option.{same_Some, none-some, slice_get-map, get_or_from_slice_get}
use Rattle.std.proofs.lemmas.List.{length-map}
use Rattle.std.proofs.lemmas.List.Elements.{All-from_recursion}
use Rattle.core_isa.specs.declared.instr.Instr.{Instr}
use Rattle.core_isa.specs.Core.{new_core}
use Rattle.report_text.specs.declared.access.Access.{Access}
use Rattle.report_text.specs.Accesses.{reads}
use Rattle.doc_text.specs.Doc.{Doc}
use Rattle.flat_ref.specs.Execution.{IsExecution}
use Rattle.flat_ref.specs.Order.{last_written}
use Rattle.flat_ref.specs.Consistency.{accesses_of, run_alone, ReadsLast, IsConsistent}
use Rattle.flat_ref.proofs.Consistent.{execution}
use Rattle.chip_model.specs.Chip.{Chip}
use Rattle.chip_model.specs.Units.{UnitState}
use Rattle.chip_model.specs.ChipState.{ChipState}
use Rattle.chip_model.specs.Witness.{is_before, in_sequence, witness}
use Rattle.chip_model.specs.ChipInvariant.{CoresInOrder, ProtocolHolds}
use Rattle.chip_laws.specs.DocFits.{DocFits}
use Rattle.chip_laws.proofs.Each.{each_from}
use Rattle.chip_laws.proofs.RequestsInside.{tile_of}
use Rattle.chip_laws.proofs.SuppliedEvents.{unit_holds}
use Rattle.value_laws.specs.Sequences.{Follows, AreRising}
use Rattle.value_laws.specs.CoreRuns.{steps_done}
use Rattle.value_laws.specs.Reads.{ReadHolds, AccessesHold}
use Rattle.value_laws.proofs.Sequences.{follows_by, InOrder, each_in_sequence, each_middle, in_order_sequence, all_succeeding, before_is, own_sequence}

pub rising_from : (xs : List Access) → ((before behind : ℕ) (a b : Access) → before < behind → slice_get xs before ≡ Some a → slice_get xs behind ≡ Some b
    → Follows a b) → AreRising xs
rising_from [] h = tt
rising_from (a ∷ xs) h = (
  each_from (Follows a) xs (λ place b at. h 0 (suc place) a b (omega arith) refl at),
  rising_from xs (λ before behind b c less here there. h (suc before) (suc behind) b c (omega arith) here there),
)

-- each access of in-order cores follows those that were performed before it
pub cores_rising : (d : Doc) (s : ChipState) → ProtocolHolds d s → CoresInOrder s → AreRising s.accesses
cores_rising d s holds cores = rising_from s.accesses (λ before behind a b less here there. follows_by a b (λ same.
    let tile = tile_of d s a.tile holds (holds.performers before a here) in
    (cores a.tile tile.unit tile.unit_at).rising before behind a b less here there refl (sym same)))

pub rising : (d : Doc) (s : ChipState) → AccessesHold d s → AreRising s.accesses
rising d s h = cores_rising d s h.chip.protocol h.chip.cores

-- ---- the cores

abbrev steps_of : UnitState → ℕ
steps_of unit = unit.core.steps

-- the number of steps that a unit's core has done
pub steps_at : (s : ChipState) (t : ℕ) (unit : UnitState) → slice_get s.units t ≡ Some unit → slice_get (steps_done s) t ≡ Some unit.core.steps
steps_at s t unit at = slice_get-map steps_of s.units t ∙ ap (option_map steps_of) at

-- each such number is that of a unit
unit_at_steps : (s : ChipState) (t n : ℕ) → slice_get (steps_done s) t ≡ Some n → (unit : UnitState) × (slice_get s.units t ≡ Some unit) × (n ≡ unit.core.steps)
unit_at_steps s t n at = by (slice_get s.units t) refl where
  by : (o : Option UnitState) → slice_get s.units t ≡ o → (unit : UnitState) × (slice_get s.units t ≡ Some unit) × (n ≡ unit.core.steps)
  by None e = absurd (none-some n (sym (slice_get-map steps_of s.units t ∙ ap (option_map steps_of) e) ∙ at))
  by (Some unit) e = (unit, e, same_Some n unit.core.steps (sym at ∙ steps_at s t unit e))

-- a unit runs its program, and its core alone is what its accesses in sequence make of a new one
pub core_alone : (d : Doc) (s : ChipState) (t : ℕ) (program : List Instr) (unit : UnitState) → DocFits d → AccessesHold d s
    → slice_get d.programs t ≡ Some program
    → slice_get s.units t ≡ Some unit
    → (unit.program ≡ program) × (run_alone (length d.memory) program (new_core t) (accesses_of t (witness s)) unit.core.steps ≡ Some unit.core)
unfolding witness
core_alone d s t program unit fits h is_program at =
    let holds = (unit_holds d s t unit h.chip.protocol at).holds in
    let program_is : unit.program ≡ program = holds.core.program ∙ get_or_from_slice_get d.programs t program [] is_program in
    let words : 4 * unit.node.chip.lines ≡ length d.memory = ap (λ (chip : Chip). 4 * chip.lines) holds.node.chip ∙ sym fits.memory in (
      program_is,
      ap (λ (xs : List Access). run_alone (length d.memory) program (new_core t) xs unit.core.steps) (own_sequence t s.accesses (rising d s h))
          ∙ ap (λ (p : List Instr). run_alone (length d.memory) p (new_core t) (accesses_of t s.accesses) unit.core.steps) (sym program_is)
          ∙ ap (λ (n : ℕ). run_alone n unit.program (new_core t) (accesses_of t s.accesses) unit.core.steps) (sym words)
          ∙ (h.cores t unit at).runs,
    )

-- ---- the reads

abbrev HoldsWhereRead : Doc → ChipState → Access → Type 0
HoldsWhereRead d s a = reads a.kind ≡ true → ReadHolds d s a

-- each access that reads received what was written last before it in sequence
reads_last : (d : Doc) (s : ChipState) → AccessesHold d s → ReadsLast d.memory (witness s)
unfolding witness
reads_last d s h before rest a e is_read =
    let order = in_order_sequence s.accesses (all_succeeding s.accesses (rising d s h)) in
    let all = each_in_sequence (HoldsWhereRead d s) s.accesses (each_from (HoldsWhereRead d s) s.accesses h.reads) in
    let here = each_middle (HoldsWhereRead d s) before rest a (subst (AllByRecursion (HoldsWhereRead d s)) e all) in
    let front = before_is before rest a (subst InOrder e order) in
    (here is_read).value
    ∙ ap (last_written a.address (get_or d.memory a.address 0)) (ap (filter (λ b. is_before b a)) e ∙ front)

-- ---- the execution

abbrev IsOfTile : Doc → Access → Type 0
IsOfTile d a = a.tile < length d.programs

of_tiles : (d : Doc) (s : ChipState) → DocFits d → ProtocolHolds d s → AllByRecursion (IsOfTile d) (in_sequence s.accesses)
of_tiles d s fits h =
    each_in_sequence (IsOfTile d) s.accesses (each_from (IsOfTile d) s.accesses (λ place a at. omega (arith, h.performers place a at, fits.programs)))

consistent : (d : Doc) (s : ChipState) → DocFits d → AccessesHold d s → IsConsistent d.programs d.memory (witness s) (steps_done s)
unfolding witness
consistent d s fits h = record {
  numbers = length-map s.units steps_of ∙ h.chip.protocol.units ∙ sym fits.programs;
  tiles = All-from_recursion (IsOfTile d) (in_sequence s.accesses) (of_tiles d s fits h.chip.protocol);
  cores = λ t n program is_program is_n.
      let (unit, at, is) = unit_at_steps s t n is_n in
      let alone = core_alone d s t program unit fits h is_program at in
      subst (λ (k : ℕ). IsSome (run_alone (length d.memory) program (new_core t) (accesses_of t (witness s)) k)) (sym is) (ap is_some alone.1);
  reads = reads_last d s h;
}

-- a document has words
pub some_words : (d : Doc) → DocFits d → 0 < length d.memory
some_words d fits = omega (arith, fits.chip.lines, fits.memory)

pub is_execution : (d : Doc) (s : ChipState) → DocFits d → AccessesHold d s → IsExecution d.programs d.memory (witness s) (steps_done s)
is_execution d s fits h = execution d.programs d.memory (witness s) (steps_done s) (some_words d fits) (consistent d s fits h)
