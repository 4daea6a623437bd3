-- The final memory of a finished chip is the memory that its accesses leave in sequence.
use Rattle.std.proofs.Common.{◌≡◌, ℕ, ◌+◌, ◌-◌, ◌*◌, ◌/◌, ◌%◌, ◌<◌, zero, suc, true, List, [], ◌∷◌, ◌++◌, Some, length, drop, filter, flat_map, get_or, sym, ap, ◌∙◌, refl, subst, arith}
use Rattle.std.specs.List.{AllByRecursion}
use Rattle.std.proofs.lemmas.Bool.{le-leb}
use Rattle.std.proofs.lemmas.Option.{same_Some, slice_get_within}
use Rattle.std.proofs.lemmas.List.{length-append, get_or_append_left, get_or-append_right, ext_get_or, length-take, length-drop, get_or-take, get_or-drop}
use Rattle.std.proofs.lemmas.List.Concat.{flat_map-cons}
use Rattle.order_tracker.specs.Order.{upwards}
use Rattle.core_isa.specs.declared.instr.Instr.{Instr}
use Rattle.core_isa.specs.declared.next.Next.TheVariants.{Halted}
use Rattle.core_isa.specs.Core.{CoreState, next_of, next_kind}
use Rattle.report_text.specs.declared.access.Access.{Access}
use Rattle.doc_text.specs.Doc.{Doc}
use Rattle.flat_ref.specs.declared.flat.Flat.{Flat}
use Rattle.flat_ref.specs.Taking.{taken_all}
use Rattle.flat_ref.specs.Execution.{start, executed, flat_memory, IsWholeExecution, AreHalted}
use Rattle.flat_ref.specs.Order.{last_written}
use Rattle.flat_ref.proofs.Takings.{Counted, Received}
use Rattle.flat_ref.proofs.Values.{HoldsLast, holds_last}
use Rattle.flat_ref.proofs.Parts.{some_of}
use Rattle.flat_ref.proofs.Finished.{memory_of_execution}
use Rattle.chip_model.specs.Chip.{chip_of}
use Rattle.chip_model.specs.Node.{words_at}
use Rattle.chip_model.specs.ChipState.{ChipState, finished}
use Rattle.chip_model.specs.Witness.{in_sequence, witness, line_value, writes_by}
use Rattle.chip_model.specs.Reports.{final_words, final_memory}
use Rattle.chip_model.specs.ChipInvariant.{InOrderChipHolds}
use Rattle.chip_laws.specs.DocFits.{DocFits}
use Rattle.chip_laws.proofs.Each.{each_from}
use Rattle.chip_laws.proofs.Options.{option_map_some}
use Rattle.chip_laws.proofs.RequestsInside.{tile_of}
use Rattle.value_laws.specs.CoreRuns.{steps_done}
use Rattle.value_laws.specs.Reads.{AccessesHold}
use Rattle.value_laws.proofs.Sequences.{each_in_sequence}
use Rattle.value_laws.proofs.LineValues.{Counts, length_value, word_of_value}
use Rattle.value_laws.proofs.ExecutionEnds.{core_left}
use Rattle.value_laws.proofs.Executions.{core_alone, steps_at, some_words, is_execution}
use Rattle.value_laws.proofs.Finished.{unit_done}
use Rattle.value_laws.proofs.FinalWords.{words_at_end}

-- ---- lines of four words, one after another

abbrev FourEach : (ℕ → List ℕ) → ℕ → ℕ → Type 0
FourEach f first count = (k : ℕ) → k < count → length (f (first + k)) ≡ 4

four_next : (f : ℕ → List ℕ) (first count : ℕ) → FourEach f first (suc count) → FourEach f (first + 1) count
four_next f first count four k less =
    let same : first + suc k ≡ first + 1 + k = omega arith in
    subst (λ (n : ℕ). length (f n) ≡ 4) same (four (suc k) (omega arith))

four_first : (f : ℕ → List ℕ) (first count : ℕ) → FourEach f first (suc count) → length (f first) ≡ 4
four_first f first count four =
    let same : first + 0 ≡ first = omega arith in
    subst (λ (n : ℕ). length (f n) ≡ 4) same (four 0 (omega arith))

length_lines : (f : ℕ → List ℕ) (first count : ℕ) → FourEach f first count → length (flat_map f (upwards first count)) ≡ 4 * count
length_lines f first zero four = refl
length_lines f first (suc count) four =
    let rest = length_lines f (first + 1) count (four_next f first count four) in
    let here = four_first f first count four in
    ap length (flat_map-cons f first (upwards (first + 1) count))
    ∙ (length-append (f first) (flat_map f (upwards (first + 1) count)) ∙ omega arith)

word_in_lines : (f : ℕ → List ℕ) (first count k j : ℕ) → FourEach f first count → k < count → j < 4 → get_or (flat_map f (upwards first count)) (4 * k + j) 0
    ≡ get_or (f (first + k)) j 0
word_in_lines f first zero k j four less small = absurd (omega arith)
word_in_lines f first (suc count) zero j four less small =
    let same : first + 0 ≡ first = omega arith in
    let at : 4 * 0 + j ≡ j = omega arith in
    let here = four_first f first count four in
    ap (λ (xs : List ℕ). get_or xs (4 * 0 + j) 0) (flat_map-cons f first (upwards (first + 1) count))
    ∙ (ap (λ (i : ℕ). get_or (f first ++ flat_map f (upwards (first + 1) count)) i 0) at
    ∙ (get_or_append_left (f first) (flat_map f (upwards (first + 1) count)) 0 j (omega (arith, here))
    ∙ ap (λ (n : ℕ). get_or (f n) j 0) (sym same)))
word_in_lines f first (suc count) (suc k) j four less small =
    let same : first + 1 + k ≡ first + suc k = omega arith in
    let here = four_first f first count four in
    let at : 4 * suc k + j - 4 ≡ 4 * k + j = omega arith in
    ap (λ (xs : List ℕ). get_or xs (4 * suc k + j) 0) (flat_map-cons f first (upwards (first + 1) count))
    ∙ (get_or-append_right (f first) (flat_map f (upwards (first + 1) count)) 4 (4 * suc k + j) 0 here (omega arith)
    ∙ (ap (λ (i : ℕ). get_or (flat_map f (upwards (first + 1) count)) i 0) at
    ∙ (word_in_lines f (first + 1) count k j (four_next f first count four) (omega arith) small
    ∙ ap (λ (n : ℕ). get_or (f n) j 0) same)))

-- ---- the words of a line after all writes

pub length_words : (d : Doc) (line : ℕ) → DocFits d → line < d.lines → length (words_at d.memory line) ≡ 4
length_words d line fits less =
    length-take 4 (drop (4 * line) d.memory) ∙ omega (arith, length-drop (4 * line) d.memory, fits.memory)

length_line_value : (d : Doc) (accesses : List Access) (line place : ℕ) → DocFits d → line < d.lines → length (line_value d accesses line place) ≡ 4
unfolding line_value
length_line_value d accesses line place fits less =
    length_value (filter (writes_by line place) (in_sequence accesses)) (words_at d.memory line) ∙ length_words d line fits less

filter_all : (xs : List Access) → filter (λ a. true) xs ≡ xs
filter_all [] = refl
filter_all (a ∷ xs) = ap (λ (ys : List Access). a ∷ ys) (filter_all xs)

-- each write is up to the last place
counts_all : (d : Doc) (s : ChipState) (line : ℕ) → InOrderChipHolds d s
    → AllByRecursion (Counts line (length s.network.ordered) (λ a. true)) (in_sequence s.accesses)
counts_all d s line h =
    each_in_sequence (Counts line (length s.network.ordered) (λ a. true)) s.accesses
    (each_from (Counts line (length s.network.ordered) (λ a. true)) s.accesses (λ place a at write here.
    sym (le-leb a.time (length s.network.ordered) (h.protocol.timely.writers place a at write).1)))

-- a word of a line after all requests is what was written there last in sequence
last_word : (d : Doc) (s : ChipState) (line k : ℕ) → DocFits d → InOrderChipHolds d s → line < d.lines → k < 4
    → get_or (line_value d s.accesses line (length s.network.ordered)) k 0 ≡ last_written (4 * line + k) (get_or d.memory (4 * line + k) 0) (witness s)
unfolding line_value witness
last_word d s line k fits h less small =
    word_of_value line (length s.network.ordered) k (λ a. true) (in_sequence s.accesses) (words_at d.memory line) small (length_words d line fits less)
    (counts_all d s line h)
    ∙ ap (last_written (4 * line + k) (get_or (words_at d.memory line) k 0)) (filter_all (in_sequence s.accesses))
    ∙ ap (λ (word : ℕ). last_written (4 * line + k) word (in_sequence s.accesses)) (get_or-take 4 (drop (4 * line) d.memory) k 0 small
    ∙ get_or-drop (4 * line) d.memory k 0)

four_words : (d : Doc) (s : ChipState) → DocFits d → InOrderChipHolds d s → finished s ≡ true → FourEach (final_words (chip_of d) s) 0 d.lines
four_words d s fits h over k less =
    let within : 0 + k < d.lines = omega arith in
    ap length (words_at_end d s (0 + k) fits h over within) ∙ length_line_value d s.accesses (0 + k) (length s.network.ordered) fits within

-- the final memory word by word
final_word : (d : Doc) (s : ChipState) (address : ℕ) → DocFits d → InOrderChipHolds d s → finished s ≡ true → address < 4 * d.lines
    → get_or (final_memory d s) address 0 ≡ last_written address (get_or d.memory address 0) (witness s)
final_word d s address fits h over less =
    let line : address / 4 < d.lines = omega arith in
    let small : address % 4 < 4 = omega arith in
    let split : 4 * (address / 4) + address % 4 ≡ address = omega arith in
    let first : 0 + address / 4 ≡ address / 4 = omega arith in
    subst (λ (n : ℕ). get_or (final_memory d s) n 0 ≡ last_written n (get_or d.memory n 0) (witness s)) split
    (word_in_lines (final_words (chip_of d) s) 0 d.lines (address / 4) (address % 4) (four_words d s fits h over) line small
    ∙ ap (λ (n : ℕ). get_or (final_words (chip_of d) s n) (address % 4) 0) first
    ∙ ap (λ (words : List ℕ). get_or words (address % 4) 0) (words_at_end d s (address / 4) fits h over line)
    ∙ last_word d s (address / 4) (address % 4) fits h line small)

-- ---- what the execution leaves

-- each word of memory is what was written last in it
pub memory_left : Counted → Received → (programs : List (List Instr)) (memory steps : List ℕ) (accesses : List Access) (after : Flat) → 0 < length memory
    → executed programs memory accesses steps ≡ Some after → HoldsLast memory after.memory accesses
memory_left counted received programs memory steps accesses after some e =
    option_map_some (λ (flat : Flat). flat.memory) (taken_all programs (start programs memory) accesses) after.memory
    (memory_of_execution programs memory steps accesses after e) (λ last taken same.
    subst (λ (words : List ℕ). HoldsLast memory words accesses) same (holds_last counted received programs (start programs memory) last accesses some taken))

same_memory : (d : Doc) (s : ChipState) (new : List ℕ) → DocFits d → InOrderChipHolds d s → finished s ≡ true → HoldsLast d.memory new (witness s)
    → new ≡ final_memory d s
same_memory d s new fits h over holds =
    let long : length (final_memory d s) ≡ 4 * d.lines = length_lines (final_words (chip_of d) s) 0 d.lines (four_words d s fits h over) in
    let whole : length d.memory ≡ 4 * d.lines = fits.memory in
    let as_long : length new ≡ length d.memory = holds.as_long in
    ext_get_or 0 new (final_memory d s) (omega arith) (λ i less.
    holds.words i ∙ sym (final_word d s i fits h over (omega arith)))

-- each core has halted
halted_left : (d : Doc) (s : ChipState) (after : Flat) → DocFits d → AccessesHold d s → finished s ≡ true
    → executed d.programs d.memory (witness s) (steps_done s) ≡ Some after
    → AreHalted d.programs after.cores
unfolding next_of
halted_left d s after fits h over e t program core is_program is_core =
    let tile = tile_of d s t h.chip.protocol (omega (arith, slice_get_within d.programs t program is_program, fits.programs)) in
    let alone = core_alone d s t program tile.unit fits h is_program tile.unit_at in
    let left = core_left d.programs d.memory (steps_done s) (witness s) after t tile.unit.core.steps program tile.unit.core e
    (steps_at s t tile.unit tile.unit_at) is_program alone.1 in
    let halts = (h.cores t tile.unit tile.unit_at).halts (unit_done s t tile.unit over tile.unit_at).halted in
    let core_is : tile.unit.core ≡ core = same_Some tile.unit.core core (sym left ∙ is_core) in
    subst (λ (p : List Instr). next_of p core ≡ Halted) alone.0 (subst (λ (c : CoreState). next_of tile.unit.program c ≡ Halted) core_is (ap next_kind halts))

-- the execution of a finished state
abbrev pub WholeExecution : Doc → ChipState → Type 0
WholeExecution d s = IsWholeExecution d.programs d.memory (witness s) (steps_done s) × (flat_memory d.programs d.memory (witness s) ≡ Some (final_memory d s))

-- it is one of the whole programs, and leaves the final memory
pub is_whole : Counted → Received → (d : Doc) (s : ChipState) → DocFits d → AccessesHold d s → finished s ≡ true → WholeExecution d s
is_whole counted received d s fits h over =
    let (after, all) = some_of (executed d.programs d.memory (witness s) (steps_done s)) (is_execution d s fits h) in
    let left = memory_left counted received d.programs d.memory (steps_done s) (witness s) after (some_words d fits) all in (
      record { after = after; executed = all; halted = halted_left d s after fits h over all },
      memory_of_execution d.programs d.memory (steps_done s) (witness s) after all
          ∙ ap (λ (words : List ℕ). Some words) (same_memory d s after.memory fits h.chip over left),
    )
