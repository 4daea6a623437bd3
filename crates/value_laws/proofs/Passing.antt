-- From a place to the next one: a value stays where no tile, or only the one that has it, may write there.
use Rattle.std.proofs.Common.{◌≡◌, ℕ, ◌+◌, ◌≤◌, true, Some, take, slice_get, sym, ap, ◌∙◌, arith}
use Rattle.std.specs.Prelude.{List}
use Rattle.report_text.specs.declared.access.Access.{Access}
use Rattle.doc_text.specs.Doc.{Doc}
use Rattle.chip_model.specs.declared.owner.Owner.TheVariants.{Memory, Tile}
use Rattle.chip_model.specs.Chip.{line_of}
use Rattle.chip_model.specs.Units.{UnitState}
use Rattle.chip_model.specs.ChipState.{ChipState}
use Rattle.chip_model.specs.Witness.{is_write}
use Rattle.chip_model.specs.Ownership.{writer}
use Rattle.chip_model.specs.Writers.{latest_time, IsSettled}
use Rattle.chip_model.specs.Values.{HasValue, HasOwnValue}
use Rattle.chip_model.specs.ChipInvariant.{ProtocolHolds}
use Rattle.chip_laws.proofs.Each.{each_from}
use Rattle.chip_laws.proofs.SuppliedEvents.{unit_holds}
use Rattle.value_laws.proofs.LineValues.{NoWriteAt, value_next}
use Rattle.value_laws.proofs.SettledLines.{settled_next}

-- a write at a time is by the tile that may write then
pub wrote : (d : Doc) (s : ChipState) (line time i : ℕ) (a : Access) → ProtocolHolds d s → slice_get s.accesses i ≡ Some a → is_write a ≡ true
    → line_of a.address ≡ line → a.time ≡ time
    → writer line (take time s.network.ordered) ≡ Tile a.tile
wrote d s line time i a h at write same then_ =
    ap (λ (n : ℕ). writer line (take n s.network.ordered)) (sym then_)
    ∙ ap (λ (n : ℕ). writer n (take a.time s.network.ordered)) (sym same)
    ∙ (h.timely.writers i a at write).0

pub next_settled : (d : Doc) (s : ChipState) (u line place : ℕ) (other : UnitState) → ProtocolHolds d s → slice_get s.units u ≡ Some other
    → (writer line (take (place + 1) s.network.ordered) ≡ Tile u → ⊥) → IsSettled s.network.ordered other.node line place
    → IsSettled s.network.ordered other.node line (place + 1)
next_settled d s u line place other h is never settled =
    let holds = (unit_holds d s u other h is).holds in
    settled_next s.network.ordered other.node line place holds.serves.writers holds.node.agrees.demand (λ e. never (e ∙ ap Tile holds.node.agrees.tile)) settled

-- where no tile may write
pub value_passes : (d : Doc) (s : ChipState) (line place : ℕ) (words : List ℕ) → ProtocolHolds d s → writer line (take (place + 1) s.network.ordered) ≡ Memory
    → HasValue d s line place words → HasValue d s line (place + 1) words
value_passes d s line place words h none has = record {
  value = has.value ∙ sym (value_next d s.accesses line place (each_from (NoWriteAt line (place + 1)) s.accesses (λ i a at write same then_.
      let e = wrote d s line (place + 1) i a h at write same then_ in cc)));
  settled = λ u other is. next_settled d s u line place other h is (λ e. cc) (has.settled u other is);
}

-- where only the tile itself may write, which has performed nothing at that time
pub own_value_passes : (d : Doc) (s : ChipState) (t line place : ℕ) (unit : UnitState) (words : List ℕ) → ProtocolHolds d s → slice_get s.units t ≡ Some unit
    → writer line (take (place + 1) s.network.ordered) ≡ Tile t → latest_time unit.node ≤ place → HasOwnValue d s t line place words
    → HasOwnValue d s t line (place + 1) words
own_value_passes d s t line place unit words h here own before has = record {
  value = has.value ∙ sym (value_next d s.accesses line place (each_from (NoWriteAt line (place + 1)) s.accesses (λ i a at write same then_.
      let e = wrote d s line (place + 1) i a h at write same then_ in
      let by : a.tile ≡ t = cc in
      let early : a.time ≤ latest_time unit.node = h.timely.times t i unit a here at by in
      absurd (omega arith))));
  settled = λ u other is away. next_settled d s u line place other h is (λ e. away cc) (has.settled u other is away);
}
