-- After a GetM that is not complete no request writes its line back.
use Rattle.std.proofs.Common.{◌≡◌, ℕ, ◌<◌, ◌≤◌, true, false, List, take, refl, sym, ◌∙◌, ap, subst, arith, inl, inr, Some, None}
use Rattle.std.specs.Prelude.{◌==◌, nat_le, slice_get, slice_index_or, is_some}
use Rattle.std.proofs.lemmas.Bool.{cases_lt, cases_eq, false_from_ne_true, le-leb, eqb-true, eq-eqb, and_from}
use Rattle.std.proofs.lemmas.Option.{same_Some}
use Rattle.mesh_gen.specs.declared.kind.Kind.TheVariants.{GetM}
use Rattle.mesh_gen.specs.declared.request.Request.{Request}
use Rattle.doc_text.specs.Doc.{Doc}
use Rattle.chip_model.specs.declared.owner.Owner.TheVariants.{Memory}
use Rattle.chip_model.specs.Chip.{Chip, chip_of, home}
use Rattle.chip_model.specs.Records.{LineRecord}
use Rattle.chip_model.specs.Units.{UnitState}
use Rattle.chip_model.specs.ChipState.{ChipState}
use Rattle.chip_model.specs.Ownership.{owner}
use Rattle.chip_model.specs.Bookkeeping.{is_get, is_get_of}
use Rattle.chip_model.specs.ChipInvariant.{ProtocolHolds}
use Rattle.chip_model.specs.Suppliers.{count_of, delivered_at, supplier, is_to_come_at, is_to_come, place_of_get, writes_back}
use Rattle.chip_laws.specs.DocLaws.{DocLaws}
use Rattle.chip_laws.proofs.RequestsInside.{tile_of, source_inside}
use Rattle.chip_laws.proofs.SuppliedEvents.{Holds}
use Rattle.supply_laws.specs.OpenGets.{NoneWritesBackBefore}
use Rattle.supply_laws.proofs.NewWriteBacks.{BackFrom, back_from}

-- the GetM at a place is one that is not complete
pub record IsOpenWrite (s : ChipState) (line place : ℕ) : Type 0 where
  pub get : Request
  pub at : slice_get s.network.ordered place ≡ Some get
  pub kind : get.kind ≡ GetM
  pub same : get.line ≡ line
  pub unit : UnitState
  pub unit_at : slice_get s.units get.source ≡ Some unit
  pub waits : place_of_get s unit.node ≡ Some place

-- the GetM from which a tile that writes a line back owned it stands no earlier
from_later : (line g place : ℕ) (ordered : List Request) (get : Request) → slice_get ordered g ≡ Some get → get.kind ≡ GetM → get.line ≡ line → g < place → (from : BackFrom line place ordered)
    → g ≤ from.get.place
from_later line g place ordered get at kind same before from = elim (cases_lt from.get.place g) [
  | inl earlier ↦ absurd (from.get.last.gets g get (omega (arith, earlier)) before at kind same)
  | inr later ↦ later
]

pub none_after_open : (d : Doc) (s : ChipState) (line g : ℕ) → DocLaws d → ProtocolHolds d s → NoneWritesBackBefore s → IsOpenWrite s line g → (place : ℕ) → g < place
    → writes_back line s.network.ordered place ≡ false
none_after_open d s line g fits holds none is place before = false_from_ne_true (writes_back line s.network.ordered place) (λ writes. by (back_from line place s.network.ordered writes)) where
  by : BackFrom line place s.network.ordered → ⊥
  by from = elim (cases_eq g from.get.place) [
    | inl here ↦ (
        let same : is.get ≡ from.get.get = same_Some is.get from.get.get (sym is.at ∙ (ap (slice_get s.network.ordered) here ∙ from.get.at)) in
        let source : from.back.put.source ≡ is.get.source = sym (ap (λ (x : Request). x.source) same ∙ from.get.source) in
        none g place is.get from.back.put is.unit is.at is.unit_at is.waits before from.back.at from.back.kind source (from.back.same ∙ sym is.same))
    | inr away ↦ (
        let later = from_later line g place s.network.ordered is.get is.at is.kind is.same before from in
        let tile = tile_of d s from.get.get.source holds (source_inside d s from.get.place from.get.get fits holds from.get.at) in
        let opens = (holds.wait line).after_write g from.get.place is.get from.get.get is.unit (omega (arith, later, away)) is.at is.kind is.same is.unit_at is.waits
        from.get.at (ap is_get from.get.kind) from.get.same tile.unit tile.unit_at in
        none from.get.place place from.get.get from.back.put tile.unit from.get.at tile.unit_at opens from.get.before from.back.at from.back.kind (sym from.get.source)
        (from.back.same ∙ sym from.get.same))
  ]

-- ---- a GetM at the home that supplies it
pub supplied_here : (d : Doc) (s : ChipState) (u line : ℕ) (unit : UnitState) (q : Request) (r : LineRecord) → DocLaws d → ProtocolHolds d s → (own : Holds d s u unit)
    → slice_get s.units u ≡ Some unit → slice_get s.network.ordered unit.node.delivered ≡ Some q → q.line ≡ line → line < (chip_of d).lines → slice_index_or unit.node.records line None ≡ Some r
    → owner line (take unit.node.delivered s.network.ordered) ≡ Memory → q.kind ≡ GetM → IsOpenWrite s line unit.node.delivered
supplied_here d s u line unit q r fits holds own at next same inside there owned kind =
    let n = unit.node.delivered in
    let tile = tile_of d s q.source holds (source_inside d s n q fits holds next) in
    let node = own.holds.node in
    let chip_lines : line < unit.node.chip.lines = subst (λ (c : Chip). line < c.lines) (sym node.chip) inside in
    let here : (home unit.node.chip line == unit.node.tile) ≡ true = sym (node.fits.lines.records line chip_lines) ∙ ap is_some there in
    let home_is : home (chip_of d) line ≡ u =
    sym (ap (λ (c : Chip). home c line) node.chip) ∙ eqb-true (home unit.node.chip line) unit.node.tile here ∙ node.agrees.tile in
    let supplies : supplier (chip_of d) q.line (owner q.line (take n s.network.ordered)) ≡ u =
    ap (λ (l : ℕ). supplier (chip_of d) l (owner l (take n s.network.ordered))) same ∙ ap (supplier (chip_of d) line) owned ∙ home_is in
    let count : delivered_at s u ≡ n = ap count_of at in
    let comes : is_to_come (chip_of d) s q.source n ≡ true =
    ap (is_to_come_at (chip_of d) s q.source n) next
    ∙ and_from (is_get_of q.source q) (nat_le (delivered_at s (supplier (chip_of d) q.line (owner q.line (take n s.network.ordered)))) n)
    (and_from (is_get q.kind) (q.source == q.source) (ap is_get kind) (eq-eqb q.source q.source refl))
    (ap (λ (v : ℕ). nat_le (delivered_at s v) n) supplies ∙ ap (λ (k : ℕ). nat_le k n) count ∙ le-leb n n (omega arith)) in
    record { get = q; at = next; kind = kind; same = same; unit = tile.unit; unit_at = tile.unit_at; waits = tile.holds.serves.one n comes }
