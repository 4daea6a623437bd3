-- No get for a line is complete after a GetM for it that is not, or after the last request that wrote the line back as long as
-- its words have not come: every event keeps that.
use Rattle.std.proofs.Common.{◌≡◌, ℕ, ◌<◌, ◌≤◌, true, sym, ◌∙◌, ap, subst, arith, inl, inr, Some, List, ◌++◌, length}
use Rattle.std.specs.Prelude.{slice_get}
use Rattle.std.specs.List.{count_by}
use Rattle.std.proofs.lemmas.Bool.{cases_lt}
use Rattle.std.proofs.lemmas.List.{length-append}
use Rattle.mesh_gen.specs.declared.request.Request.{Request}
use Rattle.order_tracker.specs.Order.{upwards}
use Rattle.doc_text.specs.Doc.{Doc}
use Rattle.chip_model.specs.Chip.{chip_of}
use Rattle.chip_model.specs.Units.{UnitState}
use Rattle.chip_model.specs.ChipState.{ChipState, opening}
use Rattle.chip_model.specs.Bookkeeping.{is_get}
use Rattle.chip_model.specs.Suppliers.{writes_back, last_written_back, place_of_get, IsOpen, GetsWait}
use Rattle.chip_model.specs.ChipInvariant.{ProtocolHolds}
use Rattle.chip_laws.specs.DocLaws.{DocLaws}
use Rattle.chip_laws.proofs.Options.{none_some}
use Rattle.chip_laws.proofs.OrderFrames.{known_of}
use Rattle.chip_laws.proofs.Supplied.{Grows}
use Rattle.chip_laws.proofs.SuppliedComes.{OneOpen}
use Rattle.chip_laws.proofs.SuppliedEvents.{delivered_within}
use Rattle.chip_laws.proofs.SupplyBounds.{one_open}
use Rattle.supply_laws.specs.OpenGets.{NoneWritesBackBefore}
use Rattle.supply_laws.proofs.LastPlaces.{IsLastOf, LastIs, last_unique, count_none}
use Rattle.supply_laws.proofs.WriteBackPlaces.{writes_back_grown, last_of_all}
use Rattle.supply_laws.proofs.WordsDue.{due, due_grown}
use Rattle.supply_laws.proofs.NewWriteBacks.{OrdersMore}
use Rattle.supply_laws.proofs.WriteBackEvents.{BackEvent, stays, orders, delivers, returns}
use Rattle.supply_laws.proofs.ReachedWords.{IsDue}
use Rattle.supply_laws.proofs.LaterBacks.{IsOpenWrite}
use Rattle.supply_laws.proofs.GetPlaces.{get_of, open_place, undelivered_open}
use Rattle.supply_laws.proofs.GrownPlaces.{grown_place}
use Rattle.supply_laws.proofs.PlaceEvents.{EndsBy, KeepsPlaces, KeepsOrTicks}
use Rattle.supply_laws.proofs.Ticked.{Ticked, ticked}
use Rattle.supply_laws.proofs.NoWriteBacks.{before_of, waited_before, stood_before}
use Rattle.supply_laws.proofs.PendingAnswers.{OpenAt}
use Rattle.supply_laws.proofs.OpenLater.{stays_after_write, stays_after_back}

-- before any event nothing is ordered
pub gets_wait_opened : (d : Doc) (line : ℕ) → GetsWait (opening d) line
gets_wait_opened d line = record {
  after_write = λ g place first q unit before at_first kind same unit_at waits at get same_q. none_some first at_first;
  after_back = λ g place q some last before at get same. none_some q at;
}

-- ---- what is due does not grow where nothing is ordered
none_more : (d : Doc) (s new : ChipState) (more : List Request) (line : ℕ) → new.network.ordered ≡ s.network.ordered → OrdersMore d s new more → due new line ≤ due s line
none_more d s new more line order is =
    let same : length (s.network.ordered ++ more) ≡ length s.network.ordered = ap length (sym is.grows.order ∙ order) in
    let none : length more ≡ 0 = omega (arith, same, length-append s.network.ordered more) in
    let sum = due_grown s new more line is.grows is.within in
    let nothing : count_by (writes_back line (s.network.ordered ++ more)) (upwards (length s.network.ordered) (length more)) ≡ 0 =
    ap (λ (n : ℕ). count_by (writes_back line (s.network.ordered ++ more)) (upwards (length s.network.ordered) n)) none in
    omega (arith, sum, nothing)

due_less : (d : Doc) (s new : ChipState) (line : ℕ) → new.network.ordered ≡ s.network.ordered → BackEvent d s new → due new line ≤ due s line
due_less d s new line order (stays is) = omega (arith, is.due line)
due_less d s new line order (orders more is) = none_more d s new more line order is
due_less d s new line order (delivers is) = omega (arith, is.due line)
due_less d s new line order (returns is) = omega (arith, is.due line)

-- ---- an event that orders nothing
module _ (d : Doc) (s new : ChipState) (fits : DocLaws d) (holds : ProtocolHolds d s) (none : NoneWritesBackBefore s) (keeps : KeepsPlaces s new) where
  still_open : (line place : ℕ) (q : Request) → slice_get s.network.ordered place ≡ Some q → is_get q.kind ≡ true → q.line ≡ line → IsOpen s place q
      → ((is : OpenAt s line place) → EndsBy s is.get.source is.unit → ⊥) → IsOpen new place q
  still_open line place q at get same is never after after_at =
      let was = keeps.units q.source after after_at in
      let waits = is was.0 was.1 in
      elim (keeps.places q.source was.0 after was.1 after_at) [
        | inl goes_on ↦ goes_on ∙ waits
        | inr ends ↦ absurd (never (record { get = q; at = at; asks = get; same = same; unit = was.0; unit_at = was.1; waits = waits }) ends.1)
      ]

  kept_waits : BackEvent d s new → (line : ℕ) → GetsWait new line
  kept_waits event line = record {
    after_write = λ g place first q unit before at_first kind same unit_at waits at get same_q.
        let old_first = before_of s new g first keeps.order at_first in
        let old_at = before_of s new place q keeps.order at in
        let was = keeps.units first.source unit unit_at in
        let waited : place_of_get s was.0.node ≡ Some g = elim (keeps.places first.source was.0 unit was.1 unit_at) [
          | inl goes_on ↦ sym goes_on ∙ waits
          | inr ends ↦ none_some g (sym ends.0 ∙ waits)
        ] in
        let write : IsOpenWrite s line g = record { get = first; at = old_first; kind = kind; same = same; unit = was.0; unit_at = was.1; waits = waited } in
        still_open line place q old_at get same_q ((holds.wait line).after_write g place first q was.0 before old_first kind same was.1 waited old_at get same_q)
        (λ is ends. stays_after_write d s fits holds none line g place write before is ends);
    after_back = λ g place q some last before at get same.
        let old_at = before_of s new place q keeps.order at in
        let less = due_less d s new line keeps.order event in
        let is_due : IsDue s line g = record { last = ap (last_written_back line) (sym keeps.order) ∙ last; some = omega (arith, some, less) } in
        still_open line place q old_at get same ((holds.wait line).after_back g place q is_due.some is_due.last before old_at get same)
        (λ is ends. stays_after_back d s fits holds none line g place is_due before is ends);
  }

-- ---- a tick
module _ (d : Doc) (s new : ChipState) (holds : ProtocolHolds d s) (is : Ticked d s new) where
  unit_before : (t : ℕ) (unit : UnitState) → slice_get new.units t ≡ Some unit → slice_get s.units t ≡ Some unit
  unit_before t unit at = ap (λ (units : List UnitState). slice_get units t) (sym is.units) ∙ at

  -- a new get
  new_open : (place : ℕ) (q : Request) → slice_get new.network.ordered place ≡ Some q → is_get q.kind ≡ true → length s.network.ordered ≤ place → IsOpen new place q
  new_open place q at get beyond unit unit_at =
      let was = unit_before q.source unit unit_at in
      let tile = is.tiles q.source unit was in
      let same = tile.node.agrees.tile in
      let few : OneOpen new.network.ordered unit.node.tile unit.node =
      subst (λ (k : ℕ). OneOpen new.network.ordered k unit.node) (sym same) (one_open new.network q.source tile.interface unit.node tile.agrees tile.node.agrees) in
      let within = (known_of d s holds q.source unit was).within in
      undelivered_open new.network.ordered unit.node place q few at (get_of unit.node.tile q get (sym same)) (omega (arith, beyond, within))

  -- one that was ordered before
  old_open : (place : ℕ) (q : Request) → IsOpen s place q → IsOpen new place q
  old_open place q was unit unit_at =
      let waits = was unit (unit_before q.source unit unit_at) in
      ap (λ (ordered : List Request). open_place ordered unit.node) is.order ∙ elim (grown_place s.network.ordered is.more unit.node) [
        | inl same ↦ same ∙ waits
        | inr comes ↦ none_some place (sym comes.none ∙ waits)
      ]

  last_old : (line g : ℕ) → last_written_back line new.network.ordered ≡ Some g → IsLastOf (writes_back line (s.network.ordered ++ is.more)) 0 (length (s.network.ordered ++ is.more)) g
  last_old line g last =
      subst (λ (ordered : List Request). IsLastOf (writes_back line ordered) 0 (length ordered) g) is.order
      (subst (LastIs (writes_back line new.network.ordered) 0 (length new.network.ordered)) last (last_of_all line new.network.ordered))

  due_before : (line g : ℕ) → Grows s new is.more → 0 < due new line → last_written_back line new.network.ordered ≡ Some g → g < length s.network.ordered → IsDue s line g
  due_before line g grows some last before =
      let l = last_old line g last in
      let n = length s.network.ordered in
      let size = length-append s.network.ordered is.more in
      let sum = due_grown s new is.more line grows (delivered_within d s holds) in
      let nothing = count_none (writes_back line (s.network.ordered ++ is.more)) n (length is.more) (λ k above below. l.after k (omega (arith, above, before)) (omega (arith, below, size))) in
      record {
        last = last_unique (writes_back line s.network.ordered) 0 n (last_written_back line s.network.ordered) (Some g) (last_of_all line s.network.ordered) (record {
          from = omega arith;
          below = omega (arith, before);
          passes = sym (writes_back_grown line s.network.ordered is.more g before) ∙ l.passes;
          after = λ k above below.
              let inside : k < n = omega (arith, below) in
              sym (writes_back_grown line s.network.ordered is.more k inside) ∙ l.after k above (omega (arith, below, size));
        });
        some = omega (arith, some, sum, nothing);
      }

  ticked_wait : Grows s new is.more → (line : ℕ) → GetsWait new line
  ticked_wait grows line = record {
    after_write = λ g place first q unit before at_first kind same unit_at waits at get same_q. elim (cases_lt place (length s.network.ordered)) [
      | inl old ↦ (
          let old_at = stood_before s new is.more place q is.order at old in
          let earlier : g < length s.network.ordered = omega (arith, old, before) in
          old_open place q
          ((holds.wait line).after_write g place first q unit before (stood_before s new is.more g first is.order at_first earlier) kind same (unit_before first.source unit unit_at)
          (waited_before s new is.more unit g is.order waits earlier) old_at get same_q))
      | inr beyond ↦ new_open place q at get beyond
    ];
    after_back = λ g place q some last before at get same. elim (cases_lt place (length s.network.ordered)) [
      | inl old ↦ (
          let is_due = due_before line g grows some last (omega (arith, old, before)) in
          old_open place q ((holds.wait line).after_back g place q is_due.some is_due.last before (stood_before s new is.more place q is.order at old) get same))
      | inr beyond ↦ new_open place q at get beyond
    ];
  }

pub gets_wait_kept : (d : Doc) (s new : ChipState) → DocLaws d → ProtocolHolds d s → NoneWritesBackBefore s → KeepsOrTicks (chip_of d) s new → BackEvent d s new → (line : ℕ) → GetsWait new line
gets_wait_kept d s new fits holds none (inl keeps) event = kept_waits d s new fits holds none keeps event
gets_wait_kept d s new fits holds none (inr ticks) event =
    let is = ticked d s new fits holds ticks in
    ticked_wait d s new holds is (record { units = is.units; order = is.order; replies = ticks.replies })
