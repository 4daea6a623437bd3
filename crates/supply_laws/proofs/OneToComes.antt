-- No get of a tile but the one for which it waits is to come to its supplier: every event keeps that.
use Rattle.std.proofs.Common.{◌≡◌, ℕ, ◌<◌, ◌≤◌, Bool, true, refl, sym, ◌∙◌, ap, subst, arith, inl, inr, Option, Some, None, List, ◌++◌, take, drop, length}
use Rattle.std.specs.Prelude.{◌&&◌, nat_le, slice_get}
use Rattle.std.specs.List.{count_by}
use Rattle.std.proofs.lemmas.Bool.{false≢true, and_parts, cases_lt, leb-true, le-leb}
use Rattle.std.proofs.lemmas.List.{take-append-le}
use Rattle.mesh_gen.specs.declared.request.Request.{Request}
use Rattle.mesh_gen.specs.Ports.{count_if}
use Rattle.doc_text.specs.Doc.{Doc}
use Rattle.chip_model.specs.Chip.{Chip, chip_of}
use Rattle.chip_model.specs.Node.{Node}
use Rattle.chip_model.specs.Units.{UnitState}
use Rattle.chip_model.specs.ChipState.{ChipState, opening}
use Rattle.chip_model.specs.Ownership.{owner}
use Rattle.chip_model.specs.Bookkeeping.{is_get_of}
use Rattle.chip_model.specs.Suppliers.{count_of, delivered_at, supplier, is_to_come_at, is_to_come, is_ordered, answers_to_come, place_of_get, IsSupplied}
use Rattle.chip_model.specs.ChipInvariant.{ProtocolHolds}
use Rattle.chip_laws.specs.DocLaws.{DocLaws}
use Rattle.chip_laws.specs.Parts.{GetsAreSupplied}
use Rattle.chip_laws.proofs.Options.{none_some}
use Rattle.chip_laws.proofs.OrderFrames.{holds_at, known_of}
use Rattle.chip_laws.proofs.SupplyBounds.{one_open}
use Rattle.chip_laws.proofs.SuppliedComes.{OneOpen}
use Rattle.chip_laws.proofs.WaitsToCome.{to_come_counts}
use Rattle.supply_laws.specs.OpenGets.{EachHasOneToCome}
use Rattle.supply_laws.proofs.GetPlaces.{none_waits, open_place, undelivered_open}
use Rattle.supply_laws.proofs.PlaceEvents.{KeepsPlaces, KeepsOrTicks}
use Rattle.supply_laws.proofs.GrownPlaces.{grown_place}
use Rattle.supply_laws.proofs.NoWriteBacks.{before_of, stood_before}
use Rattle.supply_laws.proofs.Ticked.{Ticked, ticked}

-- ---- a get that is to come
pub record ComesTo (chip : Chip) (s : ChipState) (t place : ℕ) : Type 0 where
  pub get : Request
  pub at : slice_get s.network.ordered place ≡ Some get
  pub of : is_get_of t get ≡ true
  pub before : delivered_at s (supplier chip get.line (owner get.line (take place s.network.ordered))) ≤ place

pub comes_to : (chip : Chip) (s : ChipState) (t place : ℕ) → is_to_come chip s t place ≡ true → ComesTo chip s t place
comes_to chip s t place is = by (slice_get s.network.ordered place) refl is where
  by : (o : Option Request) → slice_get s.network.ordered place ≡ o → is_to_come_at chip s t place o ≡ true → ComesTo chip s t place
  by None at comes = absurd (false≢true comes)
  by (Some q) at both =
      let v = supplier chip q.line (owner q.line (take place s.network.ordered)) in
      let parts = and_parts (is_get_of t q) (nat_le (delivered_at s v) place) both in
      record { get = q; at = at; of = parts.0; before = leb-true (delivered_at s v) place parts.1 }

pub to_come_by : (chip : Chip) (s : ChipState) (t place : ℕ) (q : Request) → slice_get s.network.ordered place ≡ Some q → is_get_of t q ≡ true
    → delivered_at s (supplier chip q.line (owner q.line (take place s.network.ordered))) ≤ place → is_to_come chip s t place ≡ true
to_come_by chip s t place q at get before =
    let v = supplier chip q.line (owner q.line (take place s.network.ordered)) in
    ap (is_to_come_at chip s t place) at ∙ ap (λ (b : Bool). b && nat_le (delivered_at s v) place) get ∙ le-leb (delivered_at s v) place before

-- ---- nothing is to come to a tile that waits for none
pub nothing_comes : (chip : Chip) (s : ChipState) (t : ℕ) (node : Node) → node.tile ≡ t → IsSupplied chip s t node → place_of_get s node ≡ None → answers_to_come chip s t ≡ 0
nothing_comes chip s t node tile supplied none =
    let waits = none_waits s.network.ordered node none in
    let few : count_by (is_get_of t) (drop node.delivered s.network.ordered) ≡ 0 = ap (λ (u : ℕ). count_by (is_get_of u) (drop node.delivered s.network.ordered)) (sym tile) ∙ waits.undelivered in
    let unordered : count_if (is_ordered node.side.misses.demand) ≡ 0 = ap count_if waits.unordered in
    omega (arith, supplied, few, unordered)

-- ---- before any event
pub one_to_come_opened : (d : Doc) → EachHasOneToCome d (opening d)
one_to_come_opened d t unit at place comes = let is = comes_to (chip_of d) (opening d) t place comes in none_some is.get is.at

-- ---- an event that orders nothing
fewer_come : (chip : Chip) (s new : ChipState) (t place : ℕ) → KeepsPlaces s new → is_to_come chip new t place ≡ true → is_to_come chip s t place ≡ true
fewer_come chip s new t place keeps comes =
    let is = comes_to chip new t place comes in
    let v = supplier chip is.get.line (owner is.get.line (take place s.network.ordered)) in
    let same : delivered_at new (supplier chip is.get.line (owner is.get.line (take place new.network.ordered))) ≡ delivered_at new v =
    ap (λ (ordered : List Request). delivered_at new (supplier chip is.get.line (owner is.get.line (take place ordered)))) keeps.order in
    let fewer = keeps.counts v in
    to_come_by chip s t place is.get (before_of s new place is.get keeps.order is.at) is.of (omega (arith, is.before, same, fewer))

keeps_one : (d : Doc) (s new : ChipState) → ProtocolHolds d s → KeepsPlaces s new → GetsAreSupplied d new → EachHasOneToCome d new
keeps_one d s new holds keeps supplied t after at place comes =
    let was = keeps.units t after at in
    let here = holds_at d s holds t was.0 was.1 in
    let old = here.holds.serves.one place (fewer_come (chip_of d) s new t place keeps comes) in
    elim (keeps.places t was.0 after was.1 at) [
      | inl same ↦ same ∙ old
      | inr ends ↦ (
          let none = nothing_comes (chip_of d) new t after.node (keeps.tiles t was.0 after was.1 at ∙ here.holds.node.agrees.tile) (supplied t after at) ends.0 in
          absurd (omega (arith, none, to_come_counts (chip_of d) new t place comes)))
    ]

-- ---- a tick
came_before : (d : Doc) (s new : ChipState) (t place : ℕ) → (is : Ticked d s new) → is_to_come (chip_of d) new t place ≡ true → place < length s.network.ordered
    → is_to_come (chip_of d) s t place ≡ true
came_before d s new t place is comes old =
    let c = comes_to (chip_of d) new t place comes in
    let same : take place new.network.ordered ≡ take place s.network.ordered = ap (take place) is.order ∙ take-append-le place s.network.ordered is.more (omega (arith, old)) in
    let v = supplier (chip_of d) c.get.line (owner c.get.line (take place s.network.ordered)) in
    let count : delivered_at new (supplier (chip_of d) c.get.line (owner c.get.line (take place new.network.ordered))) ≡ delivered_at s v =
    ap (λ (requests : List Request). delivered_at new (supplier (chip_of d) c.get.line (owner c.get.line requests))) same
    ∙ ap (λ (units : List UnitState). count_of (slice_get units v)) is.units in
    to_come_by (chip_of d) s t place c.get (stood_before s new is.more place c.get is.order c.at old) c.of (omega (arith, c.before, count))

ticks_one : (d : Doc) (s new : ChipState) → ProtocolHolds d s → Ticked d s new → EachHasOneToCome d new
ticks_one d s new holds is t unit at place comes =
    let was : slice_get s.units t ≡ Some unit = ap (λ (units : List UnitState). slice_get units t) (sym is.units) ∙ at in
    let here = holds_at d s holds t unit was in
    elim (cases_lt place (length s.network.ordered)) [
      | inl old ↦ (
          let waited = here.holds.serves.one place (came_before d s new t place is comes old) in
          let grown : open_place (s.network.ordered ++ is.more) unit.node ≡ Some place = elim (grown_place s.network.ordered is.more unit.node) [
            | inl same ↦ same ∙ waited
            | inr comes ↦ none_some place (sym comes.none ∙ waited)
          ] in
          ap (λ (ordered : List Request). open_place ordered unit.node) is.order ∙ grown)
      | inr beyond ↦ (
          let c = comes_to (chip_of d) new t place comes in
          let tile = is.tiles t unit was in
          let same = tile.node.agrees.tile in
          let few : OneOpen new.network.ordered unit.node.tile unit.node =
          subst (λ (k : ℕ). OneOpen new.network.ordered k unit.node) (sym same) (one_open new.network t tile.interface unit.node tile.agrees tile.node.agrees) in
          undelivered_open new.network.ordered unit.node place c.get few c.at (ap (λ (k : ℕ). is_get_of k c.get) same ∙ c.of) (omega (arith, beyond, (known_of d s holds t unit was).within)))
    ]

pub one_to_come_kept : (d : Doc) (s new : ChipState) → DocLaws d → ProtocolHolds d s → KeepsOrTicks (chip_of d) s new → GetsAreSupplied d new → EachHasOneToCome d new
one_to_come_kept d s new fits holds (inl keeps) supplied = keeps_one d s new holds keeps supplied
one_to_come_kept d s new fits holds (inr ticks) supplied = ticks_one d s new holds (ticked d s new fits holds ticks)
