-- A tile writes no line back after a get of its own for it that is not complete: every event keeps that.
use Rattle.std.proofs.Common.{◌≡◌, ℕ, ◌<◌, sym, ◌∙◌, ap, arith, inl, inr, Some, List, ◌++◌, length}
use Rattle.std.specs.Prelude.{slice_get}
use Rattle.std.proofs.lemmas.Bool.{cases_lt}
use Rattle.std.proofs.lemmas.Option.{same_Some}
use Rattle.mesh_gen.specs.declared.request.Request.{Request}
use Rattle.doc_text.specs.Doc.{Doc}
use Rattle.chip_model.specs.Chip.{chip_of}
use Rattle.chip_model.specs.Units.{UnitState}
use Rattle.chip_model.specs.ChipState.{ChipState, opening}
use Rattle.chip_model.specs.Suppliers.{place_of_get}
use Rattle.chip_model.specs.ChipInvariant.{ProtocolHolds}
use Rattle.net_iface.proofs.Named.{slice_get-append_left}
use Rattle.chip_laws.specs.DocLaws.{DocLaws}
use Rattle.chip_laws.proofs.Options.{none_some}
use Rattle.chip_laws.proofs.OrderFrames.{known_of}
use Rattle.chip_laws.proofs.RequestsInside.{tile_of, source_inside}
use Rattle.supply_laws.specs.OpenGets.{NoneWritesBackBefore}
use Rattle.supply_laws.proofs.GetPlaces.{open_place}
use Rattle.supply_laws.proofs.PlaceEvents.{KeepsPlaces, KeepsOrTicks}
use Rattle.supply_laws.proofs.GrownPlaces.{grown_place}
use Rattle.supply_laws.proofs.OpenGets.{open_get, none_written_back}
use Rattle.supply_laws.proofs.Ticked.{Ticked, ticked}

pub none_writes_back_opened : (d : Doc) → NoneWritesBackBefore (opening d)
none_writes_back_opened d g place get put unit at_get at waits before at_put kind source line = none_some get at_get

-- the place in the order before an event
pub before_of : (s new : ChipState) (k : ℕ) (q : Request) → new.network.ordered ≡ s.network.ordered → slice_get new.network.ordered k ≡ Some q → slice_get s.network.ordered k ≡ Some q
before_of s new k q order at = ap (λ (ordered : List Request). slice_get ordered k) (sym order) ∙ at

keeps_none : (d : Doc) (s new : ChipState) → DocLaws d → ProtocolHolds d s → KeepsPlaces s new → NoneWritesBackBefore s → NoneWritesBackBefore new
keeps_none d s new fits holds keeps none g place get put unit at_get at waits before at_put kind source line =
    let old_get = before_of s new g get keeps.order at_get in
    let tile = tile_of d s get.source holds (source_inside d s g get fits holds old_get) in
    elim (keeps.places get.source tile.unit unit tile.unit_at at) [
      | inl same ↦ none g place get put tile.unit old_get tile.unit_at (sym same ∙ waits) before (before_of s new place put keeps.order at_put) kind source line
      | inr ends ↦ none_some g (sym ends.0 ∙ waits)
    ]

-- the place of an open get is that before a tick, where it stands in the order before
pub waited_before : (s new : ChipState) (more : List Request) (unit : UnitState) (g : ℕ) → new.network.ordered ≡ s.network.ordered ++ more → place_of_get new unit.node ≡ Some g
    → g < length s.network.ordered → place_of_get s unit.node ≡ Some g
waited_before s new more unit g order waits before =
    let now : open_place (s.network.ordered ++ more) unit.node ≡ Some g = ap (λ (ordered : List Request). open_place ordered unit.node) (sym order) ∙ waits in
    elim (grown_place s.network.ordered more unit.node) [
      | inl same ↦ sym same ∙ now
      | inr comes ↦ (
          let same : comes.place ≡ g = same_Some comes.place g (sym comes.at ∙ now) in
          absurd (omega (arith, same, comes.beyond, before)))
    ]

pub stood_before : (s new : ChipState) (more : List Request) (k : ℕ) (q : Request) → new.network.ordered ≡ s.network.ordered ++ more → slice_get new.network.ordered k ≡ Some q
    → k < length s.network.ordered → slice_get s.network.ordered k ≡ Some q
stood_before s new more k q order at before = sym (slice_get-append_left s.network.ordered more k before) ∙ (ap (λ (ordered : List Request). slice_get ordered k) (sym order) ∙ at)

ticks_none : (d : Doc) (s new : ChipState) → ProtocolHolds d s → Ticked d s new → NoneWritesBackBefore s → NoneWritesBackBefore new
ticks_none d s new holds is none g place get put unit at_get at waits before at_put kind source line =
    let was : slice_get s.units get.source ≡ Some unit = ap (λ (units : List UnitState). slice_get units get.source) (sym is.units) ∙ at in
    elim (cases_lt place (length s.network.ordered)) [
      | inl old ↦ (
          let earlier : g < length s.network.ordered = omega (arith, old, before) in
          none g place get put unit (stood_before s new is.more g get is.order at_get earlier) was (waited_before s new is.more unit g is.order waits earlier) before
          (stood_before s new is.more place put is.order at_put old) kind source line)
      | inr beyond ↦ (
          let tile = is.tiles get.source unit was in
          let asked = open_get new.network get.source tile.interface unit.node g tile.agrees tile.node.agrees tile.node.fits.side waits in
          let same : get ≡ asked.get = same_Some get asked.get (sym at_get ∙ asked.at) in
          none_written_back new.network get.source tile.interface unit.node g place put tile.agrees tile.node.agrees tile.node.fits.side asked at_put kind source
          (line ∙ ap (λ (q : Request). q.line) same) (omega (arith, beyond, (known_of d s holds get.source unit was).within)))
    ]

pub none_writes_back_kept : (d : Doc) (s new : ChipState) → DocLaws d → ProtocolHolds d s → KeepsOrTicks (chip_of d) s new → NoneWritesBackBefore s → NoneWritesBackBefore new
none_writes_back_kept d s new fits holds (inl keeps) none = keeps_none d s new fits holds keeps none
none_writes_back_kept d s new fits holds (inr ticks) none = ticks_none d s new holds (ticked d s new fits holds ticks) none
