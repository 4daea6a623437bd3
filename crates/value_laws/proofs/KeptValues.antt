-- In every state that a chip reaches, whatever its cores are, all copies have their values.
use Rattle.std.proofs.Common.{◌≡◌, Option, Some, None, List, [], ◌∷◌, refl, subst}
use Rattle.std.proofs.lemmas.Option.{same_Some}
use Rattle.report_text.specs.declared.access.Access.{Access}
use Rattle.report_text.specs.declared.event.Event.{Event}
use Rattle.report_text.specs.declared.event.Event.TheVariants.{Tick, Core, Inject, Post, Take, Eject, Send, Hop, DataHop, DataEject}
use Rattle.doc_text.specs.Doc.{Doc}
use Rattle.chip_model.specs.Chip.{Chip, chip_of}
use Rattle.chip_model.specs.Units.{Behaviour}
use Rattle.chip_model.specs.ChipState.{ChipState}
use Rattle.chip_model.specs.Events.{step, with_access}
use Rattle.chip_model.specs.Runs.{noted, after, run}
use Rattle.chip_model.specs.BehaviourLaws.{KeepsLaws}
use Rattle.chip_model.specs.Values.{ValuesHold}
use Rattle.chip_laws.specs.DocFits.{DocFits}
use Rattle.chip_laws.specs.DocLaws.{DocLaws}
use Rattle.chip_laws.specs.EventSteps.{EventDoes}
use Rattle.chip_laws.specs.MessageLaws.{MessageLaws}
use Rattle.chip_laws.proofs.EventSteps.{event_does, noted_after}
use Rattle.chip_laws.proofs.Options.{bind}
use Rattle.chip_laws.proofs.OrderedTiles.{tiles_some}
use Rattle.chip_laws.proofs.RequestsInside.{tile_of}
use Rattle.supply_laws.specs.Reachable.{StateHolds}
use Rattle.supply_laws.proofs.NotedStates.{noted_state}
use Rattle.supply_laws.proofs.ReachedStates.{IsKept}
use Rattle.value_laws.specs.Sequences.{Succeeds, AreSucceeding}
use Rattle.value_laws.specs.Numbers.{AreInTurn}
use Rattle.value_laws.proofs.Sequences.{pairs_before}
use Rattle.value_laws.proofs.SettledSteps.{OrdersNothing}
use Rattle.value_laws.proofs.StayedValues.{same_values}
use Rattle.value_laws.proofs.QuietValues.{no_change, node_kept_values}
use Rattle.value_laws.proofs.EventFrames.{same_places}
use Rattle.value_laws.proofs.EventValues.{values_after}
use Rattle.value_laws.proofs.CoreHits.{accesses_keep_values}
use Rattle.value_laws.proofs.ReachedTurns.{turn_kept, turn_noted}

-- ---- an event

-- where the accesses are in turn before it, they were so before
before_access : (xs : List Access) (answer : Option Access) → AreSucceeding (with_access answer xs) → AreSucceeding xs
before_access xs None turn = turn
before_access xs (Some a) turn = pairs_before Succeeds xs a turn

before_event : (b : Behaviour) (chip : Chip) (s new : ChipState) (event : Event) → EventDoes b chip s new event → AreSucceeding new.accesses
    → AreSucceeding s.accesses
before_event b chip s new Tick does turn = subst AreSucceeding does.accesses turn
before_event b chip s new (Core t) does turn = before_access s.accesses (b.stepped does.unit).1 (subst AreSucceeding does.accesses turn)
before_event b chip s new (Inject t) does turn = subst AreSucceeding does.accesses turn
before_event b chip s new (Post t) does turn = subst AreSucceeding does.accesses turn
before_event b chip s new (Take t) does turn = subst AreSucceeding does.accesses turn
before_event b chip s new (Eject t) does turn = before_access s.accesses (b.delivered does.request does.unit).1 (subst AreSucceeding does.accesses turn)
before_event b chip s new (Send t) does turn = subst AreSucceeding does.accesses turn
before_event b chip s new (Hop r port slot out) does turn = subst AreSucceeding does.accesses turn
before_event b chip s new (DataHop r port slot) does turn = subst AreSucceeding does.accesses turn
before_event b chip s new (DataEject r port slot) does turn =
    before_access s.accesses (b.received does.msg does.unit).1 (subst AreSucceeding does.accesses turn)

pub values_kept : IsKept → MessageLaws → (b : Behaviour) (laws : KeepsLaws b) (d : Doc) (s new : ChipState) (event : Event) → DocLaws d
    → StateHolds b laws d s → AreSucceeding new.accesses → ValuesHold d s → step b (chip_of d) s event ≡ Some new → ValuesHold d new
values_kept kept messages b laws d s new event fits holds turn values e =
    let does = event_does b (chip_of d) s new event e in
    values_after messages b laws d s new fits holds (kept b laws d s new event fits.doc holds e) (before_event b (chip_of d) s new event does turn) values
    (accesses_keep_values b laws d s new holds.fit turn values) event does

-- ---- it is noted

module _ (b : Behaviour) (laws : KeepsLaws b) (d : Doc) (s : ChipState) (event : Event) (fits : DocFits d) (holds : StateHolds b laws d s) where
  pub orders_noted : OrdersNothing d s (noted event s)
  orders_noted = record {
    before = holds.protocol;
    behind = (noted_state b laws d s event holds).protocol;
    answers = (noted_state b laws d s event holds).messages;
    places = same_places s (noted event s) refl refl;
  }

  pub values_noted : ValuesHold d s → ValuesHold d (noted event s)
  values_noted values =
      let tile = tile_of d s 0 holds.protocol (tiles_some d fits) in
      node_kept_values d s (noted event s) orders_noted values 0 tile.unit tile.unit (no_change s (noted event s) 0 tile.unit tile.unit_at refl) refl
      (same_values d s (noted event s) refl) values.channels

-- ---- a run

pub values_reached : IsKept → MessageLaws → (b : Behaviour) (laws : KeepsLaws b) (d : Doc) (events : List Event) (s last : ChipState) → DocLaws d
    → StateHolds b laws d s → AreInTurn s → ValuesHold d s → run b (chip_of d) s events ≡ Some last → ValuesHold d last
unfolding run
values_reached kept messages b laws d [] s last fits holds turn values e = subst (ValuesHold d) (same_Some s last e) values
values_reached kept messages b laws d (event ∷ events) s last fits holds turn values e =
    bind (after b (chip_of d) s event) (λ new. run b (chip_of d) new events) last e (λ new first rest.
    let (left, stepped, noted_is) = noted_after b (chip_of d) s new event first in
    let behind = kept b laws d s left event fits.doc holds stepped in
    let next = turn_kept b laws d s left event holds turn stepped in
    let left_values = values_kept kept messages b laws d s left event fits holds next.succeed values stepped in
    values_reached kept messages b laws d events new last fits
    (subst (StateHolds b laws d) noted_is (noted_state b laws d left event behind))
    (subst AreInTurn noted_is (turn_noted left event next))
    (subst (ValuesHold d) noted_is (values_noted b laws d left event fits.doc behind left_values)) rest)
