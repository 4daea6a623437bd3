-- What every event keeps of the gets that are ordered and not complete.
use Rattle.std.proofs.Common.{◌≡◌, Some}
use Rattle.report_text.specs.declared.event.Event.{Event}
use Rattle.doc_text.specs.Doc.{Doc}
use Rattle.chip_model.specs.Chip.{chip_of}
use Rattle.chip_model.specs.Units.{Behaviour}
use Rattle.chip_model.specs.ChipState.{ChipState}
use Rattle.chip_model.specs.Events.{step}
use Rattle.chip_model.specs.BehaviourLaws.{KeepsLaws}
use Rattle.chip_model.specs.ChipInvariant.{ProtocolHolds}
use Rattle.chip_laws.specs.DocLaws.{DocLaws}
use Rattle.chip_laws.specs.Meetings.{UnitsFit}
use Rattle.chip_laws.specs.Parts.{GetsAreSupplied}
use Rattle.chip_laws.specs.MessageLaws.{MessageLaws}
use Rattle.chip_laws.proofs.Deliveries.{deliveries_fit}
use Rattle.chip_laws.proofs.EventSteps.{event_does}
use Rattle.chip_laws.proofs.WholeSteps.{supplied_after}
use Rattle.supply_laws.specs.OpenGets.{NoneWritesBackBefore, DataAnswersGets, EachHasOneToCome, AllGetsWait}
use Rattle.supply_laws.proofs.WriteBackEvents.{back_event}
use Rattle.supply_laws.proofs.PlaceEvents.{KeepsOrTicks, keeps_or_ticks}
use Rattle.supply_laws.proofs.NoWriteBacks.{none_writes_back_kept}
use Rattle.supply_laws.proofs.OneToComes.{one_to_come_kept}
use Rattle.supply_laws.proofs.DataKept.{data_answers_kept}
use Rattle.supply_laws.proofs.GetsKeepWaiting.{gets_wait_kept}

module _ (messages : MessageLaws) (b : Behaviour) (laws : KeepsLaws b) (d : Doc) (s new : ChipState) (event : Event) (fits : DocLaws d) (holds : ProtocolHolds d s) (fit : UnitsFit b laws s)
    (happens : step b (chip_of d) s event ≡ Some new) where
  goes : KeepsOrTicks (chip_of d) s new
  goes = keeps_or_ticks messages b laws d s new fits holds fit event (event_does b (chip_of d) s new event happens)

  supplied : GetsAreSupplied d new
  supplied = supplied_after messages b laws d s new event fits holds fit (deliveries_fit d s fits holds) happens

  pub one_to_come_after : EachHasOneToCome d new
  one_to_come_after = one_to_come_kept d s new fits holds goes supplied

  pub none_writes_back_after : NoneWritesBackBefore s → NoneWritesBackBefore new
  none_writes_back_after = none_writes_back_kept d s new fits holds goes

  pub data_answers_after : DataAnswersGets s → DataAnswersGets new
  data_answers_after answers = data_answers_kept messages b laws d s new event fits holds fit answers (event_does b (chip_of d) s new event happens) supplied

  pub gets_wait_after : NoneWritesBackBefore s → AllGetsWait new
  gets_wait_after none =
      gets_wait_kept d s new fits holds none goes
      (back_event messages b laws d s new event fits holds fit (deliveries_fit d s fits holds) (event_does b (chip_of d) s new event happens))
