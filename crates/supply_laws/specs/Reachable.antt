-- What holds of every state that a chip reaches, whatever its cores are.
use Rattle.doc_text.specs.Doc.{Doc}
use Rattle.chip_model.specs.Units.{Behaviour}
use Rattle.chip_model.specs.ChipState.{ChipState}
use Rattle.chip_model.specs.BehaviourLaws.{KeepsLaws}
use Rattle.chip_model.specs.ChipInvariant.{ProtocolHolds}
use Rattle.chip_laws.specs.Meetings.{UnitsFit}
use Rattle.supply_laws.specs.OpenGets.{NoneWritesBackBefore, DataAnswersGets}

-- the protocol holds; each unit is one that its kind of core comes to; and of each get that is not complete, its tile writes
-- no line back that it waits for, and data is of the line that it waits for
pub record StateHolds (b : Behaviour) (laws : KeepsLaws b) (d : Doc) (s : ChipState) : Type 0 where
  pub protocol : ProtocolHolds d s
  pub fit : UnitsFit b laws s
  pub none_back : NoneWritesBackBefore s
  pub messages : DataAnswersGets s
