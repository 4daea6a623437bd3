use Rattle.value_laws.proofs.consistency.consistency_laws.Goals as goal

pub returns : goal.returns
returns c =
    let holds = c.reached_access_laws.ensures.reached in
    let sequence = c.sequence_laws.ensures in
    record {
      execution = λ d events s fits e. sequence.execution d s fits (holds d events s fits e);
      whole = λ d events s fits e over. sequence.whole d s fits (holds d events s fits e) over;
      memory = λ d events s fits e over. sequence.memory d s fits (holds d events s fits e) over;
    }
