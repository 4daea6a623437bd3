use Rattle.flat_ref.proofs.Takings.{Received}
use Rattle.value_laws.proofs.Executions.{is_execution}
use Rattle.value_laws.proofs.FinalMemory.{is_whole}
use Rattle.value_laws.proofs.laws.sequence_laws.Goals as goal

pub returns : goal.returns
returns c =
    let laws = c.core_laws.ensures in
    let received : Received = record { by_load = laws.received; by_swap = laws.swapped; by_add = laws.added } in
    record {
      execution = is_execution;
      whole = λ d s fits h over. (is_whole laws.many received d s fits h over).0;
      memory = λ d s fits h over. (is_whole laws.many received d s fits h over).1;
    }
