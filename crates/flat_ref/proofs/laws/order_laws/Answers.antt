use Rattle.flat_ref.proofs.Takings.{Received, takes, taken_from}
use Rattle.flat_ref.proofs.Values.{reads_last, holds_last, writes_value}
use Rattle.flat_ref.proofs.ProgramOrder.{in_program_order}
use Rattle.flat_ref.proofs.Finished.{steps_of_execution, memory_of_execution}
use Rattle.flat_ref.proofs.Consistent.{consistent, execution}
use Rattle.flat_ref.proofs.laws.order_laws.Goals as goal

pub returns : goal.returns
returns c =
    let counted = c.core_laws.ensures.many in
    let laws = c.core_laws.ensures in
    let received : Received = record { by_load = laws.received; by_swap = laws.swapped; by_add = laws.added } in
    record {
      relation = λ programs old new a. (takes counted received programs old new a, taken_from counted received programs old new a);
      in_order = in_program_order counted received;
      writes = writes_value counted received;
      reads = reads_last counted received;
      memory = λ programs flat after accesses address some all. (holds_last counted received programs flat after accesses some all).words address;
      parts = λ programs memory steps accesses some. (consistent counted received programs memory accesses steps some, execution programs memory accesses steps some);
      steps = steps_of_execution counted;
      flat_memory = memory_of_execution;
    }
