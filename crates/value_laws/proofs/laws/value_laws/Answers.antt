use Rattle.value_laws.proofs.LineValues.{value_kept, value_written, value_next}
use Rattle.value_laws.proofs.Passing.{value_passes, own_value_passes}
use Rattle.value_laws.proofs.laws.value_laws.Goals as goal

pub returns : goal.returns
returns c = record {
  kept = value_kept;
  written = value_written;
  next = value_next;
  passes = value_passes;
  own_passes = own_value_passes;
}
