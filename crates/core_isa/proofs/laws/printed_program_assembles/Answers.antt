use Rattle.core_isa.proofs.RoundTrip.{round_trip}
use Rattle.core_isa.proofs.laws.printed_program_assembles.Goals as goal

pub returns : goal.returns
returns c = round_trip
