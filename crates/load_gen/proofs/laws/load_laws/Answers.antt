use Rattle.std.specs.List.{range_with_len}
use Rattle.load_gen.proofs.Limits.{drawn_programs, load_limits}
use Rattle.load_gen.proofs.laws.load_laws.Goals as goal

pub returns-clause-limits : goal.returns-clause-limits
returns-clause-limits c = load_limits

pub returns-clause-programs : goal.returns-clause-programs
returns-clause-programs c = λ number. drawn_programs number (range_with_len 0 16)
