use Rattle.std.proofs.Common.{rules}
use Rattle.core_isa.proofs.Digits.{text_from_digits}
use Rattle.core_isa.proofs.word.digits.Goals as goal

pub returns : goal.returns
returns c = rw c.ok.ensures.value (text_from_digits _ c.args.word.now c.from_utf8.result (search rules) (search rules) c.from_utf8.ensures.cases)
