use Rattle.std.proofs.Common.{refl}
use Rattle.std.proofs.lemmas.Str.Parse.{parse_digits}
use Rattle.core_isa.proofs.Digits.{numerals, unread, digits_are}
use Rattle.core_isa.proofs.word.number.Goals as goal

pub returns-in_default-parse : goal.returns-in_default-parse
returns-in_default-parse c =
    let are = c.in-Some.ensures in
    (unread c.args.word.now c.parse.result are.0 (rw are.1 at (parse_digits numerals 32 c.in-Some.digits.now c.parse.result c.parse.ensures.value.0 (rw are.1 (digits_are c.args.word.now are.0)))) c.in_default-parse.not-Ok, refl)
