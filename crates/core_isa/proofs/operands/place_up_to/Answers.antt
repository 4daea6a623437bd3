use Rattle.std.proofs.lemmas.Str.Parse.{parse_digits}
use Rattle.core_isa.proofs.Digits.{numerals, unread_place, digits_are}
use Rattle.core_isa.proofs.operands.place_up_to.Goals as goal

pub returns-in_default-parse : goal.returns-in_default-parse
returns-in_default-parse c =
    let are = c.in-Some.ensures in
    unread_place c.args.word.now c.parse.result c.args.end (c.ranges.end.fits) are.0 (rw are.1 at (parse_digits numerals 64 c.in-Some.digits.now c.parse.result c.parse.ensures.value.0 (rw are.1 (digits_are c.args.word.now are.0)))) c.in_default-parse.not-Ok
