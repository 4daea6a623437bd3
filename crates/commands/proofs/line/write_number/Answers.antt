use Rattle.std.proofs.Common.{◌≡◌, ◌<◌, ◌≤◌, length, drop, ◌∙◌, arith}
use Rattle.commands.specs.Entries.{entry_text}
use Rattle.commands.proofs.Digits.{decimal_short, digits_are, space_before}
use Rattle.commands.proofs.line.write_number.Goals as goal
use Rattle.commands.proofs.line.write_number.Goals.{then-begun, else-begun}

pub write_digits-digits-requires : goal.write_digits-digits-requires
write_digits-digits-requires g c = (omega (arith, decimal_short c.from.result (omega arith)), omega arith)

pub overflow_sub-start : goal.overflow_sub-start
overflow_sub-start g c = omega (arith, decimal_short c.from.result (omega arith))

pub returns : goal.returns
returns g c =
    let written = rw c.from.ensures at c.write_digits-digits.ensures.written in
    let some : 0 < c.write_digits-digits.result = omega (arith, decimal_short c.from.result (omega arith)) in
    let within : c.write_digits-digits.result ≤ 4 = omega arith in
    let count : length c.write_digits-digits.new.buf ≡ 4 = omega arith in
    let text_is : drop c.if-begun.start c.write_digits-digits.new.buf ≡ entry_text c.args.begun c.args.number = elim c.if-begun.branch [
      | then-begun w ↦ rw (w.start-is, w.if-begun.true) (space_before c.args.number c.write_digits-digits.result c.write_digits-digits.new.buf some within count written c.write_digits-digits.ensures.before)
      | else-begun w ↦ rw (w.start-is, w.if-begun.false) (digits_are c.args.number c.write_digits-digits.result c.write_digits-digits.new.buf written)
    ] in
    rw (c.split_at.ensures.back ∙ text_is) at c.write_piece.ensures
