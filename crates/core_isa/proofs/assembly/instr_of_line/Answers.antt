use Rattle.std.proofs.lemmas.Result.{err_from_is_err_and}
use Rattle.core_isa.specs.LineSeen.{line_seen}
use Rattle.core_isa.specs.LabelsSeen.{scope_seen}
use Rattle.core_isa.proofs.Faults.{line_from_words, fault_from_label}
use Rattle.core_isa.proofs.assembly.instr_of_line.Goals as goal

pub returns-in_err-check_label : goal.returns-in_err-check_label
returns-in_err-check_label c =
    let same = err_from_is_err_and c.from_residual.result c.from_residual.ensures.1 in
    rw (same.1, same.2) (fault_from_label (scope_seen c.args.whole.now) (scope_seen c.args.before.now) (line_seen c.args.line.now) c.in_err-check_label.field-0.0 c.in_err-check_label.ensures)

pub returns : goal.returns
returns c =
    line_from_words (scope_seen c.args.whole.now) (scope_seen c.args.before.now) (line_seen c.args.line.now) c.instr_of_words.result c.in_ok-check_label.ensures (rw c.as_slice.ensures.value at c.instr_of_words.ensures)
