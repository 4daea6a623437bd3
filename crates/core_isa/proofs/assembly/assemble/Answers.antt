-- The lines and the scope that the code keeps are those of the text.
use Rattle.std.proofs.Common.{List, Some, [], ◌≡◌}
use Rattle.std.proofs.lemmas.Result.{err_from_is_err_and}
use Rattle.core_isa.specs.Lines.{Line, lines_of}
use Rattle.core_isa.specs.Operands.{Scope}
use Rattle.core_isa.specs.Assembly.{first_fault, IfFault}
use Rattle.core_isa.specs.LabelsSeen.{scope_seen}
use Rattle.core_isa.specs.Reading.{IsAssembled}
use Rattle.core_isa.specs.LineSeen.{lines_seen}
use Rattle.core_isa.proofs.Whole.{assembles, is_program, faults, lines_are, of_text}
use Rattle.core_isa.proofs.assembly.assemble.Goals as goal

pub new-requires : goal.new-requires
new-requires c =
    let text = c.args.text.now in
    let scanned = lines_are text c.as_bytes.result.now c.in_ok-lines.lines.items c.deref.result.now c.as_bytes.ensures.value c.in_ok-lines.ensures c.deref.ensures.value in
    let lines = lines_are text c.as_bytes.result.now c.in_ok-lines.lines.items c.deref-2.result.now c.as_bytes.ensures.value c.in_ok-lines.ensures c.deref-2.ensures.value in
    is_program (lines_of text) c.in_ok-instrs.instrs.items (of_text (λ (whole : Scope) (ls : List Line). IsAssembled whole ls c.in_ok-instrs.instrs.items) text (scope_seen c.in_ok-whole.whole) (lines_seen c.deref.result.now) (lines_seen c.deref-2.result.now) scanned lines c.in_ok-whole.ensures c.in_ok-instrs.ensures.ok)

pub returns-in_err-instrs-clause-fault : goal.returns-in_err-instrs-clause-fault
returns-in_err-instrs-clause-fault c =
    let text = c.args.text.now in
    let scanned = lines_are text c.as_bytes.result.now c.in_ok-lines.lines.items c.deref.result.now c.as_bytes.ensures.value c.in_ok-lines.ensures c.deref.ensures.value in
    let lines = lines_are text c.as_bytes.result.now c.in_ok-lines.lines.items c.deref-2.result.now c.as_bytes.ensures.value c.in_ok-lines.ensures c.deref-2.ensures.value in
    let end = c.in_err-instrs.field-0.0 in
    let same = err_from_is_err_and c.from_residual-in_err-instrs.result c.from_residual-in_err-instrs.ensures.1 in
    rw (same.1, same.2) (faults text end (of_text (λ (whole : Scope) (ls : List Line). IfFault (λ fault. first_fault whole [] ls ≡ Some fault) end) text (scope_seen c.in_ok-whole.whole) (lines_seen c.deref.result.now) (lines_seen c.deref-2.result.now) scanned lines c.in_ok-whole.ensures c.in_err-instrs.ensures.fault))

pub returns-clause-ok : goal.returns-clause-ok
returns-clause-ok c =
    let text = c.args.text.now in
    let scanned = lines_are text c.as_bytes.result.now c.in_ok-lines.lines.items c.deref.result.now c.as_bytes.ensures.value c.in_ok-lines.ensures c.deref.ensures.value in
    let lines = lines_are text c.as_bytes.result.now c.in_ok-lines.lines.items c.deref-2.result.now c.as_bytes.ensures.value c.in_ok-lines.ensures c.deref-2.ensures.value in
    rw c.new.ensures (assembles text c.in_ok-instrs.instrs.items (of_text (λ (whole : Scope) (ls : List Line). IsAssembled whole ls c.in_ok-instrs.instrs.items) text (scope_seen c.in_ok-whole.whole) (lines_seen c.deref.result.now) (lines_seen c.deref-2.result.now) scanned lines c.in_ok-whole.ensures c.in_ok-instrs.ensures.ok))
