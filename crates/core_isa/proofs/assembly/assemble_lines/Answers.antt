use Rattle.std.proofs.Common.{ℕ, List, [], ◌∷◌, ◌+◌, ◌++◌, Some, take, drop, ap, sym, subst, ◌∙◌, arith}
use Rattle.std.specs.Option.{option_to_list}
use Rattle.core_isa.specs.declared.instr.Instr.{Instr}
use Rattle.core_isa.specs.Lines.{Line}
use Rattle.core_isa.specs.Assembly.{fault_at}
use Rattle.core_isa.specs.LineSeen.{line_seen, lines_seen}
use Rattle.core_isa.specs.LabelsSeen.{scope_seen}
use Rattle.core_isa.proofs.Progress.{Progress, stops, advances, ends}
use Rattle.core_isa.proofs.RawLines.{lines_seen-take, lines_seen-drop, length-lines_seen, lines_seen-all, lines_seen-none}
use Rattle.core_isa.proofs.assembly.assemble_lines.Goals as goal

pub returns-in-Err-clause-fault : goal.returns-in-Err-clause-fault
returns-in-Err-clause-fault c =
    let raws = c.args.lines.now in
    let i = c.loop-index.index in
    let whole = scope_seen c.args.whole.now in
    let line = line_seen c.in_ok-line.line in
    let next = lines_seen-drop raws i c.loop-index-test.true ∙ ap (λ (l : Line). l ∷ lines_seen (drop (i + 1) raws)) (sym c.in_ok-line.ensures) in
    let so_far = subst (λ (rest : List Line). Progress whole (lines_seen (take i raws)) rest (lines_seen raws) (scope_seen c.loop-index.before) c.loop-index.instrs.items) next c.loop-index.invariant in
    stops whole (lines_seen (take i raws)) line (lines_seen (drop (i + 1) raws)) (lines_seen raws) (scope_seen c.loop-index.before) c.loop-index.instrs.items c.in-Err.kind so_far c.in-Err.ensures
    ∙ ap (λ (n : ℕ). Some (fault_at (n + 1) c.in-Err.kind)) (length-lines_seen raws i (omega arith))

pub loop-index-preserved : goal.loop-index-preserved
loop-index-preserved c =
    let raws = c.args.lines.now in
    let i = c.loop-index.index in
    let whole = scope_seen c.args.whole.now in
    let line = line_seen c.in_ok-line.line in
    let next = lines_seen-drop raws i c.loop-index-test.true ∙ ap (λ (l : Line). l ∷ lines_seen (drop (i + 1) raws)) (sym c.in_ok-line.ensures) in
    let more = lines_seen-take raws i c.loop-index-test.true ∙ ap (λ (l : Line). lines_seen (take i raws) ++ l ∷ []) (sym c.in_ok-line.ensures) in
    let so_far = subst (λ (rest : List Line). Progress whole (lines_seen (take i raws)) rest (lines_seen raws) (scope_seen c.loop-index.before) c.loop-index.instrs.items) next c.loop-index.invariant in
    let read = c.in-Ok.ensures in
    let further = advances whole (lines_seen (take i raws)) line (lines_seen (drop (i + 1) raws)) (lines_seen raws) (scope_seen c.loop-index.before) (scope_seen c.add.new.self) c.loop-index.instrs.items c.in-Ok.instr so_far read.0 read.1 read.2 read.3 c.in_ok-add.ensures in
    let with_lines = subst (λ (done : List Line). Progress whole done (lines_seen (drop (i + 1) raws)) (lines_seen raws) (scope_seen c.add.new.self) (c.loop-index.instrs.items ++ option_to_list c.in-Ok.instr)) (sym more) further in
    subst (λ (instrs : List Instr). Progress whole (lines_seen (take (i + 1) raws)) (lines_seen (drop (i + 1) raws)) (lines_seen raws) (scope_seen c.add.new.self) instrs) (sym c.in_ok-push_some.ensures) with_lines

pub returns-clause-ok : goal.returns-clause-ok
returns-clause-ok c =
    let raws = c.args.lines.now in
    let i = c.loop-index.index in
    let whole = scope_seen c.args.whole.now in
    let all_done = subst (λ (done : List Line). Progress whole done (lines_seen (drop i raws)) (lines_seen raws) (scope_seen c.loop-index.before) c.loop-index.instrs.items) (lines_seen-all raws i c.loop-index-test.false) c.loop-index.invariant in
    ends whole (lines_seen raws) (scope_seen c.loop-index.before) c.loop-index.instrs.items (subst (λ (rest : List Line). Progress whole (lines_seen raws) rest (lines_seen raws) (scope_seen c.loop-index.before) c.loop-index.instrs.items) (lines_seen-none raws i c.loop-index-test.false) all_done)
