use Rattle.std.proofs.Common.{take, ap, sym, ◌∙◌}
use Rattle.std.proofs.Math.Path.{ap₂}
use Rattle.core_isa.specs.Lines.{source_line}
use Rattle.core_isa.specs.Operands.{scope_of}
use Rattle.core_isa.specs.LineSeen.{lines_seen}
use Rattle.core_isa.specs.LabelsSeen.{with_line}
use Rattle.core_isa.proofs.Scopes.{scope_of-push}
use Rattle.core_isa.proofs.RawLines.{raw_at, lines_seen-take}
use Rattle.core_isa.proofs.assembly.labels_of.Goals as goal

pub loop-raw-preserved : goal.loop-raw-preserved
loop-raw-preserved c =
    let raws = c.args.lines.now in
    let i = c.loop-raw.raw-index in
    c.in_ok-add.ensures ∙ ap₂ with_line c.loop-raw.invariant c.in_ok-read.ensures ∙ sym (scope_of-push (lines_seen (take i raws)) (source_line (raw_at raws i).now)) ∙ ap scope_of (sym (lines_seen-take raws i c.loop-raw-test.true))
