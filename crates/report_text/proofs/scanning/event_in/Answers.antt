-- The words that the code splits are those of the line.
use Rattle.std.proofs.Common.{sym, ap, ◌∙◌}
use Rattle.core_isa.specs.LineSeen.{texts_seen}
use Rattle.report_text.specs.Scanning.{event_said}
use Rattle.report_text.proofs.EventLines.{too_many, line-event_said, event_said-line}
use Rattle.report_text.proofs.Numbers.{none_some}
use Rattle.report_text.proofs.scanning.event_in.Goals as goal

pub returns-in_err-split_words : goal.returns-in_err-split_words
returns-in_err-split_words c = λ e. (λ h. absurd (none_some e (sym c.from_residual.ensures ∙ h)), λ h. absurd (too_many c.args.line.now e c.in_err-split_words.ensures h.1))

pub returns : goal.returns
returns c = λ e.
    let said = c.said_by.ensures ∙ ap event_said (ap texts_seen c.as_slice.ensures.value ∙ c.in_ok-split_words.ensures) in
    (λ h. line-event_said c.args.line.now e (sym said ∙ h), λ h. said ∙ event_said-line c.args.line.now e h.0 h.1)
