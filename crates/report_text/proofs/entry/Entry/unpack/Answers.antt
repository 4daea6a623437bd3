-- The entry found in the word is the only valid one that the word may be of.
use Rattle.std.proofs.Common.{◌∙◌, sym, ap, subst}
use Rattle.report_text.specs.Entry.{IsValid, packed}
use Rattle.report_text.proofs.Packing.{packed-none, packed-some}
use Rattle.report_text.proofs.entry.Entry.unpack.Goals as goal
use Rattle.report_text.proofs.entry.Entry.unpack.Goals.{else-is_valid-via-then-is_valid+else-pack-word, else-is_valid-via-else-is_valid}

pub returns-in_err-entry : goal.returns-in_err-entry
returns-in_err-entry c = λ entry. (
  λ e. absurd cc,
  λ h. absurd (packed-none c.args.word (sym c.in_err-entry.ensures) entry h.0 h.1),
)

pub returns-else-is_valid : goal.returns-else-is_valid
returns-else-is_valid c = λ entry. (
  λ e. absurd cc,
  λ h.
      let same = packed-some c.args.word c.in_ok-entry.entry (sym c.in_ok-entry.ensures) entry h.0 h.1 in
      elim c.else-is_valid.branch [
        | else-is_valid-via-then-is_valid+else-pack-word w ↦ absurd (w.if-pack-word.false (w.pack.ensures ∙ ap packed same ∙ h.1))
        | else-is_valid-via-else-is_valid w ↦ let yes = c.is_valid.ensures.1 (subst IsValid (sym same) h.0) in let no = w.if-is_valid.false in absurd cc
      ],
)
