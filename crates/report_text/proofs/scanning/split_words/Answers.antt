-- The iterator gives the parts of the line between its spaces.
use Rattle.std.proofs.Common.{rules, tests, length, sym, ap, ◌∙◌, arith}
use Rattle.std.specs.Slice.Iter.{split_rest, split_done, split_callee}
use Rattle.std.proofs.lemmas.Iterator.Splits.{YieldsList-from_slice_split}
use Rattle.std.proofs.lemmas.Bool.{eqb-true}
use Rattle.report_text.specs.Lines.{is_space}
use Rattle.core_isa.specs.LineSeen.{texts_seen}
use Rattle.report_text.proofs.Fronts.{parts-end, parts-more}
use Rattle.report_text.proofs.scanning.split_words.Goals as goal

pub returns-then-is_full : goal.returns-then-is_full
returns-then-is_full c =
    let same = c.into_iter-word-iterator.ensures.into_iter_gives in
    let more = parts-more c.loop-word.yielded _ c.loop-word.yielded_by _ _ c.in-Some.word c.in-Some.is c.next.ensures.steps
    (YieldsList-from_slice_split _ is_space c.args.line.now (ap split_rest same ∙ c.split-word-items.ensures.rest) (ap split_done same ∙ c.split-word-items.ensures.done) (ap split_callee same ∙ c.split-word-items.ensures.closure) (λ x b q k. search (rules, tests))) in
    let full = eqb-true _ _ (sym c.if-is_full.ensures.value) in
    omega (arith, more, full, ap length c.loop-word.invariant)

pub returns : goal.returns
returns c =
    let same = c.into_iter-word-iterator.ensures.into_iter_gives in
    ap texts_seen c.loop-word.invariant
    ∙ parts-end c.loop-word.yielded _ c.loop-word.yielded_by _ _ c.in-None.is c.next.ensures.steps
    (YieldsList-from_slice_split _ is_space c.args.line.now (ap split_rest same ∙ c.split-word-items.ensures.rest) (ap split_done same ∙ c.split-word-items.ensures.done) (ap split_callee same ∙ c.split-word-items.ensures.closure) (λ x b q k. search (rules, tests)))
