-- The chain of the iterators gives the parts between white bytes that are not empty.
use Rattle.std.proofs.Common.{rules, tests, ap, ◌∙◌}
use Rattle.std.specs.Slice.Iter.{split_rest, split_done, split_callee}
use Rattle.std.proofs.lemmas.Iterator.Consumers.{map_from_collect, YieldsList-from_filter}
use Rattle.std.proofs.lemmas.Iterator.Splits.{YieldsList-from_slice_split}
use Rattle.core_isa.specs.Lines.{is_filled, is_white, words_of}
use Rattle.core_isa.proofs.line.split_words.Goals as goal

pub returns : goal.returns
unfolding words_of
returns c =
    map_from_collect _ c.collect.ensures.ran (
    YieldsList-from_filter _ is_filled (
    YieldsList-from_slice_split _ is_white _ (ap split_rest c.filter.ensures.source ∙ c.split.ensures.rest ∙ c.without_comment.ensures) (ap split_done c.filter.ensures.source ∙ c.split.ensures.done) (ap split_callee c.filter.ensures.source ∙ c.split.ensures.closure)
    (λ x b q k. search (rules, tests))
    ) c.filter.ensures.closure (λ x b q k. search (rules, tests))
    )
