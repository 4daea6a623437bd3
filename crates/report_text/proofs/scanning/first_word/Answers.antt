-- The first word ends at the place that `position` finds.
use Rattle.std.proofs.Common.{rules, tests, ◌∙◌, sym}
use Rattle.std.proofs.lemmas.Iterator.{YieldsList-from_slice}
use Rattle.std.proofs.lemmas.Iterator.Search.{position_from_yields_List}
use Rattle.report_text.specs.Lines.{is_space}
use Rattle.core_isa.proofs.Scanning.{front_is, whole_is}
use Rattle.report_text.proofs.scanning.first_word.Goals as goal

pub returns-in-Some : goal.returns-in-Some
returns-in-Some c =
    let found = position_from_yields_List is_space _ _ c.position.result c.position.ensures.ran (YieldsList-from_slice c.args.line.now cc) (λ x b q k. search (rules, tests)) in
    c.split_at.ensures.front ∙ front_is is_space c.args.line.now c.in-Some.end (sym found ∙ c.in-Some.is)

pub returns-in-None : goal.returns-in-None
returns-in-None c =
    let found = position_from_yields_List is_space _ _ c.position.result c.position.ensures.ran (YieldsList-from_slice c.args.line.now cc) (λ x b q k. search (rules, tests)) in
    whole_is is_space c.args.line.now (sym found ∙ c.in-None.is)
