-- The line ends at the place that `position` finds.
use Rattle.std.proofs.Common.{rules, tests, ◌∙◌, sym}
use Rattle.std.proofs.lemmas.Iterator.{YieldsList-from_slice}
use Rattle.std.proofs.lemmas.Iterator.Search.{position_from_yields_List}
use Rattle.core_isa.specs.Lines.{is_line_feed}
use Rattle.core_isa.proofs.Scanning.{front_is, whole_is}
use Rattle.report_text.proofs.Fronts.{back_is, nothing_is}
use Rattle.report_text.proofs.reading.split_line.Goals as goal

pub returns-in-Some-clause-line : goal.returns-in-Some-clause-line
returns-in-Some-clause-line c =
    let found = position_from_yields_List is_line_feed _ _ c.position.result c.position.ensures.ran (YieldsList-from_slice c.args.text.now cc) (λ x b q k. search (rules, tests)) in
    c.split_at.ensures.front ∙ front_is is_line_feed c.args.text.now c.in-Some.end (sym found ∙ c.in-Some.is)

pub returns-in-Some-clause-rest : goal.returns-in-Some-clause-rest
returns-in-Some-clause-rest c =
    let found = position_from_yields_List is_line_feed _ _ c.position.result c.position.ensures.ran (YieldsList-from_slice c.args.text.now cc) (λ x b q k. search (rules, tests)) in
    back_is is_line_feed c.args.text.now c.in-Some.end c.split_at.result.1.now c.split_at-in-Some.result.1.now (sym found ∙ c.in-Some.is) c.split_at.ensures.back c.split_at-in-Some.ensures.back

pub returns-in-None-clause-line : goal.returns-in-None-clause-line
returns-in-None-clause-line c =
    let found = position_from_yields_List is_line_feed _ _ c.position.result c.position.ensures.ran (YieldsList-from_slice c.args.text.now cc) (λ x b q k. search (rules, tests)) in
    whole_is is_line_feed c.args.text.now (sym found ∙ c.in-None.is)

pub returns-in-None-clause-rest : goal.returns-in-None-clause-rest
returns-in-None-clause-rest c =
    let found = position_from_yields_List is_line_feed _ _ c.position.result c.position.ensures.ran (YieldsList-from_slice c.args.text.now cc) (λ x b q k. search (rules, tests)) in
    nothing_is is_line_feed c.args.text.now (sym found ∙ c.in-None.is)
