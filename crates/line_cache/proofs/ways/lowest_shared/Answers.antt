use Rattle.std.proofs.Common.{sym, ◌∙◌}
use Rattle.line_cache.proofs.First.{lowest_shared-first, lowest_shared-none}
use Rattle.line_cache.proofs.ways.lowest_shared.Goals as goal

pub returns-in_err-way : goal.returns-in_err-way
returns-in_err-way c = c.from_residual.ensures ∙ sym (lowest_shared-none c.args.ways.now (sym c.shared_way.ensures.first ∙ c.in_err-way.was))

pub returns : goal.returns
returns c = c.line_in.ensures ∙ lowest_shared-first c.args.ways.now c.in_ok-way.way (sym c.shared_way.ensures.first ∙ c.in_ok-way.was)
