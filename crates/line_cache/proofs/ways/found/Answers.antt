use Rattle.std.proofs.Common.{sym, ◌∙◌}
use Rattle.line_cache.proofs.First.{found-none, found-read}
use Rattle.line_cache.proofs.ways.found.Goals as goal

pub returns-in_err-way_of : goal.returns-in_err-way_of
returns-in_err-way_of c = c.from_residual.ensures ∙ sym (found-none c.args.line c.args.ways.now (sym c.way_of.ensures ∙ c.in_err-way_of.was))

pub returns : goal.returns
returns c = found-read c.args.line c.args.ways.now c.in_ok-way_of.field-0 c.index-ways-branch.result (sym c.way_of.ensures ∙ c.in_ok-way_of.was) c.index-ways-branch.is
