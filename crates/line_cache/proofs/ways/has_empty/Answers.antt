use Rattle.std.proofs.Common.{sym, ◌∙◌}
use Rattle.line_cache.proofs.First.{has_empty-position}
use Rattle.line_cache.proofs.ways.has_empty.Goals as goal

pub returns : goal.returns
returns c = c.is_some.ensures ∙ has_empty-position c.args.ways.now _ (sym c.empty_way.ensures)
