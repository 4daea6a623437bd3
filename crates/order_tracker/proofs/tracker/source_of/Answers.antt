use Rattle.order_tracker.proofs.Priorities.{has_tile-below}
use Rattle.order_tracker.proofs.tracker.source_of.Goals as goal

pub returns-clause-tile : goal.returns-clause-tile
returns-clause-tile c = has_tile-below c.args.tiles c.args.window c.first_from.result c.requires.window.inside c.first_from.ensures.inside
