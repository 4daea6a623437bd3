use Rattle.std.proofs.Common.{◌∙◌, rules}
use Rattle.std.proofs.lemmas.Grind.{common_steps}
use Rattle.notify_net.proofs.Wholes.{merged-whole}
use Rattle.notify_net.proofs.latches.Latches.merged_at.Goals as goal

pub returns-clause-held : goal.returns-clause-held
returns-clause-held c = search (rules, common_steps)

pub returns-clause-merged : goal.returns-clause-merged
returns-clause-merged c = λ g posts k at. returns-clause-held c ∙ at.each c.args.t (rw at.grid_is at c.requires)

pub returns-clause-whole : goal.returns-clause-whole
returns-clause-whole c = λ g posts k at enough.
    returns-clause-merged c g posts k at ∙ merged-whole g posts k c.args.t (rw at.grid_is at c.requires) enough at.inside
