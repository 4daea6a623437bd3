use Rattle.std.proofs.Common.{rules}
use Rattle.std.proofs.lemmas.Grind.{common_steps}
use Rattle.notify_net.proofs.Phases.{IsAtPhase-post}
use Rattle.notify_net.proofs.latches.Latches.post.Goals as goal

pub returns-clause-posted : goal.returns-clause-posted
returns-clause-posted c = search (rules, common_steps)

pub returns-clause-phase : goal.returns-clause-phase
returns-clause-phase c = λ g posts at.
    let inside = rw at.grid_is at c.requires in
    rw (returns-clause-posted c) (IsAtPhase-post g posts c.args.t c.args.self.now inside at)
