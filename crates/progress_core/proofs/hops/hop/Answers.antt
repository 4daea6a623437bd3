use Rattle.std.proofs.Common.{sym, ◌∙◌}
use Rattle.report_text.specs.declared.event.Event.TheVariants.{Hop}
use Rattle.progress_core.proofs.JoinedSweeps.{still_one, still_refused}
use Rattle.progress_core.proofs.hops.hop.Goals as goal
use Rattle.progress_core.proofs.hops.hop.Goals.{then-not-has-via-then-not-has, then-not-has-via-else-not-has+then-not-can_hop}

pub returns-then-not-has-clause-swept : goal.returns-then-not-has-clause-swept
returns-then-not-has-clause-swept g c =
    let event = Hop c.args.r c.args.port c.args.slot c.args.side in
    elim c.then-not-has.branch [
      | then-not-has-via-then-not-has w ↦ still_one g.U.Unit.behaviour c.args.budget event c.args.machine.now c.requires.within
          (c.requires.owed c.args.side (sym c.has.ensures ∙ w.if-not-has.true))
      | then-not-has-via-else-not-has+then-not-can_hop w ↦ still_refused g.U.Unit.behaviour c.args.budget event c.args.machine.now c.requires.within
          (sym w.can_hop.ensures ∙ w.if-not-can_hop.true)
    ]
