use Rattle.std.proofs.Common.{sym, ◌∙◌, ap}
use Rattle.std.specs.Prelude.{is_ok}
use Rattle.broadcast.proofs.Sweeping.{still_side, hop_sweeps}
use Rattle.broadcast.proofs.passes.hop.Goals as goal

pub returns-then-not-has-clause-swept : goal.returns-then-not-has-clause-swept
returns-then-not-has-clause-swept c = still_side c.args.net.now c.args.router c.args.port c.args.slot c.args.side c.args.owed.now c.requires (sym c.has.ensures ∙ c.if-not-has.true)

pub returns-in-Ok-clause-swept : goal.returns-in-Ok-clause-swept
returns-in-Ok-clause-swept c =
    hop_sweeps c.args.net.now c.hop.new.self c.args.router c.args.port c.args.slot c.args.side c.hop.result _ (sym (ap is_ok c.in-Ok.is))
    c.hop.ensures.sizes c.hop.ensures.ok c.hop.ensures.err c.hop.ensures.kept c.hop.ensures.moves

pub returns-in-Err-clause-swept : goal.returns-in-Err-clause-swept
returns-in-Err-clause-swept c =
    hop_sweeps c.args.net.now c.hop.new.self c.args.router c.args.port c.args.slot c.args.side c.hop.result _ (sym (ap is_ok c.in-Err.is))
    c.hop.ensures.sizes c.hop.ensures.ok c.hop.ensures.err c.hop.ensures.kept c.hop.ensures.moves
