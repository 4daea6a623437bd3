use Rattle.turn_table.proofs.TurnTaking.{may_end, had_turn}
use Rattle.turn_table.proofs.turns.Turns.hold.Goals as goal

pub release-requires-clause-turn : goal.release-requires-clause-turn
release-requires-clause-turn g c κs within =
    let work = c.work-answer in may_end g.V.Turned.entries g.V.Turned.names g.F.FnMut c.args.place.now.me c.args.f.now c.requires.turn work.result.0 work.result.1 work.new.f work.new.place.me work.ensures.worked

pub returns-clause-turn : goal.returns-clause-turn
returns-clause-turn g c =
    let work = c.work-answer in had_turn g.V.Turned.entries g.V.Turned.names g.F.FnMut c.args.place.now.me c.args.f.now c.requires.turn work.result.0 work.result.1 work.new.f work.new.place.me work.ensures.worked
    c.release.new.place.me c.release.ensures.ended
