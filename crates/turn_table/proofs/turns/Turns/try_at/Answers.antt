use Rattle.std.proofs.Common.{rules, ap, [], subst}
use Rattle.turn_table.specs.Steps.{GetsTurn}
use Rattle.turn_table.specs.Places.{note_at}
use Rattle.turn_table.specs.Turn.{note_in}
use Rattle.turn_table.proofs.TurnTaking.{has_turn, took_turn, is_place}
use Rattle.turn_table.proofs.turns.Turns.try_at.Goals as goal

pub hold-requires-clause-turn : goal.hold-requires-clause-turn
hold-requires-clause-turn g c κs within =
    let load = c.load-seen in let acquire = c.acquire-found in
    has_turn g.V.Turned.entries g.V.Turned.names g.F.FnMut c.args.f.now (note_at c.args.place.now) (note_at load.new.place) load.result (ap note_in load.ensures.noted) acquire.result acquire.new.place.me
    c.requires.turn (acquire.ensures.exchanged.0 (search rules))

pub returns-clause-place : goal.returns-clause-place
returns-clause-place g c =
    let place = is_place g.V.Turned.entries g.V.Turned.names g.F.FnMut c.acquire-found.new.place.me c.args.f.now c.hold.result c.hold.new.f c.hold.new.place.me c.hold.ensures.turn in record { one_note = place.0; no_turn = place.1 }

pub returns-clause-ok : goal.returns-clause-ok
returns-clause-ok g c =
    let load = c.load-seen in let acquire = c.acquire-found in
    took_turn g.V.Turned.entries g.V.Turned.names g.F.FnMut c.args.f.now (note_at c.args.place.now) (note_at load.new.place) load.result (ap note_in load.ensures.noted) (search rules) c.requires.place.no_turn
    acquire.new.place.me c.hold.result c.hold.new.f c.hold.new.place.me
    (subst (λ k. GetsTurn g.V.Turned.entries g.V.Turned.names (note_at load.new.place) [] k acquire.new.place.me) (search rules) (acquire.ensures.exchanged.0 (search rules))) c.hold.ensures.turn
