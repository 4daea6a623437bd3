use Rattle.std.proofs.Common.{rules, sym, subst}
use Rattle.turn_table.specs.Tries.{MakesAtMostOne}
use Rattle.report_text.specs.Journals.{tile_named}
use Rattle.fabric_core.specs.Fabric.{FabricState}
use Rattle.tile_pool.specs.Stands.{MayHaveTurn, TurnDoes}
use Rattle.tile_pool.proofs.Tries.{makes_one, may_have, through_turn}
use Rattle.tile_pool.proofs.worker.Worker.try_turn.Goals as goal

pub try_turn-requires-clause-turn : goal.try_turn-requires-clause-turn
try_turn-requires-clause-turn g c κs within value made entries fits =
    let b = g.U.Unit.behaviour in
    let r = g.M.Start.start in
    let station = c.args.self.now.station in
    let seat = c.args.self.now.seat in
    let may : MayHaveTurn r station.tile value = may_have b r c.args.turns.now.table station seat value made c.requires.waits entries fits in (
      (λ lent same. (
        c.requires.mesh,
        (c.requires.turn, (c.requires.waits.alone, (subst (λ (f : FabricState). MayHaveTurn r station.tile f) (sym same) may, (record { owned = c.type_bounds.send-U.owned; leaving = search rules }, record { owned = c.type_bounds.send-M.owned; leaving = search rules })))),
      )),
      (λ answer f' value' called.
          let does : TurnDoes b r station called.shown.now f'.0.now called.left.now answer = called.called.met.1 in
          subst (λ (f : FabricState). MakesAtMostOne tile_named seat.note f.entries value'.entries) called.shows
          (subst (λ (f : FabricState). MakesAtMostOne tile_named seat.note called.shown.now.entries f.entries) called.leaves
          (makes_one b r c.args.turns.now.table station seat called.shown.now f'.0.now called.left.now answer c.requires.waits does))),
    )

pub returns-in-Ok-clause-had : goal.returns-in-Ok-clause-had
returns-in-Ok-clause-had g c same =
    let b = g.U.Unit.behaviour in
    let r = g.M.Start.start in
    let station = c.args.self.now.station in
    let seat = c.args.self.now.seat in
    let took = c.in-Ok.ensures.ok in
    let met : TurnDoes b r station took.called.shown.now c.try_turn.new.f.0.now took.called.left.now c.in-Ok.field-0 = took.called.called.met.1 in
    let does : TurnDoes b r station took.before c.try_turn.new.f.0.now took.after c.in-Ok.field-0 =
    subst (λ (f : FabricState). TurnDoes b r station f c.try_turn.new.f.0.now took.after c.in-Ok.field-0) took.called.shows
    (subst (λ (f : FabricState). TurnDoes b r station took.called.shown.now c.try_turn.new.f.0.now f c.in-Ok.field-0) took.called.leaves met) in
    through_turn b r c.args.turns.now.table station seat took.before c.try_turn.new.f.0.now c.try_turn.new.seat took.after c.in-Ok.field-0 took.made took.seen
    c.requires.waits c.in-Ok.ensures.table took.entries_are took.noted does
