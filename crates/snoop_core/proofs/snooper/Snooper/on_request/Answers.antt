use Rattle.std.proofs.Common.{◌≤◌, ◌++◌, length, sym, ◌∙◌, ap, subst}
use Rattle.chip_model.specs.Snoop.{Outcome}
use Rattle.snoop_core.specs.ChipSides.{after_outcome}
use Rattle.snoop_core.proofs.OwnSteps.{snooped_other, met_done, snooped_get, snooped_put, put_done}
use Rattle.snoop_core.proofs.snooper.Snooper.on_request.Goals as goal

pub meet-requires-clause-room : goal.meet-requires-clause-room
meet-requires-clause-room c =
    subst (λ (o : Outcome). length (c.args.out.now ++ o.sends) ≤ 65) (snooped_other c.args.self.now c.args.tile c.args.place c.args.q c.if-q-tile.true) c.requires.room

pub returns-then-q-tile-clause-side : goal.returns-then-q-tile-clause-side
returns-then-q-tile-clause-side c =
    c.meet.ensures.side ∙ ap (λ (o : Outcome). after_outcome o c.args.self.now) (sym (snooped_other c.args.self.now c.args.tile c.args.place c.args.q c.if-q-tile.true))

pub returns-then-q-tile-clause-sent : goal.returns-then-q-tile-clause-sent
returns-then-q-tile-clause-sent c =
    c.meet.ensures.sent ∙ ap (λ (o : Outcome). c.args.out.now ++ o.sends) (sym (snooped_other c.args.self.now c.args.tile c.args.place c.args.q c.if-q-tile.true))

pub returns-then-q-tile-clause-done : goal.returns-then-q-tile-clause-done
returns-then-q-tile-clause-done c =
    sym (met_done c.args.q c.args.self.now) ∙ ap (λ (o : Outcome). o.done) (sym (snooped_other c.args.self.now c.args.tile c.args.place c.args.q c.if-q-tile.true))

pub end_back-requires-clause-room : goal.end_back-requires-clause-room
end_back-requires-clause-room c =
    subst (λ (o : Outcome). length (c.args.out.now ++ o.sends) ≤ 65) (snooped_put c.args.self.now c.args.tile c.args.place c.args.q c.if-q-tile.false c.in-PutM.is) c.requires.room

pub returns-in-GetS : goal.returns-in-GetS
returns-in-GetS c =
    let is = snooped_get c.args.self.now c.args.tile c.args.place c.args.q c.if-q-tile.false c.in-GetS.is in
    record {
      side = c.order_demand.ensures.side ∙ ap (λ (o : Outcome). after_outcome o c.args.self.now) (sym is);
      sent = c.order_demand.ensures.sent ∙ ap (λ (o : Outcome). c.args.out.now ++ o.sends) (sym is);
      done = c.order_demand.ensures.done ∙ ap (λ (o : Outcome). o.done) (sym is);
    }

pub returns-in-PutM-clause-side : goal.returns-in-PutM-clause-side
returns-in-PutM-clause-side c =
    c.end_back.ensures.side ∙ ap (λ (o : Outcome). after_outcome o c.args.self.now) (sym (snooped_put c.args.self.now c.args.tile c.args.place c.args.q c.if-q-tile.false c.in-PutM.is))

pub returns-in-PutM-clause-sent : goal.returns-in-PutM-clause-sent
returns-in-PutM-clause-sent c =
    c.end_back.ensures.sent ∙ ap (λ (o : Outcome). c.args.out.now ++ o.sends) (sym (snooped_put c.args.self.now c.args.tile c.args.place c.args.q c.if-q-tile.false c.in-PutM.is))

pub returns-in-PutM-clause-done : goal.returns-in-PutM-clause-done
returns-in-PutM-clause-done c =
    sym (put_done c.args.self.now) ∙ ap (λ (o : Outcome). o.done) (sym (snooped_put c.args.self.now c.args.tile c.args.place c.args.q c.if-q-tile.false c.in-PutM.is))
