use Rattle.std.proofs.Common.{◌≤◌, ◌++◌, length, sym, ◌∙◌, ap, subst}
use Rattle.std.proofs.lemmas.List.{append-nil}
use Rattle.chip_model.specs.Chip.{chip_of_mesh}
use Rattle.chip_model.specs.Snoop.{Outcome}
use Rattle.miss_table.specs.declared.look.DemandLook.{DemandLook}
use Rattle.snoop_core.specs.ChipSides.{ChipSide, after_outcome}
use Rattle.snoop_core.proofs.Seen.{sees_demand, no_demand_seen, demand_was_sent}
use Rattle.snoop_core.proofs.OwnSteps.{data_completes, data_waits, data_nowhere, lacks_words_still, early_left}
use Rattle.snoop_core.proofs.snooper.Snooper.on_data.Goals as goal

pub complete-requires-clause-sent : goal.complete-requires-clause-sent
complete-requires-clause-sent c =
    let seen = sees_demand c.args.self.now.side.misses.demand c.in-Some.demand (sym c.demand.ensures ∙ c.in-Some.is) in
    demand_was_sent c.args.self.now.side.misses.demand seen.demand seen.stands (c.requires.sent seen.demand seen.stands)

pub complete-requires-clause-place : goal.complete-requires-clause-place
complete-requires-clause-place c =
    let seen = sees_demand c.args.self.now.side.misses.demand c.in-Some.demand (sym c.demand.ensures ∙ c.in-Some.is) in
    c.requires.place seen.demand c.in-Some-ordered.place seen.stands (ap (λ (l : DemandLook). l.ordered) seen.looks ∙ c.in-Some-ordered.is)

pub complete-requires-clause-room : goal.complete-requires-clause-room
complete-requires-clause-room c =
    let seen = sees_demand c.args.self.now.side.misses.demand c.in-Some.demand (sym c.demand.ensures ∙ c.in-Some.is) in
    subst (λ (o : Outcome). length (c.args.out.now ++ o.sends) ≤ 65) (data_completes c.args.self.now seen.demand c.in-Some-ordered.place c.args.words seen.stands (ap (λ (l : DemandLook). l.ordered) seen.looks ∙ c.in-Some-ordered.is)) c.requires.room

pub put_early-requires : goal.put_early-requires
put_early-requires c =
    let seen = sees_demand c.args.self.now.side.misses.demand c.in-Some.demand (sym c.demand.ensures ∙ c.in-Some.is) in
    lacks_words_still c.self.inside.misses.demand seen.demand (ap (λ (site : ChipSide). site.side.misses.demand) c.self.view_is ∙ seen.stands)
    (c.requires.sent seen.demand seen.stands) (ap (λ (l : DemandLook). l.ordered) seen.looks ∙ c.in-None-ordered.is) (c.requires.wordless seen.demand seen.stands)

pub returns-in-Some-ordered-clause-side : goal.returns-in-Some-ordered-clause-side
returns-in-Some-ordered-clause-side c =
    let seen = sees_demand c.args.self.now.side.misses.demand c.in-Some.demand (sym c.demand.ensures ∙ c.in-Some.is) in
    c.complete.ensures.side ∙ ap (λ (o : Outcome). after_outcome o c.args.self.now) (sym (data_completes c.args.self.now seen.demand c.in-Some-ordered.place c.args.words seen.stands (ap (λ (l : DemandLook). l.ordered) seen.looks ∙ c.in-Some-ordered.is)))

pub returns-in-Some-ordered-clause-sent : goal.returns-in-Some-ordered-clause-sent
returns-in-Some-ordered-clause-sent c =
    let seen = sees_demand c.args.self.now.side.misses.demand c.in-Some.demand (sym c.demand.ensures ∙ c.in-Some.is) in
    c.complete.ensures.sent ∙ ap (λ (o : Outcome). c.args.out.now ++ o.sends) (sym (data_completes c.args.self.now seen.demand c.in-Some-ordered.place c.args.words seen.stands (ap (λ (l : DemandLook). l.ordered) seen.looks ∙ c.in-Some-ordered.is)))

pub returns-in-Some-ordered-clause-done : goal.returns-in-Some-ordered-clause-done
returns-in-Some-ordered-clause-done c =
    let seen = sees_demand c.args.self.now.side.misses.demand c.in-Some.demand (sym c.demand.ensures ∙ c.in-Some.is) in
    c.complete.ensures.done ∙ ap (λ (o : Outcome). o.done) (sym (data_completes c.args.self.now seen.demand c.in-Some-ordered.place c.args.words seen.stands (ap (λ (l : DemandLook). l.ordered) seen.looks ∙ c.in-Some-ordered.is)))

pub returns-in-None-ordered-clause-side : goal.returns-in-None-ordered-clause-side
returns-in-None-ordered-clause-side c =
    let seen = sees_demand c.args.self.now.side.misses.demand c.in-Some.demand (sym c.demand.ensures ∙ c.in-Some.is) in
    early_left c.args.self.now (chip_of_mesh c.self.inside.mesh) c.self.inside.cache c.self.inside.misses c.put_early.new.self seen.demand c.args.words c.self.view_is
    seen.stands (ap (λ (l : DemandLook). l.ordered) seen.looks ∙ c.in-None-ordered.is) c.put_early.ensures

pub returns-in-None-ordered-clause-sent : goal.returns-in-None-ordered-clause-sent
returns-in-None-ordered-clause-sent c =
    let seen = sees_demand c.args.self.now.side.misses.demand c.in-Some.demand (sym c.demand.ensures ∙ c.in-Some.is) in
    sym (append-nil c.args.out.now) ∙ ap (λ (o : Outcome). c.args.out.now ++ o.sends) (sym (data_waits c.args.self.now seen.demand c.args.words seen.stands (ap (λ (l : DemandLook). l.ordered) seen.looks ∙ c.in-None-ordered.is)))

pub returns-in-None-ordered-clause-done : goal.returns-in-None-ordered-clause-done
returns-in-None-ordered-clause-done c =
    let seen = sees_demand c.args.self.now.side.misses.demand c.in-Some.demand (sym c.demand.ensures ∙ c.in-Some.is) in
    ap (λ (o : Outcome). o.done) (sym (data_waits c.args.self.now seen.demand c.args.words seen.stands (ap (λ (l : DemandLook). l.ordered) seen.looks ∙ c.in-None-ordered.is)))

pub returns-in-None : goal.returns-in-None
returns-in-None c =
    let is = data_nowhere c.args.self.now c.args.words (no_demand_seen c.args.self.now.side.misses.demand (sym c.demand.ensures ∙ c.in-None.is)) in
    record {
      side = ap (λ (o : Outcome). after_outcome o c.args.self.now) (sym is);
      sent = sym (append-nil c.args.out.now) ∙ ap (λ (o : Outcome). c.args.out.now ++ o.sends) (sym is);
      done = ap (λ (o : Outcome). o.done) (sym is);
    }
