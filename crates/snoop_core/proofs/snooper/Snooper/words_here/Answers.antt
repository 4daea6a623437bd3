use Rattle.std.proofs.Common.{sym, ◌∙◌, ap}
use Rattle.chip_model.specs.Misses.{is_getm}
use Rattle.miss_table.specs.declared.look.DemandLook.{DemandLook}
use Rattle.snoop_core.proofs.Seen.{sees_demand, no_demand_seen, reads_by}
use Rattle.snoop_core.proofs.OwnSteps.{words_early, words_owned, words_none, words_nowhere}
use Rattle.snoop_core.proofs.snooper.Snooper.words_here.Goals as goal

pub returns-in-Some-early : goal.returns-in-Some-early
returns-in-Some-early c =
    let seen = sees_demand c.args.self.now.side.misses.demand c.in-Some.demand (sym c.demand.ensures ∙ c.in-Some.is) in
    words_early c.args.self.now seen.demand c.in-Some-early.words seen.stands (ap (λ (l : DemandLook). l.early) seen.looks ∙ c.in-Some-early.is)

pub returns-in-GetM : goal.returns-in-GetM
returns-in-GetM c =
    let seen = sees_demand c.args.self.now.side.misses.demand c.in-Some.demand (sym c.demand.ensures ∙ c.in-Some.is) in
    words_owned c.args.self.now seen.demand c.in-Some.demand.line c.owned_words.result seen.stands (ap (λ (l : DemandLook). l.early) seen.looks ∙ c.in-None-early.is) (ap (λ (l : DemandLook). is_getm l.kind) seen.looks ∙ ap is_getm c.in-GetM.is) (ap (λ (l : DemandLook). l.line) seen.looks) c.owned_words.ensures

pub returns-in-GetS : goal.returns-in-GetS
returns-in-GetS c =
    let seen = sees_demand c.args.self.now.side.misses.demand c.in-Some.demand (sym c.demand.ensures ∙ c.in-Some.is) in
    words_none c.args.self.now seen.demand seen.stands (ap (λ (l : DemandLook). l.early) seen.looks ∙ c.in-None-early.is) (ap (λ (l : DemandLook). is_getm l.kind) seen.looks ∙ reads_by c.in-Some.demand.kind c.in-GetS.is)

pub returns-in-None : goal.returns-in-None
returns-in-None c = words_nowhere c.args.self.now (no_demand_seen c.args.self.now.side.misses.demand (sym c.demand.ensures ∙ c.in-None.is))
