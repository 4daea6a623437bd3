use Rattle.std.proofs.Common.{◌≡◌, sym, ◌∙◌, ap, false, ◌++◌, List}
use Rattle.std.proofs.lemmas.List.{append-nil}
use Rattle.mesh_gen.specs.declared.msg.Msg.{Msg}
use Rattle.miss_table.specs.declared.look.DemandLook.{DemandLook}
use Rattle.chip_model.specs.Misses.{is_getm}
use Rattle.chip_model.specs.Snoop.{Outcome}
use Rattle.snoop_core.specs.ChipSides.{after_outcome}
use Rattle.snoop_core.proofs.Seen.{sees_demand, demand_room, no_demand_seen, reads_by}
use Rattle.snoop_core.proofs.Completing.{completion_store, completion_load, completion_none, store_sends, done_of, room_stored}
use Rattle.snoop_core.proofs.snooper.Snooper.complete.Goals as goal

pub complete_store-requires-clause-fits : goal.complete_store-requires-clause-fits
complete_store-requires-clause-fits c =
    let seen = sees_demand c.args.self.now.side.misses.demand c.in-Some.demand (sym c.demand.ensures ∙ c.in-Some.is) in
    demand_room c.args.self.now.chip c.args.self.now.side c.in-Some.demand c.requires.side seen

pub complete_store-requires-clause-room : goal.complete_store-requires-clause-room
complete_store-requires-clause-room c =
    let seen = sees_demand c.args.self.now.side.misses.demand c.in-Some.demand (sym c.demand.ensures ∙ c.in-Some.is) in
    room_stored c.args.place c.args.words c.args.self.now seen.demand c.args.out.now _ seen.stands (ap (λ (l : DemandLook). is_getm l.kind) seen.looks ∙ ap is_getm c.in-GetM.is) c.requires.room

pub complete_load-requires-clause-fits : goal.complete_load-requires-clause-fits
complete_load-requires-clause-fits c =
    let seen = sees_demand c.args.self.now.side.misses.demand c.in-Some.demand (sym c.demand.ensures ∙ c.in-Some.is) in
    demand_room c.args.self.now.chip c.args.self.now.side c.in-Some.demand c.requires.side seen

pub returns-in-GetM-clause-side : goal.returns-in-GetM-clause-side
returns-in-GetM-clause-side c =
    let seen = sees_demand c.args.self.now.side.misses.demand c.in-Some.demand (sym c.demand.ensures ∙ c.in-Some.is) in
    c.complete_store.ensures.side seen.demand seen.stands (ap (λ (l : DemandLook). l.line) seen.looks) (ap (λ (l : DemandLook). l.pending) seen.looks)
    ∙ ap (λ (o : Outcome). after_outcome o c.args.self.now) (sym (completion_store c.args.place c.args.words c.args.self.now seen.demand seen.stands (ap (λ (l : DemandLook). is_getm l.kind) seen.looks ∙ ap is_getm c.in-GetM.is)))

pub returns-in-GetM-clause-sent : goal.returns-in-GetM-clause-sent
returns-in-GetM-clause-sent c =
    let seen = sees_demand c.args.self.now.side.misses.demand c.in-Some.demand (sym c.demand.ensures ∙ c.in-Some.is) in
    c.complete_store.ensures.sent seen.demand seen.stands
    ∙ ap (λ (sends : List Msg). c.args.out.now ++ sends)
    (store_sends c.args.self.now.chip c.args.self.now.side seen.demand c.in-Some.demand.line c.args.place c.in-Some.demand.pending c.args.words (ap (λ (l : DemandLook). l.line) seen.looks) (ap (λ (l : DemandLook). l.pending) seen.looks)
    ∙ ap (λ (o : Outcome). o.sends) (sym (completion_store c.args.place c.args.words c.args.self.now seen.demand seen.stands (ap (λ (l : DemandLook). is_getm l.kind) seen.looks ∙ ap is_getm c.in-GetM.is))))

pub returns-in-GetM-clause-done : goal.returns-in-GetM-clause-done
returns-in-GetM-clause-done c =
    let seen = sees_demand c.args.self.now.side.misses.demand c.in-Some.demand (sym c.demand.ensures ∙ c.in-Some.is) in
    done_of seen.demand c.args.place c.in-Some.demand.pending c.args.words c.complete_store.result (ap (λ (l : DemandLook). l.pending) seen.looks) c.complete_store.ensures.done
    ∙ ap (λ (o : Outcome). o.done) (sym (completion_store c.args.place c.args.words c.args.self.now seen.demand seen.stands (ap (λ (l : DemandLook). is_getm l.kind) seen.looks ∙ ap is_getm c.in-GetM.is)))

pub returns-in-GetS : goal.returns-in-GetS
returns-in-GetS c =
    let seen = sees_demand c.args.self.now.side.misses.demand c.in-Some.demand (sym c.demand.ensures ∙ c.in-Some.is) in
    let reads : is_getm seen.demand.kind ≡ false = ap (λ (l : DemandLook). is_getm l.kind) seen.looks ∙ reads_by c.in-Some.demand.kind c.in-GetS.is in
    let is = completion_load c.args.place c.args.words c.args.self.now seen.demand seen.stands reads in
    record {
      side = c.complete_load.ensures.side seen.demand seen.stands (ap (λ (l : DemandLook). l.line) seen.looks) (ap (λ (l : DemandLook). l.once) seen.looks) ∙ ap (λ (o : Outcome). after_outcome o c.args.self.now) (sym is);
      sent = sym (append-nil c.args.out.now) ∙ ap (λ (o : Outcome). c.args.out.now ++ o.sends) (sym is);
      done = done_of seen.demand c.args.place c.in-Some.demand.pending c.args.words c.complete_load.result (ap (λ (l : DemandLook). l.pending) seen.looks) c.complete_load.ensures.done ∙ ap (λ (o : Outcome). o.done) (sym is);
    }

pub returns-in-None : goal.returns-in-None
returns-in-None c =
    let is = completion_none c.args.place c.args.words c.args.self.now (no_demand_seen c.args.self.now.side.misses.demand (sym c.demand.ensures ∙ c.in-None.is)) in
    record {
      side = ap (λ (o : Outcome). after_outcome o c.args.self.now) (sym is);
      sent = sym (append-nil c.args.out.now) ∙ ap (λ (o : Outcome). c.args.out.now ++ o.sends) (sym is);
      done = ap (λ (o : Outcome). o.done) (sym is);
    }
