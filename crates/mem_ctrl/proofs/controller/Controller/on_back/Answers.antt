use Rattle.std.proofs.Common.{◌∙◌, ap, arith, length}
use Rattle.mem_ctrl.proofs.Steps.{here_is, past_is, same_kept, room_back, returns_to, sends_back, unreturned, unsent_back}
use Rattle.mem_ctrl.proofs.controller.Controller.on_back.Goals as goal

pub take_back-requires : goal.take_back-requires
take_back-requires c =
    let here = here_is c.args.self.now c.self.inside.records.items c.args.line c.from-place.result c.index_mut.result.now
    c.self.view_is c.from-place.ensures (omega arith) c.index_mut.ensures.value ∙ c.in-Some.is in
    room_back c.args.line c.args.words c.args.self.now c.in-Some.record c.args.out.now _ here c.requires.room

pub returns-in-Some-clause-records : goal.returns-in-Some-clause-records
returns-in-Some-clause-records c =
    let here = here_is c.args.self.now c.self.inside.records.items c.args.line c.from-place.result c.index_mut.result.now
    c.self.view_is c.from-place.ensures (omega arith) c.index_mut.ensures.value ∙ c.in-Some.is in
    returns_to c.args.line c.args.words c.args.self.now c.self.inside.records.items c.from-place.result c.in-Some.record c.take_back.new.self
    c.self.view_is c.from-place.ensures here c.take_back.ensures.left

pub returns-in-Some-clause-sent : goal.returns-in-Some-clause-sent
returns-in-Some-clause-sent c =
    let here = here_is c.args.self.now c.self.inside.records.items c.args.line c.from-place.result c.index_mut.result.now
    c.self.view_is c.from-place.ensures (omega arith) c.index_mut.ensures.value ∙ c.in-Some.is in
    sends_back c.args.line c.args.words c.args.self.now c.in-Some.record c.args.out.now c.take_back.new.out here c.take_back.ensures.sent

pub returns-in_default-clause-records : goal.returns-in_default-clause-records
returns-in_default-clause-records c =
    let here = here_is c.args.self.now c.self.inside.records.items c.args.line c.from-place.result c.index_mut.result.now
    c.self.view_is c.from-place.ensures (omega arith) c.index_mut.ensures.value ∙ c.in_default.is in
    same_kept c.args.self.now c.self.inside.records.items c.from-place.result c.index_mut.result.now
    c.self.view_is (omega arith) c.index_mut.ensures.value
    ∙ unreturned c.args.line c.args.words c.args.self.now here

pub returns-in_default-clause-sent : goal.returns-in_default-clause-sent
returns-in_default-clause-sent c =
    let here = here_is c.args.self.now c.self.inside.records.items c.args.line c.from-place.result c.index_mut.result.now
    c.self.view_is c.from-place.ensures (omega arith) c.index_mut.ensures.value ∙ c.in_default.is in
    unsent_back c.args.line c.args.words c.args.self.now c.args.out.now here

pub returns-else-place-len-clause-records : goal.returns-else-place-len-clause-records
returns-else-place-len-clause-records c =
    unreturned c.args.line c.args.words c.args.self.now (past_is c.args.self.now c.args.line (omega (arith, ap length c.self.view_is)))

pub returns-else-place-len-clause-sent : goal.returns-else-place-len-clause-sent
returns-else-place-len-clause-sent c =
    unsent_back c.args.line c.args.words c.args.self.now c.args.out.now (past_is c.args.self.now c.args.line (omega (arith, ap length c.self.view_is)))
