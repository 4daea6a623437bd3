use Rattle.std.proofs.Common.{refl, ◌∙◌, ap, arith, length}
use Rattle.mem_ctrl.proofs.Steps.{here_is, past_is, same_kept, room_for, answers, sends, unanswered, unsent, steps, stays}
use Rattle.mem_ctrl.proofs.controller.Controller.on_request.Goals as goal

pub answer-requires-clause-room : goal.answer-requires-clause-room
answer-requires-clause-room c =
    let here = here_is c.args.self.now c.self.inside.records.items c.args.q.line c.from-line.result c.index_mut.result.now
    c.self.view_is c.from-line.ensures (omega arith) c.index_mut.ensures.value ∙ c.in-Some.is in
    room_for c.args.q c.args.self.now c.in-Some.record c.args.out.now _ here c.requires.room

pub returns-in-Some-clause-records : goal.returns-in-Some-clause-records
returns-in-Some-clause-records c =
    let here = here_is c.args.self.now c.self.inside.records.items c.args.q.line c.from-line.result c.index_mut.result.now
    c.self.view_is c.from-line.ensures (omega arith) c.index_mut.ensures.value ∙ c.in-Some.is in
    answers c.args.q c.args.self.now c.self.inside.records.items c.from-line.result c.in-Some.record c.answer.new.self
    c.self.view_is c.from-line.ensures here c.answer.ensures.left

pub returns-in-Some-clause-sent : goal.returns-in-Some-clause-sent
returns-in-Some-clause-sent c =
    let here = here_is c.args.self.now c.self.inside.records.items c.args.q.line c.from-line.result c.index_mut.result.now
    c.self.view_is c.from-line.ensures (omega arith) c.index_mut.ensures.value ∙ c.in-Some.is in
    sends c.args.q c.args.self.now c.in-Some.record c.args.out.now c.answer.new.out here c.answer.ensures.sent

pub returns-in-Some-clause-owners : goal.returns-in-Some-clause-owners
returns-in-Some-clause-owners c =
    let here = here_is c.args.self.now c.self.inside.records.items c.args.q.line c.from-line.result c.index_mut.result.now
    c.self.view_is c.from-line.ensures (omega arith) c.index_mut.ensures.value ∙ c.in-Some.is in
    steps c.args.q c.args.self.now _ c.in-Some.record (omega (arith, ap length c.self.view_is)) here
    (answers c.args.q c.args.self.now c.self.inside.records.items c.from-line.result c.in-Some.record c.answer.new.self
    c.self.view_is c.from-line.ensures here c.answer.ensures.left)

pub returns-in_default-clause-records : goal.returns-in_default-clause-records
returns-in_default-clause-records c =
    let here = here_is c.args.self.now c.self.inside.records.items c.args.q.line c.from-line.result c.index_mut.result.now
    c.self.view_is c.from-line.ensures (omega arith) c.index_mut.ensures.value ∙ c.in_default.is in
    same_kept c.args.self.now c.self.inside.records.items c.from-line.result c.index_mut.result.now
    c.self.view_is (omega arith) c.index_mut.ensures.value
    ∙ unanswered c.args.q c.args.self.now here

pub returns-in_default-clause-sent : goal.returns-in_default-clause-sent
returns-in_default-clause-sent c =
    let here = here_is c.args.self.now c.self.inside.records.items c.args.q.line c.from-line.result c.index_mut.result.now
    c.self.view_is c.from-line.ensures (omega arith) c.index_mut.ensures.value ∙ c.in_default.is in
    unsent c.args.q c.args.self.now c.args.out.now here

pub returns-in_default-clause-owners : goal.returns-in_default-clause-owners
returns-in_default-clause-owners c =
    let here = here_is c.args.self.now c.self.inside.records.items c.args.q.line c.from-line.result c.index_mut.result.now
    c.self.view_is c.from-line.ensures (omega arith) c.index_mut.ensures.value ∙ c.in_default.is in
    stays c.args.q c.args.self.now _ here
    (same_kept c.args.self.now c.self.inside.records.items c.from-line.result c.index_mut.result.now
    c.self.view_is (omega arith) c.index_mut.ensures.value)

pub returns-else-line-len-clause-records : goal.returns-else-line-len-clause-records
returns-else-line-len-clause-records c =
    unanswered c.args.q c.args.self.now (past_is c.args.self.now c.args.q.line (omega (arith, ap length c.self.view_is)))

pub returns-else-line-len-clause-sent : goal.returns-else-line-len-clause-sent
returns-else-line-len-clause-sent c =
    unsent c.args.q c.args.self.now c.args.out.now (past_is c.args.self.now c.args.q.line (omega (arith, ap length c.self.view_is)))

pub returns-else-line-len-clause-owners : goal.returns-else-line-len-clause-owners
returns-else-line-len-clause-owners c =
    stays c.args.q c.args.self.now c.args.self.now (past_is c.args.self.now c.args.q.line (omega (arith, ap length c.self.view_is))) refl
