use Rattle.std.proofs.Common.{sym, subst, List}
use Rattle.std.specs.Prelude.{IsTrue}
use Rattle.chip_model.specs.declared.waiting.Waiting.{Waiting}
use Rattle.chip_model.specs.Misses.{ends_in_getm}
use Rattle.chip_model.specs.Records.{LineRecord}
use Rattle.mem_ctrl.specs.Waits.{WritesLast}
use Rattle.mem_ctrl.proofs.Waiters.{WritesLast-more}
use Rattle.mem_ctrl.proofs.record.Record.wait.Goals as goal

pub invariant_of-self : goal.invariant_of-self
invariant_of-self c =
    let readers = subst (λ (r : LineRecord). ¬ IsTrue (ends_in_getm r.waiters)) (sym c.self.view_is) c.requires.open in
    subst (λ (list : List Waiting). WritesLast list) (sym c.add.ensures)
    (WritesLast-more c.self.inside.waiters (record { tile = c.args.q.source; kind = c.args.q.kind }) readers c.self.invariant)
