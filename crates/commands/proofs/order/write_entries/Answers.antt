use Rattle.std.proofs.Common.{◌≡◌, List, ℕ, length, ◌∙◌, ap, subst, arith}
use Rattle.outside_io.proofs.Writes.{WritesAllBut-more, Writes-failed}
use Rattle.order_tracker.specs.Tracker.{left_of}
use Rattle.commands.specs.Entries.{entries_text, has_begun}
use Rattle.commands.proofs.Following.{heads, count_up}
use Rattle.commands.proofs.Lines.{begun_stays}
use Rattle.commands.proofs.order.write_entries.Goals as goal

pub returns-in_err-write_number-clause-written : goal.returns-in_err-write_number-clause-written
returns-in_err-write_number-clause-written g c =
    let next = heads c.loop-source.tracker c.in-Some.source c.in-Some.field-0-1 c.in-Some.ensures.next in
    let first = ap (λ (xs : List ℕ). entries_text c.loop-source.begun xs) next.left in
    Writes-failed _ c.from_residual.result c.from_residual.ensures.0 c.loop-source.invariant.written first c.in_err-write_number.ensures

pub loop-source-preserved : goal.loop-source-preserved
loop-source-preserved g c =
    let so_far = c.loop-source.invariant in
    let next = heads c.loop-source.tracker c.in-Some.source c.in-Some.field-0-1 c.in-Some.ensures.next in
    let first = ap (λ (xs : List ℕ). entries_text c.loop-source.begun xs) next.left in
    let begun = subst (λ xs. has_begun c.loop-source.begun xs ≡ has_begun c.args.begun (left_of c.args.tracker.now)) next.left so_far.begun in
    let used_is = rw (← c.in-Some.ensures.next) at c.advance.ensures.used in
    record {
      written = rw c.advance.ensures.left (WritesAllBut-more so_far.written first c.in_ok-write_number.ensures);
      begun = begun_stays (left_of c.advance.new.self) ∙ begun;
      tiles = c.advance.ensures.room.0 ∙ so_far.tiles;
      room = c.advance.ensures.room.1 ∙ so_far.room;
      number = c.advance.ensures.pushed ∙ so_far.number;
      used = λ t.
          let up = rw next.count at (count_up c.loop-source.tracker.used c.in-Some.source t) in
          rw used_is (omega (arith, so_far.used t, up, ap length next.left, ap length c.advance.ensures.left));
    }
