-- Each turn reads the first of the lines that are left.
use Rattle.std.proofs.Common.{[], ◌∷◌, ◌+◌, ap, subst, sym, length, arith}
use Rattle.std.proofs.lemmas.List.{append-nil}
use Rattle.report_text.specs.Lines.{lines_of}
use Rattle.report_text.proofs.ReadLines.{HasRead, HasRead-line, HasRead-bad, Tells-event, Tells-passed, filled, first_line, after_first-shorter}
use Rattle.report_text.proofs.reading.read_events.Goals as goal

pub returns-in-Bad-clause-fault : goal.returns-in-Bad-clause-fault
returns-in-Bad-clause-fault c =
    let text = c.loop-rest.rest.now in
    let line = c.split_line.result.0.now in
    let more = c.split_line.result.1.now in
    let first = first_line text line more (filled text c.loop-rest-test.ensures) c.split_line.ensures.line c.split_line.ensures.rest in
    HasRead-bad (lines_of c.args.text.now) (lines_of text) c.loop-rest.number c.loop-rest.events.items line (lines_of more) first c.loop-rest.invariant.read c.in-Bad.ensures

pub loop-rest-preserved-in_ok-push-in-Event : goal.loop-rest-preserved-in_ok-push-in-Event
loop-rest-preserved-in_ok-push-in-Event c =
    let text = c.loop-rest.rest.now in
    let line = c.split_line.result.0.now in
    let more = c.split_line.result.1.now in
    let some = filled text c.loop-rest-test.ensures in
    let first = first_line text line more some c.split_line.ensures.line c.split_line.ensures.rest in
    let told = c.in-Event.ensures in
    let read = HasRead-line (lines_of c.args.text.now) (lines_of text) c.loop-rest.number c.loop-rest.events.items line (lines_of more) (c.in-Event.event ∷ []) first c.loop-rest.invariant.read (Tells-event line c.in-Event.event told.0 told.1) in
    record {
      read = subst (λ events. HasRead (lines_of c.args.text.now) (c.loop-rest.number + 1) events (lines_of more)) (sym c.in_ok-push-in-Event.ensures.items) read;
      bound = omega (arith, c.loop-rest.invariant.bound, after_first-shorter text some, ap length c.split_line.ensures.rest);
    }

pub loop-rest-preserved : goal.loop-rest-preserved
loop-rest-preserved c =
    let text = c.loop-rest.rest.now in
    let line = c.split_line.result.0.now in
    let more = c.split_line.result.1.now in
    let some = filled text c.loop-rest-test.ensures in
    let first = first_line text line more some c.split_line.ensures.line c.split_line.ensures.rest in
    let read = HasRead-line (lines_of c.args.text.now) (lines_of text) c.loop-rest.number c.loop-rest.events.items line (lines_of more) [] first c.loop-rest.invariant.read (Tells-passed line c.in-Nothing.ensures) in
    record {
      read = subst (λ events. HasRead (lines_of c.args.text.now) (c.loop-rest.number + 1) events (lines_of more)) (append-nil c.loop-rest.events.items) read;
      bound = omega (arith, c.loop-rest.invariant.bound, after_first-shorter text some, ap length c.split_line.ensures.rest);
    }
