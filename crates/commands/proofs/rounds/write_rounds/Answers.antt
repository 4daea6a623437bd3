use Rattle.std.proofs.Common.{Option, ap, subst, sym, refl}
use Rattle.outside_io.specs.Streams.{stream}
use Rattle.doc_text.specs.Doc.{doc_of}
use Rattle.report_text.specs.declared.report.Report.{Report}
use Rattle.commands.specs.declared.command.Command.TheVariants.{Run}
use Rattle.commands.specs.Outcome.{Did}
use Rattle.commands.proofs.Runs.{report_was_written}
use Rattle.commands.proofs.rounds.write_rounds.Goals as goal

pub returns-in-Ok : goal.returns-in-Ok
returns-in-Ok g c =
    let sink = stream g.K.Sink.held g.K.Sink.faults c.args.sink.now c.write_run.new.sink in
    let doc = doc_of c.args.document in
    let done = report_was_written (Run c.args.budget) doc sink c.in-Ok.left c.in-Ok.report c.write_run.result.result c.in-Ok.ensures.reported refl c.write_run.ensures.written c.write_run.ensures.fault in
    rw (c.write_run.ensures.left, c.write_run.ensures.report) done
