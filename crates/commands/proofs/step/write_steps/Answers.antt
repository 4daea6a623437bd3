use Rattle.std.proofs.Common.{Option, subst, sym, refl}
use Rattle.outside_io.specs.Streams.{stream}
use Rattle.doc_text.specs.Doc.{doc_of}
use Rattle.report_text.specs.declared.report.Report.{Report}
use Rattle.commands.specs.declared.command.Command.TheVariants.{Step}
use Rattle.commands.specs.Outcome.{Did}
use Rattle.commands.proofs.Runs.{report_was_written}
use Rattle.commands.proofs.step.write_steps.Goals as goal

pub returns-in-Ok-clause-did : goal.returns-in-Ok-clause-did
returns-in-Ok-clause-did g c =
    let sink = stream g.K.Sink.held g.K.Sink.faults c.args.sink.now c.write_run.new.sink in
    let doc = doc_of c.args.document in
    subst (λ (report : Option Report). Did (Step c.args.pace c.args.budget) doc sink c.write_run.result.left report c.write_run.result.result) (sym c.write_run.ensures.report)
    (report_was_written (Step c.args.pace c.args.budget) doc sink c.write_run.result.left c.in-Ok.report c.write_run.result.result c.in-Ok.ensures.reported refl c.write_run.ensures.written c.write_run.ensures.fault)
