use Rattle.std.proofs.Common.{Option, subst, sym, refl}
use Rattle.outside_io.specs.Streams.{stream}
use Rattle.doc_text.specs.Doc.{doc_of}
use Rattle.report_text.specs.declared.report.Report.{Report}
use Rattle.commands.specs.declared.command.Command.TheVariants.{Gen}
use Rattle.commands.specs.Outcome.{Did}
use Rattle.commands.proofs.Runs.{report_was_written}
use Rattle.commands.proofs.load.write_load_run.Goals as goal

pub returns-in-Ok-clause-did : goal.returns-in-Ok-clause-did
returns-in-Ok-clause-did g c =
    let sink = stream g.K.Sink.held g.K.Sink.faults c.args.sink.now c.write_summarized.new.sink in
    let doc = doc_of c.args.document in
    subst (λ (report : Option Report). Did (Gen c.args.load) doc sink c.write_summarized.result.left report c.write_summarized.result.result) (sym c.write_summarized.ensures.report)
    (report_was_written (Gen c.args.load) doc sink c.write_summarized.result.left c.in-Ok.report c.write_summarized.result.result c.in-Ok.ensures.reported refl c.write_summarized.ensures.written c.write_summarized.ensures.fault)
