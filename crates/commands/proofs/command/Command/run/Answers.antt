use Rattle.std.proofs.Common.{ℕ, Option, refl, subst, sym}
use Rattle.std.specs.Prelude.{Err}
use Rattle.outside_io.specs.Streams.{stream}
use Rattle.doc_text.specs.Doc.{doc_of}
use Rattle.commands.specs.declared.outcome.Outcome.{Outcome}
use Rattle.commands.specs.Outcome.{IsTaken, Ran}
use Rattle.commands.proofs.Runs.{ran, ran_without}
use Rattle.commands.proofs.command.Command.run.Goals as goal

pub returns-in-Ok-clause-ran : goal.returns-in-Ok-clause-ran
returns-in-Ok-clause-ran g c =
    ran c.args.self (doc_of c.in-Ok.document) (stream g.S.Source.left g.S.Source.faults c.args.source.now c.take_document.new.source)
    (stream g.K.Sink.held g.K.Sink.faults c.args.sink.now c.write.new.sink) c.write.result.left c.write.result.report c.write.result.result (rw c.load.ensures at c.in-Ok.ensures.taken) c.write.ensures.did

pub returns-in-Err-clause-ran : goal.returns-in-Err-clause-ran
returns-in-Err-clause-ran g c =
    let source = stream g.S.Source.left g.S.Source.faults c.args.source.now c.take_document.new.source in
    let sink = stream g.K.Sink.held g.K.Sink.faults c.args.sink.now c.args.sink.now in
    subst (λ (outcome : Outcome). Ran c.args.self source sink outcome.left outcome.report outcome.result) (sym c.plain.ensures)
    (ran_without c.args.self source sink 0 c.in-Err.stop (subst (λ (number : Option ℕ). IsTaken number source (Err c.in-Err.stop)) c.load.ensures c.in-Err.ensures.taken) refl)
