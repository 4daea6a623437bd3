use Rattle.std.proofs.Common.{rules}
use Rattle.doc_text.specs.Doc.{doc_of}
use Rattle.commands.proofs.PacedOffsets.{swept_to}
use Rattle.commands.proofs.step.swept_machine.Goals as goal

pub returns : goal.returns
returns c =
    swept_to c.args.pace c.args.budget (doc_of c.args.document) _ c.in_ok-machine.machine c.run_paced.new.machine (λ sweep slots offset is. search rules)
    c.in_ok-machine.ensures.document c.in_ok-machine.ensures.state c.run_paced.ensures.swept c.run_paced.ensures.ended
