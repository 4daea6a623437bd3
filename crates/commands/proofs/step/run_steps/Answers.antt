use Rattle.std.proofs.Common.{subst, sym}
use Rattle.report_text.specs.Report.{IsTabular}
use Rattle.doc_text.specs.Doc.{doc_of}
use Rattle.commands.specs.Steps.{IsReportOfSteps}
use Rattle.commands.proofs.ReportTables.{tabular}
use Rattle.commands.proofs.ReportedRuns.{machine_reports}
use Rattle.commands.proofs.step.run_steps.Goals as goal

pub returns-clause-reported : goal.returns-clause-reported
returns-clause-reported c =
    subst (IsReportOfSteps c.args.pace c.args.budget (doc_of c.args.document)) (sym c.witness.ensures)
    (machine_reports c.args.pace c.args.budget (doc_of c.args.document) c.in_ok-machine.machine c.run_laws.ensures c.bound_laws.ensures.ample c.in_ok-machine.ensures c.stands.ensures.within.fits c.stands.ensures.reached)

pub returns-clause-tabular : goal.returns-clause-tabular
returns-clause-tabular c =
    let machine = c.in_ok-machine.machine in
    subst IsTabular (sym c.witness.ensures)
    (tabular machine.document machine.state c.stands.ensures.within.fits (c.run_laws.ensures machine.document machine.state.journal machine.state c.stands.ensures.within.fits c.stands.ensures.reached))
