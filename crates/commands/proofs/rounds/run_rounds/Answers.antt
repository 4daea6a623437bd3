use Rattle.std.proofs.Common.{subst, sym}
use Rattle.report_text.specs.Report.{IsTabular}
use Rattle.doc_text.specs.Doc.{doc_of}
use Rattle.commands.specs.Rounds.{IsReportOfRounds}
use Rattle.commands.proofs.ReportTables.{tabular}
use Rattle.commands.proofs.RoundedRuns.{machine_reports_rounds}
use Rattle.commands.proofs.rounds.run_rounds.Goals as goal

pub returns-clause-reported : goal.returns-clause-reported
returns-clause-reported g c =
    subst (IsReportOfRounds c.args.budget c.in_ok-machine.left (doc_of c.args.document)) (sym c.witness.ensures)
    (machine_reports_rounds c.args.budget c.in_ok-machine.left (doc_of c.args.document) c.in_ok-machine.machine c.run_laws.ensures c.bound_laws.ensures.full c.in_ok-machine.ensures c.stands.ensures.within.fits c.stands.ensures.reached)

pub returns-clause-tabular : goal.returns-clause-tabular
returns-clause-tabular g c =
    let machine = c.in_ok-machine.machine in
    subst IsTabular (sym c.witness.ensures)
    (tabular machine.document machine.state c.stands.ensures.within.fits (c.run_laws.ensures machine.document machine.state.journal machine.state c.stands.ensures.within.fits c.stands.ensures.reached))
