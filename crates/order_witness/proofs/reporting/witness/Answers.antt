use Rattle.std.proofs.Common.{◌≡◌, ◌≤◌, sym, ◌∙◌, ap, arith, length, List}
use Rattle.report_text.specs.declared.access.Access.{Access}
use Rattle.report_text.specs.declared.report.Report.{Report}
use Rattle.chip_model.specs.Witness.{witness, in_sequence}
use Rattle.chip_model.specs.Reports.{report_of}
use Rattle.order_witness.proofs.Restored.{restored}
use Rattle.order_witness.proofs.reporting.witness.Goals as goal

pub returns : goal.returns
unfolding report_of witness
returns g c =
    let d = c.args.machine.document in
    let s = c.args.machine.state in
    let items : c.into_vec-accesses.result.items ≡ s.accesses = c.into_vec-accesses.ensures ∙ ap (λ (r : Report). r.accesses) c.into_report-report.ensures in
    let sorted = c.put_in_sequence.ensures ∙ ap in_sequence c.deref_mut.ensures.value in
    let accesses : c.new.result ≡ in_sequence s.accesses =
    c.new.ensures ∙ restored c.into_vec-accesses.result.items c.put_in_sequence.new.accesses c.into_vec-accesses.result.len sorted
    (omega (arith, c.deref_mut.ensures.len, ap length c.deref_mut.ensures.value))
    ∙ ap in_sequence items in
    ap (λ (r : Report). record r { accesses = c.new.result }) c.into_report-report.ensures
    ∙ ap (λ (list : List Access). record (report_of d s) { accesses = list }) accesses
