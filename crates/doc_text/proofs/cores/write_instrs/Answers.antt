use Rattle.core_isa.specs.declared.instr.Instr.TheVariants.{Li}
use Rattle.core_isa.specs.Printing.{text_of}
use Rattle.outside_io.proofs.Writes.{WritesAllBut-more, Writes-failed}
use Rattle.doc_text.proofs.Pieces.{flat_map-drop}
use Rattle.doc_text.proofs.cores.write_instrs.Goals as goal

pub returns-in_err-print_instr : goal.returns-in_err-print_instr
returns-in_err-print_instr g c =
    let next = flat_map-drop text_of c.args.instrs.now c.loop-instr.instr-index (Li 0 0) c.loop-instr-test.true in
    Writes-failed _ c.from_residual.result c.from_residual.ensures.0 c.loop-instr.invariant next c.in_err-print_instr.ensures

pub loop-instr-preserved : goal.loop-instr-preserved
loop-instr-preserved g c =
    let next = flat_map-drop text_of c.args.instrs.now c.loop-instr.instr-index (Li 0 0) c.loop-instr-test.true in
    WritesAllBut-more c.loop-instr.invariant next c.in_ok-print_instr.ensures
