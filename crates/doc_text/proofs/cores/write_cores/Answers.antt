use Rattle.outside_io.proofs.Writes.{WritesAllBut-more, Writes-failed}
use Rattle.doc_text.proofs.Pieces.{cores_text-drop}
use Rattle.doc_text.proofs.cores.write_cores.Goals as goal

pub returns-in_err-write_core : goal.returns-in_err-write_core
returns-in_err-write_core g c =
    let next = cores_text-drop c.as_slice-programs.result.now c.loop-tile.tile c.index-programs-tile.result c.loop-tile-test.true c.index-programs-tile.is in
    rw (← c.as_slice-programs.ensures)
    (Writes-failed _ c.from_residual.result c.from_residual.ensures.0 c.loop-tile.invariant next (rw c.instrs.ensures.instrs at c.in_err-write_core.ensures))

pub loop-tile-preserved : goal.loop-tile-preserved
loop-tile-preserved g c =
    let next = cores_text-drop c.as_slice-programs.result.now c.loop-tile.tile c.index-programs-tile.result c.loop-tile-test.true c.index-programs-tile.is in
    WritesAllBut-more c.loop-tile.invariant next (rw c.instrs.ensures.instrs at c.in_ok-write_core.ensures)
