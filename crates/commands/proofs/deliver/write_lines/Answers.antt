use Rattle.std.proofs.Common.{◌<◌, arith}
use Rattle.outside_io.proofs.Writes.{WritesAllBut-more, Writes-failed}
use Rattle.chip_model.specs.Chip.{tile_count}
use Rattle.commands.proofs.DeliveryLines.{next_line}
use Rattle.commands.proofs.deliver.write_lines.Goals as goal

pub returns-in_err-write_line : goal.returns-in_err-write_line
returns-in_err-write_line g c =
    let net = c.args.net.now in
    let inside : c.loop-t.t < tile_count net.chip = omega arith in
    let next = next_line net.chip net.network c.loop-t.t c.delivered_requests.result.now c.tiles-t-end.ensures.fits inside c.delivered_requests.ensures in
    Writes-failed _ c.from_residual.result c.from_residual.ensures.0 c.loop-t.invariant next c.in_err-write_line.ensures

pub loop-t-preserved : goal.loop-t-preserved
loop-t-preserved g c =
    let net = c.args.net.now in
    let inside : c.loop-t.t < tile_count net.chip = omega arith in
    let next = next_line net.chip net.network c.loop-t.t c.delivered_requests.result.now c.tiles-t-end.ensures.fits inside c.delivered_requests.ensures in
    WritesAllBut-more c.loop-t.invariant next c.in_ok-write_line.ensures
