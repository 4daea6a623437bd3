use Rattle.std.proofs.Common.{List, true, refl, ap, arith}
use Rattle.std.proofs.lemmas.List.{drop_all}
use Rattle.outside_io.proofs.Writes.{WritesAllBut-nothing, WritesAllBut-more, Writes-failed, Writes-last}
use Rattle.mesh_gen.specs.declared.request.Request.{Request}
use Rattle.chip_model.specs.OrderedNetwork.{sources}
use Rattle.commands.specs.Entries.{rest_text}
use Rattle.commands.specs.Deliveries.{tile_line}
use Rattle.commands.proofs.DeliveryLines.{next_source}
use Rattle.commands.proofs.deliver.write_line.Goals as goal

pub returns-in_err-write_label : goal.returns-in_err-write_label
returns-in_err-write_label g c =
    let list = sources c.args.delivered.now in
    Writes-failed (rest_text true list) c.from_residual.result c.from_residual.ensures.0 (WritesAllBut-nothing (tile_line c.args.tile list)) refl c.in_err-write_label.ensures

pub loop-request-init : goal.loop-request-init
loop-request-init g c =
    let list = sources c.args.delivered.now in
    WritesAllBut-more {rest = rest_text true list} (WritesAllBut-nothing (tile_line c.args.tile list)) refl c.in_ok-write_label.ensures

pub returns-in_err-write_number : goal.returns-in_err-write_number
returns-in_err-write_number g c =
    let next = next_source c.args.delivered.now c.loop-request.request-index c.loop-request-test.true in
    Writes-failed _ c.from_residual-in_err-write_number.result c.from_residual-in_err-write_number.ensures.0 c.loop-request.invariant next c.in_err-write_number.ensures

pub loop-request-preserved : goal.loop-request-preserved
loop-request-preserved g c =
    let next = next_source c.args.delivered.now c.loop-request.request-index c.loop-request-test.true in
    WritesAllBut-more c.loop-request.invariant next c.in_ok-write_number.ensures

pub returns : goal.returns
returns g c =
    let none = drop_all c.loop-request.request-index c.args.delivered.now (omega arith) in
    Writes-last c.write_piece.result c.loop-request.invariant (ap (λ (rest : List Request). rest_text true (sources rest)) none) c.write_piece.ensures
