use Rattle.std.proofs.Common.{◌≡◌, subst, arith}
use Rattle.chip_model.specs.Chip.{tile_count}
use Rattle.broadcast.specs.Sweeps.{Sweeps, tile_moves}
use Rattle.broadcast.proofs.Sweeping.{sweeps_next, request_slots_are}
use Rattle.broadcast.proofs.passes.pass.Goals as goal

pub loop-t-preserved : goal.loop-t-preserved
loop-t-preserved c =
    sweeps_next (tile_moves c.args.net.now.chip) c.loop-t.t c.args.net.now c.loop-t.net c.move_tile-moved.new.net c.loop-t.moved c.move_tile-moved.result
    c.loop-t.invariant (subst (λ chip. Sweeps (tile_moves chip c.loop-t.t) c.loop-t.net c.move_tile-moved.new.net c.move_tile-moved.result) c.loop-t.invariant.moves.sizes.chip_is c.move_tile-moved.ensures)

pub returns : goal.returns
returns c =
    let all : c.loop-t.t ≡ tile_count c.args.net.now.chip = omega arith in
    rw (request_slots_are c.args.net.now.chip, ← all) c.loop-t.invariant
