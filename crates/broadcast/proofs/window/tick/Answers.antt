use Rattle.std.proofs.Common.{◌≡◌, ◌<◌, length, ap, subst, arith}
use Rattle.chip_model.specs.Chip.{tile_count}
use Rattle.broadcast.specs.Broadcasts.{TicksFor}
use Rattle.broadcast.proofs.Broadcasting.{no_ticks, one_more_tick}
use Rattle.broadcast.proofs.window.tick.Goals as goal

pub loop-init : goal.loop-init
loop-init c = no_ticks c.args.net.now c.requires.closed

pub tick-ticked-requires : goal.tick-ticked-requires
tick-ticked-requires c =
    let inside : c.loop.counter < c.args.net.now.chip.window = let same = c.window-end.ensures in omega arith in
    let ordered = ap length (c.loop.invariant.ordered inside) in
    let tiles = ap tile_count c.loop.invariant.sizes.chip_is in
    let room = c.loop.invariant.sizes.room_is in
    let enough = c.requires.room in
    omega arith

pub loop-preserved : goal.loop-preserved
loop-preserved c =
    let inside : c.loop.counter < c.args.net.now.chip.window = let same = c.window-end.ensures in omega arith in
    let told = c.tick-ticked.ensures in
    one_more_tick c.loop.counter c.args.net.now c.loop.net c.tick-ticked.new.self c.tick-ticked.result inside c.loop.invariant told.sizes told.ok told.err told.kept told.few

pub returns : goal.returns
returns c = let all : c.loop.counter ≡ c.args.net.now.chip.window = let same = c.window-end.ensures in omega arith in subst (λ count. TicksFor count c.args.net.now c.loop.net) all c.loop.invariant
