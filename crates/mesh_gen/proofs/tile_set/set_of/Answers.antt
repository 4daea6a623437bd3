use Rattle.std.proofs.Common.{◌<◌, length, sym, ◌∙◌, ap, arith, take, get_or}
use Rattle.std.specs.Prelude.{◌^◌, bit_or}
use Rattle.std.proofs.lemmas.List.{take_more}
use Rattle.mesh_gen.proofs.TileSets.{set_of-push}
use Rattle.mesh_gen.proofs.tile_set.set_of.Goals as goal

pub loop-tile-preserved : goal.loop-tile-preserved
loop-tile-preserved c =
    let t = get_or c.args.tiles.now c.loop-tile.tile-index 0 in
    let so_far = take c.loop-tile.tile-index c.args.tiles.now in
    let within : c.loop-tile.tile-index < length c.args.tiles.now = omega arith in
    rw (take_more c.args.tiles.now c.loop-tile.tile-index 0 within) (c.with_tile-set.ensures ∙ ap (bit_or (2 ^ t)) c.loop-tile.invariant ∙ sym (set_of-push so_far t))
