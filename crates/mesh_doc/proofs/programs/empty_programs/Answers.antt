use Rattle.std.proofs.Common.{[], refl, arith}
use Rattle.mesh_doc.specs.Reading.{program_of_tile}
use Rattle.std.proofs.lemmas.List.FromFn.{map-range_with_len_more}
use Rattle.mesh_doc.proofs.programs.empty_programs.Goals as goal

pub loop-tile-preserved : goal.loop-tile-preserved
unfolding program_of_tile
loop-tile-preserved c =
    rw (map-range_with_len_more (program_of_tile c.args.count []) 0 c.loop-tile._tile c.loop-tile._tile (omega arith), c.in_ok-push.ensures.items, c.loop-tile.invariant, c.new-in-loop-tile.ensures, c.new.ensures.items) refl
