use Rattle.std.specs.List.{range_with_len}
use Rattle.std.proofs.Common.{◌≡◌, ℕ, length, drop, map, get_or, subst, ◌∙◌, arith}
use Rattle.mesh_doc.specs.Faults.{core_tile}
use Rattle.mesh_doc.specs.Reading.{program_of_tile}
use Rattle.mesh_doc.specs.Seen.{parts_seen}
use Rattle.mesh_doc.proofs.Placing.{nothing, left_more, tile_is, placed_more}
use Rattle.mesh_doc.proofs.programs.place_programs.Goals as goal

pub loop-program-preserved : goal.loop-program-preserved
loop-program-preserved c =
    let P = parts_seen c.args.cores.now in
    let new = c.pop.new.self.items in
    let k : ℕ = length new in
    let (long, within, left, is) = left_more P c.loop-program.left.items new c.in-Some.program c.in-Some.ensures.items c.loop-program.invariant.left in
    let at : c.len.result ≡ k = omega (arith, c.len.ensures, c.pop.new.self.ok.0) in
    let tile : get_or c.args.tiles.now c.len.result 0 ≡ core_tile c.args.count (get_or P k nothing) = rw at (tile_is c.args.count P c.args.tiles.now k within c.requires.tiles) in
    let placed = subst (λ (n : ℕ). c.loop-program.placed.items ≡ map (program_of_tile c.args.count (drop n P)) (range_with_len 0 c.args.count)) long c.loop-program.invariant.placed in
    record {
      left = left;
      placed = c.put.ensures ∙ placed_more c.args.count P k c.loop-program.placed.items (get_or c.args.tiles.now c.len.result 0) c.in-Some.program within tile is placed;
    }
