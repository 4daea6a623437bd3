use Rattle.std.proofs.Common.{◌≡◌, refl, ◌∙◌, ap, rules, arith}
use Rattle.std.specs.Prelude.{replicate}
use Rattle.std.proofs.lemmas.Grind.{common_steps}
use Rattle.mesh_gen.specs.Grid.{tiles}
use Rattle.mesh_gen.specs.Mesh.{grid}
use Rattle.notify_net.specs.Latches.{LatchState}
use Rattle.window_core.proofs.Kept.{IsKept-open}
use Rattle.window_core.proofs.windows.Windows.«open».Goals as goal

pub invariant_of-result : goal.invariant_of-result
invariant_of-result c =
    let g = grid c.args.mesh.now in
    let window = c.args.mesh.now.window_limit in
    let copies : c.in_ok-vec.field-0.items ≡ replicate c.from-tiles.result 0 = search (rules, common_steps) in
    let taken : c.in_ok-vec.field-0.items ≡ replicate (tiles g) 0 = copies ∙ rw (c.from-tiles.ensures, c.tiles.ensures.tiles) refl in
    let same_grid = ap (λ (s : LatchState). s.grid) c.in_ok-open.ensures.opened in
    let kept = IsKept-open g c.in_ok-open.field-0 c.args.mesh.now.window c.args.room same_grid
    (omega (arith, c.tiles.ensures.tiles, c.tiles.ensures.limits.low)) (omega (arith, c.tiles.ensures.tiles, c.tiles.ensures.limits.high)) (omega (arith, window.low)) (omega (arith, window.low)) c.in_ok-open.ensures.phase in
    (rw (c.in_ok-with_capacity.ensures.items, taken) kept, c.in_ok-with_capacity.ensures.capacity)
