use Rattle.chip_model.specs.Chip.{chip_of_mesh}
use Rattle.fabric_core.proofs.Kept.{kept-opening}
use Rattle.fabric_core.proofs.fabric.Fabric.open.Goals as goal

pub invariant_of-fabric : goal.invariant_of-fabric
invariant_of-fabric c =
    let limit = c.args.mesh.now.data_vcs_limit in
    let kept = kept-opening (chip_of_mesh c.args.mesh.now) c.args.room limit.high in
    (rw (c.in_ok-open.ensures, c.in_ok-open-2.ensures, c.in_ok-open-3.ensures, c.in_ok-with_capacity.ensures.items, c.from.ensures, c.tiles.ensures.tiles) kept, rw c.in_ok-open-3.ensures c.in_ok-with_capacity.ensures.capacity)
