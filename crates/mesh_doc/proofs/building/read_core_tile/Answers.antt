use Rattle.std.proofs.Common.{◌≡◌, ◌-◌, sym, ◌∙◌, arith}
use Rattle.mesh_doc.specs.Seen.{part_seen}
use Rattle.mesh_doc.proofs.Limits.{core_exceeds, core_fits}
use Rattle.mesh_doc.proofs.building.read_core_tile.Goals as goal

pub returns-in-Some-clause-faults : goal.returns-in-Some-clause-faults
returns-in-Some-clause-faults c =
    let last : c.from.result ≡ c.args.count - 1 = omega arith in
    core_fits c.args.count (part_seen c.args.core.now) c.in-Some.tile (rw last at (sym c.number_at.ensures.value ∙ c.in-Some.is))

pub returns-in-None-clause-faults : goal.returns-in-None-clause-faults
returns-in-None-clause-faults c =
    let last : c.from.result ≡ c.args.count - 1 = omega arith in
    rw c.position.ensures (core_exceeds c.args.count (part_seen c.args.core.now) (rw last at (sym c.number_at.ensures.value ∙ c.in-None.is)))
