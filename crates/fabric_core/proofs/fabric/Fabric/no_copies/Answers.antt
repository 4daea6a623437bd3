use Rattle.std.proofs.Common.{◌≡◌, ℕ, None}
use Rattle.mesh_gen.specs.declared.port.Port.{Port}
use Rattle.chip_model.specs.OrderedNetwork.{after_copy_hop}
use Rattle.fabric_core.proofs.VacantRouters.{at_each}
use Rattle.fabric_core.proofs.fabric.Fabric.no_copies.Goals as goal

pub returns-clause-none : goal.returns-clause-none
returns-clause-none c =
    at_each (λ port. (slot : ℕ) (out : Port) → after_copy_hop c.args.self.now.chip c.args.self.now.network c.args.r port slot out ≡ None)
    c.is_vacant-own.result c.is_vacant-east.result c.is_vacant-west.result c.is_vacant-north.result c.is_vacant-south.result c.all_five.result c.all_five.ensures
    (rw (← c.self.view_is) c.is_vacant-own.ensures.none) (rw (← c.self.view_is) c.is_vacant-east.ensures.none) (rw (← c.self.view_is) c.is_vacant-west.ensures.none)
    (rw (← c.self.view_is) c.is_vacant-north.ensures.none) (rw (← c.self.view_is) c.is_vacant-south.ensures.none)
