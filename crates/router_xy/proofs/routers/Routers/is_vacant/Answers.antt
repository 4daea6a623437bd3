use Rattle.std.proofs.Common.{◌∙◌, ap}
use Rattle.mesh_gen.specs.Ports.{port_number}
use Rattle.vc_bank.specs.Places.{vacant}
use Rattle.router_xy.proofs.Steps.{no_copies_in}
use Rattle.router_xy.proofs.routers.Routers.is_vacant.Goals as goal

pub returns-clause-vacant : goal.returns-clause-vacant
returns-clause-vacant c = rw (← c.self.view_is) (c.is_vacant.ensures.vacant ∙ ap (λ net. vacant net c.args.r (port_number c.args.port)) c.deref.ensures.value)

pub returns-clause-none : goal.returns-clause-none
returns-clause-none c = rw (← c.self.view_is) (no_copies_in (c.self.inside.wiring) c.self.inside.banks.items c.args.r c.args.port c.is_vacant.result (rw (← c.deref.ensures.value) c.is_vacant.ensures.none))
