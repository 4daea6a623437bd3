use Rattle.router_xy.proofs.Arrived.{arrived_fits}
use Rattle.router_xy.proofs.routers.Routers.tiles.Goals as goal

pub returns-clause-channels : goal.returns-clause-channels
returns-clause-channels c = rw (← c.self.view_is) c.self.invariant.copies.channels

pub returns-clause-fit : goal.returns-clause-fit
returns-clause-fit c = rw (← c.self.view_is) c.self.invariant.copies.fit

pub returns-clause-arrived : goal.returns-clause-arrived
returns-clause-arrived c = rw (← c.self.view_is) (arrived_fits (c.self.inside.wiring) c.self.inside.vcs c.self.inside.banks.items c.self.invariant.copies.channels)
