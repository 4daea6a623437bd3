use Rattle.std.proofs.Common.{[]}
use Rattle.router_xy.proofs.LocalPlaces.{local_in, local_past}
use Rattle.router_xy.proofs.routers.Routers.local_place.Goals as goal

pub returns-in-Some : goal.returns-in-Some
returns-in-Some c = let a = c.in-Some.ensures in rw (← c.self.view_is) (local_in _ _ _ _ _ _ _ c.deref.ensures.value c.from.ensures (a.lookup.3.1 []) c.place_owing.ensures)

pub returns-in-None : goal.returns-in-None
returns-in-None c = let a = c.in-None.ensures in rw (← c.self.view_is) (local_past _ _ _ _ c.args.id c.deref.ensures.value c.from.ensures a.lookup.3)
