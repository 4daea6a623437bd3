use Rattle.std.proofs.Common.{◌≡◌, Some}
use Rattle.mesh_gen.specs.Ports.{port_number}
use Rattle.vc_bank.specs.Places.{at}
use Rattle.chip_model.specs.Copies.{local_place, after_serve}
use Rattle.router_xy.specs.RequestNetwork.{numbered}
use Rattle.router_xy.specs.CopySteps.{RequestServed}
use Rattle.router_xy.proofs.LocalPlaces.{seen_place, local_stands}
use Rattle.router_xy.proofs.Steps.{seen_at, served_at}
use Rattle.router_xy.proofs.CopiesKept.{request_served}
use Rattle.router_xy.proofs.routers.Routers.serve_local.Goals as goal

pub unreachable-requires : goal.unreachable-requires
unreachable-requires c =
    let net = c.self.inside.banks.items in
    let is : numbered c.local_place.result ≡ local_place net c.args.r c.args.id = rw (← c.self.view_is) at c.local_place.ensures in
    let there = local_stands net c.args.r c.args.id _ _ (seen_place net c.args.r c.args.id c.local_place.result c.in-Some.port c.in-Some.slot is c.in-Some.is) in
    let none = seen_at c.deref.result.now net c.args.r (port_number c.in-Some.port) c.in-Some.slot _ _ c.deref.ensures.value c.packet_at.ensures c.in_default-packet_at.is in
    let stands = there.1 in
    cc

steps : (c : goal.After-result-1) → after_serve c.self.inside.banks.items c.args.r c.args.id ≡ Some (c.in-Some-packet_at.copy.request, c.leave.new.banks.items)
steps c =
    let net = c.self.inside.banks.items in
    let copy = c.in-Some-packet_at.copy in
    let p = port_number c.in-Some.port in
    let is : numbered c.local_place.result ≡ local_place net c.args.r c.args.id = rw (← c.self.view_is) at c.local_place.ensures in
    let stands : at net c.args.r p c.in-Some.slot ≡ Some copy = seen_at c.deref.result.now net c.args.r p c.in-Some.slot _ _ c.deref.ensures.value c.packet_at.ensures c.in-Some-packet_at.is in
    rw (c.leave.ensures, c.left_by.ensures) (served_at net c.args.r c.args.id p c.in-Some.slot copy (seen_place net c.args.r c.args.id c.local_place.result c.in-Some.port c.in-Some.slot is c.in-Some.is) stands)

serves : (c : goal.After-result-1)
    → RequestServed (c.self.inside.wiring) c.self.inside.vcs c.args.r c.args.id c.in-Some-packet_at.copy.request c.self.inside.banks.items c.leave.new.banks.items
serves c = request_served (c.self.inside.wiring) c.self.inside.vcs c.self.inside.banks.items c.leave.new.banks.items c.args.r c.args.id c.in-Some-packet_at.copy.request c.self.invariant.copies (steps c)

pub invariant_of-self : goal.invariant_of-self
invariant_of-self c = record { some = c.self.invariant.some; vcs_limit = c.self.invariant.vcs_limit; copies = (serves c).holds }

pub returns-clause-ok : goal.returns-clause-ok
returns-clause-ok c = rw (← c.self.view_is) (steps c)

pub returns-clause-name : goal.returns-clause-name
returns-clause-name c = (serves c).serves.named

pub returns-clause-owed : goal.returns-clause-owed
returns-clause-owed c = rw (← c.self.view_is) (serves c).owes

pub returns-clause-requests : goal.returns-clause-requests
returns-clause-requests c = rw (← c.self.view_is) (serves c).serves.none_comes

pub returns-clause-reserved : goal.returns-clause-reserved
returns-clause-reserved c = rw (← c.self.view_is) (serves c).reserves

pub returns-clause-arrived : goal.returns-clause-arrived
returns-clause-arrived c = rw (← c.self.view_is) (serves c).leaves
