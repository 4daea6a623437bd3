use Rattle.std.proofs.Common.{◌≡◌, Some}
use Rattle.chip_model.specs.OrderedNetwork.{after_copy_hop}
use Rattle.net_iface.specs.Parts.{network_of}
use Rattle.net_iface.proofs.InsideParts.{parts}
use Rattle.net_iface.proofs.Kept.{AreKept-hop}
use Rattle.net_iface.proofs.Hops.{no_way, shut_way, gone_way}
use Rattle.net_iface.proofs.Moving.{hop_moves}
use Rattle.net_iface.proofs.ordered_net.OrderedNet.hop.Goals as goal

pub returns-in_default-clause-err : goal.returns-in_default-clause-err
returns-in_default-clause-err c =
    let p = parts c.self.inside in
    rw (← c.self.view_is) (no_way p.chip (network_of p) c.args.r c.args.port c.args.slot c.args.out (rw c.self.invariant.0.sizes.grid at c.in_default.ensures.none))

pub returns-then-not-takes_in-clause-err : goal.returns-then-not-takes_in-clause-err
returns-then-not-takes_in-clause-err c =
    let p = parts c.self.inside in
    let grid = c.self.invariant.0.sizes.grid in
    rw (← c.self.view_is)
    (shut_way p.chip (network_of p) c.args.r c.args.port c.args.slot c.args.out c.in-Some.way c.takes_in.result (rw grid at c.in-Some.ensures.some) (rw grid at c.in-Some.ensures.goes)
    (rw (← c.self.view_is) at c.takes_in.ensures) c.if-not-takes_in.true)

steps : (c : goal.After-go) → after_copy_hop (parts c.self.inside).chip (network_of (parts c.self.inside)) c.args.r c.args.port c.args.slot c.args.out ≡ Some (network_of (record (parts c.self.inside) { routers = c.go.new.self }))
steps c =
    let p = parts c.self.inside in
    let grid = c.self.invariant.0.sizes.grid in
    gone_way p.chip (network_of p) c.args.r c.args.port c.args.slot c.args.out c.in-Some.way c.takes_in.result c.go.new.self.copies (rw grid at c.in-Some.ensures.some) (rw grid at c.go.ensures.hopped)
    (rw (← c.self.view_is) at c.takes_in.ensures) c.if-not-takes_in.false

pub invariant_of-self : goal.invariant_of-self
invariant_of-self c =
    let p = parts c.self.inside in
    let done = c.go.ensures in
    let holds = c.network_laws.ensures.hopped p.chip (network_of p) _ c.args.r c.args.port c.args.slot c.args.out c.self.invariant.0.holds (steps c) in
    (AreKept-hop p c.go.new.self done.grid done.vcs holds c.self.invariant.0, c.self.invariant.1)

pub returns-clause-ok : goal.returns-clause-ok
returns-clause-ok c = rw (← c.self.view_is) (steps c)

pub returns-clause-moves : goal.returns-clause-moves
returns-clause-moves c =
    hop_moves c.args.self.now.chip c.args.self.now.network _ c.args.r c.args.port c.args.slot c.args.out (returns-clause-ok c) (rw (← c.self.view_is) c.go.ensures.arrived)
