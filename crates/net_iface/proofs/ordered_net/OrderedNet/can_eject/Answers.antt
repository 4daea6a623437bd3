use Rattle.std.proofs.Common.{sym, ◌∙◌, ap}
use Rattle.std.specs.Prelude.{is_some}
use Rattle.net_iface.specs.Parts.{network_of, interface_of}
use Rattle.net_iface.proofs.InsideParts.{parts}
use Rattle.net_iface.proofs.Expected.{expects_tile, interface_at}
use Rattle.net_iface.proofs.Steps.{is_some-after_delivery, after_delivery-unknown}
use Rattle.net_iface.proofs.ordered_net.OrderedNet.can_eject.Goals as goal

pub returns-in-Some : goal.returns-in-Some
returns-in-Some c =
    let p = parts c.self.inside in
    let here = rw (← c.self.view_is) at c.expected.ensures in
    let expects = sym here ∙ c.in-Some.is in
    let inside = expects_tile p c.args.t c.in-Some.name expects in
    rw (← c.self.view_is)
    (c.holds_local.ensures
    ∙ sym (is_some-after_delivery p.chip (network_of p) c.args.t (interface_of p.windows.windows.posts p.ordered p.unordered p.delivered c.args.t) c.in-Some.name (c.step_laws.ensures.found _ _ _) (interface_at p c.args.t inside) expects))

pub returns-in-None : goal.returns-in-None
returns-in-None c =
    let p = parts c.self.inside in
    let here = rw (← c.self.view_is) at c.expected.ensures in
    rw (← c.self.view_is) (sym (ap is_some (after_delivery-unknown p.chip (network_of p) c.args.t (sym here ∙ c.in-None.is))))
