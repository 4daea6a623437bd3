use Rattle.std.proofs.Common.{length, refl, ap, ◌∙◌, arith}
use Rattle.net_iface.proofs.InsideParts.{parts}
use Rattle.net_iface.proofs.Counts.{next_request-some, next_request-none}
use Rattle.net_iface.proofs.ordered_net.OrderedNet.next_request.Goals as goal

pub returns-in_err-number : goal.returns-in_err-number
returns-in_err-number c =
    let a = c.in_err-number.ensures in
    rw (← c.self.view_is, c.from_residual.ensures)
    (next_request-none (parts c.self.inside) c.args.t c.args.kind c.args.line (omega (arith, a.lookup.3, ap length c.deref.ensures.value, c.from.ensures, c.self.invariant.0.sizes.made)))

pub returns : goal.returns
returns c =
    let a = c.in_ok-number.ensures in
    rw (← c.self.view_is)
    (next_request-some (parts c.self.inside) c.args.t c.in_ok-number.field-0.now c.args.kind c.args.line c.self.invariant.0
    (omega (arith, a.lookup.3.0, ap length c.deref.ensures.value, c.from.ensures, c.self.invariant.0.sizes.made))
    (a.lookup.3.1 0 ∙ rw (c.deref.ensures.value, c.from.ensures) refl))
