use Rattle.std.proofs.Common.{ℕ, List, sym, refl, ◌∙◌, ap, get_or, arith}
use Rattle.net_iface.proofs.InsideParts.{parts}
use Rattle.net_iface.proofs.Counts.{delivered_counts-network}
use Rattle.std.proofs.lemmas.List.{get_or_default}
use Rattle.net_iface.proofs.ordered_net.OrderedNet.delivered.Goals as goal

pub returns : goal.returns
returns c =
    let p = parts c.self.inside in
    let inside = rw (← c.self.view_is) at c.requires in
    let here = c.index.ensures ∙ rw c.from.ensures refl ∙ get_or_default p.delivered c.args.t c.index.result.now 0 (omega (arith, c.self.invariant.0.sizes.delivered, inside)) in
    rw (← c.self.view_is) (here ∙ ap (λ (counts : List ℕ). get_or counts c.args.t 0) (sym (delivered_counts-network p c.self.invariant.0.sizes)))
