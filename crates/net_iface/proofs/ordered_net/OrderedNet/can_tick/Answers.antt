use Rattle.std.proofs.Common.{ℕ, sym, ◌∙◌, ap}
use Rattle.std.specs.Prelude.{is_some}
use Rattle.chip_model.specs.Windows.{after_tick}
use Rattle.net_iface.specs.Parts.{network_of}
use Rattle.net_iface.proofs.InsideParts.{parts}
use Rattle.net_iface.proofs.Steps.{is_some-after_network_tick}
use Rattle.net_iface.proofs.ordered_net.OrderedNet.can_tick.Goals as goal

pub returns : goal.returns
returns c =
    let p = parts c.self.inside in
    rw (← c.self.view_is) (c.can_tick.ensures ∙ ap (λ (ticks : ℕ). is_some (after_tick ticks p.windows.windows)) c.self.invariant.0.sizes.ticks ∙ sym (is_some-after_network_tick p.chip (network_of p)))
