use Rattle.std.proofs.Common.{ℕ, ◌∙◌, ap}
use Rattle.std.specs.Prelude.{◌==◌, is_none}
use Rattle.std.specs.List.{list_all}
use Rattle.vc_bank.proofs.PacketCounts.{packet_count-vacant}
use Rattle.vc_bank.proofs.slots.Slots.is_vacant.Goals as goal

pub returns : goal.returns
returns g c = ap (λ (n : ℕ). n == 0) c.self.invariant.1 ∙ packet_count-vacant c.self.inside.slots.items ∙ ap (list_all is_none) c.self.view_is
