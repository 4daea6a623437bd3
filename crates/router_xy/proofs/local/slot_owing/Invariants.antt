use Rattle.std.proofs.Common.{◌≡◌, ℕ, ◌<◌, false}
use Rattle.mesh_gen.specs.Ports.{port_number}
use Rattle.vc_bank.specs.Channels.{packet_at}
use Rattle.chip_model.specs.Copies.{owes_tile}
use Rattle.router_xy.proofs.local.slot_owing.Given as goal

abbrev pub invariant-loop-slot : goal.invariant-loop-slot
invariant-loop-slot l = (k : ℕ) → k < l.slot → owes_tile l.id (packet_at l.bank (port_number l.port) k) ≡ false
