-- Routers in which nothing stands.
use Rattle.std.specs.Prelude.{ℕ, Bool}
use Rattle.std.specs.List.{list_all}
use Rattle.mesh_gen.specs.Ports.{port_number}
use Rattle.vc_bank.specs.Places.{Network, vacant}
use Rattle.chip_model.specs.Schedules.{ports}

-- no channel of a router holds a packet
abbrev pub router_vacant : {P : Type 0} → Network P → ℕ → Bool
router_vacant net r = list_all (λ port. vacant net r (port_number port)) ports
