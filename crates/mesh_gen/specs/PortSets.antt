-- The type of sets of ports, by their bits.
use Rattle.std.specs.Prelude.{ℕ}
use Rattle.mesh_gen.specs.declared.ports.Ports.{Ports}

-- the bits of a set of ports
abbrev pub bits_of : Ports → ℕ
bits_of ports = ports.0

-- the set of ports that has these bits
abbrev pub ports_of : ℕ → Ports
ports_of bits = record { 0 = bits }
