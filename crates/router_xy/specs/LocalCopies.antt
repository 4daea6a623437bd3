-- The copies that a router has for its own tile.
use Rattle.std.specs.Prelude.{◌≡◌, ℕ, true, Some}
use Rattle.mesh_gen.specs.declared.port.Port.TheVariants.{L}
use Rattle.vc_bank.specs.Places.{Network, at}
use Rattle.chip_model.specs.declared.net_copy.NetCopy.{NetCopy}
use Rattle.chip_model.specs.Copies.{Name, is_named, owes}

-- a copy of the request stands in a channel of the router and owes the router's own tile
pub record HasLocalCopy (net : Network NetCopy) (r : ℕ) (name : Name) : Type 0 where
  pub port : ℕ
  pub slot : ℕ
  pub copy : NetCopy
  pub stands : at net r port slot ≡ Some copy
  pub is_named : is_named name copy.request ≡ true
  pub owed : owes copy L ≡ true
