-- What holds of the copies in the routers' channels.
use Rattle.std.specs.Prelude.{ℕ, true}
use Rattle.mesh_gen.specs.Grid.{Grid}
use Rattle.vc_bank.specs.Places.{Network}
use Rattle.chip_model.specs.declared.net_copy.NetCopy.{NetCopy}
use Rattle.chip_model.specs.CopiesOwed.{CopiesFit}
use Rattle.chip_model.specs.NetworkShape.{HasChannels}

-- each router has its channels, and the copies in them stand on their trees and owe each tile at most once
pub record CopiesHold (g : Grid) (vcs : ℕ) (net : Network NetCopy) : Type 0 where
  pub channels : HasChannels g vcs true net
  pub fit : CopiesFit g net
