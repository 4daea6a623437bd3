-- What the steps of copies do: to the requests of which copies stand, to what tiles are owed, and to the channels.
use Rattle.std.specs.Prelude.{◌≡◌, ℕ, ◌+◌, Option}
use Rattle.mesh_gen.specs.declared.port.Port.{Port}
use Rattle.mesh_gen.specs.declared.request.Request.{Request}
use Rattle.mesh_gen.specs.Grid.{Grid}
use Rattle.vc_bank.specs.Places.{Network}
use Rattle.chip_model.specs.declared.net_copy.NetCopy.{NetCopy}
use Rattle.chip_model.specs.Copies.{Name, name_of}
use Rattle.chip_model.specs.CopiesOwed.{OwesMore, OwesSame, OwesLess, HasCopies, NoneComes, ComesAlone, ReservesExpected, ReservesNothing}
use Rattle.router_xy.specs.CopiesHold.{CopiesHold}
use Rattle.router_xy.specs.RequestNetwork.{arrived}

-- a copy of a request with this name stood in a channel, and no request has come
pub record Serves (old new : Network NetCopy) (name : Name) (q : Request) : Type 0 where
  pub named : name_of q ≡ name
  pub stood : HasCopies old q
  pub none_comes : NoneComes old new

-- a request has entered, by a normal channel
pub record RequestEntered (g : Grid) (vcs : ℕ) (q : Request) (old new : Network NetCopy) : Type 0 where
  pub holds : CopiesHold g vcs new
  pub owes : OwesMore g q old new
  pub comes : ComesAlone q old new
  pub reserves : ReservesNothing vcs old new
  pub arrives : arrived new ≡ arrived old + 1

-- a copy has hopped, into a reserved channel only where its request is expected
pub record CopyHopped (g : Grid) (vcs r : ℕ) (out : Port) (expected : Option Name) (old new : Network NetCopy) : Type 0 where
  pub holds : CopiesHold g vcs new
  pub owes : OwesSame g old new
  pub comes : NoneComes old new
  pub reserves : ReservesExpected g vcs r out expected old new
  pub arrives : arrived new ≡ arrived old + 1

-- a router has served the request of this name to its tile
pub record RequestServed (g : Grid) (vcs r : ℕ) (name : Name) (q : Request) (old new : Network NetCopy) : Type 0 where
  pub holds : CopiesHold g vcs new
  pub serves : Serves old new name q
  pub owes : OwesLess g r q old new
  pub reserves : ReservesNothing vcs old new
  pub leaves : arrived new + 1 ≡ arrived old
