-- What a step of the ordered network does to what it has still to do.
use Rattle.std.specs.Prelude.{◌≡◌, ◌<◌, ◌++◌, ◌+◌, ◌*◌, List, length}
use Rattle.mesh_gen.specs.declared.request.Request.{Request}
use Rattle.chip_model.specs.Chip.{Chip}
use Rattle.chip_model.specs.OrderedNetwork.{OrderedNetwork}
use Rattle.bound_laws.specs.Measure.{per_answer, per_request, requests_to_go}

-- a step of the ordered network that orders nothing lowers it
pub record Lowers (chip : Chip) (net new : OrderedNetwork) : Type 0 where
  pub ordered : new.ordered ≡ net.ordered
  pub lowers : requests_to_go chip new < requests_to_go chip net

-- a request that is made raises it by less than what is paid for it
pub record MakesFor (chip : Chip) (net new : OrderedNetwork) : Type 0 where
  pub ordered : new.ordered ≡ net.ordered
  pub grows : requests_to_go chip new < requests_to_go chip net + per_request chip

-- a tick does by more than what the requests that it orders are still to be answered
pub record TickLowers (chip : Chip) (net new : OrderedNetwork) : Type 0 where
  pub more : List Request
  pub ordered : new.ordered ≡ net.ordered ++ more
  pub lowers : requests_to_go chip new + per_answer chip * length more < requests_to_go chip net
