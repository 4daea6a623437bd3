-- The requests that a run delivers to a tile.
use Rattle.std.specs.Prelude.{ℕ, ◌==◌, List, [], ◌∷◌, ◌++◌, Option, Some, None, if◌then◌else◌}
use Rattle.mesh_gen.specs.declared.request.Request.{Request}
use Rattle.report_text.specs.declared.event.Event.{Event}
use Rattle.report_text.specs.declared.event.Event.TheVariants.{Tick, Core, Inject, Post, Take, Eject, Send, Hop, DataHop, DataEject}
use Rattle.chip_model.specs.Chip.{Chip}
use Rattle.chip_model.specs.OrderedNetwork.{OrderedNetwork, after_delivery}
use Rattle.chip_model.specs.Units.{Behaviour}
use Rattle.chip_model.specs.ChipState.{ChipState}
use Rattle.chip_model.specs.Runs.{after}

-- the request that a delivery returns
abbrev pub delivered_request : Option (Request × OrderedNetwork) → List Request
delivered_request None = []
delivered_request (Some (q, network)) = q ∷ []

-- what an event delivers to a tile
abbrev pub delivered_by : Chip → ChipState → ℕ → Event → List Request
delivered_by chip s t (Eject tile) = if tile == t then delivered_request (after_delivery chip s.network tile) else []
delivered_by chip s t Tick = []
delivered_by chip s t (Core tile) = []
delivered_by chip s t (Inject tile) = []
delivered_by chip s t (Post tile) = []
delivered_by chip s t (Take tile) = []
delivered_by chip s t (Send tile) = []
delivered_by chip s t (Hop router port slot out) = []
delivered_by chip s t (DataHop router port slot) = []
delivered_by chip s t (DataEject router port slot) = []

-- what events deliver to a tile, from a state on, in their order
unfoldable pub deliveries : Behaviour → Chip → ℕ → Option ChipState → List Event → List Request
deliveries behaviour chip t None events = []
deliveries behaviour chip t (Some s) [] = []
deliveries behaviour chip t (Some s) (event ∷ events) = delivered_by chip s t event ++ deliveries behaviour chip t (after behaviour chip s event) events
