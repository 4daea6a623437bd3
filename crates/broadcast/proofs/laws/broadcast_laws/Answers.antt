use Rattle.std.specs.Prelude.{map}
use Rattle.chip_model.specs.Chip.{chip_of}
use Rattle.chip_model.specs.OrderedNetwork.{opening_network}
use Rattle.chip_model.specs.Delivery.{rising}
use Rattle.broadcast.proofs.Settling.{delivers_one}
use Rattle.broadcast.proofs.BroadcastStages.{NetworkLaws}
use Rattle.broadcast.proofs.WholeOrders.{whole_broadcast}
use Rattle.broadcast.proofs.laws.broadcast_laws.Goals as goal

laws : (c : goal.After-request_progress_laws) → NetworkLaws
laws c = record {
  opened = c.network_laws.ensures.opened;
  made = c.network_laws.ensures.made;
  posted = c.network_laws.ensures.posted;
  ticked = c.network_laws.ensures.ticked;
  taken = c.network_laws.ensures.taken;
  hopped = c.network_laws.ensures.hopped;
  delivered = c.network_laws.ensures.delivered;
  hops = c.copies_laws.ensures.hops;
  serves = c.copies_laws.ensures.serves;
  moves = c.request_progress_laws.ensures.moves;
}

pub returns-clause-one : goal.returns-clause-one
returns-clause-one c = λ d a b. delivers_one (chip_of d) (map (rising (chip_of d)) d.posts) (opening_network (chip_of d)) a b

pub returns-clause-whole : goal.returns-clause-whole
returns-clause-whole c = whole_broadcast (laws c)
