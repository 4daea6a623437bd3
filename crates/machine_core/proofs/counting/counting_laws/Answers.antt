use Rattle.chip_model.specs.Chip.{chip_of}
use Rattle.machine_core.proofs.Counted.{reached_counted}
use Rattle.machine_core.proofs.counting.counting_laws.Goals as goal

pub returns : goal.returns
returns g c = λ d s fits reached.
    let b = g.U.Unit.behaviour in
    let laws = c.kind_laws.ensures in
    let states = c.reachable_laws.ensures in
    let events = c.event_laws.ensures in
    let tiles = c.tile_laws.ensures in
    reached_counted b laws c.count_laws.ensures d
    (record {
      keeps = λ s new event holds is. states.noted b laws d s new event fits holds is;
      steps = events.journal b (chip_of d);
      does = events.does b (chip_of d);
      units = events.units;
      counts = c.access_laws.ensures.counted;
      tile = tiles.has d;
      inside = tiles.units d;
    }) s (states.opened b laws d fits) reached
