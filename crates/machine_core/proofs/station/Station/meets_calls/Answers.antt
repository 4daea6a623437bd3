use Rattle.std.proofs.Common.{arith}
use Rattle.forward_list.specs.declared.forward_list.TheConstants.{LIST_PLACES}
use Rattle.forward_list.specs.declared.out_queue.TheConstants.{QUEUE_PLACES}
use Rattle.chip_model.specs.Chip.{chip_of}
use Rattle.machine_core.proofs.MeetsCalls.{meets_calls}
use Rattle.machine_core.proofs.station.Station.meets_calls.Goals as goal

pub returns : goal.returns
returns g c =
    let b = g.U.Unit.behaviour in
    let laws = c.kind_laws.ensures in
    let states = c.reachable_laws.ensures in
    let events = c.event_laws.ensures in
    let tiles = c.tile_laws.ensures in
    meets_calls LIST_PLACES QUEUE_PLACES b laws c.count_laws.ensures
    (λ d fits. record {
      keeps = λ s new event holds is. states.noted b laws d s new event fits holds is;
      steps = events.journal b (chip_of d);
      does = events.does b (chip_of d);
      units = events.units;
      counts = c.access_laws.ensures.counted;
      tile = tiles.has d;
      inside = tiles.units d;
    })
    (states.opened b laws) (states.reached b laws)
    c.meeting_laws.ensures.deliver c.meeting_laws.ensures.receive c.args.self.now c.args.fabric.now c.requires
    c.length.ensures.tiles (omega (arith, c.length.ensures.length, c.length.ensures.within)) (omega
    (arith, c.counted.ensures.counted, c.counted.ensures.within))
