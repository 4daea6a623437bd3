use Rattle.std.proofs.Common.{◌≡◌, List, length, sym, ◌∙◌, ap, subst, arith}
use Rattle.chip_model.specs.Chip.{chip_of}
use Rattle.round_laws.specs.Rounds.{IsRound}
use Rattle.fabric_core.specs.Fabric.{FabricState}
use Rattle.machine_core.specs.Machine.{MachineState}
use Rattle.machine_core.specs.Stations.{StationState, chip_state, units_of}
use Rattle.tile_pool.specs.Start.{RoundStart}
use Rattle.tile_pool.specs.Stands.{Stands}
use Rattle.tile_pool.specs.Seating.{AreStationsOf}
use Rattle.tile_pool.specs.Workers.{IsStarting, IsThrough}
use Rattle.tile_pool.proofs.Turning.{ChipIsKnown}
use Rattle.tile_pool.proofs.Seated.{all_same, falls_same, written_back}
use Rattle.tile_pool.proofs.RoundStarts.{stations_of_start}
use Rattle.tile_pool.proofs.RoundMade.{as_many, few_units, met_from, none_made, round_made, round_of, some_units, tables}
use Rattle.tile_pool.proofs.rounds.made_round.Goals as goal

pub new-requires-after_bounds : goal.new-requires-after_bounds
new-requires-after_bounds g c κs within =
    subst (Stands g.U.Unit.behaviour g.M.Start.start) (ap (λ (r : RoundStart). r.fabric) c.requires.named) (none_made g.U.Unit.behaviour g.M.Start.start c.requires.start)

pub new-requires-2-after_bounds : goal.new-requires-2-after_bounds
new-requires-2-after_bounds g c κs within =
    let r = g.M.Start.start in
    let count = as_many r c.args.parts.rest c.args.parts.fabric.value c.args.parts.stations c.args.turn c.requires.named in
    let tiles : c.len-tiles.result ≡ length r.units =
    omega (arith, c.len-tiles.ensures, c.into_vec-stations.result.ok.0, ap (λ (list : List StationState). length list) c.into_vec-stations.ensures, count) in
    (omega (arith, tiles, some_units g.U.Unit.behaviour r c.requires.start), omega (arith, tiles, few_units g.U.Unit.behaviour r c.requires.start))

pub seat_all-workers-requires-clause-stations : goal.seat_all-workers-requires-clause-stations
seat_all-workers-requires-clause-stations g c κs within =
    subst (AreStationsOf g.M.Start.start) (sym c.into_vec-stations.ensures)
    (subst (λ (r : RoundStart). AreStationsOf r c.args.parts.stations) (sym c.requires.named)
    (stations_of_start c.args.parts.rest c.args.parts.fabric.value c.args.parts.stations c.args.turn c.requires.parts.places))

pub work_all-requires-clause-starting : goal.work_all-requires-clause-starting
work_all-requires-clause-starting g c κs within =
    all_same c.seat_all-workers.result.items c.as_mut_slice.result.now (λ worker. IsStarting g.M.Start.start c.in-Ok-new.turns.table worker.station worker.seat worker.had)
    c.as_mut_slice.ensures.value c.seat_all-workers.ensures.starting

pub work_all-requires-clause-tiles : goal.work_all-requires-clause-tiles
work_all-requires-clause-tiles g c κs within =
    falls_same c.seat_all-workers.result.items c.as_mut_slice.result.now (λ worker. worker.station.tile) (length g.M.Start.start.units) (length c.as_mut_slice.result.now)
    c.as_mut_slice.ensures.value (omega (arith, ap (λ list. length list) c.as_mut_slice.ensures.value, c.seat_all-workers.ensures.count)) c.seat_all-workers.ensures.tiles

pub unseat_all-had-requires-clause-through : goal.unseat_all-had-requires-clause-through
unseat_all-had-requires-clause-through g c κs within =
    let old = c.seat_all-workers.result.items in
    let new = c.work_all.new.workers in
    let same : length old ≡ length new = omega (arith, ap (λ list. length list) c.as_mut_slice.ensures.value, c.work_all.ensures.count) in
    all_same new _ (λ worker. IsThrough g.U.Unit.behaviour g.M.Start.start c.in-Ok-new.turns.table worker.station worker.seat worker.had)
    (written_back c.seat_all-workers.result.len new old (omega (arith, c.seat_all-workers.result.ok.0, same)) same) c.work_all.ensures.through

pub unseat_all-had-requires-clause-tiles : goal.unseat_all-had-requires-clause-tiles
unseat_all-had-requires-clause-tiles g c κs within =
    let old = c.seat_all-workers.result.items in
    let new = c.work_all.new.workers in
    let same : length old ≡ length new = omega (arith, ap (λ list. length list) c.as_mut_slice.ensures.value, c.work_all.ensures.count) in
    let back = written_back c.seat_all-workers.result.len new old (omega (arith, c.seat_all-workers.result.ok.0, same)) same in
    falls_same new _ (λ worker. worker.station.tile) (length new) _ back (sym (ap (λ list. length list) back)) c.work_all.ensures.tiles

pub meet-requires-clause-table : goal.meet-requires-clause-table
meet-requires-clause-table g c κs within =
    tables g.U.Unit.behaviour g.M.Start.start c.in-Ok-new.turns.table _ c.unseat_all-had.result c.unseat_all-had.new.stations.items c.unseat_all-had.new.seats.items
    c.unseat_all-had.ensures

pub settle_all-requires-clause-to_settle : goal.settle_all-requires-clause-to_settle
settle_all-requires-clause-to_settle g c κs within =
    let b = g.U.Unit.behaviour in
    let r = g.M.Start.start in
    let known : ChipIsKnown b r.fabric.chip = record {
      noted = c.bound_laws.ensures.noted b r.fabric.chip;
      events = record { does = c.event_laws.ensures.does b r.fabric.chip; steps = c.event_laws.ensures.journal b r.fabric.chip };
      slots = c.slot_laws.ensures.at;
    } in
    let old = c.seat_all-workers.result.items in
    let new = c.work_all.new.workers in
    let same : length old ≡ length new = omega (arith, ap (λ list. length list) c.as_mut_slice.ensures.value, c.work_all.ensures.count) in
    let back = written_back c.seat_all-workers.result.len new old (omega (arith, c.seat_all-workers.result.ok.0, same)) same in
    (met_from b r known c.in-Ok-new.turns.table _ c.unseat_all-had.result c.unseat_all-had.new.stations.items c.unseat_all-had.new.seats.items c.unseat_all-had.ensures
    (ap (λ list. length list) back ∙ sym same ∙ c.seat_all-workers.ensures.count) c.meet.result c.into_fabric-fabric.ensures.stands
    c.in-Ok-new.turns.opening (c.in-Ok-new.ensures.ok.opening_is ∙ ap (λ (f : FabricState). f.entries) (c.new.ensures ∙ sym (ap (λ (s : RoundStart). s.fabric) c.requires.named)))
    c.meet.ensures.0 c.meet.ensures.1 c.meet.ensures.2 c.deref_mut.result.now c.as_mut_slice-in-Ok-new.result.now
    (c.deref_mut.ensures.value ∙ c.into_fabric-fabric.ensures.is) c.as_mut_slice-in-Ok-new.ensures.value).all

pub put_together-requires-in-Ok-new-after_bounds :
    goal.put_together-requires-in-Ok-new-after_bounds
put_together-requires-in-Ok-new-after_bounds g c κs within =
    let b = g.U.Unit.behaviour in
    let r = g.M.Start.start in
    let known : ChipIsKnown b r.fabric.chip = record {
      noted = c.bound_laws.ensures.noted b r.fabric.chip;
      events = record { does = c.event_laws.ensures.does b r.fabric.chip; steps = c.event_laws.ensures.journal b r.fabric.chip };
      slots = c.slot_laws.ensures.at;
    } in
    let old = c.seat_all-workers.result.items in
    let new = c.work_all.new.workers in
    let same : length old ≡ length new = omega (arith, ap (λ list. length list) c.as_mut_slice.ensures.value, c.work_all.ensures.count) in
    let back = written_back c.seat_all-workers.result.len new old (omega (arith, c.seat_all-workers.result.ok.0, same)) same in
    let is = met_from b r known c.in-Ok-new.turns.table _ c.unseat_all-had.result c.unseat_all-had.new.stations.items c.unseat_all-had.new.seats.items c.unseat_all-had.ensures
    (ap (λ list. length list) back ∙ sym same ∙ c.seat_all-workers.ensures.count) c.meet.result c.into_fabric-fabric.ensures.stands
    c.in-Ok-new.turns.opening (c.in-Ok-new.ensures.ok.opening_is ∙ ap (λ (f : FabricState). f.entries) (c.new.ensures ∙ sym (ap (λ (s : RoundStart). s.fabric) c.requires.named)))
    c.meet.ensures.0 c.meet.ensures.1 c.meet.ensures.2 c.deref_mut.result.now c.as_mut_slice-in-Ok-new.result.now
    (c.deref_mut.ensures.value ∙ c.into_fabric-fabric.ensures.is) c.as_mut_slice-in-Ok-new.ensures.value in
    let made = round_made b r known.noted c.unseat_all-had.result c.deref_mut.result.now c.as_mut_slice-in-Ok-new.result.now is c.settle_all.new.fabric
    c.settle_all.new.stations c.settle_all.ensures in
    let back_len = ap (λ list. length list) back ∙ sym same ∙ c.seat_all-workers.ensures.count in
    let rows : length c.unseat_all-had.new.stations.items ≡ length c.settle_all.new.stations =
    omega (arith, c.unseat_all-had.ensures.stations_count, back_len, made.count) in
    let of_parts = round_of b r c.args.parts.rest c.args.parts.fabric.value c.args.parts.stations c.args.turn c.unseat_all-had.result c.settle_all.new.fabric
    c.settle_all.new.stations _ c.requires.named made
    (written_back c.unseat_all-had.new.stations.len c.settle_all.new.stations c.unseat_all-had.new.stations.items
    (omega (arith, c.unseat_all-had.new.stations.ok.0, rows)) rows) in
    of_parts.parts

pub returns-in-Ok-new-clause-does : goal.returns-in-Ok-new-clause-does
returns-in-Ok-new-clause-does g c =
    let b = g.U.Unit.behaviour in
    let r = g.M.Start.start in
    let known : ChipIsKnown b r.fabric.chip = record {
      noted = c.bound_laws.ensures.noted b r.fabric.chip;
      events = record { does = c.event_laws.ensures.does b r.fabric.chip; steps = c.event_laws.ensures.journal b r.fabric.chip };
      slots = c.slot_laws.ensures.at;
    } in
    let old = c.seat_all-workers.result.items in
    let new = c.work_all.new.workers in
    let same : length old ≡ length new = omega (arith, ap (λ list. length list) c.as_mut_slice.ensures.value, c.work_all.ensures.count) in
    let back = written_back c.seat_all-workers.result.len new old (omega (arith, c.seat_all-workers.result.ok.0, same)) same in
    let is = met_from b r known c.in-Ok-new.turns.table _ c.unseat_all-had.result c.unseat_all-had.new.stations.items c.unseat_all-had.new.seats.items c.unseat_all-had.ensures
    (ap (λ list. length list) back ∙ sym same ∙ c.seat_all-workers.ensures.count) c.meet.result c.into_fabric-fabric.ensures.stands
    c.in-Ok-new.turns.opening (c.in-Ok-new.ensures.ok.opening_is ∙ ap (λ (f : FabricState). f.entries) (c.new.ensures ∙ sym (ap (λ (s : RoundStart). s.fabric) c.requires.named)))
    c.meet.ensures.0 c.meet.ensures.1 c.meet.ensures.2 c.deref_mut.result.now c.as_mut_slice-in-Ok-new.result.now
    (c.deref_mut.ensures.value ∙ c.into_fabric-fabric.ensures.is) c.as_mut_slice-in-Ok-new.ensures.value in
    let made = round_made b r known.noted c.unseat_all-had.result c.deref_mut.result.now c.as_mut_slice-in-Ok-new.result.now is c.settle_all.new.fabric
    c.settle_all.new.stations c.settle_all.ensures in
    let back_len = ap (λ list. length list) back ∙ sym same ∙ c.seat_all-workers.ensures.count in
    let rows : length c.unseat_all-had.new.stations.items ≡ length c.settle_all.new.stations =
    omega (arith, c.unseat_all-had.ensures.stations_count, back_len, made.count) in
    let of_parts = round_of b r c.args.parts.rest c.args.parts.fabric.value c.args.parts.stations c.args.turn c.unseat_all-had.result c.settle_all.new.fabric
    c.settle_all.new.stations _ c.requires.named made
    (written_back c.unseat_all-had.new.stations.len c.settle_all.new.stations c.unseat_all-had.new.stations.items
    (omega (arith, c.unseat_all-had.new.stations.ok.0, rows)) rows) in
    subst (λ (m : MachineState). IsRound b (chip_of c.args.parts.rest) c.args.turn c.unseat_all-had.result
    (chip_state c.args.parts.fabric.value (units_of c.args.parts.stations)) m.state) (sym c.put_together-in-Ok-new.ensures) of_parts.round

pub returns-in-Ok-new-clause-room : goal.returns-in-Ok-new-clause-room
returns-in-Ok-new-clause-room g c =
    let b = g.U.Unit.behaviour in
    let r = g.M.Start.start in
    let known : ChipIsKnown b r.fabric.chip = record {
      noted = c.bound_laws.ensures.noted b r.fabric.chip;
      events = record { does = c.event_laws.ensures.does b r.fabric.chip; steps = c.event_laws.ensures.journal b r.fabric.chip };
      slots = c.slot_laws.ensures.at;
    } in
    let old = c.seat_all-workers.result.items in
    let new = c.work_all.new.workers in
    let same : length old ≡ length new = omega (arith, ap (λ list. length list) c.as_mut_slice.ensures.value, c.work_all.ensures.count) in
    let back = written_back c.seat_all-workers.result.len new old (omega (arith, c.seat_all-workers.result.ok.0, same)) same in
    let is = met_from b r known c.in-Ok-new.turns.table _ c.unseat_all-had.result c.unseat_all-had.new.stations.items c.unseat_all-had.new.seats.items c.unseat_all-had.ensures
    (ap (λ list. length list) back ∙ sym same ∙ c.seat_all-workers.ensures.count) c.meet.result c.into_fabric-fabric.ensures.stands
    c.in-Ok-new.turns.opening (c.in-Ok-new.ensures.ok.opening_is ∙ ap (λ (f : FabricState). f.entries) (c.new.ensures ∙ sym (ap (λ (s : RoundStart). s.fabric) c.requires.named)))
    c.meet.ensures.0 c.meet.ensures.1 c.meet.ensures.2 c.deref_mut.result.now c.as_mut_slice-in-Ok-new.result.now
    (c.deref_mut.ensures.value ∙ c.into_fabric-fabric.ensures.is) c.as_mut_slice-in-Ok-new.ensures.value in
    let made = round_made b r known.noted c.unseat_all-had.result c.deref_mut.result.now c.as_mut_slice-in-Ok-new.result.now is c.settle_all.new.fabric
    c.settle_all.new.stations c.settle_all.ensures in
    let back_len = ap (λ list. length list) back ∙ sym same ∙ c.seat_all-workers.ensures.count in
    let rows : length c.unseat_all-had.new.stations.items ≡ length c.settle_all.new.stations =
    omega (arith, c.unseat_all-had.ensures.stations_count, back_len, made.count) in
    let of_parts = round_of b r c.args.parts.rest c.args.parts.fabric.value c.args.parts.stations c.args.turn c.unseat_all-had.result c.settle_all.new.fabric
    c.settle_all.new.stations _ c.requires.named made
    (written_back c.unseat_all-had.new.stations.len c.settle_all.new.stations c.unseat_all-had.new.stations.items
    (omega (arith, c.unseat_all-had.new.stations.ok.0, rows)) rows) in
    ap (λ (m : MachineState). m.room) c.put_together-in-Ok-new.ensures ∙ of_parts.room
