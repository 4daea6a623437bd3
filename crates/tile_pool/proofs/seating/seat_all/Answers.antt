use Rattle.std.proofs.Common.{◌≡◌, ℕ, [], Some, false, length, length-append, vec_len, refl, sym, ◌∙◌, ap, arith}
use Rattle.std.specs.Prelude.{slice_get}
use Rattle.std.proofs.lemmas.Option.{same_Some}
use Rattle.turn_table.specs.States.{SeatState, new_seat}
use Rattle.chip_model.specs.Units.{UnitState}
use Rattle.tile_pool.specs.Workers.{IsStarting, station_at}
use Rattle.tile_pool.proofs.Seated.{all_more, falls_more, front_at, is_starting, last_at, longer, no_more, nothing_left}
use Rattle.tile_pool.proofs.seating.seat_all.Goals as goal

pub loop-station-init : goal.loop-station-init
loop-station-init g c =
    let none = c.requires.none in
    let empty : length c.args.workers.items ≡ 0 = ap (λ list. length list) none in
    record {
      count = omega (arith, empty, c.requires.stations.count);
      seats_count = omega (arith, c.requires.seats.count, c.requires.stations.count);
      stations = λ t unit below at. c.requires.stations.each t unit at;
      seats = λ t below. c.requires.seats.each t (omega (arith, below, c.requires.seats.count));
      starting = λ k d below. absurd (omega (arith, below, empty));
      tiles = λ k d below. absurd (omega (arith, below, empty));
      room = c.requires.room;
      stations_room = refl;
      seats_room = refl;
    }

pub unreachable-requires : goal.unreachable-requires
unreachable-requires g c =
    let inv = c.loop-station.invariant in
    omega (
      arith,
      longer c.loop-station.stations.items c.pop.new.self.items c.in-Some.station c.in-Some.ensures.items,
      inv.seats_count,
      no_more (vec_len c.loop-station.seats) c.in_default-pop.ensures.variant.1,
      c.loop-station.seats.ok.0,
    )

pub push_reserved-requires : goal.push_reserved-requires
push_reserved-requires g c =
    let inv = c.loop-station.invariant in
    omega (
      arith,
      longer c.loop-station.stations.items c.pop.new.self.items c.in-Some.station c.in-Some.ensures.items,
      inv.count,
      inv.room,
      c.loop-station.workers.ok.0,
    )

pub loop-station-smaller : goal.loop-station-smaller
loop-station-smaller g c =
    omega (arith, c.loop-station.stations.ok.0, c.pop.new.self.ok.0, longer c.loop-station.stations.items c.pop.new.self.items c.in-Some.station c.in-Some.ensures.items)

pub loop-station-preserved : goal.loop-station-preserved
loop-station-preserved g c =
    let r = g.M.Start.start in
    let turns = c.args.turns.now in
    let inv = c.loop-station.invariant in
    let stations = c.loop-station.stations.items in
    let left = c.pop.new.self.items in
    let seats = c.loop-station.seats.items in
    let left_seats = c.pop-in-Some.new.self.items in
    let station = c.in-Some.station in
    let seat = c.in-Some-pop.seat in
    let stations_are = c.in-Some.ensures.items in
    let seats_are = c.in-Some-pop.ensures.items in
    let more = longer stations left station stations_are in
    let more_seats = longer seats left_seats seat seats_are in
    let more_workers = longer c.push_reserved.new.self.items c.loop-station.workers.items _ c.push_reserved.ensures.items in
    let t = length left in
    let station_is : (unit : UnitState) → slice_get r.units t ≡ Some unit → station ≡ station_at t unit =
    (λ unit at. same_Some station (station_at t unit) (sym (last_at stations left station stations_are) ∙ inv.stations t unit (omega (arith, more)) at)) in
    let place : length left_seats ≡ t = omega (arith, more, more_seats, inv.seats_count) in
    let seat_is : seat ≡ new_seat turns t =
    same_Some seat (new_seat turns t) (sym (last_at seats left_seats seat seats_are) ∙ ap (λ (n : ℕ). slice_get seats n) place ∙ inv.seats t (omega (arith, more_seats, place))) in
    let starts : IsStarting r turns.table station seat false =
    is_starting g.U.Unit.behaviour r c.requires.start turns c.requires.seats.opening_is c.requires.seats.seats_is t (omega (arith, more, inv.count)) station seat station_is seat_is in
    record {
      count = omega (arith, inv.count, more, more_workers);
      seats_count = place;
      stations = λ k unit below at. front_at stations left station k stations_are below ∙ inv.stations k unit (omega (arith, below, more)) at;
      seats = λ k below. front_at seats left_seats seat k seats_are below ∙ inv.seats k (omega (arith, below, more_seats));
      starting = all_more c.push_reserved.new.self.items c.loop-station.workers.items _ (λ worker. IsStarting r turns.table worker.station worker.seat worker.had)
          c.push_reserved.ensures.items inv.starting starts;
      tiles = falls_more c.push_reserved.new.self.items c.loop-station.workers.items _ (λ worker. worker.station.tile) (length r.units)
          c.push_reserved.ensures.items inv.tiles (omega (arith, inv.count, more, starts.seated.number, ap (λ (s : SeatState). s.note.number) seat_is));
      room = omega (arith, inv.room, c.push_reserved.ensures.capacity);
      stations_room = omega (arith, inv.stations_room, c.pop.ensures.capacity);
      seats_room = omega (arith, inv.seats_room, c.pop-in-Some.ensures.capacity);
    }

pub returns-clause-count : goal.returns-clause-count
returns-clause-count g c = omega (arith, c.loop-station.invariant.count, no_more (vec_len c.loop-station.stations) c.in_default.ensures.variant.1, c.loop-station.stations.ok.0)

pub returns-clause-starting : goal.returns-clause-starting
returns-clause-starting g c = c.loop-station.invariant.starting

pub returns-clause-tiles : goal.returns-clause-tiles
returns-clause-tiles g c = c.loop-station.invariant.tiles

pub returns-clause-emptied : goal.returns-clause-emptied
returns-clause-emptied g c =
    let none : length c.loop-station.stations.items ≡ 0 = omega (arith, no_more (vec_len c.loop-station.stations) c.in_default.ensures.variant.1, c.loop-station.stations.ok.0) in (
      nothing_left c.pop.new.self.items (omega (arith, none, ap (λ list. length list) c.in_default.ensures.items, length-append c.pop.new.self.items [])),
      nothing_left c.loop-station.seats.items (omega (arith, none, c.loop-station.invariant.seats_count)),
    )

pub returns-clause-stations_room : goal.returns-clause-stations_room
returns-clause-stations_room g c = omega (arith, c.loop-station.invariant.stations_room, c.pop.ensures.capacity)

pub returns-clause-seats_room : goal.returns-clause-seats_room
returns-clause-seats_room g c = c.loop-station.invariant.seats_room
