use Rattle.std.proofs.Common.{◌≡◌, ℕ, true, ◌+◌, ◌^◌, length, vec_len, sym, ◌∙◌, ap, subst, arith}
use Rattle.std.specs.Prelude.{bit_or}
use Rattle.tile_pool.specs.Seating.{AreThrough}
use Rattle.tile_pool.specs.Workers.{IsThrough}
use Rattle.tile_pool.proofs.Seated.{IsWith, all_front, all_last, falls_front, falls_last, longer, no_more, none_through, one_through, with_turn, without_turn}
use Rattle.tile_pool.proofs.seating.unseat_all.Goals as goal
use Rattle.tile_pool.proofs.seating.unseat_all.Goals.{then-has, else-has}

pub loop-worker-init : goal.loop-worker-init
loop-worker-init g c =
    let no_stations : length c.args.stations.now.items ≡ 0 = ap (λ list. length list) c.requires.none.0 in
    record {
      count = omega (arith, no_stations);
      left = c.requires.through;
      tiles = c.requires.tiles;
      back = subst (λ (n : ℕ). AreThrough g.U.Unit.behaviour g.M.Start.start c.args.turns.now.table n 0 c.args.stations.now.items c.args.seats.now.items) (sym no_stations)
          (none_through g.U.Unit.behaviour g.M.Start.start c.args.turns.now.table c.args.stations.now.items c.args.seats.now.items c.requires.none.0 c.requires.none.1);
      stations_room = c.requires.stations_room;
      seats_room = c.requires.seats_room;
    }

pub with_tile-had-requires : goal.with_tile-had-requires
with_tile-had-requires g c =
    omega (
      arith,
      c.tile.ensures,
      falls_last c.loop-worker.workers.items c.pop.new.self.items c.in-Some.worker (λ worker. worker.station.tile) (length c.args.workers.items)
          c.in-Some.ensures.items c.loop-worker.invariant.tiles,
      c.requires.few,
    )

pub push_reserved-requires : goal.push_reserved-requires
push_reserved-requires g c =
    omega (
      arith,
      longer c.loop-worker.workers.items c.pop.new.self.items c.in-Some.worker c.in-Some.ensures.items,
      c.loop-worker.invariant.count,
      c.loop-worker.invariant.stations_room,
      c.loop-worker.stations.ok.0,
    )

pub push_reserved-requires-in-Some : goal.push_reserved-requires-in-Some
push_reserved-requires-in-Some g c =
    omega (
      arith,
      longer c.loop-worker.workers.items c.pop.new.self.items c.in-Some.worker c.in-Some.ensures.items,
      c.loop-worker.invariant.count,
      c.loop-worker.invariant.back.seats_count,
      c.loop-worker.invariant.seats_room,
      c.loop-worker.seats.ok.0,
    )

pub loop-worker-preserved : goal.loop-worker-preserved
loop-worker-preserved g c =
    let b = g.U.Unit.behaviour in
    let r = g.M.Start.start in
    let table = c.args.turns.now.table in
    let inv = c.loop-worker.invariant in
    let worker = c.in-Some.worker in
    let workers = c.loop-worker.workers.items in
    let left = c.pop.new.self.items in
    let stations = c.loop-worker.stations.items in
    let workers_are = c.in-Some.ensures.items in
    let fewer = longer workers left worker workers_are in
    let falls = falls_last workers left worker (λ worker. worker.station.tile) (length c.args.workers.items) workers_are inv.tiles in
    let tile : worker.station.tile ≡ length stations = omega (arith, falls, fewer, inv.count) in
    let more_stations : length c.push_reserved.new.self.items ≡ length stations + 1 =
    longer c.push_reserved.new.self.items stations worker.station c.push_reserved.ensures.items in
    let with : IsWith worker.station.tile worker.had c.loop-worker.had c.if-has.had = elim c.if-has.branch [
      | then-has w ↦ subst (IsWith worker.station.tile worker.had c.loop-worker.had) (sym w.had-is)
          (subst (λ has. IsWith worker.station.tile has c.loop-worker.had w.with_tile-had.result) (sym w.if-has.true)
          (subst (IsWith worker.station.tile true c.loop-worker.had)
          (sym (w.with_tile-had.ensures ∙ ap (λ (t : ℕ). bit_or (2 ^ t) c.loop-worker.had) w.tile.ensures)) (with_turn worker.station.tile c.loop-worker.had)))
      | else-has w ↦ subst (IsWith worker.station.tile worker.had c.loop-worker.had) (sym w.had-is)
          (subst (λ has. IsWith worker.station.tile has c.loop-worker.had c.loop-worker.had) (sym w.if-has.false) (without_turn worker.station.tile c.loop-worker.had))
    ] in
    let back : AreThrough b r table (length stations + 1) c.if-has.had c.push_reserved.new.self.items c.push_reserved-in-Some.new.self.items =
    one_through b r table (length stations) c.loop-worker.had c.if-has.had stations c.push_reserved.new.self.items c.loop-worker.seats.items
    c.push_reserved-in-Some.new.self.items worker.station worker.seat worker.had c.push_reserved.ensures.items c.push_reserved-in-Some.ensures.items inv.back tile
    (all_last workers left worker (λ worker. IsThrough b r table worker.station worker.seat worker.had) workers_are inv.left)
    (subst (λ (t : ℕ). IsWith t worker.had c.loop-worker.had c.if-has.had) tile with) in
    record {
      count = omega (arith, more_stations, fewer, inv.count);
      left = all_front workers left worker (λ worker. IsThrough b r table worker.station worker.seat worker.had) workers_are inv.left;
      tiles = falls_front workers left worker (λ worker. worker.station.tile) (length c.args.workers.items) workers_are inv.tiles;
      back = subst (λ (n : ℕ). AreThrough b r table n c.if-has.had c.push_reserved.new.self.items c.push_reserved-in-Some.new.self.items) (sym more_stations) back;
      stations_room = omega (arith, inv.stations_room, c.push_reserved.ensures.capacity);
      seats_room = omega (arith, inv.seats_room, c.push_reserved-in-Some.ensures.capacity);
    }

pub returns : goal.returns
returns g c =
    let inv = c.loop-worker.invariant in
    let all : length c.loop-worker.stations.items ≡ length c.args.workers.items = omega (arith, inv.count, no_more (vec_len c.loop-worker.workers) c.in_default.ensures.variant.1, c.loop-worker.workers.ok.0) in
    subst (λ (n : ℕ). AreThrough g.U.Unit.behaviour g.M.Start.start c.args.turns.now.table n c.loop-worker.had c.loop-worker.stations.items c.loop-worker.seats.items) all inv.back
