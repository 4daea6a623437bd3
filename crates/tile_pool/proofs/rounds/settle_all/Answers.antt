use Rattle.std.proofs.Common.{◌≡◌, ◌<◌, ℕ, Some, length, slice_index_or, subst, ap, ◌∙◌, arith}
use Rattle.std.specs.Prelude.{slice_get}
use Rattle.std.proofs.lemmas.Option.{slice_get-get_or}
use Rattle.chip_model.specs.Chip.{tile_count}
use Rattle.tile_pool.specs.Seating.{AreSettledTo}
use Rattle.tile_pool.proofs.Settling.{settled_one}
use Rattle.tile_pool.proofs.SettleRoom.{settle_room}
use Rattle.tile_pool.proofs.rounds.settle_all.Goals as goal

pub loop-t-init : goal.loop-t-init
loop-t-init g c = λ turns last to. to

pub settle-requires-clause-tile : goal.settle-requires-clause-tile
settle-requires-clause-tile g c κs within =
    let all = c.requires.to_settle in
    let to = c.loop-t.invariant all.turns all.last all.to_settle in
    let below : c.loop-t.t < length c.loop-t.stations = omega (arith, c.loop-t-test.true, c.loop-t.auto.stations) in
    let there = slice_get-get_or c.loop-t.stations c.loop-t.t c.index-stations-t.result below in
    omega (arith, to.places c.loop-t.t (slice_index_or c.loop-t.stations c.loop-t.t c.index-stations-t.result) there, below, to.count, c.requires.start.tiles, ap tile_count to.chip)

pub settle-requires-clause-few : goal.settle-requires-clause-few
settle-requires-clause-few g c κs within =
    let all = c.requires.to_settle in
    let to = c.loop-t.invariant all.turns all.last all.to_settle in
    omega (arith, ap tile_count (to.chip ∙ c.requires.start.chip), c.requires.start.within.tiles)

pub settle-requires-clause-room : goal.settle-requires-clause-room
settle-requires-clause-room g c κs within =
    let r = g.M.Start.start in
    let all = c.requires.to_settle in
    let station = slice_index_or c.loop-t.stations c.loop-t.t c.index-stations-t.result in
    let there : slice_get c.loop-t.stations c.loop-t.t ≡ Some station =
    slice_get-get_or c.loop-t.stations c.loop-t.t c.index-stations-t.result (omega (arith, c.loop-t-test.true, c.loop-t.auto.stations)) in
    (settle_room g.U.Unit.behaviour r (c.bound_laws.ensures.noted g.U.Unit.behaviour r.fabric.chip) c.requires.start
    (λ s reached. c.counting_laws.ensures r.document s c.requires.start.within.fits reached) c.args.fabric.now c.args.stations.now all c.loop-t.t c.loop-t.fabric
    c.loop-t.stations station (c.loop-t.invariant all.turns all.last all.to_settle) there (omega (arith, c.length.ensures.length, c.length.ensures.within))).events

pub settle-requires-clause-accesses : goal.settle-requires-clause-accesses
settle-requires-clause-accesses g c κs within =
    let r = g.M.Start.start in
    let all = c.requires.to_settle in
    let station = slice_index_or c.loop-t.stations c.loop-t.t c.index-stations-t.result in
    let there : slice_get c.loop-t.stations c.loop-t.t ≡ Some station =
    slice_get-get_or c.loop-t.stations c.loop-t.t c.index-stations-t.result (omega (arith, c.loop-t-test.true, c.loop-t.auto.stations)) in
    (settle_room g.U.Unit.behaviour r (c.bound_laws.ensures.noted g.U.Unit.behaviour r.fabric.chip) c.requires.start
    (λ s reached. c.counting_laws.ensures r.document s c.requires.start.within.fits reached) c.args.fabric.now c.args.stations.now all c.loop-t.t c.loop-t.fabric
    c.loop-t.stations station (c.loop-t.invariant all.turns all.last all.to_settle) there (omega (arith, c.length.ensures.length, c.length.ensures.within))).accesses

pub loop-t-preserved : goal.loop-t-preserved
loop-t-preserved g c = λ turns last first.
    let station = slice_index_or c.loop-t.stations c.loop-t.t c.index-stations-t.result in
    let there : slice_get c.loop-t.stations c.loop-t.t ≡ Some station =
    slice_get-get_or c.loop-t.stations c.loop-t.t c.index-stations-t.result (omega (arith, c.loop-t-test.true, c.loop-t.auto.stations)) in
    settled_one g.U.Unit.behaviour g.M.Start.start turns last c.loop-t.t c.loop-t.fabric c.settle.new.fabric c.loop-t.stations station c.settle.new.self
    (c.loop-t.invariant turns last first) there c.settle.ensures.station c.settle.ensures.seen c.settle.ensures.chip c.settle.ensures.same_room

pub returns : goal.returns
returns g c = λ turns last first.
    let to = c.loop-t.invariant turns last first in
    let same : c.loop-t.t ≡ length g.M.Start.start.units = omega (arith, c.loop-t-test.false, c.loop-t.auto.t-end, first.count) in
    subst (λ (n : ℕ). AreSettledTo g.U.Unit.behaviour g.M.Start.start turns last n c.loop-t.fabric c.loop-t.stations) same to
