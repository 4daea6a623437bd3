use Rattle.std.proofs.Common.{◌∙◌, arith}
use Rattle.chip_model.specs.Chip.{chip_of}
use Rattle.machine_core.specs.Stations.{chip_state, units_of}
use Rattle.machine_core.proofs.MachineSteps.{at_station, no_tile, station_of_run, there_at, tiles_some, told_by, units_counted}
use Rattle.machine_core.proofs.machine.Machine.enabled.Goals as goal

pub returns-then-at-len : goal.returns-then-at-len
returns-then-at-len g c =
    let b = g.U.Unit.behaviour in
    let d = c.self.inside.rest in
    let fab = c.self.inside.fabric.value in
    let stations = c.self.inside.stations.items in
    let t = c.from-at.result in
    let laws = c.kind_laws.ensures in
    let holds = rw (← c.self.view_is) at (c.laws.ensures.holds laws) in
    rw (← c.self.view_is) (no_tile b d (chip_state fab (units_of stations)) c.args.e holds.protocol
    (tiles_some (chip_of d).grid c.self.invariant.within.fits.chip.tiles)
    (c.chip_progress_laws.ensures.slot b laws d (chip_state fab (units_of stations)) holds c.args.e) (omega
    (arith, c.if-at-len.true, c.from-at.ensures, c.tile_of.ensures, c.len.ensures, c.self.inside.stations.ok.0, units_counted stations)))

pub can_act-requires-clause-event : goal.can_act-requires-clause-event
can_act-requires-clause-event g c κs lives =
    let b = g.U.Unit.behaviour in
    let d = c.self.inside.rest in
    let fab = c.self.inside.fabric.value in
    let stations = c.self.inside.stations.items in
    let t = c.from-at.result in
    let st = c.index.result.now in
    let at = there_at stations t st _ (omega (arith, c.if-at-len.false, c.len.ensures, c.self.inside.stations.ok.0)) c.index.ensures in
    at_station c.args.e st.tile ((c.self.invariant.places t st at).0 ∙ c.from-at.ensures ∙ c.tile_of.ensures)

pub can_act-requires-clause-run : goal.can_act-requires-clause-run
can_act-requires-clause-run g c κs lives =
    let b = g.U.Unit.behaviour in
    let d = c.self.inside.rest in
    let fab = c.self.inside.fabric.value in
    let stations = c.self.inside.stations.items in
    let t = c.from-at.result in
    let st = c.index.result.now in
    let at = there_at stations t st _ (omega (arith, c.if-at-len.false, c.len.ensures, c.self.inside.stations.ok.0)) c.index.ensures in
    rw c.deref.ensures (station_of_run b d fab stations t st c.self.invariant at)

pub returns : goal.returns
returns g c =
    let b = g.U.Unit.behaviour in
    let d = c.self.inside.rest in
    let fab = c.self.inside.fabric.value in
    let stations = c.self.inside.stations.items in
    let t = c.from-at.result in
    let st = c.index.result.now in
    let at = there_at stations t st _ (omega (arith, c.if-at-len.false, c.len.ensures, c.self.inside.stations.ok.0)) c.index.ensures in
    rw (← c.self.view_is) (told_by b d fab stations t st c.args.e c.can_act.result c.self.invariant at (rw c.deref.ensures at c.can_act.ensures))
