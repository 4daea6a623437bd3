use Rattle.std.proofs.Common.{◌∙◌, sym, subst, arith}
use Rattle.std.specs.Prelude.{set}
use Rattle.chip_model.specs.Chip.{chip_of}
use Rattle.fabric_core.specs.Fabric.{FabricState}
use Rattle.machine_core.specs.Machine.{AreParts}
use Rattle.machine_core.specs.Stations.{chip_state, units_of}
use Rattle.machine_core.proofs.MachineSteps.{at_station, by_result, err_map, machine_after, machine_refused, no_tile, not_after, ok_map, parts_after}
use Rattle.machine_core.proofs.MachineSteps.{set_kept, station_of_run, there_at, tiles_some, units_counted}
use Rattle.machine_core.proofs.machine.Machine.step.Goals as goal

pub returns-then-at-len-clause-err : goal.returns-then-at-len-clause-err
returns-then-at-len-clause-err g c =
    let b = g.U.Unit.behaviour in
    let d = c.self.inside.rest in
    let fab = c.self.inside.fabric.value in
    let stations = c.self.inside.stations.items in
    let t = c.from-at.result in
    let laws = c.kind_laws.ensures in
    let holds = rw (← c.self.view_is) at (c.laws.ensures.holds laws) in
    rw (← c.self.view_is) (not_after b (chip_of d) (chip_state fab (units_of stations)) c.args.e (sym (no_tile b d (chip_state fab
    (units_of stations)) c.args.e holds.protocol
    (tiles_some (chip_of d).grid c.self.invariant.within.fits.chip.tiles)
    (c.chip_progress_laws.ensures.slot b laws d (chip_state fab (units_of stations)) holds c.args.e) (omega
    (arith, c.if-at-len.true, c.from-at.ensures, c.tile_of.ensures, c.len.ensures, c.self.inside.stations.ok.0, units_counted stations)))))

pub perform-requires-clause-event : goal.perform-requires-clause-event
perform-requires-clause-event g c κs lives =
    let b = g.U.Unit.behaviour in
    let d = c.self.inside.rest in
    let fab = c.self.inside.fabric.value in
    let stations = c.self.inside.stations.items in
    let t = c.from-at.result in
    let st = c.index_mut.result.now in
    let at = there_at stations t st _ (omega (arith, c.if-at-len.false, c.len.ensures, c.self.inside.stations.ok.0)) c.index_mut.ensures.value in
    at_station c.args.e st.tile ((c.self.invariant.places t st at).0 ∙ c.from-at.ensures ∙ c.tile_of.ensures)

pub perform-requires-clause-settled : goal.perform-requires-clause-settled
perform-requires-clause-settled g c κs lives =
    let b = g.U.Unit.behaviour in
    let d = c.self.inside.rest in
    let fab = c.self.inside.fabric.value in
    let stations = c.self.inside.stations.items in
    let t = c.from-at.result in
    let st = c.index_mut.result.now in
    let at = there_at stations t st _ (omega (arith, c.if-at-len.false, c.len.ensures, c.self.inside.stations.ok.0)) c.index_mut.ensures.value in
    (c.self.invariant.places t st at).1

pub perform-requires-clause-run : goal.perform-requires-clause-run
perform-requires-clause-run g c κs lives =
    let b = g.U.Unit.behaviour in
    let d = c.self.inside.rest in
    let fab = c.self.inside.fabric.value in
    let stations = c.self.inside.stations.items in
    let t = c.from-at.result in
    let st = c.index_mut.result.now in
    let at = there_at stations t st _ (omega (arith, c.if-at-len.false, c.len.ensures, c.self.inside.stations.ok.0)) c.index_mut.ensures.value in
    rw c.deref_mut.ensures.value (station_of_run b d fab stations t st c.self.invariant at)

pub invariant_of-self : goal.invariant_of-self
invariant_of-self g c =
    let b = g.U.Unit.behaviour in
    let d = c.self.inside.rest in
    let fab = c.self.inside.fabric.value in
    let stations = c.self.inside.stations.items in
    let t = c.from-at.result in
    let st = c.index_mut.result.now in
    let at = there_at stations t st _ (omega (arith, c.if-at-len.false, c.len.ensures, c.self.inside.stations.ok.0)) c.index_mut.ensures.value in
    let new = c.perform.new.self in
    let new_fab = c.perform.new.fabric in
    by_result c.perform.result (rw c.deref_mut.ensures.value at c.perform.ensures.ok)
    (rw c.deref_mut.ensures.value at c.perform.ensures.done) c.perform.ensures.kept
    (rw c.deref_mut.ensures.value at c.perform.ensures.fabric_kept)
    (λ takes stays. parts_after b d fab new_fab stations t st new c.args.e c.self.invariant at takes stays)
    (λ kept fabric_kept.
    subst (λ (f : FabricState). AreParts b d f (set stations t new)) (sym fabric_kept) (subst (AreParts b d fab) (sym
    (set_kept stations t st new at kept)) c.self.invariant))

pub returns-clause-ok : goal.returns-clause-ok
returns-clause-ok g c =
    let b = g.U.Unit.behaviour in
    let d = c.self.inside.rest in
    let fab = c.self.inside.fabric.value in
    let stations = c.self.inside.stations.items in
    let t = c.from-at.result in
    let st = c.index_mut.result.now in
    let at = there_at stations t st _ (omega (arith, c.if-at-len.false, c.len.ensures, c.self.inside.stations.ok.0)) c.index_mut.ensures.value in
    let new = c.perform.new.self in
    let new_fab = c.perform.new.fabric in
    rw (← c.self.view_is) (ok_map c.perform.result (rw c.deref_mut.ensures.value at c.perform.ensures.ok)
    (rw c.deref_mut.ensures.value at c.perform.ensures.done)
    (λ takes stays. machine_after b d fab new_fab stations t st new c.args.e c.self.invariant at takes stays))

pub returns-clause-err : goal.returns-clause-err
returns-clause-err g c =
    let b = g.U.Unit.behaviour in
    let d = c.self.inside.rest in
    let fab = c.self.inside.fabric.value in
    let stations = c.self.inside.stations.items in
    let t = c.from-at.result in
    let st = c.index_mut.result.now in
    let at = there_at stations t st _ (omega (arith, c.if-at-len.false, c.len.ensures, c.self.inside.stations.ok.0)) c.index_mut.ensures.value in
    rw (← c.self.view_is) (err_map c.perform.result (rw c.deref_mut.ensures.value at c.perform.ensures.err)
    (λ refused. machine_refused b d fab stations t st c.args.e c.self.invariant at refused))
