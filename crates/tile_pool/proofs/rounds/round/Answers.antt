use Rattle.std.proofs.Common.{◌+◌, ◌*◌, ◌≤◌, length, sym, subst}
use Rattle.chip_model.specs.Chip.{chip_of, tile_count}
use Rattle.machine_core.specs.Machine.{MachineState}
use Rattle.machine_core.specs.Stations.{chip_state, units_of}
use Rattle.tile_pool.proofs.RoundStarts.{parts_start}
use Rattle.tile_pool.proofs.rounds.round.Goals as goal

pub made_round-requires-clause-start : goal.made_round-requires-clause-start
made_round-requires-clause-start g c κs within =
    let parts = c.into_parts-parts.result in
    let is = c.into_parts-parts.ensures.parts in
    let state = chip_state parts.fabric.value (units_of parts.stations) in
    parts_start g.U.Unit.behaviour parts.rest parts.fabric.value parts.stations c.args.turn is
    (λ s reached. c.counting_laws.ensures parts.rest s is.within.fits reached)
    (c.reachable_laws.ensures.reached g.U.Unit.behaviour c.kind_laws.ensures parts.rest state.journal state is.within.fits is.reached).protocol.units
    (subst (λ (m : MachineState). length m.state.journal + 17 * tile_count (chip_of m.document) ≤ m.room) (sym c.into_parts-parts.ensures.same) c.requires)
