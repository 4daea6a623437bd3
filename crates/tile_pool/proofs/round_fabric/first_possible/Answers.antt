use Rattle.std.proofs.Common.{◌≡◌, ◌%◌, Bool, true, false, not, cond, [], ◌∷◌, Some, None, sym, ◌∙◌, ap, arith}
use Rattle.std.proofs.lemmas.Bool.{true≢false}
use Rattle.report_text.specs.declared.event.Event.TheVariants.{Tick}
use Rattle.chip_model.specs.Chip.{Chip, chip_of_mesh}
use Rattle.chip_model.specs.Runs.{enabled}
use Rattle.chip_model.specs.Schedules.{from_offset, slots_per_tile, tile_slots}
use Rattle.machine_core.specs.Stations.{seen_by}
use Rattle.round_laws.specs.Turns.{is_core}
use Rattle.tile_pool.proofs.Tried.{first_passes, none_before}
use Rattle.tile_pool.proofs.SlotTurns.{contained, none_more, not_of_core, slots_long, tried_at}
use Rattle.tile_pool.proofs.round_fabric.first_possible.Goals as goal
use Rattle.tile_pool.proofs.round_fabric.first_possible.Goals.{else-not-is_core-via-then-not-is_core+else-can_act, else-not-is_core-via-else-not-is_core}

pub loop-k-init : goal.loop-k-init
loop-k-init g c units there k event below at kept = absurd (omega (arith, below))

pub can_act-requires-clause-event : goal.can_act-requires-clause-event
can_act-requires-clause-event g c κs within =
    let chip = c.args.fabric.now.chip in
    let tile = c.args.station.now.tile in
    let here = tried_at chip (chip_of_mesh c.args.mesh.now) tile c.tile.result c.slots_each-each.result c.args.turn c.loop-k.k c.tile_slot-event.result
    c.requires.mesh c.tile.ensures c.slots_each-each.ensures c.loop-k-test.true c.tile_slot-event.ensures in
    c.slot_laws.ensures.at chip tile c.tile_slot-event.result (contained (tile_slots chip tile) _ c.tile_slot-event.result here.0)

pub returns-then-can_act-clause-first : goal.returns-then-can_act-clause-first
returns-then-can_act-clause-first g c units there =
    let chip = c.args.fabric.now.chip in
    let tile = c.args.station.now.tile in
    let here = tried_at chip (chip_of_mesh c.args.mesh.now) tile c.tile.result c.slots_each-each.result c.args.turn c.loop-k.k c.tile_slot-event.result
    c.requires.mesh c.tile.ensures c.slots_each-each.ensures c.loop-k-test.true c.tile_slot-event.ensures in
    sym (first_passes (λ event. not (is_core event)) (enabled g.U.Unit.behaviour chip (seen_by c.args.station.now c.args.fabric.now units))
    (from_offset (tile_slots chip tile) (c.args.turn % slots_per_tile chip)) (Tick ∷ []) c.loop-k.k c.tile_slot-event.result here.1
    (ap not (sym c.is_core.ensures ∙ c.if-not-is_core.true))
    (sym (c.can_act.ensures units there) ∙ c.if-can_act.true)
    (c.loop-k.invariant units there))

pub returns-then-can_act-clause-of_tile : goal.returns-then-can_act-clause-of_tile
returns-then-can_act-clause-of_tile g c =
    let chip = c.args.fabric.now.chip in
    let tile = c.args.station.now.tile in
    let here = tried_at chip (chip_of_mesh c.args.mesh.now) tile c.tile.result c.slots_each-each.result c.args.turn c.loop-k.k c.tile_slot-event.result
    c.requires.mesh c.tile.ensures c.slots_each-each.ensures c.loop-k-test.true c.tile_slot-event.ensures in
    not_of_core tile c.tile_slot-event.result
    (c.slot_laws.ensures.at chip tile c.tile_slot-event.result (contained (tile_slots chip tile) _ c.tile_slot-event.result here.0))
    (sym c.is_core.ensures ∙ c.if-not-is_core.true)

pub returns-then-can_act-clause-within : goal.returns-then-can_act-clause-within
returns-then-can_act-clause-within g c few =
    let chip = c.args.fabric.now.chip in
    let tile = c.args.station.now.tile in
    let here = tried_at chip (chip_of_mesh c.args.mesh.now) tile c.tile.result c.slots_each-each.result c.args.turn c.loop-k.k c.tile_slot-event.result
    c.requires.mesh c.tile.ensures c.slots_each-each.ensures c.loop-k-test.true c.tile_slot-event.ensures in
    c.slot_laws.ensures.within chip tile c.tile_slot-event.result few
    (omega (arith, ap (λ (c : Chip). c.vcs) c.requires.run.chip, c.requires.run.within.vcs))
    (omega (arith, ap (λ (c : Chip). c.data_vcs) c.requires.run.chip, c.requires.run.within.data_vcs))
    (contained (tile_slots chip tile) _ c.tile_slot-event.result here.0)

pub loop-k-preserved : goal.loop-k-preserved
loop-k-preserved g c units there =
    let chip = c.args.fabric.now.chip in
    let tile = c.args.station.now.tile in
    let test = enabled g.U.Unit.behaviour chip (seen_by c.args.station.now c.args.fabric.now units) in
    let here = tried_at chip (chip_of_mesh c.args.mesh.now) tile c.tile.result c.slots_each-each.result c.args.turn c.loop-k.k c.tile_slot-event.result
    c.requires.mesh c.tile.ensures c.slots_each-each.ensures c.loop-k-test.true c.tile_slot-event.ensures in
    let fails : not (is_core c.tile_slot-event.result) ≡ true → test c.tile_slot-event.result ≡ false = (λ kept. elim c.else-not-is_core.branch [
      | else-not-is_core-via-then-not-is_core+else-can_act w ↦ sym (w.can_act.ensures units there) ∙ w.if-can_act.false
      | else-not-is_core-via-else-not-is_core w ↦ absurd (true≢false (sym kept ∙ ap not (sym c.is_core.ensures ∙ w.if-not-is_core.false)))
    ]) in
    none_more (λ event. not (is_core event)) test (from_offset (tile_slots chip tile) (c.args.turn % slots_per_tile chip)) c.loop-k.k
    c.tile_slot-event.result (c.loop-k.invariant units there) here.1 fails

pub returns-then-can_act-2-clause-first : goal.returns-then-can_act-2-clause-first
returns-then-can_act-2-clause-first g c units there =
    let chip = c.args.fabric.now.chip in
    let tile = c.args.station.now.tile in
    let test = enabled g.U.Unit.behaviour chip (seen_by c.args.station.now c.args.fabric.now units) in
    let long : c.slots_each-each.result ≡ slots_per_tile chip = c.slots_each-each.ensures ∙ ap slots_per_tile c.requires.mesh in
    sym (none_before (λ event. not (is_core event)) test (from_offset (tile_slots chip tile) (c.args.turn % slots_per_tile chip)) (Tick ∷ [])
    (λ k event below at kept. c.loop-k.invariant units there k event (omega (arith, below, slots_long chip tile c.args.turn, long, c.loop-k-test.false)) at kept)
    ∙ ap (λ (b : Bool). cond b (Some Tick) None) (sym (c.can_act-2.ensures units there) ∙ c.if-can_act-2.true))

pub returns-else-can_act-2-clause-first : goal.returns-else-can_act-2-clause-first
returns-else-can_act-2-clause-first g c units there =
    let chip = c.args.fabric.now.chip in
    let tile = c.args.station.now.tile in
    let test = enabled g.U.Unit.behaviour chip (seen_by c.args.station.now c.args.fabric.now units) in
    let long : c.slots_each-each.result ≡ slots_per_tile chip = c.slots_each-each.ensures ∙ ap slots_per_tile c.requires.mesh in
    sym (none_before (λ event. not (is_core event)) test (from_offset (tile_slots chip tile) (c.args.turn % slots_per_tile chip)) (Tick ∷ [])
    (λ k event below at kept. c.loop-k.invariant units there k event (omega (arith, below, slots_long chip tile c.args.turn, long, c.loop-k-test.false)) at kept)
    ∙ ap (λ (b : Bool). cond b (Some Tick) None) (sym (c.can_act-2.ensures units there) ∙ c.if-can_act-2.false))
