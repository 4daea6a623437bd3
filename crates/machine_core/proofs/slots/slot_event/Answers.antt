use Rattle.std.proofs.Common.{◌≡◌, ℕ, ◌-◌, ◌*◌, ◌/◌, ◌%◌, ◌<◌, arith, sym, subst, ap, div-add-mod', mod-lt, Some}
use Rattle.std.specs.Prelude.{slice_get}
use Rattle.report_text.specs.declared.event.Event.TheVariants.{Tick}
use Rattle.chip_model.specs.Chip.{chip_of_mesh, tile_count}
use Rattle.chip_model.specs.Schedules.{slots}
use Rattle.machine_core.proofs.SlotPlaces.{tick_at, tile_slot_at, quotient_below}
use Rattle.machine_core.proofs.slots.slot_event.Goals as goal

pub returns-then-k-eq0 : goal.returns-then-k-eq0
returns-then-k-eq0 c = subst (λ (n : ℕ). slice_get (slots (chip_of_mesh c.args.mesh.now)) n ≡ Some Tick) (sym c.if-k-eq0.true) (tick_at
    (chip_of_mesh c.args.mesh.now))

pub returns : goal.returns
returns c =
    let chip = chip_of_mesh c.args.mesh.now in
    let each = c.slots_each-each.result in
    let rest = c.args.k - 1 in
    let below : rest % each < each = mod-lt rest (omega (arith, c.slots_each-each.ensures)) in
    let inside : rest / each < tile_count chip = quotient_below rest (tile_count chip) each (omega (arith, c.slots_each-each.ensures)) (omega
    (arith, c.requires, c.if-k-eq0.false, ap (λ n. tile_count chip * n) c.slots_each-each.ensures)) in
    tile_slot_at chip (rest / each) (rest % each) c.args.k c.tile_slot.result inside (omega (arith, below, c.slots_each-each.ensures))
    (omega (arith, c.if-k-eq0.false, div-add-mod' rest each, ap (λ n. rest / each * n) c.slots_each-each.ensures)) c.tile_slot.ensures
