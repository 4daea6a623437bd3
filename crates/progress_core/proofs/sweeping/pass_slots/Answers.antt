use Rattle.std.proofs.Common.{◌≡◌, ℕ, ◌+◌, ◌-◌, ◌*◌, ◌/◌, ◌<◌, List, sym, ◌∙◌, ap, subst, arith}
use Rattle.report_text.specs.declared.event.Event.{Event}
use Rattle.chip_model.specs.Chip.{chip_of, tile_count}
use Rattle.chip_model.specs.Schedules.{slots_per_tile}
use Rattle.progress_core.specs.Sweeping.{SweepsThrough}
use Rattle.progress_core.proofs.TilePlaces.{tile_between, first_of_tile, inside}
use Rattle.progress_core.proofs.sweeping.pass_slots.Goals as goal

pub returns-then-each-last-clause-swept : goal.returns-then-each-last-clause-swept
returns-then-each-last-clause-swept g c =
    let old = c.args.machine.now in
    let chip = chip_of old.document in
    let k = c.args.k in
    let each = c.slots_each-each.result in
    let tile = (k - 1) / each in
    let many : each ≡ slots_per_tile chip = c.slots_each-each.ensures in
    let most = ap (λ (n : ℕ). tile_count chip * n) many in
    let here : tile < tile_count chip = inside k c.args.last each (tile_count chip) (omega (arith, many)) c.if-k-gt0.true c.if-each-last.true c.requires.order
    (omega (arith, c.requires.slots, most)) in
    let first : k ≡ 1 + tile * slots_per_tile chip = first_of_tile k each c.if-k-gt0.true c.if-k-each-eq0.true ∙ ap (λ (n : ℕ). 1 + tile * n) many in
    subst (λ (events : List Event). SweepsThrough g.U.Unit.behaviour c.args.budget events old c.sweep_tile.new.machine)
    (sym (tile_between chip tile k (k + each) here first (ap (λ (n : ℕ). k + n) many))) c.sweep_tile.ensures
