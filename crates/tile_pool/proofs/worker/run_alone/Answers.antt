use Rattle.std.proofs.Common.{◌≡◌, ℕ, suc, ◌+◌, ◌-◌, refl, sym, ◌∙◌, ap, subst, arith}
use Rattle.report_text.specs.declared.event.Event.TheVariants.{Core}
use Rattle.chip_model.specs.Chip.{Chip}
use Rattle.fabric_core.specs.Fabric.{FabricState}
use Rattle.machine_core.specs.Stations.{StationState, TakesChip, after_private}
use Rattle.round_laws.specs.Turns.{core_steps, most_alone}
use Rattle.tile_pool.specs.Workers.{CoresLead}
use Rattle.tile_pool.proofs.Refusals.{of_done, of_refused}
use Rattle.tile_pool.proofs.CoreRuns.{none_lead, one_leads, steps_ready, steps_not_ready}
use Rattle.tile_pool.proofs.worker.run_alone.Goals as goal

pub loop-init : goal.loop-init
loop-init g c = record {
  tile = refl;
  lead = none_lead g.U.Unit.behaviour c.args.station.now c.requires.settled;
  cores = c.requires.settled.cores;
  left = omega arith;
  steps = omega arith;
  within = omega arith;
}

pub private-requires-clause-few : goal.private-requires-clause-few
private-requires-clause-few g c κs within = omega (arith, c.loop.invariant.cores, c.loop-test.true)

pub private-requires-clause-steps : goal.private-requires-clause-steps
private-requires-clause-steps g c κs within = omega (arith, c.loop.invariant.steps, c.loop-test.true, c.requires.steps)

pub returns-then-is_err : goal.returns-then-is_err
returns-then-is_err g c =
    let b = g.U.Unit.behaviour in
    let so_far = c.loop.invariant in
    let refused = sym c.is_err.ensures.value ∙ c.if-is_err.true in
    let same : c.private.new.self ≡ c.loop.station = of_refused c.private.result refused c.private.ensures.kept in
    let none : core_steps b (16 - c.loop.counter) c.loop.station.unit ≡ 0 =
    steps_not_ready b (16 - c.loop.counter) c.loop.station.unit (of_refused c.private.result refused c.private.ensures.err) in
    let all : c.loop.station.cores ≡ core_steps b most_alone c.args.station.now.unit = omega (arith, so_far.cores, so_far.left, none) in
    record {
      tile = ap (λ (s : StationState). s.tile) same ∙ so_far.tile;
      lead = subst (λ (s : StationState). CoresLead b c.args.station.now.unit s) (sym same) so_far.lead;
      cores = ap (λ (s : StationState). s.cores) same ∙ all;
    }

pub loop-preserved : goal.loop-preserved
loop-preserved g c =
    let b = g.U.Unit.behaviour in
    let so_far = c.loop.invariant in
    let was = c.loop.station in
    let done = sym c.is_err.ensures.value ∙ c.if-is_err.false in
    let same : c.private.new.self ≡ after_private b was = of_done c.private.result done c.private.ensures.ok in
    let takes : (chip : Chip) (fabric : FabricState) → TakesChip b chip (Core was.tile) was fabric (after_private b was) fabric =
    (λ chip fabric. subst (λ (s : StationState). TakesChip b chip (Core was.tile) was fabric s fabric) same
    (of_done c.private.result done c.private.ensures.core chip fabric)) in
    let one : core_steps b (16 - c.loop.counter) was.unit ≡ suc (core_steps b (16 - (c.loop.counter + 1)) (b.stepped was.unit).0) =
    steps_ready b (16 - (c.loop.counter + 1)) (16 - c.loop.counter) was.unit (omega (arith, c.loop-test.true))
    (of_done c.private.result done c.private.ensures.ready) in
    record {
      tile = ap (λ (s : StationState). s.tile) same ∙ so_far.tile;
      lead = subst (λ (s : StationState). CoresLead b c.args.station.now.unit s) (sym same) (one_leads b c.args.station.now.unit was so_far.lead takes);
      cores = omega (arith, ap (λ (s : StationState). s.cores) same, so_far.cores);
      left = omega (arith, so_far.left, one, ap (λ (s : StationState). core_steps b (16 - (c.loop.counter + 1)) s.unit) same);
      steps = omega (arith, ap (λ (s : StationState). s.unit.core.steps) same, c.count_laws.ensures.stepped was.unit, so_far.steps);
      within = omega (arith, c.loop-test.true);
    }

pub returns : goal.returns
returns g c =
    let so_far = c.loop.invariant in
    let end : c.loop.counter ≡ 16 = omega (arith, so_far.within, c.loop-test.false) in
    record {
      tile = so_far.tile;
      lead = so_far.lead;
      cores = so_far.cores ∙ omega (arith, so_far.left, ap (λ (n : ℕ). core_steps g.U.Unit.behaviour (16 - n) c.loop.station.unit) end);
    }
