use Rattle.std.proofs.Common.{◌≡◌, ◌<◌, ◌++◌, ◌∷◌, [], ap, arith, Some, length}
use Rattle.chip_model.specs.Chip.{chip_of}
use Rattle.chip_model.specs.Runs.{after}
use Rattle.machine_core.specs.Machine.{MachineState}
use Rattle.progress_core.proofs.SweptSlots.{stepped_one, stepped_within, map_ok, map_err}
use Rattle.progress_core.proofs.tiles.try_event.Goals as goal

pub returns-then-length-from : goal.returns-then-length-from
returns-then-length-from g c =
    let old = c.args.machine.now in
    let new = c.step-done.new.self in
    let b = g.U.Unit.behaviour in
    let chip = chip_of old.document in
    let event = c.args.event in
    let less : length old.state.journal < c.args.budget = omega (arith, c.if-length-from.true, c.length.ensures.length, c.from.ensures) in
    let kept = map_err (new ≡ old) (new.state ≡ old.state) c.step-done.result (ap (λ (machine : MachineState). machine.state)) c.step-done.ensures.kept in
    let noted = map_ok (after b chip old.state event ≡ Some new.state) (new.state.journal ≡ old.state.journal ++ event ∷ []) c.step-done.result
    (c.bound_laws.ensures.noted b chip old.state new.state event) c.step-done.ensures.ok in
    record {
      same = record { document = c.step-done.ensures.document; room = c.step-done.ensures.room };
      swept_is = stepped_one b chip c.args.budget old.state new.state event c.step-done.result less (λ ends. c.progresses.ensures.stops ends event) c.step-done.ensures.ok c.step-done.ensures.err kept;
      within = stepped_within b chip c.args.budget old.state new.state event c.step-done.result less noted kept;
    }
