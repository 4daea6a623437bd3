use Rattle.std.proofs.Common.{◌≡◌, ◌+◌, ◌<◌, ◌≤◌, List, length, Some, None, sym, ◌∙◌, subst}
use Rattle.std.specs.Prelude.{find, OnOk, OnErr}
use Rattle.chip_model.specs.Units.{UnitState}
use Rattle.chip_model.specs.Runs.{enabled}
use Rattle.fabric_core.specs.Fabric.{FabricState, event_count}
use Rattle.machine_core.specs.Stations.{IsDone, IsRefused, seen_by}
use Rattle.machine_core.specs.Meetings.{AreOfRun}
use Rattle.round_laws.specs.Turns.{tried}
use Rattle.tile_pool.specs.Stands.{Stands}
use Rattle.tile_pool.proofs.Turning.{ChipIsKnown}
use Rattle.tile_pool.proofs.TurnCalls.{can_be_named, found_nothing, has_room, meets, stands_on, turn_did}
use Rattle.tile_pool.proofs.round_fabric.RoundFabric.take_turn.Goals as goal

pub first_possible-requires-clause-run : goal.first_possible-requires-clause-run
first_possible-requires-clause-run g c κs within =
    let b = g.U.Unit.behaviour in
    let r = g.M.Start.start in
    let known : ChipIsKnown b r.fabric.chip = record {
      noted = c.bound_laws.ensures.noted b r.fabric.chip;
      events = record { does = c.event_laws.ensures.does b r.fabric.chip; steps = c.event_laws.ensures.journal b r.fabric.chip };
      slots = c.slot_laws.ensures.at;
    } in
    let stands : Stands b r c.args.self.now = subst (Stands b r) c.self.view_is c.self.invariant in
    subst (AreOfRun b c.args.station.now) (sym (c.deref.ensures ∙ c.self.view_is))
    (meets b r known c.args.self.now c.args.station.now stands c.requires.alone c.requires.may)

pub returns-in_default : goal.returns-in_default
returns-in_default g c =
    let b = g.U.Unit.behaviour in
    let r = g.M.Start.start in
    let station = c.args.station.now in
    let known : ChipIsKnown b r.fabric.chip = record {
      noted = c.bound_laws.ensures.noted b r.fabric.chip;
      events = record { does = c.event_laws.ensures.does b r.fabric.chip; steps = c.event_laws.ensures.journal b r.fabric.chip };
      slots = c.slot_laws.ensures.at;
    } in
    let stands : Stands b r c.args.self.now = subst (Stands b r) c.self.view_is c.self.invariant in
    found_nothing b r known c.args.self.now station stands c.requires.alone c.requires.may c.args.turn c.requires.turn
    (subst (λ (f : FabricState). (units : List UnitState) → station.tile < length units
    → None ≡ find (enabled b f.chip (seen_by station f units)) (tried f.chip c.args.turn station.tile)) (c.deref.ensures ∙ c.self.view_is)
    c.in_default.ensures.first)

pub act-done-requires-clause-run : goal.act-done-requires-clause-run
act-done-requires-clause-run g c κs within =
    let b = g.U.Unit.behaviour in
    let r = g.M.Start.start in
    let known : ChipIsKnown b r.fabric.chip = record {
      noted = c.bound_laws.ensures.noted b r.fabric.chip;
      events = record { does = c.event_laws.ensures.does b r.fabric.chip; steps = c.event_laws.ensures.journal b r.fabric.chip };
      slots = c.slot_laws.ensures.at;
    } in
    let stands : Stands b r c.args.self.now = subst (Stands b r) c.self.view_is c.self.invariant in
    subst (AreOfRun b c.args.station.now) (sym (c.deref_mut.ensures.value ∙ c.self.view_is))
    (meets b r known c.args.self.now c.args.station.now stands c.requires.alone c.requires.may)

pub act-done-requires-clause-room : goal.act-done-requires-clause-room
act-done-requires-clause-room g c κs within =
    let b = g.U.Unit.behaviour in
    let r = g.M.Start.start in
    let station = c.args.station.now in
    let known : ChipIsKnown b r.fabric.chip = record {
      noted = c.bound_laws.ensures.noted b r.fabric.chip;
      events = record { does = c.event_laws.ensures.does b r.fabric.chip; steps = c.event_laws.ensures.journal b r.fabric.chip };
      slots = c.slot_laws.ensures.at;
    } in
    let stands : Stands b r c.args.self.now = subst (Stands b r) c.self.view_is c.self.invariant in
    subst (λ (f : FabricState). event_count f + station.cores + 1 ≤ f.room) (sym (c.deref_mut.ensures.value ∙ c.self.view_is))
    (has_room b r known c.args.self.now station stands c.requires.alone c.requires.may)

pub returns : goal.returns
returns g c =
    let b = g.U.Unit.behaviour in
    let r = g.M.Start.start in
    let station = c.args.station.now in
    let event = c.in-Some.event in
    let known : ChipIsKnown b r.fabric.chip = record {
      noted = c.bound_laws.ensures.noted b r.fabric.chip;
      events = record { does = c.event_laws.ensures.does b r.fabric.chip; steps = c.event_laws.ensures.journal b r.fabric.chip };
      slots = c.slot_laws.ensures.at;
    } in
    let stands : Stands b r c.args.self.now = subst (Stands b r) c.self.view_is c.self.invariant in
    turn_did b r known c.args.self.now station stands c.requires.alone c.requires.may c.args.turn event c.act-done.result c.act-done.new.self
    c.act-done.new.fabric c.requires.turn
    (subst (λ (f : FabricState). (units : List UnitState) → station.tile < length units
    → Some event ≡ find (enabled b f.chip (seen_by station f units)) (tried f.chip c.args.turn station.tile)) (c.deref.ensures ∙ c.self.view_is)
    c.in-Some.ensures.first)
    (c.in-Some.ensures.within (can_be_named b r known c.args.self.now station stands c.requires.alone c.requires.may))
    (subst (λ (f : FabricState). OnOk c.act-done.result (IsDone b event station f c.act-done.new.self c.act-done.new.fabric))
    (c.deref_mut.ensures.value ∙ c.self.view_is) c.act-done.ensures.ok)
    (subst (λ (f : FabricState). OnErr c.act-done.result (IsRefused b f.chip event station f)) (c.deref_mut.ensures.value ∙ c.self.view_is)
    c.act-done.ensures.err)

pub invariant_of-self : goal.invariant_of-self
invariant_of-self g c =
    let b = g.U.Unit.behaviour in
    let r = g.M.Start.start in
    stands_on b r c.args.station.now c.args.self.now c.act-done.new.self c.act-done.new.fabric (subst (Stands b r) c.self.view_is c.self.invariant) (returns g c)
