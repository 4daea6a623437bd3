use Rattle.std.proofs.Common.{◌≡◌, ℕ, ◌+◌, ◌≤◌, true, false, [], ◌∷◌, length, refl, sym, ◌∙◌, ap, subst, arith}
use Rattle.std.specs.Prelude.{count_by, is_none}
use Rattle.flow_laws.proofs.OwedRequests.{some_tiles}
use Rattle.doc_text.specs.Doc.{Doc}
use Rattle.chip_model.specs.Chip.{chip_of, tile_count}
use Rattle.round_laws.specs.Rounds.{DoesRound, GoesOn, is_over}
use Rattle.tile_pool.proofs.GoingOn.{still_going}
use Rattle.tile_pool.proofs.RunsOfRounds.{compared, left_of, not_ended, round_taken, taken, taken_grows}
use Rattle.tile_pool.proofs.runs.run_tiles.Goals as goal
use Rattle.tile_pool.proofs.runs.run_tiles.Goals.{then-eq, else-eq}

pub loop-finish-init : goal.loop-finish-init
loop-finish-init g c = record {
  rounds = [];
  lead = refl;
  left_out = refl;
  number = refl;
  few_left = omega arith;
  began = omega arith;
  few = omega (arith, c.requires.within, some_tiles (chip_of c.args.machine.document) c.stands.ensures.within.fits.chip.tiles);
  document = refl;
  room = refl;
}

pub returns-in-Some-end_of-clause-few : goal.returns-in-Some-end_of-clause-few
returns-in-Some-end_of-clause-few g c =
    let going = still_going c.args.budget c.loop-finish.machine.state (not_ended c.end_of.result (is_over c.args.budget c.loop-finish.machine.state) c.end_of.ensures.over c.in_default.is) in
    omega (arith, going.0, c.go_on.ensures.count, some_tiles (chip_of c.args.machine.document) c.stands.ensures.within.fits.chip.tiles)

pub loop-finish-smaller : goal.loop-finish-smaller
loop-finish-smaller g c =
    let b = g.U.Unit.behaviour in
    let document : Doc = c.args.machine.document in
    let between = c.go_on.new.machine in
    let same : between.document ≡ document = c.go_on.ensures.document ∙ c.loop-finish.invariant.document in
    let going = still_going c.args.budget between.state (not_ended c.end_of-in-loop-finish.result (is_over c.args.budget between.state)
    c.end_of-in-loop-finish.ensures.over c.in_default-end_of.is) in
    let stands = c.stands-in-loop-finish.ensures in
    let units = (c.reachable_laws.ensures.reached b c.kind_laws.ensures between.document between.state.journal between.state stands.within.fits stands.reached).protocol.units in
    let grows = taken_grows b c.loop-finish.turn (tile_count (chip_of between.document)) between c.round-next.result.0 (c.bound_laws.ensures.noted b (chip_of between.document)) units
    c.round-next.result.1 c.round-next.ensures.does in
    omega (arith, grows.0, c.go_on.ensures.count, c.loop-finish.invariant.few, going.0)

pub loop-finish-preserved : goal.loop-finish-preserved
loop-finish-preserved g c =
    let b = g.U.Unit.behaviour in
    let document : Doc = c.args.machine.document in
    let inv = c.loop-finish.invariant in
    let before = c.loop-finish.machine in
    let between = c.go_on.new.machine in
    let next = c.round-next.result.0 in
    let rounded = c.round-next.result.1 in
    let same : between.document ≡ document = c.go_on.ensures.document ∙ inv.document in
    let not_over = not_ended c.end_of-in-loop-finish.result (is_over c.args.budget between.state) c.end_of-in-loop-finish.ensures.over c.in_default-end_of.is in
    let going = still_going c.args.budget between.state not_over in
    let stands = c.stands-in-loop-finish.ensures in
    let units = (c.reachable_laws.ensures.reached b c.kind_laws.ensures between.document between.state.journal between.state stands.within.fits stands.reached).protocol.units in
    let grows = taken_grows b c.loop-finish.turn (tile_count (chip_of between.document)) between next (c.bound_laws.ensures.noted b (chip_of between.document)) units
    rounded c.round-next.ensures.does in
    let goes : GoesOn b (chip_of document) c.args.budget before.state between.state =
    subst (λ (d : Doc). GoesOn b (chip_of d) c.args.budget before.state between.state) inv.document c.go_on.ensures.goes in
    let does : DoesRound b (chip_of document) (length inv.rounds) (taken rounded) between.state next.state =
    subst (λ (d : Doc). DoesRound b (chip_of d) (length inv.rounds) (taken rounded) between.state next.state) same
    (subst (λ (turn : ℕ). DoesRound b (chip_of between.document) turn (taken rounded) between.state next.state) (sym inv.number)
    (round_taken b c.loop-finish.turn between next rounded c.round-next.ensures.does)) in
    let left : (count_by is_none (taken rounded ∷ inv.rounds) ≡ c.if-eq.left) × (c.if-eq.left ≤ c.loop-finish.left + 1) = elim c.if-eq.branch [
      | then-eq w ↦ left_of rounded inv.rounds c.loop-finish.left c.if-eq.left true (compared rounded true (sym c.eq.ensures ∙ w.if-eq.true)) inv.left_out w.left-is
      | else-eq w ↦ left_of rounded inv.rounds c.loop-finish.left c.if-eq.left false (compared rounded false (sym c.eq.ensures ∙ w.if-eq.false)) inv.left_out w.left-is
    ] in
    record {
      rounds = taken rounded ∷ inv.rounds;
      lead = (before.state, between.state, inv.lead, goes, not_over, does);
      left_out = left.0;
      number = omega (arith, inv.number);
      few_left = omega (arith, left.1, inv.few_left);
      began = omega (arith, grows.0, c.go_on.ensures.count, inv.began);
      few = omega (arith, grows.1, going.0, ap (λ (d : Doc). tile_count (chip_of d)) same);
      document = c.round-next.ensures.document ∙ same;
      room = c.round-next.ensures.room ∙ c.go_on.ensures.room ∙ inv.room;
    }
