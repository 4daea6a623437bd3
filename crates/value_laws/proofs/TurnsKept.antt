-- Every event keeps the accesses in turn, whatever the cores are.
use Rattle.std.proofs.Common.{◌≡◌, ℕ, ◌≤◌, ◌⊎◌, false, Option, Some, None, List, [], ◌∷◌, ◌++◌, slice_get, refl, sym, ◌∙◌, subst, inl, inr, arith}
use Rattle.std.specs.Prelude.{IfSome}
use Rattle.std.specs.List.{AllByRecursion}
use Rattle.mesh_gen.specs.declared.port.Port.{Port}
use Rattle.report_text.specs.declared.access.Access.{Access}
use Rattle.report_text.specs.Accesses.{writes}
use Rattle.report_text.specs.declared.event.Event.{Event}
use Rattle.report_text.specs.declared.event.Event.TheVariants.{Tick, Core, Inject, Post, Take, Eject, Send, Hop, DataHop, DataEject}
use Rattle.doc_text.specs.Doc.{Doc}
use Rattle.chip_model.specs.declared.done.Done.{Done}
use Rattle.chip_model.specs.Chip.{chip_of}
use Rattle.chip_model.specs.Node.{Node, Performed, node_after_request, node_after_message, after_request_sent, after_message_sent}
use Rattle.chip_model.specs.Units.{UnitState, Acted, Behaviour}
use Rattle.chip_model.specs.ChipState.{ChipState}
use Rattle.chip_model.specs.Events.{with_access}
use Rattle.chip_model.specs.BehaviourLaws.{IsOfCore, Buffers, Answers, WorksAlone, Works, KeepsLaws}
use Rattle.chip_model.specs.Writers.{latest_time}
use Rattle.chip_model.specs.ChipInvariant.{ProtocolHolds}
use Rattle.chip_laws.specs.EventSteps.{ChangesUnit, CoreWorks, RequestComes, MessageComes, EventDoes}
use Rattle.chip_laws.specs.Meetings.{UnitsFit}
use Rattle.chip_laws.proofs.DoneTimes.{delivered_time, arrived_time, accessed_time}
use Rattle.chip_laws.proofs.Each.{each_from}
use Rattle.chip_laws.proofs.InOrderEvents.{UnitIs, unit_is}
use Rattle.chip_laws.proofs.UnitFrames.{each_unit, same_units}
use Rattle.value_laws.specs.Sequences.{AllPairs, Differs, Succeeds, AreSucceeding}
use Rattle.value_laws.specs.Numbers.{NumbersHold, AreInTurn}
use Rattle.value_laws.proofs.Sequences.{pairs_push}
use Rattle.value_laws.proofs.UnitNumbers.{numbers_same, numbers_buffers, numbers_of, succeeds_all, differs_all, numbers_away}

-- ---- what a unit answers

-- nothing, and its stores are as they were, or one more; or an access of its core, not earlier than those of its tile
abbrev pub Turns : ChipState → ℕ → UnitState → UnitState → Option Access → Type 0
Turns s t unit after None = (after.buffered ≡ unit.buffered) ⊎ Buffers unit after
Turns s t unit after (Some a) = (a.tile ≡ t) × IsOfCore unit after a × AllByRecursion (λ b. b.tile ≡ t → b.time ≤ a.time) s.accesses

not_earlier : (s : ChipState) (t time : ℕ) (unit : UnitState) → UnitIs s t unit → latest_time unit.node ≤ time
    → AllByRecursion (λ b. b.tile ≡ t → b.time ≤ time) s.accesses
not_earlier s t time unit is late =
    each_from (λ b. b.tile ≡ t → b.time ≤ time) s.accesses (λ i b at own. let early = is.late i b at own in omega (arith, early, late))

answers_turn : (s : ChipState) (t : ℕ) (unit : UnitState) (step : Performed) (acted : Acted) → UnitIs s t unit
    → ((one : Done) → step.1 ≡ Some one → latest_time unit.node ≤ one.time) → Answers unit acted.0 step.1 acted.1 → Turns s t unit acted.0 acted.1
answers_turn s t unit step acted is late = by step.1 refl where
  by : (done : Option Done) → step.1 ≡ done → Answers unit acted.0 done acted.1 → Turns s t unit acted.0 acted.1
  by None e answers = subst (Turns s t unit acted.0) (sym answers.0) answers.1
  by (Some one) e answers =
      subst (Turns s t unit acted.0) (sym answers.1) (is.tile, answers.2, not_earlier s t one.time unit is (late one e))

alone_turn : (s : ChipState) (t : ℕ) (unit : UnitState) (acted : Acted) → UnitIs s t unit → WorksAlone unit acted → Turns s t unit acted.0 acted.1
alone_turn s t unit acted is alone = by acted.1 alone.reads alone.buffers where
  by : (answer : Option Access)
      → IfSome answer (λ a. (writes a.kind ≡ false) × (a.tile ≡ unit.node.tile) × (a.time ≡ unit.node.delivered) × IsOfCore unit acted.0 a)
      → (answer ≡ None → (acted.0.buffered ≡ unit.buffered) ⊎ Buffers unit acted.0) → Turns s t unit acted.0 answer
  by None reads buffers = buffers refl
  by (Some a) reads buffers =
      let time = reads.2 in
      (reads.1 ∙ is.tile, reads.3, not_earlier s t a.time unit is (omega (arith, time, is.latest)))

-- ---- one unit changes

module _ (s new : ChipState) (turn : AreInTurn s) (t : ℕ) (unit after : UnitState) (c : ChangesUnit s new t unit after)
    (steps : unit.core.steps ≤ after.core.steps) where
  own : NumbersHold s.accesses t unit
  own = turn.numbers t unit c.at

  pub unit_turns : (answer : Option Access) → new.accesses ≡ with_access answer s.accesses → Turns s t unit after answer → AreInTurn new
  unit_turns answer accesses does = by answer accesses does where
    all : (xs : List Access) → new.accesses ≡ xs → AreSucceeding xs → AllPairs Differs xs
        → ((u : ℕ) (x : UnitState) → slice_get new.units u ≡ Some x → NumbersHold xs u x) → AreInTurn new
    all xs e succeed differ numbers = record {
      succeed = subst AreSucceeding (sym e) succeed;
      differ = subst (AllPairs Differs) (sym e) differ;
      numbers = λ u x at. subst (λ (l : List Access). NumbersHold l u x) (sym e) (numbers u x at);
    }

    none : NumbersHold s.accesses t after → new.accesses ≡ s.accesses → AreInTurn new
    none here e = all s.accesses e turn.succeed turn.differ
        (each_unit (NumbersHold s.accesses) s new t unit after c here (λ u other away at. turn.numbers u other at))

    by : (o : Option Access) → new.accesses ≡ with_access o s.accesses → Turns s t unit after o → AreInTurn new
    by None e (inl same) = none (numbers_same t unit after s.accesses own steps same) e
    by None e (inr enters) = none (numbers_buffers t unit after s.accesses own steps enters) e
    by (Some a) e (tile, of_core, times) =
        all (s.accesses ++ a ∷ []) e
        (pairs_push Succeeds s.accesses a turn.succeed (succeeds_all t unit after s.accesses own steps a tile of_core times))
        (pairs_push Differs s.accesses a turn.differ (differs_all t unit after s.accesses own steps a tile of_core))
        (each_unit (NumbersHold (s.accesses ++ a ∷ [])) s new t unit after c (numbers_of t unit after s.accesses own steps a of_core)
        (λ u other away at. numbers_away s.accesses a t u other tile away (turn.numbers u other at)))

-- no unit changes
pub same_turns : (s new : ChipState) → AreInTurn s → new.units ≡ s.units → new.accesses ≡ s.accesses → AreInTurn new
same_turns s new turn units accesses = record {
  succeed = subst AreSucceeding (sym accesses) turn.succeed;
  differ = subst (AllPairs Differs) (sym accesses) turn.differ;
  numbers = same_units (NumbersHold new.accesses) s new units
      (λ u other at. subst (λ (xs : List Access). NumbersHold xs u other) (sym accesses) (turn.numbers u other at));
}

-- ---- all events

module _ (b : Behaviour) (laws : KeepsLaws b) (d : Doc) (s new : ChipState) (holds : ProtocolHolds d s) (fit : UnitsFit b laws s) (turn : AreInTurn s) where
  node_turns : (t : ℕ) (unit : UnitState) (node : Node) → ChangesUnit s new t unit (record unit { node = node }) → new.accesses ≡ s.accesses → AreInTurn new
  node_turns t unit node c accesses =
      let none : Turns s t unit (record unit { node = node }) None = inl refl in
      unit_turns s new turn t unit (record unit { node = node }) c (omega arith) None accesses none

  core_turns : (t : ℕ) → CoreWorks b s new t → AreInTurn new
  core_turns t does = by (laws.stepped does.unit (fit t does.unit does.changes.at) does.ready).1 where
    is : UnitIs s t does.unit
    is = unit_is d s t does.unit holds does.changes.at

    by : Works does.unit (b.stepped does.unit) → AreInTurn new
    by (inl alone) =
        unit_turns s new turn t does.unit (b.stepped does.unit).0 does.changes alone.same.steps (b.stepped does.unit).1 does.accesses
        (alone_turn s t does.unit (b.stepped does.unit) is alone)
    by (inr tried) =
        unit_turns s new turn t does.unit (b.stepped does.unit).0 does.changes tried.goes_on.same.steps (b.stepped does.unit).1 does.accesses
        (answers_turn s t does.unit tried.left (b.stepped does.unit) is
        (λ one done. let time = accessed_time tried.access does.unit.node tried.left one tried.tried done in omega (arith, time, is.latest))
        tried.goes_on.answers)

  request_turns : (t : ℕ) → RequestComes b (chip_of d) s new t → AreInTurn new
  request_turns t does =
      let is = unit_is d s t does.unit holds does.changes.at in
      let goes = (laws.delivered does.request does.unit (fit t does.unit does.changes.at)).1.goes_on in
      unit_turns s new turn t does.unit (b.delivered does.request does.unit).0 does.changes goes.same.steps (b.delivered does.request does.unit).1 does.accesses
      (answers_turn s t does.unit (node_after_request does.request does.unit.node) (b.delivered does.request does.unit) is
      (λ one done. let time = delivered_time does.request does.unit.node one done in omega (arith, time, is.latest)) goes.answers)

  message_turns : (t : ℕ) (port : Port) (slot : ℕ) → MessageComes b s new t port slot → AreInTurn new
  message_turns t port slot does =
      let is = unit_is d s t does.unit holds does.changes.at in
      let goes = (laws.received does.msg does.unit (fit t does.unit does.changes.at)).1.goes_on in
      unit_turns s new turn t does.unit (b.received does.msg does.unit).0 does.changes goes.same.steps (b.received does.msg does.unit).1 does.accesses
      (answers_turn s t does.unit (node_after_message does.msg does.unit.node) (b.received does.msg does.unit) is
      (arrived_time does.msg does.unit.node) goes.answers)

  pub turns_after : (event : Event) → EventDoes b (chip_of d) s new event → AreInTurn new
  turns_after Tick does = same_turns s new turn does.units does.accesses
  turns_after (Core t) does = core_turns t does
  turns_after (Inject t) does = node_turns t does.unit (after_request_sent does.unit.node) does.changes does.accesses
  turns_after (Post t) does = same_turns s new turn does.units does.accesses
  turns_after (Take t) does = same_turns s new turn does.units does.accesses
  turns_after (Eject t) does = request_turns t does
  turns_after (Send t) does = node_turns t does.unit (after_message_sent does.unit.node) does.changes does.accesses
  turns_after (Hop r port slot out) does = same_turns s new turn does.units does.accesses
  turns_after (DataHop r port slot) does = same_turns s new turn does.units does.accesses
  turns_after (DataEject r port slot) does = message_turns r port slot does
