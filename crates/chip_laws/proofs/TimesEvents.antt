-- The times of the accesses, and who performed them, over every event.
use Rattle.std.proofs.Common.{◌≡◌, ◌⊎◌, ℕ, zero, suc, ◌+◌, ◌<◌, ◌≤◌, true, false, refl, sym, ◌∙◌, ap, subst, arith, inl, inr, Option, Some, None, List, [], ◌∷◌, ◌++◌, take, length, slice_get}
use Rattle.std.specs.Prelude.{IfSome}
use Rattle.std.proofs.lemmas.Bool.{false≢true}
use Rattle.std.proofs.lemmas.List.{take-append-le, length-append}
use Rattle.std.proofs.lemmas.Option.{same_Some, slice_get_within}
use Rattle.mesh_gen.specs.declared.request.Request.{Request}
use Rattle.report_text.specs.declared.access.Access.{Access}
use Rattle.report_text.specs.declared.event.Event.{Event}
use Rattle.report_text.specs.declared.event.Event.TheVariants.{Tick, Core, Inject, Post, Take, Eject, Send, Hop, DataHop, DataEject}
use Rattle.report_text.specs.Accesses.{writes}
use Rattle.doc_text.specs.Doc.{Doc}
use Rattle.chip_model.specs.declared.done.Done.{Done}
use Rattle.chip_model.specs.declared.owner.Owner.TheVariants.{Tile}
use Rattle.chip_model.specs.Chip.{Chip, chip_of, tile_count, line_of}
use Rattle.chip_model.specs.Misses.{Demand}
use Rattle.chip_model.specs.Node.{Performed, after_request_sent, after_message_sent}
use Rattle.chip_model.specs.Units.{UnitState, Acted, Behaviour}
use Rattle.chip_model.specs.ChipState.{ChipState}
use Rattle.chip_model.specs.Events.{with_access}
use Rattle.chip_model.specs.BehaviourLaws.{KeepsLaws, numbered, IsOfCore, Answers, GoesOn, WorksAlone, Works}
use Rattle.chip_model.specs.Witness.{is_write}
use Rattle.chip_model.specs.Ownership.{writer}
use Rattle.chip_model.specs.Writers.{time_of_demand, latest_time, IsTimely}
use Rattle.chip_model.specs.ChipInvariant.{ProtocolHolds}
use Rattle.chip_laws.specs.EventSteps.{ChangesUnit, EventDoes}
use Rattle.chip_laws.proofs.Options.{none_some}
use Rattle.chip_laws.specs.Meetings.{UnitsFit}
use Rattle.chip_laws.proofs.UnitFrames.{each_unit}
use Rattle.chip_laws.proofs.OrderGrows.{Grows, order_grows, injected_order, delivered_order}
use Rattle.chip_laws.proofs.OrderFrames.{KnownOf, DeliversNext, AllKnown, holds_at}
use Rattle.chip_laws.proofs.TimesSteps.{IsInTime, StepInTime, delivered_in_time, arrived_in_time, accessed_in_time, request_sent_time, message_sent_time}

-- ---- one access more
get_last : {X : Type 0} (xs : List X) (last : X) (k : ℕ) (x : X) → slice_get (xs ++ last ∷ []) k ≡ Some x → (slice_get xs k ≡ Some x) ⊎ (last ≡ x)
get_last {X} [] last zero x is = inr (same_Some last x is)
get_last {X} [] last (suc k) x is = none_some x is
get_last {X} (y ∷ xs) last zero x is = inl is
get_last {X} (y ∷ xs) last (suc k) x is = get_last xs last k x is

-- an access after an event was there before, or is the one that the event performed
was_or_answer : (answer : Option Access) (accesses : List Access) (place : ℕ) (access : Access) → slice_get (with_access answer accesses) place ≡ Some access
    → (slice_get accesses place ≡ Some access) ⊎ (answer ≡ Some access)
was_or_answer None accesses place access is = inl is
was_or_answer (Some one) accesses place access is = elim (get_last accesses one place access is) [
  | inl before ↦ inl before
  | inr same ↦ inr (ap (λ (a : Access). Some a) same)
]

-- an access of a tile that comes in time, a write where the tile may write its line
pub record AccessInTime (ordered : List Request) (tile latest : ℕ) (a : Access) : Type 0 where
  pub tile_is : a.tile ≡ tile
  pub time : a.time ≤ latest
  pub writer : is_write a ≡ true → (writer (line_of a.address) (take a.time ordered) ≡ Tile a.tile) × (a.time ≤ length ordered)

-- what a unit became, and the access that it performed
pub record UnitInTime (ordered : List Request) (unit : UnitState) (acted : Acted) : Type 0 where
  pub later : latest_time unit.node ≤ latest_time acted.0.node
  pub answer : (a : Access) → acted.1 ≡ Some a → AccessInTime ordered unit.node.tile (latest_time acted.0.node) a

numbered_in_time : (ordered : List Request) (unit : UnitState) (done : Done) (n latest : ℕ) → IsInTime ordered unit.node.tile latest done
    → AccessInTime ordered unit.node.tile latest (numbered unit done n)
numbered_in_time ordered unit done n latest is = record { tile_is = refl; time = is.time; writer = is.writer }

answers_in_time : (ordered : List Request) (unit after : UnitState) (done : Option Done) (answer : Option Access) (latest : ℕ) → Answers unit after done answer
    → ((one : Done) → done ≡ Some one → IsInTime ordered unit.node.tile latest one) → (a : Access) → answer ≡ Some a → AccessInTime ordered unit.node.tile latest a
answers_in_time ordered unit after None answer latest answers does a is = none_some a (sym answers.0 ∙ is)
answers_in_time ordered unit after (Some one) answer latest answers does a is =
    subst (AccessInTime ordered unit.node.tile latest) (same_Some (numbered unit one answers.0) a (sym answers.1 ∙ is))
    (numbered_in_time ordered unit one answers.0 latest (does one refl))

goes_in_time : (ordered : List Request) (unit : UnitState) (step : Performed) (acted : Acted) → GoesOn unit step acted → StepInTime ordered unit.node step → UnitInTime ordered unit acted
goes_in_time ordered unit step acted goes is =
    let latest : latest_time acted.0.node ≡ latest_time step.0 = ap latest_time goes.node in
    record {
      later = omega (arith, is.later);
      answer = answers_in_time ordered unit acted.0 step.1 acted.1 (latest_time acted.0.node) goes.answers
          (λ one e. subst (λ (n : ℕ). IsInTime ordered unit.node.tile n one) (sym latest) (is.does one e));
    }

-- the core alone reads a buffered store where no demand stands
alone_in_time : (ordered : List Request) (unit : UnitState) (acted : Acted) → WorksAlone unit acted → UnitInTime ordered unit acted
alone_in_time ordered unit acted alone =
    let same : latest_time acted.0.node ≡ latest_time unit.node = ap latest_time alone.node in
    record { later = omega arith; answer = by acted.1 alone.reads } where
      by : (answer : Option Access) → IfSome answer (λ a. (writes a.kind ≡ false) × (a.tile ≡ unit.node.tile) × (a.time ≡ unit.node.delivered) × IsOfCore unit acted.0 a)
          → (a : Access) → answer ≡ Some a → AccessInTime ordered unit.node.tile (latest_time acted.0.node) a
      by None is a e = none_some a e
      by (Some one) is a e = subst (AccessInTime ordered unit.node.tile (latest_time acted.0.node)) (same_Some one a e) (record {
        tile_is = is.1;
        time = let at : latest_time acted.0.node ≡ latest_time unit.node = ap latest_time alone.node in let free : latest_time unit.node ≡ unit.node.delivered = ap (λ (entry : Option Demand). time_of_demand entry unit.node.delivered) alone.no_demand in
            let t : one.time ≡ unit.node.delivered = is.2 in omega arith;
        writer = λ write. absurd (false≢true (sym is.0 ∙ write));
      })

works_in_time : (ordered : List Request) (unit : UnitState) (acted : Acted) → KnownOf ordered unit.node → Works unit acted → UnitInTime ordered unit acted
works_in_time ordered unit acted known works = elim works [
  | inl alone ↦ alone_in_time ordered unit acted alone
  | inr tries ↦ goes_in_time ordered unit tries.left acted tries.goes_on (accessed_in_time ordered tries.access unit.node tries.left known tries.tried)
]

-- ---- the whole chip
-- the units' tiles are those of their nodes
abbrev pub TilesAgree : ChipState → Type 0
TilesAgree s = (t : ℕ) (unit : UnitState) → slice_get s.units t ≡ Some unit → unit.node.tile ≡ t

-- a unit changes, and performs an access or none; the order stays
changes_in_time : (s new : ChipState) (t : ℕ) (unit after : UnitState) (answer : Option Access) → TilesAgree s → IsTimely s → new.network.ordered ≡ s.network.ordered
    → ChangesUnit s new t unit after → new.accesses ≡ with_access answer s.accesses → UnitInTime s.network.ordered unit (after, answer) → IsTimely new
changes_in_time s new t unit after answer tiles timely same changes accesses is = record {
  times = λ u place other access at stands of.
      each_unit (λ v one. (a : Access) → slice_get new.accesses place ≡ Some a → a.tile ≡ v → a.time ≤ latest_time one.node) s new t unit after changes
      (λ a there mine. elim (was_or_answer answer s.accesses place a (ap (λ (xs : List Access). slice_get xs place) (sym accesses) ∙ there)) [
        | inl before ↦ (let old = timely.times t place unit a changes.at before mine in omega (arith, is.later))
        | inr now ↦ (is.answer a now).time
      ])
      (λ v one away there a stands mine. elim (was_or_answer answer s.accesses place a (ap (λ (xs : List Access). slice_get xs place) (sym accesses) ∙ stands)) [
        | inl before ↦ timely.times v place one a there before mine
        | inr now ↦ absurd (away (sym mine ∙ (is.answer a now).tile_is ∙ tiles t unit changes.at))
      ])
      u other at access stands of;
  writers = λ place access stands write.
      subst (λ (requests : List Request). (writer (line_of access.address) (take access.time requests) ≡ Tile access.tile) × (access.time ≤ length requests)) (sym same)
      (elim (was_or_answer answer s.accesses place access (ap (λ (xs : List Access). slice_get xs place) (sym accesses) ∙ stands)) [
        | inl before ↦ timely.writers place access before write
        | inr now ↦ (is.answer access now).writer write
      ]);
}

-- no unit changes and no access is performed; the order may grow
grows_in_time : (s new : ChipState) → IsTimely s → Grows s.network.ordered new.network.ordered → new.units ≡ s.units → new.accesses ≡ s.accesses → IsTimely new
grows_in_time s new timely grows units accesses = record {
  times = λ u place other access at stands of.
      timely.times u place other access (ap (λ (xs : List UnitState). slice_get xs u) (sym units) ∙ at) (ap (λ (xs : List Access). slice_get xs place) (sym accesses) ∙ stands) of;
  writers = λ place access stands write.
      let old = timely.writers place access (ap (λ (xs : List Access). slice_get xs place) (sym accesses) ∙ stands) write in
      subst (λ (requests : List Request). (writer (line_of access.address) (take access.time requests) ≡ Tile access.tile) × (access.time ≤ length requests)) (sym grows.is) (
        ap (writer (line_of access.address)) (take-append-le access.time s.network.ordered grows.more old.1) ∙ old.0,
        (let n : length (s.network.ordered ++ grows.more) ≡ length s.network.ordered + length grows.more = length-append s.network.ordered grows.more in omega (arith, old.1)),
      );
}

-- a node steps, and performs nothing
quiet_in_time : (ordered : List Request) (unit after : UnitState) → latest_time after.node ≡ latest_time unit.node → UnitInTime ordered unit (after, None)
quiet_in_time ordered unit after same = record { later = omega arith; answer = λ a is. none_some a is }

-- each access came in time, after every event
pub timely_by_event : (b : Behaviour) (laws : KeepsLaws b) (chip : Chip) (s new : ChipState) (event : Event)
    → UnitsFit b laws s → AllKnown s → TilesAgree s → DeliversNext chip s → IsTimely s → EventDoes b chip s new event → IsTimely new
timely_by_event b laws chip s new Tick fit known tiles next timely does = grows_in_time s new timely (order_grows b chip s new Tick does) does.units does.accesses
timely_by_event b laws chip s new (Core t) fit known tiles next timely does =
    changes_in_time s new t does.unit (b.stepped does.unit).0 (b.stepped does.unit).1 tiles timely (ap (λ n. n.ordered) does.network) does.changes does.accesses
    (works_in_time s.network.ordered does.unit (b.stepped does.unit) (known t does.unit does.changes.at) (laws.stepped does.unit (fit t does.unit does.changes.at) does.ready).1)
timely_by_event b laws chip s new (Inject t) fit known tiles next timely does =
    changes_in_time s new t does.unit _ None tiles timely (injected_order chip s.network new.network t does.kind does.line does.network) does.changes does.accesses
    (quiet_in_time s.network.ordered does.unit (record does.unit { node = after_request_sent does.unit.node }) (request_sent_time does.unit.node))
timely_by_event b laws chip s new (Post t) fit known tiles next timely does = grows_in_time s new timely (order_grows b chip s new (Post t) does) does.units does.accesses
timely_by_event b laws chip s new (Take t) fit known tiles next timely does = grows_in_time s new timely (order_grows b chip s new (Take t) does) does.units does.accesses
timely_by_event b laws chip s new (Eject t) fit known tiles next timely does =
    let law = laws.delivered does.request does.unit (fit t does.unit does.changes.at) in
    changes_in_time s new t does.unit (b.delivered does.request does.unit).0 (b.delivered does.request does.unit).1 tiles timely
    (delivered_order chip s.network new.network t does.request does.network) does.changes does.accesses
    (goes_in_time s.network.ordered does.unit _ (b.delivered does.request does.unit) law.1.goes_on
    (delivered_in_time s.network.ordered does.request does.unit.node (known t does.unit does.changes.at) (next t does.unit does.request new.network does.changes.at does.network)))
timely_by_event b laws chip s new (Send t) fit known tiles next timely does =
    changes_in_time s new t does.unit _ None tiles timely (ap (λ n. n.ordered) does.network) does.changes does.accesses
    (quiet_in_time s.network.ordered does.unit (record does.unit { node = after_message_sent does.unit.node }) (message_sent_time does.unit.node))
timely_by_event b laws chip s new (Hop r port slot out) fit known tiles next timely does = grows_in_time s new timely (order_grows b chip s new (Hop r port slot out) does) does.units does.accesses
timely_by_event b laws chip s new (DataHop r port slot) fit known tiles next timely does = grows_in_time s new timely (order_grows b chip s new (DataHop r port slot) does) does.units does.accesses
timely_by_event b laws chip s new (DataEject r port slot) fit known tiles next timely does =
    let law = laws.received does.msg does.unit (fit r does.unit does.changes.at) in
    changes_in_time s new r does.unit (b.received does.msg does.unit).0 (b.received does.msg does.unit).1 tiles timely
    (ap (λ n. n.ordered) does.network) does.changes does.accesses
    (goes_in_time s.network.ordered does.unit _ (b.received does.msg does.unit) law.1.goes_on
    (arrived_in_time s.network.ordered does.msg does.unit.node (known r does.unit does.changes.at)))

-- ---- who performed an access
abbrev pub Performers : Chip → ChipState → Type 0
Performers chip s = (place : ℕ) (access : Access) → slice_get s.accesses place ≡ Some access → access.tile < tile_count chip

answer_performer : (d : Doc) (s new : ChipState) (t : ℕ) (unit after : UnitState) (answer : Option Access) → ProtocolHolds d s → ChangesUnit s new t unit after
    → new.accesses ≡ with_access answer s.accesses → UnitInTime s.network.ordered unit (after, answer) → Performers (chip_of d) new
answer_performer d s new t unit after answer holds changes accesses is place access stands =
    elim (was_or_answer answer s.accesses place access (ap (λ (xs : List Access). slice_get xs place) (sym accesses) ∙ stands)) [
      | inl before ↦ holds.performers place access before
      | inr now ↦ (
          let within : t < length s.units = slice_get_within s.units t unit changes.at in
          let tile : access.tile ≡ t = (is.answer access now).tile_is ∙ (holds_at d s holds t unit changes.at).holds.node.agrees.tile in
          omega (arith, holds.units))
    ]

same_performers : (d : Doc) (s new : ChipState) → ProtocolHolds d s → new.accesses ≡ s.accesses → Performers (chip_of d) new
same_performers d s new holds accesses place access stands = holds.performers place access (ap (λ (xs : List Access). slice_get xs place) (sym accesses) ∙ stands)

-- each access is of a tile of the chip, after every event
pub performers_by_event : (d : Doc) (b : Behaviour) (laws : KeepsLaws b) (s new : ChipState) (event : Event)
    → UnitsFit b laws s → AllKnown s → ProtocolHolds d s → DeliversNext (chip_of d) s → EventDoes b (chip_of d) s new event → Performers (chip_of d) new
performers_by_event d b laws s new Tick fit known holds next does = same_performers d s new holds does.accesses
performers_by_event d b laws s new (Core t) fit known holds next does =
    answer_performer d s new t does.unit (b.stepped does.unit).0 (b.stepped does.unit).1 holds does.changes does.accesses
    (works_in_time s.network.ordered does.unit (b.stepped does.unit) (known t does.unit does.changes.at) (laws.stepped does.unit (fit t does.unit does.changes.at) does.ready).1)
performers_by_event d b laws s new (Inject t) fit known holds next does = same_performers d s new holds does.accesses
performers_by_event d b laws s new (Post t) fit known holds next does = same_performers d s new holds does.accesses
performers_by_event d b laws s new (Take t) fit known holds next does = same_performers d s new holds does.accesses
performers_by_event d b laws s new (Eject t) fit known holds next does =
    answer_performer d s new t does.unit (b.delivered does.request does.unit).0 (b.delivered does.request does.unit).1 holds does.changes does.accesses
    (goes_in_time s.network.ordered does.unit _ (b.delivered does.request does.unit) (laws.delivered does.request does.unit (fit t does.unit does.changes.at)).1.goes_on
    (delivered_in_time s.network.ordered does.request does.unit.node (known t does.unit does.changes.at) (next t does.unit does.request new.network does.changes.at does.network)))
performers_by_event d b laws s new (Send t) fit known holds next does = same_performers d s new holds does.accesses
performers_by_event d b laws s new (Hop r port slot out) fit known holds next does = same_performers d s new holds does.accesses
performers_by_event d b laws s new (DataHop r port slot) fit known holds next does = same_performers d s new holds does.accesses
performers_by_event d b laws s new (DataEject r port slot) fit known holds next does =
    answer_performer d s new r does.unit (b.received does.msg does.unit).0 (b.received does.msg does.unit).1 holds does.changes does.accesses
    (goes_in_time s.network.ordered does.unit _ (b.received does.msg does.unit) (laws.received does.msg does.unit (fit r does.unit does.changes.at)).1.goes_on
    (arrived_in_time s.network.ordered does.msg does.unit.node (known r does.unit does.changes.at)))
