-- The records of every home are what the order says of them, after each event.
use Rattle.std.proofs.Common.{◌≡◌, ◌≢◌, ℕ, zero, suc, ◌+◌, ◌<◌, Bool, true, false, cond, List, [], ◌∷◌, take, set, refl, sym, ◌∙◌, ap, subst, arith, inl, inr, ◌⊎◌, Option, Some, None}
use Rattle.std.specs.Prelude.{◌==◌, ◌&&◌, not, slice_get, slice_index_or, is_some}
use Rattle.std.proofs.lemmas.Bool.{cases_eq, both_ways, ne_eqb, eq-eqb}
use Rattle.std.proofs.lemmas.Option.{same_Some}
use Rattle.mesh_gen.specs.declared.request.Request.{Request}
use Rattle.mesh_gen.specs.declared.msg.Msg.{Msg}
use Rattle.mesh_gen.specs.declared.msg_kind.MsgKind.{MsgKind}
use Rattle.mesh_gen.specs.declared.msg_kind.MsgKind.TheVariants.{Back}
use Rattle.mesh_gen.specs.Ports.{count_if}
use Rattle.report_text.specs.declared.event.Event.{Event}
use Rattle.doc_text.specs.Doc.{Doc}
use Rattle.chip_model.specs.declared.waiting.Waiting.{Waiting}
use Rattle.chip_model.specs.Chip.{Chip, chip_of, home}
use Rattle.chip_model.specs.Records.{LineRecord, Records, answered_by, answered_at, answered, returned, returned_at, back_arrived}
use Rattle.chip_model.specs.Node.{Node, is_back, node_after_request}
use Rattle.chip_model.specs.Units.{UnitState, Behaviour}
use Rattle.chip_model.specs.ChipState.{ChipState}
use Rattle.chip_model.specs.Events.{step}
use Rattle.chip_model.specs.BehaviourLaws.{KeepsLaws}
use Rattle.chip_model.specs.NetworkShape.{GoesTo}
use Rattle.chip_model.specs.Ownership.{owner, is_tile, delivered_to}
use Rattle.chip_model.specs.Bookkeeping.{is_get}
use Rattle.chip_model.specs.ChipInvariant.{ProtocolHolds}
use Rattle.chip_model.specs.Suppliers.{is_back_for, writes_back_as, writes_back, last_written_back, RecordsAreFresh, WaitersAreGets, ReachesMemory}
use Rattle.chip_laws.specs.DocLaws.{DocLaws}
use Rattle.chip_laws.specs.Meetings.{UnitsFit}
use Rattle.chip_laws.specs.MessageLaws.{MessageLaws}
use Rattle.chip_laws.proofs.EventSteps.{event_does}
use Rattle.chip_laws.proofs.Deliveries.{deliveries_fit}
use Rattle.chip_laws.proofs.UnitFrames.{each_unit, same_units}
use Rattle.chip_laws.proofs.OrderFrames.{known_of}
use Rattle.chip_laws.proofs.SuppliedEvents.{Holds, unit_holds}
use Rattle.supply_laws.specs.OpenGets.{NoneWritesBackBefore}
use Rattle.supply_laws.specs.HomeParts.{WordsReachMemory, HomesHold}
use Rattle.supply_laws.proofs.WriteBackPlaces.{gets_for}
use Rattle.supply_laws.proofs.WordsDue.{due}
use Rattle.supply_laws.proofs.MemoryReached.{reaches_still, reaches_grown}
use Rattle.supply_laws.proofs.WriteBackEvents.{SameHome, DeliversAt, ReturnsAt, BackEvent, stays, orders, delivers, returns, back_event}
use Rattle.supply_laws.proofs.ReachedWords.{LineHolds, fresh_is, waiters_is, line_stays, line_grown}
use Rattle.supply_laws.proofs.AnsweredHomes.{line_passed}
use Rattle.supply_laws.proofs.AnsweredLines.{Meets, line_answered}
use Rattle.supply_laws.proofs.ReturnedHomes.{line_returned}
use Rattle.supply_laws.proofs.LaterBacks.{none_after_open, supplied_here}

-- each record of a home is what the order says of it
abbrev pub HomeHolds : ChipState → Node → Type 0
HomeHolds s node = (line : ℕ) (r : LineRecord) → slice_index_or node.records line None ≡ Some r → LineHolds s line node.delivered r

pub home_of : (s : ChipState) (node : Node) → RecordsAreFresh s node → WaitersAreGets s node → HomeHolds s node
home_of s node fresh waiters line r at = record {
  fresh = fresh line r at ∙ fresh_is s node line r.owner;
  waiters = waiters line r at ∙ ap (λ (list : List Waiting). cond r.fresh [] list) (waiters_is s node line (last_written_back line (delivered_to s.network.ordered node)));
}

pub fresh_of : (s : ChipState) (node : Node) → HomeHolds s node → RecordsAreFresh s node
fresh_of s node is line r at = (is line r at).fresh ∙ sym (fresh_is s node line r.owner)

pub waiters_of : (s : ChipState) (node : Node) → HomeHolds s node → WaitersAreGets s node
waiters_of s node is line r at =
    (is line r at).waiters ∙ sym (ap (λ (list : List Waiting). cond r.fresh [] list) (waiters_is s node line (last_written_back line (delivered_to s.network.ordered node))))

-- the records stay
home_by : (s : ChipState) (old node : Node) → SameHome old node → HomeHolds s old → HomeHolds s node
home_by s old node same is line r at =
    subst (λ (n : ℕ). LineHolds s line n r) (sym same.delivered) (is line r (ap (λ (records : Records). slice_index_or records line None) (sym same.records) ∙ at))

home_stays : (s new : ChipState) (node : Node) → new.network.ordered ≡ s.network.ordered → ((line : ℕ) → due new line ≡ due s line) → HomeHolds s node → HomeHolds new node
home_stays s new node order same is line r at = line_stays s new line node.delivered r order (same line) (is line r at)

-- ---- one record is replaced
abbrev IsSet : Records → ℕ → LineRecord → ℕ → LineRecord → Type 0
IsSet records m left line r = ((line ≡ m) × (r ≡ left)) ⊎ ((line ≢ m) × (slice_index_or records line None ≡ Some r))

is_set : (records : Records) (m line : ℕ) (old left r : LineRecord) → slice_index_or records m None ≡ Some old
    → slice_index_or (set records m (Some left)) line None ≡ Some r → IsSet records m left line r
is_set [] m line old left r there at = cc
is_set (first ∷ records) zero zero old left r there at = inl (refl, sym (same_Some left r at))
is_set (first ∷ records) zero (suc line) old left r there at = inr ((λ same. absurd (omega (arith, same))), at)
is_set (first ∷ records) (suc m) zero old left r there at = inr ((λ same. absurd (omega (arith, same))), at)
is_set (first ∷ records) (suc m) (suc line) old left r there at = elim (is_set records m line old left r there at) [
  | inl here ↦ inl (ap (λ (k : ℕ). suc k) here.0, here.1)
  | inr away ↦ inr ((λ same. away.0 (let one : line ≡ m = omega (arith, same) in one)), away.1)
]

-- ---- a request is delivered
other_line : (ordered : List Request) (line n : ℕ) (q : Request) → slice_get ordered n ≡ Some q → (q.line == line) ≡ false → writes_back line ordered n ≡ false
other_line ordered line n q at other =
    ap (writes_back_as line (owner line (take n ordered))) at ∙ by (is_get q.kind) other
  where
    by : (get : Bool) → (q.line == line) ≡ false
        → (not get && (q.line == line) && is_tile q.source (owner line (take n ordered))) ≡ false
    by true other = refl
    by false other = ap (λ (b : Bool). true && b && is_tile q.source (owner line (take n ordered))) other

no_get : (line : ℕ) (q : Request) → (q.line == line) ≡ false → gets_for line (q ∷ []) ≡ []
no_get line q other = ap (λ (b : Bool). cond {A = List Request} (is_get q.kind && b) (q ∷ []) []) other ∙ by (is_get q.kind) where
  by : (b : Bool) → cond {A = List Request} (b && false) (q ∷ []) [] ≡ []
  by true = refl
  by false = refl

delivered_line : (d : Doc) (s new : ChipState) → DocLaws d → ProtocolHolds d s → NoneWritesBackBefore s → (e : DeliversAt d s new) → HomeHolds s e.unit.node
    → (line : ℕ) (r : LineRecord) → slice_index_or (answered e.request e.unit.node.records).records line None ≡ Some r → LineHolds s line (e.unit.node.delivered + 1) r
unfolding answered
delivered_line d s new fits holds none e is line r at = by (slice_index_or e.unit.node.records e.request.line None) refl at where
  n : ℕ
  n = e.unit.node.delivered

  passed : e.request.line ≢ line → slice_index_or e.unit.node.records line None ≡ Some r → LineHolds s line (n + 1) r
  passed away there =
      let other = ne_eqb e.request.line line away in
      line_passed s line n e.request r e.next (other_line s.network.ordered line n e.request e.next other) (no_get line e.request other) (is line r there)

  meets : (old : LineRecord) → slice_index_or e.unit.node.records e.request.line None ≡ Some old → Meets s e.request.line n e.request old
  meets old there =
      let owned : old.owner ≡ owner e.request.line (take n s.network.ordered) = e.own.holds.serves.owns.records e.request.line old there in
      record {
        for = refl;
        owner = owned;
        alone = λ kind memory fresh k above below.
            none_after_open d s e.request.line n fits holds none
            (supplied_here d s e.tile e.request.line e.unit e.request old fits holds e.own e.changes.at e.next refl e.line there (sym owned ∙ memory) kind) k above;
      }

  by : (entry : Option LineRecord) → slice_index_or e.unit.node.records e.request.line None ≡ entry
      → slice_index_or (answered_at e.request e.unit.node.records entry).records line None ≡ Some r → LineHolds s line (n + 1) r
  by None there at = passed (λ same. absurd (let wrong : ◌≡◌ {A = Option LineRecord} None (Some r) = sym there ∙ (ap (λ (l : ℕ). slice_index_or e.unit.node.records l None) same ∙ at) in cc)) at
  by (Some old) there at = elim (is_set e.unit.node.records e.request.line line old (answered_by e.request old old.owner).left r there at) [
    | inl here ↦
        subst (λ (l : ℕ). LineHolds s l (n + 1) r) (sym here.0)
        (subst (LineHolds s e.request.line (n + 1)) (sym here.1) (line_answered s e.request.line n e.request old e.next (meets old there) (is e.request.line old there)))
    | inr away ↦ passed (λ same. away.0 (sym same)) away.1
  ]

delivered_home : (d : Doc) (s new : ChipState) → DocLaws d → ProtocolHolds d s → NoneWritesBackBefore s → (e : DeliversAt d s new) → HomeHolds s e.unit.node → HomeHolds s e.after.node
unfolding node_after_request
delivered_home d s new fits holds none e is line r at =
    let records : e.after.node.records ≡ (answered e.request e.unit.node.records).records = ap (λ (x : Node). x.records) e.node in
    let count : e.after.node.delivered ≡ e.unit.node.delivered + 1 = ap (λ (x : Node). x.delivered) e.node in
    subst (λ (k : ℕ). LineHolds s line k r) (sym count)
    (delivered_line d s new fits holds none e is line r (ap (λ (rs : Records). slice_index_or rs line None) (sym records) ∙ at))

-- ---- words come home
back_for : (line : ℕ) (msg : Msg) → msg.kind ≡ Back → is_back_for line msg ≡ (msg.line == line)
back_for line msg kind = ap (λ (k : MsgKind). is_back k && (msg.line == line)) kind

due_other : (d : Doc) (s new : ChipState) (e : ReturnsAt d s new) (line : ℕ) → e.msg.line ≢ line → due new line ≡ due s line
due_other d s new e line away =
    let none : count_if (is_back_for line e.msg) ≡ 0 = ap count_if (back_for line e.msg e.kind ∙ ne_eqb e.msg.line line away) in
    omega (arith, e.due line, none)

due_one : (d : Doc) (s new : ChipState) (e : ReturnsAt d s new) → due new e.msg.line + 1 ≡ due s e.msg.line
due_one d s new e =
    let one : count_if (is_back_for e.msg.line e.msg) ≡ 1 = ap count_if (back_for e.msg.line e.msg e.kind ∙ eq-eqb e.msg.line e.msg.line refl) in
    omega (arith, e.due e.msg.line, one)

goes_home : (chip : Chip) (msg : Msg) → msg.kind ≡ Back → GoesTo chip msg msg.kind → msg.to ≡ home chip msg.line
goes_home chip msg kind goes = subst (GoesTo chip msg) kind goes

-- another tile has no record of the line
no_record : (d : Doc) (s new : ChipState) (e : ReturnsAt d s new) (t : ℕ) (unit : UnitState) (r : LineRecord) → Holds d s t unit → t ≢ e.tile
    → slice_index_or unit.node.records e.msg.line None ≡ Some r → ⊥
no_record d s new e t unit r own away there =
    let node = own.holds.node in
    let inside : e.msg.line < unit.node.chip.lines = subst (λ (c : Chip). e.msg.line < c.lines) (sym node.chip) e.fits.line in
    let here : home unit.node.chip e.msg.line ≡ e.tile =
    ap (λ (c : Chip). home c e.msg.line) node.chip ∙ sym (goes_home (chip_of d) e.msg e.kind e.fits.goes_to) ∙ e.here in
    let other : (home unit.node.chip e.msg.line == unit.node.tile) ≡ false =
    ne_eqb (home unit.node.chip e.msg.line) unit.node.tile (λ same. away (sym (sym here ∙ (same ∙ node.agrees.tile)))) in
    both_ways (is_some (slice_index_or unit.node.records e.msg.line None)) (node.fits.lines.records e.msg.line inside ∙ other) (ap is_some there)

returned_line : (d : Doc) (s new : ChipState) → ProtocolHolds d s → (e : ReturnsAt d s new) → HomeHolds s e.unit.node
    → (line : ℕ) (r : LineRecord) → slice_index_or (back_arrived e.msg.line e.msg.words e.unit.node.records).records line None ≡ Some r → LineHolds new line e.unit.node.delivered r
unfolding back_arrived
returned_line d s new holds e is line r at = by (slice_index_or e.unit.node.records e.msg.line None) refl at where
  n : ℕ
  n = e.unit.node.delivered

  own : Holds d s e.tile e.unit
  own = unit_holds d s e.tile e.unit holds e.changes.at

  kept : e.msg.line ≢ line → slice_index_or e.unit.node.records line None ≡ Some r → LineHolds new line n r
  kept away there = line_stays s new line n r e.order (due_other d s new e line away) (is line r there)

  by : (entry : Option LineRecord) → slice_index_or e.unit.node.records e.msg.line None ≡ entry
      → slice_index_or (returned_at e.msg.line e.msg.words e.unit.node.records entry).records line None ≡ Some r → LineHolds new line n r
  by None there at = kept (λ same. absurd (let wrong : ◌≡◌ {A = Option LineRecord} None (Some r) = sym there ∙ (ap (λ (l : ℕ). slice_index_or e.unit.node.records l None) same ∙ at) in cc)) at
  by (Some old) there at = elim (is_set e.unit.node.records e.msg.line line old (returned e.msg.words old) r there at) [
    | inl here ↦ (
        let few = (holds.backs e.msg.line).once in
        let one = due_one d s new e in
        subst (λ (l : ℕ). LineHolds new l n r) (sym here.0)
        (subst (LineHolds new e.msg.line n) (sym here.1)
        (line_returned s new e.msg.line n old e.order (known_of d s holds e.tile e.unit e.changes.at).within (omega (arith, one)) (omega (arith, one, few))
        (own.holds.serves.owns.records e.msg.line old there) (holds.backs e.msg.line) (is e.msg.line old there) e.msg.words)))
    | inr away ↦ kept (λ same. away.0 (sym same)) away.1
  ]

returned_home : (d : Doc) (s new : ChipState) → ProtocolHolds d s → (e : ReturnsAt d s new) → HomeHolds s e.unit.node → HomeHolds new e.after.node
returned_home d s new holds e is line r at =
    let records : e.after.node.records ≡ (back_arrived e.msg.line e.msg.words e.unit.node.records).records = ap (λ (x : Node). x.records) e.node in
    let count : e.after.node.delivered ≡ e.unit.node.delivered = ap (λ (x : Node). x.delivered) e.node in
    subst (λ (k : ℕ). LineHolds new line k r) (sym count)
    (returned_line d s new holds e is line r (ap (λ (rs : Records). slice_index_or rs line None) (sym records) ∙ at))

returned_other : (d : Doc) (s new : ChipState) → ProtocolHolds d s → (e : ReturnsAt d s new) (t : ℕ) (unit : UnitState) → t ≢ e.tile → slice_get s.units t ≡ Some unit
    → HomeHolds s unit.node → HomeHolds new unit.node
returned_other d s new holds e t unit away at is line r there = elim (cases_eq e.msg.line line) [
  | inl same ↦ absurd (no_record d s new e t unit r (unit_holds d s t unit holds at) away (ap (λ (l : ℕ). slice_index_or unit.node.records l None) same ∙ there))
  | inr other ↦ line_stays s new line unit.node.delivered r e.order (due_other d s new e line other) (is line r there)
]

-- ---- after each event
home_before : (d : Doc) (s : ChipState) → ProtocolHolds d s → (t : ℕ) (unit : UnitState) → slice_get s.units t ≡ Some unit → HomeHolds s unit.node
home_before d s holds t unit at = let own = unit_holds d s t unit holds at in home_of s unit.node own.holds.serves.fresh own.holds.serves.waiters

pub homes_after : (d : Doc) (s new : ChipState) → DocLaws d → ProtocolHolds d s → NoneWritesBackBefore s → BackEvent d s new
    → (t : ℕ) (unit : UnitState) → slice_get new.units t ≡ Some unit → HomeHolds new unit.node
homes_after d s new fits holds none (stays e) = λ t unit at.
    let was = e.homes t unit at in
    home_by new was.was.node unit.node was.same (home_stays s new was.was.node e.order e.due (home_before d s holds t was.was was.at))
homes_after d s new fits holds none (orders more e) =
    same_units (λ t unit. HomeHolds new unit.node) s new e.grows.units (λ t unit at line r there.
    line_grown d s new more e line (holds.backs line) (holds.wait line) unit.node.delivered r (known_of d s holds t unit at).within (home_before d s holds t unit at line r there))
homes_after d s new fits holds none (delivers e) =
    each_unit (λ t unit. HomeHolds new unit.node) s new e.tile e.unit e.after e.changes
    (home_stays s new e.after.node e.order e.due (delivered_home d s new fits holds none e (home_before d s holds e.tile e.unit e.changes.at)))
    (λ t unit away at. home_stays s new unit.node e.order e.due (home_before d s holds t unit at))
homes_after d s new fits holds none (returns e) =
    each_unit (λ t unit. HomeHolds new unit.node) s new e.tile e.unit e.after e.changes
    (returned_home d s new holds e (home_before d s holds e.tile e.unit e.changes.at))
    (λ t unit away at. returned_other d s new holds e t unit away at (home_before d s holds t unit at))

-- the words that are written back reach memory
pub memory_after : (d : Doc) (s new : ChipState) → ProtocolHolds d s → BackEvent d s new → (line : ℕ) → ReachesMemory new line
memory_after d s new holds (stays e) line = reaches_still s new line e.order (omega (arith, e.due line)) e.counts (holds.backs line)
memory_after d s new holds (orders more e) line = reaches_grown d s new more e line (holds.wait line) (holds.backs line)
memory_after d s new holds (delivers e) line = reaches_still s new line e.order (omega (arith, e.due line)) e.counts (holds.backs line)
memory_after d s new holds (returns e) line = reaches_still s new line e.order (omega (arith, e.due line)) e.counts (holds.backs line)

-- ---- a step of the chip
pub reaches_after : MessageLaws → (b : Behaviour) (laws : KeepsLaws b) (d : Doc) (s new : ChipState) (event : Event) → DocLaws d → ProtocolHolds d s → UnitsFit b laws s
    → step b (chip_of d) s event ≡ Some new → WordsReachMemory new
reaches_after messages b laws d s new event fits holds fit e =
    memory_after d s new holds (back_event messages b laws d s new event fits holds fit (deliveries_fit d s fits holds) (event_does b (chip_of d) s new event e))

pub homes_hold_after : MessageLaws → (b : Behaviour) (laws : KeepsLaws b) (d : Doc) (s new : ChipState) (event : Event) → DocLaws d → ProtocolHolds d s → UnitsFit b laws s → NoneWritesBackBefore s
    → step b (chip_of d) s event ≡ Some new → HomesHold new
homes_hold_after messages b laws d s new event fits holds fit none e =
    let after = homes_after d s new fits holds none (back_event messages b laws d s new event fits holds fit (deliveries_fit d s fits holds) (event_does b (chip_of d) s new event e)) in
    record { fresh = λ t unit at. fresh_of new unit.node (after t unit at); waiters = λ t unit at. waiters_of new unit.node (after t unit at) }
