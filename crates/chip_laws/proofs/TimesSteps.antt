-- The time of each access that a node performs, and who may write its line then: through each step of a node.
use Rattle.std.proofs.Common.{◌≡◌, ℕ, ◌+◌, ◌<◌, ◌≤◌, Bool, true, false, refl, sym, ◌∙◌, ap, subst, arith, Option, Some, None, List, take, length, slice_get}
use Rattle.std.specs.Prelude.{◌==◌, ◌||◌, not, is_some, if◌then◌else◌}
use Rattle.std.proofs.lemmas.Bool.{cond_both, eqb-true}
use Rattle.std.proofs.lemmas.Option.{same_Some, slice_get_within}
use Rattle.mesh_gen.specs.declared.kind.Kind.{Kind}
use Rattle.mesh_gen.specs.declared.kind.Kind.TheVariants.{GetS, GetM, PutM}
use Rattle.mesh_gen.specs.declared.request.Request.{Request}
use Rattle.mesh_gen.specs.declared.msg.Msg.{Msg}
use Rattle.mesh_gen.specs.declared.msg_kind.MsgKind.{MsgKind}
use Rattle.mesh_gen.specs.declared.msg_kind.MsgKind.TheVariants.{Data, Back}
use Rattle.report_text.specs.declared.access.AccessKind.{AccessKind}
use Rattle.report_text.specs.declared.access.AccessKind.TheVariants.{Load, Store, Swap, Add}
use Rattle.report_text.specs.Accesses.{writes}
use Rattle.chip_model.specs.declared.done.Done.{Done}
use Rattle.chip_model.specs.declared.line_state.State.{State}
use Rattle.chip_model.specs.declared.line_state.State.TheVariants.{M, O, S}
use Rattle.chip_model.specs.declared.owner.Owner.TheVariants.{Tile}
use Rattle.chip_model.specs.declared.pending.Pending.{Pending}
use Rattle.chip_model.specs.Chip.{Chip, line_of}
use Rattle.chip_model.specs.Cache.{Cache, Held, lookup, has_room, without_shared, lowest_for}
use Rattle.chip_model.specs.Misses.{Demand, WriteBack, is_getm, is_written_back, request_for, sent_demand, marked_sent}
use Rattle.chip_model.specs.Snoop.{CacheSide, Outcome, with_cache, done_by, completed, completed_load, completed_store, words_here, ordered_with, own_get, own_put, own_request, holding, snooped_with, after_snoop, data_at, data_for, after_data}
use Rattle.chip_model.specs.Node.{Node, Performed, has_entry, holds_back, load_hit, demand_started, back_started, victim_evicted, missed, unless_written_back, store_to, accessed_with, node_after_access, node_after_request, arrived_as, node_after_message, after_request_sent, after_message_sent}
use Rattle.chip_model.specs.NodeShape.{DemandFits, SideFits}
use Rattle.chip_model.specs.Ownership.{writer, delivered_to}
use Rattle.chip_model.specs.Writers.{time_of_place, time_of_demand, latest_time, writer_for_state}
use Rattle.snoop_core.specs.Requests.{IsRequestOf, MeetsDemand, MeetsOwn, OwnRequestFits}
use Rattle.snoop_core.proofs.SnoopSteps.{snoop_forms}
use Rattle.snoop_core.proofs.Sending.{sent_forms}
use Rattle.chip_laws.proofs.Options.{none_some, when_some}
use Rattle.chip_laws.proofs.StepAccesses.{free_of}
use Rattle.chip_laws.proofs.OrderFrames.{KnownOf, IsNext}
use Rattle.chip_laws.proofs.OwnerFolds.{writer_of_kind}

-- an access that is done in time, a write where its tile may write
pub record IsInTime (ordered : List Request) (tile latest : ℕ) (one : Done) : Type 0 where
  pub time : one.time ≤ latest
  pub writer : writes one.kind ≡ true → (writer (line_of one.address) (take one.time ordered) ≡ Tile tile) × (one.time ≤ length ordered)

-- the time goes on from a demand to what an outcome leaves, and what is done is done by then
pub record GoesInTime (ordered : List Request) (tile before after : ℕ) (old new : Option Demand) (done : Option Done) : Type 0 where
  pub later : time_of_demand old before ≤ time_of_demand new after
  pub does : (one : Done) → done ≡ Some one → IsInTime ordered tile (time_of_demand new after) one

quiet_time : (ordered : List Request) (tile before after : ℕ) (old new : Option Demand) → time_of_demand old before ≤ time_of_demand new after
    → GoesInTime ordered tile before after old new None
quiet_time ordered tile before after old new later = record { later = later; does = λ one is. none_some one is }

place_grows : (place : Option ℕ) (before after : ℕ) → before ≤ after → time_of_place place before ≤ time_of_place place after
place_grows None before after le = le
place_grows (Some place) before after le = omega arith

time_grows : (entry : Option Demand) (before after : ℕ) → before ≤ after → time_of_demand entry before ≤ time_of_demand entry after
time_grows None before after le = le
time_grows (Some demand) before after le = place_grows demand.ordered before after le

-- ---- a demand completes
asks_getm : (kind : AccessKind) → writes kind ≡ true → request_for kind ≡ GetM
asks_getm Load is = cc
asks_getm Store is = refl
asks_getm Swap is = refl
asks_getm Add is = refl

-- the place of a demand is that of its request, in the order
pub record IsAtPlace (ordered : List Request) (tile : ℕ) (demand : Demand) (place : ℕ) : Type 0 where
  pub request : Request
  pub at : slice_get ordered place ≡ Some request
  pub source : request.source ≡ tile
  pub kind : request.kind ≡ demand.kind
  pub line : request.line ≡ demand.line

done_in_time : (ordered : List Request) (tile latest : ℕ) (chip : Chip) (cache : Cache) (demand : Demand) (place : ℕ) (words : List ℕ) → DemandFits chip cache demand → IsAtPlace ordered tile demand place
    → place + 1 ≤ latest → IsInTime ordered tile latest (done_by demand.pending (place + 1) words)
done_in_time ordered tile latest chip cache demand place words fit at within = record {
  time = within;
  writer = λ changes. let getm : at.request.kind ≡ GetM = at.kind ∙ fit.asks ∙ asks_getm demand.pending.kind changes in
      let inside : place < length ordered = slice_get_within ordered place at.request at.at in (
        ap (λ (l : ℕ). writer l (take (place + 1) ordered)) fit.line
            ∙ writer_of_kind demand.line place ordered at.request GetM at.at getm at.line
            ∙ ap (λ (n : ℕ). Tile n) at.source,
        omega arith,
      );
}

one_in_time : (ordered : List Request) (tile latest : ℕ) (one : Done) → IsInTime ordered tile latest one → (other : Done) → Some one ≡ Some other → IsInTime ordered tile latest other
one_in_time ordered tile latest one is other same = subst (IsInTime ordered tile latest) (same_Some one other same) is

completed_time : (ordered : List Request) (tile before after : ℕ) (chip : Chip) (side : CacheSide) (demand : Demand) (place : ℕ) (words : List ℕ) → DemandFits chip side.cache demand
    → IsAtPlace ordered tile demand place → place + 1 ≤ after → time_of_demand (Some demand) before ≤ after
    → GoesInTime ordered tile before after (Some demand) (completed chip demand place words side).side.misses.demand (completed chip demand place words side).done
completed_time ordered tile before after chip side demand place words fit at within later =
    let is = done_in_time ordered tile after chip side.cache demand place words fit at within in
    cond_both (is_getm demand.kind) (completed_store chip demand place words side) (completed_load chip demand place words side)
    (λ outcome. GoesInTime ordered tile before after (Some demand) outcome.side.misses.demand outcome.done)
    (λ stores. record { later = later; does = one_in_time ordered tile after (done_by demand.pending (place + 1) words) is })
    (λ loads. record { later = later; does = one_in_time ordered tile after (done_by demand.pending (place + 1) words) is })

-- ---- a request is delivered
abbrev Timely : List Request → ℕ → ℕ → ℕ → CacheSide → Outcome → Type 0
Timely ordered tile before after side outcome = GoesInTime ordered tile before after side.misses.demand outcome.side.misses.demand outcome.done

get_time : (ordered : List Request) (tile : ℕ) (chip : Chip) (side : CacheSide) (place : ℕ) (q : Request) (demand : Demand) (words : Option (List ℕ)) → slice_get ordered place ≡ Some q → q.source ≡ tile
    → IsRequestOf demand q → DemandFits chip side.cache demand
    → GoesInTime ordered tile place (place + 1) (Some demand) (ordered_with chip side place demand words).side.misses.demand (ordered_with chip side place demand words).done
get_time ordered tile chip side place q demand (Some words) at own is fit =
    completed_time ordered tile place (place + 1) chip side demand place words fit
    (record { request = q; at = at; source = own; kind = sym is.kind; line = sym is.line })
    (omega arith)
    (let unordered : time_of_place demand.ordered place ≡ place = ap (λ (o : Option ℕ). time_of_place o place) is.unordered in omega arith)
get_time ordered tile chip side place q demand None at own is fit =
    quiet_time ordered tile place (place + 1) (Some demand) (Some (record demand { ordered = Some place }))
    (let unordered : time_of_place demand.ordered place ≡ place = ap (λ (o : Option ℕ). time_of_place o place) is.unordered in omega arith)

own_get_time : (ordered : List Request) (tile : ℕ) (chip : Chip) (side : CacheSide) (place : ℕ) (q : Request) → slice_get ordered place ≡ Some q → q.source ≡ tile
    → MeetsDemand side q → SideFits chip side → Timely ordered tile place (place + 1) side (own_get chip side place side.misses.demand)
own_get_time ordered tile chip side place q at own meets fits =
    subst (λ (entry : Option Demand). GoesInTime ordered tile place (place + 1) entry (own_get chip side place entry).side.misses.demand (own_get chip side place entry).done) (sym meets.1)
    (get_time ordered tile chip side place q meets.0 (words_here chip side meets.0 meets.0.early) at own meets.2 (fits.demand meets.0 meets.1))

own_put_time : (ordered : List Request) (tile place : ℕ) (chip : Chip) (side : CacheSide) (back : Option WriteBack) → Timely ordered tile place (place + 1) side (own_put chip side back)
own_put_time ordered tile place chip side None = quiet_time ordered tile place (place + 1) _ _ (time_grows side.misses.demand place (place + 1) (omega arith))
own_put_time ordered tile place chip side (Some back) = quiet_time ordered tile place (place + 1) _ _ (time_grows side.misses.demand place (place + 1) (omega arith))

own_time : (ordered : List Request) (tile : ℕ) (chip : Chip) (side : CacheSide) (place : ℕ) (q : Request) (kind : Kind) → slice_get ordered place ≡ Some q → q.source ≡ tile
    → MeetsOwn side q kind → SideFits chip side → Timely ordered tile place (place + 1) side (own_request chip side place kind)
own_time ordered tile chip side place q GetS at own meets fits = own_get_time ordered tile chip side place q at own meets fits
own_time ordered tile chip side place q GetM at own meets fits = own_get_time ordered tile chip side place q at own meets fits
own_time ordered tile chip side place q PutM at own meets fits = own_put_time ordered tile place chip side side.misses.back

other_time : (ordered : List Request) (tile place : ℕ) (chip : Chip) (side : CacheSide) (q : Request)
    → Timely ordered tile place (place + 1) side (snooped_with chip q side (holding chip side q.line) q.kind)
other_time ordered tile place chip side q =
    let stays = time_grows side.misses.demand place (place + 1) (omega arith) in
    let at : (demand : Demand) → side.misses.demand ≡ Some demand → time_of_demand side.misses.demand place ≤ time_of_demand (Some demand) (place + 1) =
    λ demand stands. subst (λ (entry : Option Demand). time_of_demand side.misses.demand place ≤ time_of_demand entry (place + 1)) stands stays in
    snoop_forms chip side q (Timely ordered tile place (place + 1) side) (record {
      put = λ kind. quiet_time ordered tile place (place + 1) _ _ stays;
      copy_read = λ kind held there owned. quiet_time ordered tile place (place + 1) _ _ stays;
      copy_written = λ kind held there owned. quiet_time ordered tile place (place + 1) _ _ stays;
      back_read = λ kind back. quiet_time ordered tile place (place + 1) _ _ stays;
      back_written = λ kind copy back stands same. quiet_time ordered tile place (place + 1) _ _ stays;
      list_read = λ kind demand meets changes goes_on. quiet_time ordered tile place (place + 1) _ _ (at demand meets.stands);
      list_written = λ kind demand meets changes goes_on. quiet_time ordered tile place (place + 1) _ _ (at demand meets.stands);
      read = λ kind. quiet_time ordered tile place (place + 1) _ _ stays;
      once = λ kind demand meets reads. quiet_time ordered tile place (place + 1) _ _ (at demand meets.stands);
      shared_written = λ kind unowned. quiet_time ordered tile place (place + 1) _ _ stays;
      nothing_written = λ kind unowned. quiet_time ordered tile place (place + 1) _ _ stays;
    })

snooped_time : (ordered : List Request) (tile : ℕ) (chip : Chip) (side : CacheSide) (place : ℕ) (q : Request) → slice_get ordered place ≡ Some q → OwnRequestFits tile side q → SideFits chip side
    → Timely ordered tile place (place + 1) side (after_snoop chip tile side place q)
unfolding after_snoop
snooped_time ordered tile chip side place q at own fits =
    cond_both (q.source == tile) (own_request chip side place q.kind) (snooped_with chip q side (holding chip side q.line) q.kind)
    (Timely ordered tile place (place + 1) side)
    (λ same. own_time ordered tile chip side place q q.kind at (eqb-true q.source tile same) (own (eqb-true q.source tile same)) fits)
    (λ other. other_time ordered tile place chip side q)

-- a step of a node goes on in time
pub record StepInTime (ordered : List Request) (node : Node) (step : Performed) : Type 0 where
  pub later : latest_time node ≤ latest_time step.0
  pub does : (one : Done) → step.1 ≡ Some one → IsInTime ordered node.tile (latest_time step.0) one

pub delivered_in_time : (ordered : List Request) (q : Request) (node : Node) → KnownOf ordered node → IsNext ordered node q → StepInTime ordered node (node_after_request q node)
unfolding node_after_request
delivered_in_time ordered q node known next =
    let is = snooped_time ordered node.tile node.chip node.side node.delivered q next.at next.own known.fits.side in
    record { later = is.later; does = is.does }

-- ---- words come
data_time : (ordered : List Request) (node : Node) (words : List ℕ) (demand : Demand) (place : Option ℕ) → KnownOf ordered node → node.side.misses.demand ≡ Some demand → demand.ordered ≡ place
    → GoesInTime ordered node.tile node.delivered node.delivered (Some demand) (data_at node.chip node.side words demand place).side.misses.demand (data_at node.chip node.side words demand place).done
data_time ordered node words demand (Some place) known stands is =
    let at = known.demand demand place stands is in
    let before : place < node.delivered = at.before in
    let time : time_of_place demand.ordered node.delivered ≡ place = ap (λ (o : Option ℕ). time_of_place o node.delivered) is in
    completed_time ordered node.tile node.delivered node.delivered node.chip node.side demand place words (known.fits.side.demand demand stands)
    (record { request = at.request; at = at.at; source = at.source; kind = at.kind; line = at.line })
    (omega arith) (omega arith)
data_time ordered node words demand None known stands is =
    quiet_time ordered node.tile node.delivered node.delivered (Some demand) (Some (record demand { early = Some words })) (omega arith)

words_time : (ordered : List Request) (node : Node) (words : List ℕ) (entry : Option Demand) → KnownOf ordered node → node.side.misses.demand ≡ entry
    → GoesInTime ordered node.tile node.delivered node.delivered entry (data_for node.chip node.side words entry).side.misses.demand (data_for node.chip node.side words entry).done
words_time ordered node words None known stands =
    quiet_time ordered node.tile node.delivered node.delivered None node.side.misses.demand
    (let same : time_of_demand node.side.misses.demand node.delivered ≡ node.delivered = ap (λ (entry : Option Demand). time_of_demand entry node.delivered) stands in omega arith)
words_time ordered node words (Some demand) known stands = data_time ordered node words demand demand.ordered known stands refl

arrived_time : (ordered : List Request) (msg : Msg) (node : Node) (kind : MsgKind) → KnownOf ordered node → StepInTime ordered node (arrived_as msg node kind)
unfolding after_data
arrived_time ordered msg node Data known =
    let is = words_time ordered node msg.words node.side.misses.demand known refl in
    record { later = is.later; does = is.does }
arrived_time ordered msg node Back known = record { later = omega arith; does = λ one is. none_some one is }

pub arrived_in_time : (ordered : List Request) (msg : Msg) (node : Node) → KnownOf ordered node → StepInTime ordered node (node_after_message msg node)
unfolding node_after_message
arrived_in_time ordered msg node known = arrived_time ordered msg node msg.kind known

-- ---- an access of the core
free_time : (node : Node) → node.side.misses.demand ≡ None → latest_time node ≡ node.delivered
free_time node free = ap (λ (entry : Option Demand). time_of_demand entry node.delivered) free

same_time : (ordered : List Request) (node after : Node) → latest_time after ≡ latest_time node → StepInTime ordered node (after, None)
same_time ordered node after same = record { later = omega arith; does = λ one is. none_some one is }

-- an access starts a demand, or hits
starts_in_time : (ordered : List Request) (access : Pending) (side : CacheSide) (node : Node) → node.side.misses.demand ≡ None → StepInTime ordered node (demand_started access side node)
starts_in_time ordered access side node free = same_time ordered node (demand_started access side node).0 (sym (free_time node free))

hit_in_time : (ordered : List Request) (access : Pending) (held : Held) (node after : Node) → node.side.misses.demand ≡ None → node.delivered ≤ length ordered → latest_time after ≡ latest_time node
    → (writes access.kind ≡ true → writer (line_of access.address) (delivered_to ordered node) ≡ Tile node.tile)
    → StepInTime ordered node (after, Some (done_by access node.delivered held.words))
hit_in_time ordered access held node after free within same may =
    let free_is = free_time node free in
    let is : IsInTime ordered node.tile (latest_time after) (done_by access node.delivered held.words) = record { time = omega arith; writer = λ changes. (may changes, within) } in
    record { later = omega arith; does = one_in_time ordered node.tile (latest_time after) (done_by access node.delivered held.words) is }

back_in_time : (ordered : List Request) (node : Node) (held : Option Held) (step : Performed) → back_started node held ≡ Some step → StepInTime ordered node step
back_in_time ordered node None step e = none_some step e
back_in_time ordered node (Some held) step e =
    when_some (not (holds_back node.out || is_some node.side.misses.back)) _ step e (λ free is.
    subst (StepInTime ordered node) (same_Some _ step is) (same_time ordered node _ refl))

room_in_time : (ordered : List Request) (access : Pending) (node : Node) (cache : Option Cache) (step : Performed) → node.side.misses.demand ≡ None → victim_evicted access node cache ≡ Some step
    → StepInTime ordered node step
room_in_time ordered access node (Some cache) step free e =
    subst (StepInTime ordered node) (same_Some _ step e) (starts_in_time ordered access (with_cache cache node.side) node free)
room_in_time ordered access node None step free e = back_in_time ordered node (lowest_for node.chip (line_of access.address) node.side.cache) step e

missed_in_time : (ordered : List Request) (access : Pending) (node : Node) (step : Performed) → node.side.misses.demand ≡ None → missed access node ≡ Some step → StepInTime ordered node step
missed_in_time ordered access node step free e = by (has_room node.chip node.side.cache (line_of access.address)) e where
  by : (room : Bool) → (if room then Some (demand_started access node.side node) else victim_evicted access node (without_shared node.chip (line_of access.address) node.side.cache)) ≡ Some step
      → StepInTime ordered node step
  by true e = subst (StepInTime ordered node) (same_Some _ step e) (starts_in_time ordered access node.side node free)
  by false e = room_in_time ordered access node (without_shared node.chip (line_of access.address) node.side.cache) step free e

upgrade_in_time : (ordered : List Request) (access : Pending) (node : Node) (step : Performed) → node.side.misses.demand ≡ None
    → unless_written_back access node (Some (demand_started access node.side node)) ≡ Some step → StepInTime ordered node step
upgrade_in_time ordered access node step free e =
    when_some (not (is_written_back (line_of access.address) node.side.misses.back)) _ step e (λ apart starts.
    subst (StepInTime ordered node) (same_Some _ step starts) (starts_in_time ordered access node.side node free))

store_in_time : (ordered : List Request) (access : Pending) (held : Held) (node : Node) (state : State) (step : Performed) → node.side.misses.demand ≡ None → node.delivered ≤ length ordered
    → writer_for_state node held state (writer (line_of access.address) (delivered_to ordered node)) → store_to access held node state ≡ Some step → StepInTime ordered node step
store_in_time ordered access held node M step free within may e =
    subst (StepInTime ordered node) (same_Some _ step e) (hit_in_time ordered access held node _ free within refl (λ changes. may))
store_in_time ordered access held node O step free within may e = upgrade_in_time ordered access node step free e
store_in_time ordered access held node S step free within may e = upgrade_in_time ordered access node step free e

copy_in_time : (ordered : List Request) (access : Pending) (node : Node) (copy : Option Held) (step : Performed) → KnownOf ordered node → node.side.misses.demand ≡ None
    → lookup node.chip node.side.cache (line_of access.address) ≡ copy → accessed_with access node copy ≡ Some step → StepInTime ordered node step
copy_in_time ordered access node None step known free there e =
    when_some (not (is_written_back (line_of access.address) node.side.misses.back)) (missed access node) step e (λ apart miss.
    missed_in_time ordered access node step free miss)
copy_in_time ordered access node (Some held) step known free there e = by (writes access.kind) refl e where
  by : (changes : Bool) → writes access.kind ≡ changes → (if changes then store_to access held node held.state else Some (load_hit access held node)) ≡ Some step → StepInTime ordered node step
  by true changes e = store_in_time ordered access held node held.state step free known.within (known.writers (line_of access.address) held there) e
  by false changes e = subst (StepInTime ordered node) (same_Some _ step e) (hit_in_time ordered access held node node free known.within refl
      (λ other. cc))

pub accessed_in_time : (ordered : List Request) (access : Pending) (node : Node) (step : Performed) → KnownOf ordered node → node_after_access access node ≡ Some step → StepInTime ordered node step
unfolding node_after_access
accessed_in_time ordered access node step known e =
    when_some (not (has_entry node)) (accessed_with access node (lookup node.chip node.side.cache (line_of access.address))) step e (λ free tried.
    copy_in_time ordered access node (lookup node.chip node.side.cache (line_of access.address)) step known (free_of node.side.misses.demand free) refl tried)

-- ---- a request and a message that are sent
sent_place : (entry : Option Demand) (delivered : ℕ) → time_of_demand (sent_demand entry) delivered ≡ time_of_demand entry delivered
sent_place None delivered = refl
sent_place (Some demand) delivered = refl

pub request_sent_time : (node : Node) → latest_time (after_request_sent node) ≡ latest_time node
unfolding after_request_sent marked_sent
request_sent_time node =
    sent_forms node.side.misses.demand node.side.misses.back (λ misses. time_of_demand misses.demand node.delivered ≡ latest_time node) (record {
      get = sent_place node.side.misses.demand node.delivered;
      put = λ back stands. refl;
    })

pub message_sent_time : (node : Node) → latest_time (after_message_sent node) ≡ latest_time node
unfolding after_message_sent
message_sent_time node = refl
