-- What a step of a node does to the access that waits, and which access it completes.
use Rattle.std.proofs.Common.{◌≡◌, ℕ, ◌+◌, Bool, true, false, cond, refl, sym, ◌∙◌, subst, Option, Some, None, List}
use Rattle.std.specs.Prelude.{◌==◌, ◌||◌, is_some, if◌then◌else◌, not}
use Rattle.std.proofs.lemmas.Bool.{cond_both}
use Rattle.std.proofs.lemmas.Option.{same_Some}
use Rattle.mesh_gen.specs.declared.kind.Kind.{Kind}
use Rattle.mesh_gen.specs.declared.kind.Kind.TheVariants.{GetS, GetM, PutM}
use Rattle.mesh_gen.specs.declared.request.Request.{Request}
use Rattle.mesh_gen.specs.declared.msg.Msg.{Msg}
use Rattle.mesh_gen.specs.declared.msg_kind.MsgKind.{MsgKind}
use Rattle.mesh_gen.specs.declared.msg_kind.MsgKind.TheVariants.{Data, Back}
use Rattle.report_text.specs.Accesses.{writes}
use Rattle.chip_model.specs.declared.done.Done.{Done}
use Rattle.chip_model.specs.declared.line_state.State.{State}
use Rattle.chip_model.specs.declared.line_state.State.TheVariants.{M, O, S}
use Rattle.chip_model.specs.declared.pending.Pending.{Pending}
use Rattle.chip_model.specs.Chip.{Chip, line_of}
use Rattle.chip_model.specs.Cache.{Cache, Held, lookup, has_room, without_shared, lowest_for}
use Rattle.chip_model.specs.Misses.{Demand, WriteBack, Misses, sent_demand, sent_by, marked_sent, is_getm, is_written_back}
use Rattle.chip_model.specs.Snoop.{CacheSide, Outcome, with_cache, completed, completed_load, completed_store, done_by, words_here, ordered_with, own_get, own_put, own_request, holding, snooped_with, after_snoop, data_at, data_for, after_data}
use Rattle.chip_model.specs.Node.{Node, Performed, node_after_request, arrived_as, node_after_message, after_request_sent, holds_back, has_entry, load_hit, store_to, missed, victim_evicted, back_started, unless_written_back, demand_started, accessed_with, node_after_access}
use Rattle.snoop_core.proofs.SnoopSteps.{snoop_forms}
use Rattle.chip_laws.proofs.Options.{none_some, when_some}

-- what was done was one of these accesses, at some time and by the words that were there
pub record Was (Is : Pending → Type 0) (one : Done) : Type 0 where
  pub access : Pending
  pub is : Is access
  pub kind : one.kind ≡ access.kind
  pub time : ℕ
  pub words : List ℕ
  pub by : one ≡ done_by access time words

-- an access with the words that were there
was_done : (Is : Pending → Type 0) (access : Pending) (time : ℕ) (words : List ℕ) → Is access → Was Is (done_by access time words)
was_done Is access time words is = record { access = access; is = is; kind = refl; time = time; words = words; by = refl }

-- each access that waits, and the one that is completed, is one of these; where one is completed none waits
pub record GoesOn (Is : Pending → Type 0) (side : CacheSide) (done : Option Done) : Type 0 where
  pub waits : (demand : Demand) → side.misses.demand ≡ Some demand → Is demand.pending
  pub was : (one : Done) → done ≡ Some one → Was Is one
  pub alone : (one : Done) → done ≡ Some one → side.misses.demand ≡ None

-- each access that waits is one of these
abbrev pub Waits : (Pending → Type 0) → Option Demand → Type 0
Waits Is entry = (demand : Demand) → entry ≡ Some demand → Is demand.pending

no_demand : (Is : Pending → Type 0) → Waits Is None
no_demand Is demand e = none_some demand e

one_demand : (Is : Pending → Type 0) (demand : Demand) → Is demand.pending → Waits Is (Some demand)
one_demand Is demand is other e = subst (λ (d : Demand). Is d.pending) (same_Some demand other e) is

-- nothing is completed
quietly : (Is : Pending → Type 0) (side : CacheSide) → Waits Is side.misses.demand → GoesOn Is side None
quietly Is side waits = record { waits = waits; was = λ one e. none_some one e; alone = λ one e. none_some one e }

-- the demand that stood is completed
completely : (Is : Pending → Type 0) (side : CacheSide) (one : Done) → side.misses.demand ≡ None → Was Is one → GoesOn Is side (Some one)
completely Is side one none is = record {
  waits = λ demand e. none_some demand (sym none ∙ e);
  was = λ other e. subst (Was Is) (same_Some one other e) is;
  alone = λ other e. none;
}

abbrev Goes : (Pending → Type 0) → Outcome → Type 0
Goes Is outcome = GoesOn Is outcome.side outcome.done

completed_goes : (Is : Pending → Type 0) (chip : Chip) (demand : Demand) (place : ℕ) (words : List ℕ) (side : CacheSide) → Is demand.pending
    → Goes Is (completed chip demand place words side)
completed_goes Is chip demand place words side is =
    cond_both (is_getm demand.kind) (completed_store chip demand place words side) (completed_load chip demand place words side) (Goes Is)
    (λ writes. completely Is (completed_store chip demand place words side).side _ refl (was_done Is demand.pending (place + 1) words is))
    (λ reads. completely Is (completed_load chip demand place words side).side _ refl (was_done Is demand.pending (place + 1) words is))

ordered_goes : (Is : Pending → Type 0) (chip : Chip) (side : CacheSide) (place : ℕ) (demand : Demand) (words : Option (List ℕ)) → Is demand.pending
    → Goes Is (ordered_with chip side place demand words)
ordered_goes Is chip side place demand (Some words) is = completed_goes Is chip demand place words side is
ordered_goes Is chip side place demand None is = quietly Is _ (one_demand Is (record demand { ordered = Some place }) is)

get_goes : (Is : Pending → Type 0) (chip : Chip) (side : CacheSide) (place : ℕ) (entry : Option Demand) → side.misses.demand ≡ entry → Waits Is side.misses.demand
    → Goes Is (own_get chip side place entry)
get_goes Is chip side place None stands waits = quietly Is side waits
get_goes Is chip side place (Some demand) stands waits = ordered_goes Is chip side place demand (words_here chip side demand demand.early) (waits demand stands)

put_goes : (Is : Pending → Type 0) (chip : Chip) (side : CacheSide) (entry : Option WriteBack) → Waits Is side.misses.demand → Goes Is (own_put chip side entry)
put_goes Is chip side None waits = quietly Is side waits
put_goes Is chip side (Some back) waits = quietly Is _ waits

own_goes : (Is : Pending → Type 0) (chip : Chip) (side : CacheSide) (place : ℕ) (kind : Kind) → Waits Is side.misses.demand → Goes Is (own_request chip side place kind)
own_goes Is chip side place GetS waits = get_goes Is chip side place side.misses.demand refl waits
own_goes Is chip side place GetM waits = get_goes Is chip side place side.misses.demand refl waits
own_goes Is chip side place PutM waits = put_goes Is chip side side.misses.back waits

other_goes : (Is : Pending → Type 0) (chip : Chip) (side : CacheSide) (q : Request) → Waits Is side.misses.demand
    → Goes Is (snooped_with chip q side (holding chip side q.line) q.kind)
other_goes Is chip side q waits = snoop_forms chip side q (Goes Is) (record {
  put = λ kind. quietly Is _ waits;
  copy_read = λ kind held there owned. quietly Is _ waits;
  copy_written = λ kind held there owned. quietly Is _ waits;
  back_read = λ kind back. quietly Is _ waits;
  back_written = λ kind copy back stands line. quietly Is _ waits;
  list_read = λ kind demand meets writes goes_on. quietly Is _ (one_demand Is _ (waits demand meets.stands));
  list_written = λ kind demand meets writes goes_on. quietly Is _ (one_demand Is _ (waits demand meets.stands));
  read = λ kind. quietly Is _ waits;
  once = λ kind demand meets reads. quietly Is _ (one_demand Is _ (waits demand meets.stands));
  shared_written = λ kind unowned. quietly Is _ waits;
  nothing_written = λ kind unowned. quietly Is _ waits;
})

snooped_goes : (Is : Pending → Type 0) (chip : Chip) (tile : ℕ) (side : CacheSide) (place : ℕ) (q : Request) → Waits Is side.misses.demand → Goes Is (after_snoop chip tile side place q)
unfolding after_snoop
snooped_goes Is chip tile side place q waits =
    cond_both (q.source == tile) (own_request chip side place q.kind) (snooped_with chip q side (holding chip side q.line) q.kind) (Goes Is)
    (λ same. own_goes Is chip side place q.kind waits)
    (λ other. other_goes Is chip side q waits)

-- a step of a node, whose chip stays
pub record StepGoesOn (Is : Pending → Type 0) (node : Node) (step : Performed) : Type 0 where
  pub chip : step.0.chip ≡ node.chip
  pub tile : step.0.tile ≡ node.tile
  pub goes : GoesOn Is step.0.side step.1

pub delivered_goes : (Is : Pending → Type 0) (q : Request) (node : Node) → Waits Is node.side.misses.demand → StepGoesOn Is node (node_after_request q node)
unfolding node_after_request
delivered_goes Is q node waits = record { chip = refl; tile = refl; goes = snooped_goes Is node.chip node.tile node.side node.delivered q waits }

data_goes : (Is : Pending → Type 0) (chip : Chip) (side : CacheSide) (words : List ℕ) (demand : Demand) (place : Option ℕ) → Is demand.pending → Goes Is (data_at chip side words demand place)
data_goes Is chip side words demand (Some place) is = completed_goes Is chip demand place words side is
data_goes Is chip side words demand None is = quietly Is _ (one_demand Is (record demand { early = Some words }) is)

words_go : (Is : Pending → Type 0) (chip : Chip) (side : CacheSide) (words : List ℕ) (entry : Option Demand) → side.misses.demand ≡ entry → Waits Is side.misses.demand
    → Goes Is (data_for chip side words entry)
words_go Is chip side words None stands waits = quietly Is side waits
words_go Is chip side words (Some demand) stands waits = data_goes Is chip side words demand demand.ordered (waits demand stands)

arrival_goes : (Is : Pending → Type 0) (msg : Msg) (node : Node) (kind : MsgKind) → Waits Is node.side.misses.demand → StepGoesOn Is node (arrived_as msg node kind)
unfolding after_data
arrival_goes Is msg node Data waits = record { chip = refl; tile = refl; goes = words_go Is node.chip node.side msg.words node.side.misses.demand refl waits }
arrival_goes Is msg node Back waits = record { chip = refl; tile = refl; goes = quietly Is node.side waits }

pub arrived_goes : (Is : Pending → Type 0) (msg : Msg) (node : Node) → Waits Is node.side.misses.demand → StepGoesOn Is node (node_after_message msg node)
unfolding node_after_message
arrived_goes Is msg node waits = arrival_goes Is msg node msg.kind waits

sent_waits : (Is : Pending → Type 0) (entry : Option Demand) → Waits Is entry → Waits Is (sent_demand entry)
sent_waits Is None waits = no_demand Is
sent_waits Is (Some demand) waits = one_demand Is (record demand { sent = true }) (waits demand refl)

put_waits : (Is : Pending → Type 0) (entry : Option Demand) (back : WriteBack) (b : Bool) → Waits Is entry
    → Waits Is (cond {A = Misses} b (record { demand = sent_demand entry; back = Some back }) (record { demand = entry; back = Some (record back { sent = true }) })).demand
put_waits Is entry back true waits = sent_waits Is entry waits
put_waits Is entry back false waits = waits

by_back : (Is : Pending → Type 0) (entry : Option Demand) (back : Option WriteBack) → Waits Is entry → Waits Is (sent_by entry back).demand
by_back Is entry None waits = sent_waits Is entry waits
by_back Is entry (Some back) waits = put_waits Is entry back back.sent waits

-- the access that waits stays as it is where the request is sent
pub request_waits : (Is : Pending → Type 0) (node : Node) → Waits Is node.side.misses.demand → Waits Is (after_request_sent node).side.misses.demand
unfolding after_request_sent marked_sent
request_waits Is node waits = by_back Is node.side.misses.demand node.side.misses.back waits

-- An access of the core.

starts_goes : (Is : Pending → Type 0) (access : Pending) (side : CacheSide) (node : Node) → Is access → StepGoesOn Is node (demand_started access side node)
starts_goes Is access side node is = record { chip = refl; tile = refl; goes = quietly Is _ (one_demand Is _ is) }

back_goes : (Is : Pending → Type 0) (node : Node) (held : Option Held) (step : Performed) → Waits Is node.side.misses.demand → back_started node held ≡ Some step → StepGoesOn Is node step
back_goes Is node None step waits e = none_some step e
back_goes Is node (Some held) step waits e =
    when_some (not (holds_back node.out || is_some node.side.misses.back)) _ step e (λ free is.
    subst (StepGoesOn Is node) (same_Some _ step is) (record { chip = refl; tile = refl; goes = quietly Is _ waits }))

room_goes : (Is : Pending → Type 0) (access : Pending) (node : Node) (cache : Option Cache) (step : Performed) → Is access → Waits Is node.side.misses.demand → victim_evicted access node cache ≡ Some step → StepGoesOn Is node step
room_goes Is access node (Some cache) step is waits e = subst (StepGoesOn Is node) (same_Some _ step e) (starts_goes Is access (with_cache cache node.side) node is)
room_goes Is access node None step is waits e = back_goes Is node (lowest_for node.chip (line_of access.address) node.side.cache) step waits e

missed_goes : (Is : Pending → Type 0) (access : Pending) (node : Node) (step : Performed) → Is access → Waits Is node.side.misses.demand → missed access node ≡ Some step → StepGoesOn Is node step
missed_goes Is access node step is waits e = by (has_room node.chip node.side.cache (line_of access.address)) e where
  by : (room : Bool) → (if room then Some (demand_started access node.side node) else victim_evicted access node (without_shared node.chip (line_of access.address) node.side.cache)) ≡ Some step → StepGoesOn Is node step
  by true e = subst (StepGoesOn Is node) (same_Some _ step e) (starts_goes Is access node.side node is)
  by false e = room_goes Is access node (without_shared node.chip (line_of access.address) node.side.cache) step is waits e

upgrade_goes : (Is : Pending → Type 0) (access : Pending) (node : Node) (step : Performed) → Is access → unless_written_back access node (Some (demand_started access node.side node)) ≡ Some step → StepGoesOn Is node step
upgrade_goes Is access node step is e =
    when_some (not (is_written_back (line_of access.address) node.side.misses.back)) _ step e (λ apart starts.
    subst (StepGoesOn Is node) (same_Some _ step starts) (starts_goes Is access node.side node is))

store_goes : (Is : Pending → Type 0) (access : Pending) (held : Held) (node : Node) (state : State) (step : Performed) → Is access → node.side.misses.demand ≡ None
    → store_to access held node state ≡ Some step → StepGoesOn Is node step
store_goes Is access held node M step is free e = subst (StepGoesOn Is node) (same_Some _ step e) (record { chip = refl; tile = refl; goes = completely Is _ _ free (was_done Is access node.delivered held.words is) })
store_goes Is access held node O step is free e = upgrade_goes Is access node step is e
store_goes Is access held node S step is free e = upgrade_goes Is access node step is e

copy_goes : (Is : Pending → Type 0) (access : Pending) (node : Node) (copy : Option Held) (step : Performed) → Is access → node.side.misses.demand ≡ None
    → accessed_with access node copy ≡ Some step → StepGoesOn Is node step
copy_goes Is access node None step is free e =
    when_some (not (is_written_back (line_of access.address) node.side.misses.back)) (missed access node) step e (λ apart miss.
    missed_goes Is access node step is (λ demand stands. none_some demand (sym free ∙ stands)) miss)
copy_goes Is access node (Some held) step is free e = by (writes access.kind) e where
  by : (changes : Bool) → (if changes then store_to access held node held.state else Some (load_hit access held node)) ≡ Some step → StepGoesOn Is node step
  by true e = store_goes Is access held node held.state step is free e
  by false e = subst (StepGoesOn Is node) (same_Some _ step e) (record { chip = refl; tile = refl; goes = completely Is node.side _ free (was_done Is access node.delivered held.words is) })

pub free_of : (entry : Option Demand) → not (is_some entry) ≡ true → entry ≡ None
free_of None e = refl
free_of (Some demand) e = cc

pub access_goes : (Is : Pending → Type 0) (access : Pending) (node : Node) (step : Performed) → Is access → node_after_access access node ≡ Some step → StepGoesOn Is node step
unfolding node_after_access
access_goes Is access node step is e =
    when_some (not (has_entry node)) (accessed_with access node (lookup node.chip node.side.cache (line_of access.address))) step e (λ free tried.
    copy_goes Is access node (lookup node.chip node.side.cache (line_of access.address)) step is (free_of node.side.misses.demand free) tried)
