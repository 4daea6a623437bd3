-- The time of an access that a step of a node completes: not before what the node performed up to then.
use Rattle.std.proofs.Common.{◌≡◌, ℕ, ◌+◌, ◌≤◌, Bool, true, false, refl, sym, ◌∙◌, ap, subst, arith, Option, Some, None, List}
use Rattle.std.specs.Prelude.{◌==◌, ◌||◌, not, is_some, if◌then◌else◌}
use Rattle.std.proofs.lemmas.Bool.{cond_both}
use Rattle.std.proofs.lemmas.Option.{same_Some}
use Rattle.mesh_gen.specs.declared.kind.Kind.{Kind}
use Rattle.mesh_gen.specs.declared.kind.Kind.TheVariants.{GetS, GetM, PutM}
use Rattle.mesh_gen.specs.declared.request.Request.{Request}
use Rattle.mesh_gen.specs.declared.msg.Msg.{Msg}
use Rattle.mesh_gen.specs.declared.msg_kind.MsgKind.{MsgKind}
use Rattle.mesh_gen.specs.declared.msg_kind.MsgKind.TheVariants.{Data, Back}
use Rattle.report_text.specs.Accesses.{writes}
use Rattle.chip_model.specs.declared.done.Done.{Done}
use Rattle.chip_model.specs.declared.line_state.State.{State}
use Rattle.chip_model.specs.declared.line_state.State.TheVariants.{M, O, S}
use Rattle.chip_model.specs.declared.pending.Pending.{Pending}
use Rattle.chip_model.specs.Chip.{Chip, line_of}
use Rattle.chip_model.specs.Cache.{Cache, Held, lookup, has_room, without_shared, lowest_for}
use Rattle.chip_model.specs.Misses.{Demand, WriteBack, is_getm, is_written_back}
use Rattle.chip_model.specs.Snoop.{CacheSide, with_cache, completed, completed_load, completed_store, done_by, words_here, ordered_with, own_get, own_put, own_request, holding, snooped_with, after_snoop, data_at, data_for, after_data}
use Rattle.chip_model.specs.Node.{Node, Performed, node_after_request, arrived_as, node_after_message, holds_back, has_entry, load_hit, store_to, missed, victim_evicted, back_started, unless_written_back, demand_started, accessed_with, node_after_access}
use Rattle.chip_model.specs.Writers.{time_of_place, time_of_demand, latest_time}
use Rattle.snoop_core.proofs.OwnSteps.{met_done}
use Rattle.chip_laws.proofs.Options.{none_some, when_some}

-- what is done has this time
abbrev At : ℕ → Option Done → Type 0
At time done = (one : Done) → done ≡ Some one → one.time ≡ time

none_at : (time : ℕ) → At time None
none_at time one e = none_some one e

some_at : (time : ℕ) (done : Done) → done.time ≡ time → At time (Some done)
some_at time done is one e = ap (λ (d : Done). d.time) (sym (same_Some done one e)) ∙ is

completed_at : (chip : Chip) (demand : Demand) (place : ℕ) (words : List ℕ) (side : CacheSide) → At (place + 1) (completed chip demand place words side).done
completed_at chip demand place words side =
    cond_both (is_getm demand.kind) (completed_store chip demand place words side) (completed_load chip demand place words side) (λ outcome. At (place + 1) outcome.done)
    (λ w. some_at (place + 1) (done_by demand.pending (place + 1) words) refl)
    (λ r. some_at (place + 1) (done_by demand.pending (place + 1) words) refl)

-- ---- a request is delivered
ordered_at : (chip : Chip) (side : CacheSide) (place : ℕ) (demand : Demand) (words : Option (List ℕ)) → At (place + 1) (ordered_with chip side place demand words).done
ordered_at chip side place demand (Some words) = completed_at chip demand place words side
ordered_at chip side place demand None = none_at (place + 1)

get_at : (chip : Chip) (side : CacheSide) (place : ℕ) (entry : Option Demand) → At (place + 1) (own_get chip side place entry).done
get_at chip side place None = none_at (place + 1)
get_at chip side place (Some demand) = ordered_at chip side place demand (words_here chip side demand demand.early)

put_at : (chip : Chip) (side : CacheSide) (place : ℕ) (entry : Option WriteBack) → At (place + 1) (own_put chip side entry).done
put_at chip side place None = none_at (place + 1)
put_at chip side place (Some back) = none_at (place + 1)

own_at : (chip : Chip) (side : CacheSide) (place : ℕ) (kind : Kind) → At (place + 1) (own_request chip side place kind).done
own_at chip side place GetS = get_at chip side place side.misses.demand
own_at chip side place GetM = get_at chip side place side.misses.demand
own_at chip side place PutM = put_at chip side place side.misses.back

snooped_at : (chip : Chip) (tile : ℕ) (side : CacheSide) (place : ℕ) (q : Request) → At (place + 1) (after_snoop chip tile side place q).done
unfolding after_snoop
snooped_at chip tile side place q =
    cond_both (q.source == tile) (own_request chip side place q.kind) (snooped_with chip q side (holding chip side q.line) q.kind) (λ outcome. At (place + 1) outcome.done)
    (λ own. own_at chip side place q.kind)
    (λ other. subst (At (place + 1)) (sym (met_done q (record { chip = chip; side = side }))) (none_at (place + 1)))

pub delivered_time : (q : Request) (node : Node) (one : Done) → (node_after_request q node).1 ≡ Some one → one.time ≡ node.delivered + 1
unfolding node_after_request
delivered_time q node one e = snooped_at node.chip node.tile node.side node.delivered q one e

-- ---- data comes: an ordered demand is completed at the time after its place
abbrev After : Node → Option Done → Type 0
After node done = (one : Done) → done ≡ Some one → latest_time node ≤ one.time

at_after : (node : Node) (words : List ℕ) (demand : Demand) (place : Option ℕ) → node.side.misses.demand ≡ Some demand → demand.ordered ≡ place → After node (data_at node.chip node.side words demand place).done
at_after node words demand None stands ordered one e = none_some one e
at_after node words demand (Some place) stands ordered one e =
    let time = completed_at node.chip demand place words node.side one e in
    let latest : latest_time node ≡ place = ap (λ (o : Option Demand). time_of_demand o node.delivered) stands ∙ ap (λ (o : Option ℕ). time_of_place o node.delivered) ordered in
    omega (arith, time, latest)

words_after : (node : Node) (words : List ℕ) (entry : Option Demand) → node.side.misses.demand ≡ entry → After node (data_for node.chip node.side words entry).done
words_after node words None stands one e = none_some one e
words_after node words (Some demand) stands one e = at_after node words demand demand.ordered stands refl one e

kind_after : (msg : Msg) (node : Node) (kind : MsgKind) → After node (arrived_as msg node kind).1
unfolding after_data
kind_after msg node Data one e = words_after node msg.words node.side.misses.demand refl one e
kind_after msg node Back one e = none_some one e

pub arrived_time : (msg : Msg) (node : Node) (one : Done) → (node_after_message msg node).1 ≡ Some one → latest_time node ≤ one.time
unfolding node_after_message
arrived_time msg node = kind_after msg node msg.kind

-- ---- a hit has the time of the delivered count
back_at : (node : Node) (held : Option Held) (step : Performed) → back_started node held ≡ Some step → At node.delivered step.1
back_at node None step e = none_some step e
back_at node (Some held) step e =
    when_some (not (holds_back node.out || is_some node.side.misses.back)) _ step e (λ free is. subst (λ (p : Performed). At node.delivered p.1) (same_Some _ step is) (none_at node.delivered))

started_at : (access : Pending) (side : CacheSide) (node : Node) (step : Performed) → Some (demand_started access side node) ≡ Some step → At node.delivered step.1
started_at access side node step e = subst (λ (p : Performed). At node.delivered p.1) (same_Some (demand_started access side node) step e) (none_at node.delivered)

room_at : (access : Pending) (node : Node) (cache : Option Cache) (step : Performed) → victim_evicted access node cache ≡ Some step → At node.delivered step.1
room_at access node (Some cache) step e = started_at access (with_cache cache node.side) node step e
room_at access node None step e = back_at node (lowest_for node.chip (line_of access.address) node.side.cache) step e

missed_at : (access : Pending) (node : Node) (step : Performed) → missed access node ≡ Some step → At node.delivered step.1
missed_at access node step e = by (has_room node.chip node.side.cache (line_of access.address)) e where
  by : (room : Bool) → (if room then Some (demand_started access node.side node) else victim_evicted access node (without_shared node.chip (line_of access.address) node.side.cache)) ≡ Some step → At node.delivered step.1
  by true e = started_at access node.side node step e
  by false e = room_at access node (without_shared node.chip (line_of access.address) node.side.cache) step e

upgrade_at : (access : Pending) (node : Node) (step : Performed) → unless_written_back access node (Some (demand_started access node.side node)) ≡ Some step → At node.delivered step.1
upgrade_at access node step e =
    when_some (not (is_written_back (line_of access.address) node.side.misses.back)) (Some (demand_started access node.side node)) step e (λ apart starts. started_at access node.side node step starts)

store_at : (access : Pending) (held : Held) (node : Node) (state : State) (step : Performed) → store_to access held node state ≡ Some step → At node.delivered step.1
store_at access held node M step e =
    subst (λ (p : Performed). At node.delivered p.1) (same_Some _ step e) (some_at node.delivered (done_by access node.delivered held.words) refl)
store_at access held node O step e = upgrade_at access node step e
store_at access held node S step e = upgrade_at access node step e

copy_at : (access : Pending) (node : Node) (copy : Option Held) (step : Performed) → accessed_with access node copy ≡ Some step → At node.delivered step.1
copy_at access node None step e =
    when_some (not (is_written_back (line_of access.address) node.side.misses.back)) (missed access node) step e (λ apart miss. missed_at access node step miss)
copy_at access node (Some held) step e = by (writes access.kind) e where
  by : (changes : Bool) → (if changes then store_to access held node held.state else Some (load_hit access held node)) ≡ Some step → At node.delivered step.1
  by true e = store_at access held node held.state step e
  by false e = subst (λ (p : Performed). At node.delivered p.1) (same_Some _ step e) (some_at node.delivered (done_by access node.delivered held.words) refl)

pub accessed_time : (access : Pending) (node : Node) (step : Performed) (one : Done) → node_after_access access node ≡ Some step → step.1 ≡ Some one → one.time ≡ node.delivered
unfolding node_after_access
accessed_time access node step one e =
    when_some (not (has_entry node)) (accessed_with access node (lookup node.chip node.side.cache (line_of access.address))) step e (λ free tried.
    copy_at access node (lookup node.chip node.side.cache (line_of access.address)) step tried one)
