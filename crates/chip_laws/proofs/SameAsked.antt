-- Steps of a node that change nothing of the requests that it has on their way.
use Rattle.std.proofs.Common.{◌≡◌, ℕ, Bool, true, false, cond, refl, sym, ◌∙◌, ap, Option, Some, None, List, [], ◌∷◌}
use Rattle.std.specs.Prelude.{is_none, ◌&&◌}
use Rattle.std.proofs.lemmas.Bool.{cond_both}
use Rattle.mesh_gen.specs.declared.kind.Kind.{Kind}
use Rattle.mesh_gen.specs.declared.request.Request.{Request}
use Rattle.mesh_gen.specs.declared.msg.Msg.{Msg}
use Rattle.mesh_gen.specs.declared.msg_kind.MsgKind.{MsgKind}
use Rattle.mesh_gen.specs.declared.msg_kind.MsgKind.TheVariants.{Data, Back}
use Rattle.chip_model.specs.declared.pending.Pending.{Pending}
use Rattle.chip_model.specs.Chip.{Chip}
use Rattle.chip_model.specs.Misses.{Demand, WriteBack, Misses, is_getm}
use Rattle.chip_model.specs.Snoop.{CacheSide, stale_back, completed, completed_load, completed_store, holding, snooped_with, data_at, data_for, after_data}
use Rattle.chip_model.specs.Node.{Node, Performed, node_after_access, arrived_as, node_after_message}
use Rattle.chip_model.specs.NodeShape.{IsCache}
use Rattle.chip_model.specs.Bookkeeping.{outstanding_get, outstanding_put}
use Rattle.snoop_core.proofs.SnoopSteps.{snoop_forms}
use Rattle.snoop_core.proofs.Accesses.{access_forms, accessed_free}

-- the same requests are on their way
pub record SameAsked (old new : Misses) : Type 0 where
  pub gets : outstanding_get new.demand ≡ outstanding_get old.demand
  pub puts : outstanding_put new.back ≡ outstanding_put old.back

stale_puts : (back : Option WriteBack) → outstanding_put (stale_back back) ≡ outstanding_put back
stale_puts None = refl
stale_puts (Some back) = refl

pub other_asked : (chip : Chip) (side : CacheSide) (q : Request) → SameAsked side.misses (snooped_with chip q side (holding chip side q.line) q.kind).side.misses
other_asked chip side q = snoop_forms chip side q (λ outcome. SameAsked side.misses outcome.side.misses) (record {
  put = λ kind. record { gets = refl; puts = refl };
  copy_read = λ kind held there owned. record { gets = refl; puts = refl };
  copy_written = λ kind held there owned. record { gets = refl; puts = refl };
  back_read = λ kind back. record { gets = refl; puts = refl };
  back_written = λ kind copy back stands line. record { gets = refl; puts = stale_puts side.misses.back };
  list_read = λ kind demand meets writes goes_on. record { gets = sym (ap outstanding_get meets.stands); puts = refl };
  list_written = λ kind demand meets writes goes_on. record { gets = sym (ap outstanding_get meets.stands); puts = refl };
  read = λ kind. record { gets = refl; puts = refl };
  once = λ kind demand meets reads. record { gets = sym (ap outstanding_get meets.stands); puts = refl };
  shared_written = λ kind unowned. record { gets = refl; puts = refl };
  nothing_written = λ kind unowned. record { gets = refl; puts = refl };
})

-- ---- a demand that is ordered is not on its way
ordered_gets : (demand : Demand) (place : ℕ) → demand.ordered ≡ Some place → outstanding_get (Some demand) ≡ []
ordered_gets demand place ordered = by demand.sent demand.ordered ordered where
  by : (sent : Bool) (o : Option ℕ) → o ≡ Some place → cond {A = List (Kind × ℕ)} (sent && is_none o) ((demand.kind, demand.line) ∷ []) [] ≡ []
  by true (Some k) is = refl
  by true None is = cc
  by false o is = refl

completed_asked : (chip : Chip) (side : CacheSide) (demand : Demand) (place : ℕ) (words : List ℕ) → side.misses.demand ≡ Some demand → demand.ordered ≡ Some place
    → SameAsked side.misses (completed chip demand place words side).side.misses
completed_asked chip side demand place words stands ordered =
    let none : [] ≡ outstanding_get side.misses.demand = sym (ap outstanding_get stands ∙ ordered_gets demand place ordered) in
    cond_both (is_getm demand.kind) (completed_store chip demand place words side) (completed_load chip demand place words side) (λ outcome. SameAsked side.misses outcome.side.misses)
    (λ writes. record { gets = none; puts = refl })
    (λ reads. record { gets = none; puts = refl })

at_asked : (chip : Chip) (side : CacheSide) (words : List ℕ) (demand : Demand) (place : Option ℕ) → side.misses.demand ≡ Some demand → demand.ordered ≡ place
    → SameAsked side.misses (data_at chip side words demand place).side.misses
at_asked chip side words demand (Some place) stands ordered = completed_asked chip side demand place words stands ordered
at_asked chip side words demand None stands ordered = record { gets = sym (ap outstanding_get stands); puts = refl }

for_asked : (chip : Chip) (side : CacheSide) (words : List ℕ) (entry : Option Demand) → side.misses.demand ≡ entry → SameAsked side.misses (data_for chip side words entry).side.misses
for_asked chip side words None stands = record { gets = refl; puts = refl }
for_asked chip side words (Some demand) stands = at_asked chip side words demand demand.ordered stands refl

kind_asked : (msg : Msg) (node : Node) (kind : MsgKind) → SameAsked node.side.misses (arrived_as msg node kind).0.side.misses
unfolding after_data
kind_asked msg node Data = for_asked node.chip node.side msg.words node.side.misses.demand refl
kind_asked msg node Back = record { gets = refl; puts = refl }

pub arrived_asked : (msg : Msg) (node : Node) → SameAsked node.side.misses (node_after_message msg node).0.side.misses
unfolding node_after_message
arrived_asked msg node = kind_asked msg node msg.kind

-- what an access starts is not sent yet
pub accessed_asked : (access : Pending) (node : Node) (step : Performed) → node_after_access access node ≡ Some step → IsCache node.chip node.side.cache
    → SameAsked node.side.misses step.0.side.misses
accessed_asked access node step done is =
    let none : [] ≡ outstanding_get node.side.misses.demand = sym (ap outstanding_get (accessed_free access node step done)) in
    access_forms access node step (λ after. SameAsked node.side.misses after.side.misses) is (record {
      hit = record { gets = refl; puts = refl };
      wrote = λ held there modified words. record { gets = refl; puts = refl };
      missed = λ a at apart absent room. record { gets = none; puts = refl };
      upgraded = λ a at apart changes held there unmodified. record { gets = none; puts = refl };
      made_room = λ a at apart absent cache drops. record { gets = none; puts = refl };
      put_back = λ held puts queue alone. record { gets = refl; puts = sym (ap outstanding_put alone) };
    }) done
