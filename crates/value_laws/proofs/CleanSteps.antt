-- A step of a node that completes no demand makes no copy the only valid one that was not.
use Rattle.std.proofs.Common.{◌≡◌, ℕ, Bool, true, false, ◌==◌, Option, Some, None, List, sym, ap, ◌∙◌, refl, subst, inl, inr, arith}
use Rattle.std.specs.Prelude.{is_some, if◌then◌else◌}
use Rattle.std.proofs.lemmas.Bool.{false≢true, cond_both}
use Rattle.std.proofs.lemmas.Bool.Decides.{nat_tests}
use Rattle.mesh_gen.specs.declared.kind.Kind.{Kind}
use Rattle.mesh_gen.specs.declared.kind.Kind.TheVariants.{GetS, GetM, PutM}
use Rattle.mesh_gen.specs.declared.request.Request.{Request}
use Rattle.mesh_gen.specs.declared.msg.Msg.{Msg}
use Rattle.mesh_gen.specs.declared.msg_kind.MsgKind.{MsgKind}
use Rattle.mesh_gen.specs.declared.msg_kind.MsgKind.TheVariants.{Data, Back}
use Rattle.chip_model.specs.declared.line_state.State.{State}
use Rattle.chip_model.specs.declared.line_state.State.TheVariants.{M, O}
use Rattle.chip_model.specs.declared.pending.Pending.{Pending}
use Rattle.chip_model.specs.Chip.{Chip, line_of}
use Rattle.chip_model.specs.Cache.{Cache, Held, lookup, installed, without_line}
use Rattle.chip_model.specs.Misses.{Demand, WriteBack, is_getm}
use Rattle.chip_model.specs.Snoop.{CacheSide, completed, completed_load, completed_store, ordered_with, words_here, own_get, own_put, own_request, holding, snooped_with, after_snoop, data_at, data_for, after_data}
use Rattle.chip_model.specs.Node.{Node, Performed, node_after_request, node_after_message, arrived_as, node_after_access}
use Rattle.chip_model.specs.NodeShape.{IsCache, is_modified}
use Rattle.snoop_core.proofs.Accesses.{access_forms}
use Rattle.snoop_core.proofs.CacheMaps.{lookup-line, lookup-without_line, lookup-installed, fits_held}
use Rattle.value_laws.proofs.Snooping.{snooped_side}

-- the second cache has no copy as the only valid one that the first has not
abbrev pub NoneModified : Chip → Cache → Cache → Type 0
NoneModified chip cache new = (line : ℕ) → is_modified (lookup chip new line) ≡ true → is_modified (lookup chip cache line) ≡ true

pub snooped_clean : (chip : Chip) (side : CacheSide) (q : Request)
    → NoneModified chip side.cache (snooped_with chip q side (holding chip side q.line) q.kind).side.cache
snooped_clean chip side q line only = by (lookup chip left line) refl only where
  left : Cache
  left = (snooped_with chip q side (holding chip side q.line) q.kind).side.cache

  owned_state : (held : Held) → held.state ≡ O → is_modified (Some held) ≡ false
  owned_state held is = ap (λ (x : State). is_modified (Some (record held { state = x }))) is

  by : (copy : Option Held) → lookup chip left line ≡ copy → is_modified copy ≡ true → is_modified (lookup chip side.cache line) ≡ true
  by None at is = absurd (false≢true is)
  by (Some held) at is = elim ((snooped_side chip side q).copies line held at) [
    | inl stood ↦ ap is_modified stood ∙ is
    | inr owned ↦ absurd (false≢true (sym (owned_state held owned.state) ∙ is))
  ]

some_completed : (chip : Chip) (demand : Demand) (place : ℕ) (words : List ℕ) (side : CacheSide) → (completed chip demand place words side).done ≡ None → ⊥
some_completed chip demand place words side =
    cond_both (is_getm demand.kind) (completed_store chip demand place words side) (completed_load chip demand place words side)
    (λ outcome. outcome.done ≡ None → ⊥)
    (λ writes e. cc) (λ reads e. cc)

-- ---- a request

ordered_clean : (chip : Chip) (side : CacheSide) (place : ℕ) (demand : Demand) (words : Option (List ℕ))
    → (ordered_with chip side place demand words).done ≡ None
    → NoneModified chip side.cache (ordered_with chip side place demand words).side.cache
ordered_clean chip side place demand None e = λ line only. only
ordered_clean chip side place demand (Some words) e = absurd (some_completed chip demand place words side e)

get_clean : (chip : Chip) (side : CacheSide) (place : ℕ) (entry : Option Demand) → (own_get chip side place entry).done ≡ None
    → NoneModified chip side.cache (own_get chip side place entry).side.cache
get_clean chip side place None e = λ line only. only
get_clean chip side place (Some demand) e = ordered_clean chip side place demand (words_here chip side demand demand.early) e

put_clean : (chip : Chip) (side : CacheSide) (entry : Option WriteBack) → NoneModified chip side.cache (own_put chip side entry).side.cache
put_clean chip side None = λ line only. only
put_clean chip side (Some back) = λ line only. only

own_clean : (chip : Chip) (side : CacheSide) (place : ℕ) (kind : Kind) → (own_request chip side place kind).done ≡ None
    → NoneModified chip side.cache (own_request chip side place kind).side.cache
own_clean chip side place GetS e = get_clean chip side place side.misses.demand e
own_clean chip side place GetM e = get_clean chip side place side.misses.demand e
own_clean chip side place PutM e = put_clean chip side side.misses.back

pub request_clean : (q : Request) (node : Node) → (node_after_request q node).1 ≡ None
    → NoneModified node.chip node.side.cache (node_after_request q node).0.side.cache
unfolding node_after_request after_snoop
request_clean q node =
    cond_both (q.source == node.tile) (own_request node.chip node.side node.delivered q.kind)
    (snooped_with node.chip q node.side (holding node.chip node.side q.line) q.kind)
    (λ outcome. outcome.done ≡ None → NoneModified node.chip node.side.cache outcome.side.cache)
    (λ own e. own_clean node.chip node.side node.delivered q.kind e) (λ other e. snooped_clean node.chip node.side q)

-- ---- a message

data_clean : (chip : Chip) (side : CacheSide) (words : List ℕ) (demand : Demand) (place : Option ℕ) → (data_at chip side words demand place).done ≡ None
    → NoneModified chip side.cache (data_at chip side words demand place).side.cache
data_clean chip side words demand None e = λ line only. only
data_clean chip side words demand (Some place) e = absurd (some_completed chip demand place words side e)

words_clean : (chip : Chip) (side : CacheSide) (words : List ℕ) (entry : Option Demand) → (data_for chip side words entry).done ≡ None
    → NoneModified chip side.cache (data_for chip side words entry).side.cache
words_clean chip side words None e = λ line only. only
words_clean chip side words (Some demand) e = data_clean chip side words demand demand.ordered e

arrived_clean : (msg : Msg) (node : Node) (kind : MsgKind) → (arrived_as msg node kind).1 ≡ None
    → NoneModified node.chip node.side.cache (arrived_as msg node kind).0.side.cache
unfolding after_data
arrived_clean msg node Data e = words_clean node.chip node.side msg.words node.side.misses.demand e
arrived_clean msg node Back e = λ line only. only

pub message_clean : (msg : Msg) (node : Node) → (node_after_message msg node).1 ≡ None
    → NoneModified node.chip node.side.cache (node_after_message msg node).0.side.cache
unfolding node_after_message
message_clean msg node e = arrived_clean msg node msg.kind e

-- ---- an access of the core, also one that hits

without_clean : (chip : Chip) (cache : Cache) (line : ℕ) → NoneModified chip cache (without_line chip line cache)
without_clean chip cache line m only = by (m == line) (sym (ap is_modified (lookup-without_line chip cache line m)) ∙ only) where
  by : (b : Bool) → is_modified (if b then None else lookup chip cache m) ≡ true → is_modified (lookup chip cache m) ≡ true
  by true is = absurd (false≢true is)
  by false is = is

written_clean : (chip : Chip) (cache : Cache) (line : ℕ) (held : Held) (words : List ℕ) → lookup chip cache line ≡ Some held → held.state ≡ M
    → NoneModified chip cache (installed chip (record held { words = words }) cache)
written_clean chip cache line held words there state m only =
    by (m == held.line) refl (sym (ap is_modified (lookup-installed chip cache (record held { words = words }) m (fits_held chip cache held.line
    (ap is_some at)))) ∙ only)
  where
    at : lookup chip cache held.line ≡ Some held
    at = ap (lookup chip cache) (lookup-line chip cache line held there) ∙ there

    by : (b : Bool) → (m == held.line) ≡ b → is_modified (if b then Some (record held { words = words }) else lookup chip cache m) ≡ true
        → is_modified (lookup chip cache m) ≡ true
    by true test is =
        let same : m ≡ held.line = grind (arith, nat_tests) in
        ap (λ (n : ℕ). is_modified (lookup chip cache n)) same ∙ ap is_modified at ∙ ap (λ (x : State). is_modified (Some (record held { state = x }))) state
    by false test is = is

pub accessed_clean : (access : Pending) (node : Node) (step : Performed) → IsCache node.chip node.side.cache → node_after_access access node ≡ Some step
    → NoneModified node.chip node.side.cache step.0.side.cache
accessed_clean access node step shape done = access_forms access node step (λ after. NoneModified node.chip node.side.cache after.side.cache) shape (record {
  hit = λ line only. only;
  wrote = λ held there state words. written_clean node.chip node.side.cache (line_of access.address) held words there state;
  missed = λ a at apart absent room. (λ line only. only);
  upgraded = λ a at apart changes held there unmodified. (λ line only. only);
  made_room = λ a at apart absent cache drops.
      subst (NoneModified node.chip node.side.cache) (sym drops.dropped) (without_clean node.chip node.side.cache drops.was.line);
  put_back = λ held puts free none. without_clean node.chip node.side.cache held.line;
}) done
