-- Conditions of calls as tests that compute, for nodes that are known.
use Rattle.std.proofs.Common.{◌≡◌, ℕ, ◌<◌, ◌≤◌, ◌+◌, ◌^◌, Bool, true, false, refl, sym, ◌∙◌, ap, subst, Option, Some, None, length}
use Rattle.std.specs.Prelude.{◌==◌, ◌&&◌, is_some, is_none, IfOk, OnErr, nat_lt, nat_le, if◌then◌else◌}
use Rattle.std.specs.declared.result.Result.{Result}
use Rattle.std.specs.declared.result.Result.TheVariants.{Ok, Err}
use Rattle.std.proofs.lemmas.Bool.{ltb-true, leb-true, eqb-true, eq-eqb}
use Rattle.mesh_gen.specs.declared.kind.Kind.{Kind}
use Rattle.mesh_gen.specs.declared.kind.Kind.TheVariants.{GetS, GetM, PutM}
use Rattle.mesh_gen.specs.declared.request.Request.{Request}
use Rattle.mesh_gen.specs.declared.msg.Msg.{Msg}
use Rattle.mesh_gen.specs.declared.msg_kind.MsgKind.{MsgKind}
use Rattle.mesh_gen.specs.declared.msg_kind.MsgKind.TheVariants.{Data, Back}
use Rattle.mesh_gen.specs.declared.refusals.NotEnabled.{NotEnabled}
use Rattle.report_text.specs.declared.access.AccessKind.{AccessKind}
use Rattle.chip_model.specs.Chip.{tile_count, home}
use Rattle.chip_model.specs.Misses.{Demand, WriteBack, ends_in_getm}
use Rattle.chip_model.specs.Snoop.{CacheSide, Holding, OwnedCopy, LiveBack, OpenWrite, OpenRead, SharedCopy, Nothing, holding}
use Rattle.chip_model.specs.Records.{LineRecord}
use Rattle.chip_model.specs.NodeRows.{access}
use Rattle.chip_model.specs.Node.{Node, Performed, node_after_access, node_after_request, node_after_message}
use Rattle.mem_ctrl.specs.Owners.{record_of}
use Rattle.mem_ctrl.specs.Waits.{TakesRequest}
use Rattle.snoop_core.specs.declared.outcome.Outcome.{Outcome}
use Rattle.snoop_core.specs.Outcomes.{access_performed}
use Rattle.snoop_core.specs.Requests.{IsRequestOf, IsPutOf, MeetsOwn, OwnRequestFits, DataFits, ListHasRoom}

-- ---- the tests
abbrev same_kind : Kind → Kind → Bool
same_kind GetS GetS = true
same_kind GetS GetM = false
same_kind GetS PutM = false
same_kind GetM GetS = false
same_kind GetM GetM = true
same_kind GetM PutM = false
same_kind PutM GetS = false
same_kind PutM GetM = false
same_kind PutM PutM = true

abbrev asked_for : Option Demand → Request → Bool
asked_for None q = false
asked_for (Some d) q = same_kind d.kind q.kind && (d.line == q.line) && d.sent && is_none d.ordered

abbrev written : Option WriteBack → Request → Bool
written None q = false
written (Some b) q = (b.line == q.line) && b.sent

abbrev owned_by : CacheSide → Request → Kind → Bool
owned_by side q GetS = asked_for side.misses.demand q
owned_by side q GetM = asked_for side.misses.demand q
owned_by side q PutM = written side.misses.back q

abbrev short_list : Holding → Bool
short_list (OwnedCopy words) = true
short_list (LiveBack words) = true
short_list (OpenWrite demand) = nat_lt (length demand.list) 64
short_list (OpenRead demand) = true
short_list SharedCopy = true
short_list Nothing = true

abbrev few_wait : Option LineRecord → Bool
few_wait None = true
few_wait (Some r) = if ends_in_getm r.waiters then false else nat_lt (length r.waiters) 64

abbrev lacking : Option Demand → Msg → Bool
lacking None msg = false
lacking (Some d) msg = (d.line == msg.line) && d.sent && is_none d.early

-- they hold
pub record Passes (q : Request) (node : Node) : Type 0 where
  pub source : nat_lt q.source (tile_count node.chip) ≡ true
  pub line : nat_lt q.line node.chip.lines ≡ true
  pub count : nat_lt (node.delivered + 1) (2 ^ 63) ≡ true
  pub own : (if q.source == node.tile then owned_by node.side q q.kind else true) ≡ true
  pub list : short_list (holding node.chip node.side q.line) ≡ true
  pub waiting : few_wait (record_of node.records q.line) ≡ true
  pub room : nat_le (length (node_after_request q node).0.out) 65 ≡ true

pub record MayTake (q : Request) (node : Node) : Type 0 where
  pub source : q.source < tile_count node.chip
  pub line : q.line < node.chip.lines
  pub count : node.delivered + 1 < 2 ^ 63
  pub own : OwnRequestFits node.tile node.side q
  pub list : ListHasRoom 64 node.chip node.tile node.side q
  pub waiting : (r : LineRecord) → record_of node.records q.line ≡ Some r → TakesRequest q 64 r
  pub room : length (node_after_request q node).0.out ≤ 65

both : (a b : Bool) → (a && b) ≡ true → (a ≡ true) × (b ≡ true)
both true b is = (refl, is)
both false b is = cc

kind_is : (a b : Kind) → same_kind a b ≡ true → a ≡ b
kind_is GetS GetS is = refl
kind_is GetS GetM is = cc
kind_is GetS PutM is = cc
kind_is GetM GetS is = cc
kind_is GetM GetM is = refl
kind_is GetM PutM is = cc
kind_is PutM GetS is = cc
kind_is PutM GetM is = cc
kind_is PutM PutM is = refl

none_is : {X : Type 0} (o : Option X) → is_none o ≡ true → o ≡ None
none_is None is = refl
none_is (Some x) is = cc

demand_met : (entry : Option Demand) (q : Request) → asked_for entry q ≡ true → (d : Demand) × (entry ≡ Some d) × IsRequestOf d q
demand_met None q is = cc
demand_met (Some d) q is =
    let first = both (same_kind d.kind q.kind && (d.line == q.line) && d.sent) (is_none d.ordered) is in
    let second = both (same_kind d.kind q.kind && (d.line == q.line)) d.sent first.0 in
    let third = both (same_kind d.kind q.kind) (d.line == q.line) second.0 in (
      d,
      refl,
      record {
        kind = kind_is d.kind q.kind third.0;
        line = eqb-true d.line q.line third.1;
        sent = second.1;
        unordered = none_is d.ordered first.1;
      },
    )

back_met : (entry : Option WriteBack) (q : Request) → written entry q ≡ true → (b : WriteBack) × (entry ≡ Some b) × IsPutOf b q
back_met None q is = cc
back_met (Some b) q is = let parts = both (b.line == q.line) b.sent is in (b, refl, record { line = eqb-true b.line q.line parts.0; sent = parts.1 })

own_met : (side : CacheSide) (q : Request) (k : Kind) → owned_by side q k ≡ true → MeetsOwn side q k
own_met side q GetS is = demand_met side.misses.demand q is
own_met side q GetM is = demand_met side.misses.demand q is
own_met side q PutM is = back_met side.misses.back q is

list_short : (h : Holding) (demand : Demand) → short_list h ≡ true → h ≡ OpenWrite demand → length demand.list < 64
list_short h demand is same = ltb-true (length demand.list) 64 (ap short_list (sym same) ∙ is)

waits_by : (o : Option LineRecord) (q : Request) (r : LineRecord) → few_wait o ≡ true → o ≡ Some r → TakesRequest q 64 r
waits_by o q r is same = waits_few r q (ends_in_getm r.waiters) refl (ap few_wait (sym same) ∙ is)
  where
    waits_few : (r : LineRecord) (q : Request) (ends : Bool) → ends_in_getm r.waiters ≡ ends → (if ends then false else nat_lt (length r.waiters) 64) ≡ true → TakesRequest q 64 r
    waits_few r q true ends is = cc
    waits_few r q false ends is = record {
      room = λ waits. ltb-true (length r.waiters) 64 is;
      readers = λ waits so. let no : true ≡ false = sym so ∙ ends in cc;
    }

pub may_take : (q known : Request) (node now : Node) → q ≡ known → node ≡ now → Passes known now → MayTake q node
may_take q known node now same_q same_node pass =
    subst (λ (x : Request). MayTake x node) (sym same_q) (subst (λ (n : Node). MayTake known n) (sym same_node) (record {
      source = ltb-true known.source (tile_count now.chip) pass.source;
      line = ltb-true known.line now.chip.lines pass.line;
      count = ltb-true (now.delivered + 1) (2 ^ 63) pass.count;
      own = λ same. own_met now.side known known.kind (ap (λ (b : Bool). if b then owned_by now.side known known.kind else true) (sym (eq-eqb known.source now.tile same)) ∙ pass.own);
      list = λ apart get demand is. list_short (holding now.chip now.side known.line) demand pass.list is;
      waiting = λ r is. waits_by (record_of now.records known.line) known r pass.waiting is;
      room = leb-true (length (node_after_request known now).0.out) 65 pass.room;
    }))

-- ---- a message
abbrev awaited_by : Option Demand → Msg → MsgKind → Bool
awaited_by entry msg Data = lacking entry msg
awaited_by entry msg Back = true

abbrev at_home : Node → Msg → MsgKind → Bool
at_home node msg Back = home node.chip msg.line == node.tile
at_home node msg Data = true

pub record Comes (msg : Msg) (node : Node) : Type 0 where
  pub line : nat_lt msg.line node.chip.lines ≡ true
  pub awaited : awaited_by node.side.misses.demand msg msg.kind ≡ true
  pub home : at_home node msg msg.kind ≡ true
  pub room : nat_le (length (node_after_message msg node).0.out) 65 ≡ true

pub record MayCome (msg : Msg) (node : Node) : Type 0 where
  pub line : msg.line < node.chip.lines
  pub awaited : DataFits node.side msg
  pub home : msg.kind ≡ Back → home node.chip msg.line ≡ node.tile
  pub room : length (node_after_message msg node).0.out ≤ 65

data_met : (side : CacheSide) (entry : Option Demand) (msg : Msg) → side.misses.demand ≡ entry → lacking entry msg ≡ true → msg.kind ≡ Data → DataFits side msg
data_met side None msg stands is kind = cc
data_met side (Some d) msg stands is kind = λ again.
    let first = both ((d.line == msg.line) && d.sent) (is_none d.early) is in
    let second = both (d.line == msg.line) d.sent first.0 in
    (d, stands, record { line = eqb-true d.line msg.line second.0; sent = second.1; wordless = none_is d.early first.1 })

data_awaited : (side : CacheSide) (msg : Msg) (k : MsgKind) → msg.kind ≡ k → awaited_by side.misses.demand msg k ≡ true → DataFits side msg
data_awaited side msg Data kind is = data_met side side.misses.demand msg refl is kind
data_awaited side msg Back kind is = λ data_kind. let no : Back ≡ Data = sym kind ∙ data_kind in cc

reaches_memory : (node : Node) (msg : Msg) (k : MsgKind) → msg.kind ≡ k → at_home node msg k ≡ true → msg.kind ≡ Back → home node.chip msg.line ≡ node.tile
reaches_memory node msg Back kind is back = eqb-true (home node.chip msg.line) node.tile is
reaches_memory node msg Data kind is back = let no : Data ≡ Back = sym kind ∙ back in cc

pub may_come : (msg known : Msg) (node now : Node) → msg ≡ known → node ≡ now → Comes known now → MayCome msg node
may_come msg known node now same_msg same_node pass =
    subst (λ (m : Msg). MayCome m node) (sym same_msg) (subst (λ (n : Node). MayCome known n) (sym same_node) (record {
      line = ltb-true known.line now.chip.lines pass.line;
      awaited = data_awaited now.side known known.kind refl pass.awaited;
      home = reaches_memory now known known.kind refl pass.home;
      room = leb-true (length (node_after_message known now).0.out) 65 pass.room;
    }))

-- ---- the node after a call
abbrev pub started_by : Node → Option Performed → Node
started_by node None = node
started_by node (Some p) = p.0

went_by : (result : Result Outcome NotEnabled) (node new : Node) (o : Option Performed) → is_some o ≡ true → IfOk result (λ outcome. o ≡ Some (new, access_performed outcome)) → OnErr result (o ≡ None) → new ≡ started_by node o
went_by (Ok outcome) node new None some ok err = cc
went_by (Ok outcome) node new (Some p) some ok err = let same : p ≡ (new, access_performed outcome) = cc in ap (λ (x : Performed). x.0) (sym same)
went_by (Err e) node new None some ok err = cc
went_by (Err e) node new (Some p) some ok err = cc

pub after_access : (result : Result Outcome NotEnabled) (kind : AccessKind) (address value : ℕ) (node now new : Node) → node ≡ now → is_some (node_after_access (access kind address value) now) ≡ true
    → IfOk result (λ outcome. node_after_access (access kind address value) node ≡ Some (new, access_performed outcome)) → OnErr result (node_after_access (access kind address value) node ≡ None)
    → new ≡ started_by now (node_after_access (access kind address value) now)
after_access result kind address value node now new same some ok err =
    let P : Node → Type 0 = λ n. IfOk result (λ outcome. node_after_access (access kind address value) n ≡ Some (new, access_performed outcome)) in
    let Q : Node → Type 0 = λ n. OnErr result (node_after_access (access kind address value) n ≡ None) in
    went_by result now new (node_after_access (access kind address value) now) some (subst P same ok) (subst Q same err)

refused_by : (result : Result Outcome NotEnabled) (node new : Node) (o : Option Performed) → o ≡ None → IfOk result (λ outcome. o ≡ Some (new, access_performed outcome)) → OnErr result (new ≡ node) → new ≡ node
refused_by (Ok outcome) node new o none ok kept = let no : None ≡ Some (new, access_performed outcome) = sym none ∙ ok in cc
refused_by (Err e) node new o none ok kept = kept

-- a refused access leaves the node as it was
pub kept_by : (result : Result Outcome NotEnabled) (kind : AccessKind) (address value : ℕ) (node now new : Node) → node ≡ now → node_after_access (access kind address value) now ≡ None
    → IfOk result (λ outcome. node_after_access (access kind address value) node ≡ Some (new, access_performed outcome)) → OnErr result (new ≡ node) → new ≡ now
kept_by result kind address value node now new same none ok kept =
    let P : Node → Type 0 = λ n. IfOk result (λ outcome. node_after_access (access kind address value) n ≡ Some (new, access_performed outcome)) in
    let Q : Node → Type 0 = λ n. OnErr result (new ≡ n) in
    refused_by result now new (node_after_access (access kind address value) now) none (subst P same ok) (subst Q same kept)

pub after_request : (q known : Request) (node now new : Node) → q ≡ known → node ≡ now → new ≡ (node_after_request q node).0 → new ≡ (node_after_request known now).0
after_request q known node now new same_q same_node is =
    is ∙ ap (λ (x : Request). (node_after_request x node).0) same_q ∙ ap (λ (n : Node). (node_after_request known n).0) same_node

pub after_message : (msg known : Msg) (node now new : Node) → msg ≡ known → node ≡ now → new ≡ (node_after_message msg node).0 → new ≡ (node_after_message known now).0
after_message msg known node now new same_msg same_node is =
    is ∙ ap (λ (m : Msg). (node_after_message m node).0) same_msg ∙ ap (λ (n : Node). (node_after_message known n).0) same_node
