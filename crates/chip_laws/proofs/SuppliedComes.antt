-- Each get is answered from exactly one place: a request that is delivered and a message that comes keep that.
use Rattle.std.proofs.Common.{◌≡◌, ◌≢◌, ℕ, ◌+◌, ◌≤◌, ◌<◌, Bool, true, false, cond, List, drop, refl, sym, ◌∙◌, ap, subst, arith, Option, Some, None}
use Rattle.std.specs.Prelude.{◌==◌, ◌&&◌, not, is_some, slice_get}
use Rattle.std.specs.List.{count_by}
use Rattle.std.proofs.lemmas.Bool.{eqb-true, eq-eqb, ne_eqb}
use Rattle.mesh_gen.specs.declared.request.Request.{Request}
use Rattle.mesh_gen.specs.declared.msg.Msg.{Msg}
use Rattle.mesh_gen.specs.declared.msg_kind.MsgKind.{MsgKind}
use Rattle.mesh_gen.specs.declared.msg_kind.MsgKind.TheVariants.{Data, Back}
use Rattle.mesh_gen.specs.declared.port.Port.{Port}
use Rattle.mesh_gen.specs.Ports.{count_if}
use Rattle.chip_model.specs.Chip.{Chip}
use Rattle.chip_model.specs.Misses.{Demand}
use Rattle.chip_model.specs.Replies.{after_data_eject}
use Rattle.chip_model.specs.Node.{Node, is_back, arrived_as, node_after_message, node_after_request}
use Rattle.chip_model.specs.Units.{UnitState}
use Rattle.chip_model.specs.ChipState.{ChipState}
use Rattle.chip_model.specs.Ownership.{owns, OwnsByOrder}
use Rattle.chip_model.specs.NodeShape.{NodeFits}
use Rattle.chip_model.specs.Bookkeeping.{is_get, is_get_of}
use Rattle.chip_model.specs.Suppliers.{delivered_at, is_data_for, data_in_channels, answers_to_come, has_early, is_ordered, IsSupplied}
use Rattle.snoop_core.specs.Requests.{OwnRequestFits}
use Rattle.chip_laws.specs.EventSteps.{ChangesUnit}
use Rattle.chip_laws.specs.MessageLaws.{MessageLaws}
use Rattle.chip_laws.proofs.UnitFrames.{each_unit}
use Rattle.chip_laws.proofs.OrderLists.{drop_next}
use Rattle.chip_laws.proofs.SupplyCounts.{count_by-cons}
use Rattle.chip_laws.proofs.SupplySends.{SameOpen}
use Rattle.chip_laws.proofs.SupplyAccounts.{promised, data_account}
use Rattle.chip_laws.proofs.SupplyToCome.{to_come, to_come_is, to_come_delivered, supplies_at}
use Rattle.chip_laws.proofs.SupplyDeliveries.{delivered_promises, supplier_here, delivered_open, delivered_account, arrived_promises}
use Rattle.chip_laws.proofs.SupplyFrames.{EachIsSupplied, count_here, one_more, promises_changed, answers_changed, still_supplied}
use Rattle.chip_laws.proofs.Supplied.{same_channels}

-- what is known of a tile whose gets are counted: at most one of them is ordered and not complete
abbrev pub OneOpen : List Request → ℕ → Node → Type 0
OneOpen ordered t node = count_by (is_get_of t) (drop node.delivered ordered) + count_if (is_ordered node.side.misses.demand) ≤ count_if (is_some node.side.misses.demand)

-- what is known where a request is delivered to a tile
pub record Delivers (chip : Chip) (ordered : List Request) (t : ℕ) (node : Node) (q : Request) : Type 0 where
  pub of : node.chip ≡ chip
  pub tile : node.tile ≡ t
  pub fits : NodeFits node
  pub owns : OwnsByOrder ordered node
  pub few : OneOpen ordered t node
  pub next : slice_get ordered node.delivered ≡ Some q
  pub line : q.line < node.chip.lines
  pub meets : OwnRequestFits node.tile node.side q

-- the promise that the node made itself
abbrev own_promise : ℕ → Node → Request → ℕ
own_promise t node q = cond (q.source == node.tile) (cond (owns node.chip node.side q.line) (count_if (is_get_of t q)) 0) 0

-- all that is to answer a tile's gets: one less, where the tile itself has the words
delivered_answers : (chip : Chip) (s new : ChipState) (t u : ℕ) (unit after : UnitState) (q : Request) → ChangesUnit s new u unit after → after.node ≡ (node_after_request q unit.node).0
    → new.network.ordered ≡ s.network.ordered → new.replies ≡ s.replies → Delivers chip s.network.ordered u unit.node q
    → answers_to_come chip new t + own_promise t unit.node q ≡ answers_to_come chip s t
unfolding node_after_request
delivered_answers chip s new t u unit after q c node order replies is =
    let g = count_if (is_get_of t q) in
    let n = unit.node.delivered in
    let more : after.node.delivered ≡ n + 1 = ap (λ (x : Node). x.delivered) node in
    let step = one_more s new u unit after c more in
    let count : delivered_at s u ≡ n = (count_here s new u unit after c).0 in
    let promises : promised t after.node ≡ promised t (node_after_request q unit.node).0 = ap (promised t) node in
    let sends = delivered_promises t q unit.node is.fits.side is.meets in
    let here = supplier_here s.network.ordered q unit.node g is.fits is.owns is.line in
    let coming = to_come_delivered chip (delivered_at s) (delivered_at new) s.network.ordered t u q step (ap (slice_get s.network.ordered) count ∙ is.next) in
    let place : cond (supplies_at chip s.network.ordered (delivered_at s u) q == u) g 0 ≡ cond (supplies_at unit.node.chip s.network.ordered n q == unit.node.tile) g 0 =
    ap (λ k. cond (supplies_at chip s.network.ordered k q == u) g 0) count
    ∙ ap (λ (x : Chip). cond (supplies_at x s.network.ordered n q == u) g 0) (sym is.of)
    ∙ ap (λ v. cond (supplies_at unit.node.chip s.network.ordered n q == v) g 0) (sym is.tile) in
    let now : to_come chip (delivered_at new) new.network.ordered t ≡ to_come chip (delivered_at new) s.network.ordered t =
    ap (λ (ordered : List Request). to_come chip (delivered_at new) ordered t) order in
    omega (arith, promises_changed s new t u unit after c, promises, sends, here, coming, place, now, to_come_is chip new t, to_come_is chip s t, same_channels s new t replies)

by_other : (t : ℕ) (q : Request) → (q.source == t) ≡ false → count_if (is_get_of t q) ≡ 0
by_other t q other = ap (λ b. count_if (is_get q.kind && b)) other ∙ none (is_get q.kind) where
  none : (b : Bool) → count_if (b && false) ≡ 0
  none true = refl
  none false = refl

by_own : (t : ℕ) (q : Request) → (q.source == t) ≡ true → count_if (is_get_of t q) ≡ count_if (is_get q.kind)
by_own t q own = ap (λ b. count_if (is_get q.kind && b)) own ∙ all (is_get q.kind) where
  all : (b : Bool) → count_if (b && true) ≡ count_if b
  all true = refl
  all false = refl

no_promise : (own owned : Bool) (x : ℕ) → (own ≡ true → x ≡ 0) → cond own (cond owned x 0) 0 ≡ 0
no_promise true true x none = none refl
no_promise true false x none = refl
no_promise false owned x none = refl

at_most_one : (b : Bool) → count_if b ≤ 1
at_most_one true = omega arith
at_most_one false = omega arith

-- for another tile nothing is lost
delivered_others : (t u : ℕ) (node : Node) (q : Request) → node.tile ≡ u → t ≢ u → own_promise t node q ≡ 0
delivered_others t u node q tile away =
    no_promise (q.source == node.tile) (owns node.chip node.side q.line) (count_if (is_get_of t q)) (λ own.
    by_other t q (ne_eqb q.source t (λ same. away (sym same ∙ eqb-true q.source node.tile own ∙ tile))))

-- at the tile itself
delivered_here : (chip : Chip) (s new : ChipState) (u : ℕ) (unit : UnitState) (q : Request) (own : Bool) → (q.source == unit.node.tile) ≡ own
    → new.network.ordered ≡ s.network.ordered → Delivers chip s.network.ordered u unit.node q → IsSupplied chip s u unit.node
    → answers_to_come chip new u + own_promise u unit.node q ≡ answers_to_come chip s u → IsSupplied chip new u (node_after_request q unit.node).0
unfolding node_after_request
delivered_here chip s new u unit q own is_own order is law answers =
    let node = unit.node in
    let left : count_by (is_get_of u) (drop node.delivered s.network.ordered) ≡ count_if (is_get_of u q) + count_by (is_get_of u) (drop (node.delivered + 1) s.network.ordered) =
    ap (count_by (is_get_of u)) (drop_next s.network.ordered node.delivered q is.next) ∙ count_by-cons (is_get_of u) q (drop (node.delivered + 1) s.network.ordered) in
    let now : count_by (is_get_of u) (drop (node.delivered + 1) new.network.ordered) ≡ count_by (is_get_of u) (drop (node.delivered + 1) s.network.ordered) =
    ap (λ (xs : List Request). count_by (is_get_of u) (drop (node.delivered + 1) xs)) order in
    by own is_own left now
  where
    source_here : (b : Bool) → (q.source == unit.node.tile) ≡ b → (q.source == u) ≡ b
    source_here b e = ap (λ v. q.source == v) (sym is.tile) ∙ e

    by : (own : Bool) → (q.source == unit.node.tile) ≡ own
        → count_by (is_get_of u) (drop unit.node.delivered s.network.ordered) ≡ count_if (is_get_of u q) + count_by (is_get_of u) (drop (unit.node.delivered + 1) s.network.ordered)
        → count_by (is_get_of u) (drop (unit.node.delivered + 1) new.network.ordered) ≡ count_by (is_get_of u) (drop (unit.node.delivered + 1) s.network.ordered)
        → IsSupplied chip new u (node_after_request q unit.node).0
    by true e left now =
        let node = unit.node in
        let get = by_own u q (source_here true e) in
        let promise : own_promise u node q ≡ cond (owns node.chip node.side q.line) (count_if (is_get q.kind)) 0 =
        ap (λ b. cond b (cond (owns node.chip node.side q.line) (count_if (is_get_of u q)) 0) 0) e ∙ ap (λ x. cond (owns node.chip node.side q.line) x 0) get in
        let one = at_most_one (is_some node.side.misses.demand) in
        let account = delivered_account q node is.fits.side is.meets e (omega (arith, is.few, one, law, answers, promise)) in
        omega (arith, left, now, get, promise, account, law, answers)
    by false e left now =
        let node = unit.node in
        let get = by_other u q (source_here false e) in
        let promise : own_promise u node q ≡ 0 = ap (λ b. cond b (cond (owns node.chip node.side q.line) (count_if (is_get_of u q)) 0) 0) e in
        let same = delivered_open q node e in
        let early : count_if (has_early (node_after_request q node).0.side.misses.demand) ≡ count_if (has_early node.side.misses.demand) = ap count_if same.early in
        let ordered : count_if (is_ordered (node_after_request q node).0.side.misses.demand) ≡ count_if (is_ordered node.side.misses.demand) = ap count_if same.ordered in
        omega (arith, left, now, get, promise, early, ordered, law, answers)

-- a request is delivered to a tile
pub supplied_delivered : (chip : Chip) (s new : ChipState) (u : ℕ) (unit after : UnitState) (q : Request) → ChangesUnit s new u unit after → after.node ≡ (node_after_request q unit.node).0
    → new.network.ordered ≡ s.network.ordered → new.replies ≡ s.replies → Delivers chip s.network.ordered u unit.node q
    → EachIsSupplied chip s → EachIsSupplied chip new
supplied_delivered chip s new u unit after q c node order replies is law =
    each_unit (λ t other. IsSupplied chip new t other.node) s new u unit after c
    (subst (IsSupplied chip new u) (sym node)
    (delivered_here chip s new u unit q (q.source == unit.node.tile) refl order is (law u unit c.at) (delivered_answers chip s new u u unit after q c node order replies is)))
    (λ t other away at.
    let sum = delivered_answers chip s new t u unit after q c node order replies is in
    still_supplied chip s new t other.node other.node order refl (record { early = refl; ordered = refl })
    (omega (arith, sum, delivered_others t u unit.node q is.tile away)) (law t other at))

-- ---- a message comes
-- what is known where a message comes to a tile
pub record Comes (ordered : List Request) (t : ℕ) (node : Node) : Type 0 where
  pub fits : NodeFits node
  pub few : OneOpen ordered t node

back_open : (msg : Msg) (node : Node) → msg.kind ≡ Back → SameOpen node.side.misses.demand (node_after_message msg node).0.side.misses.demand
unfolding node_after_message
back_open msg node kind = subst (λ (k : MsgKind). SameOpen node.side.misses.demand (arrived_as msg node k).0.side.misses.demand) (sym kind) (record { early = refl; ordered = refl })

pub same_delivered : (msg : Msg) (node : Node) → (node_after_message msg node).0.delivered ≡ node.delivered
unfolding node_after_message
same_delivered msg node = by msg.kind where
  by : (kind : MsgKind) → (arrived_as msg node kind).0.delivered ≡ node.delivered
  by Data = refl
  by Back = refl

is_waited : (entry : Option Demand) → 1 ≤ count_if (is_some entry) → (demand : Demand) × (entry ≡ Some demand)
is_waited None some = absurd (omega (arith, some))
is_waited (Some demand) some = (demand, refl)

data_here : (chip : Chip) (side_new : Node) (msg : Msg) (node : Node) → side_new ≡ (node_after_message msg node).0 → msg.kind ≡ Data → 1 ≤ count_if (is_some node.side.misses.demand)
    → count_if (has_early side_new.side.misses.demand) + count_if (is_ordered node.side.misses.demand) ≡ 1 + count_if (is_ordered side_new.side.misses.demand)
unfolding node_after_message
data_here chip side_new msg node is kind some =
    let waited = is_waited node.side.misses.demand some in
    let sum : Node → Type 0 = λ (x : Node). count_if (has_early x.side.misses.demand) + count_if (is_ordered node.side.misses.demand) ≡ 1 + count_if (is_ordered x.side.misses.demand) in
    subst sum (sym is)
    (subst (λ (k : MsgKind). sum (arrived_as msg node k).0) (sym kind) (data_account node.chip node.side msg.words waited.0 waited.1))

comes_answers : MessageLaws → (chip : Chip) (s new : ChipState) (t u : ℕ) (unit after : UnitState) (port : Port) (slot : ℕ) (msg : Msg) → ChangesUnit s new u unit after
    → after.node ≡ (node_after_message msg unit.node).0 → after_data_eject s.replies u port slot ≡ Some (msg, new.replies) → new.network.ordered ≡ s.network.ordered → NodeFits unit.node
    → answers_to_come chip new t + count_if (is_data_for t msg) ≡ answers_to_come chip s t
comes_answers messages chip s new t u unit after port slot msg c node came order fits =
    let less : data_in_channels new t + count_if (is_data_for t msg) ≡ data_in_channels s t =
    messages.takes (λ m. count_if (is_data_for t m)) s.replies new.replies u port slot msg came in
    let promises : promised t after.node ≡ promised t (node_after_message msg unit.node).0 = ap (promised t) node in
    answers_changed chip s new t u unit after (count_if (is_data_for t msg)) c order (ap (λ (x : Node). x.delivered) node ∙ same_delivered msg unit.node)
    (omega (arith, less, promises, arrived_promises t msg unit.node fits.side))

not_data : (t : ℕ) (msg : Msg) → msg.kind ≡ Back → count_if (is_data_for t msg) ≡ 0
not_data t msg kind = ap (λ k. count_if (not (is_back k) && (msg.to == t))) kind

data_for : (t : ℕ) (msg : Msg) → msg.kind ≡ Data → count_if (is_data_for t msg) ≡ count_if (msg.to == t)
data_for t msg kind = ap (λ k. count_if (not (is_back k) && (msg.to == t))) kind

-- words that are written back: nothing comes to the demand
comes_back : (chip : Chip) (s new : ChipState) (u : ℕ) (unit after : UnitState) (msg : Msg) → ChangesUnit s new u unit after → after.node ≡ (node_after_message msg unit.node).0
    → new.network.ordered ≡ s.network.ordered → msg.kind ≡ Back → ((t : ℕ) → answers_to_come chip new t + count_if (is_data_for t msg) ≡ answers_to_come chip s t)
    → EachIsSupplied chip s → EachIsSupplied chip new
comes_back chip s new u unit after msg c node order kind answers law =
    let same : (t : ℕ) → answers_to_come chip new t ≡ answers_to_come chip s t = λ t. omega (arith, answers t, not_data t msg kind) in
    each_unit (λ t other. IsSupplied chip new t other.node) s new u unit after c
    (still_supplied chip s new u unit.node after.node order (ap (λ (x : Node). x.delivered) node ∙ same_delivered msg unit.node)
    (subst (λ (x : Node). SameOpen unit.node.side.misses.demand x.side.misses.demand) (sym node) (back_open msg unit.node kind)) (same u) (law u unit c.at))
    (λ t other away at. still_supplied chip s new t other.node other.node order refl (record { early = refl; ordered = refl }) (same t) (law t other at))

-- data, which is for this tile
comes_data : (chip : Chip) (s new : ChipState) (u : ℕ) (unit after : UnitState) (msg : Msg) → ChangesUnit s new u unit after → after.node ≡ (node_after_message msg unit.node).0
    → new.network.ordered ≡ s.network.ordered → msg.kind ≡ Data → msg.to ≡ u → OneOpen s.network.ordered u unit.node
    → ((t : ℕ) → answers_to_come chip new t + count_if (is_data_for t msg) ≡ answers_to_come chip s t)
    → EachIsSupplied chip s → EachIsSupplied chip new
comes_data chip s new u unit after msg c node order kind to few answers law =
    each_unit (λ t other. IsSupplied chip new t other.node) s new u unit after c here
    (λ t other away at.
    let none : count_if (is_data_for t msg) ≡ 0 = data_for t msg kind ∙ ap count_if (ne_eqb msg.to t (λ same. away (sym same ∙ to))) in
    still_supplied chip s new t other.node other.node order refl (record { early = refl; ordered = refl }) (omega (arith, none, answers t)) (law t other at))
  where
    here : IsSupplied chip new u after.node
    here =
        let one : count_if (is_data_for u msg) ≡ 1 = data_for u msg kind ∙ ap count_if (eq-eqb msg.to u to) in
        let was = law u unit c.at in
        let now = answers u in
        let account = data_here chip after.node msg unit.node node kind (omega (arith, one, was, now, few)) in
        let delivered : after.node.delivered ≡ unit.node.delivered = ap (λ (x : Node). x.delivered) node ∙ same_delivered msg unit.node in
        let left : count_by (is_get_of u) (drop after.node.delivered new.network.ordered) ≡ count_by (is_get_of u) (drop unit.node.delivered s.network.ordered) =
        ap (λ n. count_by (is_get_of u) (drop n new.network.ordered)) delivered ∙ ap (λ (xs : List Request). count_by (is_get_of u) (drop unit.node.delivered xs)) order in
        let most = at_most_one (is_some unit.node.side.misses.demand) in
        omega (arith, one, was, now, few, account, left, most)

-- a message comes to a tile
pub supplied_comes : MessageLaws → (chip : Chip) (s new : ChipState) (u : ℕ) (unit after : UnitState) (port : Port) (slot : ℕ) (msg : Msg) → ChangesUnit s new u unit after
    → after.node ≡ (node_after_message msg unit.node).0 → after_data_eject s.replies u port slot ≡ Some (msg, new.replies) → new.network.ordered ≡ s.network.ordered
    → Comes s.network.ordered u unit.node → EachIsSupplied chip s → EachIsSupplied chip new
supplied_comes messages chip s new u unit after port slot msg c node came order is = by msg.kind refl where
  answers : (t : ℕ) → answers_to_come chip new t + count_if (is_data_for t msg) ≡ answers_to_come chip s t
  answers t = comes_answers messages chip s new t u unit after port slot msg c node came order is.fits

  by : (kind : MsgKind) → msg.kind ≡ kind → EachIsSupplied chip s → EachIsSupplied chip new
  by Data kind = comes_data chip s new u unit after msg c node order kind (messages.here s.replies new.replies u port slot msg came) is.few answers
  by Back kind = comes_back chip s new u unit after msg c node order kind answers
