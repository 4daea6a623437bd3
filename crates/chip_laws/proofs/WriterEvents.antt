-- Who owns a line and who may write the copy of it, over every event.
use Rattle.std.proofs.Common.{◌≡◌, ℕ, ◌+◌, Bool, true, false, refl, sym, ◌∙◌, ap, subst, Some, List, [], ◌∷◌, ◌++◌, take, slice_get}
use Rattle.std.specs.Prelude.{◌==◌, ◌&&◌, ◌||◌, not, is_some}
use Rattle.std.specs.List.{fold, list_any}
use Rattle.std.proofs.lemmas.Bool.{eqb-true, eq-eqb}
use Rattle.std.proofs.lemmas.List.{take-append-le}
use Rattle.mesh_gen.specs.declared.kind.Kind.{Kind}
use Rattle.mesh_gen.specs.declared.kind.Kind.TheVariants.{GetS, GetM, PutM}
use Rattle.mesh_gen.specs.declared.request.Request.{Request}
use Rattle.mesh_gen.specs.declared.msg.Msg.{Msg}
use Rattle.mesh_gen.specs.declared.msg_kind.MsgKind.{MsgKind}
use Rattle.mesh_gen.specs.declared.msg_kind.MsgKind.TheVariants.{Data, Back}
use Rattle.report_text.specs.declared.event.Event.{Event}
use Rattle.chip_model.specs.declared.owner.Owner.{Owner}
use Rattle.chip_model.specs.declared.owner.Owner.TheVariants.{Memory, Tile}
use Rattle.chip_model.specs.declared.pending.Pending.{Pending}
use Rattle.chip_model.specs.declared.waiting.Waiting.{Waiting}
use Rattle.chip_model.specs.Chip.{Chip}
use Rattle.chip_model.specs.Cache.{lookup}
use Rattle.chip_model.specs.Misses.{Demand, is_getm, ends_in_getm}
use Rattle.chip_model.specs.Snoop.{CacheSide, after_snoop}
use Rattle.chip_model.specs.Node.{Node, Performed, node_after_access, node_after_request, arrived_as, node_after_message, after_request_sent, after_message_sent}
use Rattle.chip_model.specs.Units.{UnitState, Behaviour}
use Rattle.chip_model.specs.ChipState.{ChipState}
use Rattle.chip_model.specs.BehaviourLaws.{KeepsLaws}
use Rattle.chip_model.specs.Ownership.{is_tile, owner, writer, writer_after, owns, is_owned_copy, is_live_back, is_open_write, delivered_to, OwnsByOrder}
use Rattle.chip_model.specs.Bookkeeping.{between, gets_of_others, up_to_getm, waiting_for, IsOrderedAt}
use Rattle.chip_model.specs.Writers.{is_ordered_write, WritersFit}
use Rattle.snoop_core.proofs.Accesses.{accessed_frame}
use Rattle.snoop_core.proofs.OwnRequests.{is_gets}
use Rattle.snoop_core.proofs.ByOrder.{OwnsByOrder-append, OwnsByOrder-node_after_request, OwnsByOrder-node_after_message, OwnsByOrder-node_after_access, OwnsByOrder-after_request_sent, OwnsByOrder-after_message_sent}
use Rattle.chip_laws.specs.EventSteps.{EventDoes}
use Rattle.chip_laws.specs.Meetings.{UnitsFit}
use Rattle.chip_laws.proofs.OrderFrames.{KnownOf, IsNext, DeliversNext, KeptByNodes, AllKnown, kept_by_event}
use Rattle.chip_laws.proofs.OwnerFolds.{owner_of_getm, writer_next, writer_of_kind, writer_from, owner_from, reads_only, none_writes, reads_stop, stays_owner, nobody_asks, all_read}
use Rattle.chip_laws.proofs.WriterCopies.{fits_copy, FitsWriter, tile_is, fits_writer, writers_fit}
use Rattle.chip_laws.proofs.WriterSteps.{CompletesFor, writers_snooped, writers_data, writers_accessed, sent_orders}

-- ---- the owners
owns_kept : KeptByNodes OwnsByOrder
owns_kept = record {
  grown = λ ordered more node known. OwnsByOrder-append ordered more node known.within known.owns;
  asked = λ ordered node known. OwnsByOrder-after_request_sent ordered node known.owns;
  sent = λ ordered node known. OwnsByOrder-after_message_sent ordered node known.owns;
  delivered = λ ordered q node known next. OwnsByOrder-node_after_request ordered q node next.at next.own known.fits.side known.owns;
  arrived = λ ordered msg node known. OwnsByOrder-node_after_message ordered msg node known.fits.side known.owns;
  accessed = λ ordered access node step known done. OwnsByOrder-node_after_access ordered access node step done known.fits.side known.owns;
}

-- each node owns what the order says, after every event
pub owns_by_event : (b : Behaviour) (laws : KeepsLaws b) (chip : Chip) (s new : ChipState) (event : Event)
    → UnitsFit b laws s → AllKnown s → DeliversNext chip s → EventDoes b chip s new event
    → (t : ℕ) (unit : UnitState) → slice_get new.units t ≡ Some unit → OwnsByOrder new.network.ordered unit.node
owns_by_event = kept_by_event OwnsByOrder owns_kept

-- ---- who may write the line of a demand that completes
getm_is : (kind : Kind) → is_getm kind ≡ true → kind ≡ GetM
getm_is GetS is = cc
getm_is GetM is = refl
getm_is PutM is = cc

-- what follows an ordered demand, of a tile
abbrev pub Following : List Request → Node → ℕ → List Request
Following ordered node place = between place node.delivered ordered

-- a load that keeps its copy
read_writer : (ordered : List Request) (node : Node) (demand : Demand) (place : ℕ) → KnownOf ordered node → IsOrderedAt ordered node demand place → demand.kind ≡ GetS
    → list_any (λ (q : Request). is_getm q.kind) (gets_of_others node.tile demand.line (Following ordered node place)) ≡ false
    → writer demand.line (delivered_to ordered node) ≡ Memory
read_writer ordered node demand place known at reads none =
    writer_from demand.line place node.delivered ordered at.before
    ∙ ap (λ (w : Owner). fold (writer_after demand.line) w (Following ordered node place))
    (writer_of_kind demand.line place ordered at.request GetS at.at (at.kind ∙ reads) at.line)
    ∙ none_writes node.tile demand.line (Following ordered node place) (ap not none) at.alone

owner_mine : (ordered : List Request) (node : Node) (demand : Demand) (place : ℕ) → IsOrderedAt ordered node demand place → demand.kind ≡ GetM
    → owner demand.line (take (place + 1) ordered) ≡ Tile node.tile
owner_mine ordered node demand place at writes =
    owner_of_getm demand.line place ordered at.request at.at (at.kind ∙ writes) at.line ∙ ap (λ (n : ℕ). Tile n) at.source

-- a store after which nobody waits
owned_writer : (ordered : List Request) (node : Node) (demand : Demand) (place : ℕ) → IsOrderedAt ordered node demand place → demand.kind ≡ GetM
    → gets_of_others node.tile demand.line (Following ordered node place) ≡ [] → is_tile node.tile (owner demand.line (delivered_to ordered node)) ≡ true
    → writer demand.line (delivered_to ordered node) ≡ Tile node.tile
owned_writer ordered node demand place at writes nobody owned =
    let mine : writer demand.line (take (place + 1) ordered) ≡ Tile node.tile =
    writer_of_kind demand.line place ordered at.request GetM at.at (at.kind ∙ writes) at.line ∙ ap (λ (n : ℕ). Tile n) at.source in
    let same : owner demand.line (take (place + 1) ordered) ≡ Tile node.tile = owner_mine ordered node demand place at writes in
    writer_from demand.line place node.delivered ordered at.before
    ∙ ap (λ (w : Owner). fold (writer_after demand.line) w (Following ordered node place)) (mine ∙ sym same)
    ∙ stays_owner node.tile demand.line (Following ordered node place) (owner demand.line (take (place + 1) ordered)) nobody at.alone
    ∙ sym (owner_from demand.line place node.delivered ordered at.before)
    ∙ tile_is node.tile (owner demand.line (delivered_to ordered node)) owned

-- a store after which all that wait read
shared_writer : (ordered : List Request) (node : Node) (demand : Demand) (place : ℕ) (first : Request) (more : List Request) → IsOrderedAt ordered node demand place
    → gets_of_others node.tile demand.line (Following ordered node place) ≡ first ∷ more
    → reads_only (gets_of_others node.tile demand.line (Following ordered node place)) ≡ true → writer demand.line (delivered_to ordered node) ≡ Memory
shared_writer ordered node demand place first more at some read =
    writer_from demand.line place node.delivered ordered at.before
    ∙ reads_stop node.tile demand.line (Following ordered node place) (writer demand.line (take (place + 1) ordered)) first more some read at.alone

waits_some : (requests : List Request) (first : Waiting) (rest : List Waiting) → waiting_for (up_to_getm requests) ≡ first ∷ rest
    → (q : Request) × (more : List Request) × (requests ≡ q ∷ more)
waits_some [] first rest is = cc
waits_some (q ∷ more) first rest is = (q, more, refl)

-- the node owns the line of an ordered store after which nobody waits
any_owns : (copy back write : Bool) → write ≡ true → (copy || back || write) ≡ true
any_owns true back write is = refl
any_owns false true write is = refl
any_owns false false write is = is

alone_owns : (chip : Chip) (side : CacheSide) (demand : Demand) → side.misses.demand ≡ Some demand → is_some demand.ordered ≡ true → is_getm demand.kind ≡ true → demand.list ≡ []
    → owns chip side demand.line ≡ true
unfolding owns
alone_owns chip side demand stands ordered writes none =
    any_owns (is_owned_copy (lookup chip side.cache demand.line)) (is_live_back demand.line side.misses.back) (is_open_write demand.line side.misses.demand)
    (ap (is_open_write demand.line) stands
    ∙ ap (λ (b : Bool). b && is_getm demand.kind && is_some demand.ordered && not (ends_in_getm demand.list)) (eq-eqb demand.line demand.line refl)
    ∙ ap (λ (b : Bool). true && b && is_some demand.ordered && not (ends_in_getm demand.list)) writes
    ∙ ap (λ (b : Bool). true && true && b && not (ends_in_getm demand.list)) ordered
    ∙ ap (λ (list : List Waiting). not (ends_in_getm list)) none)

-- an ordered demand completes as the requests after it say
pub completes_for : (ordered : List Request) (node : Node) (demand : Demand) (place : ℕ) → KnownOf ordered node → node.side.misses.demand ≡ Some demand → demand.ordered ≡ Some place
    → CompletesFor node.tile demand (writer demand.line (delivered_to ordered node))
completes_for ordered node demand place known stands is =
    let at = known.demand demand place stands is in
    let follows = known.followed demand place stands is in
    let fit = known.fits.side.demand demand stands in
    let others = gets_of_others node.tile demand.line (Following ordered node place) in
    record {
      read = λ reads kept. let gets = is_gets node.chip node.side.cache demand fit reads in
          read_writer ordered node demand place known at gets (sym (follows.once gets) ∙ kept);
      alone = λ writes none. let getm = getm_is demand.kind writes in
          owned_writer ordered node demand place at getm (nobody_asks others (sym (follows.list getm) ∙ none))
          (sym (known.owns.lines demand.line) ∙ alone_owns node.chip node.side demand stands (ap is_some is) writes none);
      shared = λ writes first rest some goes_on. let getm = getm_is demand.kind writes in
          let one = waits_some others first rest (sym (follows.list getm) ∙ some) in
          shared_writer ordered node demand place one.0 one.1 at one.2 (all_read others (sym (ap ends_in_getm (follows.list getm)) ∙ goes_on));
    }

-- ---- the writers
-- a side in place of a node's, after as many requests of the order
fits_with : (ordered : List Request) (after : Node) → ((m : ℕ) → FitsWriter after.chip after.tile after.side m (writer m (take after.delivered ordered))) → WritersFit ordered after
fits_with ordered after fits = writers_fit ordered after fits

writers_delivered : (ordered : List Request) (q : Request) (node : Node) → KnownOf ordered node → IsNext ordered node q → WritersFit ordered (node_after_request q node).0
unfolding node_after_request
writers_delivered ordered q node known next = fits_with ordered (node_after_request q node).0 (λ m.
    ap (fits_copy node.tile (is_ordered_write m (after_snoop node.chip node.tile node.side node.delivered q).side.misses.demand) (lookup node.chip (after_snoop node.chip node.tile node.side node.delivered q).side.cache m))
    (writer_next m node.delivered ordered q next.at)
    ∙ writers_snooped node.chip node.tile node.side node.delivered q m (writer m (delivered_to ordered node)) known.fits.side next.own (fits_writer ordered node known.writers m))

data_completes : (ordered : List Request) (node : Node) (m : ℕ) → KnownOf ordered node → (demand : Demand) (place : ℕ) → node.side.misses.demand ≡ Some demand → demand.ordered ≡ Some place
    → (m == demand.line) ≡ true → CompletesFor node.tile demand (writer m (delivered_to ordered node))
data_completes ordered node m known demand place stands is here =
    subst (λ (l : ℕ). CompletesFor node.tile demand (writer l (delivered_to ordered node))) (sym (eqb-true m demand.line here)) (completes_for ordered node demand place known stands is)

writers_arrived_as : (ordered : List Request) (msg : Msg) (node : Node) (kind : MsgKind) → KnownOf ordered node → WritersFit ordered (arrived_as msg node kind).0
writers_arrived_as ordered msg node Data known = fits_with ordered (arrived_as msg node Data).0 (λ m.
    writers_data node.chip node.tile node.side msg.words m (writer m (delivered_to ordered node)) known.fits.side (data_completes ordered node m known) (fits_writer ordered node known.writers m))
writers_arrived_as ordered msg node Back known = fits_with ordered (arrived_as msg node Back).0 (λ m. fits_writer ordered node known.writers m)

writers_arrived : (ordered : List Request) (msg : Msg) (node : Node) → KnownOf ordered node → WritersFit ordered (node_after_message msg node).0
unfolding node_after_message
writers_arrived ordered msg node known = writers_arrived_as ordered msg node msg.kind known

writers_try : (ordered : List Request) (access : Pending) (node : Node) (step : Performed) → KnownOf ordered node → node_after_access access node ≡ Some step → WritersFit ordered step.0
writers_try ordered access node step known done = fits_with ordered step.0 (λ m.
    ap (λ (n : Node). fits_copy step.0.tile (is_ordered_write m step.0.side.misses.demand) (lookup step.0.chip step.0.side.cache m) (writer m (take n.delivered ordered)))
    (accessed_frame access node step done known.fits.side.cache)
    ∙ writers_accessed access node step m (writer m (delivered_to ordered node)) done known.fits.side (fits_writer ordered node known.writers m))

writers_asked : (ordered : List Request) (node : Node) → KnownOf ordered node → WritersFit ordered (after_request_sent node)
unfolding after_request_sent
writers_asked ordered node known = fits_with ordered (after_request_sent node) (λ m.
    ap (λ (b : Bool). fits_copy node.tile b (lookup node.chip node.side.cache m) (writer m (delivered_to ordered node))) (sent_orders m node.side.misses)
    ∙ fits_writer ordered node known.writers m)

writers_sent : (ordered : List Request) (node : Node) → KnownOf ordered node → WritersFit ordered (after_message_sent node)
unfolding after_message_sent
writers_sent ordered node known = fits_with ordered (after_message_sent node) (λ m. fits_writer ordered node known.writers m)

writers_grown : (ordered more : List Request) (node : Node) → KnownOf ordered node → WritersFit (ordered ++ more) node
writers_grown ordered more node known = fits_with (ordered ++ more) node (λ m.
    ap (λ (requests : List Request). fits_copy node.tile (is_ordered_write m node.side.misses.demand) (lookup node.chip node.side.cache m) (writer m requests))
    (take-append-le node.delivered ordered more known.within)
    ∙ fits_writer ordered node known.writers m)

writers_kept : KeptByNodes WritersFit
writers_kept = record {
  grown = writers_grown;
  asked = writers_asked;
  sent = writers_sent;
  delivered = writers_delivered;
  arrived = writers_arrived;
  accessed = writers_try;
}

-- what each copy says of who may write its line is so, after every event
pub writers_by_event : (b : Behaviour) (laws : KeepsLaws b) (chip : Chip) (s new : ChipState) (event : Event)
    → UnitsFit b laws s → AllKnown s → DeliversNext chip s → EventDoes b chip s new event
    → (t : ℕ) (unit : UnitState) → slice_get new.units t ≡ Some unit → WritersFit new.network.ordered unit.node
writers_by_event = kept_by_event WritersFit writers_kept
