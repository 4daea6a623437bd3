-- How many messages are to bring a line's words to memory, on their way or still to be sent: over each kind of event.
use Rattle.std.proofs.Common.{◌≡◌, ℕ, ◌+◌, ◌≤◌, cond, List, ◌++◌, length, sym, ◌∙◌, ap, arith, Some}
use Rattle.std.specs.Prelude.{◌==◌, slice_get}
use Rattle.std.specs.List.{sum_by, count_by}
use Rattle.mesh_gen.specs.declared.request.Request.{Request}
use Rattle.mesh_gen.specs.declared.msg.Msg.{Msg}
use Rattle.mesh_gen.specs.declared.port.Port.{Port}
use Rattle.mesh_gen.specs.Ports.{count_if}
use Rattle.order_tracker.specs.Order.{upwards}
use Rattle.vc_bank.specs.Places.{Network, weigh}
use Rattle.chip_model.specs.Replies.{after_data_eject}
use Rattle.chip_model.specs.Node.{Node, node_after_request, node_after_message}
use Rattle.chip_model.specs.Units.{UnitState}
use Rattle.chip_model.specs.ChipState.{ChipState}
use Rattle.chip_model.specs.NodeShape.{SideFits}
use Rattle.chip_model.specs.Ownership.{OwnsByOrder}
use Rattle.chip_model.specs.Suppliers.{count_of, delivered_at, is_back_for, writes_back, write_backs_in_flight, write_backs_to_come}
use Rattle.snoop_core.specs.Requests.{OwnRequestFits}
use Rattle.chip_laws.specs.EventSteps.{ChangesUnit}
use Rattle.chip_laws.specs.MessageLaws.{MessageLaws}
use Rattle.chip_laws.proofs.SupplyCounts.{sum_by-set}
use Rattle.chip_laws.proofs.SupplyFrames.{count_here, same_counts, one_more}
use Rattle.chip_laws.proofs.Supplied.{Grows}
use Rattle.supply_laws.proofs.WriteBackCounts.{to_write_back, to_come_is, to_write_same, to_write_delivered, to_write_grown}
use Rattle.supply_laws.proofs.WriteBackSends.{backs_in, delivered_backs, arrived_backs}

-- the messages that are to bring a line's words to memory
abbrev pub due : ChipState → ℕ → ℕ
due s line = write_backs_in_flight s line + write_backs_to_come s line

-- those of them in channels
abbrev pub backs_in_channels : ChipState → ℕ → ℕ
backs_in_channels s line = weigh (λ router port slot msg. count_if (is_back_for line msg)) s.replies

-- those in the queue of a unit
abbrev pub backs_by : ℕ → UnitState → ℕ
backs_by line unit = backs_in line unit.node.out

pub channels_same : (s new : ChipState) (line : ℕ) → new.replies ≡ s.replies → backs_in_channels new line ≡ backs_in_channels s line
channels_same s new line same = ap (λ (net : Network Msg). weigh (λ router port slot msg. count_if (is_back_for line msg)) net) same

-- ---- what is still to be sent
coming_same : (s new : ChipState) (line : ℕ) → new.network.ordered ≡ s.network.ordered → ((v : ℕ) → delivered_at new v ≡ delivered_at s v)
    → write_backs_to_come new line ≡ write_backs_to_come s line
coming_same s new line order counts =
    to_come_is new line
    ∙ ap (λ (ordered : List Request). to_write_back (delivered_at new) line ordered) order
    ∙ to_write_same (delivered_at s) (delivered_at new) line s.network.ordered counts
    ∙ sym (to_come_is s line)

pub units_counts : (s new : ChipState) → new.units ≡ s.units → (v : ℕ) → delivered_at new v ≡ delivered_at s v
units_counts s new units v = ap (λ (us : List UnitState). count_of (slice_get us v)) units

-- ---- no unit changes
pub due_unchanged : (s new : ChipState) (line : ℕ) → new.units ≡ s.units → new.network.ordered ≡ s.network.ordered → backs_in_channels new line ≡ backs_in_channels s line
    → due new line ≡ due s line
due_unchanged s new line units order channels =
    let queues : sum_by (backs_by line) new.units ≡ sum_by (backs_by line) s.units = ap (sum_by (backs_by line)) units in
    omega (arith, queues, channels, coming_same s new line order (units_counts s new units))

-- ---- the order grows
pub due_grown : (s new : ChipState) (more : List Request) (line : ℕ) → Grows s new more → ((v : ℕ) → delivered_at s v ≤ length s.network.ordered)
    → due new line ≡ due s line + count_by (writes_back line (s.network.ordered ++ more)) (upwards (length s.network.ordered) (length more))
due_grown s new more line grows within =
    let queues : sum_by (backs_by line) new.units ≡ sum_by (backs_by line) s.units = ap (sum_by (backs_by line)) grows.units in
    let counts = units_counts s new grows.units in
    let grown = to_write_grown (delivered_at new) line s.network.ordered more (λ v. let below = within v in omega (arith, counts v, below)) in
    let now : to_write_back (delivered_at new) line new.network.ordered ≡ to_write_back (delivered_at new) line (s.network.ordered ++ more) =
    ap (λ (ordered : List Request). to_write_back (delivered_at new) line ordered) grows.order in
    let before = to_write_same (delivered_at s) (delivered_at new) line s.network.ordered counts in
    omega (arith, queues, channels_same s new line grows.replies, to_come_is new line, to_come_is s line, now, grown, before)

-- ---- the unit of one tile changes
queues_changed : (s new : ChipState) (line u : ℕ) (unit after : UnitState) → ChangesUnit s new u unit after
    → sum_by (backs_by line) new.units + backs_by line unit ≡ sum_by (backs_by line) s.units + backs_by line after
queues_changed s new line u unit after c =
    ap (λ (units : List UnitState). sum_by (backs_by line) units + backs_by line unit) c.units ∙ sum_by-set (backs_by line) s.units u unit after c.at

-- it delivers nothing
pub due_stepped : (s new : ChipState) (line u : ℕ) (unit after : UnitState) (less : ℕ) → ChangesUnit s new u unit after → new.network.ordered ≡ s.network.ordered
    → after.node.delivered ≡ unit.node.delivered → backs_by line after + backs_in_channels new line + less ≡ backs_by line unit + backs_in_channels s line
    → due new line + less ≡ due s line
due_stepped s new line u unit after less c order same sum =
    omega (arith, queues_changed s new line u unit after c, coming_same s new line order (same_counts s new u unit after c same), sum)

-- what is known where a request is delivered to a tile
pub record DeliversBack (ordered : List Request) (u : ℕ) (node : Node) (q : Request) : Type 0 where
  pub tile : node.tile ≡ u
  pub fits : SideFits node.chip node.side
  pub owns : OwnsByOrder ordered node
  pub next : slice_get ordered node.delivered ≡ Some q
  pub meets : OwnRequestFits node.tile node.side q

-- it delivers a request: what is sent was to be sent
pub due_delivered : (s new : ChipState) (line u : ℕ) (unit after : UnitState) (q : Request) → ChangesUnit s new u unit after → after.node ≡ (node_after_request q unit.node).0
    → new.network.ordered ≡ s.network.ordered → new.replies ≡ s.replies → DeliversBack s.network.ordered u unit.node q → due new line ≡ due s line
unfolding node_after_request
due_delivered s new line u unit after q c node order replies is =
    let n = unit.node.delivered in
    let more : after.node.delivered ≡ n + 1 = ap (λ (x : Node). x.delivered) node in
    let step = one_more s new u unit after c more in
    let count : delivered_at s u ≡ n = (count_here s new u unit after c).0 in
    let queue : backs_by line after ≡ backs_in line (node_after_request q unit.node).0.out = ap (λ (x : Node). backs_in line x.out) node in
    let sends = delivered_backs line s.network.ordered q unit.node is.fits is.owns is.meets is.next in
    let coming = to_write_delivered (delivered_at s) (delivered_at new) line s.network.ordered u q step (ap (slice_get s.network.ordered) count ∙ is.next) in
    let place : cond (q.source == u) (count_if (writes_back line s.network.ordered (delivered_at s u))) 0
    ≡ cond (q.source == unit.node.tile) (count_if (writes_back line s.network.ordered n)) 0 =
    ap (λ k. cond (q.source == u) (count_if (writes_back line s.network.ordered k)) 0) count
    ∙ ap (λ t. cond (q.source == t) (count_if (writes_back line s.network.ordered n)) 0) (sym is.tile) in
    let now : to_write_back (delivered_at new) line new.network.ordered ≡ to_write_back (delivered_at new) line s.network.ordered =
    ap (λ (ordered : List Request). to_write_back (delivered_at new) line ordered) order in
    omega (arith, queues_changed s new line u unit after c, queue, sends, coming, place, now, to_come_is new line, to_come_is s line, channels_same s new line replies)

-- a message comes to it
pub due_comes : MessageLaws → (s new : ChipState) (line u : ℕ) (unit after : UnitState) (port : Port) (slot : ℕ) (msg : Msg) → ChangesUnit s new u unit after
    → after.node ≡ (node_after_message msg unit.node).0 → after.node.delivered ≡ unit.node.delivered
    → after_data_eject s.replies u port slot ≡ Some (msg, new.replies) → new.network.ordered ≡ s.network.ordered
    → due new line + count_if (is_back_for line msg) ≡ due s line
due_comes messages s new line u unit after port slot msg c node delivered came order =
    let less : backs_in_channels new line + count_if (is_back_for line msg) ≡ backs_in_channels s line =
    messages.takes (λ m. count_if (is_back_for line m)) s.replies new.replies u port slot msg came in
    let queue : backs_by line after ≡ backs_in line (node_after_message msg unit.node).0.out = ap (λ (x : Node). backs_in line x.out) node in
    due_stepped s new line u unit after (count_if (is_back_for line msg)) c order delivered (omega (arith, less, queue, arrived_backs line msg unit.node))
