-- Each get that is ordered and not complete is answered from exactly one place: every kind of event keeps that.
use Rattle.std.proofs.Common.{◌≡◌, ℕ, ◌+◌, ◌≤◌, List, ◌++◌, length, drop, refl, sym, ◌∙◌, ap, subst, arith, Some}
use Rattle.std.specs.Prelude.{slice_get}
use Rattle.std.specs.List.{sum_by, count_by}
use Rattle.std.proofs.lemmas.List.{drop-append-le}
use Rattle.mesh_gen.specs.declared.request.Request.{Request}
use Rattle.mesh_gen.specs.declared.msg.Msg.{Msg}
use Rattle.mesh_gen.specs.declared.port.Port.{Port}
use Rattle.mesh_gen.specs.Routes.{HasTiles}
use Rattle.mesh_gen.specs.Ports.{count_if}
use Rattle.vc_bank.specs.Places.{Network}
use Rattle.chip_model.specs.Chip.{Chip}
use Rattle.chip_model.specs.OrderedNetwork.{OrderedNetwork}
use Rattle.chip_model.specs.Replies.{after_data_hop, after_send}
use Rattle.chip_model.specs.Node.{Node, after_message_sent}
use Rattle.chip_model.specs.Units.{UnitState}
use Rattle.chip_model.specs.ChipState.{ChipState}
use Rattle.chip_model.specs.Bookkeeping.{is_get_of}
use Rattle.chip_model.specs.Suppliers.{count_of, delivered_at, is_data_for, promised_by, data_in_channels, answers_to_come, IsSupplied}
use Rattle.chip_laws.specs.EventSteps.{ChangesUnit}
use Rattle.chip_laws.specs.MessageLaws.{MessageLaws}
use Rattle.chip_laws.proofs.UnitFrames.{each_unit, same_units}
use Rattle.chip_laws.proofs.SupplyCounts.{count_by-append}
use Rattle.chip_laws.proofs.SupplySends.{SameOpen}
use Rattle.chip_laws.proofs.SupplyAccounts.{SameSupply, sent_promises, promised}
use Rattle.chip_laws.proofs.SupplyToCome.{to_come, to_come_is, to_come_same, to_come_grown}
use Rattle.chip_laws.proofs.SupplyFrames.{EachIsSupplied, answers_changed, answers_same, still_supplied}

pub same_channels : (s new : ChipState) (t : ℕ) → new.replies ≡ s.replies → data_in_channels new t ≡ data_in_channels s t
same_channels s new t same = ap (λ (net : Network Msg). data_in_channels (record s { replies = net }) t) same

-- ---- no unit changes, and neither do the order and what stands in channels
pub supplied_same : (chip : Chip) (s new : ChipState) → new.units ≡ s.units → new.network.ordered ≡ s.network.ordered → ((t : ℕ) → data_in_channels new t ≡ data_in_channels s t)
    → EachIsSupplied chip s → EachIsSupplied chip new
supplied_same chip s new units order channels law =
    same_units (λ t unit. IsSupplied chip new t unit.node) s new units (λ t unit at.
    still_supplied chip s new t unit.node unit.node order refl (record { early = refl; ordered = refl }) (answers_same chip s new t units order (channels t)) (law t unit at))

-- an event of the ordered network that orders nothing
pub supplied_network : (chip : Chip) (s new : ChipState) → new.units ≡ s.units → new.network.ordered ≡ s.network.ordered → new.replies ≡ s.replies
    → EachIsSupplied chip s → EachIsSupplied chip new
supplied_network chip s new units order replies = supplied_same chip s new units order (λ t. same_channels s new t replies)

-- a message goes on
pub supplied_hop : (chip : Chip) (s new : ChipState) (r : ℕ) (port : Port) (slot : ℕ) → MessageLaws → HasTiles chip.grid → after_data_hop chip.grid s.replies r port slot ≡ Some new.replies
    → new.units ≡ s.units → new.network ≡ s.network → EachIsSupplied chip s → EachIsSupplied chip new
supplied_hop chip s new r port slot messages some moved units network =
    supplied_same chip s new units (ap (λ (net : OrderedNetwork). net.ordered) network) (λ t.
    messages.keeps (λ msg. count_if (is_data_for t msg)) chip.grid s.replies new.replies r port slot some moved)

-- ---- the order grows
pub record Grows (s new : ChipState) (more : List Request) : Type 0 where
  pub units : new.units ≡ s.units
  pub order : new.network.ordered ≡ s.network.ordered ++ more
  pub replies : new.replies ≡ s.replies

grown_answers : (chip : Chip) (s new : ChipState) (more : List Request) (t : ℕ) → Grows s new more → ((v : ℕ) → delivered_at s v ≤ length s.network.ordered)
    → answers_to_come chip new t ≡ answers_to_come chip s t + count_by (is_get_of t) more
grown_answers chip s new more t grows within =
    let promises : sum_by (promised_by t) new.units ≡ sum_by (promised_by t) s.units = ap (sum_by (promised_by t)) grows.units in
    let counts : (v : ℕ) → delivered_at new v ≡ delivered_at s v = λ v. ap (λ (units : List UnitState). count_of (slice_get units v)) grows.units in
    let grown = to_come_grown chip (delivered_at new) s.network.ordered more t (λ v. let below = within v in omega (arith, counts v, below)) in
    let now : to_come chip (delivered_at new) new.network.ordered t ≡ to_come chip (delivered_at new) (s.network.ordered ++ more) t =
    ap (λ (ordered : List Request). to_come chip (delivered_at new) ordered t) grows.order in
    let before : to_come chip (delivered_at new) s.network.ordered t ≡ to_come chip (delivered_at s) s.network.ordered t = to_come_same chip (delivered_at s) (delivered_at new) s.network.ordered t counts in
    omega (arith, promises, same_channels s new t grows.replies, to_come_is chip new t, to_come_is chip s t, now, grown, before)

pub supplied_grown : (chip : Chip) (s new : ChipState) (more : List Request) → Grows s new more → ((v : ℕ) → delivered_at s v ≤ length s.network.ordered)
    → EachIsSupplied chip s → EachIsSupplied chip new
supplied_grown chip s new more grows within law =
    same_units (λ t unit. IsSupplied chip new t unit.node) s new grows.units (λ t unit at.
    let n = unit.node.delivered in
    let inside : n ≤ length s.network.ordered = subst (λ k. k ≤ length s.network.ordered) (ap count_of at) (within t) in
    let left : count_by (is_get_of t) (drop n new.network.ordered) ≡ count_by (is_get_of t) (drop n s.network.ordered) + count_by (is_get_of t) more =
    ap (λ (xs : List Request). count_by (is_get_of t) (drop n xs)) grows.order
    ∙ ap (count_by (is_get_of t)) (drop-append-le n s.network.ordered more inside)
    ∙ count_by-append (is_get_of t) (drop n s.network.ordered) more in
    omega (arith, left, grown_answers chip s new more t grows within, law t unit at))

-- ---- a step of one node that keeps the number of what is on its way to each tile
pub supplied_step : (chip : Chip) (s new : ChipState) (u : ℕ) (unit after : UnitState) → ChangesUnit s new u unit after → new.network.ordered ≡ s.network.ordered
    → SameOpen unit.node.side.misses.demand after.node.side.misses.demand → after.node.delivered ≡ unit.node.delivered
    → ((t : ℕ) → promised t after.node + data_in_channels new t ≡ promised t unit.node + data_in_channels s t)
    → EachIsSupplied chip s → EachIsSupplied chip new
supplied_step chip s new u unit after c order stays delivered sums law =
    let answers : (t : ℕ) → answers_to_come chip new t ≡ answers_to_come chip s t = λ t.
    let sum = answers_changed chip s new t u unit after 0 c order delivered (omega (arith, sums t)) in omega (arith, sum) in
    each_unit (λ t other. IsSupplied chip new t other.node) s new u unit after c
    (still_supplied chip s new u unit.node after.node order delivered stays (answers u) (law u unit c.at))
    (λ t other away at. still_supplied chip s new t other.node other.node order refl (record { early = refl; ordered = refl }) (answers t) (law t other at))

-- an access, a request that is sent, or a unit that changes beside its node
pub supplied_quiet : (chip : Chip) (s new : ChipState) (u : ℕ) (unit after : UnitState) → ChangesUnit s new u unit after → new.network.ordered ≡ s.network.ordered
    → new.replies ≡ s.replies → SameSupply unit.node after.node → EachIsSupplied chip s → EachIsSupplied chip new
supplied_quiet chip s new u unit after c order replies same =
    supplied_step chip s new u unit after c order same.stays same.delivered (λ t. omega (arith, same.promises t, same_channels s new t replies))

-- the first message of a queue enters the network
pub supplied_sent : MessageLaws → (chip : Chip) (s new : ChipState) (u : ℕ) (unit after : UnitState) (msg : Msg) → ChangesUnit s new u unit after → after.node ≡ after_message_sent unit.node
    → slice_get unit.node.out 0 ≡ Some msg → after_send s.replies u msg ≡ Some new.replies → new.network ≡ s.network → EachIsSupplied chip s → EachIsSupplied chip new
unfolding after_message_sent
supplied_sent messages chip s new u unit after msg c node first entered network =
    let stays : SameOpen unit.node.side.misses.demand (after_message_sent unit.node).side.misses.demand = record { early = refl; ordered = refl } in
    let same : (after_message_sent unit.node).delivered ≡ unit.node.delivered = refl in
    supplied_step chip s new u unit after c (ap (λ (net : OrderedNetwork). net.ordered) network)
    (subst (λ (x : Node). SameOpen unit.node.side.misses.demand x.side.misses.demand) (sym node) stays)
    (ap (λ (x : Node). x.delivered) node ∙ same)
    (λ t.
    let promises : promised t after.node ≡ promised t (after_message_sent unit.node) = ap (promised t) node in
    let channels : data_in_channels new t ≡ data_in_channels s t + count_if (is_data_for t msg) = messages.adds (λ m. count_if (is_data_for t m)) s.replies new.replies u msg entered in
    omega (arith, promises, channels, sent_promises t unit.node msg first))
