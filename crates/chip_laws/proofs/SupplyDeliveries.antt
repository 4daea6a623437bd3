-- A delivery: the node or its records supply a get exactly where the order says that they are its supplier.
use Rattle.std.proofs.Common.{◌≡◌, ℕ, ◌+◌, ◌≤◌, ◌<◌, Bool, true, false, cond, List, ◌++◌, refl, sym, ◌∙◌, ap, subst, arith, Option, Some, None}
use Rattle.std.specs.Prelude.{◌==◌, is_some, slice_index_or}
use Rattle.std.specs.List.{count_by}
use Rattle.std.proofs.lemmas.Bool.{eqb-true}
use Rattle.mesh_gen.specs.declared.request.Request.{Request}
use Rattle.mesh_gen.specs.declared.msg.Msg.{Msg}
use Rattle.mesh_gen.specs.declared.msg_kind.MsgKind.{MsgKind}
use Rattle.mesh_gen.specs.declared.msg_kind.MsgKind.TheVariants.{Data, Back}
use Rattle.mesh_gen.specs.Ports.{count_if}
use Rattle.chip_model.specs.declared.owner.Owner.{Owner}
use Rattle.chip_model.specs.declared.owner.Owner.TheVariants.{Memory, Tile}
use Rattle.chip_model.specs.Chip.{Chip, home}
use Rattle.chip_model.specs.Snoop.{CacheSide, holding, own_request, snooped_with, after_snoop, after_data}
use Rattle.chip_model.specs.Records.{LineRecord, answered, back_arrived}
use Rattle.chip_model.specs.Node.{Node, node_after_request, arrived_as, node_after_message}
use Rattle.chip_model.specs.Ownership.{owner, is_tile, owns, delivered_to, OwnsByOrder}
use Rattle.chip_model.specs.NodeShape.{SideFits, NodeFits}
use Rattle.chip_model.specs.Bookkeeping.{is_get, is_get_of}
use Rattle.chip_model.specs.Suppliers.{supplier, is_data_for, has_early}
use Rattle.snoop_core.specs.Requests.{OwnRequestFits}
use Rattle.chip_laws.proofs.SupplyCounts.{count_by-append}
use Rattle.chip_laws.proofs.SupplySends.{OnePromise, SameOpen, other_promises, other_open, own_promises}
use Rattle.chip_laws.proofs.SupplyAccounts.{is_memory, is_from_memory, promised, answered_promises, returned_promises, data_promises, own_account, OwnAccount}

snooped_promises : (t : ℕ) (chip : Chip) (tile : ℕ) (side : CacheSide) (place : ℕ) (q : Request) → SideFits chip side → OwnRequestFits tile side q
    → OnePromise t side (after_snoop chip tile side place q) (cond (q.source == tile) 0 (cond (owns chip side q.line) (count_if (is_get_of t q)) 0))
unfolding after_snoop
snooped_promises t chip tile side place q fits meets = by (q.source == tile) refl where
  by : (own : Bool) → (q.source == tile) ≡ own
      → OnePromise t side (cond own (own_request chip side place q.kind) (snooped_with chip q side (holding chip side q.line) q.kind)) (cond own 0 (cond (owns chip side q.line) (count_if (is_get_of t q)) 0))
  by true is = own_promises t chip side place q q.kind fits (meets (eqb-true q.source tile is))
  by false is = other_promises t chip side q

count_three : {X : Type 0} (p : X → Bool) (xs ys zs : List X) → count_by p (xs ++ ys ++ zs) ≡ count_by p xs + count_by p ys + count_by p zs
count_three p xs ys zs = omega (arith, count_by-append p (xs ++ ys) zs, count_by-append p xs ys)

less_own : (own : Bool) (x : ℕ) → cond own 0 x + cond own x 0 ≡ x
less_own true x = omega arith
less_own false x = omega arith

-- what a node has promised after a delivery
pub delivered_promises : (t : ℕ) (q : Request) (node : Node) → SideFits node.chip node.side → OwnRequestFits node.tile node.side q
    → promised t (node_after_request q node).0 + cond (q.source == node.tile) (cond (owns node.chip node.side q.line) (count_if (is_get_of t q)) 0) 0
    ≡ promised t node + cond (owns node.chip node.side q.line) (count_if (is_get_of t q)) 0
    + cond (is_from_memory (slice_index_or node.records q.line None)) (count_if (is_get_of t q)) 0
unfolding node_after_request
delivered_promises t q node fits meets =
    let outcome = after_snoop node.chip node.tile node.side node.delivered q in
    let answers = answered q node.records in
    omega (
      arith,
      count_three (is_data_for t) node.out outcome.sends answers.sends,
      snooped_promises t node.chip node.tile node.side node.delivered q fits meets,
      answered_promises t q node.records,
      less_own (q.source == node.tile) (cond (owns node.chip node.side q.line) (count_if (is_get_of t q)) 0),
    )

-- the node or its records are the supplier
with_record : (chip : Chip) (u line : ℕ) (o : Owner) (r : Option LineRecord) (x : ℕ) → is_some r ≡ (home chip line == u) → ((s : LineRecord) → r ≡ Some s → s.owner ≡ o)
    → cond (is_tile u o) x 0 + cond (is_from_memory r) x 0 ≡ cond (supplier chip line o == u) x 0
with_record chip u line Memory None x homed named = ap (λ b. cond b x 0) homed
with_record chip u line Memory (Some s) x homed named =
    let memory : cond (is_memory s.owner) x 0 ≡ x = ap (λ o. cond (is_memory o) x 0) (named s refl) in
    let here : x ≡ cond (home chip line == u) x 0 = ap (λ b. cond b x 0) homed in
    omega (arith, memory, here)
with_record chip u line (Tile w) None x homed named = omega arith
with_record chip u line (Tile w) (Some s) x homed named =
    let other : cond (is_memory s.owner) x 0 ≡ 0 = ap (λ o. cond (is_memory o) x 0) (named s refl) in
    omega (arith, other)

pub supplier_here : (ordered : List Request) (q : Request) (node : Node) (x : ℕ) → NodeFits node → OwnsByOrder ordered node → q.line < node.chip.lines
    → cond (owns node.chip node.side q.line) x 0 + cond (is_from_memory (slice_index_or node.records q.line None)) x 0
    ≡ cond (supplier node.chip q.line (owner q.line (delivered_to ordered node)) == node.tile) x 0
supplier_here ordered q node x fits owned line =
    ap (λ b. cond b x 0 + cond (is_from_memory (slice_index_or node.records q.line None)) x 0) (owned.lines q.line)
    ∙ with_record node.chip node.tile q.line (owner q.line (delivered_to ordered node)) (slice_index_or node.records q.line None) x (fits.lines.records q.line line) (owned.records q.line)

-- ---- what is early and what is ordered after a delivery
pub delivered_open : (q : Request) (node : Node) → (q.source == node.tile) ≡ false → SameOpen node.side.misses.demand (node_after_request q node).0.side.misses.demand
unfolding node_after_request after_snoop
delivered_open q node other =
    subst (λ (own : Bool). SameOpen node.side.misses.demand (cond own (own_request node.chip node.side node.delivered q.kind) (snooped_with node.chip q node.side (holding node.chip node.side q.line) q.kind)).side.misses.demand)
    (sym other) (other_open node.chip node.side q)

pub delivered_account : (q : Request) (node : Node) → SideFits node.chip node.side → OwnRequestFits node.tile node.side q → (q.source == node.tile) ≡ true
    → count_if (has_early node.side.misses.demand) + cond (owns node.chip node.side q.line) (count_if (is_get q.kind)) 0 ≤ 1
    → OwnAccount node.chip node.side q.line q.kind (node_after_request q node).0.side
unfolding node_after_request after_snoop
delivered_account q node fits meets own few =
    subst (λ (b : Bool). OwnAccount node.chip node.side q.line q.kind (cond b (own_request node.chip node.side node.delivered q.kind) (snooped_with node.chip q node.side (holding node.chip node.side q.line) q.kind)).side)
    (sym own) (own_account node.chip node.side node.delivered q q.kind fits (meets (eqb-true q.source node.tile own)) few)

-- ---- a message
kind_promises : (t : ℕ) (msg : Msg) (node : Node) (kind : MsgKind) → SideFits node.chip node.side → promised t (arrived_as msg node kind).0 ≡ promised t node
kind_promises t msg node Data fits =
    omega (arith, count_by-append (is_data_for t) node.out (after_data node.chip node.side msg.words).sends, data_promises t node.chip node.side msg.words fits)
kind_promises t msg node Back fits =
    omega (arith, count_by-append (is_data_for t) node.out (back_arrived msg.line msg.words node.records).sends, returned_promises t msg.line msg.words node.records)

pub arrived_promises : (t : ℕ) (msg : Msg) (node : Node) → SideFits node.chip node.side → promised t (node_after_message msg node).0 ≡ promised t node
unfolding node_after_message
arrived_promises t msg node fits = kind_promises t msg node msg.kind fits
