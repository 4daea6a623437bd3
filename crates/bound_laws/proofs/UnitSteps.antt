-- A message that comes to a unit of an in-order core raises nothing that it has still to do, and a request that is delivered
-- raises it by one answer at most, where the order says that its tile answers the request.
use Rattle.std.proofs.Common.{◌≡◌, ℕ, ◌+◌, ◌*◌, ◌<◌, ◌≤◌, Bool, true, false, cond, List, [], ◌++◌, take, Option, Some, None, refl, sym, ap, subst, arith, eqb-true, eq-eqb}
use Rattle.std.specs.Prelude.{slice_index_or, ◌==◌, if◌then◌else◌}
use Rattle.std.specs.List.{sum_by}
use Rattle.std.proofs.lemmas.List.Sums.{sum_by-append}
use Rattle.mesh_gen.specs.declared.kind.Kind.{Kind}
use Rattle.mesh_gen.specs.declared.kind.Kind.TheVariants.{GetS, GetM, PutM}
use Rattle.mesh_gen.specs.declared.msg.Msg.{Msg}
use Rattle.mesh_gen.specs.declared.msg_kind.MsgKind.{MsgKind}
use Rattle.mesh_gen.specs.declared.msg_kind.MsgKind.TheVariants.{Data, Back}
use Rattle.mesh_gen.specs.declared.request.Request.{Request}
use Rattle.mesh_gen.specs.Grid.{distance}
use Rattle.mesh_gen.specs.Ports.{count_if}
use Rattle.chip_model.specs.declared.done.Done.{Done}
use Rattle.chip_model.specs.declared.owner.Owner.{Owner}
use Rattle.chip_model.specs.Chip.{tile_count}
use Rattle.chip_model.specs.Snoop.{CacheSide, Outcome, quiet, after_snoop, after_data}
use Rattle.chip_model.specs.Records.{Records, answered, back_arrived}
use Rattle.chip_model.specs.Node.{Node, with_side, words_arrived, arrived_as, node_after_request, node_after_message}
use Rattle.chip_model.specs.NodeShape.{NodeFits}
use Rattle.chip_model.specs.Ownership.{owner, is_tile, owns, OwnsByOrder}
use Rattle.chip_model.specs.Units.{UnitState, performed, in_order}
use Rattle.chip_model.specs.Suppliers.{supplier}
use Rattle.snoop_core.specs.Requests.{OwnRequestFits}
use Rattle.chip_laws.proofs.SupplyAccounts.{is_from_memory}
use Rattle.chip_laws.proofs.SupplyDeliveries.{supplier_here}
use Rattle.bound_laws.specs.Measure.{per_answer, answerer, sends_to_go, record_promises, node_to_go, core_to_go, unit_to_go}
use Rattle.bound_laws.proofs.AnswerCounts.{is_by}
use Rattle.bound_laws.proofs.SideSteps.{Waits, SideGrows, side_stays, words_come}
use Rattle.bound_laws.proofs.DeliveredSides.{IsInside, side_price, side_more, request_comes}
use Rattle.bound_laws.proofs.HomeSteps.{home_price, request_at_home, words_at_home}

performed_node : (unit : UnitState) (node : Node) (done : Option Done) → (performed unit (node, done)).0.node ≡ node
performed_node unit node None = refl
performed_node unit node (Some done) = refl

-- the node after a step
abbrev stepped : Node → CacheSide → Records → List Msg → ℕ → Node
stepped node side records out delivered = record node { side = side; records = records; out = out; delivered = delivered }

-- what the core has still to do does not depend on records and queue
same_core : (unit : UnitState) (side : CacheSide) (records : Records) (out : List Msg) (delivered : ℕ) (done : Option Done)
    → core_to_go unit.node.chip (performed unit (stepped unit.node side records out delivered, done)).0 ≡ core_to_go unit.node.chip
    (performed unit (with_side side unit.node, done)).0
unfolding core_to_go
same_core unit side records out delivered None = refl
same_core unit side records out delivered (Some done) = refl

-- the parts of a unit's step together
unit_grows : (unit : UnitState) (outcome : Outcome) (records : Records) (out : List Msg) (delivered side_more home_more : ℕ)
    → SideGrows unit outcome side_more
    → sum_by (record_promises unit.node.chip.grid unit.node.tile) records + sends_to_go unit.node.chip.grid unit.node.tile out
    ≤ sum_by (record_promises unit.node.chip.grid unit.node.tile) unit.node.records + sends_to_go unit.node.chip.grid unit.node.tile unit.node.out
    + sends_to_go unit.node.chip.grid unit.node.tile outcome.sends + home_more
    → unit_to_go unit.node.chip (performed unit (stepped unit.node outcome.side records out delivered, outcome.done)).0
    ≤ unit_to_go unit.node.chip unit + (side_more + home_more)
unfolding node_to_go
unit_grows unit outcome records out delivered side_more home_more side home =
    let core = same_core unit outcome.side records out delivered outcome.done in
    let node = ap (node_to_go unit.node.chip) (performed_node unit (stepped unit.node outcome.side records out delivered) outcome.done) in
    let grows = side.grows in
    omega arith

-- ---- a message comes
pub record Keeps (unit new : UnitState) : Type 0 where
  pub delivered : new.node.delivered ≡ unit.node.delivered
  pub to_go : unit_to_go unit.node.chip new ≤ unit_to_go unit.node.chip unit

weight : UnitState → Msg → ℕ
weight unit msg = 2 + distance unit.node.chip.grid unit.node.tile msg.to

pub message_keeps : (unit : UnitState) (msg : Msg) → Waits unit → Keeps unit (in_order.received msg unit).0
unfolding in_order node_after_message
message_keeps unit msg waits = by msg.kind
  where
    node : Node
    node = unit.node

    outcome : Outcome
    outcome = after_data node.chip node.side msg.words

    by : (kind : MsgKind) → Keeps unit (performed unit (arrived_as msg unit.node kind)).0
    by Data = record {
      delivered = ap (λ (node : Node). node.delivered) (performed_node unit (words_arrived node msg.words).0 (words_arrived node msg.words).1);
      to_go =
          let grows = unit_grows unit outcome node.records (node.out ++ outcome.sends) node.delivered 0 0 (words_come unit msg.words waits)
          (omega (arith, sum_by-append (λ (msg : Msg). 2 + distance node.chip.grid node.tile msg.to) node.out outcome.sends)) in
          omega arith;
    }
    by Back = record {
      delivered = refl;
      to_go =
          let answers = back_arrived msg.line msg.words node.records in
          let home = words_at_home node.chip.grid node.tile msg.line msg.words node.records in
          let grows =
          unit_grows unit (quiet node.side) answers.records (node.out ++ answers.sends) node.delivered 0 0
          (side_stays unit node.side [] 0 refl (λ line fits. fits) (omega arith))
          (omega (arith, sum_by-append (λ (msg : Msg). 2 + distance node.chip.grid node.tile msg.to) node.out answers.sends)) in
          omega arith;
    }

-- ---- a request is delivered
-- what is known where the next request of the order comes to a node
pub record ComesNext (ordered : List Request) (unit : UnitState) (q : Request) : Type 0 where
  pub inside : IsInside unit
  pub waits : Waits unit
  pub fits : NodeFits unit.node
  pub owns : OwnsByOrder ordered unit.node
  pub source : q.source < tile_count unit.node.chip
  pub line : q.line < unit.node.chip.lines
  pub own : OwnRequestFits unit.node.tile unit.node.side q

-- an answer where it is the tile that answers the request, and nothing more elsewhere
pub record GrowsByAnswer (ordered : List Request) (q : Request) (unit new : UnitState) : Type 0 where
  pub delivered : new.node.delivered ≡ unit.node.delivered + 1
  pub grows : unit_to_go unit.node.chip new ≤ unit_to_go unit.node.chip unit
      + per_answer unit.node.chip * count_if (is_by unit.node.tile (answerer unit.node.chip q (owner q.line (take unit.node.delivered ordered))))

price_if : (b : Bool) (n : ℕ) → cond b n 0 ≡ n * count_if b
price_if true n = omega arith
price_if false n = omega arith

none_else : (b : Bool) → cond {A = ℕ} b 0 0 ≡ 0
none_else true = refl
none_else false = refl

-- of a get the supplier
get_answer : (ordered : List Request) (unit : UnitState) (q : Request) → ComesNext ordered unit q
    → cond (owns unit.node.chip unit.node.side q.line) (per_answer unit.node.chip) 0 + cond (is_from_memory (slice_index_or unit.node.records q.line None))
    (per_answer unit.node.chip) 0
    ≡ per_answer unit.node.chip * count_if (is_by unit.node.tile (Some (supplier unit.node.chip q.line (owner q.line (take unit.node.delivered ordered)))))
get_answer ordered unit q next =
    let here = supplier_here ordered q unit.node (per_answer unit.node.chip) next.fits next.owns next.line in
    let price = price_if (supplier unit.node.chip q.line (owner q.line (take unit.node.delivered ordered)) == unit.node.tile) (per_answer unit.node.chip) in
    omega arith

-- of a write-back its tile, where it owns the line
put_by : (t source n : ℕ) (o : Owner)
    → cond (is_tile t o) (cond (source == t) n 0) 0 ≤ n * count_if (is_by t (if is_tile source o then Some source else None))
put_by t source n o = by (source == t) refl
  where
    own : (b : Bool) → cond b n 0 ≤ n * count_if (is_by t (if b then Some t else None))
    own true = rw (eq-eqb t t refl) (omega arith)
    own false = omega arith

    by : (same : Bool) → (source == t) ≡ same → cond (is_tile t o) (cond same n 0) 0 ≤ n * count_if (is_by t (if is_tile source o then Some source else None))
    by true is =
        subst (λ (u : ℕ). cond (is_tile t o) n 0 ≤ n * count_if (is_by t (if is_tile u o then Some u else None))) (sym (eqb-true source t is))
        (own (is_tile t o))
    by false is = let none = none_else (is_tile t o) in omega arith

put_answer : (ordered : List Request) (unit : UnitState) (q : Request) → ComesNext ordered unit q
    → side_more unit q PutM + cond (is_from_memory (slice_index_or unit.node.records q.line None)) 0 0
    ≤ per_answer unit.node.chip * count_if
    (is_by unit.node.tile (if is_tile q.source (owner q.line (take unit.node.delivered ordered)) then Some q.source else None))
put_answer ordered unit q next =
    let same = ap (λ (b : Bool). cond b (side_price unit q PutM) 0) (next.owns.lines q.line) in
    let price = put_by unit.node.tile q.source (per_answer unit.node.chip) (owner q.line (take unit.node.delivered ordered)) in
    let none = none_else (is_from_memory (slice_index_or unit.node.records q.line None)) in
    omega arith

kind_answer : (ordered : List Request) (unit : UnitState) (q : Request) (kind : Kind) → q.kind ≡ kind → ComesNext ordered unit q
    → side_more unit q kind + cond (is_from_memory (slice_index_or unit.node.records q.line None)) (home_price unit.node.chip kind) 0
    ≤ per_answer unit.node.chip * count_if (is_by unit.node.tile (answerer unit.node.chip q (owner q.line (take unit.node.delivered ordered))))
kind_answer ordered unit q GetS is next = rw is (let here = get_answer ordered unit q next in omega arith)
kind_answer ordered unit q GetM is next = rw is (let here = get_answer ordered unit q next in omega arith)
kind_answer ordered unit q PutM is next = rw is (put_answer ordered unit q next)

pub delivery_grows : (ordered : List Request) (unit : UnitState) (q : Request) → ComesNext ordered unit q
    → GrowsByAnswer ordered q unit (in_order.delivered q unit).0
unfolding in_order node_after_request
delivery_grows ordered unit q next = record {
  delivered = ap (λ (node : Node). node.delivered) (performed_node unit (node_after_request q unit.node).0 (node_after_request q unit.node).1);
  grows =
      let node = unit.node in
      let outcome = after_snoop node.chip node.tile node.side node.delivered q in
      let answers = answered q node.records in
      let home = request_at_home node.chip node.tile q node.records next.inside.tiles next.inside.tile next.source in
      let side = request_comes unit node.delivered q next.inside next.source next.waits next.own in
      let home_more = cond (is_from_memory (slice_index_or node.records q.line None)) (home_price node.chip q.kind) 0 in
      let grows =
      unit_grows unit outcome answers.records (node.out ++ outcome.sends ++ answers.sends) (node.delivered + 1) (side_more unit q q.kind) home_more side
      (omega (
        arith,
        sum_by-append (λ (msg : Msg). 2 + distance node.chip.grid node.tile msg.to) (node.out ++ outcome.sends) answers.sends,
        sum_by-append (λ (msg : Msg). 2 + distance node.chip.grid node.tile msg.to) node.out outcome.sends,
      )) in
      let answer = kind_answer ordered unit q q.kind refl next in
      omega arith;
}
