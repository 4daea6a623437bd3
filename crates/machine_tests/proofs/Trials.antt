-- The conditions of the calls of a unit that is known, and the unit after them.
use Rattle.std.proofs.Common.{◌≡◌, ◌+◌, ◌^◌, ◌<◌, ◌≤◌, true, false, refl, sym, ◌∙◌, ap, subst, Option, Some, None, List, [], length}
use Rattle.std.specs.Prelude.{IfOk, OnErr, nat_lt}
use Rattle.std.specs.declared.result.Result.{Result}
use Rattle.std.specs.declared.result.Result.TheVariants.{Ok, Err}
use Rattle.std.proofs.lemmas.Bool.{false≢true, ltb-true, leb-true}
use Rattle.mesh_gen.specs.declared.refusals.NotEnabled.{NotEnabled}
use Rattle.mesh_gen.specs.declared.request.Request.{Request}
use Rattle.mesh_gen.specs.declared.msg.Msg.{Msg}
use Rattle.mesh_gen.specs.declared.msg_kind.MsgKind.TheVariants.{Data, Back}
use Rattle.report_text.specs.declared.access.Access.{Access}
use Rattle.chip_model.specs.declared.waiting.Waiting.{Waiting}
use Rattle.chip_model.specs.Chip.{tile_count, home, set_number}
use Rattle.chip_model.specs.Cache.{lookup, has_room, installed, without_line, without_shared, lowest_for}
use Rattle.chip_model.specs.Misses.{wanted, marked_sent}
use Rattle.chip_model.specs.Misses.{ends_in_getm}
use Rattle.chip_model.specs.Snoop.{holding, after_snoop, after_data}
use Rattle.chip_model.specs.Records.{LineRecord, answered, back_arrived}
use Rattle.chip_model.specs.Node.{node_after_access, node_after_request, node_after_message, after_request_sent, after_message_sent}
use Rattle.chip_model.specs.Units.{UnitState, Acted, core_event, in_order}
use Rattle.mem_ctrl.specs.Owners.{record_of}
use Rattle.mem_ctrl.specs.Waits.{TakesRequest}
use Rattle.snoop_core.specs.Requests.{OwnRequestFits, DataFits, ListHasRoom}
use Rattle.machine_tests.specs.UnitRows.{storing, ordered, its_request, its_words}

-- ---- core events

went_by : (result : Result (Option Access) NotEnabled) (now new : UnitState) → in_order.ready now ≡ true
    → IfOk result (λ access. in_order.stepped now ≡ (new, access)) → OnErr result (in_order.ready now ≡ false) → new ≡ (in_order.stepped now).0
went_by (Ok access) now new ready ok err = ap (λ (acted : Acted). acted.0) (sym ok)
went_by (Err refused) now new ready ok err = absurd (false≢true (sym err ∙ ready))

-- a core that was ready has done its event
pub after_step : (result : Result (Option Access) NotEnabled) (unit now new : UnitState) → unit ≡ now → in_order.ready now ≡ true
    → IfOk result (λ access. in_order.stepped unit ≡ (new, access)) → OnErr result (in_order.ready unit ≡ false) → new ≡ (in_order.stepped now).0
after_step result unit now new same ready ok err =
    went_by result now new ready
    (subst (λ (u : UnitState). IfOk result (λ access. in_order.stepped u ≡ (new, access))) same ok)
    (subst (λ (u : UnitState). OnErr result (in_order.ready u ≡ false)) same err)

pub few_steps : (unit now : UnitState) → unit ≡ now → nat_lt (now.core.steps + 1) (2 ^ 63) ≡ true → unit.core.steps + 1 < 2 ^ 63
few_steps unit now same few = subst (λ (u : UnitState). u.core.steps + 1 < 2 ^ 63) (sym same) (ltb-true (now.core.steps + 1) (2 ^ 63) few)

-- ---- the request of the store

pub record MayTake (q : Request) (unit : UnitState) : Type 0 where
  pub source : q.source < tile_count unit.node.chip
  pub line : q.line < unit.node.chip.lines
  pub count : unit.node.delivered + 1 < 2 ^ 63
  pub own : OwnRequestFits unit.node.tile unit.node.side q
  pub list : ListHasRoom 64 unit.node.chip unit.node.tile unit.node.side q
  pub waiting : (r : LineRecord) → record_of unit.node.records q.line ≡ Some r → TakesRequest q 64 r
  pub room : length (node_after_request q unit.node).0.out ≤ 65
  pub steps : unit.core.steps + 1 < 2 ^ 63

abbrev waiters_of : Option LineRecord → List Waiting
waiters_of None = []
waiters_of (Some r) = r.waiters

none_waits : (q : Request) (r : LineRecord) → r.waiters ≡ [] → TakesRequest q 64 r
none_waits q r none = record {
  room = λ waits. subst (λ (list : List Waiting). length list < 64) (sym none) (ltb-true 0 64 refl);
  readers = λ waits ends. false≢true (ap ends_in_getm (sym none) ∙ ends);
}

storing_takes : MayTake its_request storing
unfolding set_number lookup has_room installed without_line without_shared lowest_for wanted marked_sent holding after_snoop after_data answered back_arrived node_after_access node_after_request node_after_message after_request_sent after_message_sent core_event in_order
storing_takes = record {
  source = ltb-true 0 1 refl;
  line = ltb-true 0 16 refl;
  count = ltb-true 1 (2 ^ 63) refl;
  own = λ same. (_, refl, record { kind = refl; line = refl; sent = refl; unordered = refl });
  list = λ apart. absurd (apart refl);
  waiting = λ r is. none_waits its_request r (sym (ap waiters_of is));
  room = leb-true 1 65 refl;
  steps = ltb-true 2 (2 ^ 63) refl;
}

pub takes_request : (q : Request) (unit : UnitState) → q ≡ its_request → unit ≡ storing → MayTake q unit
takes_request q unit same_q same =
    subst (λ (x : Request). MayTake x unit) (sym same_q) (subst (λ (u : UnitState). MayTake its_request u) (sym same) storing_takes)

pub after_request : (q : Request) (unit new : UnitState) (answer : Option Access) → q ≡ its_request → unit ≡ storing → in_order.delivered q unit ≡ (new, answer)
    → new ≡ (in_order.delivered its_request storing).0
after_request q unit new answer same_q same is =
    ap (λ (acted : Acted). acted.0) (sym is)
    ∙ ap (λ (x : Request). (in_order.delivered x unit).0) same_q ∙ ap (λ (u : UnitState). (in_order.delivered its_request u).0) same

-- ---- its words

pub record MayCome (msg : Msg) (unit : UnitState) : Type 0 where
  pub line : msg.line < unit.node.chip.lines
  pub awaited : DataFits unit.node.side msg
  pub home : msg.kind ≡ Back → home unit.node.chip msg.line ≡ unit.node.tile
  pub room : length (node_after_message msg unit.node).0.out ≤ 65
  pub steps : unit.core.steps + 1 < 2 ^ 63

ordered_takes : MayCome its_words ordered
unfolding set_number lookup has_room installed without_line without_shared lowest_for wanted marked_sent holding after_snoop after_data answered back_arrived node_after_access node_after_request node_after_message after_request_sent after_message_sent core_event in_order
ordered_takes = record {
  line = ltb-true 0 16 refl;
  awaited = λ kind. (_, refl, record { line = refl; sent = refl; wordless = refl });
  home = λ back. let no : Data ≡ Back = back in cc;
  room = leb-true 0 65 refl;
  steps = ltb-true 2 (2 ^ 63) refl;
}

pub takes_words : (msg : Msg) (unit : UnitState) → msg ≡ its_words → unit ≡ ordered → MayCome msg unit
takes_words msg unit same_msg same =
    subst (λ (m : Msg). MayCome m unit) (sym same_msg) (subst (λ (u : UnitState). MayCome its_words u) (sym same) ordered_takes)

pub after_words : (msg : Msg) (unit new : UnitState) (answer : Option Access) → msg ≡ its_words → unit ≡ ordered → in_order.received msg unit ≡ (new, answer)
    → new ≡ (in_order.received its_words ordered).0
after_words msg unit new answer same_msg same is =
    ap (λ (acted : Acted). acted.0) (sym is)
    ∙ ap (λ (m : Msg). (in_order.received m unit).0) same_msg ∙ ap (λ (u : UnitState). (in_order.received its_words u).0) same
