-- The parts of the invariant that compute, tried in every state of small runs: a check of the statements, and no proof.
use Rattle.std.specs.Prelude.{◌≡◌, ℕ, ◌+◌, ◌==◌, Bool, true, false, not, ◌&&◌, ◌||◌, List, [], ◌∷◌, length, drop, Option, Some, None, is_some, nat_le, slice_get, slice_index_or, count_by, if◌then◌else◌, refl}
use Rattle.std.specs.List.{list_all, list_any}
use Rattle.std.specs.Str.{bytes_eq}
use Rattle.std.specs.Fmt.{digits}
use Rattle.mesh_gen.specs.Grid.{x_of, y_of}
use Rattle.mesh_gen.specs.Ports.{has, without_port}
use Rattle.mesh_gen.specs.TileSet.{has_tile}
use Rattle.mesh_gen.specs.Tree.{tree_outs}
use Rattle.mesh_gen.specs.declared.msg.Msg.{Msg}
use Rattle.mesh_gen.specs.declared.msg_kind.MsgKind.{MsgKind}
use Rattle.mesh_gen.specs.declared.msg_kind.MsgKind.TheVariants.{Data, Back}
use Rattle.vc_bank.specs.Places.{slots, at, put, weigh}
use Rattle.core_isa.specs.declared.instr.Instr.TheVariants.{Li, Addi, Ld, St, Swap, Fadd}
use Rattle.core_isa.specs.Core.{loaded}
use Rattle.report_text.specs.declared.event.Event.{Event}
use Rattle.order_tracker.specs.Order.{upwards}
use Rattle.doc_text.specs.Doc.{Doc}
use Rattle.chip_model.specs.declared.line_state.State.{State}
use Rattle.chip_model.specs.declared.line_state.State.TheVariants.{M, O, S}
use Rattle.chip_model.specs.declared.owner.Owner.{Owner}
use Rattle.chip_model.specs.declared.owner.Owner.TheVariants.{Memory, Tile}
use Rattle.chip_model.specs.Chip.{chip_of, set_number}
use Rattle.chip_model.specs.Windows.{after_post, after_tick, after_take}
use Rattle.chip_model.specs.Copies.{after_entry, after_hop, local_place, after_serve}
use Rattle.chip_model.specs.Replies.{after_send, next_channel, after_data_hop, after_data_eject}
use Rattle.chip_model.specs.OrderedNetwork.{Interface, after_inject, after_request_post, after_network_tick, after_vector_take, expected_at, after_copy_hop, after_delivery}
use Rattle.chip_model.specs.Cache.{Held, lookup, has_room, installed, without_line, without_shared, lowest_for}
use Rattle.chip_model.specs.Misses.{Demand, WriteBack, wanted, marked_sent}
use Rattle.chip_model.specs.Snoop.{holding, after_snoop, after_data}
use Rattle.chip_model.specs.Records.{LineRecord, answered, back_arrived}
use Rattle.chip_model.specs.Node.{Node, node_after_request, node_after_message, after_request_sent, after_message_sent, node_after_access}
use Rattle.chip_model.specs.Units.{UnitState, core_event, in_order}
use Rattle.chip_model.specs.ChipState.{ChipState, opening, finished}
use Rattle.chip_model.specs.Events.{unit_at, step}
use Rattle.chip_model.specs.Runs.{after, run}
use Rattle.chip_model.specs.Ownership.{owner_after, owner, is_tile, owns, delivered_to}
use Rattle.chip_model.specs.Witness.{witness, line_value}
use Rattle.chip_model.specs.Schedules.{sweeps}
use Rattle.chip_model.specs.Schedules.{slots as chip_slots}
use Rattle.mesh_gen.specs.Ports.{count_if}
use Rattle.chip_model.specs.Bookkeeping.{count_by_tile, is_get_of}
use Rattle.chip_model.specs.Suppliers.{has_early, is_ordered, place_of_get, next_written_back, is_fresh_by, is_to_come, answers_to_come, write_backs_in_flight, write_backs_to_come, last_written_back, waiters_after}
use Rattle.chip_model.specs.Values.{place_of_shared}
use Rattle.chip_model.specs.Rows.{store_buffering, dirty_eviction, swept_from_first, swept_report}
use Rattle.chip_model.specs.Reports.{report_of}

abbrev same : Bool → Bool → Bool
same a b = if a then b else not b

abbrev has_value : Doc → ChipState → ℕ → Option ℕ → List ℕ → Bool
has_value d s line None words = false
has_value d s line (Some place) words = bytes_eq words (line_value d s.accesses line place)

abbrev is_supplied : Doc → ChipState → ℕ → Node → Bool
is_supplied d s t node =
    count_if (has_early node.side.misses.demand) + answers_to_come (chip_of d) s t
    == count_by (is_get_of t) (drop node.delivered s.network.ordered) + count_if (is_ordered node.side.misses.demand)

abbrev has_posted : ChipState → ℕ → Node → Option Interface → Bool
has_posted s t node None = false
has_posted s t node (Some interface) =
    (node.delivered == interface.delivered)
    && (interface.posted == count_by_tile t s.network.ordered + (if has_tile s.network.windows.posts t then 1 else 0))

abbrev copy_place : Node → ℕ → State → ℕ
copy_place node line M = node.delivered
copy_place node line O = node.delivered
copy_place node line S = place_of_shared node line

abbrev copy_holds : Doc → ChipState → Node → ℕ → Option Held → Bool
copy_holds d s node line None = true
copy_holds d s node line (Some held) = has_value d s line (Some (copy_place node line held.state)) held.words

abbrev back_holds : Doc → ChipState → Node → Option WriteBack → Bool
back_holds d s node None = true
back_holds d s node (Some back) = not back.live || has_value d s back.line (Some node.delivered) back.words

abbrev early_words_hold : Doc → ChipState → Node → ℕ → Option (List ℕ) → Bool
early_words_hold d s node line None = true
early_words_hold d s node line (Some words) = has_value d s line (place_of_get s node) words

abbrev early_holds : Doc → ChipState → Node → Option Demand → Bool
early_holds d s node None = true
early_holds d s node (Some demand) = early_words_hold d s node demand.line demand.early

abbrev same_place : ℕ → Option ℕ → Bool
same_place place None = false
same_place place (Some other) = place == other

-- no get but the one that is not complete is still to come to its supplier
abbrev one_to_come : Doc → ChipState → ℕ → Node → Bool
one_to_come d s t node =
    list_all (λ place. not (is_to_come (chip_of d) s t place) || same_place place (place_of_get s node)) (upwards 0 (length s.network.ordered))

abbrev fresh_holds : Doc → ChipState → Node → ℕ → LineRecord → Owner → Bool
fresh_holds d s node line r Memory = has_value d s line (Some node.delivered) r.words
fresh_holds d s node line r (Tile t) = has_value d s line (next_written_back s line node.delivered) r.words

abbrev same_owner : Owner → Owner → Bool
same_owner Memory Memory = true
same_owner (Tile a) (Tile b) = a == b
same_owner Memory (Tile b) = false
same_owner (Tile a) Memory = false

abbrev record_holds : Doc → ChipState → Node → ℕ → Option LineRecord → Bool
record_holds d s node line None = true
record_holds d s node line (Some r) =
    same_owner r.owner (owner line (delivered_to s.network.ordered node))
    && same r.fresh (is_fresh_by s node line r.owner)
    && (not r.fresh || fresh_holds d s node line r r.owner)
    && (length r.waiters == length (if r.fresh then [] else waiters_after s node line (last_written_back line (delivered_to s.network.ordered node))))

abbrev line_holds : Doc → ChipState → Node → ℕ → Bool
line_holds d s node line =
    copy_holds d s node line (lookup node.chip node.side.cache line)
    && same (owns node.chip node.side line) (is_tile node.tile (owner line (delivered_to s.network.ordered node)))
    && record_holds d s node line (slice_index_or node.records line None)
    && nat_le (write_backs_in_flight s line + write_backs_to_come s line) 1

abbrev data_holds : Doc → ChipState → Msg → Option UnitState → Bool
data_holds d s msg None = false
data_holds d s msg (Some unit) = has_value d s msg.line (place_of_get s unit.node) msg.words

abbrev message_holds : Doc → ChipState → Msg → MsgKind → Bool
message_holds d s msg Data = data_holds d s msg (slice_get s.units msg.to)
message_holds d s msg Back = has_value d s msg.line (last_written_back msg.line s.network.ordered) msg.words

abbrev messages_hold : Doc → ChipState → List Msg → Bool
messages_hold d s out = list_all (λ (msg : Msg). message_holds d s msg msg.kind) out

abbrev unit_holds : Doc → ChipState → ℕ → Option UnitState → Bool
unit_holds d s t None = false
unit_holds d s t (Some unit) =
    is_supplied d s t unit.node
    && one_to_come d s t unit.node
    && has_posted s t unit.node (slice_get s.network.interfaces t)
    && list_all (line_holds d s unit.node) (upwards 0 d.lines)
    && back_holds d s unit.node unit.node.side.misses.back
    && early_holds d s unit.node unit.node.side.misses.demand
    && messages_hold d s unit.node.out

abbrev slot_holds : Doc → ChipState → Option Msg → Bool
slot_holds d s None = true
slot_holds d s (Some msg) = message_holds d s msg msg.kind

abbrev state_holds : Doc → ChipState → Bool
state_holds d s =
    list_all (λ t. unit_holds d s t (slice_get s.units t)) (upwards 0 (length s.units))
    && list_all (list_all (list_all (slot_holds d s))) s.replies

abbrev along : Doc → Option ChipState → List Event → Bool
along d None events = false
along d (Some s) [] = state_holds d s
along d (Some s) (event ∷ events) = state_holds d s && along d (after in_order (chip_of d) s event) events

-- in some state a tile has a demand beside a write-back
abbrev has_both : UnitState → Bool
has_both unit = is_some unit.node.side.misses.demand && is_some unit.node.side.misses.back

abbrev beside_along : Doc → Option ChipState → List Event → Bool
beside_along d None events = false
beside_along d (Some s) [] = list_any has_both s.units
beside_along d (Some s) (event ∷ events) = list_any has_both s.units || beside_along d (after in_order (chip_of d) s event) events

-- they hold throughout a dirty eviction, in which a demand stands beside a write-back
pub dirty_eviction_holds : (let journal = (swept_from_first dirty_eviction 1000000 40).journal in
    (along dirty_eviction (Some (opening dirty_eviction)) journal ≡ true) × (beside_along dirty_eviction (Some (opening dirty_eviction)) journal ≡ true))
unfolding digits x_of y_of has without_port has_tile tree_outs slots at put weigh loaded set_number after_post after_tick after_take after_entry after_hop local_place after_serve after_send next_channel after_data_hop after_data_eject after_inject after_request_post after_network_tick after_vector_take expected_at after_copy_hop after_delivery lookup has_room installed without_line without_shared lowest_for wanted marked_sent holding after_snoop after_data answered back_arrived node_after_request node_after_message after_request_sent after_message_sent node_after_access core_event in_order finished unit_at step after run owner_after owner owns witness line_value chip_slots sweeps
dirty_eviction_holds = (refl, refl)

-- they hold throughout store buffering
pub store_buffering_holds : along store_buffering (Some (opening store_buffering)) (swept_from_first store_buffering 1000000 40).journal ≡ true
unfolding digits x_of y_of has without_port has_tile tree_outs slots at put weigh loaded set_number after_post after_tick after_take after_entry after_hop local_place after_serve after_send next_channel after_data_hop after_data_eject after_inject after_request_post after_network_tick after_vector_take expected_at after_copy_hop after_delivery lookup has_room installed without_line without_shared lowest_for wanted marked_sent holding after_snoop after_data answered back_arrived node_after_request node_after_message after_request_sent after_message_sent node_after_access core_event in_order finished unit_at step after run owner_after owner owns witness line_value chip_slots sweeps
store_buffering_holds = refl

-- two tiles read and write two lines that share a way: upgrades, owners' copies, write-backs, and some that come too late
abbrev pub contention : Doc
contention = record {
  cols = 2;
  rows = 1;
  window = 1;
  vcs = 1;
  data_vcs = 1;
  lines = 2;
  sets = 1;
  ways = 1;
  controllers = 1 ∷ [];
  memory = 3 ∷ 0 ∷ 0 ∷ 0 ∷ 9 ∷ 0 ∷ 0 ∷ 0 ∷ [];
  programs = (Ld 1 0 0 ∷ Addi 1 1 1 ∷ St 1 0 0 ∷ St 1 0 1 ∷ St 1 0 4 ∷ Ld 2 0 0 ∷ St 2 0 5 ∷ []) ∷ (Li 1 7 ∷ St 1 0 2 ∷ Ld 2 0 4 ∷ St 2 0 3 ∷ Ld 3 0 0 ∷ St 3 0 6 ∷ []) ∷ [];
  posts = [];
}

-- they hold throughout the contention for a way, to its end
pub contention_holds : (let s = swept_from_first contention 1000000 80 in
    (along contention (Some (opening contention)) s.journal ≡ true)
    × (beside_along contention (Some (opening contention)) s.journal ≡ true)
    × (finished s ≡ true))
unfolding digits x_of y_of has without_port has_tile tree_outs slots at put weigh loaded set_number after_post after_tick after_take after_entry after_hop local_place after_serve after_send next_channel after_data_hop after_data_eject after_inject after_request_post after_network_tick after_vector_take expected_at after_copy_hop after_delivery lookup has_room installed without_line without_shared lowest_for wanted marked_sent holding after_snoop after_data answered back_arrived node_after_request node_after_message after_request_sent after_message_sent node_after_access core_event in_order finished unit_at step after run owner_after owner owns witness line_value chip_slots sweeps
contention_holds = (refl, refl, refl)

-- two tiles count in two lines that share a way: adds and swaps that miss while a line is written back
abbrev pub counting_beside : Doc
counting_beside = record contention {
  memory = 3 ∷ 0 ∷ 0 ∷ 0 ∷ 9 ∷ 0 ∷ 0 ∷ 0 ∷ [];
  programs = (Li 1 1 ∷ Fadd 1 0 0 ∷ Li 2 2 ∷ Fadd 2 0 4 ∷ Li 3 3 ∷ Fadd 3 0 0 ∷ Swap 3 0 5 ∷ []) ∷ (Li 1 10 ∷ Fadd 1 0 0 ∷ Li 2 20 ∷ Fadd 2 0 4 ∷ Swap 2 0 1 ∷ []) ∷ [];
}

-- they hold throughout the counts beside write-backs, to their end
pub counting_beside_holds : (let s = swept_from_first counting_beside 1000000 80 in
    (along counting_beside (Some (opening counting_beside)) s.journal ≡ true)
    × (beside_along counting_beside (Some (opening counting_beside)) s.journal ≡ true)
    × (finished s ≡ true))
unfolding digits x_of y_of has without_port has_tile tree_outs slots at put weigh loaded set_number after_post after_tick after_take after_entry after_hop local_place after_serve after_send next_channel after_data_hop after_data_eject after_inject after_request_post after_network_tick after_vector_take expected_at after_copy_hop after_delivery lookup has_room installed without_line without_shared lowest_for wanted marked_sent holding after_snoop after_data answered back_arrived node_after_request node_after_message after_request_sent after_message_sent node_after_access core_event in_order finished unit_at step after run owner_after owner owns witness line_value chip_slots sweeps
counting_beside_holds = (refl, refl, refl)

-- no count is lost: memory ends with both sums
pub counting_beside_counts : (let r = swept_report counting_beside 1000000 80 in
    slice_index_or r.memory 0 0 ∷ slice_index_or r.memory 4 0 ∷ [] ≡ 17 ∷ 31 ∷ [])
unfolding digits x_of y_of has without_port has_tile tree_outs slots at put weigh loaded set_number after_post after_tick after_take after_entry after_hop local_place after_serve after_send next_channel after_data_hop after_data_eject after_inject after_request_post after_network_tick after_vector_take expected_at after_copy_hop after_delivery lookup has_room installed without_line without_shared lowest_for wanted marked_sent holding after_snoop after_data answered back_arrived node_after_request node_after_message after_request_sent after_message_sent node_after_access core_event in_order finished unit_at step after run owner_after owner owns witness line_value chip_slots sweeps report_of
counting_beside_counts = refl
