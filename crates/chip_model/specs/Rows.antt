-- Runs of small chips by the stated schedule, and what they print: theorems that compute.
use Rattle.std.specs.Prelude.{◌≡◌, ℕ, ◌+◌, List, [], ◌∷◌, map, Some, option_map, replicate, length, take, codes, refl}
use Rattle.std.specs.Fmt.{digits}
use Rattle.mesh_gen.specs.Grid.{x_of, y_of}
use Rattle.mesh_gen.specs.Ports.{has, without_port}
use Rattle.mesh_gen.specs.TileSet.{has_tile}
use Rattle.mesh_gen.specs.Tree.{tree_outs}
use Rattle.mesh_gen.specs.declared.port.Port.TheVariants.{L}
use Rattle.vc_bank.specs.Places.{slots, at, put}
use Rattle.core_isa.specs.declared.instr.Instr.TheVariants.{Li, Addi, Ld, St, Swap, Fadd, Tid, Halt}
use Rattle.core_isa.specs.Core.{loaded}
use Rattle.report_text.specs.declared.access.Access.{Access}
use Rattle.report_text.specs.declared.access.AccessKind.TheVariants.{Add}
use Rattle.report_text.specs.declared.event.Event.{Event}
use Rattle.report_text.specs.declared.event.Event.TheVariants.{Tick, Core, Inject, Post, Take, Eject, Send, DataEject}
use Rattle.report_text.specs.declared.report.Report.{Report}
use Rattle.report_text.specs.Lines.{text_of_lines}
use Rattle.report_text.specs.Report.{report_text}
use Rattle.doc_text.specs.Doc.{Doc}
use Rattle.chip_model.specs.Chip.{chip_of, set_number}
use Rattle.chip_model.specs.Windows.{after_post, after_tick, after_take}
use Rattle.chip_model.specs.Copies.{after_entry, after_hop, local_place, after_serve}
use Rattle.chip_model.specs.Replies.{after_send, next_channel, after_data_hop, after_data_eject}
use Rattle.chip_model.specs.OrderedNetwork.{after_inject, after_request_post, after_network_tick, after_vector_take, expected_at, after_copy_hop, after_delivery}
use Rattle.chip_model.specs.Cache.{lookup, has_room, installed, without_line, without_shared, lowest_for}
use Rattle.chip_model.specs.Misses.{wanted, marked_sent}
use Rattle.chip_model.specs.Snoop.{holding, after_snoop, after_data}
use Rattle.chip_model.specs.Records.{answered, back_arrived}
use Rattle.chip_model.specs.Node.{node_after_request, node_after_message, after_request_sent, after_message_sent, node_after_access}
use Rattle.chip_model.specs.Units.{core_event, in_order}
use Rattle.chip_model.specs.ChipState.{ChipState, opening, finished}
use Rattle.chip_model.specs.Events.{unit_at, step}
use Rattle.chip_model.specs.Runs.{after, run}
use Rattle.chip_model.specs.Ownership.{owner_after, owner}
use Rattle.chip_model.specs.Witness.{witness}
use Rattle.chip_model.specs.Schedules.{sweeps, bound}
use Rattle.chip_model.specs.Schedules.{slots as chip_slots}
use Rattle.chip_model.specs.Reports.{report_of}

-- what the first sweeps from slot 0 leave
abbrev pub swept_from_first : Doc → ℕ → ℕ → ChipState
swept_from_first d budget count = sweeps in_order (chip_of d) budget (opening d) (replicate count 0)

-- the report of what they leave
abbrev pub swept_report : Doc → ℕ → ℕ → Report
swept_report d budget count = report_of d (swept_from_first d budget count)

-- the lines before the journal's
abbrev pub Begins : Report → List ℕ → Type 0
Begins report text = take (length text) (report_text report) ≡ text

-- a store that misses, and a load of the word that it wrote
abbrev pub one_tile : Doc
one_tile = record {
  cols = 1;
  rows = 1;
  window = 1;
  vcs = 1;
  data_vcs = 1;
  lines = 1;
  sets = 1;
  ways = 1;
  controllers = 0 ∷ [];
  memory = replicate 4 0;
  programs = (Li 1 7 ∷ St 1 0 2 ∷ Ld 2 0 2 ∷ Halt ∷ []) ∷ [];
  posts = [];
}

-- its events, from its start to its end
abbrev pub one_tile_events : List Event
one_tile_events = Core 0 ∷ Core 0 ∷ Inject 0 ∷ Post 0 ∷ Tick ∷ Take 0 ∷ Eject 0 ∷ Send 0 ∷ DataEject 0 L 0 ∷ Core 0 ∷ Core 0 ∷ []

-- its report
abbrev pub one_tile_text : List ℕ
one_tile_text = text_of_lines (
    codes "requests 1"
    ∷ codes "q 0 0 0 GetM 0"
    ∷ codes "seen 1"
    ∷ codes "s 0 1 3"
    ∷ codes "accesses 2"
    ∷ codes "a 0 1 st 2 7 1"
    ∷ codes "a 0 2 ld 2 7 1"
    ∷ codes "memory 1"
    ∷ codes "m 0 0 0 7 0"
    ∷ codes "windows 1"
    ∷ codes "hops 0"
    ∷ codes "journal 11"
    ∷ codes "e core 0"
    ∷ codes "e core 0"
    ∷ codes "e inject 0"
    ∷ codes "e post 0"
    ∷ codes "e tick"
    ∷ codes "e take 0"
    ∷ codes "e eject 0"
    ∷ codes "e send 0"
    ∷ codes "e dataeject 0 l 0"
    ∷ codes "e core 0"
    ∷ codes "e core 0"
    ∷ codes "ended finished" ∷ [])

-- the same with a budget of one event less
abbrev pub one_event_less_text : List ℕ
one_event_less_text = text_of_lines (
    codes "requests 1"
    ∷ codes "q 0 0 0 GetM 0"
    ∷ codes "seen 1"
    ∷ codes "s 0 1 3"
    ∷ codes "accesses 2"
    ∷ codes "a 0 1 st 2 7 1"
    ∷ codes "a 0 2 ld 2 7 1"
    ∷ codes "memory 0"
    ∷ codes "windows 1"
    ∷ codes "hops 0"
    ∷ codes "journal 10"
    ∷ codes "e core 0"
    ∷ codes "e core 0"
    ∷ codes "e inject 0"
    ∷ codes "e post 0"
    ∷ codes "e tick"
    ∷ codes "e take 0"
    ∷ codes "e eject 0"
    ∷ codes "e send 0"
    ∷ codes "e dataeject 0 l 0"
    ∷ codes "e core 0"
    ∷ codes "ended budget" ∷ [])

-- two tiles store to one word each, and then load the other's: not both loads find 0
abbrev pub store_buffering : Doc
store_buffering = record {
  cols = 2;
  rows = 1;
  window = 1;
  vcs = 1;
  data_vcs = 1;
  lines = 2;
  sets = 2;
  ways = 1;
  controllers = 0 ∷ [];
  memory = replicate 8 0;
  programs = (Li 1 1 ∷ St 1 0 0 ∷ Ld 2 0 4 ∷ []) ∷ (Li 1 1 ∷ St 1 0 4 ∷ Ld 2 0 0 ∷ []) ∷ [];
  posts = [];
}

-- its report, without the events
abbrev pub store_buffering_text : List ℕ
store_buffering_text = text_of_lines (
    codes "requests 4"
    ∷ codes "q 0 0 0 GetM 0"
    ∷ codes "q 1 1 0 GetM 1"
    ∷ codes "q 2 0 1 GetS 1"
    ∷ codes "q 3 1 1 GetS 0"
    ∷ codes "seen 2"
    ∷ codes "s 0 4 3"
    ∷ codes "s 1 4 3"
    ∷ codes "accesses 4"
    ∷ codes "a 0 1 st 0 1 1"
    ∷ codes "a 1 1 st 4 1 2"
    ∷ codes "a 0 2 ld 4 1 3"
    ∷ codes "a 1 2 ld 0 1 4"
    ∷ codes "memory 2"
    ∷ codes "m 0 1 0 0 0"
    ∷ codes "m 1 1 0 0 0"
    ∷ codes "windows 3"
    ∷ codes "hops 4"
    ∷ codes "journal 48" ∷ [])

-- a load whose line takes the way of a line that was written
abbrev pub dirty_eviction : Doc
dirty_eviction = record {
  cols = 1;
  rows = 1;
  window = 1;
  vcs = 1;
  data_vcs = 1;
  lines = 2;
  sets = 1;
  ways = 1;
  controllers = 0 ∷ [];
  memory = replicate 8 0;
  programs = (Li 1 9 ∷ St 1 0 0 ∷ Ld 2 0 4 ∷ []) ∷ [];
  posts = [];
}

-- its report, without the events
abbrev pub dirty_eviction_text : List ℕ
dirty_eviction_text = text_of_lines (
    codes "requests 3"
    ∷ codes "q 0 0 0 GetM 0"
    ∷ codes "q 1 0 1 PutM 0"
    ∷ codes "q 2 0 2 GetS 1"
    ∷ codes "seen 1"
    ∷ codes "s 0 3 3"
    ∷ codes "accesses 2"
    ∷ codes "a 0 1 st 0 9 1"
    ∷ codes "a 0 2 ld 4 0 3"
    ∷ codes "memory 2"
    ∷ codes "m 0 9 0 0 0"
    ∷ codes "m 1 0 0 0 0"
    ∷ codes "windows 3"
    ∷ codes "hops 0"
    ∷ codes "journal 26" ∷ [])

-- four tiles write the four words of one line
abbrev pub false_sharing : Doc
false_sharing = record {
  cols = 2;
  rows = 2;
  window = 2;
  vcs = 1;
  data_vcs = 1;
  lines = 1;
  sets = 1;
  ways = 1;
  controllers = 0 ∷ [];
  memory = replicate 4 0;
  programs = replicate 4 (Tid 1 ∷ Addi 2 1 10 ∷ St 2 1 0 ∷ []);
  posts = [];
}

-- an add and a swap of one word, which the core of the only tile reads and writes at one time
abbrev pub read_and_written : Doc
read_and_written = record one_tile {
  memory = 10 ∷ replicate 3 0;
  programs = (Li 1 3 ∷ Fadd 1 0 0 ∷ Swap 1 0 0 ∷ Halt ∷ []) ∷ [];
}

-- its report, without the events
abbrev pub read_and_written_text : List ℕ
read_and_written_text = text_of_lines (
    codes "requests 1"
    ∷ codes "q 0 0 0 GetM 0"
    ∷ codes "seen 1"
    ∷ codes "s 0 1 3"
    ∷ codes "accesses 2"
    ∷ codes "a 0 1 fa 0 13 1 10"
    ∷ codes "a 0 2 sw 0 10 1 13"
    ∷ codes "memory 1"
    ∷ codes "m 0 10 0 0 0"
    ∷ codes "windows 1"
    ∷ codes "hops 0"
    ∷ codes "journal 11" ∷ [])

-- four tiles count with one word
abbrev pub counting : Doc
counting = record false_sharing { programs = replicate 4 (Li 1 1 ∷ Fadd 1 0 0 ∷ []) }

-- the accesses: each tile finds the count of those before it
abbrev pub counted : ℕ → Access
counted t = record { tile = t; number = 1; kind = Add; address = 0; value = t + 1; time = t + 1; old = t }

-- the run of the events prints this report, and so does the schedule: with a budget that serves, and with one event less
pub one_tile_prints :
    (option_map (λ s. report_text (report_of one_tile s)) (run in_order (chip_of one_tile) (opening one_tile) one_tile_events) ≡ Some one_tile_text)
    × (report_text (swept_report one_tile 1000000 20) ≡ one_tile_text)
    × (report_text (swept_report one_tile 10 20) ≡ one_event_less_text)
    × (report_text (swept_report one_tile 11 20) ≡ one_tile_text)
unfolding digits x_of y_of has without_port has_tile tree_outs slots at put loaded set_number after_post after_tick after_take after_entry after_hop local_place after_serve after_send next_channel after_data_hop after_data_eject after_inject after_request_post after_network_tick after_vector_take expected_at after_copy_hop after_delivery lookup has_room installed without_line without_shared lowest_for wanted marked_sent holding after_snoop after_data answered back_arrived node_after_request node_after_message after_request_sent after_message_sent node_after_access core_event in_order finished unit_at step after run owner_after owner witness report_of chip_slots sweeps
one_tile_prints = (refl, refl, refl, refl)

-- not both loads find 0
pub store_buffering_prints :
    Begins (swept_report store_buffering 1000000 40) store_buffering_text
unfolding digits x_of y_of has without_port has_tile tree_outs slots at put loaded set_number after_post after_tick after_take after_entry after_hop local_place after_serve after_send next_channel after_data_hop after_data_eject after_inject after_request_post after_network_tick after_vector_take expected_at after_copy_hop after_delivery lookup has_room installed without_line without_shared lowest_for wanted marked_sent holding after_snoop after_data answered back_arrived node_after_request node_after_message after_request_sent after_message_sent node_after_access core_event in_order finished unit_at step after run owner_after owner witness report_of chip_slots sweeps
store_buffering_prints = refl

-- the line that was written is written back before the load's
pub dirty_eviction_prints : Begins (swept_report dirty_eviction 1000000 40) dirty_eviction_text
unfolding digits x_of y_of has without_port has_tile tree_outs slots at put loaded set_number after_post after_tick after_take after_entry after_hop local_place after_serve after_send next_channel after_data_hop after_data_eject after_inject after_request_post after_network_tick after_vector_take expected_at after_copy_hop after_delivery lookup has_room installed without_line without_shared lowest_for wanted marked_sent holding after_snoop after_data answered back_arrived node_after_request node_after_message after_request_sent after_message_sent node_after_access core_event in_order finished unit_at step after run owner_after owner witness report_of chip_slots sweeps
dirty_eviction_prints = refl

-- no word is lost
pub false_sharing_ends : (let r = swept_report false_sharing 1000000 60 in
    (length r.requests ≡ 4) × (r.windows ≡ 1) × (r.hops ≡ 12) × (r.memory ≡ 10 ∷ 11 ∷ 12 ∷ 13 ∷ []))
unfolding digits x_of y_of has without_port has_tile tree_outs slots at put loaded set_number after_post after_tick after_take after_entry after_hop local_place after_serve after_send next_channel after_data_hop after_data_eject after_inject after_request_post after_network_tick after_vector_take expected_at after_copy_hop after_delivery lookup has_room installed without_line without_shared lowest_for wanted marked_sent holding after_snoop after_data answered back_arrived node_after_request node_after_message after_request_sent after_message_sent node_after_access core_event in_order finished unit_at step after run owner_after owner witness report_of chip_slots sweeps
false_sharing_ends = (refl, refl, refl, refl)

-- the bound on its events
pub one_tile_bound : bound one_tile ≡ 80
one_tile_bound = refl

-- each access reads what the one before it left
pub read_and_written_prints :
    Begins (swept_report read_and_written 1000000 20) read_and_written_text
unfolding digits x_of y_of has without_port has_tile tree_outs slots at put loaded set_number after_post after_tick after_take after_entry after_hop local_place after_serve after_send next_channel after_data_hop after_data_eject after_inject after_request_post after_network_tick after_vector_take expected_at after_copy_hop after_delivery lookup has_room installed without_line without_shared lowest_for wanted marked_sent holding after_snoop after_data answered back_arrived node_after_request node_after_message after_request_sent after_message_sent node_after_access core_event in_order finished unit_at step after run owner_after owner witness report_of chip_slots sweeps
read_and_written_prints = refl

-- no count is lost
pub counting_ends : (let r = swept_report counting 1000000 60 in
    (r.accesses ≡ map counted (0 ∷ 1 ∷ 2 ∷ 3 ∷ [])) × (r.windows ≡ 1) × (r.hops ≡ 12) × (r.memory ≡ 4 ∷ 0 ∷ 0 ∷ 0 ∷ []))
unfolding digits x_of y_of has without_port has_tile tree_outs slots at put loaded set_number after_post after_tick after_take after_entry after_hop local_place after_serve after_send next_channel after_data_hop after_data_eject after_inject after_request_post after_network_tick after_vector_take expected_at after_copy_hop after_delivery lookup has_room installed without_line without_shared lowest_for wanted marked_sent holding after_snoop after_data answered back_arrived node_after_request node_after_message after_request_sent after_message_sent node_after_access core_event in_order finished unit_at step after run owner_after owner witness report_of chip_slots sweeps
counting_ends = (refl, refl, refl, refl)
