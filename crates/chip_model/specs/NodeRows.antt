-- Steps of one node and of one controller: theorems that compute.
use Rattle.std.specs.Prelude.{◌≡◌, ℕ, true, false, List, [], ◌∷◌, Option, Some, None, replicate, map, slice_index_or, option_map, refl}
use Rattle.mesh_gen.specs.declared.kind.Kind.{Kind}
use Rattle.mesh_gen.specs.declared.kind.Kind.TheVariants.{GetS, GetM, PutM}
use Rattle.mesh_gen.specs.declared.request.Request.{Request}
use Rattle.mesh_gen.specs.declared.msg.Msg.{Msg}
use Rattle.mesh_gen.specs.declared.msg_kind.MsgKind.TheVariants.{Back}
use Rattle.report_text.specs.declared.access.AccessKind.{AccessKind}
use Rattle.report_text.specs.declared.access.AccessKind.TheVariants.{Load, Store}
use Rattle.chip_model.specs.declared.done.Done.{Done}
use Rattle.chip_model.specs.declared.pending.Pending.{Pending}
use Rattle.chip_model.specs.declared.line_state.State.{State}
use Rattle.chip_model.specs.declared.line_state.State.TheVariants.{M, O, S}
use Rattle.chip_model.specs.declared.owner.Owner.TheVariants.{Memory, Tile}
use Rattle.chip_model.specs.Chip.{Chip, set_number}
use Rattle.chip_model.specs.Cache.{Held, lookup, has_room, installed, without_line, without_shared, lowest_for}
use Rattle.chip_model.specs.Misses.{Demand, wanted, marked_sent}
use Rattle.chip_model.specs.Snoop.{holding, after_snoop, after_data, data_to}
use Rattle.chip_model.specs.Records.{LineRecord, Records, answered, back_arrived}
use Rattle.chip_model.specs.Node.{Node, Performed, opening_node, node_after_access, node_after_request, node_after_message, after_request_sent, after_message_sent}

-- four tiles with one set of one way each, whose memory is at one of them
abbrev pub four_tiles : ℕ → Chip
four_tiles controller = record {
  grid = record { cols = 2; rows = 2 };
  window = 2;
  vcs = 1;
  data_vcs = 1;
  lines = 16;
  sets = 1;
  ways = 1;
  controllers = controller ∷ [];
}

-- two tiles with four sets of one way each
abbrev pub two_tiles : Chip
two_tiles = record {
  grid = record { cols = 2; rows = 1 };
  window = 1;
  vcs = 1;
  data_vcs = 1;
  lines = 16;
  sets = 4;
  ways = 1;
  controllers = 0 ∷ [];
}

-- a request for a line
abbrev pub request_for_line : ℕ → ℕ → ℕ → Kind → Request
request_for_line line source number kind = record { source = source; number = number; kind = kind; line = line }

-- a request for line 0
abbrev pub request : ℕ → ℕ → Kind → Request
request source number kind = request_for_line 0 source number kind

-- an access that waits to be performed
abbrev pub access : AccessKind → ℕ → ℕ → Pending
access kind address value = record { kind = kind; address = address; value = value }

-- a message with the words of line 0
abbrev pub words_for_line : ℕ → List ℕ → Msg
words_for_line tile words = data_to tile 0 words

-- the node after its request was sent, where an access was started
abbrev pub asked_with : Node → Option Performed → Node
asked_with node None = node
asked_with node (Some performed) = after_request_sent performed.0

-- the node after an access that was started and its request that was sent
abbrev pub asked : AccessKind → ℕ → ℕ → Node → Node
asked kind address value node = asked_with node (node_after_access (access kind address value) node)

-- the node after these deliveries
abbrev pub delivered_all : List Request → Node → Node
delivered_all [] node = node
delivered_all (q ∷ rest) node = delivered_all rest (node_after_request q node).0

-- an access that was performed, and read nothing
abbrev pub done : AccessKind → ℕ → ℕ → ℕ → Option Done
done kind address value time = Some (record { kind = kind; address = address; value = value; time = time; old = 0 })

-- what a node has for a line
abbrev pub held_copy : Node → ℕ → Option Held
held_copy node line = lookup node.chip node.side.cache line

-- a copy of line 0 in a cache
abbrev pub copy : State → List ℕ → Option Held
copy state words = Some (record { line = 0; state = state; words = words })

-- Three tiles ask for the line after a store that is ordered and has no words yet.
abbrev pub storing : Node
storing = asked Store 0 5 (opening_node (four_tiles 3) 0 (replicate 64 0))

-- two loads come after the store
abbrev pub storing_and_read : Node
storing_and_read = delivered_all (request 0 0 GetM ∷ request 1 0 GetS ∷ request 2 0 GetS ∷ []) storing

-- and then another store
abbrev pub storing_and_written : Node
storing_and_written = (node_after_request (request 3 0 GetM) storing_and_read).0

-- once the words come, the store is done, and all that wait are sent the line with it; the next writer takes the copy
pub words_go_on_to_all_that_wait :
    (option_map {U = Option Done × Option (Kind × ℕ)} (λ (p : Performed). (p.1, wanted p.0.side.misses)) (node_after_access (access Store 0 5) (opening_node (four_tiles 3) 0 (replicate 64 0))) ≡ Some (None, Some (GetM, 0)))
    × ((node_after_request (request 3 0 GetM) storing_and_read).1 ≡ None)
    × (let after = node_after_message (words_for_line 0 (1 ∷ 2 ∷ 3 ∷ 4 ∷ [])) storing_and_written in
    (after.1 ≡ done Store 0 5 1)
    × (after.0.out ≡ map (λ t. words_for_line t (5 ∷ 2 ∷ 3 ∷ 4 ∷ [])) (1 ∷ 2 ∷ 3 ∷ []))
    × (held_copy after.0 0 ≡ None))
    × (let after = node_after_message (words_for_line 0 (1 ∷ 2 ∷ 3 ∷ 4 ∷ [])) storing_and_read in
    (after.0.out ≡ map (λ t. words_for_line t (5 ∷ 2 ∷ 3 ∷ 4 ∷ [])) (1 ∷ 2 ∷ []))
    × (held_copy after.0 0 ≡ copy O (5 ∷ 2 ∷ 3 ∷ 4 ∷ [])))
unfolding set_number lookup has_room installed without_line without_shared lowest_for wanted marked_sent holding after_snoop after_data answered back_arrived node_after_access node_after_request node_after_message after_request_sent after_message_sent
words_go_on_to_all_that_wait = (refl, refl, (refl, refl, refl), (refl, refl))

-- From the owned copy: a store of its own that races with another tile's.
abbrev pub owning : Node
owning = record (node_after_message (words_for_line 0 (1 ∷ 2 ∷ 3 ∷ 4 ∷ [])) storing_and_read).0 { out = [] }

-- its second store asks for the line again
abbrev pub upgrading : Node
upgrading = asked Store 1 8 owning

-- the other tile's store is ordered first
abbrev pub overtaken : Node
overtaken = (node_after_request (request 3 0 GetM) upgrading).0

-- the owned copy goes to the other tile, and the upgrade waits for words; where it is ordered first, it needs none
pub an_upgrade_waits_where_it_was_overtaken :
    (wanted upgrading.side.misses ≡ None)
    × (overtaken.out ≡ words_for_line 3 (5 ∷ 2 ∷ 3 ∷ 4 ∷ []) ∷ [])
    × (held_copy overtaken 0 ≡ None)
    × (let ordered = node_after_request (request 0 1 GetM) overtaken in
    (ordered.1 ≡ None)
    × (let after = node_after_message (words_for_line 0 (5 ∷ 2 ∷ 9 ∷ 4 ∷ [])) ordered.0 in
    (after.1 ≡ done Store 1 8 5) × (held_copy after.0 0 ≡ copy M (5 ∷ 8 ∷ 9 ∷ 4 ∷ []))))
    × (let first = node_after_request (request 0 1 GetM) upgrading in
    (first.1 ≡ done Store 1 8 4) × (first.0.out ≡ []) × (held_copy first.0 0 ≡ copy M (5 ∷ 8 ∷ 3 ∷ 4 ∷ [])))
unfolding set_number lookup has_room installed without_line without_shared lowest_for wanted marked_sent holding after_snoop after_data answered back_arrived node_after_access node_after_request node_after_message after_request_sent after_message_sent
an_upgrade_waits_where_it_was_overtaken = (refl, refl, refl, (refl, (refl, refl)), (refl, refl, refl))

-- A load whose line another tile wrote before the words came.
abbrev pub waiting_load : Node
waiting_load = asked Load 0 0 (opening_node two_tiles 1 (replicate 64 0))

-- the other tile's store is ordered before the words are there
abbrev pub invalidated : Node
invalidated = delivered_all (request 1 0 GetS ∷ request 0 0 GetM ∷ []) waiting_load

-- the load is done with the words that came, of which no copy is kept
pub words_that_came_late_serve_once :
    (let after = node_after_message (words_for_line 1 (7 ∷ 0 ∷ 0 ∷ 0 ∷ [])) invalidated in
    (after.1 ≡ done Load 0 7 1)
    × (held_copy after.0 0 ≡ None)
    × (option_map (λ (p : Performed). p.1) (node_after_access (access Load 0 0) after.0) ≡ Some None))
unfolding set_number lookup has_room installed without_line without_shared lowest_for wanted marked_sent holding after_snoop after_data answered back_arrived node_after_access node_after_request node_after_message after_request_sent after_message_sent
words_that_came_late_serve_once = (refl, refl, refl)

-- Words that come before the request is ordered.
pub words_that_came_early_wait :
    (let early = node_after_message (words_for_line 1 (7 ∷ 0 ∷ 0 ∷ 0 ∷ [])) waiting_load in
    (early.1 ≡ None)
    × (let after = node_after_request (request 1 0 GetS) early.0 in
    (after.1 ≡ done Load 0 7 1)
    × (held_copy after.0 0 ≡ copy S (7 ∷ 0 ∷ 0 ∷ 0 ∷ []))
    × (option_map (λ (p : Performed). p.1) (node_after_access (access Load 0 0) after.0) ≡ Some (done Load 0 7 1))))
unfolding set_number lookup has_room installed without_line without_shared lowest_for wanted marked_sent holding after_snoop after_data answered back_arrived node_after_access node_after_request node_after_message after_request_sent after_message_sent
words_that_came_early_wait = (refl, (refl, refl, refl))

-- A write-back that another tile's store overtakes.
abbrev pub modified : Node
modified = (node_after_message (words_for_line 0 (1 ∷ 2 ∷ 3 ∷ 4 ∷ [])) (delivered_all (request 0 0 GetM ∷ []) storing)).0

-- a load of another line evicts it
abbrev pub writing_back : Node
writing_back = asked Load 4 0 modified

-- the other tile's store is ordered before the write-back
abbrev pub stale : Node
stale = (node_after_request (request 2 0 GetM) writing_back).0

-- the words go to the other tile, and none to memory
pub a_stale_write_back_ends_without_a_word :
    (held_copy modified 0 ≡ copy M (5 ∷ 2 ∷ 3 ∷ 4 ∷ []))
    × (option_map (λ (p : Performed). wanted p.0.side.misses) (node_after_access (access Load 4 0) modified) ≡ Some (Some (PutM, 0)))
    × (stale.out ≡ words_for_line 2 (5 ∷ 2 ∷ 3 ∷ 4 ∷ []) ∷ [])
    × (let after = node_after_request (request 0 1 PutM) stale in
    (after.1 ≡ None) × (after.0.out ≡ stale.out) × (after.0.side.misses.back ≡ None))
unfolding set_number lookup has_room installed without_line without_shared lowest_for wanted marked_sent holding after_snoop after_data answered back_arrived node_after_access node_after_request node_after_message after_request_sent after_message_sent
a_stale_write_back_ends_without_a_word = (refl, refl, refl, (refl, refl, refl))

-- A miss goes on beside the write-back of its victim.
abbrev pub missing_beside : Node
missing_beside = asked Load 4 0 writing_back

-- the write-back is ordered while the miss waits
abbrev pub written_back : Node
written_back = (node_after_request (request 0 1 PutM) missing_beside).0

-- the miss is ordered, and its words come
abbrev pub read_beside : Performed
read_beside = node_after_message (data_to 0 1 (6 ∷ 0 ∷ 0 ∷ 0 ∷ [])) (node_after_request (request_for_line 1 0 2 GetS) written_back).0

-- the request that an access needs, where it was started
abbrev pub wanted_after : Option Performed → Option (Option (Kind × ℕ))
wanted_after tried = option_map (λ (p : Performed). wanted p.0.side.misses) tried

-- the miss is sent before the write-back is ordered, and each ends by itself
pub a_miss_goes_on_beside_a_write_back :
    (wanted_after (node_after_access (access Load 4 0) modified) ≡ Some (Some (PutM, 0)))
    × (node_after_access (access Load 0 0) writing_back ≡ None)
    × (wanted_after (node_after_access (access Load 4 0) writing_back) ≡ Some (Some (GetS, 1)))
    × (wanted missing_beside.side.misses ≡ None)
    × (node_after_access (access Load 4 0) missing_beside ≡ None)
    × (written_back.out ≡ record { to = 3; kind = Back; line = 0; words = 5 ∷ 2 ∷ 3 ∷ 4 ∷ [] } ∷ [])
    × ((node_after_request (request_for_line 1 0 2 GetS) written_back).1 ≡ None)
    × (read_beside.1 ≡ done Load 4 6 3)
    × (held_copy read_beside.0 1 ≡ Some (record { line = 1; state = S; words = 6 ∷ 0 ∷ 0 ∷ 0 ∷ [] }))
unfolding set_number lookup has_room installed without_line without_shared lowest_for wanted marked_sent holding after_snoop after_data answered back_arrived node_after_access node_after_request node_after_message after_request_sent after_message_sent
a_miss_goes_on_beside_a_write_back = (refl, refl, refl, refl, refl, refl, refl, refl, refl)

-- The same, where another tile's store overtakes the write-back: the miss goes on.
abbrev pub overtaken_beside : Node
overtaken_beside = (node_after_request (request 2 0 GetM) missing_beside).0

-- the write-back ends without a word to memory, and the miss still waits
pub a_miss_goes_on_beside_a_stale_write_back :
    (overtaken_beside.out ≡ words_for_line 2 (5 ∷ 2 ∷ 3 ∷ 4 ∷ []) ∷ [])
    × (let after = node_after_request (request 0 1 PutM) overtaken_beside in
    (after.1 ≡ None)
    × (after.0.out ≡ overtaken_beside.out)
    × (after.0.side.misses.back ≡ None)
    × (option_map (λ (demand : Demand). demand.ordered) after.0.side.misses.demand ≡ Some None))
unfolding set_number lookup has_room installed without_line without_shared lowest_for wanted marked_sent holding after_snoop after_data answered back_arrived node_after_access node_after_request node_after_message after_request_sent after_message_sent
a_miss_goes_on_beside_a_stale_write_back = (refl, (refl, refl, refl, refl))

-- The controller: who owns a line, and who waits for its words.
abbrev pub owned_by_zero : Records
owned_by_zero = Some (record { owner = Tile 0; words = replicate 4 0; fresh = false; waiters = [] }) ∷ []

-- the record of line 0
abbrev pub home_record_of : Records → Option LineRecord
home_record_of records = slice_index_or records 0 None

-- the words that are written back
abbrev pub line_words : List ℕ
line_words = 5 ∷ 2 ∷ 3 ∷ 4 ∷ []

-- it answers no request before both: the write-back is ordered, and its words are there
pub memory_supplies_once_it_owns_the_line_and_has_its_words :
    (let back = back_arrived 0 line_words owned_by_zero in
    (back.sends ≡ [])
    × (home_record_of back.records ≡ Some (record { owner = Tile 0; words = line_words; fresh = true; waiters = [] }))
    × ((answered (request 1 0 GetS) back.records).sends ≡ [])
    × (let put = answered (request 0 1 PutM) back.records in
    (put.sends ≡ [])
    × (home_record_of put.records ≡ Some (record { owner = Memory; words = line_words; fresh = true; waiters = [] }))
    × ((answered (request 2 0 GetS) put.records).sends ≡ words_for_line 2 line_words ∷ [])))
    × (let put = answered (request 0 1 PutM) owned_by_zero in
    let written = answered (request 2 0 GetM) (answered (request 1 0 GetS) put.records).records in
    (written.sends ≡ [])
    × (let back = back_arrived 0 line_words written.records in
    (back.sends ≡ words_for_line 1 line_words ∷ words_for_line 2 line_words ∷ [])
    × (home_record_of back.records ≡ Some (record { owner = Tile 2; words = line_words; fresh = false; waiters = [] }))))
    × ((answered (request 0 1 PutM) (answered (request 2 0 GetM) owned_by_zero).records).records ≡ (answered (request 2 0 GetM) owned_by_zero).records)
unfolding answered back_arrived
memory_supplies_once_it_owns_the_line_and_has_its_words = ((refl, refl, refl, (refl, refl, refl)), (refl, (refl, refl)), refl)
