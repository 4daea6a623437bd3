-- The messages with data that a step of a node sends: to the tile whose get it supplies, to those that wait for its demand,
-- and to those that wait at its records.
use Rattle.std.proofs.Common.{◌≡◌, ℕ, Bool, true, false, cond, refl, sym, ◌∙◌, subst, Option, Some, None, List, [], ◌∷◌, ◌++◌}
use Rattle.std.specs.Prelude.{◌==◌, slice_index_or}
use Rattle.std.specs.List.{AllByRecursion}
use Rattle.std.proofs.lemmas.Bool.{cond_both}
use Rattle.mesh_gen.specs.declared.kind.Kind.{Kind}
use Rattle.mesh_gen.specs.declared.kind.Kind.TheVariants.{GetS, GetM, PutM}
use Rattle.mesh_gen.specs.declared.request.Request.{Request}
use Rattle.mesh_gen.specs.declared.msg.Msg.{Msg}
use Rattle.mesh_gen.specs.declared.msg_kind.MsgKind.{MsgKind}
use Rattle.mesh_gen.specs.declared.msg_kind.MsgKind.TheVariants.{Data, Back}
use Rattle.chip_model.specs.declared.owner.Owner.{Owner}
use Rattle.chip_model.specs.declared.owner.Owner.TheVariants.{Memory, Tile}
use Rattle.chip_model.specs.declared.waiting.Waiting.{Waiting}
use Rattle.chip_model.specs.Chip.{Chip, home}
use Rattle.chip_model.specs.Misses.{Demand, WriteBack, is_getm}
use Rattle.chip_model.specs.Snoop.{CacheSide, Holding, OwnedCopy, LiveBack, OpenWrite, OpenRead, SharedCopy, Nothing, data_to, data_to_all, completed, completed_load}
use Rattle.chip_model.specs.Snoop.{completed_store, written_by, words_here, ordered_with, own_get, own_put, own_request, holding, snooped_with, after_snoop, data_at, data_for, after_data}
use Rattle.chip_model.specs.Records.{LineRecord, Records, Answer, from_memory, awaiting_write_back, owned_by_tile, answered_by, answered_at, answered, returned_at, back_arrived}
use Rattle.chip_model.specs.Node.{Node, node_after_request, arrived_as, node_after_message, after_message_sent}
use Rattle.chip_model.specs.Bookkeeping.{is_get}
use Rattle.chip_model.specs.Ownership.{owns}
use Rattle.chip_laws.proofs.Each.{each_append, each_map, each_drop}
use Rattle.chip_laws.proofs.SupplySends.{is_owned_holding, owns_holding}
use Rattle.chip_laws.proofs.SupplyAccounts.{is_from_memory}

-- where a message has data, this holds of its tile and line
abbrev pub DataIs : (ℕ → ℕ → Type 0) → Msg → Type 0
DataIs P msg = msg.kind ≡ Data → P msg.to msg.line

abbrev pub AllDataIs : (ℕ → ℕ → Type 0) → List Msg → Type 0
AllDataIs P messages = AllByRecursion (DataIs P) messages

-- it holds of each tile that waits, and of this line
abbrev pub AllWaitFor : (ℕ → ℕ → Type 0) → ℕ → List Waiting → Type 0
AllWaitFor P line list = AllByRecursion (λ (waiting : Waiting). P waiting.tile line) list

-- it holds of those that wait for the demand
abbrev pub DemandServes : (ℕ → ℕ → Type 0) → CacheSide → Type 0
DemandServes P side = (demand : Demand) → side.misses.demand ≡ Some demand → AllWaitFor P demand.line demand.list

-- it holds of the get that the node supplies, from what it owns or from its memory
pub record Supplies (P : ℕ → ℕ → Type 0) (node : Node) (q : Request) : Type 0 where
  pub owned : is_get q.kind ≡ true → owns node.chip node.side q.line ≡ true → P q.source q.line
  pub memory : is_get q.kind ≡ true → is_from_memory (slice_index_or node.records q.line None) ≡ true → P q.source q.line

module _ (P : ℕ → ℕ → Type 0) where
  one_sent : (q : Request) (words : List ℕ) → P q.source q.line → AllDataIs P (data_to q.source q.line words ∷ [])
  one_sent q words is = (λ has. is, _)

  all_sent : (line : ℕ) (words : List ℕ) (list : List Waiting) → AllWaitFor P line list → AllDataIs P (data_to_all line words list)
  all_sent line words list all = each_map (λ (waiting : Waiting). P waiting.tile line) (DataIs P) (λ (waiting : Waiting). data_to waiting.tile line words) list (λ waiting is has. is) all

  -- ---- the snoop table
  read_sends : (chip : Chip) (side : CacheSide) (q : Request) (h : Holding) → (is_owned_holding h ≡ true → P q.source q.line) → AllDataIs P (snooped_with chip q side h GetS).sends
  read_sends chip side q (OwnedCopy words) is = one_sent q words (is refl)
  read_sends chip side q (LiveBack words) is = one_sent q words (is refl)
  read_sends chip side q (OpenWrite demand) is = _
  read_sends chip side q (OpenRead demand) is = _
  read_sends chip side q SharedCopy is = _
  read_sends chip side q Nothing is = _

  write_sends : (chip : Chip) (side : CacheSide) (q : Request) (h : Holding) → (is_owned_holding h ≡ true → P q.source q.line) → AllDataIs P (snooped_with chip q side h GetM).sends
  write_sends chip side q (OwnedCopy words) is = one_sent q words (is refl)
  write_sends chip side q (LiveBack words) is = one_sent q words (is refl)
  write_sends chip side q (OpenWrite demand) is = _
  write_sends chip side q (OpenRead demand) is = _
  write_sends chip side q SharedCopy is = _
  write_sends chip side q Nothing is = _

  put_sends : (chip : Chip) (side : CacheSide) (q : Request) (h : Holding) → AllDataIs P (snooped_with chip q side h PutM).sends
  put_sends chip side q (OwnedCopy words) = _
  put_sends chip side q (LiveBack words) = _
  put_sends chip side q (OpenWrite demand) = _
  put_sends chip side q (OpenRead demand) = _
  put_sends chip side q SharedCopy = _
  put_sends chip side q Nothing = _

  other_sends : (chip : Chip) (side : CacheSide) (q : Request) (kind : Kind) → (is_get kind ≡ true → owns chip side q.line ≡ true → P q.source q.line)
      → AllDataIs P (snooped_with chip q side (holding chip side q.line) kind).sends
  other_sends chip side q GetS is = read_sends chip side q (holding chip side q.line) (λ held. is refl (owns_holding chip side q.line ∙ held))
  other_sends chip side q GetM is = write_sends chip side q (holding chip side q.line) (λ held. is refl (owns_holding chip side q.line ∙ held))
  other_sends chip side q PutM is = put_sends chip side q (holding chip side q.line)

  -- ---- the demand completes
  completed_sends : (chip : Chip) (demand : Demand) (place : ℕ) (words : List ℕ) (side : CacheSide) → AllWaitFor P demand.line demand.list
      → AllDataIs P (completed chip demand place words side).sends
  completed_sends chip demand place words side all =
      cond_both (is_getm demand.kind) (completed_store chip demand place words side) (completed_load chip demand place words side) (λ outcome. AllDataIs P outcome.sends)
      (λ writes. all_sent demand.line (written_by demand.pending words) demand.list all)
      (λ reads. _)

  ordered_sends : (chip : Chip) (side : CacheSide) (place : ℕ) (demand : Demand) (words : Option (List ℕ)) → AllWaitFor P demand.line demand.list
      → AllDataIs P (ordered_with chip side place demand words).sends
  ordered_sends chip side place demand (Some words) all = completed_sends chip demand place words side all
  ordered_sends chip side place demand None all = _

  get_sends : (chip : Chip) (side : CacheSide) (place : ℕ) (entry : Option Demand) → side.misses.demand ≡ entry → DemandServes P side → AllDataIs P (own_get chip side place entry).sends
  get_sends chip side place None stands is = _
  get_sends chip side place (Some demand) stands is = ordered_sends chip side place demand (words_here chip side demand demand.early) (is demand stands)

  own_put_sends : (chip : Chip) (side : CacheSide) (entry : Option WriteBack) → AllDataIs P (own_put chip side entry).sends
  own_put_sends chip side None = _
  own_put_sends chip side (Some back) = by back.live where
    by : (live : Bool) → AllDataIs P (cond {A = List Msg} live (record { to = home chip back.line; kind = Back; line = back.line; words = back.words } ∷ []) [])
    by true = (λ has. let not_data : Back ≡ Data = has in absurd (cc), _)
    by false = _

  own_sends : (chip : Chip) (side : CacheSide) (place : ℕ) (kind : Kind) → DemandServes P side → AllDataIs P (own_request chip side place kind).sends
  own_sends chip side place GetS is = get_sends chip side place side.misses.demand refl is
  own_sends chip side place GetM is = get_sends chip side place side.misses.demand refl is
  own_sends chip side place PutM is = own_put_sends chip side side.misses.back

  snooped_sends : (node : Node) (q : Request) → Supplies P node q → DemandServes P node.side → AllDataIs P (after_snoop node.chip node.tile node.side node.delivered q).sends
  unfolding after_snoop
  snooped_sends node q supplies serves =
      cond_both (q.source == node.tile) (own_request node.chip node.side node.delivered q.kind) (snooped_with node.chip q node.side (holding node.chip node.side q.line) q.kind)
      (λ outcome. AllDataIs P outcome.sends)
      (λ own. own_sends node.chip node.side node.delivered q.kind serves)
      (λ other. other_sends node.chip node.side q q.kind supplies.owned)

  -- ---- the controller
  memory_sends : (q : Request) (r : LineRecord) (kind : Kind) → (is_get kind ≡ true → P q.source q.line) → AllDataIs P (from_memory q r kind).sends
  memory_sends q r GetS is = one_sent q r.words (is refl)
  memory_sends q r GetM is = one_sent q r.words (is refl)
  memory_sends q r PutM is = _

  waiting_sends : (q : Request) (r : LineRecord) (kind : Kind) → AllDataIs P (awaiting_write_back q r kind).sends
  waiting_sends q r GetS = _
  waiting_sends q r GetM = _
  waiting_sends q r PutM = _

  tile_sends : (q : Request) (r : LineRecord) (tile : ℕ) (kind : Kind) → AllDataIs P (owned_by_tile q r tile kind).sends
  tile_sends q r tile GetS = _
  tile_sends q r tile GetM = _
  tile_sends q r tile PutM = _

  record_sends : (q : Request) (records : Records) (entry : Option LineRecord) → (is_get q.kind ≡ true → is_from_memory entry ≡ true → P q.source q.line)
      → AllDataIs P (answered_at q records entry).sends
  record_sends q records None is = _
  record_sends q records (Some r) is = by r.owner r.fresh refl refl where
    by : (owner : Owner) (fresh : Bool) → r.owner ≡ owner → r.fresh ≡ fresh → AllDataIs P (answered_by q r r.owner).sends
    by Memory true owner fresh =
        subst (λ (o : Owner). AllDataIs P (answered_by q r o).sends) (sym owner)
        (subst (λ (b : Bool). AllDataIs P (cond {A = Answer} b (from_memory q r q.kind) (awaiting_write_back q r q.kind)).sends) (sym fresh)
        (memory_sends q r q.kind (λ get. is get (rw owner refl))))
    by Memory false owner fresh =
        subst (λ (o : Owner). AllDataIs P (answered_by q r o).sends) (sym owner)
        (subst (λ (b : Bool). AllDataIs P (cond {A = Answer} b (from_memory q r q.kind) (awaiting_write_back q r q.kind)).sends) (sym fresh) (waiting_sends q r q.kind))
    by (Tile tile) fresh owner fresh_is = subst (λ (o : Owner). AllDataIs P (answered_by q r o).sends) (sym owner) (tile_sends q r tile q.kind)

  answered_sends : (q : Request) (records : Records) → (is_get q.kind ≡ true → is_from_memory (slice_index_or records q.line None) ≡ true → P q.source q.line)
      → AllDataIs P (answered q records).sends
  unfolding answered
  answered_sends q records is = record_sends q records (slice_index_or records q.line None) is

  -- ---- the queue of a node
  -- a request is delivered
  pub delivered_data : (q : Request) (node : Node) → Supplies P node q → DemandServes P node.side → AllDataIs P node.out → AllDataIs P (node_after_request q node).0.out
  unfolding node_after_request
  delivered_data q node supplies serves all =
      each_append (DataIs P) (node.out ++ (after_snoop node.chip node.tile node.side node.delivered q).sends) (answered q node.records).sends
      (each_append (DataIs P) node.out (after_snoop node.chip node.tile node.side node.delivered q).sends all (snooped_sends node q supplies serves))
      (answered_sends q node.records supplies.memory)

  data_sends : (chip : Chip) (side : CacheSide) (words : List ℕ) (demand : Demand) (place : Option ℕ) → AllWaitFor P demand.line demand.list
      → AllDataIs P (data_at chip side words demand place).sends
  data_sends chip side words demand (Some place) all = completed_sends chip demand place words side all
  data_sends chip side words demand None all = _

  words_sends : (chip : Chip) (side : CacheSide) (words : List ℕ) (entry : Option Demand) → side.misses.demand ≡ entry → DemandServes P side → AllDataIs P (data_for chip side words entry).sends
  words_sends chip side words None stands is = _
  words_sends chip side words (Some demand) stands is = data_sends chip side words demand demand.ordered (is demand stands)

  back_sends : (line : ℕ) (words : List ℕ) (records : Records) (entry : Option LineRecord) → ((r : LineRecord) → entry ≡ Some r → AllWaitFor P line r.waiters)
      → AllDataIs P (returned_at line words records entry).sends
  back_sends line words records None is = _
  back_sends line words records (Some r) is = all_sent line words r.waiters (is r refl)

  kind_data : (msg : Msg) (node : Node) (kind : MsgKind) → msg.kind ≡ kind → DemandServes P node.side
      → (msg.kind ≡ Back → (r : LineRecord) → slice_index_or node.records msg.line None ≡ Some r → AllWaitFor P msg.line r.waiters)
      → AllDataIs P node.out → AllDataIs P (arrived_as msg node kind).0.out
  unfolding after_data back_arrived
  kind_data msg node Data kind serves waiters all =
      each_append (DataIs P) node.out (after_data node.chip node.side msg.words).sends all (words_sends node.chip node.side msg.words node.side.misses.demand refl serves)
  kind_data msg node Back kind serves waiters all =
      each_append (DataIs P) node.out (back_arrived msg.line msg.words node.records).sends all
      (back_sends msg.line msg.words node.records (slice_index_or node.records msg.line None) (waiters kind))

  -- a message comes
  pub arrived_data : (msg : Msg) (node : Node) → DemandServes P node.side
      → (msg.kind ≡ Back → (r : LineRecord) → slice_index_or node.records msg.line None ≡ Some r → AllWaitFor P msg.line r.waiters)
      → AllDataIs P node.out → AllDataIs P (node_after_message msg node).0.out
  unfolding node_after_message
  arrived_data msg node serves waiters all = kind_data msg node msg.kind refl serves waiters all

  -- the first message is sent
  pub sent_data : (node : Node) → AllDataIs P node.out → AllDataIs P (after_message_sent node).out
  unfolding after_message_sent
  sent_data node all = each_drop (DataIs P) 1 node.out all
