-- The messages that a node sends are for tiles and of lines, and what is written back goes to its home.
use Rattle.std.proofs.Common.{◌≡◌, ℕ, ◌%◌, ◌<◌, Bool, true, false, cond, refl, arith, Option, Some, None, List, [], ◌∷◌, ◌++◌, length, get_or}
use Rattle.std.specs.Prelude.{◌==◌, slice_index_or}
use Rattle.std.specs.List.{AllByRecursion}
use Rattle.std.proofs.lemmas.Bool.{cond_both}
use Rattle.std.proofs.lemmas.Option.{slice_get-get_or}
use Rattle.mesh_gen.specs.declared.kind.Kind.{Kind}
use Rattle.mesh_gen.specs.declared.kind.Kind.TheVariants.{GetS, GetM, PutM}
use Rattle.mesh_gen.specs.declared.request.Request.{Request}
use Rattle.mesh_gen.specs.declared.msg.Msg.{Msg}
use Rattle.mesh_gen.specs.declared.msg_kind.MsgKind.{MsgKind}
use Rattle.mesh_gen.specs.declared.msg_kind.MsgKind.TheVariants.{Data, Back}
use Rattle.mesh_gen.specs.Limits.{AreTiles}
use Rattle.chip_model.specs.declared.owner.Owner.{Owner}
use Rattle.chip_model.specs.declared.owner.Owner.TheVariants.{Memory, Tile}
use Rattle.chip_model.specs.declared.waiting.Waiting.{Waiting}
use Rattle.chip_model.specs.Chip.{Chip, tile_count, home}
use Rattle.chip_model.specs.Misses.{Demand, WriteBack, is_getm}
use Rattle.chip_model.specs.Snoop.{CacheSide, data_to, data_to_all, completed, completed_load, completed_store, written_by, words_here, ordered_with, own_get, own_put, own_request, holding, snooped_with, after_snoop, data_at, data_for, after_data}
use Rattle.chip_model.specs.Records.{LineRecord, Records, Answer, from_memory, awaiting_write_back, owned_by_tile, answered_by, answered_at, answered, returned_at, back_arrived}
use Rattle.chip_model.specs.Node.{Node, node_after_request, arrived_as, node_after_message, after_message_sent}
use Rattle.chip_model.specs.NetworkShape.{MessageFits}
use Rattle.snoop_core.proofs.SnoopSteps.{snoop_forms}
use Rattle.chip_laws.proofs.Each.{each_at, each_append, each_map, each_drop}

abbrev pub AllFit : Chip → List Msg → Type 0
AllFit chip msgs = AllByRecursion (MessageFits chip) msgs

-- tiles that wait
abbrev pub AreInside : Chip → List Waiting → Type 0
AreInside chip list = AllByRecursion (λ (w : Waiting). w.tile < tile_count chip) list

data_fits : (chip : Chip) (tile line : ℕ) (words : List ℕ) → tile < tile_count chip → line < chip.lines → MessageFits chip (data_to tile line words)
data_fits chip tile line words inside below = record { to = inside; line = below; goes_to = _ }

all_fit : (chip : Chip) (line : ℕ) (words : List ℕ) (list : List Waiting) → line < chip.lines → AreInside chip list → AllFit chip (data_to_all line words list)
all_fit chip line words list below inside =
    each_map (λ (w : Waiting). w.tile < tile_count chip) (MessageFits chip) (λ (w : Waiting). data_to w.tile line words) list (λ w is. data_fits chip w.tile line words is below) inside

-- a line's home is a tile
some_controller : (controllers : List ℕ) (line tiles : ℕ) → AreTiles tiles controllers → get_or controllers (line % length controllers) 0 < tiles
some_controller controllers line tiles is =
    each_at (λ t. t < tiles) controllers (line % length controllers) (get_or controllers (line % length controllers) 0) is.inside
    (slice_get-get_or controllers (line % length controllers) 0 (below line (length controllers) is.some)) where
      below : (n m : ℕ) → 0 < m → n % m < m
      below n m some = omega arith

pub home_inside : (chip : Chip) (line : ℕ) → AreTiles (tile_count chip) chip.controllers → home chip line < tile_count chip
home_inside chip line is = some_controller chip.controllers line (tile_count chip) is

-- what is known of a node before its step
pub record SendsFit (chip : Chip) (side : CacheSide) : Type 0 where
  pub controllers : AreTiles (tile_count chip) chip.controllers
  pub demand : (demand : Demand) → side.misses.demand ≡ Some demand → demand.line < chip.lines
  pub list : (demand : Demand) → side.misses.demand ≡ Some demand → AreInside chip demand.list
  pub back : (back : WriteBack) → side.misses.back ≡ Some back → back.line < chip.lines

-- a request is of a tile and for a line
pub record RequestInside (chip : Chip) (q : Request) : Type 0 where
  pub source : q.source < tile_count chip
  pub line : q.line < chip.lines

supplies_fits : (chip : Chip) (q : Request) (words : List ℕ) → RequestInside chip q → AllFit chip (data_to q.source q.line words ∷ [])
supplies_fits chip q words is = (data_fits chip q.source q.line words is.source is.line, _)

other_sends : (chip : Chip) (q : Request) (side : CacheSide) → RequestInside chip q → AllFit chip (snooped_with chip q side (holding chip side q.line) q.kind).sends
other_sends chip q side is = snoop_forms chip side q (λ outcome. AllFit chip outcome.sends) (record {
  put = λ kind. _;
  copy_read = λ kind held there owned. supplies_fits chip q held.words is;
  copy_written = λ kind held there owned. supplies_fits chip q held.words is;
  back_read = λ kind back. supplies_fits chip q back.words is;
  back_written = λ kind copy back stands line. supplies_fits chip q back.words is;
  list_read = λ kind demand meets writes goes_on. _;
  list_written = λ kind demand meets writes goes_on. _;
  read = λ kind. _;
  once = λ kind demand meets reads. _;
  shared_written = λ kind unowned. _;
  nothing_written = λ kind unowned. _;
})

completed_sends : (chip : Chip) (demand : Demand) (place : ℕ) (words : List ℕ) (side : CacheSide) → demand.line < chip.lines → AreInside chip demand.list → AllFit chip (completed chip demand place words side).sends
completed_sends chip demand place words side below inside =
    cond_both (is_getm demand.kind) (completed_store chip demand place words side) (completed_load chip demand place words side) (λ outcome. AllFit chip outcome.sends)
    (λ writes. all_fit chip demand.line (written_by demand.pending words) demand.list below inside)
    (λ reads. _)

ordered_sends : (chip : Chip) (side : CacheSide) (place : ℕ) (demand : Demand) (words : Option (List ℕ)) → demand.line < chip.lines → AreInside chip demand.list → AllFit chip (ordered_with chip side place demand words).sends
ordered_sends chip side place demand (Some words) below inside = completed_sends chip demand place words side below inside
ordered_sends chip side place demand None below inside = _

get_sends : (chip : Chip) (side : CacheSide) (place : ℕ) (entry : Option Demand) → side.misses.demand ≡ entry → SendsFit chip side → AllFit chip (own_get chip side place entry).sends
get_sends chip side place None stands is = _
get_sends chip side place (Some demand) stands is = ordered_sends chip side place demand (words_here chip side demand demand.early) (is.demand demand stands) (is.list demand stands)

put_sends : (chip : Chip) (side : CacheSide) (entry : Option WriteBack) → side.misses.back ≡ entry → SendsFit chip side → AllFit chip (own_put chip side entry).sends
put_sends chip side None stands is = _
put_sends chip side (Some back) stands is = by back.live where
  by : (live : Bool) → AllFit chip (cond {A = List Msg} live (record { to = home chip back.line; kind = Back; line = back.line; words = back.words } ∷ []) [])
  by true = (record { to = home_inside chip back.line is.controllers; line = is.back back stands; goes_to = refl }, _)
  by false = _

own_sends : (chip : Chip) (side : CacheSide) (place : ℕ) (kind : Kind) → SendsFit chip side → AllFit chip (own_request chip side place kind).sends
own_sends chip side place GetS is = get_sends chip side place side.misses.demand refl is
own_sends chip side place GetM is = get_sends chip side place side.misses.demand refl is
own_sends chip side place PutM is = put_sends chip side side.misses.back refl is

snooped_sends : (chip : Chip) (tile : ℕ) (side : CacheSide) (place : ℕ) (q : Request) → RequestInside chip q → SendsFit chip side → AllFit chip (after_snoop chip tile side place q).sends
unfolding after_snoop
snooped_sends chip tile side place q inside is =
    cond_both (q.source == tile) (own_request chip side place q.kind) (snooped_with chip q side (holding chip side q.line) q.kind) (λ outcome. AllFit chip outcome.sends)
    (λ own. own_sends chip side place q.kind is)
    (λ other. other_sends chip q side inside)

-- ---- the controller
memory_sends : (chip : Chip) (q : Request) (r : LineRecord) (kind : Kind) → RequestInside chip q → AllFit chip (from_memory q r kind).sends
memory_sends chip q r GetS is = supplies_fits chip q r.words is
memory_sends chip q r GetM is = supplies_fits chip q r.words is
memory_sends chip q r PutM is = _

waiting_sends : (chip : Chip) (q : Request) (r : LineRecord) (kind : Kind) → AllFit chip (awaiting_write_back q r kind).sends
waiting_sends chip q r GetS = _
waiting_sends chip q r GetM = _
waiting_sends chip q r PutM = _

tile_sends : (chip : Chip) (q : Request) (r : LineRecord) (tile : ℕ) (kind : Kind) → AllFit chip (owned_by_tile q r tile kind).sends
tile_sends chip q r tile GetS = _
tile_sends chip q r tile GetM = _
tile_sends chip q r tile PutM = _

answer_sends : (chip : Chip) (q : Request) (r : LineRecord) (owner : Owner) → RequestInside chip q → AllFit chip (answered_by q r owner).sends
answer_sends chip q r Memory is =
    cond_both r.fresh (from_memory q r q.kind) (awaiting_write_back q r q.kind) (λ (answer : Answer). AllFit chip answer.sends)
    (λ fresh. memory_sends chip q r q.kind is) (λ waits. waiting_sends chip q r q.kind)
answer_sends chip q r (Tile tile) is = tile_sends chip q r tile q.kind

record_sends : (chip : Chip) (q : Request) (records : Records) (entry : Option LineRecord) → RequestInside chip q → AllFit chip (answered_at q records entry).sends
record_sends chip q records None is = _
record_sends chip q records (Some r) is = answer_sends chip q r r.owner is

answered_sends : (chip : Chip) (q : Request) (records : Records) → RequestInside chip q → AllFit chip (answered q records).sends
unfolding answered
answered_sends chip q records is = record_sends chip q records (slice_index_or records q.line None) is

back_sends : (chip : Chip) (line : ℕ) (words : List ℕ) (records : Records) (entry : Option LineRecord) → line < chip.lines → ((r : LineRecord) → entry ≡ Some r → AreInside chip r.waiters)
    → AllFit chip (returned_at line words records entry).sends
back_sends chip line words records None below inside = _
back_sends chip line words records (Some r) below inside = all_fit chip line words r.waiters below (inside r refl)

-- ---- the queue of a node
pub delivered_messages : (q : Request) (node : Node) → RequestInside node.chip q → SendsFit node.chip node.side → AllFit node.chip node.out → AllFit node.chip (node_after_request q node).0.out
unfolding node_after_request
delivered_messages q node inside is fits =
    each_append (MessageFits node.chip) (node.out ++ (after_snoop node.chip node.tile node.side node.delivered q).sends) (answered q node.records).sends
    (each_append (MessageFits node.chip) node.out (after_snoop node.chip node.tile node.side node.delivered q).sends fits (snooped_sends node.chip node.tile node.side node.delivered q inside is))
    (answered_sends node.chip q node.records inside)

data_sends : (chip : Chip) (side : CacheSide) (words : List ℕ) (demand : Demand) (place : Option ℕ) → demand.line < chip.lines → AreInside chip demand.list → AllFit chip (data_at chip side words demand place).sends
data_sends chip side words demand (Some place) below inside = completed_sends chip demand place words side below inside
data_sends chip side words demand None below inside = _

words_sends : (chip : Chip) (side : CacheSide) (words : List ℕ) (entry : Option Demand) → side.misses.demand ≡ entry → SendsFit chip side → AllFit chip (data_for chip side words entry).sends
words_sends chip side words None stands is = _
words_sends chip side words (Some demand) stands is = data_sends chip side words demand demand.ordered (is.demand demand stands) (is.list demand stands)

kind_messages : (msg : Msg) (node : Node) (kind : MsgKind) → msg.line < node.chip.lines → SendsFit node.chip node.side
    → ((r : LineRecord) → slice_index_or node.records msg.line None ≡ Some r → AreInside node.chip r.waiters) → AllFit node.chip node.out → AllFit node.chip (arrived_as msg node kind).0.out
unfolding after_data back_arrived
kind_messages msg node Data below is waiters fits =
    each_append (MessageFits node.chip) node.out (after_data node.chip node.side msg.words).sends fits (words_sends node.chip node.side msg.words node.side.misses.demand refl is)
kind_messages msg node Back below is waiters fits =
    each_append (MessageFits node.chip) node.out (back_arrived msg.line msg.words node.records).sends fits
    (back_sends node.chip msg.line msg.words node.records (slice_index_or node.records msg.line None) below waiters)

pub arrived_messages : (msg : Msg) (node : Node) → msg.line < node.chip.lines → SendsFit node.chip node.side
    → ((r : LineRecord) → slice_index_or node.records msg.line None ≡ Some r → AreInside node.chip r.waiters) → AllFit node.chip node.out → AllFit node.chip (node_after_message msg node).0.out
unfolding node_after_message
arrived_messages msg node below is waiters fits = kind_messages msg node msg.kind below is waiters fits

pub sent_messages : (node : Node) → AllFit node.chip node.out → AllFit node.chip (after_message_sent node).out
unfolding after_message_sent
sent_messages node fits = each_drop (MessageFits node.chip) 1 node.out fits
