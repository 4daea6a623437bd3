-- The law of line values: every copy of a line, wherever it is, has the value that the line has at a place of the global
-- order, and no write that would change that value is still to come.
use Rattle.std.specs.Prelude.{◌≡◌, ℕ, true, List, Option, Some, None, slice_get, slice_index_or, if◌then◌else◌}
use Rattle.mesh_gen.specs.declared.msg.Msg.{Msg}
use Rattle.mesh_gen.specs.declared.msg_kind.MsgKind.{MsgKind}
use Rattle.mesh_gen.specs.declared.msg_kind.MsgKind.TheVariants.{Data, Back}
use Rattle.mesh_gen.specs.declared.request.Request.{Request}
use Rattle.vc_bank.specs.Places.{at}
use Rattle.doc_text.specs.Doc.{Doc}
use Rattle.chip_model.specs.declared.line_state.State.{State}
use Rattle.chip_model.specs.declared.line_state.State.TheVariants.{M, O, S}
use Rattle.chip_model.specs.declared.owner.Owner.{Owner}
use Rattle.chip_model.specs.declared.owner.Owner.TheVariants.{Memory, Tile}
use Rattle.chip_model.specs.Cache.{Held, lookup}
use Rattle.chip_model.specs.Misses.{Demand, WriteBack}
use Rattle.chip_model.specs.Records.{LineRecord}
use Rattle.chip_model.specs.Node.{Node}
use Rattle.chip_model.specs.Units.{UnitState}
use Rattle.chip_model.specs.ChipState.{ChipState}
use Rattle.chip_model.specs.Witness.{line_value}
use Rattle.chip_model.specs.Suppliers.{place_of_get, last_written_back, next_written_back}
use Rattle.chip_model.specs.Writers.{is_ordered_write, AllSettled, OthersSettled, time_of_place}

-- words that are the value of a line at a place, which no write to come changes
pub record HasValue (d : Doc) (s : ChipState) (line place : ℕ) (words : List ℕ) : Type 0 where
  pub value : words ≡ line_value d s.accesses line place
  pub settled : AllSettled s line place

-- the same of the only valid copy: its own tile may write it
pub record HasOwnValue (d : Doc) (s : ChipState) (tile line place : ℕ) (words : List ℕ) : Type 0 where
  pub value : words ≡ line_value d s.accesses line place
  pub settled : OthersSettled s line place tile

-- the place of an ordered demand
abbrev pub place_of_demand : Option Demand → ℕ → ℕ
place_of_demand None other = other
place_of_demand (Some demand) other = time_of_place demand.ordered other

-- the place at which a copy in S has its value: the delivered count, and the place of the node's own demand to write the
-- line where that is ordered
abbrev pub place_of_shared : Node → ℕ → ℕ
place_of_shared node line =
    if is_ordered_write line node.side.misses.demand then place_of_demand node.side.misses.demand node.delivered else node.delivered

-- a copy has its value, by its state
abbrev pub CopyHasValue : Doc → ChipState → Node → ℕ → Held → State → Type 0
CopyHasValue d s node line held M = HasOwnValue d s node.tile line node.delivered held.words
CopyHasValue d s node line held O = HasValue d s line node.delivered held.words
CopyHasValue d s node line held S = HasValue d s line (place_of_shared node line) held.words

-- words that answer a tile's get are of the line that it is for, and have its value at the get's place
pub record AnswersGet (d : Doc) (s : ChipState) (node : Node) (line : ℕ) (words : List ℕ) : Type 0 where
  pub place : ℕ
  pub request : Request
  pub get : place_of_get s node ≡ Some place
  pub at : slice_get s.network.ordered place ≡ Some request
  pub line_is : request.line ≡ line
  pub value : HasValue d s line place words

-- words that reach memory have the line's value at the place of the request that wrote it back
pub record ComesFromWriteBack (d : Doc) (s : ChipState) (line : ℕ) (words : List ℕ) : Type 0 where
  pub place : ℕ
  pub put : last_written_back line s.network.ordered ≡ Some place
  pub value : HasValue d s line place words

-- the words of a message have their value, by its kind
abbrev pub MessageHasValue : Doc → ChipState → Msg → MsgKind → Type 0
MessageHasValue d s msg Data = (unit : UnitState) → slice_get s.units msg.to ≡ Some unit → AnswersGet d s unit.node msg.line msg.words
MessageHasValue d s msg Back = ComesFromWriteBack d s msg.line msg.words

-- a fresh record has the line's value at the home's count where the memory owns the line, and else at the place of the
-- next request that gives it back
abbrev pub RecordHasValue : Doc → ChipState → Node → ℕ → LineRecord → Owner → Type 0
RecordHasValue d s node line r Memory = HasValue d s line node.delivered r.words
RecordHasValue d s node line r (Tile t) = (place : ℕ) → next_written_back s line node.delivered ≡ Some place → HasValue d s line place r.words

-- everything that a node has of lines has its value
pub record NodeHasValues (d : Doc) (s : ChipState) (node : Node) : Type 0 where
  pub copies : (line : ℕ) (held : Held) → lookup node.chip node.side.cache line ≡ Some held → CopyHasValue d s node line held held.state
  pub back : (back : WriteBack) → node.side.misses.back ≡ Some back → back.live ≡ true → HasValue d s back.line node.delivered back.words
  pub early : (demand : Demand) (words : List ℕ) → node.side.misses.demand ≡ Some demand → demand.early ≡ Some words → AnswersGet d s node demand.line words
  pub out : (place : ℕ) (msg : Msg) → slice_get node.out place ≡ Some msg → MessageHasValue d s msg msg.kind
  pub records : (line : ℕ) (r : LineRecord) → slice_index_or node.records line None ≡ Some r → r.fresh ≡ true → RecordHasValue d s node line r r.owner

-- the law of line values
pub record ValuesHold (d : Doc) (s : ChipState) : Type 0 where
  pub nodes : (t : ℕ) (unit : UnitState) → slice_get s.units t ≡ Some unit → NodeHasValues d s unit.node
  pub channels : (router port slot : ℕ) (msg : Msg) → at s.replies router port slot ≡ Some msg → MessageHasValue d s msg msg.kind
