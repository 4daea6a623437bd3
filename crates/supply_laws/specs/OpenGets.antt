-- The gets that are ordered and not complete: what a tile does not do meanwhile, and what its data is.
use Rattle.std.specs.Prelude.{◌≡◌, ℕ, ◌<◌, Some, slice_get}
use Rattle.mesh_gen.specs.declared.kind.Kind.TheVariants.{PutM}
use Rattle.mesh_gen.specs.declared.msg.Msg.{Msg}
use Rattle.mesh_gen.specs.declared.msg_kind.MsgKind.TheVariants.{Data}
use Rattle.mesh_gen.specs.declared.request.Request.{Request}
use Rattle.vc_bank.specs.Places.{at}
use Rattle.chip_model.specs.Units.{UnitState}
use Rattle.chip_model.specs.ChipState.{ChipState}
use Rattle.doc_text.specs.Doc.{Doc}
use Rattle.chip_model.specs.Chip.{chip_of}
use Rattle.chip_model.specs.Suppliers.{place_of_get, OneToCome, GetsWait}

-- a tile does not write a line back after a get of its own for that line which is not complete
abbrev pub NoneWritesBackBefore : ChipState → Type 0
NoneWritesBackBefore s = (g place : ℕ) (get put : Request) (unit : UnitState) → slice_get s.network.ordered g ≡ Some get
    → slice_get s.units get.source ≡ Some unit → place_of_get s unit.node ≡ Some g
    → g < place → slice_get s.network.ordered place ≡ Some put → put.kind ≡ PutM → put.source ≡ get.source → put.line ≡ get.line → ⊥

-- a tile waits for a get of this line, which is ordered
pub record WaitsFor (s : ChipState) (t line : ℕ) : Type 0 where
  pub unit : UnitState
  pub unit_at : slice_get s.units t ≡ Some unit
  pub place : ℕ
  pub waits : place_of_get s unit.node ≡ Some place
  pub get : Request
  pub get_at : slice_get s.network.ordered place ≡ Some get
  pub same : get.line ≡ line

-- data in a queue or in a channel is for a tile that waits for a get of its line
pub record DataAnswersGets (s : ChipState) : Type 0 where
  pub queued : (u place : ℕ) (unit : UnitState) (msg : Msg) → slice_get s.units u ≡ Some unit
      → slice_get unit.node.out place ≡ Some msg → msg.kind ≡ Data → WaitsFor s msg.to msg.line
  pub carried : (router port slot : ℕ) (msg : Msg) → at s.replies router port slot ≡ Some msg
      → msg.kind ≡ Data → WaitsFor s msg.to msg.line

-- of each tile no get but the one for which it waits is to come to its supplier
abbrev pub EachHasOneToCome : Doc → ChipState → Type 0
EachHasOneToCome d s = (t : ℕ) (unit : UnitState) → slice_get s.units t ≡ Some unit → OneToCome (chip_of d) s t unit.node

-- the gets of each line wait for those that are to be answered before them
abbrev pub AllGetsWait : ChipState → Type 0
AllGetsWait s = (line : ℕ) → GetsWait s line
