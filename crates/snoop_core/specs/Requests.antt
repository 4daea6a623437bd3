-- What a request or a message meets at the node to which it is delivered.
use Rattle.std.specs.Prelude.{◌≡◌, ◌≢◌, ◌<◌, ℕ, true, Some, None, length}
use Rattle.mesh_gen.specs.declared.kind.Kind.{Kind}
use Rattle.mesh_gen.specs.declared.kind.Kind.TheVariants.{GetS, GetM, PutM}
use Rattle.mesh_gen.specs.declared.request.Request.{Request}
use Rattle.mesh_gen.specs.declared.msg.Msg.{Msg}
use Rattle.mesh_gen.specs.declared.msg_kind.MsgKind.TheVariants.{Data}
use Rattle.chip_model.specs.Chip.{Chip}
use Rattle.chip_model.specs.Misses.{Demand, WriteBack}
use Rattle.chip_model.specs.Snoop.{CacheSide, OpenWrite, holding}

-- the request is that of the demand, which was sent and is not ordered
pub record IsRequestOf (demand : Demand) (q : Request) : Type 0 where
  pub kind : demand.kind ≡ q.kind
  pub line : demand.line ≡ q.line
  pub sent : demand.sent ≡ true
  pub unordered : demand.ordered ≡ None

-- the request is that of the write-back, which was sent
pub record IsPutOf (back : WriteBack) (q : Request) : Type 0 where
  pub line : back.line ≡ q.line
  pub sent : back.sent ≡ true

-- the demand stands whose request this is
abbrev pub MeetsDemand : CacheSide → Request → Type 0
MeetsDemand side q = (demand : Demand) × (side.misses.demand ≡ Some demand) × IsRequestOf demand q

-- the write-back stands whose request this is
abbrev pub MeetsBack : CacheSide → Request → Type 0
MeetsBack side q = (back : WriteBack) × (side.misses.back ≡ Some back) × IsPutOf back q

-- a get is the request of the demand that stands, and a PutM that of the write-back
abbrev pub MeetsOwn : CacheSide → Request → Kind → Type 0
MeetsOwn side q GetS = MeetsDemand side q
MeetsOwn side q GetM = MeetsDemand side q
MeetsOwn side q PutM = MeetsBack side q

-- a request of the tile itself is the one of what its node waits for
abbrev pub OwnRequestFits : ℕ → CacheSide → Request → Type 0
OwnRequestFits tile side q = q.source ≡ tile → MeetsOwn side q q.kind

-- the words are those for which the demand waits: it was sent, and none came for it
pub record IsAnswerTo (demand : Demand) (msg : Msg) : Type 0 where
  pub line : demand.line ≡ msg.line
  pub sent : demand.sent ≡ true
  pub wordless : demand.early ≡ None

-- a message with data comes for a demand that stands
abbrev pub DataFits : CacheSide → Msg → Type 0
DataFits side msg = msg.kind ≡ Data → (demand : Demand) × (side.misses.demand ≡ Some demand) × IsAnswerTo demand msg

-- one more tile can wait for the ordered store that another tile's request meets
abbrev pub ListHasRoom : ℕ → Chip → ℕ → CacheSide → Request → Type 0
ListHasRoom places chip tile side q = q.source ≢ tile → q.kind ≢ PutM → (demand : Demand) → holding chip side q.line ≡ OpenWrite demand → length demand.list < places
