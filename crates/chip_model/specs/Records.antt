-- The records of a memory controller: for each line whose home it is, who owns the line, the words in memory, whether
-- they are the last ones (fresh), and the tiles that wait for words that are on their way back.
use Rattle.std.specs.Prelude.{ℕ, ◌==◌, Bool, true, false, not, List, [], ◌∷◌, ◌++◌, Option, Some, None, slice_index_or, set, if◌then◌else◌}
use Rattle.std.specs.List.{list_any}
use Rattle.mesh_gen.specs.declared.kind.Kind.{Kind}
use Rattle.mesh_gen.specs.declared.kind.Kind.TheVariants.{GetS, GetM, PutM}
use Rattle.mesh_gen.specs.declared.request.Request.{Request}
use Rattle.mesh_gen.specs.declared.msg.Msg.{Msg}
use Rattle.chip_model.specs.declared.owner.Owner.{Owner}
use Rattle.chip_model.specs.declared.owner.Owner.TheVariants.{Memory, Tile}
use Rattle.chip_model.specs.declared.waiting.Waiting.{Waiting}
use Rattle.chip_model.specs.Misses.{is_getm}
use Rattle.chip_model.specs.Snoop.{data_to, data_to_all}

-- a line at its home: who owns it, memory's words, whether they are the last ones, and who waits for words that are
-- written back
pub record LineRecord : Type 0 where
  pub owner : Owner
  pub words : List ℕ
  pub fresh : Bool
  pub waiters : List Waiting

-- a line of memory that no tile owns
abbrev pub opening_record : List ℕ → LineRecord
opening_record words = record { owner = Memory; words = words; fresh = true; waiters = [] }

-- the records of one controller by the line's number: none where the line's home is another tile
abbrev pub Records : Type 0
Records = List (Option LineRecord)

-- what a step leaves of a record, and the messages that it sends
pub record Answer : Type 0 where
  pub left : LineRecord
  pub sends : List Msg

-- a record that stays, and sends nothing
abbrev pub silent : LineRecord → Answer
silent left = record { left = left; sends = [] }

-- the record with one more that waits
abbrev pub with_waiter : Request → LineRecord → LineRecord
with_waiter q r = record r { waiters = r.waiters ++ record { tile = q.source; kind = q.kind } ∷ [] }

-- memory's words go to the tile that asked
abbrev pub supplied : Request → LineRecord → List Msg
supplied q r = data_to q.source q.line r.words ∷ []

-- the table of the controller: where memory owns the line and has its words; where it owns it and waits for them; and
-- where a tile owns it
abbrev pub from_memory : Request → LineRecord → Kind → Answer
from_memory q r GetS = record { left = r; sends = supplied q r }
from_memory q r GetM = record { left = record r { owner = Tile q.source; fresh = false }; sends = supplied q r }
from_memory q r PutM = silent r

-- a get that comes before the words that are written back waits for them
abbrev pub awaiting_write_back : Request → LineRecord → Kind → Answer
awaiting_write_back q r GetS = silent (with_waiter q r)
awaiting_write_back q r GetM = silent (record (with_waiter q r) { owner = Tile q.source })
awaiting_write_back q r PutM = silent r

-- a request for a line that a tile owns
abbrev pub owned_by_tile : Request → LineRecord → ℕ → Kind → Answer
owned_by_tile q r tile GetS = silent r
owned_by_tile q r tile GetM = silent (record r { owner = Tile q.source })
owned_by_tile q r tile PutM = silent (if tile == q.source then record r { owner = Memory } else r)

-- what a record does at a request, by its owner
abbrev pub answered_by : Request → LineRecord → Owner → Answer
answered_by q r Memory = if r.fresh then from_memory q r q.kind else awaiting_write_back q r q.kind
answered_by q r (Tile tile) = owned_by_tile q r tile q.kind

-- what a controller's records become, and the messages that it sends
pub record Answers : Type 0 where
  pub records : Records
  pub sends : List Msg

-- the same at the record of a line, where it is kept here
abbrev pub answered_at : Request → Records → Option LineRecord → Answers
answered_at q records None = record { records = records; sends = [] }
answered_at q records (Some r) = let answer = answered_by q r r.owner in
    record { records = set records q.line (Some answer.left); sends = answer.sends }

-- at the delivery of a request: nothing where the line's home is another tile
unfoldable pub answered : Request → Records → Answers
answered q records = answered_at q records (slice_index_or records q.line None)

-- the words came back: all that wait get them, and they are the last ones unless one of these is to write
abbrev pub returned : List ℕ → LineRecord → LineRecord
returned words r = record r { words = words; waiters = []; fresh = not (list_any (λ (waiting : Waiting). is_getm waiting.kind) r.waiters) }

-- words that are written back come to a record
abbrev pub returned_at : ℕ → List ℕ → Records → Option LineRecord → Answers
returned_at line words records None = record { records = records; sends = [] }
returned_at line words records (Some r) =
    record { records = set records line (Some (returned words r)); sends = data_to_all line words r.waiters }

-- words that are written back come to the records of a controller
unfoldable pub back_arrived : ℕ → List ℕ → Records → Answers
back_arrived line words records = returned_at line words records (slice_index_or records line None)
