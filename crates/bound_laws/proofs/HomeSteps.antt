-- What a step of a memory controller does to what it has still to send: a get adds one answer where the memory owns its
-- line, and words that come back go to those that wait for them.
use Rattle.std.proofs.Common.{◌≡◌, ℕ, ◌+◌, ◌<◌, ◌≤◌, cond, List, [], ◌∷◌, ◌++◌, Option, Some, None, refl, arith}
use Rattle.std.specs.Prelude.{slice_index_or, ◌==◌}
use Rattle.std.specs.List.{sum_by}
use Rattle.std.proofs.lemmas.Bool.{cond_both}
use Rattle.std.proofs.lemmas.List.Sums.{sum_by_push}
use Rattle.mesh_gen.specs.declared.kind.Kind.{Kind}
use Rattle.mesh_gen.specs.declared.kind.Kind.TheVariants.{GetS, GetM, PutM}
use Rattle.mesh_gen.specs.declared.request.Request.{Request}
use Rattle.mesh_gen.specs.Grid.{Grid, distance}
use Rattle.mesh_gen.specs.Routes.{HasTiles}
use Rattle.chip_model.specs.declared.owner.Owner.{Owner}
use Rattle.chip_model.specs.declared.owner.Owner.TheVariants.{Memory, Tile}
use Rattle.chip_model.specs.declared.waiting.Waiting.{Waiting}
use Rattle.chip_model.specs.Chip.{Chip, tile_count}
use Rattle.chip_model.specs.Records.{LineRecord, Records, Answer, Answers, from_memory, awaiting_write_back, owned_by_tile, answered_by, answered_at, answered, returned, returned_at, back_arrived}
use Rattle.chip_laws.proofs.SupplyAccounts.{is_memory, is_from_memory}
use Rattle.chip_laws.proofs.SupplyCounts.{sum_by-set, slice_of_index}
use Rattle.bound_laws.specs.Measure.{per_answer, sends_to_go, promises_to_go, record_promises}
use Rattle.bound_laws.proofs.SideSteps.{near, sent_to_all}

-- where a controller stands and who asks
record Asks (chip : Chip) (t : ℕ) (q : Request) : Type 0 where
  tiles : HasTiles chip.grid
  tile : t < tile_count chip
  source : q.source < tile_count chip

-- an answer to a get
abbrev pub home_price : Chip → Kind → ℕ
home_price chip GetS = per_answer chip
home_price chip GetM = per_answer chip
home_price chip PutM = 0

abbrev AnswerGrows : Chip → ℕ → LineRecord → Answer → ℕ → Type 0
AnswerGrows chip t r answer more =
    promises_to_go chip.grid t answer.left.waiters + sends_to_go chip.grid t answer.sends ≤ promises_to_go chip.grid t r.waiters + more

memory_answers : (chip : Chip) (t : ℕ) (q : Request) (r : LineRecord) (kind : Kind) → Asks chip t q
    → AnswerGrows chip t r (from_memory q r kind) (home_price chip kind)
memory_answers chip t q r GetS asks = let far = near chip t q.source asks.tiles asks.tile asks.source in omega arith
memory_answers chip t q r GetM asks = let far = near chip t q.source asks.tiles asks.tile asks.source in omega arith
memory_answers chip t q r PutM asks = omega arith

one_more : (chip : Chip) (t : ℕ) (q : Request) (r : LineRecord) → Asks chip t q
    → promises_to_go chip.grid t (r.waiters ++ record { tile = q.source; kind = q.kind } ∷ []) ≤ promises_to_go chip.grid t r.waiters + per_answer chip
one_more chip t q r asks =
    let waiting : Waiting = record { tile = q.source; kind = q.kind } in
    let far = near chip t q.source asks.tiles asks.tile asks.source in
    omega (arith, sum_by_push (λ (waiting : Waiting). 2 + distance chip.grid t waiting.tile) r.waiters waiting)

waiting_answers : (chip : Chip) (t : ℕ) (q : Request) (r : LineRecord) (kind : Kind) → Asks chip t q
    → AnswerGrows chip t r (awaiting_write_back q r kind) (home_price chip kind)
waiting_answers chip t q r GetS asks = let more = one_more chip t q r asks in omega arith
waiting_answers chip t q r GetM asks = let more = one_more chip t q r asks in omega arith
waiting_answers chip t q r PutM asks = omega arith

tile_answers : (chip : Chip) (t : ℕ) (q : Request) (r : LineRecord) (tile : ℕ) (kind : Kind) → AnswerGrows chip t r (owned_by_tile q r tile kind) 0
tile_answers chip t q r tile GetS = omega arith
tile_answers chip t q r tile GetM = omega arith
tile_answers chip t q r tile PutM =
    cond_both (tile == q.source) (record r { owner = Memory }) r
    (λ (left : LineRecord). promises_to_go chip.grid t left.waiters + 0 ≤ promises_to_go chip.grid t r.waiters + 0)
    (λ own. omega arith) (λ other. omega arith)

record_answers : (chip : Chip) (t : ℕ) (q : Request) (r : LineRecord) (owner : Owner) → Asks chip t q
    → AnswerGrows chip t r (answered_by q r owner) (cond (is_memory owner) (home_price chip q.kind) 0)
record_answers chip t q r Memory asks =
    cond_both r.fresh (from_memory q r q.kind) (awaiting_write_back q r q.kind) (λ (answer : Answer). AnswerGrows chip t r answer (home_price chip q.kind))
    (λ fresh. memory_answers chip t q r q.kind asks) (λ late. waiting_answers chip t q r q.kind asks)
record_answers chip t q r (Tile tile) asks = tile_answers chip t q r tile q.kind

abbrev pub HomeGrows : Grid → ℕ → Records → Answers → ℕ → Type 0
HomeGrows g t records answers more = sum_by (record_promises g t) answers.records + sends_to_go g t answers.sends ≤ sum_by (record_promises g t) records + more

-- a request is delivered to the controller
pub request_at_home : (chip : Chip) (t : ℕ) (q : Request) (records : Records) → HasTiles chip.grid → t < tile_count chip → q.source < tile_count chip
    → HomeGrows chip.grid t records (answered q records) (cond (is_from_memory (slice_index_or records q.line None)) (home_price chip q.kind) 0)
unfolding answered
request_at_home chip t q records tiles tile source = by (slice_index_or records q.line None) refl
  where
    by : (found : Option LineRecord) → slice_index_or records q.line None ≡ found
        → HomeGrows chip.grid t records (answered_at q records found) (cond (is_from_memory found) (home_price chip q.kind) 0)
    by None is = omega arith
    by (Some r) is =
        let answer = answered_by q r r.owner in
        let change = sum_by-set (record_promises chip.grid t) records q.line (Some r) (Some answer.left) (slice_of_index records q.line r is) in
        let grows = record_answers chip t q r r.owner (record { tiles = tiles; tile = tile; source = source }) in
        omega arith

-- words come back to the controller
pub words_at_home : (g : Grid) (t line : ℕ) (words : List ℕ) (records : Records) → HomeGrows g t records (back_arrived line words records) 0
unfolding back_arrived
words_at_home g t line words records = by (slice_index_or records line None) refl
  where
    by : (found : Option LineRecord) → slice_index_or records line None ≡ found → HomeGrows g t records (returned_at line words records found) 0
    by None is = omega arith
    by (Some r) is =
        let change = sum_by-set (record_promises g t) records line (Some r) (Some (returned words r)) (slice_of_index records line r is) in
        let all = sent_to_all g t line words r.waiters in
        omega arith
