-- When a request waits at its record for words that are on their way back.
use Rattle.std.specs.Prelude.{◌≡◌, ℕ, ◌<◌, false, IsTrue, List, length}
use Rattle.std.specs.List.{list_any}
use Rattle.mesh_gen.specs.declared.request.Request.{Request}
use Rattle.chip_model.specs.declared.owner.Owner.TheVariants.{Memory}
use Rattle.chip_model.specs.declared.waiting.Waiting.{Waiting}
use Rattle.chip_model.specs.Misses.{is_getm, ends_in_getm}
use Rattle.chip_model.specs.Bookkeeping.{is_get}
use Rattle.chip_model.specs.Records.{LineRecord}

-- a get waits where memory owns the line and does not have its words
pub record Waits (q : Request) (r : LineRecord) : Type 0 where
  pub get : IsTrue (is_get q.kind)
  pub owner : r.owner ≡ Memory
  pub words : r.fresh ≡ false

-- where the request is to wait, a place is left, and nobody who waits is to write
pub record TakesRequest (q : Request) (places : ℕ) (r : LineRecord) : Type 0 where
  pub room : Waits q r → length r.waiters < places
  pub readers : Waits q r → ¬ IsTrue (ends_in_getm r.waiters)

-- of the tiles that wait only the last one may be to write
abbrev pub WritesLast : List Waiting → Type 0
WritesLast waiters = list_any (λ (waiting : Waiting). is_getm waiting.kind) waiters ≡ ends_in_getm waiters
