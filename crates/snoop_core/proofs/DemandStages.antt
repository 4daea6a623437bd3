-- A demand goes from stage to stage: what of its shape its access decides stays.
use Rattle.std.proofs.Common.{◌≡◌, ℕ, Bool, true, false, Option, None, List, []}
use Rattle.std.specs.Prelude.{is_some}
use Rattle.mesh_gen.specs.declared.kind.Kind.TheVariants.{GetS, GetM}
use Rattle.chip_model.specs.declared.waiting.Waiting.{Waiting}
use Rattle.chip_model.specs.Chip.{Chip}
use Rattle.chip_model.specs.Cache.{Cache, lookup}
use Rattle.chip_model.specs.Misses.{Demand, ends_in_getm}
use Rattle.chip_model.specs.Ownership.{is_owned_copy}
use Rattle.chip_model.specs.NodeShape.{DemandFits}

-- the shape of a demand, by what the new stage has to show of it
pub staged : (chip : Chip) (cache : Cache) (demand : Demand) (sent once : Bool) (ordered : Option ℕ) (early : Option (List ℕ)) (list : List Waiting) → DemandFits chip cache demand
    → (is_some ordered ≡ true → is_owned_copy (lookup chip cache demand.line) ≡ false)
    → (sent ≡ false → (ordered ≡ None) × (early ≡ None))
    → (is_some ordered ≡ true → early ≡ None)
    → (ordered ≡ None → (list ≡ []) × (once ≡ false))
    → (demand.kind ≡ GetS → list ≡ [])
    → (demand.kind ≡ GetM → once ≡ false)
    → (ends_in_getm list ≡ true → lookup chip cache demand.line ≡ None)
    → DemandFits chip cache (record demand { sent = sent; once = once; ordered = ordered; early = early; list = list })
staged chip cache demand sent once ordered early list is unowned unsent waits unordered reads writes gone = record {
  asks = is.asks;
  line = is.line;
  room = is.room;
  unmodified = is.unmodified;
  absent = is.absent;
  unowned = unowned;
  unsent = unsent;
  waits = waits;
  unordered = unordered;
  reads = reads;
  writes = writes;
  gone = gone;
}
