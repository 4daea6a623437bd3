-- The cache side of a tile with the chip that it is part of.
use Rattle.std.specs.Prelude.{ℕ, List, Option, Some, None}
use Rattle.mesh_gen.specs.declared.request.Request.{Request}
use Rattle.chip_model.specs.Chip.{Chip}
use Rattle.chip_model.specs.Cache.{empty_cache}
use Rattle.chip_model.specs.Misses.{Demand, no_misses}
use Rattle.chip_model.specs.Snoop.{CacheSide, Outcome, quiet, holding, snooped_with, words_here, own_get, own_put, completed}

-- the cache side of a tile beside its chip
pub record ChipSide : Type 0 where
  pub chip : Chip
  pub side : CacheSide

-- nothing is in the cache, and nothing is waited for
abbrev pub opening_side : Chip → ChipSide
opening_side chip = record { chip = chip; side = record { cache = empty_cache chip; misses = no_misses } }

-- what a step leaves
abbrev pub after_outcome : Outcome → ChipSide → ChipSide
after_outcome outcome site = record site { side = outcome.side }

-- the request of another tile meets what is here for its line
abbrev pub met_by : Request → ChipSide → Outcome
met_by q site = snooped_with site.chip q site.side (holding site.chip site.side q.line) q.kind

-- the demand that stands is ordered at a place and completes with these words
abbrev pub completion_of : Option Demand → ℕ → List ℕ → ChipSide → Outcome
completion_of None place words site = quiet site.side
completion_of (Some demand) place words site = completed site.chip demand place words site.side

-- the completion of the demand that stands
abbrev pub completion : ℕ → List ℕ → ChipSide → Outcome
completion place words site = completion_of site.side.misses.demand place words site

-- the words that are here for the demand that stands
abbrev pub words_for : Option Demand → ChipSide → Option (List ℕ)
words_for None site = None
words_for (Some demand) site = words_here site.chip site.side demand demand.early

-- the node's own get and its own put are delivered
abbrev pub own_get_at : ℕ → ChipSide → Outcome
own_get_at place site = own_get site.chip site.side place site.side.misses.demand

-- the node's own write-back is delivered
abbrev pub own_put_of : ChipSide → Outcome
own_put_of site = own_put site.chip site.side site.side.misses.back
