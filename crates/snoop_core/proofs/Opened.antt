-- What holds of a node at the start.
use Rattle.std.proofs.Common.{◌≡◌, ℕ, zero, suc, ◌<◌, false, refl, sym, ◌∙◌, ap, subst, arith, Option, Some, None, List, [], length, replicate, get_or}
use Rattle.std.specs.Prelude.{◌==◌, ◌↔◌, IsSome, is_some, slice_get, slice_index_or}
use Rattle.std.proofs.lemmas.Bool.{eqb-true, eq-eqb, ne_eqb, both_ways}
use Rattle.std.proofs.lemmas.List.{length-replicate}
use Rattle.std.proofs.lemmas.Option.{same_Some}
use Rattle.chip_model.specs.Chip.{Chip, tile_count, home}
use Rattle.chip_model.specs.Cache.{Ways, found, empty_cache, lookup}
use Rattle.chip_model.specs.Records.{LineRecord, Records}
use Rattle.chip_model.specs.Node.{opening_records, opening_node}
use Rattle.chip_model.specs.NodeShape.{IsApart, IsCache, SideFits, NodeFits}
use Rattle.line_cache.proofs.Found.{IsApart-replicate, found-replicate}
use Rattle.mem_ctrl.specs.Owners.{KeepsHomes}
use Rattle.mem_ctrl.proofs.Opened.{opened_homes}
use Rattle.snoop_core.specs.ChipSides.{ChipSide, opening_side}
use Rattle.snoop_core.specs.Nodes.{NodeIsSound}
use Rattle.snoop_core.proofs.NodeSteps.{node_of}

-- ---- an empty cache
empty_set : (sets count k : ℕ) (P : Ways → Type 0) → P [] → P (replicate count None)
    → P (get_or (replicate sets (replicate count None)) k [])
empty_set zero count k P past inside = past
empty_set (suc sets) count zero P past inside = inside
empty_set (suc sets) count (suc k) P past inside = empty_set sets count k P past inside

ways_of_empty : (sets count k : ℕ) (ways : Ways) → slice_get (replicate sets (replicate count None)) k ≡ Some ways → length ways ≡ count
ways_of_empty zero count k ways is = cc
ways_of_empty (suc sets) count zero ways is = ap length (sym (same_Some (replicate count None) ways is)) ∙ length-replicate count None
ways_of_empty (suc sets) count (suc k) ways is = ways_of_empty sets count k ways is

found-empty : (chip : Chip) (line k : ℕ) → found line (get_or (empty_cache chip) k []) ≡ None
found-empty chip line k = empty_set chip.sets chip.ways k (λ ways. found line ways ≡ None) refl (found-replicate line chip.ways)

pub lookup-empty : (chip : Chip) (line : ℕ) → lookup chip (empty_cache chip) line ≡ None
unfolding lookup
lookup-empty chip line = found-empty chip line _

pub IsCache-empty : (chip : Chip) → IsCache chip (empty_cache chip)
IsCache-empty chip = record {
  sets = length-replicate chip.sets (replicate chip.ways None);
  ways = ways_of_empty chip.sets chip.ways;
  apart = λ k. empty_set chip.sets chip.ways k (λ ways. IsApart ways) tt (IsApart-replicate chip.ways);
  placed = λ k line there. absurd (both_ways (is_some (found line (get_or (empty_cache chip) k [])))
      (ap is_some (found-empty chip line k)) there);
}

pub SideFits-opening_side : (chip : Chip) → SideFits chip (opening_side chip).side
SideFits-opening_side chip = record {
  cache = IsCache-empty chip;
  demand = λ demand stands. cc;
  back = λ back stands. cc;
  apart = λ demand back stands write_back_is. cc;
}

-- ---- the records are those of the lines at home here
homes_by : (o : Option LineRecord) (at tile : ℕ) → (IsSome o ↔ (at ≡ tile)) → is_some o ≡ (at == tile)
homes_by None at tile iff = sym (ne_eqb at tile (λ same. both_ways false refl (iff.1 same)))
homes_by (Some r) at tile iff = sym (eq-eqb at tile (iff.0 refl))

pub records_fit : (chip : Chip) (tile : ℕ) (records : Records) → KeepsHomes chip tile records → (line : ℕ) → line < chip.lines
    → is_some (slice_index_or records line None) ≡ (home chip line == tile)
records_fit chip tile records homes line below = homes_by (slice_index_or records line None) (home chip line) tile (homes line below)

pub homes_kept : (chip : Chip) (tile : ℕ) (records : Records) → ((line : ℕ) → line < chip.lines → is_some (get_or records line None) ≡ (home chip line == tile)) → KeepsHomes chip tile records
homes_kept chip tile records fit = λ line below. (
  (λ some. eqb-true (home chip line) tile (sym (fit line below) ∙ some)),
  (λ same. fit line below ∙ eq-eqb (home chip line) tile same),
)

-- ---- a node
pub NodeFits-opened : (chip : Chip) (tile : ℕ) (records : Records) → KeepsHomes chip tile records → NodeFits (node_of (opening_side chip) tile records [] 0)
NodeFits-opened chip tile records homes = record {
  side = SideFits-opening_side chip;
  back = omega arith;
  lines = record {
    cached = λ line there. absurd (both_ways (is_some (lookup chip (empty_cache chip) line)) (ap is_some (lookup-empty chip line)) there);
    demand = λ demand stands. cc;
    back = λ back stands. cc;
    records = records_fit chip tile records homes;
  };
}

pub NodeFits-opening_node : (chip : Chip) (tile : ℕ) (memory : List ℕ) → NodeFits (opening_node chip tile memory)
NodeFits-opening_node chip tile memory =
    NodeFits-opened chip tile (opening_records chip tile memory) (opened_homes chip tile memory (opening_records chip tile memory) refl)

pub NodeIsSound-opening : (chip : Chip) (site : ChipSide) (tile : ℕ) (records : Records) → site ≡ opening_side chip → tile < tile_count chip
    → KeepsHomes chip tile records → NodeIsSound (node_of site tile records [] 0)
NodeIsSound-opening chip site tile records is below homes =
    subst (λ (s : ChipSide). NodeIsSound (node_of s tile records [] 0)) (sym is) (record {
      tile = below;
      fits = NodeFits-opened chip tile records homes;
      placed = λ demand place stands ordered. cc;
    })
