-- What a controller's records say of a line.
use Rattle.std.specs.Prelude.{◌≡◌, ℕ, ◌<◌, ◌↔◌, Bool, List, Option, None, IsSome, slice_index_or, option_map}
use Rattle.mesh_gen.specs.declared.request.Request.{Request}
use Rattle.chip_model.specs.declared.owner.Owner.{Owner}
use Rattle.chip_model.specs.Chip.{Chip, home}
use Rattle.chip_model.specs.Records.{LineRecord, Records}
use Rattle.chip_model.specs.Ownership.{owner_after}

-- the record of a line, and its owner there: none where the line's home is another tile
abbrev pub record_of : Records → ℕ → Option LineRecord
record_of records line = slice_index_or records line None

-- the owner of a line in the records
abbrev pub owner_in : Records → ℕ → Option Owner
owner_in records line = option_map (λ (r : LineRecord). r.owner) (record_of records line)

-- such an owner after one more request
abbrev pub next_owner : ℕ → Request → Option Owner → Option Owner
next_owner line q owner = option_map (λ (before : Owner). owner_after line before q) owner

-- the owner, the words, and whether these are the last ones
abbrev pub told_of : LineRecord → Owner × List ℕ × Bool
told_of r = (r.owner, r.words, r.fresh)

-- the records are of exactly those lines of the chip whose home is this tile
abbrev pub KeepsHomes : Chip → ℕ → Records → Type 0
KeepsHomes chip tile records = (line : ℕ) → line < chip.lines → (IsSome (record_of records line) ↔ (home chip line ≡ tile))
