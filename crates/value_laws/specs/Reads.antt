-- What reads received, and with it all that the accesses of a chip rest on.
use Rattle.std.specs.Prelude.{◌≡◌, ℕ, true, filter, Some, slice_get, slice_index}
use Rattle.report_text.specs.declared.access.Access.{Access}
use Rattle.report_text.specs.Accesses.{reads, read_by}
use Rattle.doc_text.specs.Doc.{Doc}
use Rattle.flat_ref.specs.Order.{last_written}
use Rattle.chip_model.specs.Chip.{line_of}
use Rattle.chip_model.specs.ChipState.{ChipState}
use Rattle.chip_model.specs.Witness.{is_before, in_sequence}
use Rattle.chip_model.specs.Writers.{OthersSettled}
use Rattle.chip_model.specs.ChipInvariant.{InOrderChipHolds}
use Rattle.value_laws.specs.CoreRuns.{CoresRun}

-- an access received the value of the last write to its address before it in sequence, or else the word of the document's
-- memory; and no write of another tile that is still to come stands before it
pub record ReadHolds (d : Doc) (s : ChipState) (a : Access) : Type 0 where
  pub value : read_by a ≡ last_written a.address (slice_index d.memory a.address) (filter (λ b. is_before b a) (in_sequence s.accesses))
  pub settled : OthersSettled s (line_of a.address) a.time a.tile

-- that holds of each access that reads
abbrev pub ReadsHold : Doc → ChipState → Type 0
ReadsHold d s = (place : ℕ) (a : Access) → slice_get s.accesses place ≡ Some a → reads a.kind ≡ true → ReadHolds d s a

-- of a chip of in-order cores: its invariant, and what its accesses say of each core and of what was read
pub record AccessesHold (d : Doc) (s : ChipState) : Type 0 where
  pub chip : InOrderChipHolds d s
  pub cores : CoresRun s
  pub reads : ReadsHold d s
