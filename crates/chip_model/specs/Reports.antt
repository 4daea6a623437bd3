-- The report of a state.
use Rattle.std.specs.Prelude.{ℕ, List, [], map, flat_map, length, Bool, Option, Some, None, if◌then◌else◌, slice_index_or, slice_get, unwrap_or, option_map}
use Rattle.order_tracker.specs.Order.{upwards}
use Rattle.report_text.specs.declared.report.Report.{Report}
use Rattle.report_text.specs.declared.finish.Finish.TheVariants.{Finished, Budget}
use Rattle.doc_text.specs.Doc.{Doc}
use Rattle.chip_model.specs.declared.owner.Owner.{Owner}
use Rattle.chip_model.specs.declared.owner.Owner.TheVariants.{Memory, Tile}
use Rattle.chip_model.specs.Chip.{Chip, home, chip_of}
use Rattle.chip_model.specs.Cache.{Held, lookup}
use Rattle.chip_model.specs.Records.{LineRecord}
use Rattle.chip_model.specs.Units.{UnitState}
use Rattle.chip_model.specs.ChipState.{ChipState, finished}
use Rattle.chip_model.specs.Ownership.{owner}
use Rattle.chip_model.specs.Witness.{witness}

-- the words of a copy, where there is one
abbrev pub words_held : Option Held → List ℕ
words_held None = []
words_held (Some held) = held.words

-- the words of a record, where there is one
abbrev pub words_recorded : Option LineRecord → List ℕ
words_recorded None = []
words_recorded (Some r) = r.words

-- the words of a line where its owner keeps them: a tile in its cache, the memory in the record of the line's home
abbrev pub words_of_owner : Chip → ChipState → ℕ → Owner → List ℕ
words_of_owner chip s line (Tile t) =
    unwrap_or (option_map (λ (unit : UnitState). words_held (lookup chip unit.node.side.cache line)) (slice_get s.units t)) []
words_of_owner chip s line Memory =
    unwrap_or (option_map (λ (unit : UnitState). words_recorded (slice_index_or unit.node.records line None)) (slice_get s.units (home chip line))) []

-- the words of a line at the end
abbrev pub final_words : Chip → ChipState → ℕ → List ℕ
final_words chip s line = words_of_owner chip s line (owner line s.network.ordered)

-- the words of all lines in a finished state
abbrev pub final_memory : Doc → ChipState → List ℕ
final_memory d s = flat_map (final_words (chip_of d) s) (upwards 0 d.lines)

-- the report of a state that ended so
abbrev pub report_with : Doc → ChipState → Bool → Report
report_with d s is_finished = record {
  requests = s.network.ordered;
  seen = map (λ (unit : UnitState). unit.node.delivered) s.units;
  steps = map (λ (unit : UnitState). unit.core.steps) s.units;
  accesses = witness s;
  memory = if is_finished then final_memory d s else [];
  journal = s.journal;
  windows = length s.network.windows.closed;
  hops = s.hops;
  ended = if is_finished then Finished else Budget;
}

-- the report of a state
unfoldable pub report_of : Doc → ChipState → Report
report_of d s = report_with d s (finished s)
