-- Before any event memory owns each line and has its words, and none are written back.
use Rattle.std.proofs.Common.{◌≡◌, ℕ, zero, suc, Bool, true, false, cond, List, [], ◌∷◌, map, refl, sym, ◌∙◌, ap, subst, arith, Some, None}
use Rattle.std.specs.Prelude.{◌==◌, slice_get, slice_index_or}
use Rattle.std.specs.List.{sum_by}
use Rattle.std.proofs.lemmas.Bool.{false≢true}
use Rattle.std.proofs.lemmas.List.Sums.{sum_by-cons}
use Rattle.std.proofs.lemmas.Option.{same_Some}
use Rattle.mesh_gen.specs.Ports.{count_if}
use Rattle.order_tracker.specs.Order.{upwards}
use Rattle.doc_text.specs.Doc.{Doc}
use Rattle.chip_model.specs.declared.owner.Owner.TheVariants.{Memory}
use Rattle.chip_model.specs.Chip.{Chip, chip_of, tile_count, home}
use Rattle.chip_model.specs.Records.{LineRecord, opening_record}
use Rattle.chip_model.specs.Node.{Node, words_at, record_at, opening_node}
use Rattle.chip_model.specs.Units.{UnitState, opening_unit}
use Rattle.chip_model.specs.ChipState.{opening, program_of}
use Rattle.chip_model.specs.Suppliers.{is_back_for, is_fresh_by, waiters_after, last_written_back, RecordsAreFresh, WaitersAreGets}
use Rattle.chip_laws.specs.MessageLaws.{MessageLaws}
use Rattle.chip_laws.proofs.Options.{none_some}
use Rattle.supply_laws.specs.HomeParts.{WordsReachMemory, HomesHold}
use Rattle.supply_laws.proofs.WordsDue.{due, backs_by, backs_in_channels}

-- ---- no words are due
queues_none : (d : Doc) (line : ℕ) (tiles : List ℕ) → sum_by (backs_by line) (map (λ tile. opening_unit (chip_of d) tile (program_of d tile) d.memory) tiles) ≡ 0
queues_none d line [] = refl
queues_none d line (tile ∷ tiles) =
    omega (
      arith,
      sum_by-cons (backs_by line) (opening_unit (chip_of d) tile (program_of d tile) d.memory) (map (λ tile. opening_unit (chip_of d) tile (program_of d tile) d.memory) tiles),
      queues_none d line tiles,
    )

due_none : MessageLaws → (d : Doc) (line : ℕ) → due (opening d) line ≡ 0
due_none messages d line =
    let channels : backs_in_channels (opening d) line ≡ 0 = messages.none (λ msg. count_if (is_back_for line msg)) (chip_of d).grid d.data_vcs in
    omega (arith, queues_none d line (upwards 0 (tile_count (chip_of d))), channels)

pub memory_opened : MessageLaws → (d : Doc) → WordsReachMemory (opening d)
memory_opened messages d line = record {
  once = omega (arith, due_none messages d line);
  last = λ some. absurd (omega (arith, some, due_none messages d line));
  undelivered = λ place writes waits. absurd (false≢true writes);
}

-- ---- the records
record IsOpening (r : LineRecord) : Type 0 where
  pub owner : r.owner ≡ Memory
  pub fresh : r.fresh ≡ true
  pub waiters : r.waiters ≡ []

record_opens : (chip : Chip) (tile : ℕ) (memory : List ℕ) (line : ℕ) (r : LineRecord) → record_at chip tile memory line ≡ Some r → IsOpening r
record_opens chip tile memory line r at = by (home chip line == tile) at where
  by : (here : Bool) → cond here (Some (opening_record (words_at memory line))) None ≡ Some r → IsOpening r
  by true is = record {
    owner = sym (ap (λ (x : LineRecord). x.owner) (same_Some (opening_record (words_at memory line)) r is));
    fresh = sym (ap (λ (x : LineRecord). x.fresh) (same_Some (opening_record (words_at memory line)) r is));
    waiters = sym (ap (λ (x : LineRecord). x.waiters) (same_Some (opening_record (words_at memory line)) r is));
  }
  by false is = none_some r is

records_open : (chip : Chip) (tile : ℕ) (memory : List ℕ) (lines : List ℕ) (line : ℕ) (r : LineRecord) → slice_index_or (map (record_at chip tile memory) lines) line None ≡ Some r → IsOpening r
records_open chip tile memory [] line r at = none_some r at
records_open chip tile memory (first ∷ lines) zero r at = record_opens chip tile memory first r at
records_open chip tile memory (first ∷ lines) (suc line) r at = records_open chip tile memory lines line r at

node_fresh : (d : Doc) (tile : ℕ) → RecordsAreFresh (opening d) (opening_node (chip_of d) tile d.memory)
node_fresh d tile line r at =
    let is = records_open (chip_of d) tile d.memory (upwards 0 (chip_of d).lines) line r at in
    is.fresh ∙ sym (ap (is_fresh_by (opening d) (opening_node (chip_of d) tile d.memory) line) is.owner)

node_waiters : (d : Doc) (tile : ℕ) → WaitersAreGets (opening d) (opening_node (chip_of d) tile d.memory)
node_waiters d tile line r at =
    let is = records_open (chip_of d) tile d.memory (upwards 0 (chip_of d).lines) line r at in
    is.waiters ∙ sym (ap (λ (b : Bool). cond b [] (waiters_after (opening d) (opening_node (chip_of d) tile d.memory) line (last_written_back line []))) is.fresh)

-- each unit has an opening node
of_unit : (d : Doc) (P : Node → Type 0) → ((tile : ℕ) → P (opening_node (chip_of d) tile d.memory)) → (tiles : List ℕ) (t : ℕ) (unit : UnitState)
    → slice_get (map (λ tile. opening_unit (chip_of d) tile (program_of d tile) d.memory) tiles) t ≡ Some unit → P unit.node
of_unit d P each [] t unit at = none_some unit at
of_unit d P each (tile ∷ tiles) zero unit at =
    subst (λ (u : UnitState). P u.node) (same_Some (opening_unit (chip_of d) tile (program_of d tile) d.memory) unit at) (each tile)
of_unit d P each (tile ∷ tiles) (suc t) unit at = of_unit d P each tiles t unit at

pub homes_opened : (d : Doc) → HomesHold (opening d)
homes_opened d = record {
  fresh = of_unit d (RecordsAreFresh (opening d)) (node_fresh d) (upwards 0 (tile_count (chip_of d)));
  waiters = of_unit d (WaitersAreGets (opening d)) (node_waiters d) (upwards 0 (tile_count (chip_of d)));
}
