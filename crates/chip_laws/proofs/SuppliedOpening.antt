-- Before any event no get is made, and nothing is to answer one; and what a chip's invariant says of a tile to which
-- something comes.
use Rattle.std.proofs.Common.{◌≡◌, ℕ, zero, suc, Bool, true, false, cond, List, [], ◌∷◌, map, refl, ap, subst, arith, Some, None}
use Rattle.std.specs.Prelude.{◌==◌, slice_get}
use Rattle.std.specs.List.{sum_by, count_by}
use Rattle.std.proofs.lemmas.List.Sums.{sum_by-cons}
use Rattle.mesh_gen.specs.Ports.{count_if}
use Rattle.order_tracker.specs.Order.{upwards}
use Rattle.doc_text.specs.Doc.{Doc}
use Rattle.chip_model.specs.Chip.{Chip, chip_of, tile_count, home}
use Rattle.chip_model.specs.Records.{opening_record}
use Rattle.chip_model.specs.Node.{words_at, record_at}
use Rattle.chip_model.specs.Units.{UnitState, opening_unit}
use Rattle.chip_model.specs.ChipState.{ChipState, opening, program_of}
use Rattle.chip_model.specs.Bookkeeping.{is_get_of}
use Rattle.chip_model.specs.Suppliers.{places_at, promised_by, data_in_channels, is_data_for, answers_to_come, IsSupplied}
use Rattle.chip_laws.specs.MessageLaws.{MessageLaws}
use Rattle.chip_laws.proofs.Options.{none_some}
use Rattle.chip_laws.proofs.SupplyFrames.{EachIsSupplied}

record_waits : (chip : Chip) (tile : ℕ) (memory : List ℕ) (t line : ℕ) → places_at t (record_at chip tile memory line) ≡ 0
record_waits chip tile memory t line = by (home chip line == tile) where
  by : (b : Bool) → places_at t (cond b (Some (opening_record (words_at memory line))) None) ≡ 0
  by true = refl
  by false = refl

records_wait : (chip : Chip) (tile : ℕ) (memory : List ℕ) (t : ℕ) (lines : List ℕ) → sum_by (places_at t) (map (record_at chip tile memory) lines) ≡ 0
records_wait chip tile memory t [] = refl
records_wait chip tile memory t (line ∷ lines) =
    omega (
      arith,
      sum_by-cons (places_at t) (record_at chip tile memory line) (map (record_at chip tile memory) lines),
      record_waits chip tile memory t line,
      records_wait chip tile memory t lines,
    )

unit_promises : (d : Doc) (tile t : ℕ) → promised_by t (opening_unit (chip_of d) tile (program_of d tile) d.memory) ≡ 0
unit_promises d tile t = omega (arith, records_wait (chip_of d) tile d.memory t (upwards 0 (chip_of d).lines))

units_promise : (d : Doc) (t : ℕ) (tiles : List ℕ) → sum_by (promised_by t) (map (λ tile. opening_unit (chip_of d) tile (program_of d tile) d.memory) tiles) ≡ 0
units_promise d t [] = refl
units_promise d t (tile ∷ tiles) =
    omega (
      arith,
      sum_by-cons (promised_by t) (opening_unit (chip_of d) tile (program_of d tile) d.memory) (map (λ tile. opening_unit (chip_of d) tile (program_of d tile) d.memory) tiles),
      unit_promises d tile t,
      units_promise d t tiles,
    )

opening_answers : MessageLaws → (d : Doc) (t : ℕ) → answers_to_come (chip_of d) (opening d) t ≡ 0
opening_answers messages d t =
    let channels : data_in_channels (opening d) t ≡ 0 = messages.none (λ msg. count_if (is_data_for t msg)) (chip_of d).grid d.data_vcs in
    omega (arith, units_promise d t (upwards 0 (tile_count (chip_of d))), channels)

one_of : (d : Doc) (s : ChipState) (t : ℕ) (tiles : List ℕ) (k : ℕ) (unit : UnitState) → s.network.ordered ≡ [] → answers_to_come (chip_of d) s t ≡ 0
    → slice_get (map (λ tile. opening_unit (chip_of d) tile (program_of d tile) d.memory) tiles) k ≡ Some unit → IsSupplied (chip_of d) s t unit.node
one_of d s t [] k unit order none at = none_some unit at
one_of d s t (tile ∷ tiles) zero unit order none at =
    let is : opening_unit (chip_of d) tile (program_of d tile) d.memory ≡ unit = cc in
    subst (λ (u : UnitState). IsSupplied (chip_of d) s t u.node) is
    (let left : count_by (is_get_of t) s.network.ordered ≡ 0 = ap (count_by (is_get_of t)) order in omega (arith, none, left))
one_of d s t (tile ∷ tiles) (suc k) unit order none at = one_of d s t tiles k unit order none at

-- before any event
pub supplied_opening : MessageLaws → (d : Doc) → EachIsSupplied (chip_of d) (opening d)
supplied_opening messages d t unit at = one_of d (opening d) t (upwards 0 (tile_count (chip_of d))) t unit refl (opening_answers messages d t) at
