-- Before any event memory has the words of the document, which are the values of all lines there.
use Rattle.std.proofs.Common.{◌≡◌, ℕ, zero, suc, ◌+◌, Bool, true, false, cond, List, [], map, refl, sym, ◌∙◌, ap, subst, arith, Some, None}
use Rattle.std.specs.Prelude.{◌==◌, slice_index_or}
use Rattle.std.proofs.lemmas.Bool.{false≢true}
use Rattle.std.proofs.lemmas.Option.{same_Some}
use Rattle.order_tracker.specs.Order.{upwards}
use Rattle.mesh_gen.specs.Grid.{tiles}
use Rattle.doc_text.specs.Doc.{Doc}
use Rattle.chip_model.specs.Chip.{Chip, chip_of, home}
use Rattle.chip_model.specs.Records.{LineRecord, opening_record}
use Rattle.chip_model.specs.Node.{words_at, record_at}
use Rattle.chip_model.specs.Units.{UnitState}
use Rattle.chip_model.specs.ChipState.{opening}
use Rattle.chip_model.specs.NodeShape.{is_modified}
use Rattle.chip_model.specs.Witness.{line_value}
use Rattle.chip_model.specs.Writers.{IsSettled}
use Rattle.chip_model.specs.Values.{HasValue, RecordHasValue, NodeHasValues, ValuesHold}
use Rattle.vc_bank.proofs.PlaceLaws.{at-empty}
use Rattle.snoop_core.proofs.Opened.{lookup-empty}
use Rattle.chip_laws.proofs.Options.{none_some}
use Rattle.chip_laws.proofs.Opening.{new_unit, opened_unit}

-- ---- records
record_is : (chip : Chip) (tile : ℕ) (memory : List ℕ) (line : ℕ) (r : LineRecord) → record_at chip tile memory line ≡ Some r
    → r ≡ opening_record (words_at memory line)
record_is chip tile memory line r at = by (home chip line == tile) at where
  by : (here : Bool) → cond here (Some (opening_record (words_at memory line))) None ≡ Some r → r ≡ opening_record (words_at memory line)
  by true is = sym (same_Some (opening_record (words_at memory line)) r is)
  by false is = none_some r is

record_from : (chip : Chip) (tile : ℕ) (memory : List ℕ) (first count line : ℕ) (r : LineRecord)
    → slice_index_or (map (record_at chip tile memory) (upwards first count)) line None ≡ Some r → r ≡ opening_record (words_at memory (first + line))
record_from chip tile memory first zero line r at = none_some r at
record_from chip tile memory first (suc count) zero r at =
    let same : first ≡ first + 0 = omega arith in
    subst (λ (m : ℕ). r ≡ opening_record (words_at memory m)) same (record_is chip tile memory first r at)
record_from chip tile memory first (suc count) (suc line) r at =
    let same : first + 1 + line ≡ first + suc line = omega arith in
    subst (λ (m : ℕ). r ≡ opening_record (words_at memory m)) same (record_from chip tile memory (first + 1) count line r at)

-- ---- no tile has a write to come
opened_settled : (d : Doc) (t line : ℕ) → IsSettled [] (new_unit d t).node line 0
opened_settled d t line = record {
  delivered = λ g q less at same kind source. none_some q at;
  demand = λ demand g stands ordered kind same. none_some demand stands;
  modified = λ only. absurd (false≢true (sym (ap is_modified (lookup-empty (chip_of d) line)) ∙ only));
}

opened_value : (d : Doc) (line : ℕ) → HasValue d (opening d) line 0 (words_at d.memory line)
unfolding line_value
opened_value d line = record {
  value = refl;
  settled = λ t unit at. subst (λ (x : UnitState). IsSettled [] x.node line 0) (opened_unit d t unit at) (opened_settled d t line);
}

opened_record : (d : Doc) (t line : ℕ) (r : LineRecord) → slice_index_or (new_unit d t).node.records line None ≡ Some r
    → RecordHasValue d (opening d) (new_unit d t).node line r r.owner
opened_record d t line r at =
    let plain : 0 + line ≡ line = omega arith in
    let is : r ≡ opening_record (words_at d.memory line) =
    subst (λ (m : ℕ). r ≡ opening_record (words_at d.memory m)) plain (record_from (chip_of d) t d.memory 0 (chip_of d).lines line r at) in
    subst (λ (x : LineRecord). RecordHasValue d (opening d) (new_unit d t).node line x x.owner) (sym is) (opened_value d line)

opened_node : (d : Doc) (t : ℕ) → NodeHasValues d (opening d) (new_unit d t).node
opened_node d t = record {
  copies = λ line held there. none_some held (sym (lookup-empty (chip_of d) line) ∙ there);
  back = λ back stands live. none_some back stands;
  early = λ demand words stands early. none_some demand stands;
  out = λ place msg there. none_some msg there;
  records = λ line r there fresh. opened_record d t line r there;
}

pub values_opened : (d : Doc) → ValuesHold d (opening d)
values_opened d = record {
  nodes = λ t unit at. subst (λ (x : UnitState). NodeHasValues d (opening d) x.node) (opened_unit d t unit at) (opened_node d t);
  channels = λ router port slot msg there. none_some msg (sym (at-empty (tiles (chip_of d).grid) d.data_vcs false router port slot) ∙ there);
}
