-- The records at the start.
use Rattle.std.proofs.Common.{◌≡◌, ℕ, zero, suc, ◌+◌, ◌<◌, refl, sym, ◌∙◌, ap, subst, arith, Bool, true, false, Option, Some, None, List, [], ◌∷◌, ◌++◌, map, get_or}
use Rattle.std.specs.Prelude.{◌==◌, IsSome, if◌then◌else◌}
use Rattle.std.proofs.lemmas.Bool.{eqb-true, eq-eqb}
use Rattle.std.proofs.lemmas.List.FromFn.{map-range_with_len_more, get_or-map-range_with_len}
use Rattle.order_tracker.specs.Order.{upwards}
use Rattle.chip_model.specs.Chip.{Chip, home}
use Rattle.chip_model.specs.Records.{LineRecord, Records, opening_record}
use Rattle.chip_model.specs.Node.{words_at, record_at, opening_records}
use Rattle.mem_ctrl.specs.Owners.{record_of, KeepsHomes}

-- the records of one more line
pub opened_more : (chip : Chip) (tile : ℕ) (memory : List ℕ) (k : ℕ) (records more : Records) (next : Option LineRecord)
    → records ≡ map (record_at chip tile memory) (upwards 0 k) → more ≡ records ++ next ∷ [] → next ≡ record_at chip tile memory k
    → more ≡ map (record_at chip tile memory) (upwards 0 (k + 1))
opened_more chip tile memory k records more next is added fresh =
    let f = record_at chip tile memory in
    added
    ∙ ap (λ (rs : Records). rs ++ next ∷ []) is
    ∙ ap (λ (o : Option LineRecord). map f (upwards 0 k) ++ o ∷ []) fresh
    ∙ sym (map-range_with_len_more f 0 k k (omega arith))

home_is : (b : Bool) (r : LineRecord) → IsSome (if b then Some r else None) → b ≡ true
home_is true r some = refl
home_is false r some = cc

pub opened_homes : (chip : Chip) (tile : ℕ) (memory : List ℕ) (records : Records) → records ≡ opening_records chip tile memory
    → KeepsHomes chip tile records
opened_homes chip tile memory records is = λ line below.
    let at : record_of records line ≡ record_at chip tile memory line =
    ap (λ (rs : Records). record_of rs line) is ∙ get_or-map-range_with_len (record_at chip tile memory) 0 chip.lines line line None below (omega arith) in
    let r = opening_record (words_at memory line) in (
      (λ some. eqb-true (home chip line) tile (home_is (home chip line == tile) r (subst (λ (o : Option LineRecord). IsSome o) at some))),
      (λ same. subst (λ (o : Option LineRecord). IsSome o) (sym at)
          (subst (λ (b : Bool). IsSome (if b then Some r else None)) (sym (eq-eqb (home chip line) tile same)) refl)),
    )

pub opened_whole : (chip : Chip) (tile : ℕ) (memory : List ℕ) (k : ℕ) (records : Records)
    → records ≡ map (record_at chip tile memory) (upwards 0 k) → k ≡ chip.lines
    → records ≡ opening_records chip tile memory
opened_whole chip tile memory k records is all = is ∙ ap (λ (n : ℕ). map (record_at chip tile memory) (upwards 0 n)) all
