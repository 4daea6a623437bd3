-- Entries and their packed words.
use Rattle.std.proofs.Common.{◌≡◌, ℕ, ◌==◌, Bool, true, false, List, [], ◌∷◌, ◌++◌, length, map, drop, get_or, refl, sym, ◌∙◌, ap, arith}
use Rattle.std.specs.List.{AllByRecursion}
use Rattle.std.proofs.lemmas.List.{append_cancel_left}
use Rattle.std.proofs.lemmas.Option.{same_Some}
use Rattle.turn_table.specs.Rule.{bit, entries_naming}
use Rattle.report_text.specs.declared.entry.Entry.{Entry}
use Rattle.report_text.specs.Entry.{IsValid, packed}
use Rattle.report_text.specs.Journals.{tile_named}
use Rattle.report_text.specs.Unpacking.{entry_near}
use Rattle.report_text.proofs.Packing.{entry_near-packed, tile_named-packed}
use Rattle.round_laws.specs.Turns.{has_turn}
use Rattle.tile_pool.specs.Start.{RoundStart}
use Rattle.tile_pool.specs.Stands.{IsOfTile}

-- a word is that of one entry
pub same_entry : (a b : Entry) → IsValid a → IsValid b → packed a ≡ packed b → a ≡ b
same_entry a b left right same =
    same_Some a b (sym (entry_near-packed a left) ∙ ap entry_near same ∙ entry_near-packed b right)

-- words that begin with those of some entries are those of a list that begins with these entries
pub begins : (r : RoundStart) (xs ys : List Entry) (rest : List ℕ) → AllByRecursion (IsOfTile r) xs → AllByRecursion (IsOfTile r) ys
    → map packed xs ++ rest ≡ map packed ys → (later : List Entry) × (xs ++ later ≡ ys)
begins r [] ys rest left right same = (ys, refl)
begins r (x ∷ xs) [] rest left right same = absurd (omega (arith, ap length same))
begins r (x ∷ xs) (y ∷ ys) rest left right same =
    let first : packed x ≡ packed y = ap (λ (words : List ℕ). get_or words 0 0) same in
    let tail : map packed xs ++ rest ≡ map packed ys = ap (λ (words : List ℕ). drop 1 words) same in
    let later = begins r xs ys rest left.1 right.1 tail in
    let here : x ≡ y = same_entry x y left.0.1 right.0.1 first in
    (later.0, ap (λ (e : Entry). e ∷ (xs ++ later.0)) here ∙ ap (λ (es : List Entry). y ∷ es) later.1)

pub all_append : {X : Type 0} (P : X → Type 0) (xs ys : List X) → AllByRecursion P xs → AllByRecursion P ys → AllByRecursion P (xs ++ ys)
all_append P [] ys all rest = rest
all_append P (x ∷ xs) ys all rest = (all.0, all_append P xs ys all.1 rest)

-- where no word names a tile, no entry is of it
pub none_of : (r : RoundStart) (t : ℕ) (made : List Entry) → AllByRecursion (IsOfTile r) made → entries_naming tile_named t (map packed made) ≡ 0
    → has_turn made t ≡ false
none_of r t [] all none = refl
none_of r t (entry ∷ made) all none =
    let named : tile_named (packed entry) ≡ entry.by = tile_named-packed entry all.0.1 in
    let here = not_bit (tile_named (packed entry) == t) (omega (arith, none)) in
    let other : (entry.by == t) ≡ false = ap (λ n. n == t) (sym named) ∙ here in
    rw (other, none_of r t made all.1 (omega (arith, none))) refl
  where
    not_bit : (b : Bool) → bit b ≡ 0 → b ≡ false
    not_bit true is = absurd (omega (arith, is))
    not_bit false is = refl

-- the words after the ones that were there at the start
pub words_made : (opening words : List ℕ) (made : List Entry) → opening ++ words ≡ opening ++ map packed made → words ≡ map packed made
words_made opening words made same = append_cancel_left opening words (map packed made) same
