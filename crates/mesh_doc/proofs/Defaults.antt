-- Values that are written, and those that stand for keys that are left out.
use Rattle.std.proofs.Common.{◌≡◌, ℕ, ◌-◌, ◌*◌, ◌<◌, le-leb, [], ◌∷◌, Some, None, refl, arith}
use Rattle.toml.specs.Data.{Members}
use Rattle.doc_text.specs.declared.key.Key.{Key}
use Rattle.doc_text.specs.declared.column.Omitted.TheVariants.{FirstTile, Empty}
use Rattle.doc_text.specs.Keys.{row_of}
use Rattle.mesh_doc.specs.Tables.{written_value, value, default}
use Rattle.mesh_doc.specs.Values.{number_in, each, items_in, list_in, tiles, windows, words}

pub value-default : (key : Key) (top : Members) → None ≡ written_value key top → value key top ≡ default (row_of key).omitted
value-default key top is = rw (← is) refl

pub tiles-default : (count : ℕ) → 0 < count → tiles count (default FirstTile) ≡ Some (0 ∷ [])
unfolding list_in items_in each number_in
tiles-default count some = rw (le-leb 1 count (omega arith), le-leb 0 (count - 1) (omega arith)) refl

pub windows-default : (count : ℕ) → windows count (default Empty) ≡ Some []
unfolding list_in items_in each
windows-default count = refl

pub words-default : (lines : ℕ) → words lines (default Empty) ≡ Some []
unfolding list_in items_in each
words-default lines = rw (le-leb 0 (4 * lines) (omega arith)) refl
