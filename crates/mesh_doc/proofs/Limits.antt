-- Keys whose values keep to their limits, or do not.
use Rattle.std.proofs.Common.{◌≡◌, ℕ, true, false, [], Option, Some, None, is_some, refl}
use Rattle.toml.specs.Data.{Members}
use Rattle.doc_text.specs.declared.key.Key.{Key}
use Rattle.doc_text.specs.declared.key.Key.TheVariants.{Tile}
use Rattle.doc_text.specs.declared.fault.DocFault.TheVariants.{Range}
use Rattle.doc_text.specs.Keys.{row_of}
use Rattle.mesh_doc.specs.Tables.{Part, value, position}
use Rattle.mesh_doc.specs.Values.{Sizes, is_within, tile}
use Rattle.mesh_doc.specs.Faults.{range_fault, core_range_fault}
use Rattle.mesh_doc.specs.Reading.{first}

pub some_found : {A : Type 0} (o : Option A) (x : A) → o ≡ Some x → is_some o ≡ true
some_found None x is = cc
some_found (Some y) x is = refl

pub none_found : {A : Type 0} (o : Option A) → o ≡ None → is_some o ≡ false
none_found None is = refl
none_found (Some y) is = cc

pub exceeds : (sizes : Sizes) (found : Members) (key : Key) → is_within sizes (row_of key).limit (value key found) ≡ false → first (range_fault sizes found key) ≡ Some (Range key 0)
unfolding range_fault
exceeds sizes found key is = rw is refl

pub fits : (sizes : Sizes) (found : Members) (key : Key) → is_within sizes (row_of key).limit (value key found) ≡ true → range_fault sizes found key ≡ []
unfolding range_fault
fits sizes found key is = rw is refl

pub core_exceeds : (count : ℕ) (core : Part) → tile count (value Tile core.table) ≡ None → first (core_range_fault count core) ≡ Some (Range Tile (position core.place))
unfolding core_range_fault
core_exceeds count core is = rw is refl

pub core_fits : (count : ℕ) (core : Part) (t : ℕ) → tile count (value Tile core.table) ≡ Some t → core_range_fault count core ≡ []
unfolding core_range_fault
core_fits count core t is = rw is refl
