-- What values say that keep to their limits.
use Rattle.std.specs.Prelude.{ℕ, ◌+◌, ◌-◌, ◌*◌, max, nat_le, ℤ, pos, negsuc, Bool, true, false, ◌&&◌, if◌then◌else◌, List, [], ◌∷◌, ◌++◌, length, Option, Some, None, option_map, is_some}
use Rattle.mesh_gen.specs.Partial.{when, ◌>>=◌}
use Rattle.mesh_gen.specs.TileSet.{is_among}
use Rattle.toml.specs.Data.{Data, integer, Members, as_integer, as_array}
use Rattle.doc_text.specs.declared.key.Key.TheVariants.{Cols, Rows, Lines}
use Rattle.doc_text.specs.declared.column.Limit.{Limit}
use Rattle.doc_text.specs.declared.column.Limit.TheVariants.{Free, Number, Ticks, Tile, Tiles, Windows, Words}
use Rattle.mesh_doc.specs.Tables.{listed, value}

-- an integer from the least to the most
abbrev pub from_to : ℕ → ℕ → ℤ → Option ℕ
from_to least most (pos n) = when (nat_le least n && nat_le n most) (Some n)
from_to least most (negsuc n) = None

-- that of a value
unfoldable pub number_in : ℕ → ℕ → Data → Option ℕ
number_in least most value = as_integer value >>= from_to least most

-- what each item says, where each says something
unfoldable pub each : {A : Type 0} → (Data → Option A) → List Data → Option (List A)
each says [] = Some []
each says (value ∷ rest) = says value >>= (λ first. option_map (λ others. first ∷ others) (each says rest))

-- whether there are at least and at most so many
abbrev pub is_count : ℕ → ℕ → ℕ → Bool
is_count least most count = nat_le least count && nat_le count most

-- the items of a list that has at least and at most so many
unfoldable pub items_in : ℕ → ℕ → Data → Option (List Data)
items_in least most value = as_array value >>= (λ list. when (is_count least most (length (listed list))) (Some (listed list)))

-- what they say
unfoldable pub list_in : {A : Type 0} → ℕ → ℕ → (Data → Option A) → Data → Option (List A)
list_in least most says value = items_in least most value >>= each says

-- the numbers that stand in the list before, and those that stand in it again, each time that they do
unfoldable pub repeated_after : List ℕ → List ℕ → List ℕ
repeated_after before [] = []
repeated_after before (n ∷ rest) = (if is_among before n then n ∷ [] else []) ++ repeated_after (before ++ n ∷ []) rest

-- the numbers of a list that stand in it before, too
abbrev pub repeated : List ℕ → List ℕ
repeated list = repeated_after [] list

-- the number that a value is
abbrev pub number_of : Data → ℕ
number_of (integer (pos n)) = n
number_of _ = 0

-- whether a list is empty
abbrev pub has_no_items : {A : Type 0} → List A → Bool
has_no_items [] = true
has_no_items (x ∷ rest) = false

-- the sizes that limits depend on
pub record Sizes : Type 0 where
  pub cols : ℕ
  pub rows : ℕ
  pub lines : ℕ

-- those of the table of a mesh
abbrev pub sizes_of : Members → Sizes
sizes_of mesh = record { cols = number_of (value Cols mesh); rows = number_of (value Rows mesh); lines = number_of (value Lines mesh) }

-- how many tiles a mesh of these sizes has
abbrev pub tiles_of : Sizes → ℕ
tiles_of sizes = sizes.cols * sizes.rows

-- the number of one of so many tiles
abbrev pub tile : ℕ → Data → Option ℕ
tile count datum = number_in 0 (count - 1) datum

-- some tiles, at most as many as there are
abbrev pub tiles : ℕ → Data → Option (List ℕ)
tiles count datum = list_in 1 count (tile count) datum

-- the list, where no tile stands twice in it
abbrev pub if_distinct : List ℕ → Option (List ℕ)
if_distinct list = when (has_no_items (repeated list)) (Some list)

-- the tiles that post in a window, each once
unfoldable pub window : ℕ → Data → Option (List ℕ)
window count datum = tiles count datum >>= if_distinct

-- those of at most 4,096 windows
abbrev pub windows : ℕ → Data → Option (List (List ℕ))
windows count datum = list_in 0 4096 (window count) datum

-- at most four words of 32 bits a line
abbrev pub words : ℕ → Data → Option (List ℕ)
words lines datum = list_in 0 (4 * lines) (number_in 0 4294967295) datum

-- whether a value keeps to a limit
abbrev pub is_within : Sizes → Limit → Data → Bool
is_within sizes Free datum = true
is_within sizes (Number least most) datum = is_some (number_in least most datum)
is_within sizes Ticks datum = is_some (number_in (max 1 ((sizes.cols - 1) + (sizes.rows - 1))) 64 datum)
is_within sizes Tile datum = is_some (tile (tiles_of sizes) datum)
is_within sizes Tiles datum = is_some (tiles (tiles_of sizes) datum)
is_within sizes Windows datum = is_some (windows (tiles_of sizes) datum)
is_within sizes Words datum = is_some (words sizes.lines datum)
