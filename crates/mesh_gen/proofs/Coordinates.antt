-- Tiles by their columns and rows.
use Rattle.std.proofs.Common.{◌≡◌, ℕ, suc, zero, ◌+◌, ◌*◌, ◌-◌, ◌<◌, ◌≤◌, ◌/◌, ◌%◌, sym, ◌∙◌, subst, arith}
use Rattle.std.proofs.lemmas.Nat.{div-mul-add, mod-mul-add, div_below, mod_below, div-add-mod', row_fits}
use Rattle.mesh_gen.specs.Grid.{Grid, tiles, x_of, y_of}
use Rattle.mesh_gen.specs.Routes.{HasTiles}

some_factors : (cols rows t : ℕ) → t < cols * rows → (0 < cols) × (0 < rows)
some_factors zero rows t inside = absurd (omega arith)
some_factors (suc cols) zero t inside = absurd (omega arith)
some_factors (suc cols) (suc rows) t inside = (omega arith, omega arith)

-- a grid that has a tile has a column and a row
pub has_tiles : (g : Grid) (t : ℕ) → t < tiles g → HasTiles g
has_tiles g t inside = let some = some_factors g.cols g.rows t inside in record { some_column = some.0; some_row = some.1 }

pub x_below : (g : Grid) (t : ℕ) → HasTiles g → x_of g t < g.cols
unfolding x_of
x_below g t some = mod_below t g.cols some.some_column

pub y_below : (g : Grid) (t : ℕ) → HasTiles g → t < tiles g → y_of g t < g.rows
unfolding y_of
y_below g t some inside = div_below t g.cols g.rows some.some_column (omega arith)

-- a tile's number, from its row and column
pub place : (g : Grid) (t : ℕ) → y_of g t * g.cols + x_of g t ≡ t
unfolding x_of y_of
place g t = div-add-mod' t g.cols

-- tiles in one column and one row are one tile
pub same_tile : (g : Grid) (a b : ℕ) → x_of g a ≡ x_of g b → y_of g a ≡ y_of g b → a ≡ b
same_tile g a b column row = sym (place g a) ∙ (rw (column, row) (place g b))

-- what stands in one of the rows is a tile
pub in_grid : (g : Grid) (t : ℕ) → HasTiles g → y_of g t < g.rows → t < tiles g
in_grid g t some row = omega (arith, place g t, x_below g t some, row_fits (y_of g t) g.cols g.rows g.cols row (omega arith))

-- a tile stands in this column and row
pub record At (g : Grid) (t x y : ℕ) : Type 0 where
  pub column : x_of g t ≡ x
  pub row : y_of g t ≡ y

x_at : (g : Grid) (y x t : ℕ) → x < g.cols → y * g.cols + x ≡ t → x_of g t ≡ x
unfolding x_of
x_at g y x t below is = subst (λ u. u % g.cols ≡ x) is (mod-mul-add y g.cols x below)

y_at : (g : Grid) (y x t : ℕ) → x < g.cols → y * g.cols + x ≡ t → y_of g t ≡ y
unfolding y_of
y_at g y x t below is = subst (λ u. u / g.cols ≡ y) is (div-mul-add y g.cols x below)

pub at : (g : Grid) (t x y : ℕ) → x < g.cols → y * g.cols + x ≡ t → At g t x y
at g t x y below is = record { column = x_at g y x t below is; row = y_at g y x t below is }

pub at_east : (g : Grid) (r : ℕ) → x_of g r + 1 < g.cols → At g (r + 1) (x_of g r + 1) (y_of g r)
at_east g r inside = at g (r + 1) (x_of g r + 1) (y_of g r) inside (omega (arith, place g r))

pub at_west : (g : Grid) (r : ℕ) → HasTiles g → 0 < x_of g r → At g (r - 1) (x_of g r - 1) (y_of g r)
at_west g r some inside = at g (r - 1) (x_of g r - 1) (y_of g r) (omega (arith, x_below g r some)) (omega (arith, place g r))

pub at_south : (g : Grid) (r : ℕ) → HasTiles g → At g (r + g.cols) (x_of g r) (y_of g r + 1)
at_south g r some = at g (r + g.cols) (x_of g r) (y_of g r + 1) (x_below g r some) (omega (arith, place g r))

-- one row less
row_less : (y cols x r : ℕ) → 0 < y → y * cols + x ≡ r → (y - 1) * cols + x ≡ r - cols
row_less zero cols x r inside is = absurd (omega arith)
row_less (suc y) cols x r inside is = let one_less : suc y - 1 ≡ y = omega arith in rw one_less (omega arith)

pub at_north : (g : Grid) (r : ℕ) → HasTiles g → 0 < y_of g r → At g (r - g.cols) (x_of g r) (y_of g r - 1)
at_north g r some inside = at g (r - g.cols) (x_of g r) (y_of g r - 1) (x_below g r some) (row_less (y_of g r) g.cols (x_of g r) r inside (place g r))

row_above : (y cols x r : ℕ) → 0 < y → y * cols + x ≡ r → cols ≤ r
row_above zero cols x r inside is = absurd (omega arith)
row_above (suc y) cols x r inside is = omega arith

-- a whole row stands before a tile that is not in the first one
pub has_row_above : (g : Grid) (r : ℕ) → 0 < y_of g r → g.cols ≤ r
has_row_above g r inside = row_above (y_of g r) g.cols (x_of g r) r inside (place g r)

-- a tile that is not in the first column is not tile 0
pub has_one_before : (g : Grid) (r : ℕ) → 0 < x_of g r → 1 ≤ r
has_one_before g r inside = omega (arith, place g r)
