-- Neighbours, by their columns and rows.
use Rattle.std.proofs.Common.{◌≡◌, ℕ, ◌+◌, ◌-◌, ◌<◌, Bool, true, false, refl, arith, Some}
use Rattle.std.specs.Prelude.{◌&&◌, nat_lt}
use Rattle.std.proofs.lemmas.Bool.{ltb-true, lt-ltb}
use Rattle.mesh_gen.specs.declared.port.Port.{Port}
use Rattle.mesh_gen.specs.declared.port.Port.TheVariants.{L, E, W, N, S}
use Rattle.mesh_gen.specs.Partial.{when}
use Rattle.mesh_gen.specs.Grid.{Grid, tiles, x_of, y_of, neighbour}
use Rattle.mesh_gen.specs.Ports.{opposite}
use Rattle.mesh_gen.specs.Routes.{HasTiles}
use Rattle.mesh_gen.proofs.Coordinates.{x_below, y_below, in_grid, at_east, at_west, at_south, at_north, has_row_above, has_one_before}

when_some : (a b : Bool) (t n : ℕ) → when (a && b) (Some t) ≡ Some n → (a ≡ true) × (b ≡ true) × (t ≡ n)
when_some true true t n is = (refl, refl, cc)
when_some true false t n is = cc
when_some false b t n is = cc

some_when : (a b : Bool) (t n : ℕ) → a ≡ true → b ≡ true → t ≡ n → when (a && b) (Some t) ≡ Some n
some_when a b t n first second is = rw (first, second, is)

-- n stands on this side of r
abbrev pub Beside : Grid → ℕ → Port → ℕ → Type 0
Beside g r L n = ⊥
Beside g r E n = (x_of g r + 1 < g.cols) × (x_of g n ≡ x_of g r + 1) × (y_of g n ≡ y_of g r)
Beside g r W n = (0 < x_of g r) × (x_of g n ≡ x_of g r - 1) × (y_of g n ≡ y_of g r)
Beside g r N n = (0 < y_of g r) × (x_of g n ≡ x_of g r) × (y_of g n ≡ y_of g r - 1)
Beside g r S n = (y_of g r + 1 < g.rows) × (x_of g n ≡ x_of g r) × (y_of g n ≡ y_of g r + 1)

pub beside : (g : Grid) (r : ℕ) (side : Port) (n : ℕ) → HasTiles g → neighbour g r side ≡ Some n → Beside g r side n
beside g r L n some is = cc
beside g r E n some is =
    let parts = when_some _ _ _ n is in
    let inside = ltb-true _ _ parts.1 in
    let stands = at_east g r inside in
    (inside, rw (← parts.2) stands.column, rw (← parts.2) stands.row)
beside g r W n some is =
    let parts = when_some _ _ _ n is in
    let inside = ltb-true _ _ parts.1 in
    let stands = at_west g r some inside in
    (inside, rw (← parts.2) stands.column, rw (← parts.2) stands.row)
beside g r N n some is =
    let parts = when_some _ _ _ n is in
    let inside = ltb-true _ _ parts.1 in
    let stands = at_north g r some inside in
    (inside, rw (← parts.2) stands.column, rw (← parts.2) stands.row)
beside g r S n some is =
    let parts = when_some _ _ _ n is in
    let inside = ltb-true _ _ parts.1 in
    let stands = at_south g r some in
    (inside, rw (← parts.2) stands.column, rw (← parts.2) stands.row)

-- the number of what stands there
abbrev number_beside : Grid → ℕ → Port → ℕ
number_beside g r L = r
number_beside g r E = r + 1
number_beside g r W = r - 1
number_beside g r N = r - g.cols
number_beside g r S = r + g.cols

neighbour_number : (g : Grid) (r : ℕ) (side : Port) (n : ℕ) → neighbour g r side ≡ Some n → number_beside g r side ≡ n
neighbour_number g r L n is = cc
neighbour_number g r E n is = (when_some (nat_lt r (tiles g)) (nat_lt (x_of g r + 1) g.cols) (r + 1) n is).2
neighbour_number g r W n is = (when_some (nat_lt r (tiles g)) (nat_lt 0 (x_of g r)) (r - 1) n is).2
neighbour_number g r N n is = (when_some (nat_lt r (tiles g)) (nat_lt 0 (y_of g r)) (r - g.cols) n is).2
neighbour_number g r S n is = (when_some (nat_lt r (tiles g)) (nat_lt (y_of g r + 1) g.rows) (r + g.cols) n is).2

-- what has a neighbour is a tile
pub has_neighbour_inside : (g : Grid) (r : ℕ) (side : Port) (n : ℕ) → neighbour g r side ≡ Some n → r < tiles g
has_neighbour_inside g r L n is = cc
has_neighbour_inside g r E n is = ltb-true _ _ (when_some _ _ _ n is).0
has_neighbour_inside g r W n is = ltb-true _ _ (when_some _ _ _ n is).0
has_neighbour_inside g r N n is = ltb-true _ _ (when_some _ _ _ n is).0
has_neighbour_inside g r S n is = ltb-true _ _ (when_some _ _ _ n is).0

-- a neighbour is a tile
pub neighbour_inside : (g : Grid) (r : ℕ) (side : Port) (n : ℕ) → HasTiles g → neighbour g r side ≡ Some n → n < tiles g
neighbour_inside g r side n some is = in_grid g n some (row_inside side (beside g r side n some is) (y_below g r some (has_neighbour_inside g r side n is)))
  where
    row_inside : (side : Port) → Beside g r side n → y_of g r < g.rows → y_of g n < g.rows
    row_inside L stands below = absurd stands
    row_inside E stands below = omega arith
    row_inside W stands below = omega arith
    row_inside N stands below = omega arith
    row_inside S stands below = omega arith

-- a tile has its neighbour where its column or row is not at the edge
pub east_of : (g : Grid) (r : ℕ) → r < tiles g → x_of g r + 1 < g.cols → neighbour g r E ≡ Some (r + 1)
east_of g r inside edge = some_when _ _ _ _ (lt-ltb _ _ inside) (lt-ltb _ _ edge) refl

pub west_of : (g : Grid) (r : ℕ) → r < tiles g → 0 < x_of g r → neighbour g r W ≡ Some (r - 1)
west_of g r inside edge = some_when _ _ _ _ (lt-ltb _ _ inside) (lt-ltb _ _ edge) refl

pub north_of : (g : Grid) (r : ℕ) → r < tiles g → 0 < y_of g r → neighbour g r N ≡ Some (r - g.cols)
north_of g r inside edge = some_when _ _ _ _ (lt-ltb _ _ inside) (lt-ltb _ _ edge) refl

pub south_of : (g : Grid) (r : ℕ) → r < tiles g → y_of g r + 1 < g.rows → neighbour g r S ≡ Some (r + g.cols)
south_of g r inside edge = some_when _ _ _ _ (lt-ltb _ _ inside) (lt-ltb _ _ edge) refl

pub opposite-opposite : (side : Port) → opposite (opposite side) ≡ side
opposite-opposite L = refl
opposite-opposite E = refl
opposite-opposite W = refl
opposite-opposite N = refl
opposite-opposite S = refl

-- the neighbour's neighbour on the opposite side
pub neighbour_back : (g : Grid) (r : ℕ) (side : Port) (n : ℕ) → HasTiles g → neighbour g r side ≡ Some n → neighbour g n (opposite side) ≡ Some r
neighbour_back g r side n some is = back side is (beside g r side n some is) (neighbour_inside g r side n some is) (y_below g r some (has_neighbour_inside g r side n is))
  where
    back : (side : Port) → neighbour g r side ≡ Some n → Beside g r side n → n < tiles g → y_of g r < g.rows → neighbour g n (opposite side) ≡ Some r
    back L is stands inside row = absurd stands
    back E is stands inside row = let same : r + 1 ≡ n = neighbour_number g r E n is in some_when _ _ _ r (lt-ltb _ _ inside) (lt-ltb _ _ (omega arith)) (omega arith)
    back W is stands inside row =
        let same : r - 1 ≡ n = neighbour_number g r W n is in
        let below = x_below g r some in
        some_when _ _ _ r (lt-ltb _ _ inside) (lt-ltb _ _ (omega arith)) (omega (arith, has_one_before g r stands.0))
    back N is stands inside row =
        let same : r - g.cols ≡ n = neighbour_number g r N n is in
        some_when _ _ _ r (lt-ltb _ _ inside) (lt-ltb _ _ (omega arith)) (omega (arith, has_row_above g r stands.0))
    back S is stands inside row =
        let same : r + g.cols ≡ n = neighbour_number g r S n is in
        some_when _ _ _ r (lt-ltb _ _ inside) (lt-ltb _ _ (omega arith)) (omega arith)
