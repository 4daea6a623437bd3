-- Distances along the sides of a tile.
use Rattle.std.proofs.Common.{◌≡◌, ◌≢◌, ℕ, suc, ◌+◌, ◌-◌, ◌<◌, ◌≤◌, Some, inl, inr, arith}
use Rattle.std.proofs.lemmas.Bool.{cases_eq, cases_lt}
use Rattle.mesh_gen.specs.declared.port.Port.{Port}
use Rattle.mesh_gen.specs.declared.port.Port.TheVariants.{L, E, W, N, S}
use Rattle.mesh_gen.specs.Grid.{Grid, tiles, x_of, y_of, distance, neighbour}
use Rattle.mesh_gen.specs.Routes.{HasTiles}
use Rattle.mesh_gen.proofs.Coordinates.{same_tile, x_below, y_below}
use Rattle.mesh_gen.proofs.Beside.{beside, east_of, west_of, north_of, south_of}

-- a tile is no hop from itself
pub distance-same : (g : Grid) (t : ℕ) → distance g t t ≡ 0
distance-same g t = omega arith

-- and some from every other
pub apart : (g : Grid) (a b : ℕ) → a ≢ b → 0 < distance g a b
apart g a b other = elim (cases_eq (x_of g a) (x_of g b)) [
  | inl same_x ↦
      elim (cases_eq (y_of g a) (y_of g b)) [
        | inl same_y ↦ absurd (other (same_tile g a b same_x same_y))
        | inr other_y ↦ omega arith
      ]
  | inr other_x ↦ omega arith
]

-- a hop to a side changes the distance by at most one
pub distance-neighbour : (g : Grid) (s t : ℕ) (p : Port) (n : ℕ) → HasTiles g → neighbour g t p ≡ Some n → distance g s t ≤ distance g s n + 1
distance-neighbour g s t L n has is = cc
distance-neighbour g s t E n has is = let stands = beside g t E n has is in omega (arith, stands.0, stands.1, stands.2)
distance-neighbour g s t W n has is = let stands = beside g t W n has is in omega (arith, stands.0, stands.1, stands.2)
distance-neighbour g s t N n has is = let stands = beside g t N n has is in omega (arith, stands.0, stands.1, stands.2)
distance-neighbour g s t S n has is = let stands = beside g t S n has is in omega (arith, stands.0, stands.1, stands.2)

-- a tile's neighbour that is one hop nearer to s
pub record Nearer (g : Grid) (s t : ℕ) : Type 0 where
  pub side : Port
  pub tile : ℕ
  pub beside : neighbour g t side ≡ Some tile
  pub nearer : distance g s t ≡ suc (distance g s tile)

nearer_by_row : (g : Grid) (s t : ℕ) → HasTiles g → s < tiles g → t < tiles g → y_of g s ≢ y_of g t → Nearer g s t
nearer_by_row g s t has inside_s inside_t other = elim (cases_lt (y_of g s) (y_of g t)) [
  | inl above ↦
      let next = north_of g t inside_t (omega arith) in
      let stands = beside g t N (t - g.cols) has next in
      record { side = N; tile = t - g.cols; beside = next; nearer = omega (arith, above, stands.1, stands.2) }
  | inr not_above ↦
      let below : y_of g t < y_of g s = omega arith in
      let next = south_of g t inside_t (omega (arith, below, y_below g s has inside_s)) in
      let stands = beside g t S (t + g.cols) has next in
      record { side = S; tile = t + g.cols; beside = next; nearer = omega (arith, below, stands.1, stands.2) }
]

-- every tile but s itself has a neighbour that is nearer to s
pub nearer : (g : Grid) (s t : ℕ) → HasTiles g → s < tiles g → t < tiles g → 0 < distance g s t → Nearer g s t
nearer g s t has inside_s inside_t away = elim (cases_lt (x_of g s) (x_of g t)) [
  | inl left ↦
      let next = west_of g t inside_t (omega arith) in
      let stands = beside g t W (t - 1) has next in
      record { side = W; tile = t - 1; beside = next; nearer = omega (arith, left, stands.1, stands.2) }
  | inr not_left ↦
      elim (cases_lt (x_of g t) (x_of g s)) [
        | inl right ↦
            let next = east_of g t inside_t (omega (arith, right, x_below g s has)) in
            let stands = beside g t E (t + 1) has next in
            record { side = E; tile = t + 1; beside = next; nearer = omega (arith, right, stands.1, stands.2) }
        | inr not_right ↦ nearer_by_row g s t has inside_s inside_t (λ same. absurd (omega arith))
      ]
]
