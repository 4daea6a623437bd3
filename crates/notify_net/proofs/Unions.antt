-- A tick by the sides that were looked up once is a tick.
use Rattle.std.proofs.Common.{◌≡◌, ℕ, ◌<◌, Bool, true, false, ◌||◌, List, length, Option, None, Some, refl, sym, ◌∙◌, arith}
use Rattle.std.specs.Prelude.{slice_get, slice_index, slice_index_or, unwrap_or, IfSome}
use Rattle.std.proofs.lemmas.Option.{get_or_from_slice_get}
use Rattle.mesh_gen.specs.declared.port.Port.{Port}
use Rattle.mesh_gen.specs.declared.port.Port.TheVariants.{E, W, N, S}
use Rattle.mesh_gen.specs.Grid.{Grid, tiles, neighbour}
use Rattle.mesh_gen.specs.TileSet.{has_tile}
use Rattle.mesh_gen.proofs.Beside.{neighbour_inside}
use Rattle.mesh_gen.proofs.Coordinates.{has_tiles}
use Rattle.mesh_gen.proofs.TileSets.{has_tile-none, same_sets}
use Rattle.notify_net.specs.declared.links.Sides.{Sides}
use Rattle.notify_net.specs.Latches.{LatchState, latch_of, taken_in, Ticks}
use Rattle.notify_net.specs.Links.{beside, neighbours_of, AreLinks, AreBelow, union_of}
use Rattle.notify_net.proofs.Growth.{any_of}
use Rattle.notify_net.proofs.Phases.{has_tile-union}

-- ---- the sides are tiles

beside_below : (g : Grid) (t : ℕ) (p : Port) (o : Option ℕ) → t < tiles g → neighbour g t p ≡ o → unwrap_or o t < tiles g
beside_below g t p None inside is = inside
beside_below g t p (Some n) inside is = neighbour_inside g t p n (has_tiles g t inside) is

AreBelow-neighbours_of : (g : Grid) (t : ℕ) → t < tiles g → AreBelow (tiles g) (neighbours_of g t)
AreBelow-neighbours_of g t inside =
    record {
      east = beside_below g t E _ inside refl;
      west = beside_below g t W _ inside refl;
      north = beside_below g t N _ inside refl;
      south = beside_below g t S _ inside refl;
    }

-- the sides that were looked up are tiles
pub AreBelow-links : (g : Grid) (links : List Sides) (count t : ℕ) (d : Sides) → AreLinks g links → count ≡ tiles g → t < length links → AreBelow count (slice_index_or links t d)
AreBelow-links g links count t d are is within =
    let inside : t < tiles g = omega (arith, are.count) in
    rw (is, get_or_from_slice_get links t (neighbours_of g t) d (are.each t inside)) (AreBelow-neighbours_of g t inside)

-- ---- the union over the sides

twice : (b : Bool) → (b || b) ≡ (b || false)
twice true = refl
twice false = refl

-- a tile's own word in place of one that is not there adds nothing
own_or_beside : (g : Grid) (words : List ℕ) (t s : ℕ) (o : Option ℕ)
    → (has_tile (slice_index words t) s || has_tile (slice_index words (unwrap_or o t)) s) ≡ (has_tile (slice_index words t) s || has_tile (latch_of (record { grid = g; latches = words }) o) s)
own_or_beside g words t s None = rw (has_tile-none s) (twice (has_tile (slice_index words t) s))
own_or_beside g words t s (Some n) = refl

same_any : (own e f w x n o s u : Bool) → (own || e) ≡ (own || f) → (own || w) ≡ (own || x) → (own || n) ≡ (own || o) → (own || s) ≡ (own || u)
    → any_of own e w n s ≡ any_of own f x o u
same_any true e f w x n o s u east west north south = refl
same_any false e f w x n o s u east west north south = rw (east, west, north, south) refl

union_is : (g : Grid) (words : List ℕ) (t : ℕ) → union_of words t (neighbours_of g t) ≡ taken_in (record { grid = g; latches = words }) t
union_is g words t =
    let state : LatchState = record { grid = g; latches = words } in
    let side : (p : Port) (s : ℕ) → (has_tile (slice_index words t) s || has_tile (slice_index words (beside g t p)) s) ≡ (has_tile (slice_index words t) s || has_tile (latch_of state (neighbour g t p)) s)
    = λ p s. own_or_beside g words t s (neighbour g t p) in
    same_sets (union_of words t (neighbours_of g t)) (taken_in state t) (λ s.
    has_tile-union (slice_index words t) (slice_index words (beside g t E)) (slice_index words (beside g t W)) (slice_index words (beside g t N)) (slice_index words (beside g t S)) s
    ∙ same_any (has_tile (slice_index words t) s) _ _ _ _ _ _ _ _ (side E s) (side W s) (side N s) (side S s)
    ∙ sym (has_tile-union (slice_index words t) (latch_of state (neighbour g t E)) (latch_of state (neighbour g t W)) (latch_of state (neighbour g t N)) (latch_of state (neighbour g t S)) s))

-- words that are those unions are the latches after a tick
pub Ticks-union : (g : Grid) (words next : List ℕ) (links : List Sides) → AreLinks g links → length words ≡ tiles g → length next ≡ length words
    → ((t : ℕ) → t < length words → IfSome (slice_get links t) (λ sides. slice_index next t ≡ union_of words t sides))
    → Ticks (record { grid = g; latches = words }) (record { grid = g; latches = next })
Ticks-union g words next links are count same unions =
    record {
      grid_is = refl;
      count = same;
      each = λ t inside.
          let union : IfSome (slice_get links t) (λ sides. slice_index next t ≡ union_of words t sides) = unions t (omega (arith, count)) in
          (rw (are.each t inside) at union) ∙ union_is g words t;
    }
