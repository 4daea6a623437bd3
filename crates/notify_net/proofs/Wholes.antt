-- After enough ticks a latch holds all tiles that posted.
use Rattle.std.proofs.Common.{◌≡◌, ℕ, ◌+◌, ◌<◌, ◌≤◌, Bool, true, cond, List, [], ◌∷◌, refl, ap, arith}
use Rattle.std.specs.Prelude.{nat_le, filter}
use Rattle.std.specs.List.{AllByRecursion}
use Rattle.std.proofs.lemmas.Bool.{le-leb}
use Rattle.mesh_gen.specs.Grid.{Grid, tiles, distance, diameter}
use Rattle.mesh_gen.specs.TileSet.{set_of}
use Rattle.mesh_gen.proofs.Coordinates.{has_tiles, x_below, y_below}
use Rattle.notify_net.specs.Merge.{merged}

-- no two tiles are farther apart than the diameter
distance-le-diameter : (g : Grid) (a b : ℕ) → a < tiles g → b < tiles g → distance g a b ≤ diameter g
distance-le-diameter g a b inside_a inside_b =
    let has = has_tiles g a inside_a in
    omega (arith, x_below g a has, x_below g b has, y_below g a has inside_a, y_below g b has inside_b)

all_kept : (p : ℕ → Bool) (list : List ℕ) → AllByRecursion (λ s. p s ≡ true) list → filter p list ≡ list
all_kept p [] all = refl
all_kept p (s ∷ list) all = rw (all.0, all_kept p list all.1) refl

all_near : (g : Grid) (k t : ℕ) (posts : List ℕ) → t < tiles g → diameter g ≤ k → AllByRecursion (λ s. s < tiles g) posts → AllByRecursion (λ s. nat_le (distance g s t) k ≡ true) posts
all_near g k t [] inside enough all = tt
all_near g k t (s ∷ posts) inside enough all = (le-leb _ _ (omega (arith, distance-le-diameter g s t all.0 inside)), all_near g k t posts inside enough all.1)

pub merged-whole : (g : Grid) (posts : List ℕ) (k t : ℕ) → t < tiles g → diameter g ≤ k → AllByRecursion (λ s. s < tiles g) posts → merged g posts k t ≡ set_of posts
merged-whole g posts k t inside enough all = ap set_of (all_kept (λ s. nat_le (distance g s t) k) posts (all_near g k t posts inside enough all))
