-- The hops of routes, by columns and rows.
use Rattle.std.proofs.Common.{◌≡◌, ◌≢◌, ℕ, ◌+◌, ◌-◌, ◌<◌, refl, arith, Some}
use Rattle.std.proofs.lemmas.Bool.Decides.{nat_tests}
use Rattle.mesh_gen.specs.declared.port.Port.{Port}
use Rattle.mesh_gen.specs.declared.port.Port.TheVariants.{L, E, W, N, S}
use Rattle.mesh_gen.specs.Grid.{Grid, tiles, x_of, y_of, neighbour, distance}
use Rattle.mesh_gen.specs.Ports.{opposite}
use Rattle.mesh_gen.specs.Routes.{HasTiles, route, rank, Travels, enters, hops, IsRouteChannel}
use Rattle.mesh_gen.proofs.Coordinates.{x_below, y_below, same_tile}
use Rattle.mesh_gen.proofs.Beside.{Beside, beside, neighbour_inside, has_neighbour_inside, east_of, west_of, north_of, south_of}

-- what the port of a route says of columns and rows
abbrev Heads : Grid → ℕ → ℕ → Port → Type 0
Heads g r dest L = (x_of g r ≡ x_of g dest) × (y_of g r ≡ y_of g dest)
Heads g r dest E = x_of g r < x_of g dest
Heads g r dest W = x_of g dest < x_of g r
Heads g r dest N = (x_of g r ≡ x_of g dest) × (y_of g dest < y_of g r)
Heads g r dest S = (x_of g r ≡ x_of g dest) × (y_of g r < y_of g dest)

heads : (g : Grid) (r dest : ℕ) (p : Port) → route g r dest ≡ p → Heads g r dest p
heads g r dest L is = grind (arith, nat_tests)
heads g r dest E is = grind (arith, nat_tests)
heads g r dest W is = grind (arith, nat_tests)
heads g r dest N is = grind (arith, nat_tests)
heads g r dest S is = grind (arith, nat_tests)

-- ---- a route ends at its tile, and goes on elsewhere
pub route_ends : (g : Grid) (r dest : ℕ) → route g r dest ≡ L → r ≡ dest
route_ends g r dest is = let there = heads g r dest L is in same_tile g r dest there.0 there.1

pub route_at_end : (g : Grid) (r dest : ℕ) → r ≡ dest → route g r dest ≡ L
route_at_end g r dest same = rw same (stays g dest)
  where
    stays : (g : Grid) (t : ℕ) → route g t t ≡ L
    stays g t = grind (arith, nat_tests)

stands_on_route : (g : Grid) (r dest : ℕ) (p : Port) → HasTiles g → r < tiles g → dest < tiles g → r ≢ dest → Heads g r dest p → (n : ℕ) × (neighbour g r p ≡ Some n)
stands_on_route g r dest L some inside reached other heads = absurd (other (same_tile g r dest heads.0 heads.1))
stands_on_route g r dest E some inside reached other heads = (r + 1, east_of g r inside (omega (arith, x_below g dest some)))
stands_on_route g r dest W some inside reached other heads = (r - 1, west_of g r inside (omega arith))
stands_on_route g r dest N some inside reached other heads = (r - g.cols, north_of g r inside (omega arith))
stands_on_route g r dest S some inside reached other heads = (r + g.cols, south_of g r inside (omega (arith, y_below g dest some reached)))

pub route_goes_on : (g : Grid) (r dest : ℕ) → HasTiles g → r < tiles g → dest < tiles g → r ≢ dest → (n : ℕ) × (neighbour g r (route g r dest) ≡ Some n) × (n < tiles g)
route_goes_on g r dest some inside reached other =
    let next = stands_on_route g r dest (route g r dest) some inside reached other (heads g r dest (route g r dest) refl) in
    (next.0, next.1, neighbour_inside g r (route g r dest) next.0 some next.1)

-- ---- a hop comes nearer, and where the message may stand it goes to a lower rank
nearer_by : (g : Grid) (r dest n : ℕ) (p : Port) → Beside g r p n → Heads g r dest p → distance g r dest ≡ distance g n dest + 1
nearer_by g r dest n L stands heads = absurd stands
nearer_by g r dest n E stands heads = omega arith
nearer_by g r dest n W stands heads = omega arith
nearer_by g r dest n N stands heads = omega arith
nearer_by g r dest n S stands heads = omega arith

pub hop_nearer : (g : Grid) (r dest n : ℕ) → HasTiles g → neighbour g r (route g r dest) ≡ Some n → distance g r dest ≡ distance g n dest + 1
hop_nearer g r dest n some next = nearer_by g r dest n (route g r dest) (beside g r (route g r dest) n some next) (heads g r dest (route g r dest) refl)

stands_by : (g : Grid) (r dest n : ℕ) (p : Port) → Beside g r p n → Heads g r dest p → IsRouteChannel g dest n (opposite p)
stands_by g r dest n L stands heads = absurd stands
stands_by g r dest n E stands heads = omega arith
stands_by g r dest n W stands heads = omega arith
stands_by g r dest n N stands heads = omega arith
stands_by g r dest n S stands heads = omega arith

pub hop_stands : (g : Grid) (r dest n : ℕ) → HasTiles g → neighbour g r (route g r dest) ≡ Some n → IsRouteChannel g dest n (opposite (route g r dest))
hop_stands g r dest n some next = stands_by g r dest n (route g r dest) (beside g r (route g r dest) n some next) (heads g r dest (route g r dest) refl)

falls_by : (g : Grid) (r dest n : ℕ) (p q : Port) → Beside g r p n → Heads g r dest p → IsRouteChannel g dest r q → x_of g r < g.cols → y_of g r < g.rows → rank g n (opposite p) < rank g r q
falls_by g r dest n L q stands heads may x_in y_in = absurd stands
falls_by g r dest n E L stands heads may x_in y_in = omega arith
falls_by g r dest n E E stands heads may x_in y_in = absurd (omega arith)
falls_by g r dest n E W stands heads may x_in y_in = omega arith
falls_by g r dest n E N stands heads may x_in y_in = absurd (omega arith)
falls_by g r dest n E S stands heads may x_in y_in = absurd (omega arith)
falls_by g r dest n W L stands heads may x_in y_in = omega arith
falls_by g r dest n W E stands heads may x_in y_in = omega arith
falls_by g r dest n W W stands heads may x_in y_in = absurd (omega arith)
falls_by g r dest n W N stands heads may x_in y_in = absurd (omega arith)
falls_by g r dest n W S stands heads may x_in y_in = absurd (omega arith)
falls_by g r dest n N L stands heads may x_in y_in = omega arith
falls_by g r dest n N E stands heads may x_in y_in = omega arith
falls_by g r dest n N W stands heads may x_in y_in = omega arith
falls_by g r dest n N N stands heads may x_in y_in = absurd (omega arith)
falls_by g r dest n N S stands heads may x_in y_in = omega arith
falls_by g r dest n S L stands heads may x_in y_in = omega arith
falls_by g r dest n S E stands heads may x_in y_in = omega arith
falls_by g r dest n S W stands heads may x_in y_in = omega arith
falls_by g r dest n S N stands heads may x_in y_in = omega arith
falls_by g r dest n S S stands heads may x_in y_in = absurd (omega arith)

pub rank-hop : (g : Grid) (dest r n : ℕ) (q : Port) → HasTiles g → IsRouteChannel g dest r q → neighbour g r (route g r dest) ≡ Some n → rank g n (opposite (route g r dest)) < rank g r q
rank-hop g dest r n q some may next =
    let way = route g r dest in
    falls_by g r dest n way q (beside g r way n some next) (heads g r dest way refl) may (x_below g r some) (y_below g r some (has_neighbour_inside g r way n next))

-- ---- a message that came by its route
pub travels_stands : (g : Grid) (dest r : ℕ) (q : Port) → HasTiles g → Travels g dest r q → IsRouteChannel g dest r q
travels_stands g dest r q some (enters inside) = tt
travels_stands g dest r q some (hops {r = before} {q = came} travels next) = hop_stands g before dest r some next
