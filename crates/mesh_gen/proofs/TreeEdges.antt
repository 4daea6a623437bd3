-- The edges of a broadcast tree and its parents.
use Rattle.std.proofs.Common.{◌≡◌, ◌≢◌, ℕ, suc, zero, ◌+◌, ◌-◌, ◌<◌, true, refl, sym, ◌∙◌, ap, subst, arith, Some}
use Rattle.std.proofs.lemmas.Bool.{and_parts}
use Rattle.std.proofs.lemmas.Bool.Decides.{nat_tests}
use Rattle.mesh_gen.specs.declared.port.Port.{Port}
use Rattle.mesh_gen.specs.declared.port.Port.TheVariants.{L, E, W, N, S}
use Rattle.mesh_gen.specs.Grid.{Grid, tiles, x_of, y_of, neighbour, distance}
use Rattle.mesh_gen.specs.Ports.{opposite}
use Rattle.mesh_gen.specs.Routes.{HasTiles}
use Rattle.mesh_gen.specs.Tree.{goes_on, leaves_by, parent_port, tree_parent, ancestor, Edge, IsEnteredOnce}
use Rattle.mesh_gen.proofs.Coordinates.{x_below, y_below, same_tile}
use Rattle.mesh_gen.proofs.Beside.{Beside, beside, neighbour_inside, neighbour_back, east_of, west_of, north_of, south_of, opposite-opposite}

-- ---- an edge is a way of the tree, by a side
pub edge_goes_on : (g : Grid) (s r : ℕ) (out : Port) (n : ℕ) → Edge g s r out n → goes_on g s r out ≡ true
edge_goes_on g s r L n edge = refl
edge_goes_on g s r E n edge = (and_parts _ _ edge.leaves).0
edge_goes_on g s r W n edge = (and_parts _ _ edge.leaves).0
edge_goes_on g s r N n edge = (and_parts _ _ edge.leaves).0
edge_goes_on g s r S n edge = (and_parts _ _ edge.leaves).0

pub edge_of : (g : Grid) (s r : ℕ) (out : Port) (n : ℕ) → goes_on g s r out ≡ true → neighbour g r out ≡ Some n → Edge g s r out n
edge_of g s r out n goes next = record { leaves = leaves out goes next; next = next }
  where
    leaves : (out : Port) → goes_on g s r out ≡ true → neighbour g r out ≡ Some n → leaves_by g s r out ≡ true
    leaves L goes next = refl
    leaves E goes next = rw (goes, next)
    leaves W goes next = rw (goes, next)
    leaves N goes next = rw (goes, next)
    leaves S goes next = rw (goes, next)

-- ---- an edge comes from the parent
pub parent_port_of : (g : Grid) (s r : ℕ) (out : Port) (n : ℕ) → goes_on g s r out ≡ true → Beside g r out n → parent_port g s n ≡ opposite out
parent_port_of g s r L n goes stands = absurd stands
parent_port_of g s r E n goes stands = grind (arith, nat_tests)
parent_port_of g s r W n goes stands = grind (arith, nat_tests)
parent_port_of g s r N n goes stands = grind (arith, nat_tests)
parent_port_of g s r S n goes stands = grind (arith, nat_tests)

edge_side : (g : Grid) (s r : ℕ) (out : Port) (n : ℕ) → HasTiles g → Edge g s r out n → parent_port g s n ≡ opposite out
edge_side g s r out n some edge = parent_port_of g s r out n (edge_goes_on g s r out n edge) (beside g r out n some edge.next)

pub parent_of : (g : Grid) (s r : ℕ) (out : Port) (n : ℕ) → HasTiles g → Edge g s r out n → tree_parent g s n ≡ Some r
parent_of g s r out n some edge = rw (edge_side g s r out n some edge) (neighbour_back g r out n some edge.next)

-- two edges into one router are one edge
pub edge_once : (g : Grid) (s r : ℕ) (p : Port) (u : ℕ) (q : Port) (n : ℕ) → HasTiles g → Edge g s r p n → Edge g s u q n → (r ≡ u) × (p ≡ q)
edge_once g s r p u q n some first second = (
  cc (parent_of g s r p n some first, parent_of g s u q n some second),
  sym (opposite-opposite p) ∙ ap opposite (sym (edge_side g s r p n some first) ∙ edge_side g s u q n some second) ∙ opposite-opposite q,
)

-- no edge enters the source
pub source_free : (g : Grid) (s r : ℕ) (p : Port) → HasTiles g → Edge g s r p s → ⊥
source_free g s r p some edge = none p (edge_goes_on g s r p s edge) (beside g r p s some edge.next)
  where
    none : (p : Port) → goes_on g s r p ≡ true → Beside g r p s → ⊥
    none L goes stands = stands
    none E goes stands = grind (arith, nat_tests)
    none W goes stands = grind (arith, nat_tests)
    none N goes stands = grind (arith, nat_tests)
    none S goes stands = grind (arith, nat_tests)

-- ---- each router but the source has a parent

-- what the side of the parent says of columns and rows
abbrev ParentHeads : Grid → ℕ → ℕ → Port → Type 0
ParentHeads g s n L = (x_of g n ≡ x_of g s) × (y_of g n ≡ y_of g s)
ParentHeads g s n E = (y_of g n ≡ y_of g s) × (x_of g n < x_of g s)
ParentHeads g s n W = (y_of g n ≡ y_of g s) × (x_of g s < x_of g n)
ParentHeads g s n N = y_of g s < y_of g n
ParentHeads g s n S = y_of g n < y_of g s

parent_heads : (g : Grid) (s n : ℕ) (side : Port) → parent_port g s n ≡ side → ParentHeads g s n side
parent_heads g s n L is = grind (arith, nat_tests)
parent_heads g s n E is = grind (arith, nat_tests)
parent_heads g s n W is = grind (arith, nat_tests)
parent_heads g s n N is = grind (arith, nat_tests)
parent_heads g s n S is = grind (arith, nat_tests)

parent_stands : (g : Grid) (s n : ℕ) (side : Port) → HasTiles g → s < tiles g → n < tiles g → n ≢ s → ParentHeads g s n side → (u : ℕ) × (neighbour g n side ≡ Some u)
parent_stands g s n L some source inside other heads = absurd (other (same_tile g n s heads.0 heads.1))
parent_stands g s n E some source inside other heads = (n + 1, east_of g n inside (omega (arith, x_below g s some)))
parent_stands g s n W some source inside other heads = (n - 1, west_of g n inside (omega arith))
parent_stands g s n N some source inside other heads = (n - g.cols, north_of g n inside (omega arith))
parent_stands g s n S some source inside other heads = (n + g.cols, south_of g n inside (omega (arith, y_below g s some source)))

-- the tree goes on from the parent, which is nearer
goes_back : (g : Grid) (s n : ℕ) (side : Port) (u : ℕ) → ParentHeads g s n side → Beside g n side u → goes_on g s u (opposite side) ≡ true
goes_back g s n L u heads stands = absurd stands
goes_back g s n E u heads stands = grind (arith, nat_tests)
goes_back g s n W u heads stands = grind (arith, nat_tests)
goes_back g s n N u heads stands = grind (arith, nat_tests)
goes_back g s n S u heads stands = grind (arith, nat_tests)

parent_nearer : (g : Grid) (s n : ℕ) (side : Port) (u : ℕ) → ParentHeads g s n side → Beside g n side u → distance g s n ≡ distance g s u + 1
parent_nearer g s n L u heads stands = absurd stands
parent_nearer g s n E u heads stands = omega arith
parent_nearer g s n W u heads stands = omega arith
parent_nearer g s n N u heads stands = omega arith
parent_nearer g s n S u heads stands = omega arith

pub entered : (g : Grid) (s n : ℕ) → HasTiles g → s < tiles g → n < tiles g → n ≢ s → IsEnteredOnce g s n
entered g s n some source inside other =
    let side = parent_port g s n in
    let heads = parent_heads g s n side refl in
    let from = parent_stands g s n side some source inside other heads in
    let stands = beside g n side from.0 some from.1 in
    let edge = edge_of g s from.0 (opposite side) n (goes_back g s n side from.0 heads stands) (neighbour_back g n side from.0 some from.1) in
    record {
      from = from.0;
      out = opposite side;
      edge = edge;
      only = λ r p second. edge_once g s r p from.0 (opposite side) n some second edge;
      parent = from.1;
      inside = neighbour_inside g n side from.0 some from.1;
      nearer = parent_nearer g s n side from.0 heads stands;
    }

-- ---- following parents leads to the source, in as many steps as there are hops
pub parents_lead : (g : Grid) (s : ℕ) (hops n : ℕ) → HasTiles g → s < tiles g → n < tiles g → distance g s n ≡ hops → ancestor g s hops n ≡ Some s
parents_lead g s zero n some source inside is = ap Some (same_tile g n s (omega arith) (omega arith))
parents_lead g s (suc hops) n some source inside is =
    let edge = entered g s n some source inside (λ same. far same) in
    rw (edge.parent, ancestor) (parents_lead g s hops edge.from some source edge.inside (let nearer = edge.nearer in omega arith))
  where
    far : n ≡ s → ⊥
    far same = let none : distance g s s ≡ suc hops = subst (λ (u : ℕ). distance g s u ≡ suc hops) same is in omega arith
