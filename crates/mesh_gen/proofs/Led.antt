-- Where the edges of a tree lead, and which tiles stand there by columns and rows.
use Rattle.std.proofs.Common.{◌≡◌, ◌≢◌, ℕ, suc, zero, ◌+◌, ◌<◌, Bool, true, false, refl, sym, ap, subst, arith, Option, Some, None, ◌⊎◌, inl, inr}
use Rattle.std.specs.Prelude.{is_some}
use Rattle.std.proofs.lemmas.Bool.{and_parts, eqb-true, eq-eqb}
use Rattle.std.proofs.lemmas.Bool.Decides.{nat_tests}
use Rattle.mesh_gen.specs.declared.port.Port.{Port}
use Rattle.mesh_gen.specs.declared.port.Port.TheVariants.{L, E, W, N, S}
use Rattle.mesh_gen.specs.Grid.{Grid, tiles, x_of, y_of, neighbour, distance}
use Rattle.mesh_gen.specs.Ports.{count_if}
use Rattle.mesh_gen.specs.Routes.{HasTiles}
use Rattle.mesh_gen.specs.Tree.{leaves_by, covers, outputs_to, Edge, Leads, here, there}
use Rattle.mesh_gen.proofs.Beside.{Beside, beside, neighbour_inside}
use Rattle.mesh_gen.proofs.Serves.{outputs_to-edge, covers_leaves}

-- a port that serves a tile is one way to it
some_way : (g : Grid) (s r v : ℕ) (p : Port) → covers g s r v p ≡ true → 0 < outputs_to g s r v
some_way g s r v L serves = omega (arith, ap count_if serves)
some_way g s r v E serves = omega (arith, ap count_if serves)
some_way g s r v W serves = omega (arith, ap count_if serves)
some_way g s r v N serves = omega (arith, ap count_if serves)
some_way g s r v S serves = omega (arith, ap count_if serves)

counted : (holds : Bool) → 0 < count_if holds → holds ≡ true
counted true some = refl
counted false some = absurd (omega arith)

-- where there is a way, some port serves the tile
pub way_of : (g : Grid) (s r v : ℕ) → 0 < outputs_to g s r v → (p : Port) × (covers g s r v p ≡ true)
way_of g s r v some = pick (covers g s r v L) (covers g s r v E) (covers g s r v W) (covers g s r v N) (covers g s r v S) refl refl refl refl refl some
  where
    pick : (l e w n u : Bool) → covers g s r v L ≡ l → covers g s r v E ≡ e → covers g s r v W ≡ w → covers g s r v N ≡ n → covers g s r v S ≡ u → 0 < count_if l + count_if e + count_if w + count_if n + count_if u → (p : Port) × (covers g s r v p ≡ true)
    pick true e w n u is_l is_e is_w is_n is_u some = (L, is_l)
    pick false true w n u is_l is_e is_w is_n is_u some = (E, is_e)
    pick false false true n u is_l is_e is_w is_n is_u some = (W, is_w)
    pick false false false true u is_l is_e is_w is_n is_u some = (N, is_n)
    pick false false false false true is_l is_e is_w is_n is_u some = (S, is_u)
    pick false false false false false is_l is_e is_w is_n is_u some = absurd (omega arith)

-- where the tree leads, it serves
pub covers_from_leads : (g : Grid) (s r v : ℕ) (p : Port) → HasTiles g → Leads g s r p v → covers g s r v p ≡ true
covers_from_leads g s r v p some here = eq-eqb r r refl
covers_from_leads g s r v p some (there {n = n} {next = q} edge leads) =
    let after = covers_from_leads g s n v q some leads in
    counted _ (omega (arith, some_way g s n v q after, outputs_to-edge g s r n v p some edge))

-- ---- what is served is led to: by induction on the distance

served_nearer : (g : Grid) (s r v : ℕ) (p : Port) (n : ℕ) → Beside g r p n → covers g s r v p ≡ true → distance g r v ≡ distance g n v + 1
served_nearer g s r v L n stands serves = absurd stands
served_nearer g s r v E n stands serves = let east = is_east serves in omega arith
  where
    is_east : covers g s r v E ≡ true → x_of g r < x_of g v
    is_east serves = grind (arith, nat_tests)
served_nearer g s r v W n stands serves = let west = is_west serves in omega arith
  where
    is_west : covers g s r v W ≡ true → x_of g v < x_of g r
    is_west serves = grind (arith, nat_tests)
served_nearer g s r v N n stands serves = let north = is_north serves in omega arith
  where
    is_north : covers g s r v N ≡ true → (x_of g v ≡ x_of g r) × (y_of g v < y_of g r)
    is_north serves = grind (arith, nat_tests)
served_nearer g s r v S n stands serves = let south = is_south serves in omega arith
  where
    is_south : covers g s r v S ≡ true → (x_of g v ≡ x_of g r) × (y_of g r < y_of g v)
    is_south serves = grind (arith, nat_tests)

is_there : (found : Option ℕ) → is_some found ≡ true → (n : ℕ) × (found ≡ Some n)
is_there None some = cc
is_there (Some n) some = (n, refl)

-- a side of the tree is an edge
pub edge_from : (g : Grid) (s r : ℕ) (p : Port) → p ≢ L → leaves_by g s r p ≡ true → (n : ℕ) × Edge g s r p n
edge_from g s r p side leaves = let found = is_there _ (stands p side leaves) in (found.0, record { leaves = leaves; next = found.1 })
  where
    stands : (p : Port) → p ≢ L → leaves_by g s r p ≡ true → is_some (neighbour g r p) ≡ true
    stands L side leaves = absurd (side refl)
    stands E side leaves = (and_parts _ _ leaves).1
    stands W side leaves = (and_parts _ _ leaves).1
    stands N side leaves = (and_parts _ _ leaves).1
    stands S side leaves = (and_parts _ _ leaves).1

-- the first edge of the way to a tile that is served by a side
record FirstEdge (g : Grid) (s r v : ℕ) (p : Port) : Type 0 where
  entered : ℕ
  next : Port
  edge : Edge g s r p entered
  serves : covers g s entered v next ≡ true
  nearer : distance g r v ≡ distance g entered v + 1

first_edge : (g : Grid) (s r v : ℕ) (p : Port) → HasTiles g → r < tiles g → v < tiles g → p ≢ L → covers g s r v p ≡ true → FirstEdge g s r v p
first_edge g s r v p some inside reached side serves =
    let edge = edge_from g s r p side (covers_leaves g s r v p some inside reached serves) in
    let next = way_of g s edge.0 v (rw (outputs_to-edge g s r edge.0 v p some edge.1, serves) (one_positive)) in
    record {
      entered = edge.0;
      next = next.0;
      edge = edge.1;
      serves = next.1;
      nearer = served_nearer g s r v p edge.0 (beside g r p edge.0 some edge.1.next) serves;
    }
  where
    one_positive : 0 < 1
    one_positive = omega arith

own_or_side : (p : Port) → (p ≡ L) ⊎ (p ≢ L)
own_or_side L = inl refl
own_or_side E = inr (λ same. cc)
own_or_side W = inr (λ same. cc)
own_or_side N = inr (λ same. cc)
own_or_side S = inr (λ same. cc)

leads_at : (g : Grid) (s v hops r : ℕ) (p : Port) → HasTiles g → v < tiles g → r < tiles g → distance g r v ≡ hops → covers g s r v p ≡ true → (p ≡ L) ⊎ (p ≢ L) → Leads g s r p v
leads_at g s v hops r p some reached inside is serves (inl own) =
    let same = eqb-true r v (subst (λ (q : Port). covers g s r v q ≡ true) own serves) in
    subst (λ (q : Port). Leads g s r q v) (sym own) (subst (λ (u : ℕ). Leads g s r L u) same here)
leads_at g s v zero r p some reached inside is serves (inr side) = let first = first_edge g s r v p some inside reached side serves in absurd (let nearer = first.nearer in omega arith)
leads_at g s v (suc hops) r p some reached inside is serves (inr side) =
    let first = first_edge g s r v p some inside reached side serves in
    there first.edge
    (leads_at g s v hops first.entered first.next some reached (neighbour_inside g r p first.entered some first.edge.next) (let nearer = first.nearer in omega arith) first.serves (own_or_side first.next))

pub leads_from_covers : (g : Grid) (s r v : ℕ) (p : Port) → HasTiles g → r < tiles g → v < tiles g → covers g s r v p ≡ true → Leads g s r p v
leads_from_covers g s r v p some inside reached serves = leads_at g s v (distance g r v) r p some reached inside refl serves (own_or_side p)
