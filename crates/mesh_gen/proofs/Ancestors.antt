-- The routers from which a tree leads to a router stand on its way to the source.
use Rattle.std.proofs.Common.{◌≡◌, ℕ, suc, zero, ◌<◌, refl, sym, subst, Option, Some, None}
use Rattle.std.proofs.lemmas.Bool.Decides.{nat_tests}
use Rattle.std.proofs.Common.{arith}
use Rattle.mesh_gen.specs.declared.port.Port.{Port}
use Rattle.mesh_gen.specs.declared.port.Port.TheVariants.{L}
use Rattle.mesh_gen.specs.Grid.{Grid, tiles}
use Rattle.mesh_gen.specs.Routes.{HasTiles}
use Rattle.mesh_gen.specs.Tree.{tree_parent, ancestor, Edge, Leads, here, there}
use Rattle.mesh_gen.proofs.TreeEdges.{parent_of, entered}

-- one parent more
ancestor_further : (g : Grid) (s k v n r : ℕ) → ancestor g s k v ≡ Some n → tree_parent g s n ≡ Some r → ancestor g s (suc k) v ≡ Some r
ancestor_further g s zero v n r up parent =
    let same : v ≡ n = cc in
    let parent_v : tree_parent g s v ≡ Some r = subst (λ (u : ℕ). tree_parent g s u ≡ Some r) (sym same) parent in
    rw (parent_v, ancestor)
ancestor_further g s (suc k) v n r up parent = by_parent (tree_parent g s v) refl (λ u above. ancestor_further g s k u n r above parent)
  where
    by_parent : (found : Option ℕ) → tree_parent g s v ≡ found → ((u : ℕ) → ancestor g s k u ≡ Some n → ancestor g s (suc k) u ≡ Some r) → ancestor g s (suc (suc k)) v ≡ Some r
    by_parent None is further = let none : None ≡ Some n = rw (is, ancestor) at up in cc
    by_parent (Some u) is further = rw (is, ancestor) (further u (rw (is, ancestor) at up))

pub ancestor_from_leads : (g : Grid) (s r v : ℕ) (p : Port) → HasTiles g → Leads g s r p v → (k : ℕ) × (ancestor g s k v ≡ Some r)
ancestor_from_leads g s r v p some here = (0, refl)
ancestor_from_leads g s r v p some (there {n = n} {next = q} edge leads) =
    let after = ancestor_from_leads g s n v q some leads in
    (suc after.0, ancestor_further g s after.0 v n r after.1 (parent_of g s r p n some edge))

-- one edge more at the far end
leads_further : (g : Grid) (s r v w : ℕ) (p q : Port) → Leads g s r p v → Edge g s v q w → (out : Port) × Leads g s r out w
leads_further g s r v w p q here edge = (q, there edge here)
leads_further g s r v w p q (there {n = n} {next = next} first leads) edge = let after = leads_further g s n v w next q leads edge in (p, there first after.1)

no_parent : (g : Grid) (s : ℕ) → tree_parent g s s ≡ None
no_parent g s = grind (arith, nat_tests)

pub leads_from_ancestor : (g : Grid) (s k v r : ℕ) → HasTiles g → s < tiles g → v < tiles g → ancestor g s k v ≡ Some r → (p : Port) × Leads g s r p v
leads_from_ancestor g s zero v r some source inside up = let same : v ≡ r = cc in (L, subst (λ (u : ℕ). Leads g s u L v) same here)
leads_from_ancestor g s (suc k) v r some source inside up = by_parent (tree_parent g s v) refl (λ u inside_u above. leads_from_ancestor g s k u r some source inside_u above)
  where
    by_parent : (found : Option ℕ) → tree_parent g s v ≡ found → ((u : ℕ) → u < tiles g → ancestor g s k u ≡ Some r → (p : Port) × Leads g s r p u) → (p : Port) × Leads g s r p v
    by_parent None is after = let none : None ≡ Some r = rw (is, ancestor) at up in cc
    by_parent (Some u) is after =
        let last = entered g s v some source inside (λ own. let none : tree_parent g s v ≡ None = rw own (no_parent g s) in cc) in
        let same : last.from ≡ u = cc (last.parent, is) in
        let leads = after u (rw (← same) last.inside) (rw (is, ancestor) at up) in
        leads_further g s r u v leads.0 last.out leads.1 (rw (← same) last.edge)
