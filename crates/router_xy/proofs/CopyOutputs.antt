-- By how many ports a copy serves a tile, and what is left of a copy on its tree.
use Rattle.std.proofs.Common.{◌≡◌, ℕ, ◌+◌, ◌<◌, ◌≤◌, Bool, true, false, refl, sym, ◌∙◌, ap, subst, arith, ⊎_elim, Option, Some, None}
use Rattle.std.specs.Prelude.{◌&&◌, ◌==◌, nat_lt, nat_le, if◌then◌else◌}
use Rattle.std.proofs.lemmas.Bool.{cases_eq, cases_order, ne_eqb, and_parts, eqb-true}
use Rattle.std.proofs.lemmas.Bool.Decides.{nat_tests}
use Rattle.mesh_gen.specs.declared.request.Request.{Request}
use Rattle.mesh_gen.specs.declared.port.Port.{Port}
use Rattle.mesh_gen.specs.declared.port.Port.TheVariants.{L, E, W, N, S}
use Rattle.mesh_gen.specs.Grid.{Grid, tiles, x_of, y_of}
use Rattle.mesh_gen.specs.Ports.{has, without_port, count_if, count_ports}
use Rattle.mesh_gen.specs.PortSets.{bits_of, ports_of}
use Rattle.mesh_gen.specs.Routes.{HasTiles}
use Rattle.mesh_gen.specs.Tree.{tree_outs, covers, outputs_to}
use Rattle.mesh_gen.proofs.PortBits.{has-without_port, without_port_below, some_port}
use Rattle.mesh_gen.proofs.Serves.{covers_leaves}
use Rattle.mesh_gen.proofs.TreeOuts.{has-tree_outs, tree_outs_below}
use Rattle.vc_bank.specs.Places.{weight}
use Rattle.chip_model.specs.declared.net_copy.NetCopy.{NetCopy}
use Rattle.chip_model.specs.Copies.{Name, is_named, name_of, arriving, copy_owing, left_by, owes}
use Rattle.chip_model.specs.CopiesOwed.{outputs_owed, IsOnTree}

-- ---- the ways to a tile by the ports of a set
abbrev pub outputs_by : Grid → ℕ → ℕ → ℕ → ℕ → ℕ
outputs_by g s r tile ports = count_ports (λ out. has ports out && covers g s r tile out)

stays : (owed serves : Bool) → count_if ((owed && true) && serves) ≡ count_if (owed && serves)
stays true serves = refl
stays false serves = refl

goes : (owed serves : Bool) → count_if ((owed && false) && serves) ≡ 0
goes true serves = refl
goes false serves = refl

-- without a port, what is served by that port is served no more
ways-without : (g : Grid) (s r tile ports : ℕ) (out : Port) → ports < 32 → has ports out ≡ true → outputs_by g s r tile ports ≡ outputs_by g s r tile (without_port ports out) + count_if (covers g s r tile out)
ways-without g s r tile ports L below owed =
    rw (has-without_port ports L L, has-without_port ports E L, has-without_port ports W L, has-without_port ports N L, has-without_port ports S L, owed) (omega (arith, stays, goes))
ways-without g s r tile ports E below owed =
    rw (has-without_port ports L E, has-without_port ports E E, has-without_port ports W E, has-without_port ports N E, has-without_port ports S E, owed) (omega (arith, stays, goes))
ways-without g s r tile ports W below owed =
    rw (has-without_port ports L W, has-without_port ports E W, has-without_port ports W W, has-without_port ports N W, has-without_port ports S W, owed) (omega (arith, stays, goes))
ways-without g s r tile ports N below owed =
    rw (has-without_port ports L N, has-without_port ports E N, has-without_port ports W N, has-without_port ports N N, has-without_port ports S N, owed) (omega (arith, stays, goes))
ways-without g s r tile ports S below owed =
    rw (has-without_port ports L S, has-without_port ports E S, has-without_port ports W S, has-without_port ports N S, has-without_port ports S S, owed) (omega (arith, stays, goes))

ways-none : (g : Grid) (s r tile : ℕ) → outputs_by g s r tile 0 ≡ 0
unfolding has
ways-none g s r tile = refl

both : (owed serves : Bool) → (serves ≡ true → owed ≡ true) → count_if (owed && serves) ≡ count_if serves
both true serves so = refl
both false true so = let owed : false ≡ true = so refl in cc
both false false so = refl

-- the ports of the tree serve a tile in all its ways
pub ways-tree : (g : Grid) (s r tile : ℕ) → HasTiles g → r < tiles g → tile < tiles g → outputs_by g s r tile (tree_outs g s r) ≡ outputs_to g s r tile
ways-tree g s r tile some inside reached = omega (arith, one L, one E, one W, one N, one S)
  where
    one : (p : Port) → count_if (has (tree_outs g s r) p && covers g s r tile p) ≡ count_if (covers g s r tile p)
    one p = both _ _ (λ serves. has-tree_outs g s r p ∙ covers_leaves g s r tile p some inside reached serves)

-- no set of ports serves a tile in more ways
part : (owed serves : Bool) → count_if (owed && serves) ≤ count_if serves
part true serves = omega arith
part false true = omega arith
part false false = omega arith

pub ways-le : (g : Grid) (s r tile ports : ℕ) → outputs_by g s r tile ports ≤ outputs_to g s r tile
ways-le g s r tile ports =
    omega (arith, part (has ports L) (covers g s r tile L), part (has ports E) (covers g s r tile E), part (has ports W) (covers g s r tile W), part (has ports N) (covers g s r tile N), part (has ports S) (covers g s r tile S))

-- and a router serves it in one way at most: to the east, to the west, or in its own column
abbrev ways_at : Bool → ℕ → ℕ → ℕ → ℕ → ℕ → ℕ → ℕ
ways_at own xs ys xr yr xv yv =
    count_if own + count_if ((yr == ys) && (nat_le xs xr && nat_lt xr xv)) + count_if ((yr == ys) && (nat_le xr xs && nat_lt xv xr)) + count_if (nat_le yr ys && ((xv == xr) && nat_lt yv yr)) + count_if (nat_le ys yr && ((xv == xr) && nat_lt yr yv))

outputs_east : (own : Bool) (xs ys xr yr xv yv : ℕ) → (own ≡ true → (xr ≡ xv) × (yr ≡ yv)) → xr < xv → ways_at own xs ys xr yr xv yv ≤ 1
outputs_east own xs ys xr yr xv yv here east = grind (arith, nat_tests)

outputs_west : (own : Bool) (xs ys xr yr xv yv : ℕ) → (own ≡ true → (xr ≡ xv) × (yr ≡ yv)) → xv < xr → ways_at own xs ys xr yr xv yv ≤ 1
outputs_west own xs ys xr yr xv yv here west = grind (arith, nat_tests)

outputs_in_column : (own : Bool) (xs ys xr yr xv yv : ℕ) → (own ≡ true → (xr ≡ xv) × (yr ≡ yv)) → xr ≡ xv → ways_at own xs ys xr yr xv yv ≤ 1
outputs_in_column own xs ys xr yr xv yv here column = grind (arith, nat_tests)

pub outputs_to-le : (g : Grid) (s r tile : ℕ) → outputs_to g s r tile ≤ 1
outputs_to-le g s r tile = ⊎_elim
    (λ column. outputs_in_column (r == tile) (x_of g s) (y_of g s) (x_of g r) (y_of g r) (x_of g tile) (y_of g tile) here column)
    (λ sides. ⊎_elim
    (λ east. outputs_east (r == tile) (x_of g s) (y_of g s) (x_of g r) (y_of g r) (x_of g tile) (y_of g tile) here east)
    (λ west. outputs_west (r == tile) (x_of g s) (y_of g s) (x_of g r) (y_of g r) (x_of g tile) (y_of g tile) here west)
    sides)
    (cases_order (x_of g r) (x_of g tile))
  where
    here : (r == tile) ≡ true → (x_of g r ≡ x_of g tile) × (y_of g r ≡ y_of g tile)
    here same = let one = eqb-true r tile same in (ap (x_of g) one, ap (y_of g) one)

-- ---- what counts for the requests of one name
abbrev pub for_name : Name → Request → ℕ → ℕ
for_name name q count = if is_named name q then count else 0

for_name-add : (name : Name) (q : Request) (all a b : ℕ) → all ≡ a + b → for_name name q all ≡ for_name name q a + for_name name q b
for_name-add name q all a b is = by (is_named name q)
  where
    by : (named : Bool) → (if named then all else 0) ≡ (if named then a else 0) + (if named then b else 0)
    by true = is
    by false = refl

pub for_name-le : (name : Name) (q : Request) (less more : ℕ) → less ≤ more → for_name name q less ≤ for_name name q more
for_name-le name q less more below = by (is_named name q)
  where
    by : (named : Bool) → (if named then less else 0) ≤ (if named then more else 0)
    by true = below
    by false = omega arith

for_name-zero : (name : Name) (q : Request) → for_name name q 0 ≡ 0
for_name-zero name q = by (is_named name q)
  where
    by : (named : Bool) → ◌≡◌ {A = ℕ} (if named then 0 else 0) 0
    by true = refl
    by false = refl

pub for_name-yes : (name : Name) (q : Request) (count : ℕ) → is_named name q ≡ true → for_name name q count ≡ count
for_name-yes name q count is = rw is

pub for_name-no : (name : Name) (q : Request) (count : ℕ) → is_named name q ≡ false → for_name name q count ≡ 0
for_name-no name q count is = rw is

-- a request has one name
pub name_is : (name : Name) (q : Request) → is_named name q ≡ true → ◌≡◌ {A = Name} (name_of q) name
name_is name q is = let parts = and_parts _ _ is in rw (eqb-true q.source name.0 parts.0, eqb-true q.number name.1 parts.1)

-- ---- the ways in which one copy owes a tile: what `owing` sums
abbrev pub owed_by : Grid → Name → ℕ → ℕ → ℕ → ℕ → NetCopy → ℕ
owed_by g name tile router port slot copy = for_name name copy.request (outputs_owed g copy router tile)

weight-owing : (g : Grid) (name : Name) (tile r p slot : ℕ) (q : Request) (ports : ℕ) → weight (owed_by g name tile r p slot) (copy_owing q ports) ≡ for_name name q (outputs_by g q.source r tile ports)
weight-owing g name tile r p slot q ports = ⊎_elim
    (λ none. subst (λ (n : ℕ). weight (owed_by g name tile r p slot) (copy_owing q n) ≡ for_name name q (outputs_by g q.source r tile n)) (sym none) nothing)
    (λ some. rw (ne_eqb ports 0 some))
    (cases_eq ports 0)
  where
    nothing : 0 ≡ for_name name q (outputs_by g q.source r tile 0)
    nothing = sym (ap (for_name name q) (ways-none g q.source r tile) ∙ for_name-zero name q)

-- a copy that leaves by a port owes what it owed, but for the tiles beyond that port
pub owed_by-left : (g : Grid) (name : Name) (tile r p slot : ℕ) (out : Port) (copy : NetCopy) → IsOnTree g r copy → owes copy out ≡ true
    → owed_by g name tile r p slot copy ≡ weight (owed_by g name tile r p slot) (left_by out copy) + for_name name copy.request (count_if (covers g copy.request.source r tile out))
owed_by-left g name tile r p slot out copy on owed =
    for_name-add name copy.request _ _ _ (ways-without g copy.request.source r tile (bits_of copy.owed) out on.ports owed)
    ∙ ap (λ (rest : ℕ). rest + for_name name copy.request (count_if (covers g copy.request.source r tile out))) (sym (weight-owing g name tile r p slot copy.request (without_port (bits_of copy.owed) out)))

-- ---- copies on their trees
pub some_is : (a b : NetCopy) → ◌≡◌ {A = Option NetCopy} (Some a) (Some b) → a ≡ b
some_is a b same = cc

left_is : (out : Port) (copy left : NetCopy) → left_by out copy ≡ Some left → (left ≡ record { request = copy.request; owed = ports_of (without_port (bits_of copy.owed) out) }) × (0 < without_port (bits_of copy.owed) out)
left_is out copy left is = by (without_port (bits_of copy.owed) out) is
  where
    by : (ports : ℕ) → copy_owing copy.request ports ≡ Some left → (left ≡ record { request = copy.request; owed = ports_of ports }) × (0 < ports)
    by ports is = ⊎_elim
        (λ none. let gone : None ≡ Some left = subst (λ (n : ℕ). copy_owing copy.request n ≡ Some left) none is in cc)
        (λ some. (sym (some_is (record { request = copy.request; owed = ports_of ports }) left (rw (ne_eqb ports 0 some) at is)), omega arith))
        (cases_eq ports 0)

-- what is left of a copy is of the same request
pub left_request : (out : Port) (copy left : NetCopy) → left_by out copy ≡ Some left → left.request ≡ copy.request
left_request out copy left is = ap (λ (c : NetCopy). c.request) (left_is out copy left is).0

-- and stands on its tree as the copy did
pub stands_left : (g : Grid) (r : ℕ) (out : Port) (copy left : NetCopy) → IsOnTree g r copy → left_by out copy ≡ Some left → IsOnTree g r left
stands_left g r out copy left on is =
    let parts = left_is out copy left is in
    let below = without_port_below (bits_of copy.owed) out on.ports in
    subst (λ (c : NetCopy). IsOnTree g r c) (sym parts.0) (record {
      source = on.source;
      inside = on.inside;
      ports = below;
      outs = λ p owed. on.outs p (and_parts _ _ (sym (has-without_port (bits_of copy.owed) p out on.ports) ∙ owed)).0;
      some = some_port (without_port (bits_of copy.owed) out) below parts.1;
    })

-- a copy that comes to a router stands on its tree
pub stands_arriving : (g : Grid) (r : ℕ) (q : Request) → q.source < tiles g → r < tiles g → IsOnTree g r (arriving g r q)
stands_arriving g r q source inside = record {
  source = source;
  inside = inside;
  ports = tree_outs_below g q.source r;
  outs = λ p owed. sym (has-tree_outs g q.source r p) ∙ owed;
  some = (L, has-tree_outs g q.source r L);
}
