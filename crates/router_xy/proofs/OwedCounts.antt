-- How a copy that leaves a channel or comes to one, and so each step of the routers, changes what tiles are owed.
use Rattle.std.proofs.Common.{◌≡◌, ℕ, ◌+◌, ◌<◌, ◌≤◌, Bool, true, false, refl, sym, ◌∙◌, ap, subst, arith, ⊎_elim, Option, Some, None}
use Rattle.std.specs.Prelude.{◌&&◌, ◌==◌, if◌then◌else◌}
use Rattle.std.proofs.lemmas.Bool.{cases_Bool}
use Rattle.std.proofs.lemmas.Bool.Decides.{nat_tests}
use Rattle.std.proofs.lemmas.Option.{get_or_from_slice_get}
use Rattle.mesh_gen.specs.declared.request.Request.{Request}
use Rattle.mesh_gen.specs.declared.port.Port.{Port}
use Rattle.mesh_gen.specs.declared.port.Port.TheVariants.{L}
use Rattle.mesh_gen.specs.Grid.{Grid, tiles, neighbour}
use Rattle.mesh_gen.specs.Ports.{count_if}
use Rattle.mesh_gen.specs.Routes.{HasTiles}
use Rattle.mesh_gen.specs.Tree.{tree_outs, covers, outputs_to}
use Rattle.mesh_gen.proofs.Serves.{outputs_to-source, outputs_to-edge}
use Rattle.vc_bank.specs.Channels.{slots_at, IsFree}
use Rattle.vc_bank.specs.Places.{Network, slots, at, put, HasPlace, weight, weigh}
use Rattle.vc_bank.proofs.PlaceLaws.{weigh-put, weigh_none, place_of}
use Rattle.vc_bank.proofs.SlotWrites.{free_within}
use Rattle.chip_model.specs.declared.net_copy.NetCopy.{NetCopy}
use Rattle.chip_model.specs.Copies.{Name, is_named, name_of, channels_of, arriving, left_by, owes}
use Rattle.chip_model.specs.CopiesOwed.{owing, IsOnTree, OwesMore, OwesSame, OwesLess}
use Rattle.router_xy.specs.RequestNetwork.{IsAbsent}
use Rattle.router_xy.proofs.CopyOutputs.{outputs_by, ways-tree, ways-le, for_name, for_name-le, for_name-yes, for_name-no, name_is, owed_by, owed_by-left}

-- ---- the two writes of which the steps are made

-- a copy leaves its channel by a port that it owes
pub record Leaves (net new : Network NetCopy) (r p slot : ℕ) (out : Port) (copy : NetCopy) (left : Option NetCopy) : Type 0 where
  pub stands : at net r p slot ≡ Some copy
  pub owed : owes copy out ≡ true
  pub left_is : left ≡ left_by out copy
  pub made : new ≡ put net r p slot left

-- a copy of a request comes to a free channel
pub record Arrives (g : Grid) (net new : Network NetCopy) (r p slot : ℕ) (q : Request) (copy : NetCopy) : Type 0 where
  pub free : IsFree (channels_of net r) p slot
  pub copy_is : copy ≡ arriving g r q
  pub made : new ≡ put net r p slot (Some copy)

pub free_place : (net : Network NetCopy) (r p slot : ℕ) → IsFree (channels_of net r) p slot → HasPlace net r p slot
unfolding slots
free_place net r p slot free = free_within (channels_of net r) p slot free

nothing_at : (net : Network NetCopy) (r p slot : ℕ) → IsFree (channels_of net r) p slot → at net r p slot ≡ None
unfolding at
nothing_at net r p slot free = get_or_from_slice_get (slots_at (channels_of net r) p) slot None None free

-- ---- the weight of each
pub weigh-leave : (f : ℕ → ℕ → ℕ → NetCopy → ℕ) (net : Network NetCopy) (r p slot : ℕ) (copy : NetCopy) (left : Option NetCopy) (gone : ℕ) → at net r p slot ≡ Some copy → f r p slot copy ≡ weight (f r p slot) left + gone
    → weigh f (put net r p slot left) + gone ≡ weigh f net
weigh-leave f net r p slot copy left gone stands parts =
    let change : weigh f (put net r p slot left) + f r p slot copy ≡ weigh f net + weight (f r p slot) left =
    subst (λ (was : Option NetCopy). weigh f (put net r p slot left) + weight (f r p slot) was ≡ weigh f net + weight (f r p slot) left) stands (weigh-put f net r p slot left (place_of net r p slot copy stands)) in
    omega arith

pub weigh-arrive : (f : ℕ → ℕ → ℕ → NetCopy → ℕ) (net : Network NetCopy) (r p slot : ℕ) (copy : NetCopy) → IsFree (channels_of net r) p slot → weigh f (put net r p slot (Some copy)) ≡ weigh f net + f r p slot copy
weigh-arrive f net r p slot copy free =
    let change : weigh f (put net r p slot (Some copy)) + 0 ≡ weigh f net + f r p slot copy =
    subst (λ (was : Option NetCopy). weigh f (put net r p slot (Some copy)) + weight (f r p slot) was ≡ weigh f net + f r p slot copy) (nothing_at net r p slot free) (weigh-put f net r p slot (Some copy) (free_place net r p slot free)) in
    omega arith

-- a copy that leaves by a port takes with it what the tiles beyond that port are owed
owing-leave : {g : Grid} {net new : Network NetCopy} {r p slot : ℕ} {out : Port} {copy : NetCopy} {left : Option NetCopy} → IsOnTree g r copy → Leaves net new r p slot out copy left
    → (name : Name) (tile : ℕ) → owing g new name tile + for_name name copy.request (count_if (covers g copy.request.source r tile out)) ≡ owing g net name tile
unfolding owing
owing-leave {g} {net} {new} {r} {p} {slot} {out} {copy} {left} on leaves name tile =
    let gone = for_name name copy.request (count_if (covers g copy.request.source r tile out)) in
    let parts : owed_by g name tile r p slot copy ≡ weight (owed_by g name tile r p slot) left + gone =
    subst (λ (rest : Option NetCopy). owed_by g name tile r p slot copy ≡ weight (owed_by g name tile r p slot) rest + gone) (sym leaves.left_is) (owed_by-left g name tile r p slot out copy on leaves.owed) in
    subst (λ (after : Network NetCopy). weigh (owed_by g name tile) after + gone ≡ weigh (owed_by g name tile) net) (sym leaves.made) (weigh-leave (owed_by g name tile) net r p slot copy left gone leaves.stands parts)

-- a copy that comes to a router brings what the ports of its tree there lead to
owing-arrive : {g : Grid} {net new : Network NetCopy} {r p slot : ℕ} {q : Request} {copy : NetCopy} → Arrives g net new r p slot q copy
    → (name : Name) (tile : ℕ) → owing g new name tile ≡ owing g net name tile + for_name name q (outputs_by g q.source r tile (tree_outs g q.source r))
unfolding owing
owing-arrive {g} {net} {new} {r} {p} {slot} {q} {copy} arrives name tile =
    let come = for_name name q (outputs_by g q.source r tile (tree_outs g q.source r)) in
    subst (λ (after : Network NetCopy). weigh (owed_by g name tile) after ≡ weigh (owed_by g name tile) net + come) (sym arrives.made)
    (subst (λ (one : NetCopy). weigh (owed_by g name tile) (put net r p slot (Some one)) ≡ weigh (owed_by g name tile) net + come) (sym arrives.copy_is) (weigh-arrive (owed_by g name tile) net r p slot (arriving g r q) arrives.free))

-- ---- each tile is owed a request once at most
abbrev pub OwesOnce : Grid → Network NetCopy → Type 0
OwesOnce g net = (name : Name) (tile : ℕ) → owing g net name tile ≤ 1

-- a copy of the request may come to the router: no tile to which the tree leads from there is owed the request
abbrev pub MayCome : Grid → Network NetCopy → ℕ → Request → Type 0
MayCome g net r q = (name : Name) (tile : ℕ) → owing g net name tile + for_name name q (outputs_to g q.source r tile) ≤ 1

pub once-leave : {g : Grid} {net new : Network NetCopy} {r p slot : ℕ} {out : Port} {copy : NetCopy} {left : Option NetCopy} → OwesOnce g net → IsOnTree g r copy → Leaves net new r p slot out copy left → OwesOnce g new
once-leave once on leaves name tile =
    let less = owing-leave on leaves name tile in
    let few = once name tile in
    omega arith

pub once-arrive : {g : Grid} {net new : Network NetCopy} {r p slot : ℕ} {q : Request} {copy : NetCopy} → MayCome g net r q → Arrives g net new r p slot q copy → OwesOnce g new
once-arrive {g} {r = r} {q = q} may arrives name tile =
    let more = owing-arrive arrives name tile in
    let room = may name tile in
    let few = for_name-le name q _ _ (ways-le g q.source r tile (tree_outs g q.source r)) in
    omega arith

-- where no copy of a request stands, no tile is owed it
pub owing-absent : (g : Grid) (net : Network NetCopy) (name : Name) (tile : ℕ) → IsAbsent net name → owing g net name tile ≡ 0
unfolding owing
owing-absent g net name tile absent = weigh_none (owed_by g name tile) net (λ r p slot copy stands. for_name-no name copy.request _ (absent r p slot copy stands))

-- a request of which no copy stands may come to its source
pub may_enter : (g : Grid) (net : Network NetCopy) (q : Request) → OwesOnce g net → IsAbsent net (name_of q) → MayCome g net q.source q
may_enter g net q once absent name tile = ⊎_elim
    (λ named. let none = owing-absent g net name tile (subst (λ (n : Name). IsAbsent net n) (name_is name q named) absent) in
    let whole = for_name-yes name q (outputs_to g q.source q.source tile) named in
    let one = outputs_to-source g q.source tile in
    omega arith)
    (λ other. let none = for_name-no name q (outputs_to g q.source q.source tile) other in
    let few = once name tile in
    omega arith)
    (cases_Bool (is_named name q))

-- what a copy owes after a side is what the ways from the router there lead to
behind_side : (g : Grid) (r : ℕ) (out : Port) (copy : NetCopy) (to tile : ℕ) → HasTiles g → IsOnTree g r copy → owes copy out ≡ true → neighbour g r out ≡ Some to → outputs_to g copy.request.source to tile ≡ count_if (covers g copy.request.source r tile out)
behind_side g r out copy to tile some on owed next = outputs_to-edge g copy.request.source r to tile out some (record { leaves = on.outs out owed; next = next })

-- a copy that has left by a side may come to the router there
pub may_go_on : {g : Grid} {net mid : Network NetCopy} {r p slot : ℕ} {out : Port} {copy : NetCopy} {left : Option NetCopy} {to : ℕ} → HasTiles g → OwesOnce g net → IsOnTree g r copy → Leaves net mid r p slot out copy left → neighbour g r out ≡ Some to
    → MayCome g mid to copy.request
may_go_on {g} {r = r} {out = out} {copy = copy} {to = to} some once on leaves next name tile =
    let less = owing-leave on leaves name tile in
    let few = once name tile in
    let behind = ap (for_name name copy.request) (behind_side g r out copy to tile some on leaves.owed next) in
    omega arith

-- ---- the steps

-- a request that enters is owed to every tile once more
pub owes_more : {g : Grid} {net new : Network NetCopy} {p slot : ℕ} {q : Request} {copy : NetCopy} → HasTiles g → q.source < tiles g → Arrives g net new q.source p slot q copy → OwesMore g q net new
owes_more {g} {net} {q = q} some source arrives name tile reached =
    owing-arrive arrives name tile ∙ ap (λ (count : ℕ). owing g net name tile + for_name name q count) (ways-tree g q.source q.source tile some source reached ∙ outputs_to-source g q.source tile)

-- a hop changes nothing
pub owes_same : {g : Grid} {net mid new : Network NetCopy} {r p slot : ℕ} {out : Port} {copy : NetCopy} {left : Option NetCopy} {to side entry : ℕ} {come : NetCopy} → HasTiles g → to < tiles g → IsOnTree g r copy → Leaves net mid r p slot out copy left
    → neighbour g r out ≡ Some to → Arrives g mid new to side entry copy.request come → OwesSame g net new
owes_same {g} {r = r} {out = out} {copy = copy} {to = to} some inside on leaves next arrives name tile reached =
    let less = owing-leave on leaves name tile in
    let more = owing-arrive arrives name tile in
    let behind = ap (for_name name copy.request) (ways-tree g copy.request.source to tile some inside reached ∙ behind_side g r out copy to tile some on leaves.owed next) in
    omega arith

-- a tile that takes a request is owed it once less
own_tile : (name : Name) (q : Request) (r tile : ℕ) → for_name name q (count_if (r == tile)) ≡ count_if (is_named name q && (tile == r))
own_tile name q r tile = by (is_named name q) (r == tile) (tile == r) (grind (arith, nat_tests))
  where
    by : (named one other : Bool) → one ≡ other → (if named then count_if one else 0) ≡ count_if (named && other)
    by true one other same = ap count_if same
    by false one other same = refl

pub owes_less : {g : Grid} {net new : Network NetCopy} {r p slot : ℕ} {copy : NetCopy} {left : Option NetCopy} → IsOnTree g r copy → Leaves net new r p slot L copy left → OwesLess g r copy.request net new
owes_less {g} {new = new} {r} {copy = copy} on leaves name tile reached =
    ap (λ (count : ℕ). owing g new name tile + count) (sym (own_tile name copy.request r tile)) ∙ owing-leave on leaves name tile
