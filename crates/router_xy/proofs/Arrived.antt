-- How many copies stand at a tile that they owe: a hop brings in one more, and a tile that is served takes one away.
use Rattle.std.proofs.Common.{◌≡◌, ℕ, ◌+◌, ◌*◌, ◌<◌, ◌≤◌, Bool, true, false, refl, ◌∙◌, ap, arith, Option, Some, None}
use Rattle.std.specs.Prelude.{◌==◌, ◌&&◌, not, if◌then◌else◌}
use Rattle.mesh_gen.specs.declared.request.Request.{Request}
use Rattle.mesh_gen.specs.declared.port.Port.{Port}
use Rattle.mesh_gen.specs.declared.port.Port.TheVariants.{L, E, W, N, S}
use Rattle.mesh_gen.specs.Grid.{Grid, tiles, neighbour}
use Rattle.mesh_gen.specs.Ports.{has, without_port, same_port, count_if}
use Rattle.mesh_gen.specs.PortSets.{bits_of, ports_of}
use Rattle.mesh_gen.proofs.PortBits.{has-without_port, has-empty}
use Rattle.mesh_gen.proofs.TreeOuts.{has-tree_outs}
use Rattle.vc_bank.specs.Places.{Network, weight}
use Rattle.vc_bank.proofs.PlaceLaws.{weigh-slot_count}
use Rattle.chip_model.specs.declared.net_copy.NetCopy.{NetCopy}
use Rattle.chip_model.specs.Copies.{arriving, copy_owing, left_by, owes}
use Rattle.chip_model.specs.NetworkShape.{HasChannels}
use Rattle.router_xy.specs.RequestNetwork.{arrived}
use Rattle.router_xy.proofs.RoomForNames.{network_size}
use Rattle.router_xy.proofs.OwedCounts.{Leaves, Arrives, weigh-leave, weigh-arrive}

-- how much a copy counts
abbrev counted : ℕ → ℕ → ℕ → NetCopy → ℕ
counted router port slot copy = count_if (owes copy L)

-- what is left of a copy counts where it owes its tile still
counted_owing : (r p slot : ℕ) (q : Request) (owed : ℕ) → weight (counted r p slot) (copy_owing q owed) ≡ count_if (has owed L)
counted_owing r p slot q owed = by owed (owed == 0) refl
  where
    by : (owed : ℕ) (none : Bool) → (owed == 0) ≡ none → weight (counted r p slot) (if none then None else Some (record { request = q; owed = ports_of owed })) ≡ count_if (has owed L)
    by owed true is = let zero : owed ≡ 0 = grind arith in rw (zero, has-empty L)
    by owed false is = refl

counted_left : (r p slot : ℕ) (out : Port) (copy : NetCopy) → bits_of copy.owed < 32 → weight (counted r p slot) (left_by out copy) ≡ count_if (owes copy L && not (same_port L out))
counted_left r p slot out copy small = counted_owing r p slot copy.request (without_port (bits_of copy.owed) out) ∙ ap count_if (has-without_port (bits_of copy.owed) L out small)

-- a copy that comes to a tile owes it
arriving_owes : (g : Grid) (r : ℕ) (q : Request) → owes (arriving g r q) L ≡ true
arriving_owes g r q = has-tree_outs g q.source r L

-- a copy comes
pub arrived-come : {g : Grid} {net new : Network NetCopy} {r p slot : ℕ} {q : Request} {copy : NetCopy} → Arrives g net new r p slot q copy → arrived new ≡ arrived net + 1
unfolding arrived
arrived-come {g} {net} {new} {r} {p} {slot} {q} {copy} come =
    ap arrived come.made ∙ weigh-arrive counted net r p slot copy come.free ∙ ap (λ (one : NetCopy). arrived net + count_if (owes one L)) come.copy_is ∙ ap (λ (holds : Bool). arrived net + count_if holds) (arriving_owes g r q)

-- a copy leaves by a side
pub arrived-leave : {net new : Network NetCopy} {r p slot : ℕ} {out : Port} {copy : NetCopy} {left : Option NetCopy} → bits_of copy.owed < 32 → same_port L out ≡ false → Leaves net new r p slot out copy left → arrived new ≡ arrived net
unfolding arrived
arrived-leave {net} {new} {r} {p} {slot} {out} {copy} {left} small side leaves =
    let rest : weight (counted r p slot) left ≡ count_if (owes copy L) = ap (weight (counted r p slot)) leaves.left_is ∙ counted_left r p slot out copy small ∙ rw side (ap count_if (and_true (owes copy L))) in
    let same = weigh-leave counted net r p slot copy left 0 leaves.stands (omega arith) in
    ap arrived leaves.made ∙ omega arith
  where
    and_true : (b : Bool) → (b && not false) ≡ b
    and_true true = refl
    and_true false = refl

-- a copy leaves to its tile
pub arrived-serve : {net new : Network NetCopy} {r p slot : ℕ} {copy : NetCopy} {left : Option NetCopy} → bits_of copy.owed < 32 → Leaves net new r p slot L copy left → arrived new + 1 ≡ arrived net
unfolding arrived
arrived-serve {net} {new} {r} {p} {slot} {copy} {left} small leaves =
    let rest : weight (counted r p slot) left ≡ 0 = ap (weight (counted r p slot)) leaves.left_is ∙ counted_left r p slot L copy small ∙ rw leaves.owed refl in
    let one : count_if (owes copy L) ≡ 1 = ap count_if leaves.owed in
    ap (λ (after : Network NetCopy). arrived after + 1) leaves.made ∙ weigh-leave counted net r p slot copy left 1 leaves.stands (omega arith)

-- a side is not the tile's own port
pub is_side : (g : Grid) (r : ℕ) (out : Port) (to : ℕ) → neighbour g r out ≡ Some to → same_port L out ≡ false
is_side g r L to next = cc
is_side g r E to next = refl
is_side g r W to next = refl
is_side g r N to next = refl
is_side g r S to next = refl

-- there are at most as many as channels
pub arrived_fits : (g : Grid) (vcs : ℕ) (net : Network NetCopy) → HasChannels g vcs true net → arrived net ≤ tiles g * (5 * vcs + 4)
unfolding arrived
arrived_fits g vcs net have =
    let few = weigh-slot_count counted (λ router port slot copy. one (owes copy L)) net in
    let size = network_size g vcs net have in
    omega arith
  where
    one : (b : Bool) → count_if b ≤ 1
    one true = omega arith
    one false = omega arith
