-- What stands in the channels after a copy was put into one, or left it.
use Rattle.std.proofs.Common.{◌≡◌, ℕ, ◌<◌, true, sym, ◌∙◌, ap, subst, arith, Option, Some, None, []}
use Rattle.std.specs.Prelude.{slice_get}
use Rattle.std.proofs.lemmas.List.{length-replicate}
use Rattle.std.proofs.lemmas.Option.{slice_get-get_or}
use Rattle.mesh_gen.specs.declared.request.Request.{Request}
use Rattle.mesh_gen.specs.declared.port.Port.{Port}
use Rattle.mesh_gen.specs.Grid.{Grid, tiles, neighbour}
use Rattle.mesh_gen.specs.Limits.{IsFrom, most_side}
use Rattle.mesh_gen.specs.Ports.{port_number, opposite}
use Rattle.mesh_gen.specs.Routes.{HasTiles}
use Rattle.mesh_gen.proofs.Beside.{neighbour_inside}
use Rattle.mesh_gen.proofs.Coordinates.{has_tiles}
use Rattle.vc_bank.specs.Channels.{Channels, IsFree, normal_slots}
use Rattle.vc_bank.specs.Places.{Network, at, put, HasPlace}
use Rattle.vc_bank.proofs.PlaceLaws.{bank-put_other, place_of, at-empty}
use Rattle.chip_model.specs.declared.net_copy.NetCopy.{NetCopy}
use Rattle.chip_model.specs.Copies.{Name, channels_of, no_copies}
use Rattle.chip_model.specs.CopiesOwed.{IsOnTree}
use Rattle.chip_model.specs.NetworkShape.{HasChannels}
use Rattle.chip_model.proofs.ChannelPuts.{HasChannels-put, HasChannels-empty, Every, every-put}
use Rattle.router_xy.specs.declared.way.Way.{Way}
use Rattle.router_xy.specs.CopiesHold.{CopiesHold}
use Rattle.router_xy.specs.RequestNetwork.{RoutersFit}
use Rattle.router_xy.specs.Ways.{IsOpenHop}
use Rattle.router_xy.proofs.Steps.{entry_is_free, hops_away}
use Rattle.router_xy.proofs.CopyOutputs.{some_is, stands_left, stands_arriving}
use Rattle.router_xy.proofs.OwedCounts.{Leaves, Arrives, free_place, OwesOnce, MayCome, owing-absent, once-leave, once-arrive}

-- ---- the channels of a router
bank_there : (g : Grid) (vcs : ℕ) (net : Network NetCopy) (r : ℕ) → CopiesHold g vcs net → r < tiles g → slice_get net r ≡ Some (channels_of net r)
bank_there g vcs net r is inside = let routers = is.channels.routers in slice_get-get_or net r [] (omega arith)

pub normal_there : (g : Grid) (vcs : ℕ) (net : Network NetCopy) (r : ℕ) → CopiesHold g vcs net → r < tiles g → normal_slots (channels_of net r) ≡ vcs
normal_there g vcs net r is inside = is.channels.slots r 0 (channels_of net r) (bank_there g vcs net r is inside) ∙ length-replicate vcs None

-- ---- the routers stay sound
sound-put : (g : Grid) (vcs : ℕ) (net new : Network NetCopy) (r p slot : ℕ) (packet : Option NetCopy) → CopiesHold g vcs net → HasPlace net r p slot
    → ((copy : NetCopy) → packet ≡ Some copy → IsOnTree g r copy) → OwesOnce g new → new ≡ put net r p slot packet
    → CopiesHold g vcs new
sound-put g vcs net new r p slot packet is place own once made = record {
  channels = subst (λ (net : Network NetCopy). HasChannels g vcs true net) (sym made) (HasChannels-put g vcs true net r p slot packet is.channels place);
  fit = record {
    stand = subst (λ (net : Network NetCopy). Every (λ router port copy. IsOnTree g router copy) net) (sym made) (every-put (λ router port copy. IsOnTree g router copy) net r p slot packet is.fit.stand place own);
    once = once;
  };
}

pub sound-leave : {g : Grid} {vcs : ℕ} {net new : Network NetCopy} {r p slot : ℕ} {out : Port} {copy : NetCopy} {left : Option NetCopy} → CopiesHold g vcs net
    → Leaves net new r p slot out copy left → CopiesHold g vcs new
sound-leave {g} {vcs} {net} {new} {r} {p} {slot} {out} {copy} {left} is leaves =
    let on = is.fit.stand r p slot copy leaves.stands in
    sound-put g vcs net new r p slot left is (place_of net r p slot copy leaves.stands) (λ rest rest_is. stands_left g r out copy rest on (sym leaves.left_is ∙ rest_is)) (once-leave is.fit.once on leaves) leaves.made

pub sound-arrive : {g : Grid} {vcs : ℕ} {net new : Network NetCopy} {r p slot : ℕ} {q : Request} {copy : NetCopy} → CopiesHold g vcs net → q.source < tiles g → r < tiles g
    → MayCome g net r q → Arrives g net new r p slot q copy → CopiesHold g vcs new
sound-arrive {g} {vcs} {net} {new} {r} {p} {slot} {q} {copy} is source inside may arrives =
    sound-put g vcs net new r p slot (Some copy) is (free_place net r p slot arrives.free)
    (λ other same. subst (λ (c : NetCopy). IsOnTree g r c) (sym arrives.copy_is ∙ some_is copy other same) (stands_arriving g r q source inside))
    (once-arrive may arrives)
    arrives.made

-- ---- a hop
pub way_inside : (g : Grid) (r : ℕ) (out : Port) (to : ℕ) → r < tiles g → neighbour g r out ≡ Some to → to < tiles g
way_inside g r out to inside next = neighbour_inside g r out to (has_tiles g r inside) next

pub entry_beside : (g : Grid) (net mid : Network NetCopy) (r : ℕ) (port : Port) (slot : ℕ) (out side : Port) (expected : Option Name) (way : Way) (left : Option NetCopy) → HasTiles g
    → IsOpenHop g net r port slot out expected way
    → mid ≡ put net r (port_number port) slot left → side ≡ opposite out → IsFree (channels_of mid way.to) (port_number side) way.entry.slot
entry_beside g net mid r port slot out side expected way left some go mid_is side_is =
    let free = entry_is_free (channels_of net way.to) (opposite out) _ way.entry.slot go.entry in
    let away = hops_away g r out way.to some go.next in
    let same = ap (λ (net : Network NetCopy). channels_of net way.to) mid_is ∙ bank-put_other net r (port_number port) slot left way.to away in
    subst (λ (side : Port). IsFree (channels_of mid way.to) (port_number side) way.entry.slot) (sym side_is) (subst (λ (bank : Channels NetCopy). IsFree bank (port_number (opposite out)) way.entry.slot) (sym same) free)

-- ---- the routers of a mesh with no copy
pub nothing_stands : (g : Grid) (vcs r p slot : ℕ) (copy : NetCopy) → at (no_copies g vcs) r p slot ≡ Some copy → ⊥
nothing_stands g vcs r p slot copy stands = let none = at-empty {P = NetCopy} (tiles g) vcs true r p slot in cc

pub sound_empty : (g : Grid) (vcs : ℕ) → CopiesHold g vcs (no_copies g vcs)
sound_empty g vcs = record {
  channels = HasChannels-empty g vcs true;
  fit = record {
    stand = λ r p slot copy stands. absurd (nothing_stands g vcs r p slot copy stands);
    once = λ name tile. let none = owing-absent g (no_copies g vcs) name tile (λ r p slot copy stands. absurd (nothing_stands g vcs r p slot copy stands)) in omega arith;
  };
}

-- the routers of a mesh that was given
pub sound_opened : (own given : Grid) (vcs : ℕ) (net : Network NetCopy) → own ≡ given → IsFrom 1 most_side given.cols → IsFrom 1 most_side given.rows
    → IsFrom 1 8 vcs → net ≡ no_copies given vcs
    → RoutersFit (record { grid = own; vcs = vcs; copies = net })
sound_opened own given vcs net same cols_limit rows_limit vcs_limit is =
    let some_column = cols_limit.low in
    let some_row = rows_limit.low in
    let some : HasTiles given = record { some_column = omega arith; some_row = omega arith } in
    subst (λ (g : Grid). RoutersFit (record { grid = g; vcs = vcs; copies = net })) (sym same)
    (record { some = some; vcs_limit = vcs_limit; copies = subst (λ (net : Network NetCopy). CopiesHold given vcs net) (sym is) (sound_empty given vcs) })
