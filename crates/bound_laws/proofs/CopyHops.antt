-- The hops that copies have still to do: fewer after a hop, as many after a tile is served, and not many more once a request enters.
use Rattle.std.proofs.Common.{◌≡◌, ℕ, zero, suc, ◌+◌, ◌<◌, ◌≤◌, Bool, true, false, cond, List, [], ◌∷◌, Option, Some, None, get_or, refl, sym, ◌∙◌, subst, arith}
use Rattle.std.specs.Prelude.{count_by, ◌==◌, ◌&&◌, if◌then◌else◌}
use Rattle.std.specs.List.{sum_by}
use Rattle.std.proofs.lemmas.List.Sums.{sum_by-cons}
use Rattle.mesh_gen.specs.declared.request.Request.{Request}
use Rattle.mesh_gen.specs.declared.port.Port.{Port}
use Rattle.mesh_gen.specs.declared.port.Port.TheVariants.{L, E, W, N, S}
use Rattle.mesh_gen.specs.Grid.{Grid, tiles, neighbour}
use Rattle.mesh_gen.specs.Ports.{has, without_port, count_if, port_number, opposite}
use Rattle.mesh_gen.specs.PortSets.{bits_of, ports_of}
use Rattle.mesh_gen.specs.Routes.{HasTiles}
use Rattle.mesh_gen.specs.Tree.{covers, outputs_to, Edge}
use Rattle.mesh_gen.proofs.PortBits.{has-without_port, has-empty}
use Rattle.mesh_gen.proofs.Serves.{outputs_to-edge, outputs_to-source}
use Rattle.mesh_gen.proofs.Beside.{neighbour_inside}
use Rattle.vc_bank.specs.Channels.{IsFree, lowest_free}
use Rattle.vc_bank.specs.Places.{Network, at, put, weight}
use Rattle.vc_bank.proofs.PlaceLaws.{bank-put_other}
use Rattle.order_tracker.specs.Order.{upwards}
use Rattle.chip_model.specs.declared.net_copy.NetCopy.{NetCopy}
use Rattle.mesh_gen.specs.Partial.{◌>>=◌, when}
use Rattle.chip_model.specs.Copies.{Name, channels_of, arriving, copy_owing, left_by, owes, expects, entry_slot, after_entry, local_place, after_serve, after_hop}
use Rattle.chip_model.specs.CopiesOwed.{CopiesFit}
use Rattle.router_xy.proofs.OwedCounts.{weigh-leave, weigh-arrive}
use Rattle.router_xy.proofs.Steps.{lowest_is_free, entry_is_free, hops_away}
use Rattle.router_xy.proofs.LocalPlaces.{local_stands}
use Rattle.net_iface.proofs.Binds.{bind_eq, made}
use Rattle.bound_laws.specs.Measure.{tiles_by, hops_by, hops_of, hop_weight, hops_to_go}
use Rattle.bound_laws.proofs.Sums.{counts_one, cond_le, sum_same, sum_ones}

-- ---- the tiles that are reached by a router's ports
abbrev to_each : Grid → ℕ → ℕ → List ℕ → Port → ℕ
to_each g s r tiles out = count_by (λ tile. covers g s r tile out) tiles

ways_to_all : (g : Grid) (s r : ℕ) (list : List ℕ)
    → sum_by (outputs_to g s r) list ≡ to_each g s r list L + to_each g s r list E + to_each g s r list W + to_each g s r list N + to_each g s r list S
ways_to_all g s r [] = refl
ways_to_all g s r (tile ∷ list) =
    let rest = ways_to_all g s r list in
    omega (arith, sum_by-cons (outputs_to g s r) tile list, first L, first E, first W, first N, first S)
  where
    first : (out : Port) → to_each g s r (tile ∷ list) out ≡ count_if (covers g s r tile out) + to_each g s r list out
    first out = sum_by-cons (λ tile. cond (covers g s r tile out) 1 0) tile list

-- a router reaches its own tile by its local port
present : (t first count : ℕ) → first ≤ t → t < first + count → 0 < count_by (λ s. t == s) (upwards first count)
present t first zero from to = absurd (omega arith)
present t first (suc count) from to = by (t == first) refl (λ later. present t (first + 1) count later (omega arith))
  where
    by : (here : Bool) → (t == first) ≡ here → (first + 1 ≤ t → 0 < count_by (λ s. t == s) (upwards (first + 1) count))
        → 0 < count_by (λ s. t == s) (upwards first (suc count))
    by true is rest = let all = sum_by-cons (λ s. cond (t == s) 1 0) first (upwards (first + 1) count) in let here = counts_one (t == first) is in omega arith
    by false is rest = let all = sum_by-cons (λ s. cond (t == s) 1 0) first (upwards (first + 1) count) in let more = rest (grind arith) in omega arith

abbrev tiles_by_sides : Grid → ℕ → ℕ → ℕ
tiles_by_sides g s r = tiles_by g s r E + tiles_by g s r W + tiles_by g s r N + tiles_by g s r S

-- by an edge of the tree the router there is reached, and all that is reached by its sides
tiles_by_edge : (g : Grid) (s r n : ℕ) (out : Port) → HasTiles g → Edge g s r out n → n < tiles g → tiles_by_sides g s n + 1 ≤ tiles_by g s r out
tiles_by_edge g s r n out some edge inside =
    let all = ways_to_all g s n (upwards 0 (tiles g)) in
    let here = present n 0 (tiles g) (omega arith) (omega arith) in
    let same = sum_same (outputs_to g s n) (λ v. count_if (covers g s r v out)) (upwards 0 (tiles g)) (λ v. outputs_to-edge g s r n v out some edge) in
    omega arith

-- ---- the hops of a copy
hops_le : (g : Grid) (r : ℕ) (copy : NetCopy) → hops_of g r copy ≤ tiles_by_sides g copy.request.source r
hops_le g r copy = omega (arith, one E, one W, one N, one S)
  where
    one : (out : Port) → hops_by g r copy out ≤ tiles_by g copy.request.source r out
    one out = cond_le (owes copy out) (tiles_by g copy.request.source r out)

abbrev hops_in : Grid → ℕ → ℕ → ℕ → ℕ
hops_in g r s ports =
    cond (has ports E) (tiles_by g s r E) 0
    + cond (has ports W) (tiles_by g s r W) 0
    + cond (has ports N) (tiles_by g s r N) 0
    + cond (has ports S) (tiles_by g s r S) 0

hops_owing : (g : Grid) (r p slot : ℕ) (q : Request) (owed : ℕ) → weight (hop_weight g r p slot) (copy_owing q owed) ≡ hops_in g r q.source owed
hops_owing g r p slot q owed = by owed (owed == 0) refl
  where
    by : (owed : ℕ) (none : Bool) → (owed == 0) ≡ none
        → weight (hop_weight g r p slot) (if none then None else Some (record { request = q; owed = ports_of owed })) ≡ hops_in g r q.source owed
    by owed true is = let zero : owed ≡ 0 = grind arith in rw (zero, has-empty E, has-empty W, has-empty N, has-empty S) refl
    by owed false is = refl

-- a copy that leaves by a side has those that are reached by it no more to go, and one that leaves to the tile has as much as before
keeps : (b : Bool) (n : ℕ) → cond (b && true) n 0 ≡ cond b n 0
keeps true n = refl
keeps false n = refl

loses : (b : Bool) (n : ℕ) → cond (b && false) n 0 ≡ 0
loses true n = refl
loses false n = refl

abbrev by_side : Grid → ℕ → ℕ → Port → ℕ
by_side g s r L = 0
by_side g s r E = tiles_by g s r E
by_side g s r W = tiles_by g s r W
by_side g s r N = tiles_by g s r N
by_side g s r S = tiles_by g s r S

hops_without : (g : Grid) (r s ports : ℕ) (out : Port) → ports < 32 → has ports out ≡ true
    → hops_in g r s ports ≡ hops_in g r s (without_port ports out) + by_side g s r out
hops_without g r s ports L below owed =
    rw (has-without_port ports E L, has-without_port ports W L, has-without_port ports N L, has-without_port ports S L) (omega (arith, keeps, loses))
hops_without g r s ports E below owed =
    rw (has-without_port ports E E, has-without_port ports W E, has-without_port ports N E, has-without_port ports S E, owed) (omega (arith, keeps, loses))
hops_without g r s ports W below owed =
    rw (has-without_port ports E W, has-without_port ports W W, has-without_port ports N W, has-without_port ports S W, owed) (omega (arith, keeps, loses))
hops_without g r s ports N below owed =
    rw (has-without_port ports E N, has-without_port ports W N, has-without_port ports N N, has-without_port ports S N, owed) (omega (arith, keeps, loses))
hops_without g r s ports S below owed =
    rw (has-without_port ports E S, has-without_port ports W S, has-without_port ports N S, has-without_port ports S S, owed) (omega (arith, keeps, loses))

pub hops_left : (g : Grid) (r p slot : ℕ) (out : Port) (copy : NetCopy) → bits_of copy.owed < 32 → owes copy out ≡ true
    → hops_of g r copy ≡ weight (hop_weight g r p slot) (left_by out copy) + by_side g copy.request.source r out
hops_left g r p slot out copy below owed =
    let rest = hops_owing g r p slot copy.request (without_port (bits_of copy.owed) out) in
    let parts = hops_without g r copy.request.source (bits_of copy.owed) out below owed in
    omega arith

-- ---- a hop
record IsHop (g : Grid) (net new : Network NetCopy) (r : ℕ) (port : Port) (slot : ℕ) (out : Port) : Type 0 where
  copy : NetCopy
  stands : at net r (port_number port) slot ≡ Some copy
  owed : owes copy out ≡ true
  to : ℕ
  near : neighbour g r out ≡ Some to
  entry : ℕ
  free : IsFree (channels_of net to) (port_number (opposite out)) entry
  is : put (put net r (port_number port) slot (left_by out copy)) to (port_number (opposite out)) entry (Some (arriving g to copy.request)) ≡ new

hop_is : (g : Grid) (net new : Network NetCopy) (r : ℕ) (port : Port) (slot : ℕ) (out : Port) (expected : Option Name)
    → after_hop g net r port slot out expected ≡ Some new → IsHop g net new r port slot out
unfolding after_hop
hop_is g net new r port slot out expected =
    bind_eq P (at net r (port_number port) slot) _ (λ copy stands n last. owing copy stands (owes copy out) refl n last) new
  where
    P : Network NetCopy → Type 0
    P new = IsHop g net new r port slot out

    after : NetCopy → ℕ → ℕ → Network NetCopy
    after copy to entry = put (put net r (port_number port) slot (left_by out copy)) to (port_number (opposite out)) entry (Some (arriving g to copy.request))

    owing : (copy : NetCopy) → at net r (port_number port) slot ≡ Some copy → (b : Bool) → owes copy out ≡ b → (n : Network NetCopy)
        → when b (neighbour g r out >>= (λ to. entry_slot (channels_of net to) (opposite out)
        (expects expected copy.request) >>= (λ entry. Some (after copy to entry)))) ≡ Some n → P n
    owing copy stands true owed n last =
        bind_eq P (neighbour g r out) _ (λ to near m rest. bind_eq P (entry_slot (channels_of net to) (opposite out) (expects expected copy.request)) _
        (λ entry found k done. made P (after copy to entry) k (record {
          copy = copy;
          stands = stands;
          owed = owed;
          to = to;
          near = near;
          entry = entry;
          free = entry_is_free (channels_of net to) (opposite out) (expects expected copy.request) entry found;
          is = refl;
        }) done) m rest) n last
    owing copy stands false owed n last = cc

by_side_is : (g : Grid) (s r to : ℕ) (out : Port) → neighbour g r out ≡ Some to → by_side g s r out ≡ tiles_by g s r out
by_side_is g s r to L near = cc
by_side_is g s r to E near = refl
by_side_is g s r to W near = refl
by_side_is g s r to N near = refl
by_side_is g s r to S near = refl

pub hopped_lowers : (g : Grid) (net new : Network NetCopy) (r : ℕ) (port : Port) (slot : ℕ) (out : Port) (expected : Option Name) → HasTiles g
    → CopiesFit g net → after_hop g net r port slot out expected ≡ Some new
    → hops_to_go g new < hops_to_go g net
hopped_lowers g net new r port slot out expected some fits hops =
    let hop = hop_is g net new r port slot out expected hops in
    let copy = hop.copy in
    let on = fits.stand r (port_number port) slot copy hop.stands in
    let mid = put net r (port_number port) slot (left_by out copy) in
    let leaves =
    weigh-leave (hop_weight g) net r (port_number port) slot copy (left_by out copy) (by_side g copy.request.source r out) hop.stands
    (hops_left g r (port_number port) slot out copy on.ports hop.owed) in
    let other : get_or mid hop.to [] ≡ get_or net hop.to [] =
    bank-put_other net r (port_number port) slot (left_by out copy) hop.to (hops_away g r out hop.to some hop.near) in
    let free : IsFree (channels_of mid hop.to) (port_number (opposite out)) hop.entry = rw other hop.free in
    let come = arriving g hop.to copy.request in
    let arrives = weigh-arrive (hop_weight g) mid hop.to (port_number (opposite out)) hop.entry come free in
    let edge : Edge g copy.request.source r out hop.to = record { leaves = on.outs out hop.owed; next = hop.near } in
    let side = by_side_is g copy.request.source r hop.to out hop.near in
    let ahead = tiles_by_edge g copy.request.source r hop.to out some edge (neighbour_inside g r out hop.to some hop.near) in
    let few = hops_le g hop.to come in
    subst (λ (new : Network NetCopy). hops_to_go g new < hops_to_go g net) hop.is (omega arith)

-- ---- a request enters
-- at its source a request has all tiles but that one to go to
source_hops : (g : Grid) (q : Request) → q.source < tiles g → hops_of g q.source (arriving g q.source q) + 1 ≤ tiles g
source_hops g q inside =
    let all = ways_to_all g q.source q.source (upwards 0 (tiles g)) in
    let here = present q.source 0 (tiles g) (omega arith) (omega arith) in
    let whole = sum_ones (outputs_to g q.source q.source) 0 (tiles g) (λ v. omega (arith, outputs_to-source g q.source v)) in
    let few = hops_le g q.source (arriving g q.source q) in
    omega arith

pub entered_grows : (g : Grid) (net new : Network NetCopy) (q : Request) → q.source < tiles g → after_entry g net q ≡ Some new
    → hops_to_go g new < hops_to_go g net + tiles g
unfolding after_entry
entered_grows g net new q inside =
    bind_eq P (lowest_free (channels_of net q.source) (port_number L)) _
    (λ slot lowest n is. made P (put net q.source (port_number L) slot (Some (arriving g q.source q))) n
    (let arrives =
    weigh-arrive (hop_weight g) net q.source (port_number L) slot (arriving g q.source q)
    (lowest_is_free (channels_of net q.source) (port_number L) slot lowest) in
    let few = source_hops g q inside in omega arith) is)
    new
  where
    P : Network NetCopy → Type 0
    P new = hops_to_go g new < hops_to_go g net + tiles g

-- ---- a tile is served
pub served_same : (g : Grid) (net : Network NetCopy) (t : ℕ) (name : Name) (out : Request × Network NetCopy) → CopiesFit g net
    → after_serve net t name ≡ Some out
    → hops_to_go g out.1 ≡ hops_to_go g net
unfolding after_serve
served_same g net t name out fits =
    bind_eq P (local_place net t name) _
    (λ place found last done. bind_eq P (at net t place.0 place.1) _
    (λ copy stands last is. made P (copy.request, put net t place.0 place.1 (left_by L copy)) last (same place copy found stands) is) last done)
    out
  where
    P : Request × Network NetCopy → Type 0
    P out = hops_to_go g out.1 ≡ hops_to_go g net

    same : (place : ℕ × ℕ) (copy : NetCopy) → local_place net t name ≡ Some place → at net t place.0 place.1 ≡ Some copy
        → hops_to_go g (put net t place.0 place.1 (left_by L copy)) ≡ hops_to_go g net
    same place copy found stands =
        let local = local_stands net t name place.0 place.1 found in
        let one : local.0 ≡ copy = let both : ◌≡◌ {A = Option NetCopy} (Some local.0) (Some copy) = sym local.1 ∙ stands in cc in
        let owed : owes copy L ≡ true = subst (λ (copy : NetCopy). owes copy L ≡ true) one local.3 in
        let on = fits.stand t place.0 place.1 copy stands in
        let leaves = weigh-leave (hop_weight g) net t place.0 place.1 copy (left_by L copy) 0 stands (hops_left g t place.0 place.1 L copy on.ports owed) in
        omega arith
