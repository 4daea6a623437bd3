-- What each step of copies keeps and changes.
use Rattle.std.proofs.Common.{◌≡◌, ◌⊎◌, ℕ, ◌+◌, ◌<◌, Bool, true, false, refl, sym, ◌∙◌, ap, subst, Option, Some}
use Rattle.std.proofs.lemmas.Option.{option_and_then_some, same_Some}
use Rattle.mesh_gen.specs.declared.request.Request.{Request}
use Rattle.mesh_gen.specs.declared.port.Port.{Port}
use Rattle.mesh_gen.specs.declared.port.Port.TheVariants.{L}
use Rattle.mesh_gen.specs.Grid.{Grid, tiles, neighbour}
use Rattle.mesh_gen.specs.Ports.{port_number, opposite}
use Rattle.mesh_gen.proofs.Coordinates.{has_tiles}
use Rattle.vc_bank.specs.Channels.{lowest_free}
use Rattle.vc_bank.specs.Places.{Network, at, put}
use Rattle.chip_model.specs.declared.net_copy.NetCopy.{NetCopy}
use Rattle.chip_model.specs.Partial.{when, ◌>>=◌}
use Rattle.chip_model.specs.Copies.{Name, name_of, channels_of, arriving, left_by, owes, after_entry, entry_slot, expects, after_hop, local_place, after_serve}
use Rattle.chip_model.specs.CopiesOwed.{IsOnTree, OwesLess}
use Rattle.router_xy.specs.declared.way.Way.{Way}
use Rattle.router_xy.specs.CopiesHold.{CopiesHold}
use Rattle.router_xy.specs.RequestNetwork.{IsAbsent}
use Rattle.router_xy.specs.Ways.{IsOpenHop, normal_entry}
use Rattle.router_xy.specs.CopySteps.{RequestEntered, CopyHopped, RequestServed}
use Rattle.router_xy.proofs.Steps.{lowest_is_free}
use Rattle.router_xy.proofs.CopyOutputs.{some_is}
use Rattle.router_xy.proofs.LocalPlaces.{local_stands}
use Rattle.router_xy.proofs.OwedCounts.{Leaves, Arrives, may_enter, may_go_on, owes_more, owes_same, owes_less}
use Rattle.router_xy.proofs.WhereCopies.{lowest_is_normal, normal_or_expected, comes_alone, enters_normal, hop_brings_none, hop_reserves, before-leave}
use Rattle.router_xy.proofs.Sound.{normal_there, sound-leave, sound-arrive, way_inside, entry_beside}
use Rattle.router_xy.proofs.Arrived.{is_side, arrived-come, arrived-leave, arrived-serve}
use Rattle.router_xy.proofs.CopySteps.{serves_named}

-- ---- a request enters

-- the lowest free channel of its router's local port takes it in
record Entry (g : Grid) (old new : Network NetCopy) (q : Request) : Type 0 where
  slot : ℕ
  lowest : lowest_free (channels_of old q.source) (port_number L) ≡ Some slot
  made : new ≡ put old q.source (port_number L) slot (Some (arriving g q.source q))

entry_is : (g : Grid) (old new : Network NetCopy) (q : Request) → after_entry g old q ≡ Some new → Entry g old new q
unfolding after_entry
entry_is g old new q is =
    option_and_then_some (λ slot. Some (put old q.source (port_number L) slot (Some (arriving g q.source q)))) (lowest_free (channels_of old q.source) (port_number L)) new is (λ slot lowest done.
    record { slot = slot; lowest = lowest; made = sym (same_Some _ new done) })

pub request_entered : (g : Grid) (vcs : ℕ) (old new : Network NetCopy) (q : Request) → q.source < tiles g → CopiesHold g vcs old → IsAbsent old (name_of q) → after_entry g old q ≡ Some new
    → RequestEntered g vcs q old new
request_entered g vcs old new q inside holds absent is =
    let entry = entry_is g old new q is in
    let arrives : Arrives g old new q.source (port_number L) entry.slot q (arriving g q.source q) =
    record { free = lowest_is_free (channels_of old q.source) (port_number L) entry.slot entry.lowest; copy_is = refl; made = entry.made } in
    let normal : entry.slot < vcs = subst (λ (vcs : ℕ). entry.slot < vcs) (normal_there g vcs old q.source holds inside) (lowest_is_normal (channels_of old q.source) (port_number L) entry.slot entry.lowest) in
    record {
      holds = sound-arrive holds inside inside (may_enter g old q holds.fit.once absent) arrives;
      owes = owes_more (has_tiles g q.source inside) inside arrives;
      comes = comes_alone arrives;
      reserves = enters_normal normal arrives;
      arrives = arrived-come arrives;
    }

-- ---- a copy hops

record Hop (g : Grid) (old new : Network NetCopy) (r : ℕ) (port : Port) (slot : ℕ) (out : Port) (expected : Option Name) : Type 0 where
  way : Way
  go : IsOpenHop g old r port slot out expected way
  made : new ≡ put (put old r (port_number port) slot (left_by out way.copy)) way.to (port_number (opposite out)) way.entry.slot (Some (arriving g way.to way.copy.request))

hop_is : (g : Grid) (old new : Network NetCopy) (r : ℕ) (port : Port) (slot : ℕ) (out : Port) (expected : Option Name) → after_hop g old r port slot out expected ≡ Some new
    → Hop g old new r port slot out expected
unfolding after_hop
hop_is g old new r port slot out expected is =
    option_and_then_some (λ copy. when (owes copy out) (goes copy)) (at old r (port_number port) slot) new is (λ copy stands rest.
    when_some (owes copy out) (goes copy) rest (λ owed next.
    option_and_then_some (λ to. enters copy to) (neighbour g r out) new next (λ to beside entry.
    option_and_then_some (λ slot. Some (landed copy to slot)) (entry_slot (channels_of old to) (opposite out) (expects expected copy.request)) new entry (λ slot found done. record {
      way = record { copy = copy; to = to; entry = normal_entry slot };
      go = record { stands = stands; owed = owed; next = beside; entry = found };
      made = sym (same_Some _ new done);
    }))))
  where
    landed : NetCopy → ℕ → ℕ → Network NetCopy
    landed copy to entry = put (put old r (port_number port) slot (left_by out copy)) to (port_number (opposite out)) entry (Some (arriving g to copy.request))

    enters : NetCopy → ℕ → Option (Network NetCopy)
    enters copy to = entry_slot (channels_of old to) (opposite out) (expects expected copy.request) >>= (λ entry. Some (landed copy to entry))

    goes : NetCopy → Option (Network NetCopy)
    goes copy = neighbour g r out >>= (λ to. enters copy to)

    when_some : {P : Type 0} (guard : Bool) (o : Option (Network NetCopy)) → when guard o ≡ Some new → (guard ≡ true → o ≡ Some new → P) → P
    when_some true o holds goal = goal refl holds
    when_some false o holds goal = cc

pub copy_hopped : (g : Grid) (vcs : ℕ) (old new : Network NetCopy) (r : ℕ) (port : Port) (slot : ℕ) (out : Port) (expected : Option Name) → CopiesHold g vcs old
    → after_hop g old r port slot out expected ≡ Some new
    → CopyHopped g vcs r out expected old new
copy_hopped g vcs old new r port slot out expected holds is =
    let hop = hop_is g old new r port slot out expected is in
    let way = hop.way in
    let p = port_number port in
    let mid = put old r p slot (left_by out way.copy) in
    let on : IsOnTree g r way.copy = holds.fit.stand r p slot way.copy hop.go.stands in
    let some = has_tiles g r on.inside in
    let inside = way_inside g r out way.to on.inside hop.go.next in
    let leaves : Leaves old mid r p slot out way.copy (left_by out way.copy) = record { stands = hop.go.stands; owed = hop.go.owed; left_is = refl; made = refl } in
    let arrives : Arrives g mid new way.to (port_number (opposite out)) way.entry.slot way.copy.request (arriving g way.to way.copy.request) =
    record { free = entry_beside g old mid r port slot out (opposite out) expected way (left_by out way.copy) some hop.go refl refl; copy_is = refl; made = hop.made } in
    let normal : (way.entry.slot < vcs) ⊎ (expects expected way.copy.request ≡ true) = subst (λ (vcs : ℕ). (way.entry.slot < vcs) ⊎ (expects expected way.copy.request ≡ true)) (normal_there g vcs old way.to holds inside)
    (normal_or_expected (channels_of old way.to) (opposite out) (expects expected way.copy.request) way.entry.slot hop.go.entry) in
    record {
      holds = sound-arrive (sound-leave holds leaves) on.source inside (may_go_on some holds.fit.once on leaves hop.go.next) arrives;
      owes = owes_same some inside on leaves hop.go.next arrives;
      comes = hop_brings_none leaves arrives;
      reserves = hop_reserves expected leaves hop.go.next normal arrives;
      arrives = arrived-come arrives ∙ ap (λ (count : ℕ). count + 1) (arrived-leave on.ports (is_side g r out way.to hop.go.next) leaves);
    }

-- ---- a request is served

record Service (old new : Network NetCopy) (r : ℕ) (name : Name) (q : Request) : Type 0 where
  port : ℕ
  slot : ℕ
  copy : NetCopy
  request : copy.request ≡ q
  leaves : Leaves old new r port slot L copy (left_by L copy)

service_is : (old new : Network NetCopy) (r : ℕ) (name : Name) (q : Request) → after_serve old r name ≡ Some (q, new) → Service old new r name q
unfolding after_serve
service_is old new r name q is =
    option_and_then_some (λ place. at old r place.0 place.1 >>= (λ copy. Some (served place copy))) (local_place old r name) (q, new) is (λ place found rest.
    option_and_then_some (λ copy. Some (served place copy)) (at old r place.0 place.1) (q, new) rest (λ copy stands done.
    let there = local_stands old r name place.0 place.1 found in
    let same = same_Some {A = Request × Network NetCopy} (served place copy) (q, new) done in
    record {
      port = place.0;
      slot = place.1;
      copy = copy;
      request = ap (λ (out : Request × Network NetCopy). out.0) same;
      leaves = record {
        stands = stands;
        owed = subst (λ (c : NetCopy). owes c L ≡ true) (some_is there.0 copy (sym there.1 ∙ stands)) there.3;
        left_is = refl;
        made = ap (λ (out : Request × Network NetCopy). out.1) (sym same);
      };
    }))
  where
    served : ℕ × ℕ → NetCopy → Request × Network NetCopy
    served place copy = (copy.request, put old r place.0 place.1 (left_by L copy))

pub request_served : (g : Grid) (vcs : ℕ) (old new : Network NetCopy) (r : ℕ) (name : Name) (q : Request) → CopiesHold g vcs old → after_serve old r name ≡ Some (q, new)
    → RequestServed g vcs r name q old new
request_served g vcs old new r name q holds is =
    let service = service_is old new r name q is in
    let leaves = service.leaves in
    let on : IsOnTree g r service.copy = holds.fit.stand r service.port service.slot service.copy leaves.stands in
    record {
      holds = sound-leave holds leaves;
      serves = serves_named old new r name q is;
      owes = subst (λ (q : Request). OwesLess g r q old new) service.request (owes_less on leaves);
      reserves = λ router port q has. before-leave leaves router port vcs q has;
      leaves = arrived-serve on.ports leaves;
    }
