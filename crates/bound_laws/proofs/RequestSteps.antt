-- A hop of a copy lowers the measure of the ordered network, a delivery does, and a request that enters raises it by little.
use Rattle.std.proofs.Common.{◌≡◌, ℕ, ◌+◌, ◌-◌, ◌*◌, ◌<◌, ◌≤◌, [], ◌∷◌, ◌++◌, length-append, Some, length, refl, arith}
use Rattle.std.specs.Prelude.{slice_get}
use Rattle.std.proofs.Math.Nat.{mul-add, mul-le-mul_left}
use Rattle.std.proofs.lemmas.Option.{slice_get_within}
use Rattle.mesh_gen.specs.declared.request.Request.{Request}
use Rattle.mesh_gen.specs.declared.kind.Kind.{Kind}
use Rattle.mesh_gen.specs.declared.port.Port.{Port}
use Rattle.mesh_gen.specs.Routes.{HasTiles}
use Rattle.vc_bank.specs.Places.{Network}
use Rattle.chip_model.specs.declared.net_copy.NetCopy.{NetCopy}
use Rattle.chip_model.specs.Chip.{Chip, tile_count}
use Rattle.chip_model.specs.Copies.{after_entry, after_serve, after_hop}
use Rattle.chip_model.specs.CopiesOwed.{CopiesFit}
use Rattle.chip_model.specs.OrderedNetwork.{OrderedNetwork, Interface, with_interface, next_request, after_inject, expected_at, expected_at_next_hop, after_copy_hop, after_delivery}
use Rattle.net_iface.proofs.Binds.{bind_eq, made}
use Rattle.chip_laws.proofs.SupplyCounts.{sum_by-set}
use Rattle.bound_laws.specs.Measure.{requests_to_go, per_made, per_request}
use Rattle.bound_laws.proofs.NetworkChanges.{Lowers, MakesFor}
use Rattle.bound_laws.proofs.CopyHops.{hopped_lowers, entered_grows, served_same}

-- ---- a hop
pub hop_lowers : (chip : Chip) (net new : OrderedNetwork) (r : ℕ) (port : Port) (slot : ℕ) (out : Port) → HasTiles chip.grid → CopiesFit chip.grid net.copies
    → after_copy_hop chip net r port slot out ≡ Some new → Lowers chip net new
unfolding after_copy_hop requests_to_go
hop_lowers chip net new r port slot out some fits =
    bind_eq (Lowers chip net) (after_hop chip.grid net.copies r port slot out (expected_at_next_hop chip net r out)) _
    (λ copies hops n is. made (Lowers chip net) (record net { copies = copies }) n
    (let less =
    hopped_lowers chip.grid net.copies copies r port slot out
    (expected_at_next_hop chip net r out) some fits hops in record { ordered = refl; lowers = omega arith }) is)
    new

-- ---- a request is made
pub inject_grows : (chip : Chip) (net new : OrderedNetwork) (t : ℕ) (kind : Kind) (line : ℕ) → length net.interfaces ≡ tile_count chip
    → after_inject chip net t kind line ≡ Some new → MakesFor chip net new
unfolding after_inject requests_to_go
inject_grows chip net new t kind line interfaces =
    bind_eq (MakesFor chip net) (slice_get net.interfaces t) _
    (λ interface there last done. bind_eq (MakesFor chip net) (after_entry chip.grid net.copies (next_request t interface kind line)) _
    (λ copies enters n is. made (MakesFor chip net) (with_interface (record net { copies = copies }) t (made_more interface)) n
    (record { ordered = refl; grows = grows interface copies there enters }) is) last done)
    new
  where
    made_more : Interface → Interface
    made_more interface = record interface { made = interface.made ++ next_request t interface kind line ∷ [] }

    grows : (interface : Interface) (copies : Network NetCopy) → slice_get net.interfaces t ≡ Some interface
        → after_entry chip.grid net.copies (next_request t interface kind line) ≡ Some copies
        → requests_to_go chip (with_interface (record net { copies = copies }) t (made_more interface)) < requests_to_go chip net + per_request chip
    grows interface copies there enters =
        let more = made_more interface in
        let within = slice_get_within net.interfaces t interface there in
        let copies_grow = entered_grows chip.grid net.copies copies (next_request t interface kind line) (omega arith) enters in
        let prices = sum_by-set (λ (interface : Interface). per_made chip * (length interface.made - interface.posted)) net.interfaces t interface more there in
        let deliveries = sum_by-set (λ (interface : Interface). length net.ordered - interface.delivered) net.interfaces t interface more there in
        let longer = length-append interface.made (next_request t interface kind line ∷ []) in
        let price = mul-le-mul_left (per_made chip) (one_longer (length more.made) (length interface.made) interface.posted longer) in
        omega (arith, mul-add (per_made chip) (length interface.made - interface.posted) 1)
      where
        one_longer : (b a p : ℕ) → b ≡ a + 1 → b - p ≤ (a - p) + 1
        one_longer b a p longer = omega arith

-- ---- a delivery
pub delivery_lowers : (chip : Chip) (net : OrderedNetwork) (t : ℕ) (out : Request × OrderedNetwork)
    → ((interface : Interface) → slice_get net.interfaces t ≡ Some interface → interface.delivered < length net.ordered) → CopiesFit chip.grid net.copies
    → after_delivery chip net t ≡ Some out → Lowers chip net out.1
unfolding after_delivery requests_to_go
delivery_lowers chip net t out within fits =
    bind_eq P (slice_get net.interfaces t) _
    (λ interface there last done. bind_eq P (expected_at chip net t) _
    (λ name expects last done. bind_eq P (after_serve net.copies t name) _
    (λ one serves last is. made P (one.0, with_interface (record net { copies = one.1 }) t (delivered_more interface)) last
    (let less = within interface there in
    let same = served_same chip.grid net.copies t name one fits serves in
    let prices =
    sum_by-set (λ (interface : Interface). per_made chip * (length interface.made - interface.posted)) net.interfaces t interface
    (delivered_more interface) there in
    let deliveries =
    sum_by-set (λ (interface : Interface). length net.ordered - interface.delivered) net.interfaces t interface (delivered_more interface) there in
    record { ordered = refl; lowers = omega arith }) is)
    last done) last done)
    out
  where
    P : Request × OrderedNetwork → Type 0
    P out = Lowers chip net out.1

    delivered_more : Interface → Interface
    delivered_more interface = record interface { delivered = interface.delivered + 1 }
