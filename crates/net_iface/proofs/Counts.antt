-- What is counted of each tile.
use Rattle.std.proofs.Common.{◌≡◌, ℕ, ◌<◌, ◌≤◌, length, map, Some, None, refl, sym, ◌∙◌, ap, arith}
use Rattle.std.specs.Prelude.{slice_get, slice_index, option_map}
use Rattle.std.specs.List.{range_with_len}
use Rattle.std.proofs.lemmas.List.{length-map, get_or-map, ext_get_or}
use Rattle.std.proofs.lemmas.List.FromFn.{length-map-range_with_len, get_or-map-range_with_len}
use Rattle.mesh_gen.specs.declared.request.Request.{Request}
use Rattle.mesh_gen.specs.declared.kind.Kind.{Kind}
use Rattle.chip_model.specs.Chip.{tile_count}
use Rattle.chip_model.specs.OrderedNetwork.{Interface, next_request}
use Rattle.net_iface.specs.OrderedNet.{delivered_counts}
use Rattle.net_iface.specs.Parts.{Parts, interface_of, network_of, AreSized, AreKept}
use Rattle.net_iface.proofs.Expected.{interface_at, no_interface}

-- the counts of delivered requests
pub delivered_counts-network : (p : Parts) → AreSized p → delivered_counts (network_of p) ≡ p.delivered
delivered_counts-network p sizes =
    let f = interface_of p.windows.windows.posts p.ordered p.unordered p.delivered in
    let n = tile_count p.chip in
    let count : length (map f (range_with_len 0 n)) ≡ n = length-map-range_with_len f 0 n in
    let counted : length (delivered_counts (network_of p)) ≡ n = length-map (map f (range_with_len 0 n)) (λ (interface : Interface). interface.delivered) ∙ count in
    ext_get_or 0 (delivered_counts (network_of p)) p.delivered (counted ∙ sym sizes.delivered)
    (λ t inside.
    let within : t < n = omega arith in
    get_or-map (λ (interface : Interface). interface.delivered) (map f (range_with_len 0 n)) t (f t) 0 (omega arith)
    ∙ ap (λ (interface : Interface). interface.delivered) (get_or-map-range_with_len f 0 n t t (f t) within (omega arith)))

-- the next request of a tile is numbered by how many it made
pub next_request-some : (p : Parts) (t number : ℕ) (kind : Kind) (line : ℕ) → AreKept p → t < tile_count p.chip → number ≡ slice_index p.made t
    → Some (record { source = t; number = number; kind = kind; line = line }) ≡ option_map {U = Request} (λ interface. next_request t interface kind line) (slice_get (network_of p).interfaces t)
next_request-some p t number kind line kept inside is = rw (interface_at p t inside, ← kept.counts t inside, ← is) refl

pub next_request-none : (p : Parts) (t : ℕ) (kind : Kind) (line : ℕ) → tile_count p.chip ≤ t → None ≡ option_map {U = Request} (λ interface. next_request t interface kind line) (slice_get (network_of p).interfaces t)
next_request-none p t kind line past = rw (no_interface p t past) refl
