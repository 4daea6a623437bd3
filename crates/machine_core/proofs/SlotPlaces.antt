-- Where the event of a slot stands in the list of all slots, and how long that list is.
use Rattle.std.proofs.Common.{◌≡◌, ℕ, zero, suc, ◌+◌, ◌*◌, ◌<◌, List, [], ◌∷◌, ◌++◌, Some, length, refl, sym, ◌∙◌, ap, subst, arith, zero-mul, suc-mul, ◌/◌}
use Rattle.std.proofs.Common.{div-lt_iff_lt-mul}
use Rattle.std.specs.Prelude.{slice_get, map}
use Rattle.std.specs.List.{flat_map}
use Rattle.std.proofs.lemmas.List.{length-append, length-map}
use Rattle.std.proofs.lemmas.List.Concat.{flat_map-cons}
use Rattle.std.proofs.lemmas.Option.{same_Some}
use Rattle.mesh_gen.specs.declared.port.Port.{Port}
use Rattle.mesh_gen.specs.declared.port.Port.TheVariants.{L}
use Rattle.order_tracker.specs.Order.{upwards}
use Rattle.report_text.specs.declared.event.Event.{Event}
use Rattle.report_text.specs.declared.event.Event.TheVariants.{Tick, Hop, DataHop, DataEject}
use Rattle.chip_model.specs.Chip.{Chip, tile_count}
use Rattle.chip_model.specs.Schedules.{output_ports, ports, hops_from, router_hops, reply_events, tile_slots, slots, slots_per_tile, slot_count}
use Rattle.net_iface.proofs.Named.{slice_get-append_left, slice_get-append_right}
use Rattle.machine_core.specs.Slots.{own_events}

-- ---- lists of one length, one after another

abbrev AreAsLong : {X Y : Type 0} → (X → List Y) → ℕ → Type 0
AreAsLong f each = (x : _) → length (f x) ≡ each

length_flat : {X Y : Type 0} (f : X → List Y) (each : ℕ) → AreAsLong f each → (xs : List X) → length (flat_map f xs) ≡ length xs * each
length_flat f each same [] = sym (zero-mul each)
length_flat f each same (x ∷ xs) =
    ap length (flat_map-cons f x xs) ∙ length-append (f x) (flat_map f xs) ∙ omega (arith, same x, length_flat f each same xs, suc-mul (length xs) each)

-- the place of something in the list of a place
flat_at : {X Y : Type 0} (f : X → List Y) (each : ℕ) → AreAsLong f each → (xs : List X) (i j n : ℕ) (x : X) → slice_get xs i ≡ Some x → j < each
    → n ≡ i * each + j
    → slice_get (flat_map f xs) n ≡ slice_get (f x) j
flat_at f each same [] i j n x at below is = cc
flat_at f each same (z ∷ xs) zero j n x at below is =
    let first : n ≡ j = omega (arith, is, zero-mul each) in
    ap (λ list. slice_get list n) (flat_map-cons f z xs)
    ∙ slice_get-append_left (f z) (flat_map f xs) n (omega (arith, first, same z))
    ∙ ap (slice_get (f z)) first
    ∙ ap (λ y. slice_get (f y) j) (same_Some z x at)
flat_at f each same (z ∷ xs) (suc i) j n x at below is =
    ap (λ list. slice_get list n) (flat_map-cons f z xs)
    ∙ slice_get-append_right (f z) (flat_map f xs) n (i * each + j) (omega (arith, is, same z, suc-mul i each))
    ∙ flat_at f each same xs i j (i * each + j) x at below refl

map_at : {X Y : Type 0} (f : X → Y) (xs : List X) (k : ℕ) (x : X) → slice_get xs k ≡ Some x → slice_get (map f xs) k ≡ Some (f x)
map_at f [] k x at = cc
map_at f (z ∷ xs) zero x at = ap (λ y. Some (f y)) (same_Some z x at)
map_at f (z ∷ xs) (suc k) x at = map_at f xs k x at

upwards_at : (first count k : ℕ) → k < count → slice_get (upwards first count) k ≡ Some (first + k)
upwards_at first zero k below = absurd (omega arith)
upwards_at first (suc count) zero below = ap Some (omega arith)
upwards_at first (suc count) (suc k) below = upwards_at (first + 1) count k (omega arith) ∙ ap Some (omega arith)

number_at : (count k : ℕ) → k < count → slice_get (upwards 0 count) k ≡ Some k
number_at count k below = upwards_at 0 count k below ∙ ap Some (omega arith)

length_upwards : (first count : ℕ) → length (upwards first count) ≡ count
length_upwards first zero = refl
length_upwards first (suc count) = ap suc (length_upwards (first + 1) count)

-- ---- hops

hops_at : (r : ℕ) (port : Port) (slot d : ℕ) (out : Port) → slice_get output_ports d ≡ Some out
    → slice_get (hops_from r port slot) d ≡ Some (Hop r port slot out)
hops_at r port slot d out at = map_at (Hop r port slot) output_ports d out at

-- there are four sides
pub side_below : (d : ℕ) (out : Port) → slice_get output_ports d ≡ Some out → d < 4
side_below zero out there = omega arith
side_below (suc zero) out there = omega arith
side_below (suc (suc zero)) out there = omega arith
side_below (suc (suc (suc zero))) out there = omega arith
side_below (suc (suc (suc (suc d)))) out there = cc

own_hops : Chip → ℕ → List Event
own_hops chip r = flat_map (hops_from r L) (upwards 0 chip.vcs)

port_hops : Chip → ℕ → Port → List Event
port_hops chip r port = flat_map (hops_from r port) (upwards 0 (chip.vcs + 1))

side_hops : Chip → ℕ → List Event
side_hops chip r = flat_map (port_hops chip r) output_ports

length_own : (chip : Chip) (r : ℕ) → length (own_hops chip r) ≡ chip.vcs * 4
unfolding own_hops
length_own chip r = length_flat (hops_from r L) 4 (λ slot. refl) (upwards 0 chip.vcs) ∙ ap (λ n. n * 4) (length_upwards 0 chip.vcs)

length_port : (chip : Chip) (r : ℕ) (port : Port) → length (port_hops chip r port) ≡ (chip.vcs + 1) * 4
unfolding port_hops
length_port chip r port = length_flat (hops_from r port) 4 (λ slot. refl) (upwards 0 (chip.vcs + 1)) ∙ ap (λ n. n * 4) (length_upwards 0 (chip.vcs + 1))

length_side : (chip : Chip) (r : ℕ) → length (side_hops chip r) ≡ 4 * ((chip.vcs + 1) * 4)
unfolding side_hops
length_side chip r = length_flat (port_hops chip r) ((chip.vcs + 1) * 4) (length_port chip r) output_ports

pub length_hops : (chip : Chip) (r : ℕ) → length (router_hops chip r) ≡ 16 + 20 * chip.vcs
unfolding own_hops side_hops port_hops
length_hops chip r = length-append (own_hops chip r) (side_hops chip r) ∙ omega (arith, length_own chip r, length_side chip r)

pub own_hop_at : (chip : Chip) (r slot d j : ℕ) (out : Port) → slot < chip.vcs → d < 4 → j ≡ slot * 4 + d → slice_get output_ports d ≡ Some out
    → slice_get (router_hops chip r) j ≡ Some (Hop r L slot out)
unfolding own_hops side_hops port_hops
own_hop_at chip r slot d j out below small is at =
    slice_get-append_left (own_hops chip r) (side_hops chip r) j (omega (arith, length_own chip r))
    ∙ flat_at (hops_from r L) 4 (λ slot. refl) (upwards 0 chip.vcs) slot d j slot (number_at chip.vcs slot below) small is
    ∙ hops_at r L slot d out at

pub side_hop_at : (chip : Chip) (r p slot d j : ℕ) (port out : Port) → slice_get output_ports p ≡ Some port → slot < chip.vcs + 1 → d < 4
    → j ≡ chip.vcs * 4 + (p * ((chip.vcs + 1) * 4) + (slot * 4 + d)) → slice_get output_ports d ≡ Some out
    → slice_get (router_hops chip r) j ≡ Some (Hop r port slot out)
unfolding own_hops side_hops port_hops
side_hop_at chip r p slot d j port out side below small is at =
    slice_get-append_right (own_hops chip r) (side_hops chip r) j (p * ((chip.vcs + 1) * 4) + (slot * 4 + d)) (omega (arith, is, length_own chip r))
    ∙ flat_at (port_hops chip r) ((chip.vcs + 1) * 4) (length_port chip r) output_ports p (slot * 4 + d) (p * ((chip.vcs + 1) * 4) +
    (slot * 4 + d)) port side (omega arith) refl
    ∙ flat_at (hops_from r port) 4 (λ slot. refl) (upwards 0 (chip.vcs + 1)) slot d (slot * 4 + d) slot (number_at (chip.vcs + 1) slot below) small refl
    ∙ hops_at r port slot d out at

-- ---- replies

replies_of : Chip → (Port → ℕ → Event) → Port → List Event
replies_of chip event port = map (event port) (upwards 0 chip.data_vcs)

length_replies : (chip : Chip) (event : Port → ℕ → Event) (port : Port) → length (replies_of chip event port) ≡ chip.data_vcs
unfolding replies_of
length_replies chip event port = length-map (upwards 0 chip.data_vcs) (event port) ∙ length_upwards 0 chip.data_vcs

pub length_reply : (chip : Chip) (event : Port → ℕ → Event) → length (reply_events chip event) ≡ 5 * chip.data_vcs
unfolding replies_of
length_reply chip event = length_flat (replies_of chip event) chip.data_vcs (length_replies chip event) ports

pub reply_at : (chip : Chip) (event : Port → ℕ → Event) (p slot j : ℕ) (port : Port) → slice_get ports p ≡ Some port → slot < chip.data_vcs
    → j ≡ p * chip.data_vcs + slot
    → slice_get (reply_events chip event) j ≡ Some (event port slot)
unfolding replies_of
reply_at chip event p slot j port at below is =
    flat_at (replies_of chip event) chip.data_vcs (length_replies chip event) ports p slot j port at below is
    ∙ map_at (event port) (upwards 0 chip.data_vcs) slot slot (number_at chip.data_vcs slot below)

-- ---- the slots of a tile

pub length_tile : (chip : Chip) (t : ℕ) → length (tile_slots chip t) ≡ slots_per_tile chip
length_tile chip t =
    length-append (own_events t ++ router_hops chip t ++ reply_events chip (DataHop t)) (reply_events chip (DataEject t))
    ∙ ap (λ n. n + length (reply_events chip (DataEject t))) (length-append (own_events t ++ router_hops chip t) (reply_events chip (DataHop t))
    ∙ ap (λ n. n + length (reply_events chip (DataHop t))) (length-append (own_events t) (router_hops chip t)))
    ∙ omega (arith, length_hops chip t, length_reply chip (DataHop t), length_reply chip (DataEject t))

pub own_slot_at : (chip : Chip) (t j : ℕ) (event : Event) → j < 6 → slice_get (own_events t) j ≡ Some event → slice_get (tile_slots chip t) j ≡ Some event
own_slot_at chip t j event below at =
    slice_get-append_left (own_events t ++ router_hops chip t ++ reply_events chip (DataHop t)) (reply_events chip (DataEject t)) j
    (omega (arith, length-append (own_events t ++ router_hops chip t) (reply_events chip (DataHop t)), length-append (own_events t) (router_hops chip t)))
    ∙ slice_get-append_left (own_events t ++ router_hops chip t) (reply_events chip (DataHop t)) j (omega (
      arith,
      length-append (own_events t)
          (router_hops chip t),
    ))
    ∙ slice_get-append_left (own_events t) (router_hops chip t) j below
    ∙ at

pub hop_slot_at : (chip : Chip) (t j k : ℕ) (event : Event) → j ≡ 6 + k → k < 16 + 20 * chip.vcs → slice_get (router_hops chip t) k ≡ Some event
    → slice_get (tile_slots chip t) j ≡ Some event
hop_slot_at chip t j k event is below at =
    slice_get-append_left (own_events t ++ router_hops chip t ++ reply_events chip (DataHop t)) (reply_events chip (DataEject t)) j
    (omega (
      arith,
      is,
      length_hops chip t,
      length-append (own_events t ++ router_hops chip t) (reply_events chip (DataHop t)),
      length-append
          (own_events t) (router_hops chip t),
    ))
    ∙ slice_get-append_left (own_events t ++ router_hops chip t) (reply_events chip (DataHop t)) j (omega (
      arith,
      is,
      length_hops chip t,
      length-append
          (own_events t) (router_hops chip t),
    ))
    ∙ slice_get-append_right (own_events t) (router_hops chip t) j k is
    ∙ at

pub data_hop_slot_at : (chip : Chip) (t j k : ℕ) (event : Event) → j ≡ 22 + 20 * chip.vcs + k → k < 5 * chip.data_vcs
    → slice_get (reply_events chip (DataHop t)) k ≡ Some event
    → slice_get (tile_slots chip t) j ≡ Some event
data_hop_slot_at chip t j k event is below at =
    slice_get-append_left (own_events t ++ router_hops chip t ++ reply_events chip (DataHop t)) (reply_events chip (DataEject t)) j
    (omega (
      arith,
      is,
      length_hops chip t,
      length_reply chip (DataHop t),
      length-append (own_events t ++ router_hops chip t) (reply_events chip
          (DataHop t)),
      length-append (own_events t) (router_hops chip t),
    ))
    ∙ slice_get-append_right (own_events t ++ router_hops chip t) (reply_events chip (DataHop t)) j k (omega (
      arith,
      is,
      length_hops chip t,
      length-append
          (own_events t) (router_hops chip t),
    ))
    ∙ at

pub data_eject_slot_at : (chip : Chip) (t j k : ℕ) (event : Event) → j ≡ 22 + 20 * chip.vcs + 5 * chip.data_vcs + k
    → slice_get (reply_events chip (DataEject t)) k ≡ Some event
    → slice_get (tile_slots chip t) j ≡ Some event
data_eject_slot_at chip t j k event is at =
    slice_get-append_right (own_events t ++ router_hops chip t ++ reply_events chip (DataHop t)) (reply_events chip (DataEject t)) j k
    (omega (
      arith,
      is,
      length_hops chip t,
      length_reply chip (DataHop t),
      length-append (own_events t ++ router_hops chip t) (reply_events chip
          (DataHop t)),
      length-append (own_events t) (router_hops chip t),
    ))
    ∙ at

-- ---- all slots

pub length_slots : (chip : Chip) → length (slots chip) ≡ slot_count chip
unfolding slots
length_slots chip =
    ap suc (length_flat (tile_slots chip) (slots_per_tile chip) (length_tile chip) (upwards 0 (tile_count chip))
    ∙ ap (λ n. n * slots_per_tile chip) (length_upwards 0 (tile_count chip)))
    ∙ omega arith

pub tick_at : (chip : Chip) → slice_get (slots chip) 0 ≡ Some Tick
unfolding slots
tick_at chip = refl

pub tile_slot_at : (chip : Chip) (t j k : ℕ) (event : Event) → t < tile_count chip → j < slots_per_tile chip → k ≡ suc (t * slots_per_tile chip + j)
    → slice_get (tile_slots chip t) j ≡ Some event
    → slice_get (slots chip) k ≡ Some event
unfolding slots
tile_slot_at chip t j k event inside below is at =
    subst (λ (n : ℕ). slice_get (slots chip) n ≡ Some event) (sym is)
    (flat_at (tile_slots chip) (slots_per_tile chip) (length_tile chip) (upwards 0 (tile_count chip)) t j (t * slots_per_tile chip + j) t (number_at
    (tile_count chip) t inside) below refl ∙ at)

-- a number below n times a size is in one of the first n pieces of that size
pub quotient_below : (k n each : ℕ) → 0 < each → k < n * each → k / each < n
quotient_below k n each some below = (div-lt_iff_lt-mul some).1 below
