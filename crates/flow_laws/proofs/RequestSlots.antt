-- The slots of the events that move requests: a step of the ordered network that is possible is that of a slot.
use Rattle.std.proofs.Common.{◌≡◌, ℕ, zero, suc, ◌+◌, ◌<◌, Bool, true, false, List, [], ◌∷◌, ◌++◌, Option, Some, None, length, refl, sym, ◌∙◌, ap, subst, arith}
use Rattle.std.specs.Prelude.{slice_get, is_some, map, set, Contains}
use Rattle.std.specs.List.{flat_map}
use Rattle.std.proofs.lemmas.List.{length-replicate}
use Rattle.std.proofs.lemmas.List.Concat.{flat_map-cons}
use Rattle.std.proofs.lemmas.List.Elements.{Contains-append_left, Contains-append_right}
use Rattle.std.proofs.lemmas.Option.{slice_get_within}
use Rattle.mesh_gen.specs.declared.port.Port.{Port}
use Rattle.mesh_gen.specs.declared.port.Port.TheVariants.{L, E, W, N, S}
use Rattle.mesh_gen.specs.Grid.{Grid, neighbour}
use Rattle.mesh_gen.specs.Ports.{port_number}
use Rattle.mesh_gen.specs.Partial.{◌>>=◌, when}
use Rattle.order_tracker.specs.Order.{upwards}
use Rattle.vc_bank.specs.Channels.{slots_at, empty_channels}
use Rattle.vc_bank.specs.Places.{Network, at, slots as slots_of}
use Rattle.vc_bank.proofs.PlaceLaws.{place_of}
use Rattle.report_text.specs.declared.event.Event.{Event}
use Rattle.report_text.specs.declared.event.Event.TheVariants.{Tick, Core, Inject, Post, Take, Eject, Send, Hop, DataHop, DataEject}
use Rattle.chip_model.specs.declared.net_copy.NetCopy.{NetCopy}
use Rattle.chip_model.specs.Chip.{Chip, tile_count}
use Rattle.chip_model.specs.Windows.{after_take}
use Rattle.chip_model.specs.Copies.{Name, channels_of, owes, after_hop}
use Rattle.chip_model.specs.OrderedNetwork.{OrderedNetwork, after_request_post, after_vector_take, after_copy_hop, expected_at_next_hop}
use Rattle.chip_model.specs.NetworkShape.{HasChannels}
use Rattle.chip_model.specs.Schedules.{output_ports, ports, hops_from, router_hops, reply_events, tile_slots, slots}
use Rattle.flow_laws.proofs.RouterChannels.{bank_there}
use Rattle.flow_laws.proofs.MessageMoves.{router_inside}

-- something stands at a place of a list
pub record Has {X : Type 0} (xs : List X) (x : X) : Type 0 where
  pub place : ℕ
  pub there : slice_get xs place ≡ Some x

-- ---- what lists that are made of lists contain
pub contains_first : {X : Type 0} (x : X) (xs : List X) → Contains (x ∷ xs) x
contains_first x xs = (0, omega arith, refl)

pub contains_later : {X : Type 0} (x first : X) (xs : List X) → Contains xs x → Contains (first ∷ xs) x
contains_later x first xs has = (suc has.0, omega (arith, has.1), has.2)

pub contains_map : {X Y : Type 0} (f : X → Y) (xs : List X) (x : X) (k : ℕ) → slice_get xs k ≡ Some x → Contains (map f xs) (f x)
contains_map f [] x k there = cc
contains_map f (first ∷ xs) x zero there = let same : first ≡ x = cc in subst (λ y. Contains (f y ∷ map f xs) (f x)) (sym same) (contains_first (f x) (map f xs))
contains_map f (first ∷ xs) x (suc k) there = contains_later (f x) (f first) (map f xs) (contains_map f xs x k there)

pub contains_flat : {X Y : Type 0} (f : X → List Y) (xs : List X) (x : X) (y : Y) → Has xs x → Contains (f x) y → Contains (flat_map f xs) y
contains_flat {X} {Y} f xs x y has within = by xs has.place has.there
  where
    by : (xs : List X) (k : ℕ) → slice_get xs k ≡ Some x → Contains (flat_map f xs) y
    by [] k there = cc
    by (first ∷ xs) zero there =
        let same : first ≡ x = cc in
        subst (λ (list : List Y). Contains list y) (sym (flat_map-cons f first xs)) (Contains-append_left (f first) (flat_map f xs) y (subst (λ (z : X). Contains (f z) y) (sym same) within))
    by (first ∷ xs) (suc k) there = subst (λ (list : List Y). Contains list y) (sym (flat_map-cons f first xs)) (Contains-append_right (f first) (flat_map f xs) y (by xs k there))

pub has_upwards : (first count k : ℕ) → k < count → slice_get (upwards first count) k ≡ Some (first + k)
has_upwards first zero k below = absurd (omega arith)
has_upwards first (suc count) zero below = ap Some (omega arith)
has_upwards first (suc count) (suc k) below = has_upwards (first + 1) count k (omega arith) ∙ ap Some (omega arith)

pub has_number : (count k : ℕ) → k < count → Has (upwards 0 count) k
has_number count k below = record { place = k; there = has_upwards 0 count k below ∙ ap Some (omega arith) }

-- ---- the slots of a tile
pub tile_slot : (chip : Chip) (t : ℕ) (event : Event) → t < tile_count chip → Contains (tile_slots chip t) event → Contains (slots chip) event
unfolding slots
tile_slot chip t event inside has =
    contains_later event Tick (flat_map (tile_slots chip) (upwards 0 (tile_count chip)))
    (contains_flat (tile_slots chip) (upwards 0 (tile_count chip)) t event (has_number (tile_count chip) t inside) has)

abbrev pub own_events : ℕ → List Event
own_events t = Core t ∷ Inject t ∷ Post t ∷ Take t ∷ Eject t ∷ Send t ∷ []

pub own_slot : (chip : Chip) (t : ℕ) (event : Event) → t < tile_count chip → Contains (own_events t) event → Contains (slots chip) event
own_slot chip t event inside has =
    tile_slot chip t event inside
    (Contains-append_left (Core t ∷ Inject t ∷ Post t ∷ Take t ∷ Eject t ∷ Send t ∷ []) (router_hops chip t ++ reply_events chip (DataHop t) ++ reply_events chip (DataEject t)) event has)

pub is_output_port : (g : Grid) (r n : ℕ) (out : Port) → neighbour g r out ≡ Some n → Has output_ports out
is_output_port g r n L next = cc
is_output_port g r n E next = record { place = 0; there = refl }
is_output_port g r n W next = record { place = 1; there = refl }
is_output_port g r n N next = record { place = 2; there = refl }
is_output_port g r n S next = record { place = 3; there = refl }

pub has_port : (port : Port) → Has ports port
has_port L = record { place = 0; there = refl }
has_port E = record { place = 1; there = refl }
has_port W = record { place = 2; there = refl }
has_port N = record { place = 3; there = refl }
has_port S = record { place = 4; there = refl }

pub hops_in : (r : ℕ) (port : Port) (slot : ℕ) (out : Port) → Has output_ports out → Contains (hops_from r port slot) (Hop r port slot out)
hops_in r port slot out has = contains_map (Hop r port slot) output_ports out has.place has.there

pub side_hop : (chip : Chip) (r : ℕ) (port : Port) (slot : ℕ) (out : Port) → Has output_ports port → Has output_ports out → slot < chip.vcs + 1 → Contains (router_hops chip r) (Hop r port slot out)
side_hop chip r port slot out has_port has_out below =
    Contains-append_right (flat_map (hops_from r L) (upwards 0 chip.vcs)) (flat_map (λ port. flat_map (hops_from r port) (upwards 0 (chip.vcs + 1))) output_ports) (Hop r port slot out)
    (contains_flat (λ (port : Port). flat_map (hops_from r port) (upwards 0 (chip.vcs + 1))) output_ports port (Hop r port slot out) has_port
    (contains_flat (hops_from r port) (upwards 0 (chip.vcs + 1)) slot (Hop r port slot out) (has_number (chip.vcs + 1) slot below) (hops_in r port slot out has_out)))

pub router_hop : (chip : Chip) (r : ℕ) (port : Port) (slot : ℕ) (out : Port) → Has output_ports out → slot < length (slots_at (empty_channels {P = NetCopy} chip.vcs true) (port_number port))
    → Contains (router_hops chip r) (Hop r port slot out)
router_hop chip r L slot out has below =
    Contains-append_left (flat_map (hops_from r L) (upwards 0 chip.vcs)) (flat_map (λ port. flat_map (hops_from r port) (upwards 0 (chip.vcs + 1))) output_ports) (Hop r L slot out)
    (contains_flat (hops_from r L) (upwards 0 chip.vcs) slot (Hop r L slot out)
    (has_number chip.vcs slot (omega (arith, below, length-replicate {A = Option NetCopy} chip.vcs None))) (hops_in r L slot out has))
router_hop chip r E slot out has below = side_hop chip r E slot out (record { place = 0; there = refl }) has (omega (arith, below, length-replicate {A = Option NetCopy} (chip.vcs + 1) None))
router_hop chip r W slot out has below = side_hop chip r W slot out (record { place = 1; there = refl }) has (omega (arith, below, length-replicate {A = Option NetCopy} (chip.vcs + 1) None))
router_hop chip r N slot out has below = side_hop chip r N slot out (record { place = 2; there = refl }) has (omega (arith, below, length-replicate {A = Option NetCopy} (chip.vcs + 1) None))
router_hop chip r S slot out has below = side_hop chip r S slot out (record { place = 3; there = refl }) has (omega (arith, below, length-replicate {A = Option NetCopy} (chip.vcs + 1) None))

pub hop_slot : (chip : Chip) (r : ℕ) (port : Port) (slot : ℕ) (out : Port) → r < tile_count chip → Has output_ports out
    → slot < length (slots_at (empty_channels {P = NetCopy} chip.vcs true) (port_number port)) → Contains (slots chip) (Hop r port slot out)
hop_slot chip r port slot out inside has below =
    tile_slot chip r (Hop r port slot out) inside
    (Contains-append_right (Core r ∷ Inject r ∷ Post r ∷ Take r ∷ Eject r ∷ Send r ∷ []) (router_hops chip r ++ reply_events chip (DataHop r) ++ reply_events chip (DataEject r)) (Hop r port slot out)
    (Contains-append_left (router_hops chip r ++ reply_events chip (DataHop r)) (reply_events chip (DataEject r)) (Hop r port slot out)
    (Contains-append_left (router_hops chip r) (reply_events chip (DataHop r)) (Hop r port slot out) (router_hop chip r port slot out has below))))

-- ---- what a step that is possible has found
pub record Binds {X Y : Type 0} (o : Option X) (f : X → Option Y) : Type 0 where
  pub value : X
  pub is : o ≡ Some value
  pub rest : is_some (f value) ≡ true

pub binds : {X Y : Type 0} (o : Option X) (f : X → Option Y) → is_some (o >>= f) ≡ true → Binds o f
binds None f some = cc
binds (Some x) f some = record { value = x; is = refl; rest = some }

pub some_when : {X : Type 0} (b : Bool) (o : Option X) → is_some (when b o) ≡ true → is_some o ≡ true
some_when true o some = some
some_when false o some = cc

pub is_poster : (chip : Chip) (net : OrderedNetwork) (t : ℕ) → length net.interfaces ≡ tile_count chip → is_some (after_request_post net t) ≡ true → t < tile_count chip
unfolding after_request_post
is_poster chip net t long some = let interface = binds (slice_get net.interfaces t) _ some in omega (arith, slice_get_within net.interfaces t interface.value interface.is)

pub is_taker : (chip : Chip) (net : OrderedNetwork) (t : ℕ) → length net.windows.taken ≡ tile_count chip → is_some (after_vector_take net t) ≡ true → t < tile_count chip
unfolding after_vector_take after_take
is_taker chip net t long some =
    let windows = binds (slice_get net.windows.taken t >>= (λ count.
    slice_get net.windows.closed count >>= (λ vector. Some (record net.windows { taken = set net.windows.taken t (count + 1) })))) _ some
    in
    let count = binds (slice_get net.windows.taken t) _ (ap is_some windows.is) in
    omega (arith, slice_get_within net.windows.taken t count.value count.is)

-- a copy that hops
pub record IsHop (chip : Chip) (net : OrderedNetwork) (r : ℕ) (port : Port) (slot : ℕ) (out : Port) : Type 0 where
  pub copy : NetCopy
  pub stands : at net.copies r (port_number port) slot ≡ Some copy
  pub side : Has output_ports out

pub hop_from : (g : Grid) (net : Network NetCopy) (r : ℕ) (port : Port) (slot : ℕ) (out : Port) (expected : Option Name) → is_some (after_hop g net r port slot out expected) ≡ true
    → (copy : NetCopy) × (at net r (port_number port) slot ≡ Some copy) × Has output_ports out
unfolding after_hop
hop_from g net r port slot out expected some =
    let copy = binds (at net r (port_number port) slot) _ some in
    let next = binds (neighbour g r out) _ (some_when (owes copy.value out) _ copy.rest) in
    (copy.value, copy.is, is_output_port g r next.value out next.is)

pub is_hop : (chip : Chip) (net : OrderedNetwork) (r : ℕ) (port : Port) (slot : ℕ) (out : Port) → is_some (after_copy_hop chip net r port slot out) ≡ true → IsHop chip net r port slot out
unfolding after_copy_hop
is_hop chip net r port slot out some =
    let copies = binds (after_hop chip.grid net.copies r port slot out (expected_at_next_hop chip net r out)) _ some in
    let from = hop_from chip.grid net.copies r port slot out (expected_at_next_hop chip net r out) (ap is_some copies.is) in
    record { copy = from.0; stands = from.1; side = from.2 }

-- a packet stands in a channel that is there
pub slot_below : {P : Type 0} (g : Grid) (normal : ℕ) (reserved : Bool) (net : Network P) (r p slot : ℕ) (packet : P) → HasChannels g normal reserved net → at net r p slot ≡ Some packet
    → slot < length (slots_at (empty_channels {P = P} normal reserved) p)
unfolding slots_of
slot_below g normal reserved net r p slot packet have stands =
    let within : slot < length (slots_at (channels_of net r) p) = place_of net r p slot packet stands in
    omega (arith, within, have.slots r p (channels_of net r) (bank_there g normal reserved net r have (router_inside g normal reserved net r p slot packet have stands)))
