-- Each slot is of a tile of the chip, and within the limits of entries.
use Rattle.std.proofs.Common.{◌≡◌, ℕ, zero, suc, ◌+◌, ◌<◌, ◌≤◌, List, [], ◌∷◌, ◌++◌, length, get_or, refl, sym, subst, arith}
use Rattle.std.specs.Prelude.{map, Contains}
use Rattle.std.specs.List.{flat_map, AllByRecursion}
use Rattle.std.proofs.lemmas.List.Concat.{flat_map-cons}
use Rattle.mesh_gen.specs.declared.port.Port.{Port}
use Rattle.mesh_gen.specs.declared.port.Port.TheVariants.{L}
use Rattle.order_tracker.specs.Order.{upwards}
use Rattle.report_text.specs.declared.event.Event.{Event}
use Rattle.report_text.specs.declared.event.Event.TheVariants.{Tick, Core, Inject, Post, Take, Eject, Send, Hop, DataHop, DataEject}
use Rattle.report_text.specs.Events.{IsWithinLimits}
use Rattle.chip_model.specs.Chip.{Chip, tile_count}
use Rattle.chip_model.specs.Schedules.{output_ports, ports, hops_from, router_hops, reply_events, tile_slots, slots}
use Rattle.machine_core.specs.Stations.{IsAtStation, tile_of}
use Rattle.machine_core.specs.Slots.{own_events}

pub all_append : {X : Type 0} (P : X → Type 0) (xs ys : List X) → AllByRecursion P xs → AllByRecursion P ys → AllByRecursion P (xs ++ ys)
all_append P [] ys all rest = rest
all_append P (x ∷ xs) ys all rest = (all.0, all_append P xs ys all.1 rest)

pub all_map : {X Y : Type 0} (P : Y → Type 0) (f : X → Y) → ((x : X) → P (f x)) → (xs : List X) → AllByRecursion P (map f xs)
all_map P f each [] = tt
all_map P f each (x ∷ xs) = (each x, all_map P f each xs)

pub all_flat : {X Y : Type 0} (P : Y → Type 0) (f : X → List Y) → ((x : X) → AllByRecursion P (f x)) → (xs : List X) → AllByRecursion P (flat_map f xs)
all_flat P f each [] = tt
all_flat P f each (x ∷ xs) = subst (AllByRecursion P) (sym (flat_map-cons f x xs)) (all_append P (f x) (flat_map f xs) (each x) (all_flat P f each xs))

IsOf : ℕ → Event → Type 0
IsOf t e = tile_of e ≡ t

tile_all : (chip : Chip) (t : ℕ) → AllByRecursion (IsOf t) (tile_slots chip t)
unfolding IsOf
tile_all chip t =
    all_append (IsOf t) (own_events t ++ router_hops chip t ++ reply_events chip (DataHop t)) (reply_events chip (DataEject t))
    (all_append (IsOf t) (own_events t ++ router_hops chip t) (reply_events chip (DataHop t))
    (all_append (IsOf t) (own_events t) (router_hops chip t) (refl, (refl, (refl, (refl, (refl, (refl, tt)))))) hops)
    (replies (DataHop t) (λ port slot. refl)))
    (replies (DataEject t) (λ port slot. refl))
  where
    from : (port : Port) (slot : ℕ) → AllByRecursion (λ e. tile_of e ≡ t) (hops_from t port slot)
    from port slot = all_map (λ e. tile_of e ≡ t) (Hop t port slot) (λ out. refl) output_ports

    hops : AllByRecursion (λ e. tile_of e ≡ t) (router_hops chip t)
    hops =
        all_append (λ e. tile_of e ≡ t) (flat_map (hops_from t L) (upwards 0 chip.vcs)) (flat_map
        (λ port. flat_map (hops_from t port) (upwards 0 (chip.vcs + 1))) output_ports)
        (all_flat (λ e. tile_of e ≡ t) (hops_from t L) (from L) (upwards 0 chip.vcs))
        (all_flat (λ e. tile_of e ≡ t) (λ port. flat_map (hops_from t port) (upwards 0 (chip.vcs + 1))) (λ port. all_flat
        (λ e. tile_of e ≡ t) (hops_from t port) (from port) (upwards 0 (chip.vcs + 1))) output_ports)

    replies : (event : Port → ℕ → Event) → ((port : Port) (slot : ℕ) → tile_of (event port slot) ≡ t)
        → AllByRecursion (λ e. tile_of e ≡ t) (reply_events chip event)
    replies event is =
        all_flat (λ e. tile_of e ≡ t) (λ port. map (event port) (upwards 0 chip.data_vcs)) (λ port. all_map
        (λ e. tile_of e ≡ t) (event port) (is port) (upwards 0 chip.data_vcs)) ports

all_weaken : {X : Type 0} (P Q : X → Type 0) → ((x : X) → P x → Q x) → (xs : List X) → AllByRecursion P xs → AllByRecursion Q xs
all_weaken P Q each [] all = tt
all_weaken P Q each (x ∷ xs) all = (each x all.0, all_weaken P Q each xs all.1)

tiles_all : (chip : Chip) (n first count : ℕ) → first + count ≡ n → AllByRecursion (λ e. tile_of e < n) (flat_map (tile_slots chip) (upwards first count))
unfolding IsOf
tiles_all chip n first zero is = tt
tiles_all chip n first (suc count) is =
    subst (AllByRecursion (λ e. tile_of e < n)) (sym (flat_map-cons (tile_slots chip) first (upwards (first + 1) count)))
    (all_append (λ e. tile_of e < n) (tile_slots chip first) (flat_map (tile_slots chip) (upwards (first + 1) count))
    (all_weaken (λ e. tile_of e ≡ first) (λ e. tile_of e < n) (λ e of. omega (arith, of, is)) (tile_slots chip first) (tile_all chip first))
    (tiles_all chip n (first + 1) count (omega (arith, is))))

all_contained : {X : Type 0} (P : X → Type 0) (xs : List X) (x : X) → AllByRecursion P xs → Contains xs x → P x
all_contained {X} P xs x all has = by xs has.0 all has.1 has.2
  where
    by : (ys : List X) (k : ℕ) → AllByRecursion P ys → k < length ys → get_or ys k x ≡ x → P x
    by [] k all below is = absurd (omega (arith, below))
    by (y ∷ ys) zero all below is = subst P is all.0
    by (y ∷ ys) (suc k) all below is = by ys k all.1 (omega (arith, below)) is

pub slot_tile : (chip : Chip) (e : Event) → 0 < tile_count chip → Contains (slots chip) e → tile_of e < tile_count chip
unfolding slots
slot_tile chip e some has =
    all_contained (λ e. tile_of e < tile_count chip) (Tick ∷ flat_map (tile_slots chip) (upwards 0 (tile_count chip))) e (
      some,
      tiles_all chip
          (tile_count chip) 0 (tile_count chip) (omega arith),
    ) has

-- each slot of a tile is an event of the tile
pub slot_at : (chip : Chip) (t : ℕ) (e : Event) → Contains (tile_slots chip t) e → IsAtStation t e
unfolding IsOf
slot_at chip t e has = by e (all_contained (IsOf t) (tile_slots chip t) e (tile_all chip t) has)
  where
    by : (event : Event) → tile_of event ≡ t → IsAtStation t event
    by Tick of = tt
    by (Core u) of = of
    by (Inject u) of = of
    by (Post u) of = of
    by (Take u) of = of
    by (Eject u) of = of
    by (Send u) of = of
    by (Hop r port slot out) of = of
    by (DataHop r port slot) of = of
    by (DataEject r port slot) of = of

-- all numbers from one on, so many
all_upwards : {Y : Type 0} (P : Y → Type 0) (f : ℕ → List Y) (first count : ℕ) → ((k : ℕ) → k < first + count → AllByRecursion P (f k))
    → AllByRecursion P (flat_map f (upwards first count))
all_upwards P f first zero each = tt
all_upwards P f first (suc count) each =
    subst (AllByRecursion P) (sym (flat_map-cons f first (upwards (first + 1) count)))
    (all_append P (f first) (flat_map f (upwards (first + 1) count)) (each first (omega arith))
    (all_upwards P f (first + 1) count (λ k below. each k (omega (arith, below)))))

all_numbers : {Y : Type 0} (P : Y → Type 0) (f : ℕ → Y) (first count : ℕ) → ((k : ℕ) → k < first + count → P (f k)) → AllByRecursion P (map f (upwards first count))
all_numbers P f first zero each = tt
all_numbers P f first (suc count) each = (each first (omega arith), all_numbers P f (first + 1) count (λ k below. each k (omega (arith, below))))

tile_within : (chip : Chip) (t : ℕ) → t ≤ 63 → chip.vcs ≤ 8 → chip.data_vcs ≤ 4 → AllByRecursion IsWithinLimits (tile_slots chip t)
tile_within chip t tile vcs data_vcs =
    all_append IsWithinLimits (own_events t ++ router_hops chip t ++ reply_events chip (DataHop t)) (reply_events chip (DataEject t))
    (all_append IsWithinLimits (own_events t ++ router_hops chip t) (reply_events chip (DataHop t))
    (all_append IsWithinLimits (own_events t) (router_hops chip t) (tile, (tile, (tile, (tile, (tile, (tile, tt)))))) hops)
    (replies (DataHop t) (λ port slot few. (tile, few))))
    (replies (DataEject t) (λ port slot few. (tile, few)))
  where
    from : (port : Port) (slot : ℕ) → slot ≤ 15 → AllByRecursion IsWithinLimits (hops_from t port slot)
    from port slot few = ((tile, few, λ same. cc), ((tile, few, λ same. cc), ((tile, few, λ same. cc), ((tile, few, λ same. cc), tt))))

    hops : AllByRecursion IsWithinLimits (router_hops chip t)
    hops =
        all_append IsWithinLimits (flat_map (hops_from t L) (upwards 0 chip.vcs)) (flat_map
        (λ port. flat_map (hops_from t port) (upwards 0 (chip.vcs + 1))) output_ports)
        (all_upwards IsWithinLimits (hops_from t L) 0 chip.vcs (λ slot below. from L slot (omega (arith, below, vcs))))
        (all_flat IsWithinLimits (λ port. flat_map (hops_from t port) (upwards 0 (chip.vcs + 1))) (λ port. all_upwards IsWithinLimits
        (hops_from t port) 0 (chip.vcs + 1) (λ slot below. from port slot (omega (arith, below, vcs)))) output_ports)

    replies : (event : Port → ℕ → Event) → ((port : Port) (slot : ℕ) → slot ≤ 15 → IsWithinLimits (event port slot))
        → AllByRecursion IsWithinLimits (reply_events chip event)
    replies event is =
        all_flat IsWithinLimits (λ port. map (event port) (upwards 0 chip.data_vcs)) (λ port. all_numbers
        IsWithinLimits (event port) 0 chip.data_vcs (λ slot below. is port slot (omega (arith, below, data_vcs)))) ports

-- an entry has room for what a slot of a tile names
pub slot_within : (chip : Chip) (t : ℕ) (e : Event) → t ≤ 63 → chip.vcs ≤ 8 → chip.data_vcs ≤ 4 → Contains (tile_slots chip t) e → IsWithinLimits e
slot_within chip t e tile vcs data_vcs has = all_contained IsWithinLimits (tile_slots chip t) e (tile_within chip t tile vcs data_vcs) has
