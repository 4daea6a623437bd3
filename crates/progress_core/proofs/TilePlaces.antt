-- Where the slots of a tile stand among all slots.
use Rattle.std.proofs.Common.{◌≡◌, ℕ, zero, suc, ◌+◌, ◌-◌, ◌*◌, ◌/◌, ◌%◌, ◌<◌, ◌≤◌, List, [], ◌∷◌, ◌++◌, length, take, drop, refl, sym, ◌∙◌, ap, arith, zero-mul, suc-mul, div-add-mod'}
use Rattle.std.specs.List.{flat_map}
use Rattle.std.proofs.Math.Seq.{take-append_seam}
use Rattle.std.proofs.lemmas.List.Concat.{flat_map-cons}
use Rattle.order_tracker.specs.Order.{upwards}
use Rattle.report_text.specs.declared.event.Event.{Event}
use Rattle.report_text.specs.declared.event.Event.TheVariants.{Tick}
use Rattle.chip_model.specs.Chip.{Chip, tile_count}
use Rattle.chip_model.specs.Schedules.{slots, slots_per_tile, tile_slots}
use Rattle.machine_core.proofs.SlotPlaces.{length_tile, quotient_below}
use Rattle.progress_core.specs.Events.{events_between}
use Rattle.progress_core.proofs.SweptSlots.{drop_more}

-- ---- lists of one length, one after another
take_first : (n : ℕ) (xs ys : List Event) → length xs ≡ n → take n (xs ++ ys) ≡ xs
take_first n xs ys long = ap (λ (m : ℕ). take m (xs ++ ys)) (sym long) ∙ take-append_seam xs ys

drop_first : (xs ys : List Event) → drop (length xs) (xs ++ ys) ≡ ys
drop_first [] ys = refl
drop_first (x ∷ xs) ys = drop_first xs ys

piece : (f : ℕ → List Event) (each first n t : ℕ) → ((x : ℕ) → length (f x) ≡ each) → t < n → take each (drop (t * each) (flat_map f (upwards first n))) ≡ f (first + t)
piece f each first zero t long below = absurd (omega arith)
piece f each first (suc n) zero long below =
    let start : zero * each ≡ 0 = zero-mul each in
    let same : first ≡ first + 0 = omega arith in
    ap (λ (k : ℕ). take each (drop k (flat_map f (upwards first (suc n))))) start
    ∙ ap (take each) (flat_map-cons f first (upwards (first + 1) n))
    ∙ take_first each (f first) (flat_map f (upwards (first + 1) n)) (long first)
    ∙ ap f same
piece f each first (suc n) (suc t) long below =
    let rest = flat_map f (upwards (first + 1) n) in
    let place : suc t * each ≡ length (f first) + t * each = omega (arith, suc-mul t each, long first) in
    let same : (first + 1) + t ≡ first + suc t = omega arith in
    ap (λ (k : ℕ). take each (drop k (flat_map f (upwards first (suc n))))) place
    ∙ ap (λ (list : List Event). take each (drop (length (f first) + t * each) list)) (flat_map-cons f first (upwards (first + 1) n))
    ∙ ap (take each) (sym (drop_more (length (f first)) (t * each) (f first ++ rest)))
    ∙ ap (λ (list : List Event). take each (drop (t * each) list)) (drop_first (f first) rest)
    ∙ piece f each (first + 1) n t long (omega arith)
    ∙ ap f same

-- ---- the slots of a tile
pub tile_between : (chip : Chip) (t first last : ℕ) → t < tile_count chip → first ≡ 1 + t * slots_per_tile chip → last ≡ first + slots_per_tile chip → events_between first last (slots chip) ≡ tile_slots chip t
unfolding slots
tile_between chip t first last below from to =
    let each = slots_per_tile chip in
    let tiles = flat_map (tile_slots chip) (upwards 0 (tile_count chip)) in
    let many : last - first ≡ each = omega (arith, to) in
    let start : first ≡ suc (t * each) = omega (arith, from) in
    ap (λ (n : ℕ). take n (drop first (Tick ∷ tiles))) many
    ∙ ap (λ (n : ℕ). take each (drop n (Tick ∷ tiles))) start
    ∙ piece (tile_slots chip) each 0 (tile_count chip) t (length_tile chip) below
    ∙ ap (tile_slots chip) (omega arith)

-- a slot that is the first of a tile, where the slots of one more tile are left
pub first_of_tile : (k each : ℕ) → 0 < k → (k - 1) % each ≡ 0 → k ≡ 1 + (k - 1) / each * each
first_of_tile k each some first = omega (arith, div-add-mod' (k - 1) each)

pub inside : (k last each tiles : ℕ) → 0 < each → 0 < k → each ≤ last - k → k < last → last ≤ 1 + tiles * each → (k - 1) / each < tiles
inside k last each tiles some later left more most = quotient_below (k - 1) tiles each some (omega arith)
