-- The slots of a tile in the order in which it tries them.
use Rattle.std.proofs.Common.{◌≡◌, ℕ, ◌+◌, ◌%◌, ◌<◌, Bool, false, true, List, Some, length, sym, ◌∙◌, ap, subst, arith, inl, inr}
use Rattle.std.specs.Prelude.{Contains, slice_get}
use Rattle.std.proofs.lemmas.Bool.{cases_lt}
use Rattle.std.proofs.lemmas.Nat.{mod_below}
use Rattle.std.proofs.lemmas.Option.{same_Some, slice_get_within, get_or_from_slice_get}
use Rattle.report_text.specs.declared.event.Event.{Event}
use Rattle.report_text.specs.declared.event.Event.TheVariants.{Tick, Core, Inject, Post, Take, Eject, Send, Hop, DataHop, DataEject}
use Rattle.chip_model.specs.Chip.{Chip}
use Rattle.chip_model.specs.Schedules.{from_offset, slots_per_tile, tile_slots}
use Rattle.machine_core.specs.Stations.{IsAtStation, IsOfStation}
use Rattle.machine_core.proofs.SlotPlaces.{length_tile}
use Rattle.round_laws.specs.Turns.{is_core}
use Rattle.tile_pool.proofs.Tried.{NonePasses, turned_at, turned_long}

-- the event that is tried at a place
pub slot_at : (chip : Chip) (t turn k j : ℕ) (event : Event) → k < slots_per_tile chip → j ≡ (turn % slots_per_tile chip + k) % slots_per_tile chip
    → slice_get (tile_slots chip t) j ≡ Some event → slice_get (from_offset (tile_slots chip t) (turn % slots_per_tile chip)) k ≡ Some event
slot_at chip t turn k j event below is at =
    let long = length_tile chip t in
    let some : 0 < slots_per_tile chip = omega arith in
    turned_at (tile_slots chip t) (turn % slots_per_tile chip) k j (omega (arith, long, mod_below turn (slots_per_tile chip) some)) (omega (arith, long, below))
    (subst (λ (n : ℕ). j ≡ (turn % slots_per_tile chip + k) % n) (sym long) is)
    ∙ at

-- the same, as a mesh and a station tell the slots: the event is that of a slot, and it is tried at the place
pub tried_at : (chip other : Chip) (t u each turn k : ℕ) (event : Event) → other ≡ chip → u ≡ t → each ≡ slots_per_tile other → k < each
    → slice_get (tile_slots other u) ((turn % each + k) % each) ≡ Some event
    → (slice_get (tile_slots chip t) ((turn % each + k) % each) ≡ Some event)
    × (slice_get (from_offset (tile_slots chip t) (turn % slots_per_tile chip)) k ≡ Some event)
tried_at chip other t u each turn k event same_chip same_tile count below at =
    let place = (turn % each + k) % each in
    let long : each ≡ slots_per_tile chip = count ∙ ap slots_per_tile same_chip in
    let here : slice_get (tile_slots chip t) place ≡ Some event =
    ap (λ (c : Chip). slice_get (tile_slots c t) place) (sym same_chip) ∙ ap (λ (n : ℕ). slice_get (tile_slots other n) place) (sym same_tile) ∙ at in
    (here, slot_at chip t turn k place event (omega (arith, long, below)) (ap (λ (n : ℕ). (turn % n + k) % n) long) here)

-- so many events are tried
pub slots_long : (chip : Chip) (t turn : ℕ) → length (from_offset (tile_slots chip t) (turn % slots_per_tile chip)) ≡ slots_per_tile chip
slots_long chip t turn =
    let some : 0 < slots_per_tile chip = omega arith in
    turned_long (tile_slots chip t) (turn % slots_per_tile chip) (omega (arith, length_tile chip t, mod_below turn (slots_per_tile chip) some))
    ∙ length_tile chip t

-- an element at a place is one of the list
pub contained : {X : Type 0} (xs : List X) (k : ℕ) (x : X) → slice_get xs k ≡ Some x → Contains xs x
contained xs k x at = (k, slice_get_within xs k x at, get_or_from_slice_get xs k x x at)

-- an event of a tile that is not its core's
pub not_of_core : (tile : ℕ) (event : Event) → IsAtStation tile event → is_core event ≡ false → IsOfStation tile event
not_of_core tile Tick at is = at
not_of_core tile (Core t) at is = cc
not_of_core tile (Inject t) at is = at
not_of_core tile (Post t) at is = at
not_of_core tile (Take t) at is = at
not_of_core tile (Eject t) at is = at
not_of_core tile (Send t) at is = at
not_of_core tile (Hop r port slot out) at is = at
not_of_core tile (DataHop r port slot) at is = at
not_of_core tile (DataEject r port slot) at is = at

-- one place more at which none that is kept passes
pub none_more : {X : Type 0} (keep test : X → Bool) (xs : List X) (n : ℕ) (x : X) → NonePasses keep test xs n → slice_get xs n ≡ Some x
    → (keep x ≡ true → test x ≡ false) → NonePasses keep test xs (n + 1)
none_more keep test xs n x none here fails k y below at kept = elim (cases_lt k n) [
  | inl before ↦ none k y before at kept
  | inr from ↦ (
      let place : k ≡ n = omega (arith, below, from) in
      let same : y ≡ x = same_Some y x (sym at ∙ ap (slice_get xs) place ∙ here) in
      ap test same ∙ fails (ap keep (sym same) ∙ kept))
]
