-- A turn changes no unit but that of its tile.
use Rattle.std.proofs.Common.{◌≡◌, ◌≢◌, ℕ, zero, suc, ◌<◌, Bool, true, false, cond, List, [], ◌∷◌, ◌++◌, Option, Some, None, length, take, drop, refl, sym, ◌∙◌, ap, subst, arith, eq-eqb}
use Rattle.std.specs.Prelude.{◌%◌, ◌||◌, ◌==◌, not, Contains, filter, find, replicate, set, slice_get}
use Rattle.std.specs.List.{AllByRecursion}
use Rattle.report_text.specs.declared.entry.Entry.{Entry}
use Rattle.report_text.specs.declared.event.Event.{Event}
use Rattle.report_text.specs.declared.event.Event.TheVariants.{Tick, Core, Inject, Post, Take, Eject, Send, Hop, DataHop, DataEject}
use Rattle.chip_model.specs.Chip.{Chip}
use Rattle.chip_model.specs.Units.{UnitState, Behaviour}
use Rattle.chip_model.specs.ChipState.{ChipState}
use Rattle.chip_model.specs.Events.{step}
use Rattle.chip_model.specs.Runs.{after, enabled, noted, run}
use Rattle.chip_model.specs.Schedules.{from_offset, slots_per_tile, tile_slots}
use Rattle.chip_laws.specs.EventSteps.{ChangesUnit, EventDoes}
use Rattle.machine_core.specs.Stations.{IsAtStation}
use Rattle.round_laws.specs.Turns.{IsTurn, TurnsLead, alone_events, cores_of, has_turn, is_core, tried}
use Rattle.round_laws.proofs.Runs.{bind_run}

-- ---- what holds of all slots of a tile holds of the event that a turn does

module _ {X : Type 0} (P : X → Type 0) where
  all_contained : (xs : List X) → ((x : X) → Contains xs x → P x) → AllByRecursion P xs
  all_contained [] each = tt
  all_contained (x ∷ xs) each = (
    each x (0, omega arith, refl),
    all_contained xs (λ y has. each y (suc has.0, omega (arith, has.1), has.2)),
  )

  all_append : (xs ys : List X) → AllByRecursion P xs → AllByRecursion P ys → AllByRecursion P (xs ++ ys)
  all_append [] ys all rest = rest
  all_append (x ∷ xs) ys all rest = (all.0, all_append xs ys all.1 rest)

  all_drop : (n : ℕ) (xs : List X) → AllByRecursion P xs → AllByRecursion P (drop n xs)
  all_drop zero xs all = all
  all_drop (suc n) [] all = tt
  all_drop (suc n) (x ∷ xs) all = all_drop n xs all.1

  all_take : (n : ℕ) (xs : List X) → AllByRecursion P xs → AllByRecursion P (take n xs)
  all_take zero xs all = tt
  all_take (suc n) [] all = tt
  all_take (suc n) (x ∷ xs) all = (all.0, all_take n xs all.1)

  all_filter : (keep : X → Bool) (xs : List X) → AllByRecursion P xs → AllByRecursion P (filter keep xs)
  all_filter keep [] all = tt
  all_filter keep (x ∷ xs) all = by (keep x) (all_filter keep xs all.1)
    where
      by : (k : Bool) → AllByRecursion P (filter keep xs) → AllByRecursion P (cond k (x ∷ filter keep xs) (filter keep xs))
      by true rest = (all.0, rest)
      by false rest = rest

  found : (test : X → Bool) (xs : List X) (x : X) → AllByRecursion P xs → find test xs ≡ Some x → P x
  found test [] x all is = cc
  found test (y ∷ ys) x all is = by (test y) is (found test ys x all.1)
    where
      by : (t : Bool) → cond t (Some y) (find test ys) ≡ Some x → (find test ys ≡ Some x → P x) → P x
      by true is rest = let same : y ≡ x = cc in subst P same all.0
      by false is rest = rest is

-- of each tile, its slots are its events
abbrev pub SlotsAreOfTiles : Type 0
SlotsAreOfTiles = (chip : Chip) (t : ℕ) (event : Event) → Contains (tile_slots chip t) event → IsAtStation t event

pub tried_at : SlotsAreOfTiles → (b : Behaviour) (chip : Chip) (turn t : ℕ) (s : ChipState) (event : Event) → find (enabled b chip s) (tried chip turn t) ≡ Some event
    → IsAtStation t event
tried_at of_tile b chip turn t s event is =
    let all = all_contained (IsAtStation t) (tile_slots chip t) (of_tile chip t) in
    let offset = turn % slots_per_tile chip in
    let turned = all_append (IsAtStation t) (drop offset (tile_slots chip t)) (take offset (tile_slots chip t)) (all_drop (IsAtStation t) offset (tile_slots chip t) all)
    (all_take (IsAtStation t) offset (tile_slots chip t) all) in
    found (IsAtStation t) (enabled b chip s) (tried chip turn t) event
    (all_append (IsAtStation t) (filter (λ e. not (is_core e)) (from_offset (tile_slots chip t) offset)) (Tick ∷ [])
    (all_filter (IsAtStation t) (λ e. not (is_core e)) (from_offset (tile_slots chip t) offset) turned) (tt, tt)) is

-- ---- the units of other tiles

set_other : {X : Type 0} (xs : List X) (j k : ℕ) (y : X) → j ≢ k → slice_get (set xs k y) j ≡ slice_get xs j
set_other [] j k y away = refl
set_other (z ∷ xs) zero zero y away = absurd (away refl)
set_other (z ∷ xs) zero (suc k) y away = refl
set_other (z ∷ xs) (suc j) zero y away = refl
set_other (z ∷ xs) (suc j) (suc k) y away = set_other xs j k y (λ e. away (ap (λ (n : ℕ). suc n) e))

-- what is known of the events of a chip
pub record EventsAreKnown (b : Behaviour) (chip : Chip) : Type 0 where
  pub does : (s new : ChipState) (event : Event) → step b chip s event ≡ Some new → EventDoes b chip s new event
  pub steps : (s new : ChipState) (event : Event) → after b chip s event ≡ Some new
      → (left : ChipState) × (step b chip s event ≡ Some left) × (noted event left ≡ new)

module _ (b : Behaviour) (chip : Chip) (known : EventsAreKnown b chip) where
  -- an event of a tile leaves the unit of another as it was
  event_frame : (s new : ChipState) (event : Event) (tile t : ℕ) → IsAtStation tile event → tile ≢ t → after b chip s event ≡ Some new
      → slice_get new.units t ≡ slice_get s.units t
  event_frame s new event tile t at away is =
      let made = known.steps s new event is in
      ap (λ (x : ChipState). slice_get x.units t) (sym made.2) ∙ by made.0 event at (known.does s made.0 event made.1)
    where
      changed : (left : ChipState) (u : ℕ) (unit now : UnitState) → u ≡ tile → ChangesUnit s left u unit now → slice_get left.units t ≡ slice_get s.units t
      changed left u unit now same changes =
          ap (λ (units : List UnitState). slice_get units t) changes.units ∙ set_other s.units t u now (λ here. away (sym same ∙ sym here))

      kept : (left : ChipState) → left.units ≡ s.units → slice_get left.units t ≡ slice_get s.units t
      kept left same = ap (λ (units : List UnitState). slice_get units t) same

      by : (left : ChipState) (e : Event) → IsAtStation tile e → EventDoes b chip s left e → slice_get left.units t ≡ slice_get s.units t
      by left Tick at does = kept left does.units
      by left (Core u) at does = changed left u does.unit (b.stepped does.unit).0 at does.changes
      by left (Inject u) at does = changed left u does.unit _ at does.changes
      by left (Post u) at does = kept left does.units
      by left (Take u) at does = kept left does.units
      by left (Eject u) at does = changed left u does.unit _ at does.changes
      by left (Send u) at does = changed left u does.unit _ at does.changes
      by left (Hop r port slot out) at does = kept left does.units
      by left (DataHop r port slot) at does = kept left does.units
      by left (DataEject r port slot) at does = changed left r does.unit _ at does.changes

  pub cores_frame : (n : ℕ) (s new : ChipState) (tile t : ℕ) → tile ≢ t → run b chip s (replicate n (Core tile)) ≡ Some new
      → slice_get new.units t ≡ slice_get s.units t
  unfolding run
  cores_frame zero s new tile t away is = let same : s ≡ new = cc in ap (λ (x : ChipState). slice_get x.units t) (sym same)
  cores_frame (suc n) s new tile t away is =
      bind_run b chip s new (Core tile) (replicate n (Core tile)) is (λ next first rest.
      cores_frame n next new tile t away rest ∙ event_frame s next (Core tile) tile t refl away first)

  pub turn_frame : SlotsAreOfTiles → (turn : ℕ) (start s : ChipState) (entry : Entry) (new : ChipState) (t : ℕ) → IsTurn b chip turn start s entry new → entry.by ≢ t
      → slice_get new.units t ≡ slice_get s.units t
  turn_frame of_tile turn start s entry new t is away =
      event_frame is.ready new entry.event entry.by t (tried_at of_tile b chip turn entry.by is.ready entry.event is.first) away is.done
      ∙ cores_frame (cores_of b start entry.by) s is.ready entry.by t away is.alone

  pub turns_frame : SlotsAreOfTiles → (turn : ℕ) (start s : ChipState) (turns : List Entry) (new : ChipState) (t : ℕ) → TurnsLead b chip turn start s turns new
      → has_turn turns t ≡ false → slice_get new.units t ≡ slice_get s.units t
  turns_frame of_tile turn start s [] new t same none = ap (λ (x : ChipState). slice_get x.units t) (sym same)
  turns_frame of_tile turn start s (entry ∷ turns) new t lead none =
      let parts = neither (entry.by == t) (has_turn turns t) none in
      turns_frame of_tile turn start lead.0 turns new t lead.2 parts.1
      ∙ turn_frame of_tile turn start s entry lead.0 t lead.1 (λ same. differ parts.0 same)
    where
      neither : (x y : Bool) → (x || y) ≡ false → (x ≡ false) × (y ≡ false)
      neither true y is = cc
      neither false y is = (refl, is)

      differ : (entry.by == t) ≡ false → entry.by ≡ t → ⊥
      differ not_same same = let yes_ : (entry.by == t) ≡ true = ap (λ n. entry.by == n) (sym same) ∙ eq-eqb entry.by entry.by refl in cc
