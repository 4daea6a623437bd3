-- What is left of a sweep after each slot, and that a sweep in two parts goes through all slots once.
use Rattle.std.proofs.Common.{◌≡◌, ℕ, zero, suc, ◌+◌, ◌-◌, ◌<◌, ◌≤◌, Bool, true, false, List, [], ◌∷◌, ◌++◌, length, take, drop, length-append, Option, Some, None, refl, sym, ◌∙◌, ap, arith}
use Rattle.std.specs.Prelude.{◌==◌, ◌||◌, slice_get, is_some, unwrap_or, if◌then◌else◌, Result, Ok, Err, OnOk, OnErr}
use Rattle.std.proofs.lemmas.Bool.{eq-eqb, ne_eqb}
use Rattle.std.proofs.lemmas.List.{take_all}
use Rattle.std.proofs.Math.Seq.{take-add}
use Rattle.report_text.specs.declared.event.Event.{Event}
use Rattle.mesh_gen.specs.Partial.{◌>>=◌}
use Rattle.chip_model.specs.Chip.{Chip}
use Rattle.chip_model.specs.Units.{Behaviour}
use Rattle.chip_model.specs.ChipState.{ChipState, finished}
use Rattle.chip_model.specs.Events.{step}
use Rattle.chip_model.specs.Runs.{noted, after, enabled}
use Rattle.chip_model.specs.Schedules.{slots, ends, tried, swept, sweeps, from_offset, AllAreMade}
use Rattle.progress_core.specs.Events.{events_between}

-- ---- the slots that are left
pub none_between : (k : ℕ) (events : List Event) → events_between k k events ≡ []
none_between k events = let none : k - k ≡ 0 = omega arith in ap (λ (n : ℕ). take n (drop k events)) none

drop_next : (k : ℕ) (events : List Event) (event : Event) → slice_get events k ≡ Some event → drop k events ≡ event ∷ drop (k + 1) events
drop_next k [] event there = cc
drop_next zero (first ∷ events) event there = let same : first ≡ event = cc in ap (λ (e : Event). e ∷ events) same
drop_next (suc k) (first ∷ events) event there =
    let next : suc (k + 1) ≡ suc k + 1 = omega arith in drop_next k events event there ∙ ap (λ (n : ℕ). event ∷ drop n (first ∷ events)) next

pub next_between : (k last : ℕ) (events : List Event) (event : Event) → k < last → slice_get events k ≡ Some event
    → events_between k last events ≡ event ∷ events_between (k + 1) last events
next_between k last events event below there =
    let more : last - k ≡ suc (last - (k + 1)) = omega (arith, below) in
    ap (λ (n : ℕ). take n (drop k events)) more ∙ ap (take (suc (last - (k + 1)))) (drop_next k events event there)

-- the slots up to a later one, in two parts
drop_nothing : (k : ℕ) → drop {A = Event} k [] ≡ []
drop_nothing zero = refl
drop_nothing (suc k) = refl

pub drop_more : (n m : ℕ) (events : List Event) → drop m (drop n events) ≡ drop (n + m) events
drop_more zero m events = ap (λ (k : ℕ). drop k events) (omega arith)
drop_more (suc n) m [] = drop_nothing m ∙ sym (drop_nothing (suc n + m))
drop_more (suc n) m (first ∷ events) =
    let next : suc (n + m) ≡ suc n + m = omega arith in drop_more n m events ∙ ap (λ (k : ℕ). drop k (first ∷ events)) next

pub between_split : (first mid last : ℕ) (events : List Event) → first ≤ mid → mid ≤ last → events_between first last events ≡ events_between first mid events ++ events_between mid last events
between_split first mid last events lower upper =
    let parts : last - first ≡ (mid - first) + (last - mid) = omega (arith, lower, upper) in
    let there : first + (mid - first) ≡ mid = omega (arith, lower) in
    ap (λ (n : ℕ). take n (drop first events)) parts
    ∙ take-add (mid - first) (last - mid) (drop first events)
    ∙ ap (λ (rest : List Event). events_between first mid events ++ take (last - mid) rest) (drop_more first (mid - first) events ∙ ap (λ (n : ℕ). drop n events) there)

-- one slot
pub one_between : (k : ℕ) (events : List Event) (event : Event) → slice_get events k ≡ Some event → events_between k (k + 1) events ≡ event ∷ []
one_between k events event there = next_between k (k + 1) events event (omega arith) there ∙ ap (λ (rest : List Event). event ∷ rest) (none_between (k + 1) events)

-- a slot among these is one of all
from_drop : (k : ℕ) (events : List Event) (i : ℕ) → slice_get (drop k events) i ≡ slice_get events (k + i)
from_drop zero events i = ap (slice_get events) (omega arith)
from_drop (suc k) [] i = refl
from_drop (suc k) (first ∷ events) i =
    let next : suc (k + i) ≡ suc k + i = omega arith in from_drop k events i ∙ ap (slice_get (first ∷ events)) next

from_take : (n : ℕ) (events : List Event) (i : ℕ) (event : Event) → slice_get (take n events) i ≡ Some event → (i < n) × (slice_get events i ≡ Some event)
from_take zero events i event there = cc
from_take (suc n) [] i event there = cc
from_take (suc n) (first ∷ events) zero event there = (omega arith, there)
from_take (suc n) (first ∷ events) (suc i) event there = let rest = from_take n events i event there in (omega (arith, rest.0), rest.1)

pub among : (first last : ℕ) (events : List Event) (i : ℕ) (event : Event) → slice_get (events_between first last events) i ≡ Some event → (first + i < last) × (slice_get events (first + i) ≡ Some event)
among first last events i event there =
    let taken = from_take (last - first) (drop first events) i event there in
    (omega (arith, taken.0), sym (from_drop first events i) ∙ taken.1)

length_drop : (k : ℕ) (events : List Event) → length (drop k events) ≤ length events - k
length_drop zero events = omega arith
length_drop (suc k) [] = omega arith
length_drop (suc k) (first ∷ events) = omega (arith, length_drop k events)

-- all slots from an offset on, and then those before it
pub two_parts : (offset count : ℕ) (events : List Event) → length events ≡ count → from_offset events offset ≡ events_between offset count events ++ events_between 0 offset events
two_parts offset count events long =
    let all : take (count - offset) (drop offset events) ≡ drop offset events = take_all (count - offset) (drop offset events) (omega (arith, length_drop offset events, long)) in
    let same : offset - 0 ≡ offset = omega arith in
    ap (λ (rest : List Event). rest ++ take offset events) (sym all) ∙ ap (λ (n : ℕ). events_between offset count events ++ take n events) (sym same)

module _ (b : Behaviour) (chip : Chip) (budget : ℕ) where
  -- ---- a run that has ended stays as it is
  pub swept_ended : (s : ChipState) (events : List Event) → ends budget s ≡ true → swept b chip budget s events ≡ s
  swept_ended s [] over = refl
  swept_ended s (event ∷ events) over = ap (λ (end : Bool). if end then s else swept b chip budget (tried b chip s event) events) over

  -- a sweep in two parts
  pub swept_parts : (s : ChipState) (first second : List Event) → swept b chip budget s (first ++ second) ≡ swept b chip budget (swept b chip budget s first) second
  swept_parts s [] second = refl
  swept_parts s (event ∷ first) second = by (ends budget s) refl (swept_parts (tried b chip s event) first second)
    where
      by : (over : Bool) → ends budget s ≡ over
          → swept b chip budget (tried b chip s event) (first ++ second) ≡ swept b chip budget (swept b chip budget (tried b chip s event) first) second
          → (if over then s else swept b chip budget (tried b chip s event) (first ++ second)) ≡ swept b chip budget (if over then s else swept b chip budget (tried b chip s event) first) second
      by true over rest = sym (swept_ended s second over)
      by false over rest = rest

  -- ---- slots of which none is possible
  pub swept_idle : (s : ChipState) (events : List Event) → ((i : ℕ) (event : Event) → slice_get events i ≡ Some event → after b chip s event ≡ None) → swept b chip budget s events ≡ s
  swept_idle s [] none = refl
  swept_idle s (event ∷ events) none = by (ends budget s) (swept_idle s events (λ i other there. none (suc i) other there))
    where
      stays : tried b chip s event ≡ s
      stays = ap (λ (next : Option ChipState). unwrap_or next s) (none 0 event refl)

      by : (over : Bool) → swept b chip budget s events ≡ s → (if over then s else swept b chip budget (tried b chip s event) events) ≡ s
      by true rest = refl
      by false rest = ap (λ (next : ChipState). swept b chip budget next events) stays ∙ rest

  -- ---- one slot
  -- where the budget is spent
  pub spent_one : (s : ChipState) (event : Event) → length s.journal ≡ budget → swept b chip budget s (event ∷ []) ≡ s
  spent_one s event spent = swept_ended s (event ∷ []) (ap (λ (end : Bool). end || finished s) (eq-eqb (length s.journal) budget spent))

  pub refused : (s : ChipState) (event : Event) → enabled b chip s event ≡ false → after b chip s event ≡ None
  unfolding enabled after
  refused s event none = by (step b chip s event) none
    where
      by : (step : Option ChipState) → is_some step ≡ false → (step >>= (λ new. Some (noted event new))) ≡ None
      by None none = refl
      by (Some new) none = cc

  -- where it is not
  pub tried_one : (s : ChipState) (event : Event) → length s.journal < budget → (finished s ≡ true → enabled b chip s event ≡ false)
      → swept b chip budget s (event ∷ []) ≡ tried b chip s event
  tried_one s event less stops = by (finished s) refl
    where
      unspent : (length s.journal == budget) ≡ false
      unspent = ne_eqb (length s.journal) budget (λ same. absurd (omega (arith, same, less)))

      by : (over : Bool) → finished s ≡ over → swept b chip budget s (event ∷ []) ≡ tried b chip s event
      by true over =
          swept_ended s (event ∷ []) (ap (λ (end : Bool). end || finished s) unspent ∙ over)
          ∙ sym (ap (λ (next : Option ChipState). unwrap_or next s) (refused s event (stops over)))
      by false over = ap (λ (end : Bool). if end then s else tried b chip s event) (ap (λ (end : Bool). end || finished s) unspent ∙ over)

  -- ---- a step that may be refused
  one_tried : (s new : ChipState) (event : Event) (step : Option ChipState) → after b chip s event ≡ step → unwrap_or step s ≡ new → tried b chip s event ≡ new
  one_tried s new event step is gives = ap (λ (next : Option ChipState). unwrap_or next s) is ∙ gives

  pub stepped_one : {X E : Type 0} (s new : ChipState) (event : Event) (answer : Result X E) → length s.journal < budget → (finished s ≡ true → enabled b chip s event ≡ false)
      → OnOk answer (after b chip s event ≡ Some new) → OnErr answer (after b chip s event ≡ None) → OnErr answer (new ≡ s) → new ≡ swept b chip budget s (event ∷ [])
  stepped_one s new event (Ok x) less stops done none kept = sym (tried_one s event less stops ∙ one_tried s new event (Some new) done refl)
  stepped_one s new event (Err e) less stops done none kept = kept ∙ sym (tried_one s event less stops ∙ one_tried s s event None none refl)

  pub stepped_within : {X E : Type 0} (s new : ChipState) (event : Event) (answer : Result X E) → length s.journal < budget
      → OnOk answer (new.journal ≡ s.journal ++ event ∷ []) → OnErr answer (new ≡ s) → length new.journal ≤ budget
  stepped_within s new event (Ok x) less noted kept = omega (arith, less, ap length noted, length-append s.journal (event ∷ []))
  stepped_within s new event (Err e) less noted kept = omega (arith, less, ap (λ (x : ChipState). length x.journal) kept)

-- what an answer says, by what follows of it
pub map_ok : {X E : Type 0} (P Q : Type 0) (answer : Result X E) → (P → Q) → OnOk answer P → OnOk answer Q
map_ok P Q (Ok x) f p = f p
map_ok P Q (Err e) f p = tt

pub map_err : {X E : Type 0} (P Q : Type 0) (answer : Result X E) → (P → Q) → OnErr answer P → OnErr answer Q
map_err P Q (Ok x) f p = tt
map_err P Q (Err e) f p = f p

-- ---- sweep after sweep
-- one more sweep
pub sweeps_more : (b : Behaviour) (chip : Chip) (budget : ℕ) (s last : ChipState) (offsets : List ℕ) (offset : ℕ) → sweeps b chip budget s offsets ≡ last → AllAreMade b chip budget s offsets
    → ends budget last ≡ false → sweeps b chip budget s (offsets ++ offset ∷ []) ≡ swept b chip budget last (from_offset (slots chip) offset)
unfolding sweeps
sweeps_more b chip budget s last [] offset is made goes =
    ap (λ (end : Bool). if end then s else swept b chip budget s (from_offset (slots chip) offset)) (ap (ends budget) is ∙ goes)
    ∙ ap (λ (x : ChipState). swept b chip budget x (from_offset (slots chip) offset)) is
sweeps_more b chip budget s last (first ∷ offsets) offset is made goes =
    let next = swept b chip budget s (from_offset (slots chip) first) in
    let rest : sweeps b chip budget next offsets ≡ last = sym (ap (λ (end : Bool). if end then s else sweeps b chip budget next offsets) made.0) ∙ is in
    ap (λ (end : Bool). if end then s else sweeps b chip budget next (offsets ++ offset ∷ [])) made.0
    ∙ sweeps_more b chip budget next last offsets offset rest made.1 goes

-- which is made
pub made_more : (b : Behaviour) (chip : Chip) (budget : ℕ) (s last : ChipState) (offsets : List ℕ) (offset : ℕ) → sweeps b chip budget s offsets ≡ last → AllAreMade b chip budget s offsets
    → ends budget last ≡ false → AllAreMade b chip budget s (offsets ++ offset ∷ [])
unfolding sweeps
made_more b chip budget s last [] offset is made goes = (ap (ends budget) is ∙ goes, record {})
made_more b chip budget s last (first ∷ offsets) offset is made goes =
    let next = swept b chip budget s (from_offset (slots chip) first) in
    let rest : sweeps b chip budget next offsets ≡ last = sym (ap (λ (end : Bool). if end then s else sweeps b chip budget next offsets) made.0) ∙ is in
    (made.0, made_more b chip budget next last offsets offset rest made.1 goes)
