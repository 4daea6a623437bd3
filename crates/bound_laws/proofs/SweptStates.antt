-- A sweep leads from a state that is reached to one that is, and does at least one event where the run has not ended: so a run
-- by sweeps ends.
use Rattle.std.proofs.Common.{◌≡◌, ◌⊎◌, ℕ, zero, suc, ◌+◌, ◌<◌, ◌≤◌, Bool, true, false, Option, Some, None, List, [], ◌∷◌, ◌++◌, map, take, drop, length, length-append, refl, sym, ◌∙◌, ap, subst, inl, inr, arith, eq-eqb}
use Rattle.std.specs.Prelude.{◌==◌, ◌||◌, is_some, unwrap_or, Contains, slice_index_or}
use Rattle.std.proofs.lemmas.Bool.{cases_lt, cond_both}
use Rattle.std.proofs.lemmas.List.{take-append-drop}
use Rattle.std.proofs.lemmas.List.Elements.{Contains-append_left, Contains-append_right, Contains-append_cases}
use Rattle.mesh_gen.specs.Partial.{◌>>=◌}
use Rattle.order_tracker.specs.Order.{upwards}
use Rattle.report_text.specs.declared.event.Event.{Event}
use Rattle.doc_text.specs.Doc.{Doc}
use Rattle.chip_model.specs.Chip.{Chip, chip_of}
use Rattle.chip_model.specs.Units.{Behaviour}
use Rattle.chip_model.specs.ChipState.{ChipState, opening, finished}
use Rattle.chip_model.specs.Events.{step}
use Rattle.chip_model.specs.Runs.{noted, after, enabled, IsReachable}
use Rattle.chip_model.specs.Schedules.{slots, ends, tried, swept, from_offset, sweeps, AllAreMade}
use Rattle.progress_laws.specs.Possible.{SomeIsEnabled}
use Rattle.bound_laws.specs.Sweeps.{SweepsEnd}
use Rattle.bound_laws.proofs.Journals.{step_journal, reached_next, opening_reached}

-- ---- one event of a sweep
-- a state that a run goes on to, within the budget
pub record GoesOnTo (b : Behaviour) (d : Doc) (budget : ℕ) (s new : ChipState) : Type 0 where
  pub reached : IsReachable b d new
  pub within : length new.journal ≤ budget
  pub more : length s.journal ≤ length new.journal

-- the event is possible, and stands at the end of the journal; or it is not, and nothing is done
data Tries (b : Behaviour) (chip : Chip) (s : ChipState) (event : Event) : Type 0 where
  does : (left : ChipState) → step b chip s event ≡ Some left → tried b chip s event ≡ noted event left → Tries b chip s event
  leaves : enabled b chip s event ≡ false → tried b chip s event ≡ s → Tries b chip s event

tries : (b : Behaviour) (chip : Chip) (s : ChipState) (event : Event) → Tries b chip s event
unfolding after enabled
tries b chip s event = by (step b chip s event) refl
  where
    by : (o : Option ChipState) → step b chip s event ≡ o → Tries b chip s event
    by None is = leaves (ap is_some is) (ap (λ (o : Option ChipState). unwrap_or (o >>= (λ new. Some (noted event new))) s) is)
    by (Some left) is = does left is (ap (λ (o : Option ChipState). unwrap_or (o >>= (λ new. Some (noted event new))) s) is)

-- a run that has not ended has events left, and its chip is not finished
less_than : (m n : ℕ) (b : Bool) → ((m == n) || b) ≡ false → m ≤ n → m < n
less_than m n b going within = elim (cases_lt m n) [ inl less ↦ less | inr not_less ↦ absurd (no (omega arith)) ]
  where
    no : m ≡ n → ⊥
    no same = let is : (true || b) ≡ false = subst (λ (c : Bool). (c || b) ≡ false) (eq-eqb m n same) going in cc

pub not_spent : (budget : ℕ) (s : ChipState) → ends budget s ≡ false → length s.journal ≤ budget → length s.journal < budget
not_spent budget s going within = less_than (length s.journal) budget (finished s) going within

second_false : (a b : Bool) → (a || b) ≡ false → b ≡ false
second_false true b is = cc
second_false false b is = is

pub not_finished : (budget : ℕ) (s : ChipState) → ends budget s ≡ false → finished s ≡ false
not_finished budget s going = second_false (length s.journal == budget) (finished s) going

-- ---- the events of a sweep, one after the other
trying : (b : Behaviour) (d : Doc) (budget : ℕ) (s : ChipState) (event : Event) → IsReachable b d s → length s.journal ≤ budget → ends budget s ≡ false
    → GoesOnTo b d budget s (tried b (chip_of d) s event)
trying b d budget s event reached within going = by (tries b (chip_of d) s event)
  where
    by : Tries b (chip_of d) s event → GoesOnTo b d budget s (tried b (chip_of d) s event)
    by (does left is now) =
        let longer = ap (λ (events : List Event). length (events ++ event ∷ [])) (step_journal b (chip_of d) s left event is) in
        let one = length-append s.journal (event ∷ []) in
        let room = not_spent budget s going within in
        subst (GoesOnTo b d budget s) (sym now) (record { reached = reached_next b d s left event reached is; within = omega arith; more = omega arith })
    by (leaves is now) = subst (GoesOnTo b d budget s) (sym now) (record { reached = reached; within = within; more = omega arith })

and_on : (b : Behaviour) (d : Doc) (budget : ℕ) (s mid new : ChipState) → GoesOnTo b d budget s mid → GoesOnTo b d budget mid new → GoesOnTo b d budget s new
and_on b d budget s mid new first then =
    record { reached = then.reached; within = then.within; more = let more = first.more in let rest = then.more in omega arith }

pub swept_on : (b : Behaviour) (d : Doc) (budget : ℕ) (s : ChipState) (events : List Event) → IsReachable b d s → length s.journal ≤ budget
    → GoesOnTo b d budget s (swept b (chip_of d) budget s events)
swept_on b d budget s [] reached within = record { reached = reached; within = within; more = omega arith }
swept_on b d budget s (event ∷ events) reached within =
    cond_both (ends budget s) s (swept b (chip_of d) budget (tried b (chip_of d) s event) events) (GoesOnTo b d budget s)
    (λ ended. record { reached = reached; within = within; more = omega arith })
    (λ going.
    let first = trying b d budget s event reached within going in
    and_on b d budget s (tried b (chip_of d) s event) (swept b (chip_of d) budget (tried b (chip_of d) s event) events) first
    (swept_on b d budget (tried b (chip_of d) s event) events first.reached first.within))

-- where one of them is possible, some are done
pub swept_more : (b : Behaviour) (d : Doc) (budget : ℕ) (s : ChipState) (events : List Event) (event : Event) → IsReachable b d s → length s.journal ≤ budget
    → ends budget s ≡ false
    → enabled b (chip_of d) s event ≡ true → Contains events event → length s.journal < length (swept b (chip_of d) budget s events).journal
swept_more b d budget s [] event reached within going possible (k, inside, is) = absurd (omega arith)
swept_more b d budget s (first ∷ events) event reached within going possible has =
    rw going (by (tries b (chip_of d) s first) has (swept_more b d budget s events event reached within going possible))
  where
    after : ChipState
    after = swept b (chip_of d) budget (tried b (chip_of d) s first) events

    other : (k : ℕ) → enabled b (chip_of d) s first ≡ false → k < suc (length events) → slice_index_or (first ∷ events) k event ≡ event
        → Contains events event
    other zero not_possible inside same =
        let is : first ≡ event = same in
        let both : true ≡ false = sym possible ∙ ap (enabled b (chip_of d) s) (sym is) ∙ not_possible in
        cc
    other (suc k) not_possible inside same = (k, omega arith, same)

    by : Tries b (chip_of d) s first → Contains (first ∷ events) event
        → (Contains events event → length s.journal < length (swept b (chip_of d) budget s events).journal)
        → length s.journal < length after.journal
    by (does left is now) has rest_grows =
        let on = trying b d budget s first reached within going in
        let rest = (swept_on b d budget (tried b (chip_of d) s first) events on.reached on.within).more in
        let longer = ap (λ (events : List Event). length (events ++ first ∷ [])) (step_journal b (chip_of d) s left first is) in
        let one = length-append s.journal (first ∷ []) in
        let same = ap (λ (x : ChipState). length x.journal) now in
        omega arith
    by (leaves is now) has rest_grows =
        subst (λ (x : ChipState). length s.journal < length (swept b (chip_of d) budget x events).journal) (sym now) (rest_grows (other has.0 is has.1 has.2))

-- ---- a whole sweep
pub from_any_offset : (events : List Event) (offset : ℕ) (event : Event) → Contains events event → Contains (from_offset events offset) event
from_any_offset events offset event has =
    elim (Contains-append_cases (take offset events) (drop offset events) event
    (subst (λ (list : List Event). Contains list event) (sym (take-append-drop offset events)) has)) [
      | inl before ↦ Contains-append_right (drop offset events) (take offset events) event before
      | inr from ↦ Contains-append_left (drop offset events) (take offset events) event from
    ]

-- ---- sweep after sweep
-- in a state that is reached and has not ended some slot is possible
abbrev pub SlotIsPossible : Behaviour → Doc → Type 0
SlotIsPossible b d =
    (s : ChipState) → IsReachable b d s → finished s ≡ false → (event : Event) × (enabled b (chip_of d) s event ≡ true) × Contains (slots (chip_of d)) event

-- a chip that is never stuck has one
pub slot_possible : (b : Behaviour) (d : Doc) (s : ChipState) → finished s ≡ false → (finished s ≡ true) ⊎ SomeIsEnabled b (chip_of d) s
    → ((event : Event) → enabled b (chip_of d) s event ≡ true → Contains (slots (chip_of d)) event)
    → (event : Event) × (enabled b (chip_of d) s event ≡ true) × Contains (slots (chip_of d)) event
slot_possible b d s unfinished (inl done) slot = let both : true ≡ false = sym done ∙ unfinished in cc
slot_possible b d s unfinished (inr some) slot = (some.event, some.possible, slot some.event some.possible)

pub sweep_grows : (b : Behaviour) (d : Doc) (budget offset : ℕ) (s : ChipState) → SlotIsPossible b d → IsReachable b d s → length s.journal ≤ budget
    → ends budget s ≡ false
    → length s.journal < length (swept b (chip_of d) budget s (from_offset (slots (chip_of d)) offset)).journal
sweep_grows b d budget offset s some reached within going =
    let one = some s reached (not_finished budget s going) in
    swept_more b d budget s (from_offset (slots (chip_of d)) offset) one.0 reached within going one.1 (from_any_offset (slots (chip_of d)) offset one.0 one.2)

-- sweeps lead to states that are reached
pub sweeps_on : (b : Behaviour) (d : Doc) (budget : ℕ) (s : ChipState) (offsets : List ℕ) → IsReachable b d s → length s.journal ≤ budget
    → GoesOnTo b d budget s (sweeps b (chip_of d) budget s offsets)
unfolding sweeps
sweeps_on b d budget s [] reached within = record { reached = reached; within = within; more = omega arith }
sweeps_on b d budget s (offset ∷ offsets) reached within =
    let new = swept b (chip_of d) budget s (from_offset (slots (chip_of d)) offset) in
    cond_both (ends budget s) s (sweeps b (chip_of d) budget new offsets) (GoesOnTo b d budget s)
    (λ ended. record { reached = reached; within = within; more = omega arith })
    (λ going.
    let first = swept_on b d budget s (from_offset (slots (chip_of d)) offset) reached within in
    and_on b d budget s new (sweeps b (chip_of d) budget new offsets) first (sweeps_on b d budget new offsets first.reached first.within))

-- from a state on, some sweeps bring the run to its end
record EndsFrom (b : Behaviour) (d : Doc) (budget : ℕ) (pace : ℕ → ℕ) (first : ℕ) (s : ChipState) : Type 0 where
  count : ℕ
  last : ChipState
  is : sweeps b (chip_of d) budget s (map pace (upwards first count)) ≡ last
  made : AllAreMade b (chip_of d) budget s (map pace (upwards first count))
  ended : ends budget last ≡ true
  few : length s.journal + count ≤ length last.journal
  within : length last.journal ≤ budget

sweeps_none : (b : Behaviour) (chip : Chip) (budget : ℕ) (s : ChipState) → sweeps b chip budget s [] ≡ s
unfolding sweeps
sweeps_none b chip budget s = refl

sweeps_next : (b : Behaviour) (chip : Chip) (budget : ℕ) (s : ChipState) (offset : ℕ) (offsets : List ℕ) → ends budget s ≡ false
    → sweeps b chip budget s (offset ∷ offsets) ≡ sweeps b chip budget (swept b chip budget s (from_offset (slots chip) offset)) offsets
unfolding sweeps
sweeps_next b chip budget s offset offsets going = rw going refl

ends_from : (b : Behaviour) (d : Doc) (budget : ℕ) (pace : ℕ → ℕ) (left first : ℕ) (s : ChipState) → SlotIsPossible b d → IsReachable b d s
    → length s.journal ≤ budget → budget ≤ length s.journal + left
    → EndsFrom b d budget pace first s
ends_from b d budget pace zero first s some reached within few = by (ends budget s) refl
  where
    by : (done : Bool) → ends budget s ≡ done → EndsFrom b d budget pace first s
    by true is = record { count = 0; last = s; is = sweeps_none b (chip_of d) budget s; made = _; ended = is; few = omega arith; within = within }
    by false is = absurd (let room = not_spent budget s is within in omega arith)
ends_from b d budget pace (suc left) first s some reached within few =
    by (ends budget s) refl (λ next_reached next_within next_few. ends_from b d budget pace left (first + 1) new some next_reached next_within next_few)
  where
    new : ChipState
    new = swept b (chip_of d) budget s (from_offset (slots (chip_of d)) (pace first))

    by : (done : Bool) → ends budget s ≡ done
        → (IsReachable b d new → length new.journal ≤ budget → budget ≤ length new.journal + left → EndsFrom b d budget pace (first + 1) new)
        → EndsFrom b d budget pace first s
    by true is later = record { count = 0; last = s; is = sweeps_none b (chip_of d) budget s; made = _; ended = is; few = omega arith; within = within }
    by false is later =
        let on = swept_on b d budget s (from_offset (slots (chip_of d)) (pace first)) reached within in
        let grows = sweep_grows b d budget (pace first) s some reached within is in
        let rest = later on.reached on.within (omega arith) in
        record {
          count = suc rest.count;
          last = rest.last;
          is = sweeps_next b (chip_of d) budget s (pace first) (map pace (upwards (first + 1) rest.count)) is ∙ rest.is;
          made = (is, rest.made);
          ended = rest.ended;
          few = let few = rest.few in omega arith;
          within = rest.within;
        }

-- whatever the offsets are, a run by sweeps ends
pub sweeps_end : (b : Behaviour) (d : Doc) (budget : ℕ) (pace : ℕ → ℕ) → SlotIsPossible b d → SweepsEnd b d budget pace
sweeps_end b d budget pace some =
    let all = ends_from b d budget pace budget 0 (opening d) some (opening_reached b d) (omega arith) (omega arith) in
    record {
      sweeps = all.count;
      state = all.last;
      swept = record { swept = all.is; made = all.made; ended = all.ended };
      few = let few = all.few in omega arith;
      within = all.within;
    }

-- ---- a list of offsets that is long enough
spent : (budget : ℕ) (s : ChipState) → length s.journal ≤ budget → budget ≤ length s.journal → ends budget s ≡ true
spent budget s within all = either (length s.journal == budget) (finished s) (eq-eqb (length s.journal) budget (omega arith))
  where
    either : (a b : Bool) → a ≡ true → (a || b) ≡ true
    either true b is = refl
    either false b is = cc

-- as many sweeps as the budget has events end a run
pub enough_end : (b : Behaviour) (d : Doc) (budget : ℕ) (s : ChipState) (offsets : List ℕ) → SlotIsPossible b d → IsReachable b d s → length s.journal ≤ budget
    → budget ≤ length s.journal + length offsets → ends budget (sweeps b (chip_of d) budget s offsets) ≡ true
unfolding sweeps
enough_end b d budget s [] some reached within enough = spent budget s within (omega arith)
enough_end b d budget s (offset ∷ offsets) some reached within enough =
    let new = swept b (chip_of d) budget s (from_offset (slots (chip_of d)) offset) in
    cond_both (ends budget s) s (sweeps b (chip_of d) budget new offsets) (λ (last : ChipState). ends budget last ≡ true)
    (λ ended. ended)
    (λ going.
    let on = swept_on b d budget s (from_offset (slots (chip_of d)) offset) reached within in
    let grows = sweep_grows b d budget offset s some reached within going in
    enough_end b d budget new offsets some on.reached on.within (omega arith))
