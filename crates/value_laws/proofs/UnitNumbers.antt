-- A step of a unit keeps how its accesses and its buffered stores are numbered, and its access succeeds those before it.
use Rattle.std.proofs.Common.{◌≡◌, ◌≢◌, ℕ, ◌<◌, ◌≤◌, true, List, [], ◌∷◌, ◌++◌, slice_get, sym, ap, ◌∙◌, subst, inl, inr, arith}
use Rattle.std.specs.List.{AllByRecursion}
use Rattle.std.proofs.lemmas.Bool.{cases_eq, cases_lt, false_from_ne_true}
use Rattle.core_isa.proofs.Elements.{AllByRecursion-map}
use Rattle.report_text.specs.declared.access.Access.{Access}
use Rattle.chip_model.specs.Units.{UnitState, BufferedStore}
use Rattle.chip_model.specs.BehaviourLaws.{IsOfCore, IsOfNext, Buffers}
use Rattle.chip_model.specs.Witness.{is_write}
use Rattle.chip_laws.proofs.Each.{each_at, each_from, each_append}
use Rattle.chip_laws.proofs.Options.{none_some}
use Rattle.value_laws.specs.Sequences.{Differs, Succeeds}
use Rattle.value_laws.specs.Numbers.{StoresRise, IsApart, NumbersHold}
use Rattle.value_laws.proofs.Sequences.{before_time, follows_by}

-- ---- stores

rise_on : (n m : ℕ) (xs : List BufferedStore) → n ≤ m → StoresRise n xs → StoresRise m xs
rise_on n m [] more rise = tt
rise_on n m (x ∷ xs) more rise =
    let below = rise.0 in
    (omega (arith, below, more), rise.1, rise_on n m xs more rise.2)

rise_push : (n m : ℕ) (xs : List BufferedStore) (x : BufferedStore) → x.number ≡ n → n < m → StoresRise n xs → StoresRise m (xs ++ x ∷ [])
rise_push n m [] x is more rise = (omega (arith, is, more), tt, tt)
rise_push n m (y ∷ ys) x is more rise =
    let below = rise.0 in (
      omega (arith, below, more),
      each_append (λ (z : BufferedStore). y.number < z.number) ys (x ∷ []) rise.1 (omega (arith, below, is), tt),
      rise_push n m ys x is more rise.2,
    )

rise_below : (n : ℕ) (xs : List BufferedStore) → StoresRise n xs → AllByRecursion (λ (x : BufferedStore). x.number < n) xs
rise_below n [] rise = tt
rise_below n (x ∷ xs) rise = (rise.0, rise_below n xs rise.2)

-- ---- one access after another of its tile

succeed_by : (b a : Access) → b.time ≤ a.time → b.number ≢ a.number → (is_write b ≡ true → b.number < a.number) → Succeeds b a
succeed_by b a time differ write tile = elim (cases_lt b.number a.number) [
  | inl less ↦ inl (follows_by b a (λ own. (less, time)) tile)
  | inr more ↦ elim (cases_eq b.time a.time) [
    | inl same ↦ inr (
      follows_by a b (λ own. (omega (arith, more, differ), omega (arith, same))) (sym tile),
      false_from_ne_true (is_write b) (λ writes_it. let less = write writes_it in absurd (omega (arith, less, more))),
    )
    | inr other ↦ inl (before_time b a (omega (arith, time, other)))
  ]
]

-- ---- a step

module _ (t : ℕ) (old new : UnitState) (xs : List Access) (is : NumbersHold xs t old) (steps : old.core.steps ≤ new.core.steps) where
  early_on : AllByRecursion (λ a. a.tile ≡ t → a.number < new.core.steps) xs
  early_on =
      AllByRecursion-map (λ a. a.tile ≡ t → a.number < old.core.steps) (λ a. a.tile ≡ t → a.number < new.core.steps)
      (λ a less own. let below = less own in omega (arith, below, steps)) xs is.early

  apart_on : (stores : List BufferedStore) → ((a : Access) → AllByRecursion (IsApart a) old.buffered → a.number < old.core.steps → AllByRecursion
      (IsApart a) stores)
      → AllByRecursion (λ a. a.tile ≡ t → AllByRecursion (IsApart a) stores) xs
  apart_on stores on =
      each_from (λ a. a.tile ≡ t → AllByRecursion (IsApart a) stores) xs (λ i a at own.
      on a (each_at (λ x. x.tile ≡ t → AllByRecursion (IsApart x) old.buffered) xs i a is.apart at own)
      (each_at (λ x. x.tile ≡ t → x.number < old.core.steps) xs i a is.early at own))

  -- without an access
  pub numbers_same : new.buffered ≡ old.buffered → NumbersHold xs t new
  numbers_same same = record {
    early = early_on;
    stores = subst (StoresRise new.core.steps) (sym same) (rise_on old.core.steps new.core.steps old.buffered steps is.stores);
    apart = apart_on new.buffered (λ a apart below. subst (AllByRecursion (IsApart a)) (sym same) apart);
  }

  pub numbers_buffers : Buffers old new → NumbersHold xs t new
  numbers_buffers enters = record {
    early = early_on;
    stores = subst (StoresRise new.core.steps) (sym enters.buffered)
        (rise_push old.core.steps new.core.steps old.buffered enters.store enters.number enters.counts is.stores);
    apart = apart_on new.buffered (λ a apart below. subst (AllByRecursion (IsApart a)) (sym enters.buffered)
        (each_append (IsApart a) old.buffered (enters.store ∷ []) apart
        ((omega (arith, below, enters.number), (λ write. omega (arith, below, enters.number))), tt)));
  }

  -- with an access
  next_apart : (a : Access) → IsOfNext old new a → AllByRecursion (IsApart a) old.buffered
  next_apart a next =
      each_from (IsApart a) old.buffered (λ k x at.
      let below = each_at (λ (y : BufferedStore). y.number < old.core.steps) old.buffered k x (rise_below old.core.steps old.buffered is.stores) at in (
        omega (arith, below, next.number),
        (λ write. none_some x (ap (λ (stores : List BufferedStore). slice_get stores k) (sym (next.writes_last write)) ∙ at)),
      ))

  pub numbers_of : (a : Access) → IsOfCore old new a → NumbersHold (xs ++ a ∷ []) t new
  numbers_of a (inl next) =
      let same = numbers_same next.buffered in
      record {
        early = each_append (λ x. x.tile ≡ t → x.number < new.core.steps) xs (a ∷ []) early_on ((λ own. omega (arith, next.number, next.counts)), tt);
        stores = same.stores;
        apart = each_append (λ x. x.tile ≡ t → AllByRecursion (IsApart x) new.buffered) xs (a ∷ []) same.apart
            ((λ own. subst (AllByRecursion (IsApart a)) (sym next.buffered) (next_apart a next)), tt);
      }
  numbers_of a (inr oldest) =
      let rise : StoresRise old.core.steps (oldest.store ∷ new.buffered) = subst (StoresRise old.core.steps) oldest.buffered is.stores in
      let below = rise.0 in
      record {
        early = each_append (λ x. x.tile ≡ t → x.number < new.core.steps) xs (a ∷ []) early_on ((λ own. omega (arith, below, oldest.number, steps)), tt);
        stores = rise_on old.core.steps new.core.steps new.buffered steps rise.2;
        apart = each_append (λ x. x.tile ≡ t → AllByRecursion (IsApart x) new.buffered) xs (a ∷ [])
            (apart_on new.buffered (λ b apart less.
            (subst (AllByRecursion (IsApart b)) oldest.buffered apart).1)) (
              (λ own. AllByRecursion-map (λ (y : BufferedStore). oldest.store.number < y.number) (IsApart a)
                  (λ y after. (omega (arith, after, oldest.number), (λ write. omega (arith, after, oldest.number)))) new.buffered rise.1),
              tt,
            );
      }

  -- which succeeds those of its tile
  pub succeeds_all : (a : Access) → a.tile ≡ t → IsOfCore old new a → AllByRecursion (λ b. b.tile ≡ t → b.time ≤ a.time) xs
      → AllByRecursion (λ b. Succeeds b a) xs
  succeeds_all a tile of_core times =
      each_from (λ b. Succeeds b a) xs (λ i b at same.
      let own : b.tile ≡ t = same ∙ tile in
      let time = each_at (λ x. x.tile ≡ t → x.time ≤ a.time) xs i b times at own in
      let early = each_at (λ x. x.tile ≡ t → x.number < old.core.steps) xs i b is.early at own in
      let apart = each_at (λ x. x.tile ≡ t → AllByRecursion (IsApart x) old.buffered) xs i b is.apart at own in
      by b time early apart of_core same)
    where
      by : (b : Access) → b.time ≤ a.time → b.number < old.core.steps → AllByRecursion (IsApart b) old.buffered → IsOfCore old new a → Succeeds b a
      by b time early apart (inl next) = succeed_by b a time (omega (arith, early, next.number)) (λ write. omega (arith, early, next.number))
      by b time early apart (inr oldest) =
          let first = (subst (AllByRecursion (IsApart b)) oldest.buffered apart).0 in
          succeed_by b a time (λ same. first.0 (same ∙ oldest.number)) (λ write. let less = first.1 write in omega (arith, less, oldest.number))

  -- and is of another instruction
  pub differs_all : (a : Access) → a.tile ≡ t → IsOfCore old new a → AllByRecursion (λ b. Differs b a) xs
  differs_all a tile of_core =
      each_from (λ b. Differs b a) xs (λ i b at same.
      let own : b.tile ≡ t = same ∙ tile in
      by b (each_at (λ x. x.tile ≡ t → x.number < old.core.steps) xs i b is.early at own)
      (each_at (λ x. x.tile ≡ t → AllByRecursion (IsApart x) old.buffered) xs i b is.apart at own) of_core)
    where
      by : (b : Access) → b.number < old.core.steps → AllByRecursion (IsApart b) old.buffered → IsOfCore old new a → b.number ≢ a.number
      by b early apart (inl next) = λ same. absurd (omega (arith, early, next.number, same))
      by b early apart (inr oldest) = λ same. (subst (AllByRecursion (IsApart b)) oldest.buffered apart).0.0 (same ∙ oldest.number)

-- an access of another tile
pub numbers_away : (xs : List Access) (a : Access) (t u : ℕ) (unit : UnitState) → a.tile ≡ t → u ≢ t → NumbersHold xs u unit → NumbersHold (xs ++ a ∷ []) u unit
numbers_away xs a t u unit tile away is = record {
  early = each_append (λ x. x.tile ≡ u → x.number < unit.core.steps) xs (a ∷ []) is.early ((λ own. absurd (away (sym own ∙ tile))), tt);
  stores = is.stores;
  apart = each_append (λ x. x.tile ≡ u → AllByRecursion (IsApart x) unit.buffered) xs (a ∷ []) is.apart ((λ own. absurd (away (sym own ∙ tile))), tt);
}
