-- Lines that are read one after another, and what they tell.
use Rattle.std.proofs.Common.{◌≡◌, ℕ, ◌+◌, ◌<◌, ◌≤◌, Bool, true, false, not, cond, eqb, List, [], ◌∷◌, ◌++◌, length, filter, map, refl, sym, ap, subst, ◌∙◌, append_assoc, arith, inl, inr}
use Rattle.std.specs.Prelude.{codes, IsTrue}
use Rattle.std.specs.List.{before_first, after_first, position_or_len, slice_split, onto_first, list_any, AllByRecursion}
use Rattle.std.specs.Str.{bytes_eq}
use Rattle.std.proofs.lemmas.Bool.{cases_lt, ne_eqb, false≢true}
use Rattle.std.proofs.lemmas.List.{take_all, drop_all, length-append, length-drop, append-nil, map-append}
use Rattle.std.proofs.lemmas.List.Elements.{filter-append}
use Rattle.std.proofs.lemmas.List.Splits.{slice_split_first, length-slice_split}
use Rattle.std.proofs.lemmas.Slice.Eq.{bytes_eq-Decides}
use Rattle.report_text.specs.declared.event.Event.{Event}
use Rattle.report_text.specs.Events.{IsWithinLimits}
use Rattle.core_isa.specs.Lines.{is_line_feed}
use Rattle.report_text.specs.Lines.{without_empty_end, lines_of}
use Rattle.report_text.specs.Reading.{first_word, passed_words, is_passed, begins_with_e, IsGood, Tells, IsFirstBadLine}
use Rattle.report_text.specs.Report.{event_line}

-- ---- the first line of a text

ends_later : (part : List ℕ) (parts : List (List ℕ)) → 0 < length parts → without_empty_end (part ∷ parts) ≡ part ∷ without_empty_end parts
ends_later part [] some = absurd (omega arith)
ends_later part (next ∷ parts) some = refl

ends_here : (part : List ℕ) → 0 < length part → without_empty_end (part ∷ []) ≡ part ∷ []
ends_here part some = rw (ne_eqb (length part) 0 (λ e. omega arith)) refl

whole_by_test : (p : ℕ → Bool) (x : ℕ) (xs : List ℕ) (b : Bool) → p x ≡ b → (length xs ≤ position_or_len p xs → slice_split p xs ≡ xs ∷ []) → length (x ∷ xs) ≤ cond (not b) (1 + position_or_len p xs) 0 → cond b ([] ∷ slice_split p xs) (onto_first x (slice_split p xs)) ≡ (x ∷ xs) ∷ []
whole_by_test p x xs true e later le = absurd (omega arith)
whole_by_test p x xs false e later le = ap (onto_first x) (later (omega (arith, le)))

slice_split_whole : (p : ℕ → Bool) (xs : List ℕ) → length xs ≤ position_or_len p xs → slice_split p xs ≡ xs ∷ []
slice_split_whole p [] le = refl
slice_split_whole p (x ∷ xs) le = whole_by_test p x xs (p x) refl (slice_split_whole p xs) le

pub lines_of-first : (text : List ℕ) → 0 < length text → lines_of text ≡ before_first is_line_feed text ∷ lines_of (after_first is_line_feed text)
lines_of-first text some =
    elim (cases_lt (position_or_len is_line_feed text) (length text)) [
      | inl lt ↦
          ap without_empty_end (slice_split_first is_line_feed text 0 lt)
          ∙ ends_later (before_first is_line_feed text) (slice_split is_line_feed (after_first is_line_feed text)) (omega (arith, length-slice_split is_line_feed (after_first is_line_feed text)))
      | inr le ↦
          ap without_empty_end (slice_split_whole is_line_feed text le) ∙ ends_here text some
          ∙ ap (λ (l : List ℕ). l ∷ lines_of []) (sym (take_all _ text le))
          ∙ ap (λ (l : List ℕ). before_first is_line_feed text ∷ lines_of l) (sym (drop_all _ text (omega (arith, le))))
    ]

-- the same, of a line and the rest as the code has them
pub first_line : (text line more : List ℕ) → 0 < length text → line ≡ before_first is_line_feed text → more ≡ after_first is_line_feed text → lines_of text ≡ line ∷ lines_of more
first_line text line more some front back =
    lines_of-first text some ∙ ap (λ (l : List ℕ). l ∷ lines_of (after_first is_line_feed text)) (sym front) ∙ ap (λ (l : List ℕ). line ∷ lines_of l) (sym back)

pub filled : (text : List ℕ) → false ≡ eqb (length text) 0 → 0 < length text
filled [] e = absurd (false≢true e)
filled (byte ∷ text) e = omega arith

pub after_first-shorter : (text : List ℕ) → 0 < length text → length (after_first is_line_feed text) < length text
after_first-shorter text some = omega (arith, length-drop (position_or_len is_line_feed text + 1) text)

-- ---- what lines tell together

both : (P : List ℕ → Type 0) (xs ys : List (List ℕ)) → AllByRecursion P xs → AllByRecursion P ys → AllByRecursion P (xs ++ ys)
both P [] ys a b = b
both P (x ∷ xs) ys a b = (a.0, both P xs ys a.1 b)

both_within : (xs ys : List Event) → AllByRecursion IsWithinLimits xs → AllByRecursion IsWithinLimits ys → AllByRecursion IsWithinLimits (xs ++ ys)
both_within [] ys a b = b
both_within (x ∷ xs) ys a b = (a.0, both_within xs ys a.1 b)

pub Tells-nothing : Tells [] []
Tells-nothing = record { told = refl; within = tt; good = tt }

pub Tells-both : (lines more : List (List ℕ)) (events next : List Event) → Tells lines events → Tells more next → Tells (lines ++ more) (events ++ next)
Tells-both lines more events next a b =
    record {
      told = filter-append begins_with_e lines more ∙ ap (λ (l : List (List ℕ)). l ++ filter begins_with_e more) a.told ∙ ap (λ (l : List (List ℕ)). map event_line events ++ l) b.told ∙ sym (map-append event_line events next);
      within = both_within events next a.within b.within;
      good = both IsGood lines more a.good b.good;
    }

-- the line of an event
pub Tells-event : (line : List ℕ) (e : Event) → IsWithinLimits e → line ≡ event_line e → Tells (line ∷ []) (e ∷ [])
Tells-event line e within same =
    subst (λ l. Tells (l ∷ []) (e ∷ [])) (sym same) (record { told = refl; within = (within, tt); good = (inr (e, within, refl), tt) })

-- a line that is passed over does not begin with the word `e`
passed_begins : (word : List ℕ) → list_any (bytes_eq word) passed_words ≡ true → bytes_eq word (codes "e") ≡ false
passed_begins word passed = by_test (bytes_eq word (codes "e")) refl
  where
    by_test : (b : Bool) → bytes_eq word (codes "e") ≡ b → bytes_eq word (codes "e") ≡ false
    by_test false e = e
    by_test true e = let none : list_any (bytes_eq (codes "e")) passed_words ≡ true = subst (λ w. list_any (bytes_eq w) passed_words ≡ true) ((bytes_eq-Decides word (codes "e")).0 e) passed in absurd (false≢true none)

pub Tells-passed : (line : List ℕ) → IsTrue (is_passed line) → Tells (line ∷ []) []
Tells-passed line passed = record { told = rw (passed_begins (first_word line) passed) refl; within = tt; good = (inl passed, tt) }

-- ---- lines that were read, before those that are left

pub record HasRead (lines : List (List ℕ)) (number : ℕ) (events : List Event) (left : List (List ℕ)) : Type 0 where
  pub before : List (List ℕ)
  pub split : lines ≡ before ++ left
  pub counted : number ≡ length before
  pub tells : Tells before events

pub HasRead-nothing : (lines : List (List ℕ)) → HasRead lines 0 [] lines
HasRead-nothing lines = record { before = []; split = refl; counted = refl; tells = Tells-nothing }

-- a line more
pub HasRead-line : (lines left : List (List ℕ)) (number : ℕ) (events : List Event) (line : List ℕ) (rest : List (List ℕ)) (next : List Event) → left ≡ line ∷ rest → HasRead lines number events left → Tells (line ∷ []) next → HasRead lines (number + 1) (events ++ next) rest
HasRead-line lines left number events line rest next first read tells =
    record {
      before = read.before ++ line ∷ [];
      split = read.split ∙ ap (λ (l : List (List ℕ)). read.before ++ l) first ∙ sym (append_assoc read.before (line ∷ []) rest);
      counted = omega (arith, read.counted, length-append read.before (line ∷ []));
      tells = Tells-both read.before (line ∷ []) events next read.tells tells;
    }

-- a bad line
pub HasRead-bad : (lines left : List (List ℕ)) (number : ℕ) (events : List Event) (line : List ℕ) (rest : List (List ℕ)) → left ≡ line ∷ rest → HasRead lines number events left → (IsGood line → ⊥) → IsFirstBadLine lines (number + 1)
HasRead-bad lines left number events line rest first read bad =
    record {
      before = read.before;
      line = line;
      after = rest;
      split = read.split ∙ ap (λ (l : List (List ℕ)). read.before ++ l) first;
      counted = omega (arith, read.counted);
      good = read.tells.good;
      bad = bad;
    }

-- all lines
pub HasRead-all : (lines : List (List ℕ)) (number : ℕ) (events : List Event) → HasRead lines number events [] → Tells lines events
HasRead-all lines number events read = subst (λ ls. Tells ls events) (sym (read.split ∙ append-nil read.before)) read.tells
