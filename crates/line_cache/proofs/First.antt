-- The first way that passes a test, and the definitions by recursion.
use Rattle.std.proofs.Common.{◌≡◌, ℕ, zero, suc, ◌<◌, ◌≤◌, Bool, true, false, refl, sym, ◌∙◌, ap, arith, Option, Some, None, List, [], ◌∷◌, length, set, get_or}
use Rattle.std.specs.Prelude.{◌||◌, is_none, is_some, if◌then◌else◌, nat_lt}
use Rattle.std.specs.List.{position, position_or_len}
use Rattle.std.proofs.lemmas.Bool.{ltb-false}
use Rattle.std.proofs.lemmas.Bool.Decides.{nat_tests}
use Rattle.std.proofs.lemmas.List.{get_or_default}
use Rattle.std.proofs.lemmas.List.Sums.{fails_before_first}
use Rattle.std.proofs.lemmas.List.Quantifiers.{position-Some}
use Rattle.chip_model.specs.Cache.{Held, Ways, found, has_empty, emptied, replaced, filled, placed, lowest_shared}
use Rattle.chip_model.specs.NodeShape.{IsApart}
use Rattle.line_cache.specs.Ways.{holds, holds_shared, line_held}

-- where no way passes, each one fails
fails_by : {X : Type 0} (p : X → Bool) (xs : List X) (b : Bool) (d : X) → nat_lt (position_or_len p xs) (length xs) ≡ b → (if b then Some (position_or_len p xs) else None) ≡ None
    → (k : ℕ) → k < length xs → p (get_or xs k d) ≡ false
fails_by p xs true d is none k below = cc
fails_by p xs false d is none k below =
    let all : length xs ≤ position_or_len p xs = ltb-false _ _ is in
    fails_before_first p xs k d (omega arith)

pub position-None : {X : Type 0} (p : X → Bool) (xs : List X) (d : X) → position p xs ≡ None → (k : ℕ) → k < length xs → p (get_or xs k d) ≡ false
position-None p xs d none k below = fails_by p xs (nat_lt (position_or_len p xs) (length xs)) d refl none k below

-- a line that a way holds
pub found_here : (line : ℕ) (way : Option Held) (ways : Ways) → holds line way ≡ true → found line (way ∷ ways) ≡ way
found_here line None ways here = cc
found_here line (Some held) ways here = rw here refl

pub found_later : (line : ℕ) (way : Option Held) (ways : Ways) → holds line way ≡ false → found line (way ∷ ways) ≡ found line ways
found_later line None ways other = refl
found_later line (Some held) ways other = rw other refl

-- the copy is the one in the first way that holds the line
pub found-first : (line : ℕ) (ways : Ways) (i : ℕ) → i < length ways → holds line (get_or ways i None) ≡ true → ((k : ℕ) → k < i → holds line (get_or ways k None) ≡ false)
    → found line ways ≡ get_or ways i None
found-first line [] i below at before = absurd (omega arith)
found-first line (way ∷ ways) zero below at before = found_here line way ways at
found-first line (way ∷ ways) (suc i) below at before =
    found_later line way ways (before 0 (omega arith)) ∙ found-first line ways i (omega arith) at (λ k lower. before (suc k) (omega arith))

pub found-nowhere : (line : ℕ) (ways : Ways) → ((k : ℕ) → k < length ways → holds line (get_or ways k None) ≡ false) → found line ways ≡ None
found-nowhere line [] fails = refl
found-nowhere line (way ∷ ways) fails =
    found_later line way ways (fails 0 (omega arith)) ∙ found-nowhere line ways (λ k below. fails (suc k) (omega arith))

-- a way that holds something
is_some_where : (line : ℕ) (way : Option Held) → holds line way ≡ true → is_some way ≡ true
is_some_where line None here = cc
is_some_where line (Some held) here = refl

pub found-read : (line : ℕ) (ways : Ways) (i : ℕ) (read : Option Held) → position (holds line) ways ≡ Some i → read ≡ get_or ways i read → read ≡ found line ways
found-read line ways i read first is =
    let at = position-Some (holds line) ways i None first in
    is ∙ get_or_default ways i read None at.0 ∙ sym (found-first line ways i at.0 at.1 at.2)

pub found-none : (line : ℕ) (ways : Ways) → position (holds line) ways ≡ None → found line ways ≡ None
found-none line ways none = found-nowhere line ways (position-None (holds line) ways None none)

found-is_some : (line : ℕ) (ways : Ways) (i : ℕ) → position (holds line) ways ≡ Some i → is_some (found line ways) ≡ true
found-is_some line ways i first =
    let at = position-Some (holds line) ways i None first in
    ap is_some (found-first line ways i at.0 at.1 at.2) ∙ is_some_where line (get_or ways i None) at.1

-- ---- a copy in the first way that holds its line
replaced_here : (new : Held) (way : Option Held) (ways : Ways) → holds new.line way ≡ true → replaced new (way ∷ ways) ≡ Some new ∷ ways
replaced_here new None ways here = cc
replaced_here new (Some held) ways here = rw here refl

replaced_later : (new : Held) (way : Option Held) (ways : Ways) → holds new.line way ≡ false → replaced new (way ∷ ways) ≡ way ∷ replaced new ways
replaced_later new None ways other = refl
replaced_later new (Some held) ways other = rw other refl

replaced-first : (new : Held) (ways : Ways) (i : ℕ) → i < length ways → holds new.line (get_or ways i None) ≡ true → ((k : ℕ) → k < i → holds new.line (get_or ways k None) ≡ false)
    → set ways i (Some new) ≡ replaced new ways
replaced-first new [] i below at before = absurd (omega arith)
replaced-first new (way ∷ ways) zero below at before = sym (replaced_here new way ways at)
replaced-first new (way ∷ ways) (suc i) below at before =
    ap (λ (rest : Ways). way ∷ rest) (replaced-first new ways i (omega arith) at (λ k lower. before (suc k) (omega arith)))
    ∙ sym (replaced_later new way ways (before 0 (omega arith)))

pub placed-held : (new : Held) (ways : Ways) (i : ℕ) → position (holds new.line) ways ≡ Some i → set ways i (Some new) ≡ placed new ways
placed-held new ways i first =
    let at = position-Some (holds new.line) ways i None first in
    rw (found-is_some new.line ways i first) (replaced-first new ways i at.0 at.1 at.2)

-- ---- a copy in the first empty way
filled-first : (new : Held) (ways : Ways) (i : ℕ) → i < length ways → is_none (get_or ways i None) ≡ true → ((k : ℕ) → k < i → is_none (get_or ways k None) ≡ false)
    → set ways i (Some new) ≡ filled new ways
filled-first new [] i below at before = absurd (omega arith)
filled-first new (None ∷ ways) zero below at before = refl
filled-first new (Some held ∷ ways) zero below at before = cc
filled-first new (None ∷ ways) (suc i) below at before = let here : is_none (get_or (None ∷ ways) 0 None) ≡ false = before 0 (omega arith) in cc
filled-first new (Some held ∷ ways) (suc i) below at before =
    ap (λ (rest : Ways). Some held ∷ rest) (filled-first new ways i (omega arith) at (λ k lower. before (suc k) (omega arith)))

pub placed-empty : (new : Held) (ways : Ways) (i : ℕ) → position (holds new.line) ways ≡ None → position is_none ways ≡ Some i → set ways i (Some new) ≡ placed new ways
placed-empty new ways i none first =
    let at = position-Some is_none ways i None first in
    rw (found-none new.line ways none) (filled-first new ways i at.0 at.1 at.2)

full-nowhere : (ways : Ways) → ((k : ℕ) → k < length ways → is_none (get_or ways k None) ≡ false) → has_empty ways ≡ false
full-nowhere [] fails = refl
full-nowhere (None ∷ ways) fails = let here : is_none (get_or (None ∷ ways) 0 None) ≡ false = fails 0 (omega arith) in cc
full-nowhere (Some held ∷ ways) fails = full-nowhere ways (λ k below. fails (suc k) (omega arith))

pub has_empty-none : (ways : Ways) → position is_none ways ≡ None → has_empty ways ≡ false
has_empty-none ways none = full-nowhere ways (position-None is_none ways None none)

empty_there : (ways : Ways) (i : ℕ) → i < length ways → is_none (get_or ways i None) ≡ true → has_empty ways ≡ true
empty_there [] i below at = absurd (omega arith)
empty_there (None ∷ ways) i below at = refl
empty_there (Some held ∷ ways) zero below at = cc
empty_there (Some held ∷ ways) (suc i) below at = empty_there ways i (omega arith) at

pub has_empty-position : (ways : Ways) (o : Option ℕ) → position is_none ways ≡ o → is_some o ≡ has_empty ways
has_empty-position ways None none = sym (has_empty-none ways none)
has_empty-position ways (Some i) first = let at = position-Some is_none ways i None first in sym (empty_there ways i at.0 at.1)

-- ---- without a line
emptied_here : (line : ℕ) (way : Option Held) (ways : Ways) → holds line way ≡ true → emptied line (way ∷ ways) ≡ None ∷ emptied line ways
emptied_here line None ways here = cc
emptied_here line (Some held) ways here = rw here refl

emptied_later : (line : ℕ) (way : Option Held) (ways : Ways) → holds line way ≡ false → emptied line (way ∷ ways) ≡ way ∷ emptied line ways
emptied_later line None ways other = refl
emptied_later line (Some held) ways other = rw other refl

pub emptied-absent : (line : ℕ) (ways : Ways) → found line ways ≡ None → emptied line ways ≡ ways
emptied-absent line [] none = refl
emptied-absent line (None ∷ ways) none = ap (λ (rest : Ways). None ∷ rest) (emptied-absent line ways none)
emptied-absent line (Some held ∷ ways) none = grind (arith, nat_tests, emptied-absent line ways)

apart_rest : (way : Option Held) (ways : Ways) → IsApart (way ∷ ways) → IsApart ways
apart_rest None ways apart = apart
apart_rest (Some held) ways apart = apart.1

apart_absent : (line : ℕ) (way : Option Held) (ways : Ways) → holds line way ≡ true → IsApart (way ∷ ways) → found line ways ≡ None
apart_absent line None ways here apart = cc
apart_absent line (Some held) ways here apart = grind (arith, nat_tests, apart.0)

emptied-first : (line : ℕ) (ways : Ways) (i : ℕ) → IsApart ways → i < length ways → holds line (get_or ways i None) ≡ true → ((k : ℕ) → k < i → holds line (get_or ways k None) ≡ false)
    → set ways i None ≡ emptied line ways
emptied-first line [] i apart below at before = absurd (omega arith)
emptied-first line (way ∷ ways) zero apart below at before =
    ap (λ (rest : Ways). None ∷ rest) (sym (emptied-absent line ways (apart_absent line way ways at apart))) ∙ sym (emptied_here line way ways at)
emptied-first line (way ∷ ways) (suc i) apart below at before =
    ap (λ (rest : Ways). way ∷ rest) (emptied-first line ways i (apart_rest way ways apart) (omega arith) at (λ k lower. before (suc k) (omega arith)))
    ∙ sym (emptied_later line way ways (before 0 (omega arith)))

pub emptied-held : (line : ℕ) (ways : Ways) (i : ℕ) → IsApart ways → position (holds line) ways ≡ Some i → set ways i None ≡ emptied line ways
emptied-held line ways i apart first =
    let at = position-Some (holds line) ways i None first in
    emptied-first line ways i apart at.0 at.1 at.2

-- ---- the lowest shared line
shared_here : (way : Option Held) (ways : Ways) → holds_shared way ≡ true → line_held way ≡ lowest_shared (way ∷ ways)
shared_here None ways here = cc
shared_here (Some held) ways here = rw here refl

shared_later : (way : Option Held) (ways : Ways) → holds_shared way ≡ false → lowest_shared (way ∷ ways) ≡ lowest_shared ways
shared_later None ways other = refl
shared_later (Some held) ways other = rw other refl

shared-first : (ways : Ways) (i : ℕ) → i < length ways → holds_shared (get_or ways i None) ≡ true → ((k : ℕ) → k < i → holds_shared (get_or ways k None) ≡ false)
    → line_held (get_or ways i None) ≡ lowest_shared ways
shared-first [] i below at before = absurd (omega arith)
shared-first (way ∷ ways) zero below at before = shared_here way ways at
shared-first (way ∷ ways) (suc i) below at before =
    shared-first ways i (omega arith) at (λ k lower. before (suc k) (omega arith)) ∙ sym (shared_later way ways (before 0 (omega arith)))

shared-nowhere : (ways : Ways) → ((k : ℕ) → k < length ways → holds_shared (get_or ways k None) ≡ false) → lowest_shared ways ≡ None
shared-nowhere [] fails = refl
shared-nowhere (way ∷ ways) fails =
    shared_later way ways (fails 0 (omega arith)) ∙ shared-nowhere ways (λ k below. fails (suc k) (omega arith))

pub lowest_shared-first : (ways : Ways) (i : ℕ) → position holds_shared ways ≡ Some i → line_held (get_or ways i None) ≡ lowest_shared ways
lowest_shared-first ways i first = let at = position-Some holds_shared ways i None first in shared-first ways i at.0 at.1 at.2

pub lowest_shared-none : (ways : Ways) → position holds_shared ways ≡ None → lowest_shared ways ≡ None
lowest_shared-none ways none = shared-nowhere ways (position-None holds_shared ways None none)

-- ---- where no way holds the line
pub emptied-nowhere : (line : ℕ) (ways : Ways) → position (holds line) ways ≡ None → ways ≡ emptied line ways
emptied-nowhere line ways none = sym (emptied-absent line ways (found-none line ways none))

pub placed-nowhere : (new : Held) (ways : Ways) → position (holds new.line) ways ≡ None → position is_none ways ≡ None → (is_some (found new.line ways) || has_empty ways) ≡ true → ⊥
placed-nowhere new ways none full fits = grind (arith, found-none new.line ways none, has_empty-none ways full)
