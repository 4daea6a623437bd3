-- A set as a map: what is found in it after a change.
use Rattle.std.proofs.Common.{◌≡◌, ◌≢◌, ℕ, zero, suc, ◌<◌, true, false, arith, ap, sym, subst, Some, None, [], ◌∷◌, refl, length, replicate}
use Rattle.std.specs.Prelude.{◌==◌, ◌||◌, is_some, if◌then◌else◌}
use Rattle.std.proofs.lemmas.Bool.Decides.{nat_tests}
use Rattle.chip_model.specs.Cache.{Held, Ways, found, has_empty, emptied, replaced, filled, placed}
use Rattle.chip_model.specs.NodeShape.{IsApart}

pub found_line : (line : ℕ) (ways : Ways) (held : Held) → found line ways ≡ Some held → held.line ≡ line
found_line line [] held is = cc
found_line line (None ∷ ways) held is = found_line line ways held is
found_line line (Some first ∷ ways) held is = grind (arith, nat_tests, found_line line ways held)

pub found-emptied : (m line : ℕ) (ways : Ways) → found m (emptied line ways) ≡ (if m == line then None else found m ways)
found-emptied m line [] = grind (arith, nat_tests)
found-emptied m line (None ∷ ways) = found-emptied m line ways
found-emptied m line (Some held ∷ ways) = grind (arith, nat_tests, found-emptied m line ways)

found-replaced : (m : ℕ) (new : Held) (ways : Ways) → is_some (found new.line ways) ≡ true → found m (replaced new ways) ≡ (if m == new.line then Some new else found m ways)
found-replaced m new [] there = cc
found-replaced m new (None ∷ ways) there = found-replaced m new ways there
found-replaced m new (Some held ∷ ways) there = grind (arith, nat_tests, found-replaced m new ways)

found-filled : (m : ℕ) (new : Held) (ways : Ways) → is_some (found new.line ways) ≡ false → has_empty ways ≡ true → found m (filled new ways) ≡ (if m == new.line then Some new else found m ways)
found-filled m new [] absent room = cc
found-filled m new (None ∷ ways) absent room = grind (arith, nat_tests)
found-filled m new (Some held ∷ ways) absent room = grind (arith, nat_tests, found-filled m new ways)

pub found-placed : (m : ℕ) (new : Held) (ways : Ways) → (is_some (found new.line ways) || has_empty ways) ≡ true → found m (placed new ways) ≡ (if m == new.line then Some new else found m ways)
found-placed m new ways fits = grind (arith, found-filled, found-replaced)

-- ---- each line once
pub Apart-emptied : (line : ℕ) (ways : Ways) → IsApart ways → IsApart (emptied line ways)
Apart-emptied line [] apart = tt
Apart-emptied line (None ∷ ways) apart = Apart-emptied line ways apart
Apart-emptied line (Some held ∷ ways) apart = grind (arith, nat_tests, found-emptied, Apart-emptied line ways apart.1)

Apart-filled : (new : Held) (ways : Ways) → found new.line ways ≡ None → has_empty ways ≡ true → IsApart ways → IsApart (filled new ways)
Apart-filled new [] absent room apart = tt
Apart-filled new (None ∷ ways) absent room apart = (absent, apart)
Apart-filled new (Some held ∷ ways) absent room apart = grind (arith, nat_tests, found-filled, Apart-filled new ways)

Apart-replaced : (new : Held) (ways : Ways) → is_some (found new.line ways) ≡ true → IsApart ways → IsApart (replaced new ways)
Apart-replaced new [] there apart = tt
Apart-replaced new (None ∷ ways) there apart = Apart-replaced new ways there apart
Apart-replaced new (Some held ∷ ways) there apart = grind (arith, nat_tests, found-replaced, Apart-replaced new ways)

pub Apart-placed : (new : Held) (ways : Ways) → (is_some (found new.line ways) || has_empty ways) ≡ true → IsApart ways → IsApart (placed new ways)
Apart-placed new ways fits apart = grind (arith, Apart-filled, Apart-replaced)

-- ---- what stays of the others
pub found-placed_there : (new : Held) (ways : Ways) → (is_some (found new.line ways) || has_empty ways) ≡ true → found new.line (placed new ways) ≡ Some new
found-placed_there new ways fits = grind (arith, nat_tests, found-placed new.line new ways fits)

pub found-placed_other : (new : Held) (ways : Ways) → (is_some (found new.line ways) || has_empty ways) ≡ true → (m : ℕ) → m ≢ new.line → found m (placed new ways) ≡ found m ways
found-placed_other new ways fits m other = grind (arith, nat_tests, found-placed m new ways fits)

pub found-emptied_there : (line : ℕ) (ways : Ways) → found line (emptied line ways) ≡ None
found-emptied_there line ways = grind (arith, nat_tests, found-emptied line line ways)

pub found-emptied_other : (line : ℕ) (ways : Ways) (m : ℕ) → m ≢ line → found m (emptied line ways) ≡ found m ways
found-emptied_other line ways m other = grind (arith, nat_tests, found-emptied m line ways)

-- ---- room
pub empty_where_found : (line : ℕ) (ways : Ways) → is_some (found line ways) ≡ true → has_empty (emptied line ways) ≡ true
empty_where_found line [] there = cc
empty_where_found line (None ∷ ways) there = refl
empty_where_found line (Some held ∷ ways) there = grind (arith, empty_where_found line ways)

empty-emptied : (line : ℕ) (ways : Ways) → has_empty ways ≡ true → has_empty (emptied line ways) ≡ true
empty-emptied line [] room = cc
empty-emptied line (None ∷ ways) room = refl
empty-emptied line (Some held ∷ ways) room = grind (arith, empty-emptied line ways)

empty-replaced : (new : Held) (ways : Ways) → has_empty ways ≡ true → has_empty (replaced new ways) ≡ true
empty-replaced new [] room = cc
empty-replaced new (None ∷ ways) room = refl
empty-replaced new (Some held ∷ ways) room = grind (arith, empty-replaced new ways)

-- what fitted fits without a line, and with another copy of one that stands there
pub fits-emptied : (line other : ℕ) (ways : Ways) → (is_some (found other ways) || has_empty ways) ≡ true → (is_some (found other (emptied line ways)) || has_empty (emptied line ways)) ≡ true
fits-emptied line other ways fits = grind (arith, nat_tests, found-emptied other line ways, empty-emptied line ways, empty_where_found line ways)

pub fits-placed : (new : Held) (other : ℕ) (ways : Ways) → is_some (found new.line ways) ≡ true → (is_some (found other ways) || has_empty ways) ≡ true
    → (is_some (found other (placed new ways)) || has_empty (placed new ways)) ≡ true
fits-placed new other ways there fits = grind (arith, nat_tests, found-placed other new ways, empty-replaced new ways)

-- ---- as many ways
pub length-emptied : (line : ℕ) (ways : Ways) → length (emptied line ways) ≡ length ways
length-emptied line [] = refl
length-emptied line (None ∷ ways) = ap (λ (n : ℕ). suc n) (length-emptied line ways)
length-emptied line (Some held ∷ ways) = grind (arith, length-emptied line ways)

length-replaced : (new : Held) (ways : Ways) → length (replaced new ways) ≡ length ways
length-replaced new [] = refl
length-replaced new (None ∷ ways) = ap (λ (n : ℕ). suc n) (length-replaced new ways)
length-replaced new (Some held ∷ ways) = grind (arith, length-replaced new ways)

length-filled : (new : Held) (ways : Ways) → length (filled new ways) ≡ length ways
length-filled new [] = refl
length-filled new (None ∷ ways) = refl
length-filled new (Some held ∷ ways) = ap (λ (n : ℕ). suc n) (length-filled new ways)

pub length-placed : (new : Held) (ways : Ways) → length (placed new ways) ≡ length ways
length-placed new ways = grind (arith, length-replaced new ways, length-filled new ways)

-- ---- a set whose ways are all empty
pub IsApart-replicate : (count : ℕ) → IsApart (replicate count None)
IsApart-replicate zero = tt
IsApart-replicate (suc count) = IsApart-replicate count

pub fresh : (count : ℕ) (ways : Ways) → ways ≡ replicate count None → 0 < count → (0 < length ways) × IsApart ways
fresh zero ways is some = absurd (omega arith)
fresh (suc count) ways is some = subst (λ (ws : Ways). (0 < length ws) × IsApart ws) (sym is) (omega arith, IsApart-replicate count)

pub found-replicate : (line count : ℕ) → found line (replicate count None) ≡ None
found-replicate line zero = refl
found-replicate line (suc count) = found-replicate line count
