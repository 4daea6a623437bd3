-- What a victim says of the ways of its set.
use Rattle.std.proofs.Common.{◌≡◌, ℕ, ◌<◌, Bool, true, false, refl, sym, ◌∙◌, ap, subst, arith, Some, None, [], ◌∷◌, length}
use Rattle.std.specs.Prelude.{option_map, if◌then◌else◌, is_some}
use Rattle.std.proofs.lemmas.Bool.Decides.{nat_tests}
use Rattle.chip_model.specs.declared.victim.Victim.{Victim}
use Rattle.chip_model.specs.Cache.{Held, Ways, is_shared, found, has_empty, emptied, freed, lowest, lowest_shared, put_of}
use Rattle.chip_model.specs.NodeShape.{IsApart}
use Rattle.line_cache.specs.Ways.{DropsSharedWay, IsVictimOfWays}
use Rattle.line_cache.proofs.First.{emptied-absent}
use Rattle.line_cache.proofs.Found.{empty_where_found}

-- the lowest shared line stands there, and without it the ways are those that are freed
record Shared (ways : Ways) (line : ℕ) : Type 0 where
  dropped : freed ways ≡ Some (emptied line ways)
  held : Held
  same : held.line ≡ line
  there : found line ways ≡ Some held
  shared : is_shared held.state ≡ true

shared_first : (held : Held) (ways : Ways) → is_shared held.state ≡ true → found held.line ways ≡ None → Shared (Some held ∷ ways) held.line
shared_first held ways shared absent = record {
  dropped = grind (arith, nat_tests, emptied-absent held.line ways);
  held = held;
  same = refl;
  there = grind (arith, nat_tests);
  shared = shared;
}

shared_after_empty : (ways : Ways) (line : ℕ) → Shared ways line → Shared (None ∷ ways) line
shared_after_empty ways line is = record {
  dropped = ap (option_map (λ (rest : Ways). None ∷ rest)) is.dropped;
  held = is.held;
  same = is.same;
  there = is.there;
  shared = is.shared;
}

shared_after : (held : Held) (ways : Ways) (line : ℕ) → is_shared held.state ≡ false → found held.line ways ≡ None → Shared ways line → Shared (Some held ∷ ways) line
shared_after held ways line owned absent is = record {
  dropped = grind (arith, nat_tests, is.dropped, is.there);
  held = is.held;
  same = is.same;
  there = grind (arith, nat_tests, is.there);
  shared = is.shared;
}

shared_at : (held : Held) (ways : Ways) (line : ℕ) (b : Bool) → is_shared held.state ≡ b → IsApart (Some held ∷ ways) → (lowest_shared ways ≡ Some line → Shared ways line)
    → (if b then Some held.line else lowest_shared ways) ≡ Some line → Shared (Some held ∷ ways) line
shared_at held ways line true is apart rest lowest_is =
    let same : held.line ≡ line = cc in
    subst (λ (l : ℕ). Shared (Some held ∷ ways) l) same (shared_first held ways is apart.0)
shared_at held ways line false is apart rest lowest_is = shared_after held ways line is apart.0 (rest lowest_is)

Shared-lowest_shared : (ways : Ways) (line : ℕ) → IsApart ways → lowest_shared ways ≡ Some line → Shared ways line
Shared-lowest_shared [] line apart is = cc
Shared-lowest_shared (None ∷ ways) line apart is = shared_after_empty ways line (Shared-lowest_shared ways line apart is)
Shared-lowest_shared (Some held ∷ ways) line apart is = shared_at held ways line (is_shared held.state) refl apart (Shared-lowest_shared ways line apart.1) is

freed-unshared : (ways : Ways) → lowest_shared ways ≡ None → freed ways ≡ None
freed-unshared [] none = refl
freed-unshared (None ∷ ways) none = ap (option_map (λ (rest : Ways). None ∷ rest)) (freed-unshared ways none)
freed-unshared (Some held ∷ ways) none = grind (arith, freed-unshared ways)

puts_lowest : (ways : Ways) → has_empty ways ≡ false → lowest_shared ways ≡ None → 0 < length ways → IsVictimOfWays ways (put_of (lowest ways))
puts_lowest [] full none some = absurd (omega arith)
puts_lowest (None ∷ ways) full none some = cc
puts_lowest (Some held ∷ ways) full none some = record {
  full = full;
  unshared = freed-unshared (Some held ∷ ways) none;
  room = empty_where_found held.line (Some held ∷ ways) (grind (arith, nat_tests));
  held = held;
  lowest = refl;
  same = refl;
  there = grind (arith, nat_tests);
  owned = grind (arith, none);
}

drops_shared : (ways : Ways) (line : ℕ) → has_empty ways ≡ false → Shared ways line → DropsSharedWay ways line
drops_shared ways line full is = record {
  full = full;
  dropped = is.dropped;
  room = empty_where_found line ways (ap is_some is.there);
  held = is.held;
  there = is.there;
  shared = is.shared;
}

-- ---- the same of ways that were read as an array
pub DropsSharedWay-read : (now items read : Ways) (line : ℕ) → items ≡ now → read ≡ items → (0 < length items) × IsApart items → has_empty read ≡ false → lowest_shared read ≡ Some line → DropsSharedWay now line
DropsSharedWay-read now items read line is same ok full shared =
    let full_here : has_empty items ≡ false = ap has_empty (sym same) ∙ full in
    let shared_here : lowest_shared items ≡ Some line = ap lowest_shared (sym same) ∙ shared in
    subst (λ (ways : Ways). DropsSharedWay ways line) is (drops_shared items line full_here (Shared-lowest_shared items line ok.1 shared_here))

pub IsVictimOfWays-read : (now items read : Ways) (victim : Victim) → items ≡ now → read ≡ items → (0 < length items) × IsApart items → has_empty read ≡ false → lowest_shared read ≡ None
    → victim ≡ put_of (lowest read) → IsVictimOfWays now victim
IsVictimOfWays-read now items read victim is same ok full none put =
    let full_here : has_empty items ≡ false = ap has_empty (sym same) ∙ full in
    let none_here : lowest_shared items ≡ None = ap lowest_shared (sym same) ∙ none in
    let put_here : put_of (lowest items) ≡ victim = ap (λ (ways : Ways). put_of (lowest ways)) (sym same) ∙ sym put in
    subst (λ (ways : Ways). IsVictimOfWays ways victim) is
    (subst (λ (v : Victim). IsVictimOfWays items v) put_here (puts_lowest items full_here none_here ok.0))
