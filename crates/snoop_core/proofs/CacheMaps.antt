-- A cache as a map from lines to copies: what is found in it after a change, what may come in, and that it keeps its shape.
use Rattle.std.proofs.Common.{◌≡◌, ℕ, zero, suc, ◌<◌, Bool, true, false, refl, sym, ◌∙◌, ap, subst, arith, Some, None, [], ◌∷◌, length, set, get_or, get_or-set_same, length-set}
use Rattle.std.specs.Prelude.{◌==◌, is_some, option_map, slice_get, if◌then◌else◌}
use Rattle.std.proofs.lemmas.Bool.Decides.{nat_tests}
use Rattle.chip_model.specs.Chip.{Chip, set_number}
use Rattle.chip_model.specs.Cache.{Held, Ways, Cache, is_shared, found, has_empty, emptied, placed, freed, lowest, lookup, has_room, fits, installed, without_line, without_shared, lowest_for}
use Rattle.chip_model.specs.NodeShape.{IsApart, IsCache}
use Rattle.line_cache.proofs.First.{emptied-absent}
use Rattle.line_cache.proofs.Found.{found_line, found-emptied, found-placed, Apart-emptied, Apart-placed, empty_where_found, fits-emptied, fits-placed, length-emptied, length-placed}
use Rattle.snoop_core.proofs.Options.{option_map_some, option_map_none}

-- ---- one set that is changed
set-at : (f : Ways → Ways) (cache : Cache) (i j : ℕ) → f [] ≡ []
    → get_or (set cache i (f (get_or cache i []))) j [] ≡ (if i == j then f (get_or cache j []) else get_or cache j [])
set-at f [] i j keeps = grind (arith, nat_tests)
set-at f (ways ∷ cache) zero zero keeps = refl
set-at f (ways ∷ cache) zero (suc j) keeps = grind (arith, nat_tests)
set-at f (ways ∷ cache) (suc i) zero keeps = grind (arith, nat_tests)
set-at f (ways ∷ cache) (suc i) (suc j) keeps = grind (arith, nat_tests, set-at f cache i j keeps)

ways-at : (f : Ways → Ways) (count : ℕ) (cache : Cache) (i : ℕ) → ((ways : Ways) → length (f ways) ≡ length ways)
    → ((k : ℕ) (ways : Ways) → slice_get cache k ≡ Some ways → length ways ≡ count)
    → (k : ℕ) (ways : Ways) → slice_get (set cache i (f (get_or cache i []))) k ≡ Some ways → length ways ≡ count
ways-at f count [] i keeps all k ways is = cc
ways-at f count (first ∷ cache) zero keeps all zero ways is = let same : f first ≡ ways = cc in ap length (sym same) ∙ keeps first
    ∙ all 0 first refl
ways-at f count (first ∷ cache) zero keeps all (suc k) ways is = all (suc k) ways is
ways-at f count (first ∷ cache) (suc i) keeps all zero ways is = all 0 ways is
ways-at f count (first ∷ cache) (suc i) keeps all (suc k) ways is = ways-at f count cache i keeps (λ n. all (suc n)) k ways is

-- ---- what is found
pub lookup-line : (chip : Chip) (cache : Cache) (line : ℕ) (held : Held) → lookup chip cache line ≡ Some held → held.line ≡ line
unfolding lookup
lookup-line chip cache line held is = found_line line (get_or cache (set_number chip line) []) held is

pub lookup-without_line : (chip : Chip) (cache : Cache) (line m : ℕ)
    → lookup chip (without_line chip line cache) m ≡ (if m == line then None else lookup chip cache m)
unfolding lookup without_line
lookup-without_line chip cache line m = grind (arith, nat_tests, set-at (emptied line) cache, found-emptied)

pub lookup-installed : (chip : Chip) (cache : Cache) (new : Held) (m : ℕ) → fits chip cache new.line ≡ true
    → lookup chip (installed chip new cache) m ≡ (if m == new.line then Some new else lookup chip cache m)
unfolding lookup installed fits has_room
lookup-installed chip cache new m fit = grind (arith, nat_tests, set-at (placed new) cache, found-placed)

-- ---- what may come in
pub fits_held : (chip : Chip) (cache : Cache) (line : ℕ) → is_some (lookup chip cache line) ≡ true → fits chip cache line ≡ true
unfolding fits
fits_held chip cache line there = grind arith

pub fits_room : (chip : Chip) (cache : Cache) (line : ℕ) → has_room chip cache line ≡ true → fits chip cache line ≡ true
unfolding fits
fits_room chip cache line room = grind arith

pub fits-without_line : (chip : Chip) (cache : Cache) (line m : ℕ) → fits chip cache m ≡ true
    → fits chip (without_line chip line cache) m ≡ true
unfolding fits lookup has_room without_line
fits-without_line chip cache line m fit = grind (arith, nat_tests, set-at (emptied line) cache, fits-emptied)

pub fits-installed : (chip : Chip) (cache : Cache) (new : Held) (m : ℕ) → is_some (lookup chip cache new.line) ≡ true
    → fits chip cache m ≡ true → fits chip (installed chip new cache) m ≡ true
unfolding fits lookup has_room installed
fits-installed chip cache new m there fit = grind (arith, nat_tests, set-at (placed new) cache, fits-placed)

-- ---- the shape
pub IsCache-without_line : (chip : Chip) (cache : Cache) (line : ℕ) → IsCache chip cache → IsCache chip (without_line chip line cache)
unfolding without_line
IsCache-without_line chip cache line is = record {
  sets = length-set cache (set_number chip line) (emptied line (get_or cache (set_number chip line) [])) ∙ is.sets;
  ways = ways-at (emptied line) chip.ways cache (set_number chip line) (length-emptied line) is.ways;
  apart = λ k. grind (arith, nat_tests, set-at (emptied line) cache, Apart-emptied, is.apart);
  placed = λ k m there. grind (arith, nat_tests, set-at (emptied line) cache, found-emptied, is.placed);
}

pub IsCache-installed : (chip : Chip) (cache : Cache) (new : Held) → fits chip cache new.line ≡ true → IsCache chip cache
    → IsCache chip (installed chip new cache)
unfolding installed fits lookup has_room
IsCache-installed chip cache new fit is = record {
  sets = length-set cache (set_number chip new.line) (placed new (get_or cache (set_number chip new.line) [])) ∙ is.sets;
  ways = ways-at (placed new) chip.ways cache (set_number chip new.line) (length-placed new) is.ways;
  apart = λ k. grind (arith, nat_tests, set-at (placed new) cache, Apart-placed, is.apart);
  placed = λ k m there. grind (arith, nat_tests, set-at (placed new) cache, found-placed, is.placed);
}

-- ---- the lowest shared line is dropped
record Freed (ways rest : Ways) : Type 0 where
  pub was : Held
  pub shared : is_shared was.state ≡ true
  pub there : found was.line ways ≡ Some was
  pub left : rest ≡ emptied was.line ways

freed-nothing : (ways rest : Ways) → Freed ways rest → Freed (None ∷ ways) (None ∷ rest)
freed-nothing ways rest is = record { was = is.was; shared = is.shared; there = is.there; left = ap (λ (ws : Ways). None ∷ ws) is.left }

freed-after : (held : Held) (ways rest : Ways) → found held.line ways ≡ None → Freed ways rest
    → Freed (Some held ∷ ways) (Some held ∷ rest)
freed-after held ways rest absent is = record {
  was = is.was;
  shared = is.shared;
  there = grind (arith, nat_tests, is.there);
  left = grind (arith, nat_tests, is.there, is.left);
}

freed-here : (held : Held) (ways : Ways) → is_shared held.state ≡ true → found held.line ways ≡ None
    → Freed (Some held ∷ ways) (None ∷ ways)
freed-here held ways shared absent = record {
  was = held;
  shared = shared;
  there = grind (arith, nat_tests);
  left = grind (arith, nat_tests, emptied-absent held.line ways);
}

freed_by : (held : Held) (ways rest : Ways) (b : Bool) → is_shared held.state ≡ b → IsApart (Some held ∷ ways)
    → ((r : Ways) → freed ways ≡ Some r → Freed ways r)
    → (if b then Some (None ∷ ways) else option_map (λ (r : Ways). Some held ∷ r) (freed ways)) ≡ Some rest → Freed (Some held ∷ ways) rest
freed_by held ways rest true shared apart below is =
    let same : None ∷ ways ≡ rest = cc in
    subst (λ (r : Ways). Freed (Some held ∷ ways) r) same (freed-here held ways shared apart.0)
freed_by held ways rest false shared apart below is =
    option_map_some (λ (r : Ways). Some held ∷ r) (freed ways) rest is (λ r freed_is same.
    subst (λ (x : Ways). Freed (Some held ∷ ways) x) same (freed-after held ways r apart.0 (below r freed_is)))

freed_is : (ways rest : Ways) → IsApart ways → freed ways ≡ Some rest → Freed ways rest
freed_is [] rest apart is = cc
freed_is (None ∷ ways) rest apart is =
    option_map_some (λ (r : Ways). None ∷ r) (freed ways) rest is (λ r below same.
    subst (λ (x : Ways). Freed (None ∷ ways) x) same (freed-nothing ways r (freed_is ways r apart below)))
freed_is (Some held ∷ ways) rest apart is = freed_by held ways rest (is_shared held.state) refl apart (λ r. freed_is ways r apart.1) is

-- the cache without the lowest shared line of a line's set is the cache without that one, and has room for the line
pub record DropsShared (chip : Chip) (line : ℕ) (cache new : Cache) : Type 0 where
  pub was : Held
  pub shared : is_shared was.state ≡ true
  pub there : lookup chip cache was.line ≡ Some was
  pub dropped : new ≡ without_line chip was.line cache
  pub room : has_room chip new line ≡ true

-- a set in which something is found is one of the cache
within : (cache : Cache) (i line : ℕ) (held : Held) → found line (get_or cache i []) ≡ Some held → i < length cache
within [] i line held is = cc
within (ways ∷ cache) zero line held is = omega arith
within (ways ∷ cache) (suc i) line held is = let below : i < length cache = within cache i line held is in omega arith

room-set : (cache : Cache) (i : ℕ) (ways : Ways) → i < length cache → has_empty ways ≡ true
    → has_empty (get_or (set cache i ways) i []) ≡ true
room-set cache i ways below room = ap has_empty (get_or-set_same cache i ways [] below) ∙ room

drops_in : (chip : Chip) (line : ℕ) (cache : Cache) (rest : Ways) → IsCache chip cache → Freed (get_or cache (set_number chip line) []) rest
    → DropsShared chip line cache (set cache (set_number chip line) rest)
unfolding lookup has_room without_line
drops_in chip line cache rest is freed =
    let i = set_number chip line in
    let same : set_number chip freed.was.line ≡ i = is.placed i freed.was.line (ap is_some freed.there) in
    let below : i < length cache = within cache i freed.was.line freed.was freed.there in
    let room : has_empty rest ≡ true = ap has_empty freed.left ∙ empty_where_found freed.was.line (get_or cache i [])
    (ap is_some freed.there) in
    record {
      was = freed.was;
      shared = freed.shared;
      there = ap (λ (n : ℕ). found freed.was.line (get_or cache n [])) same ∙ freed.there;
      dropped = ap (λ (ws : Ways). set cache i ws) freed.left ∙ ap (λ (n : ℕ). set cache n (emptied freed.was.line (get_or cache n [])))
          (sym same);
      room = room-set cache i rest below room;
    }

pub drops_shared : (chip : Chip) (line : ℕ) (cache new : Cache) → IsCache chip cache → without_shared chip line cache ≡ Some new
    → DropsShared chip line cache new
unfolding without_shared
drops_shared chip line cache new is dropped =
    option_map_some (λ (ways : Ways). set cache (set_number chip line) ways) (freed (get_or cache (set_number chip line) [])) new dropped
    (λ ways freed_ways same.
    subst (λ (c : Cache). DropsShared chip line cache c) same
    (drops_in chip line cache ways is
    (freed_is (get_or cache (set_number chip line) []) ways (is.apart (set_number chip line)) freed_ways)))

-- ---- what is written back from a full set without a shared line
lowest_stands : (ways : Ways) (held : Held) → has_empty ways ≡ false → freed ways ≡ None → lowest ways ≡ Some held
    → (is_shared held.state ≡ false) × (found held.line ways ≡ Some held)
lowest_stands [] held full unshared is = cc
lowest_stands (None ∷ ways) held full unshared is = cc
lowest_stands (Some first ∷ ways) held full unshared is = grind (arith, nat_tests)

-- the copy that leaves is owned, and stands in the cache
pub record PutsBack (chip : Chip) (cache : Cache) (held : Held) : Type 0 where
  pub owned : is_shared held.state ≡ false
  pub there : lookup chip cache held.line ≡ Some held

pub puts_back : (chip : Chip) (line : ℕ) (cache : Cache) (held : Held) → IsCache chip cache → has_room chip cache line ≡ false
    → without_shared chip line cache ≡ None
    → lowest_for chip line cache ≡ Some held → PutsBack chip cache held
unfolding lookup has_room without_shared lowest_for
puts_back chip line cache held is full unshared low =
    let i = set_number chip line in
    let stands = lowest_stands (get_or cache i []) held full
    (option_map_none (λ (ways : Ways). set cache i ways) (freed (get_or cache i [])) unshared) low in
    let same : set_number chip held.line ≡ i = is.placed i held.line (ap is_some stands.1) in
    record {
      owned = stands.0;
      there = ap (λ (n : ℕ). found held.line (get_or cache n [])) same ∙ stands.1;
    }
