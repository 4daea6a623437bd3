-- A cache as a map: the set of a line, and what is found in the cache after a change of it.
use Rattle.std.proofs.Common.{◌≡◌, ◌≢◌, ◌⊎◌, ℕ, zero, suc, ◌+◌, ◌<◌, ◌%◌, refl, sym, ◌∙◌, ap, subst, arith, inl, inr, Option, Some, None, [], ◌∷◌, ◌++◌, List, length, replicate, set, get_or, get_or-set_same, get_or-set_other, length-set}
use Rattle.std.specs.Prelude.{true, ◌||◌, IsSome, is_some, option_map}
use Rattle.std.proofs.lemmas.Bool.{cases_eq}
use Rattle.std.proofs.lemmas.List.{replicate_more, get_or_read_under}
use Rattle.chip_model.specs.declared.line_state.State.{State}
use Rattle.chip_model.specs.declared.victim.Victim.{Victim}
use Rattle.chip_model.specs.declared.victim.Victim.TheVariants.{Empty, DropS, Put}
use Rattle.chip_model.specs.Chip.{Chip, set_number}
use Rattle.chip_model.specs.Cache.{Held, Ways, Cache, found, has_empty, placed, emptied, freed, lowest, victim_of, lookup, has_room, fits, installed, without_line, without_shared, lowest_for, victim}
use Rattle.line_cache.specs.Ways as ways_of_set
use Rattle.line_cache.specs.Sets.{HasSets, Fits, copy_of, AreInPlace, IsVictim}
use Rattle.line_cache.proofs.Found.{found_line, found-replicate}

-- the set of a line has this number, and these are its ways
pub record AtSet (cache : Cache) (line i : ℕ) (ways : Ways) : Type 0 where
  pub there : i < length cache
  pub number : i ≡ line % length cache
  pub here : get_or cache i [] ≡ ways

set_is : (chip : Chip) (cache : Cache) (line i : ℕ) → HasSets chip cache → i ≡ line % length cache → set_number chip line ≡ i
unfolding set_number
set_is chip cache line i sets number = ap (λ (n : ℕ). line % n) (sym sets) ∙ sym number

ways_is : (chip : Chip) (cache : Cache) (line i : ℕ) (ways : Ways) → HasSets chip cache → AtSet cache line i ways → get_or cache (set_number chip line) [] ≡ ways
ways_is chip cache line i ways sets at = ap (λ (n : ℕ). get_or cache n []) (set_is chip cache line i sets at.number) ∙ at.here

pub lookup-at : (chip : Chip) (cache : Cache) (line i : ℕ) (ways : Ways) → HasSets chip cache → AtSet cache line i ways → lookup chip cache line ≡ found line ways
unfolding lookup
lookup-at chip cache line i ways sets at = ap (found line) (ways_is chip cache line i ways sets at)

pub has_room-at : (chip : Chip) (cache : Cache) (line i : ℕ) (ways : Ways) → HasSets chip cache → AtSet cache line i ways → has_room chip cache line ≡ has_empty ways
unfolding has_room
has_room-at chip cache line i ways sets at = ap has_empty (ways_is chip cache line i ways sets at)

pub victim-at : (chip : Chip) (cache : Cache) (line i : ℕ) (ways : Ways) → HasSets chip cache → AtSet cache line i ways → victim_of ways ≡ victim chip cache line
unfolding victim
victim-at chip cache line i ways sets at = ap victim_of (sym (ways_is chip cache line i ways sets at))

lowest_for-at : (chip : Chip) (cache : Cache) (line i : ℕ) (ways : Ways) → HasSets chip cache → AtSet cache line i ways → lowest_for chip line cache ≡ lowest ways
unfolding lowest_for
lowest_for-at chip cache line i ways sets at = ap lowest (ways_is chip cache line i ways sets at)

without_shared-at : (chip : Chip) (cache : Cache) (line i : ℕ) (ways : Ways) → HasSets chip cache → AtSet cache line i ways
    → without_shared chip line cache ≡ option_map (λ (rest : Ways). set cache i rest) (freed ways)
unfolding without_shared
without_shared-at chip cache line i ways sets at =
    ap (λ (n : ℕ). option_map (λ (rest : Ways). set cache n rest) (freed (get_or cache n []))) (set_is chip cache line i sets at.number)
    ∙ ap (λ (here : Ways). option_map (λ (rest : Ways). set cache i rest) (freed here)) at.here

pub fits-at : (cache : Cache) (line i : ℕ) (ways : Ways) → Fits cache line → AtSet cache line i ways → (is_some (found line ways) || has_empty ways) ≡ true
unfolding fits
fits-at cache line i ways fitting at =
    let looked : is_some (lookup fitting.0 cache line) ≡ is_some (found line ways) = ap is_some (lookup-at fitting.0 cache line i ways fitting.1 at) in
    let room = has_room-at fitting.0 cache line i ways fitting.1 at in
    let is = fitting.2 in
    grind (arith, looked, room, is)

-- a chip with so many sets
chip_with : ℕ → Chip
chip_with sets = record {
  grid = record { cols = 1; rows = 1 };
  window = 1;
  vcs = 1;
  data_vcs = 1;
  lines = 1;
  sets = sets;
  ways = 1;
  controllers = [];
}

sets_with : (cache : Cache) → HasSets (chip_with (length cache)) cache
unfolding chip_with
sets_with cache = refl

pub Fits-at : (cache : Cache) (line i : ℕ) (ways : Ways) → AtSet cache line i ways → (is_some (found line ways) || has_empty ways) ≡ true → Fits cache line
unfolding fits
Fits-at cache line i ways at fitting =
    let chip = chip_with (length cache) in
    let looked : is_some (lookup chip cache line) ≡ is_some (found line ways) = ap is_some (lookup-at chip cache line i ways (sets_with cache) at) in
    let room = has_room-at chip cache line i ways (sets_with cache) at in
    (chip, sets_with cache, grind (arith, looked, room, fitting))

pub Fits-held : (cache : Cache) (line i : ℕ) (ways : Ways) → AtSet cache line i ways → (held : Held) → found line ways ≡ Some held → Fits cache line
Fits-held cache line i ways at held there = Fits-at cache line i ways at (grind (arith, there))

pub Fits-room : (cache : Cache) (line i : ℕ) (ways : Ways) (leaves : Victim) → AtSet cache line i ways → ways_of_set.IsVictimOfWays ways leaves → leaves ≡ Empty → Fits cache line
Fits-room cache line i ways leaves at room empty =
    let here : has_empty ways ≡ true = subst (λ (v : Victim). ways_of_set.IsVictimOfWays ways v) empty room in
    Fits-at cache line i ways at (grind (arith, here))

pub installed-at : (chip : Chip) (cache : Cache) (i : ℕ) (ways : Ways) (new : Held) → HasSets chip cache → AtSet cache new.line i ways → set cache i (placed new ways) ≡ installed chip new cache
unfolding installed
installed-at chip cache i ways new sets at =
    ap (λ (here : Ways). set cache i (placed new here)) (sym at.here)
    ∙ ap (λ (n : ℕ). set cache n (placed new (get_or cache n []))) (sym (set_is chip cache new.line i sets at.number))

pub without_line-at : (chip : Chip) (cache : Cache) (line i : ℕ) (ways : Ways) → HasSets chip cache → AtSet cache line i ways → set cache i (emptied line ways) ≡ without_line chip line cache
unfolding without_line
without_line-at chip cache line i ways sets at =
    ap (λ (here : Ways). set cache i (emptied line here)) (sym at.here)
    ∙ ap (λ (n : ℕ). set cache n (emptied line (get_or cache n []))) (sym (set_is chip cache line i sets at.number))

-- ---- a set that was changed
pub lookup-changed : (chip : Chip) (cache : Cache) (line i : ℕ) (ways new : Ways) → HasSets chip cache → AtSet cache line i ways → lookup chip (set cache i new) line ≡ found line new
unfolding lookup
lookup-changed chip cache line i ways new sets at =
    ap (λ (n : ℕ). found line (get_or (set cache i new) n [])) (set_is chip cache line i sets at.number)
    ∙ ap (found line) (get_or-set_same cache i new [] at.there)

has_room-changed : (chip : Chip) (cache : Cache) (line i : ℕ) (ways new : Ways) → HasSets chip cache → AtSet cache line i ways → has_room chip (set cache i new) line ≡ has_empty new
unfolding has_room
has_room-changed chip cache line i ways new sets at =
    ap (λ (n : ℕ). has_empty (get_or (set cache i new) n [])) (set_is chip cache line i sets at.number)
    ∙ ap has_empty (get_or-set_same cache i new [] at.there)

fits_by : (cache : Cache) (line i : ℕ) (ways new : Ways) (other n : ℕ) → AtSet cache line i ways
    → ((is_some (found other ways) || has_empty ways) ≡ true → (is_some (found other new) || has_empty new) ≡ true) → (n ≡ i) ⊎ (n ≢ i)
    → (is_some (found other (get_or cache n [])) || has_empty (get_or cache n [])) ≡ true
    → (is_some (found other (get_or (set cache i new) n [])) || has_empty (get_or (set cache i new) n [])) ≡ true
fits_by cache line i ways new other n at kept (inl same) fit =
    let before = subst (λ (ws : Ways). (is_some (found other ws) || has_empty ws) ≡ true) (ap (λ (k : ℕ). get_or cache k []) same ∙ at.here) fit in
    subst (λ (ws : Ways). (is_some (found other ws) || has_empty ws) ≡ true)
    (sym (ap (λ (k : ℕ). get_or (set cache i new) k []) same ∙ get_or-set_same cache i new [] at.there)) (kept before)
fits_by cache line i ways new other n at kept (inr apart) fit =
    subst (λ (ws : Ways). (is_some (found other ws) || has_empty ws) ≡ true) (sym (get_or-set_other cache i n new [] apart)) fit

pub fits-kept : (chip : Chip) (cache : Cache) (line i : ℕ) (ways new : Ways) (other : ℕ) → AtSet cache line i ways
    → ((is_some (found other ways) || has_empty ways) ≡ true → (is_some (found other new) || has_empty new) ≡ true)
    → fits chip cache other ≡ true → fits chip (set cache i new) other ≡ true
unfolding fits lookup has_room
fits-kept chip cache line i ways new other at kept fit =
    fits_by cache line i ways new other (set_number chip other) at kept (cases_eq (set_number chip other) i) fit

lookup_by : (cache : Cache) (line i : ℕ) (ways new : Ways) (other n : ℕ) → AtSet cache line i ways → found other new ≡ found other ways → (n ≡ i) ⊎ (n ≢ i)
    → found other (get_or (set cache i new) n []) ≡ found other (get_or cache n [])
lookup_by cache line i ways new other n at kept (inl same) =
    ap (λ (k : ℕ). found other (get_or (set cache i new) k [])) same
    ∙ ap (found other) (get_or-set_same cache i new [] at.there)
    ∙ kept
    ∙ ap (found other) (sym at.here)
    ∙ ap (λ (k : ℕ). found other (get_or cache k [])) (sym same)
lookup_by cache line i ways new other n at kept (inr apart) = ap (found other) (get_or-set_other cache i n new [] apart)

pub lookup-kept : (chip : Chip) (cache : Cache) (line i : ℕ) (ways new : Ways) (other : ℕ) → AtSet cache line i ways → found other new ≡ found other ways
    → lookup chip (set cache i new) other ≡ lookup chip cache other
unfolding lookup
lookup-kept chip cache line i ways new other at kept =
    lookup_by cache line i ways new other (set_number chip other) at kept (cases_eq (set_number chip other) i)

-- ---- a line stands in its own set alone
in_place_by : (cache : Cache) (line i : ℕ) (ways new : Ways) → AtSet cache line i ways → AreInPlace cache → ((m : ℕ) → m ≢ line → found m new ≡ found m ways)
    → (k m : ℕ) → IsSome (found m (get_or (set cache i new) k [])) → (k ≡ i) ⊎ (k ≢ i) → (m ≡ line) ⊎ (m ≢ line) → m % length cache ≡ k
in_place_by cache line i ways new at placed kept k m some (inr apart) which =
    placed k m (ap (λ (here : Ways). is_some (found m here)) (sym (get_or-set_other cache i k new [] apart)) ∙ some)
in_place_by cache line i ways new at placed kept k m some (inl same) (inl is) =
    ap (λ (l : ℕ). l % length cache) is ∙ sym at.number ∙ sym same
in_place_by cache line i ways new at placed kept k m some (inl same) (inr other) =
    let here : IsSome (found m new) = ap (λ (ws : Ways). is_some (found m ws)) (sym (get_or-set_same cache i new [] at.there)) ∙ ap (λ (n : ℕ). is_some (found m (get_or (set cache i new) n []))) (sym same) ∙ some in
    placed i m (ap (λ (ws : Ways). is_some (found m ws)) at.here ∙ ap is_some (sym (kept m other)) ∙ here) ∙ sym same

pub AreInPlace-changed : (cache : Cache) (line i : ℕ) (ways new : Ways) → AtSet cache line i ways → AreInPlace cache → ((m : ℕ) → m ≢ line → found m new ≡ found m ways) → AreInPlace (set cache i new)
AreInPlace-changed cache line i ways new at placed kept = λ k m some.
    ap (λ (n : ℕ). m % n) (length-set cache i new) ∙ in_place_by cache line i ways new at placed kept k m some (cases_eq k i) (cases_eq m line)

-- no line stands in an empty cache
nothing_there : (sets ways k m : ℕ) → found m (get_or (replicate sets (replicate ways None)) k []) ≡ None
nothing_there zero ways k m = refl
nothing_there (suc sets) ways zero m = found-replicate m ways
nothing_there (suc sets) ways (suc k) m = nothing_there sets ways k m

not_some : (o : Option Held) → o ≡ None → IsSome o → ⊥
not_some None none some = cc
not_some (Some held) none some = cc

pub AreInPlace-empty : (sets ways : ℕ) → AreInPlace (replicate sets (replicate ways None))
AreInPlace-empty sets ways = λ k m some. absurd (not_some (found m (get_or (replicate sets (replicate ways None)) k [])) (nothing_there sets ways k m) some)

-- ---- a cache that is opened
pub opened_more : (count ways : ℕ) (sets more : Cache) (next : Ways) → sets ≡ replicate count (replicate ways None) → more ≡ sets ++ next ∷ [] → next ≡ replicate ways None
    → more ≡ replicate (count + 1) (replicate ways None)
opened_more count ways sets more next is added fresh =
    added ∙ ap (λ (cache : Cache). cache ++ next ∷ []) is ∙ ap (λ (last : Ways). replicate count (replicate ways None) ++ last ∷ []) fresh ∙ replicate_more count (replicate ways None)

pub opened_sets : (count ways : ℕ) (sets : Cache) → sets ≡ replicate count (replicate ways None) → 0 < count → (0 < length sets) × AreInPlace sets
opened_sets zero ways sets is some = absurd (omega arith)
opened_sets (suc count) ways sets is some =
    subst (λ (cache : Cache). (0 < length cache) × AreInPlace cache) (sym is) (omega arith, AreInPlace-empty (suc count) ways)

pub opened_whole : (count all ways : ℕ) (sets : Cache) → sets ≡ replicate count (replicate ways None) → count ≡ all → sets ≡ replicate all (replicate ways None)
opened_whole count all ways sets is same = is ∙ ap (λ (n : ℕ). replicate n (replicate ways None)) same

-- ---- the set that a call reached, in the words of what the call knows
pub at_read : (old cache : Cache) (line i : ℕ) (ways : Ways) → cache ≡ old → i ≡ line % length old → i < length old → ways ≡ get_or cache i ways → AtSet old line i ways
at_read old cache line i ways same number there read = record {
  there = there;
  number = number;
  here = ap (λ (c : Cache). get_or c i []) (sym same) ∙ sym (get_or_read_under cache i (length cache) ways [] read (rw same there) refl);
}

pub installs : (chip : Chip) (old cache : Cache) (i : ℕ) (ways new : Ways) (held : Held) → cache ≡ old → AtSet old held.line i ways → new ≡ placed held ways → HasSets chip old
    → set cache i new ≡ installed chip held old
installs chip old cache i ways new held same at changed sets =
    ap (λ (c : Cache). set c i new) same ∙ ap (λ (ws : Ways). set old i ws) changed ∙ installed-at chip old i ways held sets at

pub drops : (chip : Chip) (old cache : Cache) (line i : ℕ) (ways new : Ways) → cache ≡ old → AtSet old line i ways → new ≡ emptied line ways → HasSets chip old
    → set cache i new ≡ without_line chip line old
drops chip old cache line i ways new same at changed sets =
    ap (λ (c : Cache). set c i new) same ∙ ap (λ (ws : Ways). set old i ws) changed ∙ without_line-at chip old line i ways sets at

pub looks : (chip : Chip) (old cache : Cache) (line i : ℕ) (ways new : Ways) → cache ≡ old → AtSet old line i ways → HasSets chip old → lookup chip (set cache i new) line ≡ found line new
looks chip old cache line i ways new same at sets =
    ap (λ (c : Cache). lookup chip (set c i new) line) same ∙ lookup-changed chip old line i ways new sets at

pub keeps : (chip : Chip) (old cache : Cache) (line i : ℕ) (ways new : Ways) (other : ℕ) → cache ≡ old → AtSet old line i ways → found other new ≡ found other ways
    → lookup chip (set cache i new) other ≡ lookup chip old other
keeps chip old cache line i ways new other same at kept =
    ap (λ (c : Cache). lookup chip (set c i new) other) same ∙ lookup-kept chip old line i ways new other at kept

pub stays : (old cache : Cache) (line i : ℕ) (ways new : Ways) → cache ≡ old → AtSet old line i ways → (0 < length cache) × AreInPlace cache → ((m : ℕ) → m ≢ line → found m new ≡ found m ways)
    → (0 < length (set cache i new)) × AreInPlace (set cache i new)
stays old cache line i ways new same at ok kept =
    let here : AtSet cache line i ways = subst (λ (c : Cache). AtSet c line i ways) (sym same) at in
    (omega (arith, ok.0, length-set cache i new), AreInPlace-changed cache line i ways new here ok.1 kept)

pub fits_still : (chip : Chip) (old cache : Cache) (line i : ℕ) (ways new : Ways) (other : ℕ) → cache ≡ old → AtSet old line i ways
    → ((is_some (found other ways) || has_empty ways) ≡ true → (is_some (found other new) || has_empty new) ≡ true)
    → fits chip old other ≡ true → fits chip (set cache i new) other ≡ true
fits_still chip old cache line i ways new other same at kept fit =
    subst (λ (c : Cache). fits chip (set c i new) other ≡ true) (sym same) (fits-kept chip old line i ways new other at kept fit)

-- ---- victims
-- a line that stands in a set belongs to it
at_same : (cache : Cache) (line i leaving : ℕ) (ways : Ways) (held : Held) → AtSet cache line i ways → AreInPlace cache → found leaving ways ≡ Some held → AtSet cache leaving i ways
at_same cache line i leaving ways held at placed stands = record {
  there = at.there;
  number = sym (placed i leaving (ap (λ (here : Ways). is_some (found leaving here)) at.here ∙ ap is_some stands));
  here = at.here;
}

room_without : (chip : Chip) (cache : Cache) (line leaving i : ℕ) (ways : Ways) → HasSets chip cache → AtSet cache line i ways → AtSet cache leaving i ways → has_empty (emptied leaving ways) ≡ true
    → has_room chip (without_line chip leaving cache) line ≡ true
room_without chip cache line leaving i ways sets at own room =
    subst (λ (after : Cache). has_room chip after line ≡ true) (without_line-at chip cache leaving i ways sets own)
    (has_room-changed chip cache line i ways (emptied leaving ways) sets at ∙ room)

pub IsVictim-at : (chip : Chip) (cache : Cache) (line i : ℕ) (ways : Ways) (leaves : Victim) → HasSets chip cache → AtSet cache line i ways → AreInPlace cache
    → ways_of_set.IsVictimOfWays ways leaves → IsVictim chip cache line leaves
IsVictim-at chip cache line i ways Empty sets at placed room = has_room-at chip cache line i ways sets at ∙ room
IsVictim-at chip cache line i ways (DropS leaving) sets at placed room =
    let own = at_same cache line i leaving ways room.held at placed room.there in
    record {
      full = has_room-at chip cache line i ways sets at ∙ room.full;
      dropped = without_shared-at chip cache line i ways sets at
          ∙ ap (option_map (λ (rest : Ways). set cache i rest)) room.dropped
          ∙ ap (λ (after : Cache). Some after) (without_line-at chip cache leaving i ways sets own);
      room = room_without chip cache line leaving i ways sets at own room.room;
      held = room.held;
      there = lookup-at chip cache leaving i ways sets own ∙ room.there;
      shared = room.shared;
    }
IsVictim-at chip cache line i ways (Put leaving) sets at placed room =
    let own = at_same cache line i leaving ways room.held at placed room.there in
    record {
      full = has_room-at chip cache line i ways sets at ∙ room.full;
      unshared = without_shared-at chip cache line i ways sets at ∙ ap (option_map (λ (rest : Ways). set cache i rest)) room.unshared;
      room = room_without chip cache line leaving i ways sets at own room.room;
      held = room.held;
      lowest = lowest_for-at chip cache line i ways sets at ∙ room.lowest;
      same = room.same;
      there = lookup-at chip cache leaving i ways sets own ∙ room.there;
      owned = room.owned;
    }

-- ---- the copy that a look-up answers
pub copy_of-found : (line : ℕ) (ways : Ways) (held : Held) (copy : State × List ℕ) → found line ways ≡ Some held → copy.0 ≡ held.state → copy.1 ≡ held.words → held ≡ copy_of line copy
copy_of-found line ways held copy is state words = grind (arith, found_line line ways held is, state, words)
