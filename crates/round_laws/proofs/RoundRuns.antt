-- A round is a run: of the events that its turns record, and then of those that are left over.
use Rattle.std.proofs.Common.{◌≡◌, ◌≢◌, ℕ, zero, suc, ◌+◌, ◌*◌, ◌<◌, ◌≤◌, ◌-◌, true, false, List, [], ◌∷◌, ◌++◌, Some, length, length-append, get_or, refl, sym, ◌∙◌, ap, subst, arith, inl, inr, AllPairs}
use Rattle.std.specs.Prelude.{Contains, slice_index_or}
use Rattle.std.specs.List.{flat_map}
use Rattle.std.proofs.lemmas.Bool.{cases_lt}
use Rattle.std.proofs.lemmas.List.{length-replicate}
use Rattle.order_tracker.specs.Order.{upwards}
use Rattle.mesh_gen.specs.TileSet.{has_tile}
use Rattle.report_text.specs.declared.entry.Entry.{Entry}
use Rattle.report_text.specs.declared.event.Event.{Event}
use Rattle.report_text.specs.declared.event.Event.TheVariants.{Core}
use Rattle.report_text.specs.Journals.{recorded}
use Rattle.doc_text.specs.Doc.{Doc}
use Rattle.chip_model.specs.Chip.{Chip, chip_of}
use Rattle.chip_model.specs.Units.{Behaviour}
use Rattle.chip_model.specs.ChipState.{ChipState}
use Rattle.chip_model.specs.Runs.{run, IsReachable}
use Rattle.round_laws.specs.Turns.{TurnsLead, alone_events, cores_of, has_turn, left_over}
use Rattle.round_laws.specs.Rounds.{IsRound}
use Rattle.round_laws.proofs.Runs.{EachIsNoted, run_counted, run_reached, run_then}
use Rattle.round_laws.proofs.TurnLists.{turns_run}
use Rattle.round_laws.proofs.RoundCounts.{each_once, left_few, left_over_next, turns_few, without, without_more}

-- the events of a round
pub events_of_round : Behaviour → ChipState → List Entry → List Event
events_of_round b start turns = flat_map recorded turns ++ left_over b start turns (upwards 0 (length start.units))

pub round_run : (b : Behaviour) (chip : Chip) (turn had : ℕ) (start new : ChipState) (is : IsRound b chip turn had start new)
    → run b chip start (events_of_round b start is.turns) ≡ Some new
unfolding events_of_round
round_run b chip turn had start new is =
    run_then b chip (flat_map recorded is.turns) (left_over b start is.turns (upwards 0 (length start.units))) start is.last new
    (turns_run b chip turn start start is.turns is.last is.lead) is.left

upwards_long : (first count : ℕ) → length (upwards first count) ≡ count
upwards_long first zero = refl
upwards_long first (suc count) = ap suc (upwards_long (first + 1) count)

upwards_has : (first count t : ℕ) → first ≤ t → t < first + count → Contains (upwards first count) t
upwards_has first zero t from below = absurd (omega (arith, from, below))
upwards_has first (suc count) t from below = elim (cases_lt first t) [
  | inl beyond ↦ (
      let has = upwards_has (first + 1) count t (omega (arith, beyond)) (omega (arith, below)) in
      (suc has.0, omega (arith, has.1), has.2))
  | inr here ↦ (0, omega arith, omega (arith, from, here))
]

places : (entries : List Entry) (k : ℕ) (d e : Entry) → k < length entries → slice_index_or entries k e ≡ slice_index_or entries k d
places [] k d e below = absurd (omega (arith, below))
places (entry ∷ entries) zero d e below = refl
places (entry ∷ entries) (suc k) d e below = places entries k d e (omega (arith, below))

-- it has at most 17 events a tile
pub round_few : (b : Behaviour) (chip : Chip) (turn had : ℕ) (start new : ChipState) (is : IsRound b chip turn had start new)
    → length (events_of_round b start is.turns) ≤ 17 * length start.units
unfolding events_of_round
round_few b chip turn had start new is =
    let tiles = upwards 0 (length start.units) in
    let inside : (k : ℕ) (d : Entry) → k < length is.turns → Contains tiles (slice_index_or is.turns k d).by =
    (λ k d below. upwards_has 0 (length start.units) (slice_index_or is.turns k d).by (omega arith)
    (omega (arith, is.tiles (slice_index_or is.turns k d).by (is.had_turns (slice_index_or is.turns k d) (k, below, places is.turns k d (slice_index_or is.turns k d) below))))) in
    omega (
      arith,
      length-append (flat_map recorded is.turns) (left_over b start is.turns tiles),
      turns_few b chip turn start start is.turns is.last is.lead,
      left_few b start is.turns tiles,
      each_once is.turns tiles is.once inside,
      upwards_long 0 (length start.units),
    )

-- of a tile that has no turn: the events of the turns, those left over of the tiles before it, and its own
pub left_fits : (b : Behaviour) (chip : Chip) (turn : ℕ) (start s : ChipState) (turns : List Entry) (new : ChipState) → TurnsLead b chip turn start s turns new
    → AllPairs (λ entry later. entry.by ≢ later.by) turns → ((entry : Entry) → Contains turns entry → entry.by < length start.units)
    → (t : ℕ) → t < length start.units → has_turn turns t ≡ false
    → length (flat_map recorded turns) + length (left_over b start turns (upwards 0 t)) + cores_of b start t ≤ 17 * length start.units
left_fits b chip turn start s turns new lead once inside t below none =
    let tiles = upwards 0 (length start.units) in
    let all : (k : ℕ) (d : Entry) → k < length turns → Contains tiles (slice_index_or turns k d).by =
    (λ k d within. upwards_has 0 (length start.units) (slice_index_or turns k d).by (omega arith)
    (omega (arith, inside (slice_index_or turns k d) (k, within, places turns k d (slice_index_or turns k d) within)))) in
    let here : 0 + t ≡ t = omega arith in
    let own : length (left_over b start turns ((0 + t) ∷ [])) ≡ cores_of b start t = rw (here, none) (one_tile_left b start t) in
    let more : suc t + (length start.units - suc t) ≡ length start.units = omega (arith, below) in
    let fewer : without turns (upwards 0 (suc t)) ≤ without turns tiles =
    subst (λ (n : ℕ). without turns (upwards 0 (suc t)) ≤ without turns (upwards 0 n)) more (without_more turns 0 (suc t) (length start.units - suc t)) in
    omega (
      arith,
      own,
      fewer,
      ap length (left_over_next b start turns t),
      length-append (left_over b start turns (upwards 0 t)) (left_over b start turns ((0 + t) ∷ [])),
      turns_few b chip turn start s turns new lead,
      left_few b start turns (upwards 0 (suc t)),
      each_once turns tiles once all,
      upwards_long 0 (length start.units),
    )
  where
    one_tile_left : (b : Behaviour) (start : ChipState) (t : ℕ) → length (alone_events b start t ++ []) ≡ cores_of b start t
    one_tile_left b start t = omega (arith, length-append (alone_events b start t) [], length-replicate (cores_of b start t) (Core t))

pub round_reached : (b : Behaviour) (d : Doc) (turn had : ℕ) (start new : ChipState) → EachIsNoted b (chip_of d) → IsReachable b d start
    → IsRound b (chip_of d) turn had start new → IsReachable b d new
round_reached b d turn had start new noted reached is =
    run_reached b d (events_of_round b start is.turns) start new noted reached (round_run b (chip_of d) turn had start new is)

-- the journal grows, by no more than 17 events a tile
pub round_grows : (b : Behaviour) (chip : Chip) (turn had : ℕ) (start new : ChipState) → EachIsNoted b chip → IsRound b chip turn had start new
    → (length start.journal ≤ length new.journal) × (length new.journal ≤ length start.journal + 17 * length start.units)
round_grows b chip turn had start new noted is =
    let count = run_counted b chip (events_of_round b start is.turns) start new noted (round_run b chip turn had start new is) in
    (omega (arith, count), omega (arith, count, round_few b chip turn had start new is))
