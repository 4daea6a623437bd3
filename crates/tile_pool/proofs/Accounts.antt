-- What the seats account for once all are back: the turns are those of a round.
use Rattle.std.proofs.Common.{◌≡◌, ◌≢◌, ◌⊎◌, ℕ, zero, suc, ◌<◌, ◌==◌, ◌||◌, Bool, true, false, cond, List, [], ◌∷◌, ◌++◌, Some, length, map, refl, sym, ◌∙◌, ap, subst, arith, inl, inr, All, AllPairs, eq-eqb}
use Rattle.std.specs.Prelude.{Contains, filter, option_map, slice_get, slice_index_or}
use Rattle.std.specs.List.{AllByRecursion}
use Rattle.std.proofs.lemmas.Bool.{cases_lt}
use Rattle.std.proofs.lemmas.List.{append_assoc, length-map}
use Rattle.std.proofs.lemmas.Option.{same_Some, slice_get-map, slice_get_within, get_or_from_slice_get}
use Rattle.atomic_table.specs.Seated.{TableId}
use Rattle.turn_table.specs.declared.note.Note.{Note}
use Rattle.turn_table.specs.Meeting.{AccountFor, notes_of}
use Rattle.turn_table.specs.States.{SeatState}
use Rattle.mesh_gen.specs.TileSet.{has_tile}
use Rattle.report_text.specs.declared.entry.Entry.{Entry}
use Rattle.report_text.specs.Entry.{packed}
use Rattle.report_text.specs.Journals.{tile_named}
use Rattle.report_text.proofs.Packing.{tile_named-packed}
use Rattle.chip_model.specs.Units.{UnitState, Behaviour}
use Rattle.chip_model.specs.ChipState.{ChipState}
use Rattle.chip_model.specs.Runs.{run}
use Rattle.fabric_core.specs.Fabric.{FabricState}
use Rattle.machine_core.specs.Stations.{StationState, chip_state}
use Rattle.round_laws.specs.Turns.{FindsNothing, TurnsLead, has_turn}
use Rattle.round_laws.specs.Rounds.{IsRound}
use Rattle.round_laws.proofs.RoundCounts.{not_among}
use Rattle.round_laws.proofs.TurnLists.{turns_run, turns_split}
use Rattle.round_laws.proofs.TurnFrames.{turns_frame}
use Rattle.tile_pool.specs.Start.{RoundStart, start_state}
use Rattle.tile_pool.specs.Stands.{HasMade, IsOfTile}
use Rattle.tile_pool.specs.Workers.{HadTurn, HasRunAlone, IsThrough}
use Rattle.tile_pool.specs.Seating.{AreSettledTo, AreThrough, IsAfterTurn, IsLeftOver}
use Rattle.tile_pool.proofs.Words.{begins}
use Rattle.tile_pool.proofs.Turning.{ChipIsKnown, unit_kept}
use Rattle.tile_pool.proofs.Settling.{there_at}

-- ---- entries and the words that name tiles

at_place : {X : Type 0} (xs : List X) (k : ℕ) (d : X) → k < length xs → slice_get xs k ≡ Some (slice_index_or xs k d)
at_place [] k d below = absurd (omega (arith, below))
at_place (x ∷ xs) zero d below = refl
at_place (x ∷ xs) (suc k) d below = at_place xs k d (omega (arith, below))

pub all_at : {X : Type 0} (P : X → Type 0) (xs : List X) (k : ℕ) (d : X) → AllByRecursion P xs → k < length xs → P (slice_index_or xs k d)
all_at P [] k d all below = absurd (omega (arith, below))
all_at P (x ∷ xs) zero d all below = all.0
all_at P (x ∷ xs) (suc k) d all below = all_at P xs k d all.1 (omega (arith, below))

map_at : (xs : List Entry) (k : ℕ) (d : Entry) (e : ℕ) → k < length xs → slice_index_or (map packed xs) k e ≡ packed (slice_index_or xs k d)
map_at [] k d e below = absurd (omega (arith, below))
map_at (x ∷ xs) zero d e below = refl
map_at (x ∷ xs) (suc k) d e below = map_at xs k d e (omega (arith, below))

-- the words that name a tile
abbrev naming : ℕ → List ℕ → List ℕ
naming t words = filter (λ word. tile_named word == t) words

none_named : (r : RoundStart) (t : ℕ) (made : List Entry) → AllByRecursion (IsOfTile r) made → naming t (map packed made) ≡ [] → has_turn made t ≡ false
none_named r t [] all none = refl
none_named r t (entry ∷ made) all none =
    let named : (tile_named (packed entry) == t) ≡ (entry.by == t) = ap (λ (n : ℕ). n == t) (tile_named-packed entry all.0.1) in
    let parts = no_first (tile_named (packed entry) == t) (packed entry) (naming t (map packed made)) none in
    rw (sym named ∙ parts.0, none_named r t made all.1 parts.1) refl
  where
    no_first : (b : Bool) (word : ℕ) (rest : List ℕ) → cond b (word ∷ rest) rest ≡ [] → (b ≡ false) × (rest ≡ [])
    no_first true word rest is = absurd (omega (arith, ap length is))
    no_first false word rest is = (refl, is)

some_named : (r : RoundStart) (t : ℕ) (made : List Entry) (word : ℕ) → AllByRecursion (IsOfTile r) made → naming t (map packed made) ≡ word ∷ []
    → has_turn made t ≡ true
some_named r t [] word all some = absurd (omega (arith, ap length some))
some_named r t (entry ∷ made) word all some =
    let named : (tile_named (packed entry) == t) ≡ (entry.by == t) = ap (λ (n : ℕ). n == t) (tile_named-packed entry all.0.1) in
    by (tile_named (packed entry) == t) (entry.by == t) (has_turn made t) named some (λ rest. some_named r t made word all.1 rest)
  where
    by : (named is has : Bool) → named ≡ is → cond named (packed entry ∷ naming t (map packed made)) (naming t (map packed made)) ≡ word ∷ []
        → (naming t (map packed made) ≡ word ∷ [] → has ≡ true)
        → (is || has) ≡ true
    by true true has same is rest = refl
    by true false has same is rest = cc
    by false true has same is rest = refl
    by false false has same is rest = rest is

-- an entry is that of a turn of its tile
contained_has : (made : List Entry) (entry : Entry) (k : ℕ) → k < length made → slice_index_or made k entry ≡ entry → has_turn made entry.by ≡ true
contained_has [] entry k below is = absurd (omega (arith, below))
contained_has (first ∷ made) entry zero below is = rw (eq-eqb first.by entry.by (ap (λ (e : Entry). e.by) is)) refl
contained_has (first ∷ made) entry (suc k) below is = or_true (first.by == entry.by) (has_turn made entry.by) (contained_has made entry k (omega
    (arith, below)) is)
  where
    or_true : (a b : Bool) → b ≡ true → (a || b) ≡ true
    or_true true b is = refl
    or_true false b is = is

-- no tile has two entries
pub once : (r : RoundStart) (made : List Entry) → AllByRecursion (IsOfTile r) made → AllPairs (λ entry later. tile_named entry ≢ tile_named later) (map packed made)
    → AllPairs (λ entry later. entry.by ≢ later.by) made
once r made all apart i j d before below same =
    let first = all_at (IsOfTile r) made i d all (omega (arith, before, below)) in
    let second = all_at (IsOfTile r) made j d all below in
    apart i j 0 before (omega (arith, below, length-map made packed))
    (ap tile_named (map_at made i d 0 (omega (arith, before, below)))
    ∙ tile_named-packed (slice_index_or made i d) first.1
    ∙ same
    ∙ sym (tile_named-packed (slice_index_or made j d) second.1)
    ∙ ap tile_named (sym (map_at made j d 0 below)))

-- after a tile's entry none is of that tile
none_later : (earlier later : List Entry) (entry : Entry) → AllPairs (λ entry later. entry.by ≢ later.by) (earlier ++ entry ∷ later) → has_turn later entry.by ≡ false
none_later [] later entry apart = not_among later entry.by (λ k d below same. apart 0 (suc k) d (omega arith) (omega (arith, below)) (sym same))
none_later (first ∷ earlier) later entry apart =
    none_later earlier later entry (λ i j d before below. apart (suc i) (suc j) d (omega (arith, before)) (omega (arith, below)))

-- ---- what all seats account for

module _ (b : Behaviour) (r : RoundStart) (known : ChipIsKnown b r.fabric.chip) (table : TableId) (had : ℕ) (stations : List StationState) (seats : List SeatState)
    (through : AreThrough b r table (length r.units) had stations seats) (made : List Entry) (fabric : FabricState) (units : List UnitState)
    (is : HasMade b r made fabric units) (account : AccountFor tile_named (notes_of seats) (map packed made)) where
  all_apart : AllPairs (λ entry later. entry.by ≢ later.by) made
  all_apart = once r made is.valid account.named_once

  note_at : (t : ℕ) (seat : SeatState) → slice_get seats t ≡ Some seat → slice_get (notes_of seats) t ≡ Some seat.note
  note_at t seat at = slice_get-map (λ (s : SeatState). s.note) seats t ∙ ap (option_map (λ (s : SeatState). s.note)) at

  of_note : (P : Note → Type 0) → All P (notes_of seats) → (t : ℕ) (seat : SeatState) → slice_get seats t ≡ Some seat → P seat.note
  of_note P all t seat at =
      subst P (get_or_from_slice_get (notes_of seats) t seat.note seat.note (note_at t seat at))
      (all t seat.note (slice_get_within (notes_of seats) t seat.note (note_at t seat at)))

  -- the words that name a tile are those of its seat's own list
  own_words : (t : ℕ) (station : StationState) (seat : SeatState) → slice_get stations t ≡ Some station → slice_get seats t ≡ Some seat
      → naming t (map packed made) ≡ map (λ pair. pair.1) seat.note.own
  own_words t station seat there at =
      let tile = through.each t station seat there at in
      let number : seat.note.number ≡ t = tile.1.seated.number ∙ tile.0 in
      ap (λ (n : ℕ). naming n (map packed made)) (sym number)
      ∙ of_note (λ note. filter (λ entry. tile_named entry == note.number) (map packed made) ≡ map (λ pair. pair.1) note.own) account.own t seat at

  no_turn : (t : ℕ) (station : StationState) (seat : SeatState) → slice_get stations t ≡ Some station → slice_get seats t ≡ Some seat → seat.note.own ≡ []
      → has_turn made t ≡ false
  no_turn t station seat there at none =
      none_named r t made is.valid (own_words t station seat there at ∙ ap (λ (own : List (ℕ × ℕ)). map (λ pair. pair.1) own) none)

  -- a tile that had its turn
  after_turn : (t : ℕ) (station : StationState) (seat : SeatState) → slice_get stations t ≡ Some station → slice_get seats t ≡ Some seat → station.tile ≡ t
      → HadTurn b r station seat.note → IsAfterTurn made units station
  after_turn t station seat there at tile turn =
      let has : has_turn made t ≡ true = some_named r t made (packed turn.entry) is.valid
      (own_words t station seat there at ∙ ap (λ (own : List (ℕ × ℕ)). map (λ pair. pair.1) own) turn.own) in
      let prefix = of_note (λ note. (rest : List ℕ) × (note.trail ++ rest ≡ map packed made)) account.trails t seat at in
      let trail : map packed (turn.earlier ++ turn.entry ∷ []) ++ prefix.0 ≡ map packed made =
      ap (λ (words : List ℕ). words ++ prefix.0) (sym turn.trail) ∙ prefix.1 in
      let rest = begins r (turn.earlier ++ turn.entry ∷ []) made prefix.0 turn.valid is.valid trail in
      let later = rest.0 in
      let whole : turn.earlier ++ turn.entry ∷ later ≡ made = sym (append_assoc turn.earlier (turn.entry ∷ []) later) ∙ rest.1 in
      let split = turns_split b r.fabric.chip r.turn (start_state r) (start_state r) (turn.earlier ++ turn.entry ∷ []) later (chip_state fabric units)
      (subst (λ (es : List Entry). TurnsLead b r.fabric.chip r.turn (start_state r) (start_state r) es (chip_state fabric units)) (sym rest.1) is.lead) in
      let same : split.0 ≡ turn.s = same_Some split.0 turn.s
      (sym (turns_run b r.fabric.chip r.turn (start_state r) (start_state r) (turn.earlier ++ turn.entry ∷ []) split.0 split.1)
      ∙ turns_run b r.fabric.chip r.turn (start_state r) (start_state r) (turn.earlier ++ turn.entry ∷ []) turn.s turn.lead) in
      let none : has_turn later station.tile ≡ false =
      ap (has_turn later) (sym turn.by) ∙ none_later turn.earlier later turn.entry (subst (λ (es : List Entry). AllPairs (λ entry later. entry.by ≢ later.by) es)
      (sym whole) all_apart) in
      record {
        has = ap (has_turn made) tile ∙ has;
        settled = turn.settled;
        unit =
            turns_frame b r.fabric.chip known.events known.slots r.turn (start_state r) split.0 later (chip_state fabric units) station.tile split.2 none
            ∙ ap (λ (s : ChipState). slice_get s.units station.tile) same
            ∙ turn.unit;
      }

  -- a tile that had none
  without_turn : (t : ℕ) (station : StationState) (seat : SeatState) → slice_get stations t ≡ Some station → slice_get seats t ≡ Some seat → station.tile ≡ t
      → HasRunAlone b r station → seat.note.own ≡ [] → IsLeftOver b r made units station
  without_turn t station seat there at tile alone own =
      let none : has_turn made station.tile ≡ false = ap (has_turn made) tile ∙ no_turn t station seat there at own in
      record { has = none; alone = alone; unit = unit_kept b r known made fabric units station.tile is none }

  each_tile : (t : ℕ) (station : StationState) → slice_get stations t ≡ Some station → IsAfterTurn made units station ⊎ IsLeftOver b r made units station
  each_tile t station there =
      let seat = there_at seats t (omega (arith, slice_get_within stations t station there, through.stations_count, through.seats_count)) in
      let tile = through.each t station seat.0 there seat.1 in
      by t station seat.0 there seat.1 tile.0 (has_tile had t) tile.1
    where
      by : (t : ℕ) (station : StationState) (seat : SeatState) → slice_get stations t ≡ Some station → slice_get seats t ≡ Some seat → station.tile ≡ t
          → (h : Bool) → IsThrough b r table station seat h → IsAfterTurn made units station ⊎ IsLeftOver b r made units station
      by t station seat there at tile true ends = elim ends.ended.1 [
        | inl turn ↦ inl (after_turn t station seat there at tile turn)
        | inr nothing ↦ inr (without_turn t station seat there at tile nothing.alone nothing.own)
      ]
      by t station seat there at tile false ends = inr (without_turn t station seat there at tile ends.ended.1.alone ends.ended.1.own)

  -- before any of the core events that are left over goes into the journal
  pub to_settle : AreSettledTo b r made (chip_state fabric units) 0 fabric stations
  unfolding run
  to_settle = record {
    units = units;
    tiles = is.tiles;
    count = through.stations_count;
    chip = is.chip;
    room = is.room;
    lead = refl;
    places = λ t station there.
        let seat = there_at seats t (omega (arith, slice_get_within stations t station there, through.stations_count, through.seats_count)) in
        (through.each t station seat.0 there seat.1).0;
    done = λ t station before there. absurd (omega (arith, before));
    to_do = λ t station from there. each_tile t station there;
  }

  -- ---- the round

  record Tile (t : ℕ) : Type 0 where
    station : StationState
    seat : SeatState
    there : slice_get stations t ≡ Some station
    at : slice_get seats t ≡ Some seat
    tile : station.tile ≡ t
    ends : IsThrough b r table station seat (has_tile had t)

  tile_of : (t : ℕ) → t < length r.units → Tile t
  tile_of t below =
      let station = there_at stations t (omega (arith, below, through.stations_count)) in
      let seat = there_at seats t (omega (arith, below, through.seats_count)) in
      let each = through.each t station.0 seat.0 station.1 seat.1 in
      record { station = station.0; seat = seat.0; there = station.1; at = seat.1; tile = each.0; ends = each.1 }

  -- whoever has an entry had the turn
  takers : (entry : Entry) → Contains made entry → has_tile had entry.by ≡ true
  takers entry has =
      let of_tile = subst (IsOfTile r) has.2 (all_at (IsOfTile r) made has.0 entry is.valid has.1) in
      let tile = tile_of entry.by of_tile.0 in
      by (has_tile had entry.by) tile.station tile.seat tile.there tile.at tile.ends (contained_has made entry has.0 has.1 has.2)
    where
      by : (h : Bool) (station : StationState) (seat : SeatState) → slice_get stations entry.by ≡ Some station → slice_get seats entry.by ≡ Some seat
          → IsThrough b r table station seat h → has_turn made entry.by ≡ true → h ≡ true
      by true station seat there at ends turn = refl
      by false station seat there at ends turn =
          let none : has_turn made entry.by ≡ false = no_turn entry.by station seat there at ends.ended.1.own in cc

  -- only tiles had it
  only_tiles : (t : ℕ) → has_tile had t ≡ true → t < length r.units
  only_tiles t has = elim (cases_lt t (length r.units)) [
    | inl inside ↦ inside
    | inr beyond ↦ absurd (let none : has_tile had t ≡ false = through.none_beyond t beyond in cc)
  ]

  -- whoever had it and has no entry found nothing possible
  idle : (t : ℕ) → has_tile had t ≡ true → has_turn made t ≡ false → FindsNothing b r.fabric.chip r.turn (start_state r) made t
  idle t has none =
      let tile = tile_of t (only_tiles t has) in
      by tile.station tile.seat tile.there tile.at tile.tile (subst (IsThrough b r table tile.station tile.seat) has tile.ends)
    where
      by : (station : StationState) (seat : SeatState) → slice_get stations t ≡ Some station → slice_get seats t ≡ Some seat → station.tile ≡ t
          → IsThrough b r table station seat true → FindsNothing b r.fabric.chip r.turn (start_state r) made t
      by station seat there at tile ends = elim ends.ended.1 [
        | inl turn ↦ absurd (let some : has_turn made station.tile ≡ true = (after_turn t station seat there at tile turn).has in
            let not_some : has_turn made station.tile ≡ false = ap (has_turn made) tile ∙ none in cc)
        | inr nothing ↦ (
            let prefix = of_note (λ note. (rest : List ℕ) × (note.trail ++ rest ≡ map packed made)) account.trails t seat at in
            let rest = begins r nothing.made made prefix.0 nothing.valid is.valid (ap (λ (words : List ℕ). words ++ prefix.0) (sym nothing.trail) ∙ prefix.1) in
            subst (FindsNothing b r.fabric.chip r.turn (start_state r) made) tile
            (record {
              earlier = nothing.made;
              later = rest.0;
              among = rest.1;
              s = nothing.s;
              lead = nothing.lead;
              ready = nothing.ready;
              alone = nothing.ran;
              none = nothing.none;
            }))
      ]

  -- some tile had it: one that was refused saw the turn of another
  some_had : 0 < length r.units → (t : ℕ) × (has_tile had t ≡ true)
  some_had some =
      let first = tile_of 0 some in
      by_first first.station first.seat first.at (has_tile had 0) refl first.ends
    where
      served_one : (k : ℕ) (note : Note) → slice_get (notes_of seats) k ≡ Some note → note.served ≡ true → (t : ℕ) × (has_tile had t ≡ true)
      served_one k note here served =
          let within = slice_get_within (notes_of seats) k note here in
          let tile = tile_of k (omega (arith, within, through.seats_count, length-map seats (λ (s : SeatState). s.note))) in
          let same : tile.seat.note ≡ note = same_Some tile.seat.note note (sym (note_at k tile.seat tile.at) ∙ here) in
          (k, was_served (has_tile had k) tile.station tile.seat tile.ends (ap (λ (n : Note). n.served) same ∙ served))
        where
          was_served : (h : Bool) (station : StationState) (seat : SeatState) → IsThrough b r table station seat h → seat.note.served ≡ true → h ≡ true
          was_served true station seat ends served = refl
          was_served false station seat ends served = let not_served : seat.note.served ≡ false = ends.ended.0 in cc

      by_first : (station : StationState) (seat : SeatState) → slice_get seats 0 ≡ Some seat → (h : Bool) → has_tile had 0 ≡ h → IsThrough b r table station seat h
          → (t : ℕ) × (has_tile had t ≡ true)
      by_first station seat at true is_had ends = (0, is_had)
      by_first station seat at false is_had ends =
          let here = note_at 0 seat at in
          let one = account.served (0, seat.note, slice_get_within (notes_of seats) 0 seat.note here, get_or_from_slice_get (notes_of seats) 0 seat.note seat.note here, ends.ended.1.refused) in
          served_one one.0 one.1 (at_place (notes_of seats) one.0 one.1 one.2 ∙ ap Some one.3) one.4

  -- the turns, and what is left over, are a round
  pub is_round : 0 < length r.units → (new_fabric : FabricState) (settled : List StationState)
      → (to : AreSettledTo b r made (chip_state fabric units) (length r.units) new_fabric settled)
      → IsRound b r.fabric.chip r.turn had (start_state r) (chip_state new_fabric to.units)
  is_round some new_fabric settled to = record {
    turns = made;
    last = chip_state fabric units;
    lead = is.lead;
    once = all_apart;
    had_turns = takers;
    had_nothing = idle;
    some = some_had some;
    tiles = only_tiles;
    left = to.lead;
  }
