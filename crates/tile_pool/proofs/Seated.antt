-- Seats and stations that go to their workers, the last tile first, and come back.
use Rattle.std.proofs.Common.{◌≡◌, ℕ, zero, suc, ◌+◌, ◌^◌, ◌<◌, Bool, true, false, List, [], ◌∷◌, ◌++◌, Some, length, length-append, take, drop, refl, sym, ◌∙◌, ap, subst, arith, inl, inr, All, slice_index_or, eq-eqb}
use Rattle.std.specs.Prelude.{◌==◌, bit_or, slice_get}
use Rattle.std.proofs.lemmas.Bool.{cases_lt, cases_eq, ne_eqb}
use Rattle.std.proofs.lemmas.List.{get_or_append_left}
use Rattle.std.proofs.lemmas.List.Elements.{All-append}
use Rattle.std.proofs.lemmas.Option.{same_Some, slice_get_within}
use Rattle.atomic_table.specs.Seated.{TableId}
use Rattle.turn_table.specs.States.{SeatState, TurnsState, new_seat}
use Rattle.mesh_gen.specs.TileSet.{has_tile}
use Rattle.mesh_gen.proofs.TileSets.{has_tile-none, has_tile-one, has_tile-or}
use Rattle.chip_model.specs.Units.{UnitState, Behaviour}
use Rattle.machine_core.specs.Stations.{StationState}
use Rattle.tile_pool.specs.Start.{RoundStart, IsStart}
use Rattle.tile_pool.specs.Workers.{IsStarting, IsThrough, station_at}
use Rattle.tile_pool.specs.Seating.{AreThrough, TilesFall}
use Rattle.tile_pool.proofs.Settling.{there_at}

-- ---- lists that get one element more at their end

-- the last element stands where the others end
last_place : {X : Type 0} (xs : List X) (x : X) → slice_get (xs ++ x ∷ []) (length xs) ≡ Some x
last_place [] x = refl
last_place (y ∷ xs) x = last_place xs x

-- each of the others stands where it stood
front_place : {X : Type 0} (xs : List X) (x : X) (k : ℕ) → k < length xs → slice_get (xs ++ x ∷ []) k ≡ slice_get xs k
front_place [] x k below = absurd (omega (arith, below))
front_place (y ∷ xs) x zero below = refl
front_place (y ∷ xs) x (suc k) below = front_place xs x k (omega (arith, below))

-- read with a default
last_index : {X : Type 0} (xs : List X) (x d : X) → slice_index_or (xs ++ x ∷ []) (length xs) d ≡ x
last_index [] x d = refl
last_index (y ∷ xs) x d = last_index xs x d

-- there is one more
one_longer : {X : Type 0} (xs : List X) (x : X) → length (xs ++ x ∷ []) ≡ length xs + 1
one_longer xs x = length-append xs (x ∷ [])

-- the last element, and those before it
pub last_at : {X : Type 0} (all front : List X) (x : X) → all ≡ front ++ x ∷ [] → slice_get all (length front) ≡ Some x
last_at all front x is = ap (λ xs. slice_get xs (length front)) is ∙ last_place front x

-- one of those before it
pub front_at : {X : Type 0} (all front : List X) (x : X) (k : ℕ) → all ≡ front ++ x ∷ [] → k < length front → slice_get front k ≡ slice_get all k
front_at all front x k is below = sym (front_place front x k below) ∙ ap (λ xs. slice_get xs k) (sym is)

-- how many there are
pub longer : {X : Type 0} (all front : List X) (x : X) → all ≡ front ++ x ∷ [] → length all ≡ length front + 1
longer all front x is = ap (λ xs. length xs) is ∙ one_longer front x

-- a list from whose end nothing was taken is empty
pub no_more : (n : ℕ) → (0 < n → false ≡ true) → n ≡ 0
no_more zero never = refl
no_more (suc n) never = absurd (let no : false ≡ true = never (omega arith) in cc)

-- a list of no length has no elements
pub nothing_left : {X : Type 0} (xs : List X) → length xs ≡ 0 → xs ≡ []
nothing_left [] none = refl
nothing_left (x ∷ xs) none = absurd (omega (arith, none))

-- a fact of all elements, with one more
pub all_more : {X : Type 0} (all front : List X) (x : X) (P : X → Type 0) → all ≡ front ++ x ∷ [] → All P front → P x → All P all
all_more all front x P is each here = subst (All P) (sym is) (All-append P front (x ∷ []) each one)
  where
    one : All P (x ∷ [])
    one zero d below = here
    one (suc k) d below = absurd (omega (arith, below))

-- of those before the last one
pub all_front : {X : Type 0} (all front : List X) (x : X) (P : X → Type 0) → all ≡ front ++ x ∷ [] → All P all → All P front
all_front all front x P is each k d below =
    subst P (get_or_append_left front (x ∷ []) d k below) (subst (All P) is each k d (omega (arith, below, one_longer front x)))

-- of the last one
pub all_last : {X : Type 0} (all front : List X) (x : X) (P : X → Type 0) → all ≡ front ++ x ∷ [] → All P all → P x
all_last all front x P is each =
    subst P (last_index front x x) (subst (All P) is each (length front) x (omega (arith, one_longer front x)))

-- the tiles go down, with one worker more
pub falls_more : {W : Type 0} (all front : List W) (w : W) (tile : W → ℕ) (above : ℕ) → all ≡ front ++ w ∷ [] → TilesFall tile above front
    → tile w + length front + 1 ≡ above → TilesFall tile above all
falls_more {W} all front w tile above is falls here = subst (TilesFall tile above) (sym is) more
  where
    more : TilesFall tile above (front ++ w ∷ [])
    more i d below = elim (cases_lt i (length front)) [
      | inl inside ↦ ap (λ (x : W). tile x + i + 1) (get_or_append_left front (w ∷ []) d i inside) ∙ falls i d inside
      | inr beyond ↦ (
          let same : length front ≡ i = omega (arith, below, beyond, one_longer front w) in
          subst (λ (n : ℕ). tile (slice_index_or (front ++ w ∷ []) n d) + n + 1 ≡ above) same (ap (λ (x : W). tile x + length front + 1) (last_index front w d) ∙ here))
    ]

-- without the last worker
pub falls_front : {W : Type 0} (all front : List W) (w : W) (tile : W → ℕ) (above : ℕ) → all ≡ front ++ w ∷ [] → TilesFall tile above all
    → TilesFall tile above front
falls_front {W} all front w tile above is falls i d below =
    ap (λ (x : W). tile x + i + 1) (sym (get_or_append_left front (w ∷ []) d i below))
    ∙ subst (TilesFall tile above) is falls i d (omega (arith, below, one_longer front w))

-- the tile of the last worker
pub falls_last : {W : Type 0} (all front : List W) (w : W) (tile : W → ℕ) (above : ℕ) → all ≡ front ++ w ∷ [] → TilesFall tile above all
    → tile w + length front + 1 ≡ above
falls_last {W} all front w tile above is falls =
    ap (λ (x : W). tile x + length front + 1) (sym (last_index front w w))
    ∙ subst (TilesFall tile above) is falls (length front) w (omega (arith, one_longer front w))

-- a fact of all elements of an equal list
pub all_same : {X : Type 0} (xs ys : List X) (P : X → Type 0) → ys ≡ xs → All P xs → All P ys
all_same xs ys P same each = subst (All P) (sym same) each

-- the tiles of an equal list go down
pub falls_same : {W : Type 0} (xs ys : List W) (tile : W → ℕ) (n m : ℕ) → ys ≡ xs → n ≡ m → TilesFall tile n xs → TilesFall tile m ys
falls_same {W} xs ys tile n m same count falls = subst (λ (k : ℕ). TilesFall tile k ys) count (subst (TilesFall tile n) (sym same) falls)

-- a slice of all elements that was written, back in its list
pub written_back : {X : Type 0} (len : ℕ) (new old : List X) → len ≡ length new → length old ≡ length new → take len (new ++ drop (length new) old) ≡ new
written_back len new old is same = ap (λ (n : ℕ). take n (new ++ drop (length new) old)) is ∙ back new old same
  where
    back : {X : Type 0} (new old : List X) → length old ≡ length new → take (length new) (new ++ drop (length new) old) ≡ new
    back [] [] same = refl
    back [] (y ∷ old) same = absurd (omega (arith, same))
    back (x ∷ new) [] same = absurd (omega (arith, same))
    back (x ∷ new) (y ∷ old) same = ap (λ rest. x ∷ rest) (back new old (omega (arith, same)))

-- ---- workers at the round's start

-- a worker of a new station and a new seat
pub is_starting : (b : Behaviour) (r : RoundStart) → IsStart b r → (turns : TurnsState) → turns.opening ≡ r.fabric.entries → turns.seats ≡ length r.units
    → (t : ℕ) → t < length r.units → (station : StationState) (seat : SeatState)
    → ((unit : UnitState) → slice_get r.units t ≡ Some unit → station ≡ station_at t unit) → seat ≡ new_seat turns t
    → IsStarting r turns.table station seat false
is_starting b r start turns opening seats t below station seat each seat_is =
    let unit = there_at r.units t below in
    let station_is : station ≡ station_at t unit.0 = each unit.0 unit.1 in
    let tile : station.tile ≡ t = ap (λ (s : StationState). s.tile) station_is in
    record {
      seated = record {
        table_is = ap (λ (s : SeatState). s.table) seat_is;
        number = ap (λ (s : SeatState). s.note.number) seat_is ∙ sym tile;
        opening = ap (λ (s : SeatState). s.note.opening) seat_is ∙ opening;
        seats = ap (λ (s : SeatState). s.note.seats) seat_is ∙ seats;
      };
      unit = unit.0;
      there = ap (slice_get r.units) tile ∙ unit.1;
      station_is = station_is ∙ ap (λ (n : ℕ). station_at n unit.0) (sym tile);
      steps = omega (arith, start.counted t unit.0 unit.1, start.room, start.few);
      own = ap (λ (s : SeatState). s.note.own) seat_is;
      served = ap (λ (s : SeatState). s.note.served) seat_is;
      had_is = refl;
    }

-- ---- stations and seats that come back

-- before any has come back
pub none_through : (b : Behaviour) (r : RoundStart) (table : TableId) (stations : List StationState) (seats : List SeatState) → stations ≡ [] → seats ≡ []
    → AreThrough b r table 0 0 stations seats
none_through b r table stations seats no_stations no_seats = record {
  stations_count = ap (λ (xs : List StationState). length xs) no_stations;
  seats_count = ap (λ (xs : List SeatState). length xs) no_seats;
  each = λ t station seat there at.
      absurd (omega (arith, slice_get_within stations t station there, ap (λ (xs : List StationState). length xs) no_stations));
  none_beyond = λ t beyond. has_tile-none t;
}

-- the set of those that had the turn, with one tile that had it or not
pub record IsWith (tile : ℕ) (has : Bool) (had more : ℕ) : Type 0 where
  pub here : has_tile had tile ≡ false → has_tile more tile ≡ has
  pub others : (t : ℕ) → (tile == t) ≡ false → has_tile more t ≡ has_tile had t

-- it had the turn
pub with_turn : (tile had : ℕ) → IsWith tile true had (bit_or (2 ^ tile) had)
with_turn tile had = record {
  here = λ not_had. has_tile-or (2 ^ tile) had tile ∙ rw (has_tile-one tile tile, not_had, eq-eqb tile tile refl) refl;
  others = λ t away. has_tile-or (2 ^ tile) had t ∙ rw (has_tile-one tile t, away) refl;
}

-- it had none
pub without_turn : (tile had : ℕ) → IsWith tile false had had
without_turn tile had = record { here = λ not_had. not_had; others = λ t away. refl }

-- one more has come back
pub one_through : (b : Behaviour) (r : RoundStart) (table : TableId) (count had more : ℕ) (stations all_stations : List StationState) (seats all_seats : List SeatState)
    → (station : StationState) (seat : SeatState) (has : Bool) → all_stations ≡ stations ++ station ∷ [] → all_seats ≡ seats ++ seat ∷ []
    → AreThrough b r table count had stations seats → station.tile ≡ count → IsThrough b r table station seat has → IsWith count has had more
    → AreThrough b r table (count + 1) more all_stations all_seats
one_through b r table count had more stations all_stations seats all_seats station seat has stations_are seats_are through tile ends with = record {
  stations_count = omega (arith, longer all_stations stations station stations_are, through.stations_count);
  seats_count = omega (arith, longer all_seats seats seat seats_are, through.seats_count);
  each = λ t other other_seat there at. elim (cases_eq count t) [
    | inl same ↦ (
        let station_is : station ≡ other = same_Some station other
        (sym (last_at all_stations stations station stations_are) ∙ ap (slice_get all_stations) (through.stations_count ∙ same) ∙ there) in
        let seat_is : seat ≡ other_seat = same_Some seat other_seat
        (sym (last_at all_seats seats seat seats_are) ∙ ap (slice_get all_seats) (through.seats_count ∙ same) ∙ at) in
        let now : has_tile more t ≡ has = ap (has_tile more) (sym same) ∙ with.here (through.none_beyond count (omega arith)) in (
          ap (λ (s : StationState). s.tile) (sym station_is) ∙ tile ∙ same,
          subst (λ (s : StationState). IsThrough b r table s other_seat (has_tile more t)) station_is
              (subst (λ (s : SeatState). IsThrough b r table station s (has_tile more t)) seat_is
              (subst (IsThrough b r table station seat) (sym now) ends)),
        ))
    | inr away ↦ (
        let within = slice_get_within all_stations t other there in
        let inside : t < length stations = omega (arith, within, longer all_stations stations station stations_are, through.stations_count, away) in
        let was = through.each t other other_seat (front_at all_stations stations station t stations_are inside ∙ there)
        (front_at all_seats seats seat t seats_are (omega (arith, inside, through.stations_count, through.seats_count)) ∙ at) in
        (was.0, subst (IsThrough b r table other other_seat) (sym (with.others t (ne_eqb count t away))) was.1))
  ];
  none_beyond = λ t beyond. with.others t (ne_eqb count t (λ same. absurd (omega (arith, same, beyond)))) ∙ through.none_beyond t (omega (arith, beyond));
}
