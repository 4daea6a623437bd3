-- A try of a tile to have the turn: what it asks of the turn, and what it leaves of the tile.
use Rattle.std.proofs.Common.{◌≡◌, ℕ, zero, suc, ◌<◌, Bool, true, false, List, [], ◌∷◌, ◌++◌, Some, length, length-append, map, get_or, refl, sym, ◌∙◌, ap, subst, arith, inl, inr}
use Rattle.std.specs.Prelude.{set, slice_get}
use Rattle.std.specs.List.{AllByRecursion}
use Rattle.std.proofs.lemmas.List.{append_assoc, append_cancel_left, length-map, map-append}
use Rattle.atomic_table.specs.Seated.{TableId}
use Rattle.turn_table.specs.declared.note.Note.{Note}
use Rattle.turn_table.specs.Rule.{entries_naming}
use Rattle.turn_table.specs.States.{SeatState}
use Rattle.turn_table.specs.Steps.{FitsNote}
use Rattle.turn_table.specs.Tries.{MakesAtMostOne, NotesTurn, note_served}
use Rattle.report_text.specs.Entry.{packed}
use Rattle.report_text.specs.Journals.{tile_named}
use Rattle.report_text.proofs.Packing.{tile_named-packed}
use Rattle.chip_model.specs.Units.{Behaviour}
use Rattle.fabric_core.specs.Fabric.{FabricState}
use Rattle.machine_core.specs.Stations.{StationState, chip_state, seen_by}
use Rattle.tile_pool.specs.Start.{RoundStart}
use Rattle.tile_pool.specs.Stands.{DidEvent, IsOfTile, MayHaveTurn, TurnDoes}
use Rattle.tile_pool.specs.Workers.{HadNothing, IsSeatOf, IsThrough, IsWaiting}
use Rattle.tile_pool.proofs.Words.{words_made}

-- what holds of all holds of the last one
last_of : {X : Type 0} (P : X → Type 0) (xs : List X) (x : X) → AllByRecursion P (xs ++ x ∷ []) → P x
last_of P [] x all = all.0
last_of P (y ∷ xs) x all = last_of P xs x all.1

-- an element that was set stands at its place
set_get : {X : Type 0} (xs : List X) (k : ℕ) (x : X) → k < length xs → slice_get (set xs k x) k ≡ Some x
set_get [] k x below = absurd (omega (arith, below))
set_get (y ∷ xs) zero x below = refl
set_get (y ∷ xs) (suc k) x below = set_get xs k x (omega (arith, below))

-- words that follow the same list
same_word : (words : List ℕ) (a b : ℕ) → words ++ a ∷ [] ≡ words ++ b ∷ [] → a ≡ b
same_word words a b same = ap (λ (rest : List ℕ). get_or rest 0 0) (append_cancel_left words (a ∷ []) (b ∷ []) same)

-- a list is not itself with one word more
no_word : {P : Type 0} (words more : List ℕ) (a : ℕ) → more ≡ words → more ≡ words ++ a ∷ [] → P
no_word words more a same longer = absurd (omega (arith, ap length same, ap length longer, length-append words (a ∷ [])))

-- the tile may have the turn on a value that fits its seat
pub may_have : (b : Behaviour) (r : RoundStart) (table : TableId) (station : StationState) (seat : SeatState) (fabric : FabricState) (made : List ℕ)
    → IsWaiting b r table station seat → fabric.entries ≡ seat.note.opening ++ made → FitsNote tile_named seat.note made
    → MayHaveTurn r station.tile fabric
may_have b r table station seat fabric made waits entries fits words is =
    let same : words ≡ made =
    append_cancel_left r.fabric.entries words made (sym is ∙ entries ∙ ap (λ (opening : List ℕ). opening ++ made) waits.seated.opening) in
    let none : entries_naming tile_named station.tile made ≡ 0 = subst (λ (t : ℕ). entries_naming tile_named t made ≡ 0) waits.seated.number (fits.unnamed waits.own) in (
      ap (entries_naming tile_named station.tile) same ∙ none,
      omega (arith, ap length same, fits.fewer waits.own, waits.seated.seats),
    )

-- the entry of a turn follows those that the fabric had
one_entry : (b : Behaviour) (r : RoundStart) (station : StationState) (fabric : FabricState) (new : StationState) (new_fabric : FabricState)
    (did : DidEvent b r station fabric new new_fabric) → new_fabric.entries ≡ fabric.entries ++ packed did.entry ∷ []
one_entry b r station fabric new new_fabric did =
    did.is.entries
    ∙ ap (λ (words : List ℕ). r.fabric.entries ++ words) (map-append packed did.earlier (did.entry ∷ []))
    ∙ sym (append_assoc r.fabric.entries (map packed did.earlier) (packed did.entry ∷ []))
    ∙ ap (λ (words : List ℕ). words ++ packed did.entry ∷ []) (sym did.was.entries)

-- a turn makes at most one entry, which names the tile
pub makes_one : (b : Behaviour) (r : RoundStart) (table : TableId) (station : StationState) (seat : SeatState) (fabric : FabricState) (new : StationState)
    (new_fabric : FabricState) (answer : Bool) → IsWaiting b r table station seat → TurnDoes b r station fabric new new_fabric answer
    → MakesAtMostOne tile_named seat.note fabric.entries new_fabric.entries
makes_one b r table station seat fabric new new_fabric true waits did =
    let of_tile = last_of (IsOfTile r) did.earlier did.entry did.is.valid in
    inr (
      packed did.entry,
      one_entry b r station fabric new new_fabric did,
      tile_named-packed did.entry of_tile.1 ∙ did.by ∙ sym waits.seated.number,
      waits.own,
    )
makes_one b r table station seat fabric new new_fabric false waits found = inl (ap (λ (f : FabricState). f.entries) found.fabric_is)

-- a seat that was served is still that of its tile
seat_served : (r : RoundStart) (table : TableId) (tile new_tile : ℕ) (seat new_seat : SeatState) (seen : ℕ) (trail : List ℕ) (own : List (ℕ × ℕ))
    → IsSeatOf r table tile seat → new_tile ≡ tile → new_seat.table ≡ seat.table → new_seat.note ≡ note_served seat.note seen trail own
    → IsSeatOf r table new_tile new_seat
seat_served r table tile new_tile seat new_seat seen trail own seated same_tile same_table noted = record {
  table_is = same_table ∙ seated.table_is;
  number = ap (λ (n : Note). n.number) noted ∙ seated.number ∙ sym same_tile;
  opening = ap (λ (n : Note). n.opening) noted ∙ seated.opening;
  seats = ap (λ (n : Note). n.seats) noted ∙ seated.seats;
}

-- the tile after a try that had the turn
pub through_turn : (b : Behaviour) (r : RoundStart) (table : TableId) (station : StationState) (seat : SeatState) (fabric : FabricState) (new : StationState)
    (new_seat : SeatState) (new_fabric : FabricState) (answer : Bool) (made : List ℕ) (seen : ℕ)
    → IsWaiting b r table station seat → new_seat.table ≡ seat.table → fabric.entries ≡ seat.note.opening ++ made
    → NotesTurn seat.note seen made fabric.entries new_fabric.entries new_seat.note
    → TurnDoes b r station fabric new new_fabric answer
    → IsThrough b r table new new_seat true
through_turn b r table station seat fabric new new_seat new_fabric true made seen waits same_table entries noted did =
    let opened : fabric.entries ≡ r.fabric.entries ++ made = entries ∙ ap (λ (opening : List ℕ). opening ++ made) waits.seated.opening in
    let made_is : made ≡ map packed did.earlier = words_made r.fabric.entries made did.earlier (sym opened ∙ did.was.entries) in
    let longer = one_entry b r station fabric new new_fabric did in
    let of_tile = last_of (IsOfTile r) did.earlier did.entry did.is.valid in
    elim noted [
      | inl none ↦ no_word fabric.entries new_fabric.entries (packed did.entry) none.0 longer
      | inr one ↦ (
          let word : one.0 ≡ packed did.entry = same_word fabric.entries one.0 (packed did.entry) (sym one.1 ∙ longer) in
          let count : length made ≡ length did.earlier = ap length made_is ∙ length-map did.earlier packed in
          record {
            seated = seat_served r table station.tile new.tile seat new_seat seen (made ++ one.0 ∷ []) (seat.note.own ++ (length made, one.0) ∷ []) waits.seated did.tile same_table one.2;
            ended = (
              ap (λ (n : Note). n.served) one.2,
              inl (record {
                settled = did.settled;
                earlier = did.earlier;
                entry = did.entry;
                by = did.by ∙ sym did.tile;
                own =
                    ap (λ (n : Note). n.own) one.2
                    ∙ ap (λ (own : List (ℕ × ℕ)). own ++ (length made, one.0) ∷ []) waits.own
                    ∙ ap (λ (n : ℕ). (n, one.0) ∷ []) count
                    ∙ ap (λ (w : ℕ). (length did.earlier, w) ∷ []) word;
                trail =
                    ap (λ (n : Note). n.trail) one.2
                    ∙ ap (λ (words : List ℕ). words ++ one.0 ∷ []) made_is
                    ∙ ap (λ (w : ℕ). map packed did.earlier ++ w ∷ []) word
                    ∙ sym (map-append packed did.earlier (did.entry ∷ []));
                valid = did.is.valid;
                s = chip_state new_fabric (set did.units station.tile new.unit);
                lead = did.is.lead;
                unit =
                    ap (slice_get (set did.units station.tile new.unit)) did.tile
                    ∙ set_get did.units station.tile new.unit (omega (arith, did.was.tiles, of_tile.0, did.by));
              }),
            );
          })
    ]
through_turn b r table station seat fabric new new_seat new_fabric false made seen waits same_table entries noted found =
    let opened : fabric.entries ≡ r.fabric.entries ++ made = entries ∙ ap (λ (opening : List ℕ). opening ++ made) waits.seated.opening in
    let made_is : made ≡ map packed found.made = words_made r.fabric.entries made found.made (sym opened ∙ found.was.entries) in
    let same_tile : new.tile ≡ station.tile = ap (λ (s : StationState). s.tile) found.station_is in
    elim noted [
      | inl none ↦ record {
        seated = seat_served r table station.tile new.tile seat new_seat seen made seat.note.own waits.seated same_tile same_table none.1;
        ended = (
          ap (λ (n : Note). n.served) none.1,
          inr (subst (λ (s : StationState). HadNothing b r s new_seat.note) (sym found.station_is) (record {
            alone = waits.alone;
            own = ap (λ (n : Note). n.own) none.1 ∙ waits.own;
            made = found.made;
            trail = ap (λ (n : Note). n.trail) none.1 ∙ made_is;
            valid = found.was.valid;
            s = chip_state fabric found.units;
            lead = found.was.lead;
            ready = seen_by station fabric found.units;
            ran = found.ran;
            none = found.none;
          })),
        );
      }
      | inr one ↦ no_word fabric.entries new_fabric.entries one.0 (ap (λ (f : FabricState). f.entries) found.fabric_is) one.1
    ]
