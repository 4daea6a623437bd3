-- A round, from the parts of a machine at its start to the parts at its end.
use Rattle.std.proofs.Common.{◌≡◌, ℕ, ◌<◌, ◌≤◌, List, [], ◌++◌, length, map, refl, sym, ◌∙◌, ap, subst, arith, All, slice_index_or}
use Rattle.std.proofs.lemmas.List.{append-nil, length-map}
use Rattle.std.proofs.lemmas.Option.{slice_get-get_or}
use Rattle.atomic_table.specs.Seated.{TableId}
use Rattle.turn_table.specs.Meeting.{AccountFor, notes_of}
use Rattle.turn_table.specs.States.{SeatState}
use Rattle.report_text.specs.Entry.{packed}
use Rattle.report_text.specs.Journals.{tile_named}
use Rattle.chip_model.specs.Chip.{Chip, chip_of, tile_count}
use Rattle.chip_model.specs.Units.{UnitState, Behaviour}
use Rattle.doc_text.specs.Doc.{Doc}
use Rattle.flow_laws.proofs.OwedRequests.{some_tiles}
use Rattle.fabric_core.specs.Fabric.{FabricState}
use Rattle.machine_core.specs.Machine.{AreParts}
use Rattle.machine_core.specs.Stations.{StationState, chip_state, units_of}
use Rattle.round_laws.specs.Rounds.{IsRound}
use Rattle.round_laws.proofs.Runs.{EachIsNoted}
use Rattle.tile_pool.specs.Start.{RoundStart, IsStart, start_of, start_state}
use Rattle.tile_pool.specs.Stands.{IsOfTile, Stands}
use Rattle.tile_pool.specs.Seating.{AreSettledTo, AreThrough, IsToSettle, SettlesAll}
use Rattle.tile_pool.proofs.Words.{words_made}
use Rattle.tile_pool.proofs.Turning.{ChipIsKnown}
use Rattle.tile_pool.proofs.Settling.{there_at}
use Rattle.tile_pool.proofs.Accounts.{all_at, is_round, once, to_settle}
use Rattle.tile_pool.proofs.RoundEnds.{all_settled, round_parts}

-- there are tiles
pub some_units : (b : Behaviour) (r : RoundStart) → IsStart b r → 0 < length r.units
some_units b r start = omega (arith, start.tiles, ap tile_count start.chip, some_tiles (chip_of r.document) start.within.fits.chip.tiles)

-- and at most 64
pub few_units : (b : Behaviour) (r : RoundStart) → IsStart b r → length r.units ≤ 64
few_units b r start = omega (arith, start.tiles, ap tile_count start.chip, start.within.tiles)

-- as many as stations
pub as_many : (r : RoundStart) (d : Doc) (fabric : FabricState) (stations : List StationState) (turn : ℕ) → r ≡ start_of d fabric stations turn
    → length stations ≡ length r.units
as_many r d fabric stations turn named =
    sym (length-map stations (λ (s : StationState). s.unit)) ∙ sym (ap (λ (s : RoundStart). length s.units) named)

-- before any turn
pub none_made : (b : Behaviour) (r : RoundStart) → IsStart b r → Stands b r r.fabric
none_made b r start = record {
  start = start;
  made = [];
  units = r.units;
  turns = record { entries = sym (append-nil r.fabric.entries); valid = tt; chip = refl; room = refl; tiles = refl; lead = refl };
}

-- all seats are of the round's table
pub tables : (b : Behaviour) (r : RoundStart) (table : TableId) (count had : ℕ) (stations : List StationState) (seats : List SeatState)
    → AreThrough b r table count had stations seats → All (λ seat. seat.table ≡ table) seats
tables b r table count had stations seats through k d below =
    let station = there_at stations k (omega (arith, below, through.stations_count, through.seats_count)) in
    (through.each k station.0 (slice_index_or seats k d) station.1 (slice_get-get_or seats k d below)).1.seated.table_is

-- once the seats are back, the stations can be settled, and then the turns and what was left over are a round
pub record IsMet (b : Behaviour) (r : RoundStart) (had : ℕ) (fabric : FabricState) (stations : List StationState) : Type 0 where
  pub start : IsStart b r
  pub all : IsToSettle b r fabric stations
  pub ends : (new_fabric : FabricState) (settled : List StationState) → (to : AreSettledTo b r all.turns all.last (length r.units) new_fabric settled)
      → IsRound b r.fabric.chip r.turn had (start_state r) (chip_state new_fabric to.units)

-- by what the seats account for
pub met : (b : Behaviour) (r : RoundStart) → ChipIsKnown b r.fabric.chip → (table : TableId) (had : ℕ) (stations : List StationState) (seats : List SeatState)
    → AreThrough b r table (length r.units) had stations seats → (fabric : FabricState) → Stands b r fabric
    → (words : List ℕ) → fabric.entries ≡ r.fabric.entries ++ words → AccountFor tile_named (notes_of seats) words
    → IsMet b r had fabric stations
met b r known table had stations seats through fabric stands words entries account =
    let made = stands.made in
    let is = stands.turns in
    let same : words ≡ map packed made = words_made r.fabric.entries words made (sym entries ∙ is.entries) in
    let accounts : AccountFor tile_named (notes_of seats) (map packed made) = subst (AccountFor tile_named (notes_of seats)) same account in
    record {
      start = stands.start;
      all = record {
        turns = made;
        last = chip_state fabric stands.units;
        lead = is.lead;
        once = once r made is.valid accounts.named_once;
        inside = λ entry has. (subst (IsOfTile r) has.2 (all_at (IsOfTile r) made has.0 entry is.valid has.1)).0;
        to_settle = to_settle b r known table had stations seats through made fabric stands.units is accounts;
      };
      ends = is_round b r known table had stations seats through made fabric stands.units is accounts (some_units b r stands.start);
    }

-- the seats as they were handed out, and the fabric and the stations as they come back
pub met_from : (b : Behaviour) (r : RoundStart) → ChipIsKnown b r.fabric.chip → (table : TableId) (count had : ℕ) (stations : List StationState) (seats : List SeatState)
    → AreThrough b r table count had stations seats → count ≡ length r.units → (fabric : FabricState) → Stands b r fabric
    → (opening : List ℕ) → opening ≡ r.fabric.entries → (words : List ℕ) → fabric.entries ≡ opening ++ words → AccountFor tile_named (notes_of seats) words
    → (same_fabric : FabricState) (same_stations : List StationState) → same_fabric ≡ fabric → same_stations ≡ stations
    → IsMet b r had same_fabric same_stations
met_from b r known table count had stations seats through counted fabric stands opening opened words entries account same_fabric same_stations fabric_is stations_are =
    subst (λ (f : FabricState). IsMet b r had f same_stations) (sym fabric_is)
    (subst (IsMet b r had fabric) (sym stations_are)
    (met b r known table had stations seats (subst (λ (n : ℕ). AreThrough b r table n had stations seats) counted through) fabric stands words
    (entries ∙ ap (λ (o : List ℕ). o ++ words) opened) account))

-- the parts after the round
pub record IsMade (b : Behaviour) (r : RoundStart) (had : ℕ) (fabric : FabricState) (stations : List StationState) : Type 0 where
  pub parts : AreParts b r.document fabric stations
  pub round : IsRound b (chip_of r.document) r.turn had (start_state r) (chip_state fabric (units_of stations))
  pub room : fabric.room ≡ r.fabric.room
  pub count : length stations ≡ length r.units

-- the settled stations and the fabric are those parts
pub round_made : (b : Behaviour) (r : RoundStart) → EachIsNoted b r.fabric.chip → (had : ℕ) (fabric : FabricState) (stations : List StationState)
    → IsMet b r had fabric stations → (new_fabric : FabricState) (settled : List StationState) → SettlesAll b r fabric stations new_fabric settled
    → IsMade b r had new_fabric settled
round_made b r noted had fabric stations is new_fabric settled settles =
    let all = is.all in
    let to = settles all.turns all.last all.to_settle in
    let ends = is.ends new_fabric settled to in
    record {
      parts = round_parts b r all.turns all.last had new_fabric settled noted is.start to ends;
      round = subst (λ (units : List UnitState). IsRound b (chip_of r.document) r.turn had (start_state r) (chip_state new_fabric units))
          (sym (all_settled b r all.turns all.last new_fabric settled to))
          (subst (λ (c : Chip). IsRound b c r.turn had (start_state r) (chip_state new_fabric to.units)) is.start.chip ends);
      room = to.room;
      count = to.count;
    }

-- a round of these parts of a machine
pub record IsRoundOf (b : Behaviour) (d : Doc) (first : FabricState) (rows : List StationState) (turn had : ℕ) (fabric : FabricState) (stations : List StationState) : Type 0 where
  pub parts : AreParts b d fabric stations
  pub round : IsRound b (chip_of d) turn had (chip_state first (units_of rows)) (chip_state fabric (units_of stations))
  pub room : fabric.room ≡ first.room

-- by the start that the round's type names
pub round_of : (b : Behaviour) (r : RoundStart) (d : Doc) (first : FabricState) (rows : List StationState) (turn had : ℕ) (fabric : FabricState) (settled stations : List StationState)
    → r ≡ start_of d first rows turn → IsMade b r had fabric settled → stations ≡ settled → IsRoundOf b d first rows turn had fabric stations
round_of b r d first rows turn had fabric settled stations named made same = record {
  parts = subst (λ (s : RoundStart). AreParts b s.document fabric stations) named (subst (AreParts b r.document fabric) (sym same) made.parts);
  round = subst (λ (s : RoundStart). IsRound b (chip_of s.document) s.turn had (start_state s) (chip_state fabric (units_of stations))) named
      (subst (λ (list : List StationState). IsRound b (chip_of r.document) r.turn had (start_state r) (chip_state fabric (units_of list))) (sym same) made.round);
  room = made.room ∙ ap (λ (s : RoundStart). s.fabric.room) named;
}
