-- A tile that has not had the turn yet: after its core events, and after tries that were all refused.
use Rattle.std.proofs.Common.{◌≡◌, Bool, true, false, Some, sym, ◌∙◌, ap, subst}
use Rattle.std.specs.Prelude.{option_map, slice_get, unwrap_or}
use Rattle.atomic_table.specs.Seated.{TableId}
use Rattle.turn_table.specs.States.{SeatState}
use Rattle.chip_model.specs.Units.{UnitState, Behaviour}
use Rattle.machine_core.specs.Stations.{StationState}
use Rattle.round_laws.specs.Turns.{core_steps, most_alone}
use Rattle.tile_pool.specs.Start.{RoundStart}
use Rattle.tile_pool.specs.Workers.{CoresLead, HasRunAlone, HasRunFrom, IsSeatOf, IsStarting, IsThrough, IsWaiting, WasRefused}

-- its core events are those that the tile does by itself
ran_alone : (b : Behaviour) (r : RoundStart) (before station : StationState) (unit : UnitState) → slice_get r.units before.tile ≡ Some unit → before.unit ≡ unit
    → HasRunFrom b before station → HasRunAlone b r station
ran_alone b r before station unit there same ran =
    let here : slice_get r.units station.tile ≡ Some unit = ap (slice_get r.units) ran.tile ∙ there in
    record {
      unit = unit;
      there = here;
      lead = subst (λ (u : UnitState). CoresLead b u station) same ran.lead;
      cores =
          ran.cores
          ∙ ap (core_steps b most_alone) same
          ∙ sym (ap (λ o. unwrap_or (option_map (core_steps b most_alone) o) 0) here);
    }

-- a tile that has done its core events may try to have the turn
pub starts_waiting : (b : Behaviour) (r : RoundStart) (table : TableId) (before station : StationState) (seat : SeatState) (had : Bool)
    → IsStarting r table before seat had → HasRunFrom b before station → IsWaiting b r table station seat
starts_waiting b r table before station seat had starts ran = record {
  seated = subst (λ t. IsSeatOf r table t seat) (sym ran.tile) starts.seated;
  alone = ran_alone b r before station starts.unit starts.there (ap (λ (s : StationState). s.unit) starts.station_is) ran;
  served = starts.served;
  own = starts.own;
}

-- a tile each of whose tries was refused
pub ends_refused : (b : Behaviour) (r : RoundStart) (table : TableId) (station : StationState) (seat : SeatState) (had : Bool) → had ≡ false
    → IsWaiting b r table station seat → WasRefused b r station seat.note → IsThrough b r table station seat had
ends_refused b r table station seat true not_had waits refused = cc
ends_refused b r table station seat false not_had waits refused = record { seated = waits.seated; ended = (waits.served, refused) }
