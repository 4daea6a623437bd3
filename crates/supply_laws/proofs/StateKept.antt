-- What every event keeps, joined: each part of the new state from its own law.
use Rattle.std.proofs.Common.{◌≡◌, ℕ, ◌∙◌, ap, Some, List, length}
use Rattle.std.proofs.lemmas.List.{length-set}
use Rattle.std.proofs.lemmas.List.FromFn.{length-map-range_with_len}
use Rattle.report_text.specs.declared.event.Event.{Event}
use Rattle.report_text.specs.declared.event.Event.TheVariants.{Tick, Core, Inject, Post, Take, Eject, Send, Hop, DataHop, DataEject}
use Rattle.doc_text.specs.Doc.{Doc}
use Rattle.chip_model.specs.Chip.{Chip, chip_of, tile_count}
use Rattle.chip_model.specs.Units.{UnitState, Behaviour, opening_unit}
use Rattle.chip_model.specs.ChipState.{ChipState, program_of, opening}
use Rattle.chip_model.specs.Events.{step}
use Rattle.chip_model.specs.BehaviourLaws.{KeepsLaws}
use Rattle.chip_model.specs.ChipInvariant.{NetworkHolds, ProtocolHolds}
use Rattle.chip_laws.specs.EventSteps.{ChangesUnit, EventDoes}
use Rattle.chip_laws.specs.Meetings.{NodesHold, UnitsKeepShape, UnitsFit}
use Rattle.chip_laws.specs.Parts.{WritersHold, GetsAreSupplied}
use Rattle.chip_laws.specs.QueuedMessages.{QueuesFit}
use Rattle.chip_laws.proofs.EventSteps.{event_does}
use Rattle.chip_laws.proofs.OrderFrames.{holds_at}
use Rattle.supply_laws.specs.HomeParts.{WordsReachMemory, HomesHold}
use Rattle.supply_laws.specs.OpenGets.{NoneWritesBackBefore, DataAnswersGets, EachHasOneToCome, AllGetsWait}
use Rattle.supply_laws.specs.Reachable.{StateHolds}

-- the parts of what holds in a state
pub record StateParts (b : Behaviour) (laws : KeepsLaws b) (d : Doc) (s : ChipState) : Type 0 where
  pub units : length s.units ≡ tile_count (chip_of d)
  pub network : NetworkHolds d s
  pub shapes : UnitsKeepShape d s
  pub nodes : NodesHold d s
  pub writers : WritersHold d s
  pub supplied : GetsAreSupplied d s
  pub one : EachHasOneToCome d s
  pub memory : WordsReachMemory s
  pub homes : HomesHold s
  pub wait : AllGetsWait s
  pub fit : UnitsFit b laws s
  pub none_back : NoneWritesBackBefore s
  pub messages : DataAnswersGets s

-- they make the whole
pub state_of_parts : (b : Behaviour) (laws : KeepsLaws b) (d : Doc) (s : ChipState) → StateParts b laws d s → StateHolds b laws d s
state_of_parts b laws d s p = record {
  protocol = record {
    units = p.units;
    network = p.network;
    tiles = λ t interface unit at_interface at_unit. record {
      core = p.shapes t unit at_unit;
      node = p.nodes t interface unit at_interface at_unit;
      serves = record {
        owns = p.writers.owns t unit at_unit;
        writers = p.writers.writers t unit at_unit;
        supplied = p.supplied t unit at_unit;
        one = p.one t unit at_unit;
        fresh = p.homes.fresh t unit at_unit;
        waiters = p.homes.waiters t unit at_unit;
      };
    };
    backs = p.memory;
    wait = p.wait;
    performers = p.writers.performers;
    timely = p.writers.timely;
  };
  fit = p.fit;
  none_back = p.none_back;
  messages = p.messages;
}

-- the units that each tile runs, and the messages in their queues, of a state in which the protocol holds
pub shapes_of : (d : Doc) (s : ChipState) → ProtocolHolds d s → UnitsKeepShape d s
shapes_of d s holds t unit at = (holds_at d s holds t unit at).holds.core

pub queues_of : (d : Doc) (s : ChipState) → ProtocolHolds d s → QueuesFit d s
queues_of d s holds t place unit msg at queued = (holds_at d s holds t unit at).holds.node.messages place msg queued

-- an event keeps the number of units
set_keeps : (s new : ChipState) (t : ℕ) (unit after : UnitState) → ChangesUnit s new t unit after → length new.units ≡ length s.units
set_keeps s new t unit after c = ap (λ (units : List UnitState). length units) c.units ∙ length-set s.units t after

same_length : (s new : ChipState) → new.units ≡ s.units → length new.units ≡ length s.units
same_length s new same = ap (λ (units : List UnitState). length units) same

does_keep : (b : Behaviour) (chip : Chip) (s new : ChipState) (event : Event) → EventDoes b chip s new event → length new.units ≡ length s.units
does_keep b chip s new Tick does = same_length s new does.units
does_keep b chip s new (Core t) does = set_keeps s new t _ _ does.changes
does_keep b chip s new (Inject t) does = set_keeps s new t _ _ does.changes
does_keep b chip s new (Post t) does = same_length s new does.units
does_keep b chip s new (Take t) does = same_length s new does.units
does_keep b chip s new (Eject t) does = set_keeps s new t _ _ does.changes
does_keep b chip s new (Send t) does = set_keeps s new t _ _ does.changes
does_keep b chip s new (Hop r port slot out) does = same_length s new does.units
does_keep b chip s new (DataHop r port slot) does = same_length s new does.units
does_keep b chip s new (DataEject r port slot) does = set_keeps s new r _ _ does.changes

pub units_kept : (b : Behaviour) (d : Doc) (s new : ChipState) (event : Event) → step b (chip_of d) s event ≡ Some new → length s.units ≡ tile_count (chip_of d)
    → length new.units ≡ tile_count (chip_of d)
units_kept b d s new event e was = does_keep b (chip_of d) s new event (event_does b (chip_of d) s new event e) ∙ was

-- at the opening there is one for each tile
pub units_opened : (d : Doc) → length (opening d).units ≡ tile_count (chip_of d)
units_opened d = length-map-range_with_len (λ tile. opening_unit (chip_of d) tile (program_of d tile) d.memory) 0 (tile_count (chip_of d))
