-- What events one after another, and sweeps by the answers of a pace, do to a machine.
use Rattle.std.specs.Prelude.{◌≡◌, ◌<◌, ◌≤◌, ℕ, false, List, length, None}
use Rattle.mesh_gen.specs.declared.port.Port.{Port}
use Rattle.mesh_gen.specs.declared.ports.Ports.{Ports}
use Rattle.mesh_gen.specs.Ports.{has}
use Rattle.mesh_gen.specs.PortSets.{bits_of}
use Rattle.report_text.specs.declared.event.Event.{Event}
use Rattle.report_text.specs.declared.event.Event.TheVariants.{Hop}
use Rattle.chip_model.specs.Chip.{chip_of}
use Rattle.chip_model.specs.Units.{Behaviour}
use Rattle.chip_model.specs.Runs.{after}
use Rattle.chip_model.specs.Schedules.{slots, slot_count, from_offset, swept, sweeps, AllAreMade}
use Rattle.machine_core.specs.Machine.{MachineState}
use Rattle.pace_core.specs.Offsets.{AreAnswers}
use Rattle.progress_core.specs.Events.{events_between}

-- the document and the room of a machine stay
pub record SameMachine (old new : MachineState) : Type 0 where
  pub document : new.document ≡ old.document
  pub room : new.room ≡ old.room

-- the events were done one after another, each where it was possible, until the run ended
pub record SweepsThrough (b : Behaviour) (budget : ℕ) (events : List Event) (old new : MachineState) : Type 0 where
  pub same : SameMachine old new
  pub swept_is : new.state ≡ swept b (chip_of old.document) budget old.state events
  pub within : length new.state.journal ≤ budget

-- so the events of the slots from one up to another
abbrev pub SweepsBetween : Behaviour → ℕ → ℕ → ℕ → MachineState → MachineState → Type 0
SweepsBetween b budget first last old new = SweepsThrough b budget (events_between first last (slots (chip_of old.document))) old new

-- a copy hops from a channel by no port but these
abbrev pub HopsOnlyBy : Behaviour → MachineState → ℕ → Port → ℕ → Ports → Type 0
HopsOnlyBy b m r port slot owed = (out : Port) → has (bits_of owed) out ≡ false → after b (chip_of m.document) m.state (Hop r port slot out) ≡ None

-- all slots were swept once, from the offset that a pace answered for this sweep
pub record SweepsOnce (b : Behaviour) (post : ℕ → ℕ → ℕ → Type 0) (sweep budget : ℕ) (old new : MachineState) : Type 0 where
  pub offset : ℕ
  pub answer : post sweep (slot_count (chip_of old.document)) offset
  pub below : offset < slot_count (chip_of old.document)
  pub same : SameMachine old new
  pub swept_is : new.state ≡ swept b (chip_of old.document) budget old.state (from_offset (slots (chip_of old.document)) offset)

-- Sweep after sweep, each from the offset that a pace answered for it, from sweep 0 on: each of these was made, and none more.
pub record SweepsBy (b : Behaviour) (post : ℕ → ℕ → ℕ → Type 0) (budget : ℕ) (old new : MachineState) : Type 0 where
  pub offsets : List ℕ
  pub answers : AreAnswers post (slot_count (chip_of old.document)) 0 offsets
  pub same : SameMachine old new
  pub swept_is : sweeps b (chip_of old.document) budget old.state offsets ≡ new.state
  pub made : AllAreMade b (chip_of old.document) budget old.state offsets
