-- The slots that name the possible events, and the schedules that follow from them.
use Rattle.std.specs.Prelude.{◌≡◌, ℕ, ◌+◌, ◌*◌, ◌<◌, ◌%◌, ◌^◌, ◌==◌, Bool, true, false, ◌||◌, List, [], ◌∷◌, ◌++◌, length, map, take, drop, Some, unwrap_or, if◌then◌else◌, slice_get, Contains}
use Rattle.std.specs.Bool.{⊤}
use Rattle.std.specs.List.{flat_map, sum_by}
use Rattle.mesh_gen.specs.declared.port.Port.{Port}
use Rattle.mesh_gen.specs.declared.port.Port.TheVariants.{L, E, W, N, S}
use Rattle.mesh_gen.specs.Grid.{diameter}
use Rattle.core_isa.specs.declared.instr.Instr.{Instr}
use Rattle.core_isa.specs.declared.instr.Instr.TheVariants.{Beq, Bne, Jmp}
use Rattle.order_tracker.specs.Order.{upwards}
use Rattle.report_text.specs.declared.event.Event.{Event}
use Rattle.report_text.specs.declared.event.Event.TheVariants.{Tick, Core, Inject, Post, Take, Eject, Send, Hop, DataHop, DataEject}
use Rattle.doc_text.specs.Doc.{Doc}
use Rattle.chip_model.specs.Chip.{Chip, chip_of, tile_count}
use Rattle.chip_model.specs.Units.{Behaviour}
use Rattle.chip_model.specs.ChipState.{ChipState, opening, finished}
use Rattle.chip_model.specs.Runs.{after}

-- the four sides
abbrev pub output_ports : List Port
output_ports = E ∷ W ∷ N ∷ S ∷ []

-- the five ports
abbrev pub ports : List Port
ports = L ∷ output_ports

-- the hops of a channel by each side
abbrev pub hops_from : ℕ → Port → ℕ → List Event
hops_from router port slot = map (Hop router port slot) output_ports

-- the hops of a router: those of its own tile's channels, and those of the channels of each side with the reserved one
abbrev pub router_hops : Chip → ℕ → List Event
router_hops chip router =
    flat_map (hops_from router L) (upwards 0 chip.vcs)
    ++ flat_map (λ port. flat_map (hops_from router port) (upwards 0 (chip.vcs + 1))) output_ports

-- what names each reply channel of a router
abbrev pub reply_events : Chip → (Port → ℕ → Event) → List Event
reply_events chip event = flat_map (λ port. map (event port) (upwards 0 chip.data_vcs)) ports

-- the events of a tile and its router
abbrev pub tile_slots : Chip → ℕ → List Event
tile_slots chip t =
    (Core t ∷ Inject t ∷ Post t ∷ Take t ∷ Eject t ∷ Send t ∷ [])
    ++ router_hops chip t
    ++ reply_events chip (DataHop t)
    ++ reply_events chip (DataEject t)

-- every event that can ever be possible, by the number of its slot
unfoldable pub slots : Chip → List Event
slots chip = Tick ∷ flat_map (tile_slots chip) (upwards 0 (tile_count chip))

-- how many slots a tile has, and the chip
abbrev pub slots_per_tile : Chip → ℕ
slots_per_tile chip = 22 + 20 * chip.vcs + 10 * chip.data_vcs

-- how many slots a chip has
abbrev pub slot_count : Chip → ℕ
slot_count chip = 1 + tile_count chip * slots_per_tile chip

-- a run ends where the chip is finished or the budget of events is spent
abbrev pub ends : ℕ → ChipState → Bool
ends budget s = (length s.journal == budget) || finished s

-- the state after the event, where it is possible, and else the same
abbrev pub tried : Behaviour → Chip → ChipState → Event → ChipState
tried behaviour chip s event = unwrap_or (after behaviour chip s event) s

-- these events, each where it is possible, until the run ends
abbrev pub swept : Behaviour → Chip → ℕ → ChipState → List Event → ChipState
swept behaviour chip budget s [] = s
swept behaviour chip budget s (event ∷ events) =
    if ends budget s then s else swept behaviour chip budget (tried behaviour chip s event) events

-- all slots once from an offset, wrapping
abbrev pub from_offset : List Event → ℕ → List Event
from_offset events offset = drop offset events ++ take offset events

-- sweep after sweep, each through all slots from its own offset, until the run ends
unfoldable pub sweeps : Behaviour → Chip → ℕ → ChipState → List ℕ → ChipState
sweeps behaviour chip budget s [] = s
sweeps behaviour chip budget s (offset ∷ offsets) =
    if ends budget s then s else sweeps behaviour chip budget (swept behaviour chip budget s (from_offset (slots chip) offset)) offsets

-- the sweep of each of these offsets is made: the run has not ended before it
abbrev pub AllAreMade : Behaviour → Chip → ℕ → ChipState → List ℕ → Type 0
AllAreMade behaviour chip budget s [] = ⊤
AllAreMade behaviour chip budget s (offset ∷ offsets) =
    (ends budget s ≡ false) × AllAreMade behaviour chip budget (swept behaviour chip budget s (from_offset (slots chip) offset)) offsets

-- these offsets, one for each sweep that is made and none more, bring a run to its end
pub record IsSweptTo (behaviour : Behaviour) (d : Doc) (budget : ℕ) (offsets : List ℕ) (s : ChipState) : Type 0 where
  pub swept : sweeps behaviour (chip_of d) budget (opening d) offsets ≡ s
  pub made : AllAreMade behaviour (chip_of d) budget (opening d) offsets
  pub ended : ends budget s ≡ true

-- the offset that the pace of a number gives to a sweep
abbrev pub pace_offset : ℕ → Chip → ℕ → ℕ
pace_offset pace chip sweep = (pace * (sweep % 2 ^ 32 + 1)) % slot_count chip

-- the offsets that the pace of a number gives to so many sweeps
abbrev pub pace_offsets : ℕ → Chip → ℕ → List ℕ
pace_offsets pace chip sweeps = map (pace_offset pace chip) (upwards 0 sweeps)

-- The bound.

-- the places to which an instruction may go besides the next one
abbrev pub targets : Instr → List ℕ
targets (Beq ra rb target) = target ∷ []
targets (Bne ra rb target) = target ∷ []
targets (Jmp target) = target ∷ []
targets instr = []

-- every branch and jump of every program goes to a later place
abbrev pub IsForward : Doc → Type 0
IsForward d = (tile place target : ℕ) (program : List Instr) (instr : Instr) →
    slice_get d.programs tile ≡ Some program → slice_get program place ≡ Some instr → Contains (targets instr) target → place < target

-- how many events a run of forward programs has at most
abbrev pub bound : Doc → ℕ
bound d = let chip = chip_of d in
    (sum_by length d.programs + tile_count chip) * (6 * tile_count chip + 2 * d.window + 2 * diameter chip.grid + 8)
