-- The channels of one router: for each port, by its number, the list of its slots, each empty or with one packet.
use Rattle.std.specs.Prelude.{◌≡◌, ◌≢◌, ◌⊎◌, ◌<◌, ℕ, ◌+◌, Bool, false, List, [], ◌∷◌, length, take, replicate, Option, Some, None, is_none, slice_get, slice_index_or, slice_set, if◌then◌else◌}
use Rattle.std.specs.List.{position}

-- the virtual channels of a router, by port and slot
abbrev pub Channels : Type 0 → Type 0
Channels P = List (List (Option P))

-- the slots of a port
abbrev pub slots_at : {P : Type 0} → Channels P → ℕ → List (Option P)
slots_at bank port = slice_index_or bank port []

-- the packet in a slot, if the slot is there and is not empty
abbrev pub packet_at : {P : Type 0} → Channels P → ℕ → ℕ → Option P
packet_at bank port slot = slice_index_or (slots_at bank port) slot None

-- how many packets a slot has
abbrev pub in_slot : {P : Type 0} → Option P → ℕ
in_slot None = 0
in_slot (Some packet) = 1

-- how many packets all slots of a port have
abbrev pub packet_count : {P : Type 0} → List (Option P) → ℕ
packet_count [] = 0
packet_count (packet ∷ slots) = in_slot packet + packet_count slots

-- the channels with this in a slot
abbrev pub with_packet : {P : Type 0} → Channels P → ℕ → ℕ → Option P → Channels P
with_packet bank port slot packet = slice_set bank port (slice_set (slots_at bank port) slot packet)

-- every slot is empty: each port has so many normal slots, and all but the tile's own have a reserved one more where it is wanted
abbrev pub empty_channels : {P : Type 0} → ℕ → Bool → Channels P
empty_channels normal reserved =
    let slots = replicate (normal + (if reserved then 1 else 0)) None in
    replicate normal None ∷ slots ∷ slots ∷ slots ∷ slots ∷ []

-- the slot is there, and is empty
abbrev pub IsFree : {P : Type 0} → Channels P → ℕ → ℕ → Type 0
IsFree bank port slot = slice_get (slots_at bank port) slot ≡ Some None

-- how many normal slots a port has: as many as that of the tile, which has no other
abbrev pub normal_slots : {P : Type 0} → Channels P → ℕ
normal_slots bank = length (slots_at bank 0)

-- the first normal slot that is empty
abbrev pub lowest_free : {P : Type 0} → Channels P → ℕ → Option ℕ
lowest_free bank port = position is_none (take (normal_slots bank) (slots_at bank port))

-- a normal slot is free, and no lower one is
pub record IsLowestFree {P : Type 0} (bank : Channels P) (port slot : ℕ) : Type 0 where
  pub normal : slot < normal_slots bank
  pub free : IsFree bank port slot
  pub least : (lower : ℕ) → lower < slot → ¬ IsFree bank port lower

-- whether a slot was found, and is empty
abbrev pub is_there_and_free : {P : Type 0} → Option (Option P) → Bool
is_there_and_free None = false
is_there_and_free (Some packet) = is_none packet

-- whether the slot after the normal ones is there, and is empty
abbrev pub reserved_free : {P : Type 0} → Channels P → ℕ → Bool
reserved_free bank port = is_there_and_free (slice_get (slots_at bank port) (normal_slots bank))

-- one slot has this afterwards, and every other has what it had
pub record ChangesOnly {P : Type 0} (old new : Channels P) (port slot : ℕ) (packet : Option P) : Type 0 where
  pub changed : packet_at new port slot ≡ packet
  pub others : (p i : ℕ) → (p ≢ port) ⊎ (i ≢ slot) → packet_at new p i ≡ packet_at old p i
  pub lengths : (p : ℕ) → length (slots_at new p) ≡ length (slots_at old p)
