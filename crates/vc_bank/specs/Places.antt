-- The channels of all routers: for each router, by its number, its channels. They are read and changed by their places alone.
use Rattle.std.specs.Prelude.{Bool, is_none, ℕ, suc, ◌+◌, ◌<◌, List, [], ◌∷◌, length, Option, Some, None, slice_index_or, slice_set}
use Rattle.std.specs.List.{list_all}
use Rattle.vc_bank.specs.Channels.{Channels, slots_at, packet_at, with_packet}

-- the virtual channels of all routers
abbrev pub Network : Type 0 → Type 0
Network P = List (Channels P)

-- the slots of a port of a router
unfoldable pub slots : {P : Type 0} → Network P → ℕ → ℕ → List (Option P)
slots network router port = slots_at (slice_index_or network router []) port

-- the packet in a slot, if the slot is there and is not empty
unfoldable pub at : {P : Type 0} → Network P → ℕ → ℕ → ℕ → Option P
at network router port slot = packet_at (slice_index_or network router []) port slot

-- no slot of a router's port holds a packet
unfoldable pub vacant : {P : Type 0} → Network P → ℕ → ℕ → Bool
vacant network router port = list_all is_none (slots network router port)

-- the channels with this in a slot
unfoldable pub put : {P : Type 0} → Network P → ℕ → ℕ → ℕ → Option P → Network P
put network router port slot packet = slice_set network router (with_packet (slice_index_or network router []) port slot packet)

-- the slot is there
abbrev pub HasPlace : {P : Type 0} → Network P → ℕ → ℕ → ℕ → Type 0
HasPlace network router port slot = slot < length (slots network router port)

-- the sum of what a function gives for each element of a list and its number, counted from n
abbrev pub sum_from : {X : Type 0} → (ℕ → X → ℕ) → ℕ → List X → ℕ
sum_from f n [] = 0
sum_from f n (x ∷ xs) = f n x + sum_from f (suc n) xs

-- an empty slot weighs nothing
abbrev pub weight : {P : Type 0} → (P → ℕ) → Option P → ℕ
weight f None = 0
weight f (Some packet) = f packet

-- the weights of all packets, each by its router, port and slot
unfoldable pub weigh : {P : Type 0} → (ℕ → ℕ → ℕ → P → ℕ) → Network P → ℕ
weigh f network = sum_from (λ router bank. sum_from (λ port slots. sum_from (λ slot packet. weight (f router port slot) packet) 0 slots) 0 bank) 0 network

-- how many slots there are
abbrev pub slot_count : {P : Type 0} → Network P → ℕ
slot_count network = sum_from (λ router bank. sum_from (λ port slots. length slots) 0 bank) 0 network
