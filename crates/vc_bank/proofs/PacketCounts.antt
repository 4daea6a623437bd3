-- How many slots of a port hold a packet.
use Rattle.std.proofs.Common.{◌≡◌, ◌≢◌, ℕ, zero, suc, ◌+◌, ◌-◌, ◌<◌, ◌≤◌, Bool, true, false, refl, sym, ◌∙◌, ap, arith, Option, Some, None, List, [], ◌∷◌, length, length-set, set, get_or}
use Rattle.std.specs.Prelude.{is_none, ◌==◌, replicate}
use Rattle.std.specs.List.{list_all}
use Rattle.std.proofs.lemmas.Bool.{ne_eqb}
use Rattle.std.proofs.Math.Nat.{zero-add}
use Rattle.vc_bank.specs.Channels.{in_slot, packet_count}
use Rattle.vc_bank.specs.Places.{Network, slots, at, vacant}

-- ---- a write
-- it takes out what was in the slot, and puts in what it writes
packet_count-set : {P : Type 0} (slots : List (Option P)) (k : ℕ) (packet : Option P) → k < length slots → packet_count (set slots k packet) + in_slot (get_or slots k None) ≡ packet_count slots + in_slot packet
packet_count-set [] k packet below = absurd (omega arith)
packet_count-set (other ∷ slots) zero packet below = omega arith
packet_count-set (other ∷ slots) (suc k) packet below = let rest = packet_count-set slots k packet (omega arith) in omega arith

in_slot-le : {P : Type 0} (packet : Option P) → in_slot packet ≤ 1
in_slot-le None = omega arith
in_slot-le (Some packet) = omega arith

packet_count-le : {P : Type 0} (slots : List (Option P)) → packet_count slots ≤ length slots
packet_count-le [] = omega arith
packet_count-le (packet ∷ slots) = omega (arith, packet_count-le slots, in_slot-le packet)

in_slot-get_or : {P : Type 0} (slots : List (Option P)) (k : ℕ) → in_slot (get_or slots k None) ≤ packet_count slots
in_slot-get_or [] k = omega arith
in_slot-get_or (packet ∷ slots) zero = omega arith
in_slot-get_or (packet ∷ slots) (suc k) = let rest = in_slot-get_or slots k in omega arith

-- the count without what was in the slot, and with what it gets
pub record IsCounted {P : Type 0} (slots : List (Option P)) (k packets : ℕ) (old packet : Option P) : Type 0 where
  pub within : in_slot old ≤ packets
  pub few : packets - in_slot old + in_slot packet ≤ length slots + 1
  pub length_is : length (set slots k packet) ≡ length slots
  pub count_is : packets - in_slot old + in_slot packet ≡ packet_count (set slots k packet)

pub written_count : {P : Type 0} (slots : List (Option P)) (k packets : ℕ) (old packet : Option P) → k < length slots → packets ≡ packet_count slots → old ≡ get_or slots k None → IsCounted slots k packets old packet
written_count slots k packets old packet below count stands =
    let written = packet_count-set slots k packet below in
    let old_is : in_slot old ≡ in_slot (get_or slots k None) = ap in_slot stands in
    let in_count = in_slot-get_or slots k in
    let most = packet_count-le slots in
    let one = in_slot-le packet in
    record {
      within = omega arith;
      few = omega arith;
      length_is = length-set slots k packet;
      count_is = omega arith;
    }

-- ---- empty slots
pub packet_count-empty : (P : Type 0) (count : ℕ) → packet_count {P = P} (replicate count None) ≡ 0
packet_count-empty P zero = refl
packet_count-empty P (suc count) = let rest = packet_count-empty P count in omega arith

not_zero : (n : ℕ) → 1 + n ≡ 0 → ⊥
not_zero n same = omega (arith, same)

pub packet_count-vacant : {P : Type 0} (slots : List (Option P)) → (packet_count slots == 0) ≡ list_all is_none slots
packet_count-vacant [] = refl
packet_count-vacant (None ∷ others) = ap (λ (n : ℕ). n == 0) (zero-add (packet_count others)) ∙ packet_count-vacant others
packet_count-vacant (Some packet ∷ others) = ne_eqb (1 + packet_count others) 0 (not_zero (packet_count others))

vacant_slots : {P : Type 0} (slots : List (Option P)) (k : ℕ) → list_all is_none slots ≡ true → get_or slots k None ≡ None
vacant_slots [] k none = refl
vacant_slots (None ∷ slots) zero none = refl
vacant_slots (None ∷ slots) (suc k) none = vacant_slots slots k none
vacant_slots (Some packet ∷ slots) k none = cc

-- in a vacant port every slot is empty
pub at-vacant : {P : Type 0} (network : Network P) (r p i : ℕ) → vacant network r p ≡ true → at network r p i ≡ None
unfolding at vacant slots
at-vacant network r p i none = vacant_slots (slots network r p) i none
