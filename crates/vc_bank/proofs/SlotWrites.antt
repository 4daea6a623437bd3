-- The channels of a router after a write into a slot.
use Rattle.std.proofs.Common.{◌≡◌, ◌≢◌, ◌⊎◌, ℕ, zero, suc, ◌<◌, sym, ◌∙◌, ap, subst, arith, inl, inr, ⊎_elim, Option, None, List, [], ◌∷◌, length, set, get_or, get_or-set_same, get_or-set_other, length-set}
use Rattle.std.specs.Prelude.{IsSome}
use Rattle.std.proofs.lemmas.Bool.{cases_eq}
use Rattle.std.proofs.lemmas.Option.{slice_get_within}
use Rattle.vc_bank.specs.Channels.{Channels, slots_at, packet_at, with_packet, IsFree, ChangesOnly}

-- a list with an element is there
pub outer_within : {X : Type 0} (lists : List (List X)) (k i : ℕ) → i < length (get_or lists k []) → k < length lists
outer_within [] k i inside = absurd (omega arith)
outer_within (list ∷ lists) zero i inside = omega arith
outer_within (list ∷ lists) (suc k) i inside = let below = outer_within lists k i inside in omega arith

-- ---- the slot that was written, the others of its port, and the other ports
slots_at-written : {P : Type 0} (bank : Channels P) (port slot : ℕ) (packet : Option P) → slot < length (slots_at bank port) → slots_at (with_packet bank port slot packet) port ≡ set (slots_at bank port) slot packet
slots_at-written bank port slot packet inside = get_or-set_same bank port (set (slots_at bank port) slot packet) [] (outer_within bank port slot inside)

slots_at-other : {P : Type 0} (bank : Channels P) (port slot : ℕ) (packet : Option P) (p : ℕ) → p ≢ port → slots_at (with_packet bank port slot packet) p ≡ slots_at bank p
slots_at-other bank port slot packet p other = get_or-set_other bank port p (set (slots_at bank port) slot packet) [] other

pub packet_at-written : {P : Type 0} (bank : Channels P) (port slot : ℕ) (packet : Option P) → slot < length (slots_at bank port) → packet_at (with_packet bank port slot packet) port slot ≡ packet
packet_at-written bank port slot packet inside = rw (slots_at-written bank port slot packet inside) (get_or-set_same (slots_at bank port) slot packet None inside)

packet_at-other_slot : {P : Type 0} (bank : Channels P) (port slot : ℕ) (packet : Option P) (i : ℕ) → slot < length (slots_at bank port) → i ≢ slot → packet_at (with_packet bank port slot packet) port i ≡ packet_at bank port i
packet_at-other_slot bank port slot packet i inside other = rw (slots_at-written bank port slot packet inside) (get_or-set_other (slots_at bank port) slot i packet None other)

pub packet_at-other : {P : Type 0} (bank : Channels P) (port slot : ℕ) (packet : Option P) (p i : ℕ) → slot < length (slots_at bank port) → (p ≢ port) ⊎ (i ≢ slot) → packet_at (with_packet bank port slot packet) p i ≡ packet_at bank p i
packet_at-other bank port slot packet p i inside (inl other) = ap (λ (slots : List (Option _)). get_or slots i None) (slots_at-other bank port slot packet p other)
packet_at-other bank port slot packet p i inside (inr other) = ⊎_elim
    (λ same. subst (λ (q : ℕ). packet_at (with_packet bank port slot packet) q i ≡ packet_at bank q i) (sym same) (packet_at-other_slot bank port slot packet i inside other))
    (λ apart. ap (λ (slots : List (Option _)). get_or slots i None) (slots_at-other bank port slot packet p apart))
    (cases_eq p port)

pub length-slots_at-with_packet : {P : Type 0} (bank : Channels P) (port slot : ℕ) (packet : Option P) (p : ℕ) → slot < length (slots_at bank port) → length (slots_at (with_packet bank port slot packet) p) ≡ length (slots_at bank p)
length-slots_at-with_packet bank port slot packet p inside = ⊎_elim
    (λ same. subst (λ (q : ℕ). length (slots_at (with_packet bank port slot packet) q) ≡ length (slots_at bank q)) (sym same)
    (ap length (slots_at-written bank port slot packet inside) ∙ length-set (slots_at bank port) slot packet))
    (λ apart. ap length (slots_at-other bank port slot packet p apart))
    (cases_eq p port)

pub ChangesOnly-with_packet : {P : Type 0} (bank : Channels P) (port slot : ℕ) (packet : Option P) → slot < length (slots_at bank port) → ChangesOnly bank (with_packet bank port slot packet) port slot packet
ChangesOnly-with_packet bank port slot packet inside = record {
  changed = packet_at-written bank port slot packet inside;
  others = λ p i other. packet_at-other bank port slot packet p i inside other;
  lengths = λ p. length-slots_at-with_packet bank port slot packet p inside;
}

-- ---- a slot that is free, or holds a packet, is there
pub free_within : {P : Type 0} (bank : Channels P) (port slot : ℕ) → IsFree bank port slot → slot < length (slots_at bank port)
free_within bank port slot free = slice_get_within (slots_at bank port) slot None free

pub held_within : {P : Type 0} (slots : List (Option P)) (slot : ℕ) → IsSome (get_or slots slot None) → slot < length slots
held_within [] slot held = cc
held_within (packet ∷ slots) zero held = omega arith
held_within (packet ∷ slots) (suc slot) held = let below = held_within slots slot held in omega arith

-- ---- the same of what a call left after
pub written_only : {P : Type 0} (bank new : Channels P) (port slot : ℕ) (packet : Option P) → new ≡ with_packet bank port slot packet → slot < length (slots_at bank port) → ChangesOnly bank new port slot packet
written_only bank new port slot packet is inside = rw is (ChangesOnly-with_packet bank port slot packet inside)
