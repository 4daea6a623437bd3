-- What a call on one router's channels says of the channels of all routers.
use Rattle.std.proofs.Common.{◌≡◌, ℕ, ◌≤◌, sym, ◌∙◌, ap, subst, arith, Bool, true, false, Option, None, [], length, set, get_or}
use Rattle.std.specs.Prelude.{IsSome, is_none}
use Rattle.std.specs.Bool.{OnTrue}
use Rattle.std.specs.List.{list_all}
use Rattle.std.proofs.lemmas.List.{get_or_past}
use Rattle.vc_bank.specs.Channels.{Channels, slots_at, packet_at, with_packet}
use Rattle.vc_bank.specs.Places.{Network, slots, at, put, vacant}
use Rattle.vc_bank.proofs.PlaceLaws.{at-bank, put-bank, slots-bank}
use Rattle.vc_bank.proofs.PacketCounts.{at-vacant}

own_bank : {P : Type 0} (net : Network P) (k r : ℕ) (bank : Channels P) → k ≡ r → bank ≡ get_or net k [] → bank ≡ get_or net r []
own_bank {P} net k r bank same is = is ∙ ap (λ (n : ℕ). get_or net n []) same

pub read_in : {P : Type 0} (net : Network P) (k r p i : ℕ) (bank : Channels P) (found : Option P) → k ≡ r → bank ≡ get_or net k [] → found ≡ packet_at bank p i → found ≡ at net r p i
read_in {P} net k r p i bank found same is reads = reads ∙ at-bank net bank r p i (own_bank net k r bank same is)

pub read_past : {P : Type 0} (net : Network P) (k r p i : ℕ) → k ≡ r → length net ≤ k → None ≡ at net r p i
unfolding at
read_past {P} net k r p i same past = rw (get_or_past net r [] (omega arith))

pub write_in : {P : Type 0} (net : Network P) (k r p i : ℕ) (bank new : Channels P) (packet : Option P) → k ≡ r → bank ≡ get_or net k [] → new ≡ with_packet bank p i packet → set net k new ≡ put net r p i packet
write_in {P} net k r p i bank new packet same is made =
    ap (λ (n : ℕ). set net n new) same ∙ ap (λ (own : Channels P). set net r own) made ∙ put-bank net bank r p i packet (own_bank net k r bank same is)

pub held_in : {P : Type 0} (net : Network P) (k r p i : ℕ) (bank : Channels P) → k ≡ r → bank ≡ get_or net k [] → IsSome (at net r p i) → IsSome (packet_at bank p i)
held_in {P} net k r p i bank same is held = subst (λ (packet : Option P). IsSome packet) (sym (at-bank net bank r p i (own_bank net k r bank same is))) held

pub held_past : {P : Type 0} (net : Network P) (k r p i : ℕ) → k ≡ r → length net ≤ k → IsSome (at net r p i) → ⊥
held_past {P} net k r p i same past held = let none = subst (λ (packet : Option P). IsSome packet) (sym (read_past net k r p i same past)) held in cc

-- ---- the slots of a port, of which a call says whether all are empty
pub vacant_in : {P : Type 0} (net : Network P) (k r p : ℕ) (bank : Channels P) → k ≡ r → bank ≡ get_or net k [] → list_all is_none (slots_at bank p) ≡ vacant net r p
unfolding vacant
vacant_in net k r p bank same is = ap (list_all is_none) (slots-bank net bank r p (own_bank net k r bank same is))

pub vacant_past : {P : Type 0} (net : Network P) (k r p : ℕ) → k ≡ r → length net ≤ k → true ≡ vacant net r p
unfolding vacant slots
vacant_past net k r p same past = rw (get_or_past net r [] (omega arith))

pub vacant_at : {P : Type 0} (net : Network P) (r p : ℕ) (answer : Bool) → answer ≡ vacant net r p → OnTrue answer ((i : ℕ) → at net r p i ≡ None)
vacant_at net r p true is = λ i. at-vacant net r p i (sym is)
vacant_at net r p false is = tt
