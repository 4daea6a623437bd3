-- The channels of all routers, read and changed by their places.
use Rattle.std.proofs.Common.{◌≡◌, ◌≢◌, ◌⊎◌, ℕ, zero, suc, ◌+◌, ◌<◌, ◌≤◌, refl, sym, ◌∙◌, ap, subst, arith, inl, inr, ⊎_elim, Option, Some, None, List, [], ◌∷◌, length, length-set, set, get_or, get_or-set_same, get_or-set_other}
use Rattle.std.specs.Prelude.{Bool, replicate, if◌then◌else◌}
use Rattle.std.specs.List.{sum_by}
use Rattle.std.proofs.lemmas.Bool.{cases_eq}
use Rattle.std.proofs.lemmas.List.Sums.{sum_by-cons}
use Rattle.std.proofs.Math.Nat.{zero-add}
use Rattle.vc_bank.specs.Channels.{Channels, slots_at, packet_at, with_packet, empty_channels}
use Rattle.vc_bank.specs.Places.{Network, slots, at, put, HasPlace, sum_from, weight, weigh, slot_count}
use Rattle.vc_bank.proofs.SlotWrites.{outer_within, held_within, packet_at-written, packet_at-other, length-slots_at-with_packet}
use Rattle.vc_bank.proofs.Weights.{sum_from-set, sum_from-found_at, sum_from-add, sum_from-le}

-- ---- the channels of one router
bank_within : {P : Type 0} (network : Network P) (r p i : ℕ) → HasPlace network r p i → r < length network
unfolding slots
bank_within network r p i inside = outer_within network r p (outer_within (get_or network r []) p i inside)

pub bank-put_same : {P : Type 0} (network : Network P) (r p i : ℕ) (packet : Option P) → HasPlace network r p i → get_or (put network r p i packet) r [] ≡ with_packet (get_or network r []) p i packet
unfolding put
bank-put_same network r p i packet inside = get_or-set_same network r (with_packet (get_or network r []) p i packet) [] (bank_within network r p i inside)

pub bank-put_other : {P : Type 0} (network : Network P) (r p i : ℕ) (packet : Option P) (n : ℕ) → n ≢ r → get_or (put network r p i packet) n [] ≡ get_or network n []
unfolding put
bank-put_other network r p i packet n other = get_or-set_other network r n (with_packet (get_or network r []) p i packet) [] other

-- ---- what a place has after a write
at-put_bank : {P : Type 0} (network : Network P) (r p i : ℕ) (packet : Option P) (q j : ℕ) → HasPlace network r p i → at (put network r p i packet) r q j ≡ packet_at (with_packet (get_or network r []) p i packet) q j
unfolding at
at-put_bank network r p i packet q j inside = ap (λ bank. packet_at bank q j) (bank-put_same network r p i packet inside)

pub at-put_same : {P : Type 0} (network : Network P) (r p i : ℕ) (packet : Option P) → HasPlace network r p i → at (put network r p i packet) r p i ≡ packet
unfolding slots
at-put_same network r p i packet inside = at-put_bank network r p i packet p i inside ∙ packet_at-written (get_or network r []) p i packet inside

-- another place: of another router, another port or another slot
abbrev pub Apart : ℕ → ℕ → ℕ → ℕ → ℕ → ℕ → Type 0
Apart r p i n q j = (n ≢ r) ⊎ ((q ≢ p) ⊎ (j ≢ i))

pub at-put_other : {P : Type 0} (network : Network P) (r p i : ℕ) (packet : Option P) (n q j : ℕ) → HasPlace network r p i → Apart r p i n q j → at (put network r p i packet) n q j ≡ at network n q j
unfolding at slots
at-put_other network r p i packet n q j inside (inl other) = ap (λ bank. packet_at bank q j) (bank-put_other network r p i packet n other)
at-put_other network r p i packet n q j inside (inr other) = ⊎_elim
    (λ same. subst (λ (m : ℕ). at (put network r p i packet) m q j ≡ at network m q j) (sym same)
    (at-put_bank network r p i packet q j inside ∙ packet_at-other (get_or network r []) p i packet q j inside other))
    (λ apart. ap (λ bank. packet_at bank q j) (bank-put_other network r p i packet n apart))
    (cases_eq n r)

-- two places are one or apart
pub one_or_apart : (r p i n q j : ℕ) → ((n ≡ r) × (q ≡ p) × (j ≡ i)) ⊎ Apart r p i n q j
one_or_apart r p i n q j = ⊎_elim
    (λ same_router. ⊎_elim
    (λ same_port. ⊎_elim (λ same_slot. inl (same_router, same_port, same_slot)) (λ slot. inr (inr (inr slot))) (cases_eq j i))
    (λ port. inr (inr (inl port)))
    (cases_eq q p))
    (λ router. inr (inl router))
    (cases_eq n r)

-- a packet that stands somewhere after a write is the one that was written, or stood there before
pub at-put : {P : Type 0} (network : Network P) (r p i : ℕ) (packet : Option P) (n q j : ℕ) (found : P) → HasPlace network r p i → at (put network r p i packet) n q j ≡ Some found
    → ((n ≡ r) × (q ≡ p) × (j ≡ i) × (packet ≡ Some found)) ⊎ (at network n q j ≡ Some found)
at-put network r p i packet n q j found inside stands = ⊎_elim
    (λ same. inl (same.0, same.1, same.2, sym (at-put_same network r p i packet inside) ∙ at_one (put network r p i packet) r p i n q j same.0 same.1 same.2 ∙ stands))
    (λ apart. inr (sym (at-put_other network r p i packet n q j inside apart) ∙ stands))
    (one_or_apart r p i n q j)
  where
    at_one : {P : Type 0} (network : Network P) (r p i n q j : ℕ) → n ≡ r → q ≡ p → j ≡ i → at network r p i ≡ at network n q j
    at_one network r p i n q j router port slot = rw (router, port, slot)

-- ---- a write keeps the places
pub length-slots-put : {P : Type 0} (network : Network P) (r p i : ℕ) (packet : Option P) (n q : ℕ) → HasPlace network r p i → length (slots (put network r p i packet) n q) ≡ length (slots network n q)
unfolding slots
length-slots-put network r p i packet n q inside = ⊎_elim
    (λ same. subst (λ (m : ℕ). length (slots (put network r p i packet) m q) ≡ length (slots network m q)) (sym same)
    (ap (λ bank. length (slots_at bank q)) (bank-put_same network r p i packet inside) ∙ length-slots_at-with_packet (get_or network r []) p i packet q inside))
    (λ apart. ap (λ bank. length (slots_at bank q)) (bank-put_other network r p i packet n apart))
    (cases_eq n r)

-- a place with a packet is there
pub place_of : {P : Type 0} (network : Network P) (r p i : ℕ) (packet : P) → at network r p i ≡ Some packet → HasPlace network r p i
unfolding at slots
place_of network r p i packet stands = held_within (slots_at (get_or network r []) p) i (rw stands)

-- ---- weights

-- a write changes the sum by what it takes out and what it puts in
pub weigh-put : {P : Type 0} (f : ℕ → ℕ → ℕ → P → ℕ) (network : Network P) (r p i : ℕ) (packet : Option P) → HasPlace network r p i
    → weigh f (put network r p i packet) + weight (f r p i) (at network r p i) ≡ weigh f network + weight (f r p i) packet
unfolding weigh put at slots
weigh-put f network r p i packet inside =
    let bank = get_or network r [] in
    let all = sum_from-set (λ router bank. sum_from (λ port slots. sum_from (λ slot packet. weight (f router port slot) packet) 0 slots) 0 bank) 0 network r (with_packet bank p i packet) [] (bank_within network r p i inside) in
    let ports = sum_from-set (λ port slots. sum_from (λ slot packet. weight (f r port slot) packet) 0 slots) 0 bank p (set (slots_at bank p) i packet) [] (outer_within bank p i inside) in
    let own = sum_from-set (λ slot packet. weight (f r p slot) packet) 0 (slots_at bank p) i packet None inside in
    let all_here = rw (zero-add r) at all in
    let ports_here = rw (zero-add p) at ports in
    let own_here = rw (zero-add i) at own in
    omega arith

-- taking a packet out takes its weight off the whole
pub weigh_at : {P : Type 0} (f : ℕ → ℕ → ℕ → P → ℕ) (network : Network P) (r p i : ℕ) (packet : P) → at network r p i ≡ Some packet → weigh f (put network r p i None) + f r p i packet ≡ weigh f network
weigh_at f network r p i packet stands =
    let change : weigh f (put network r p i None) + f r p i packet ≡ weigh f network + 0 =
    subst (λ (was : Option _). weigh f (put network r p i None) + weight (f r p i) was ≡ weigh f network + 0) stands (weigh-put f network r p i None (place_of network r p i packet stands)) in
    omega arith

-- two packets at places apart weigh at most the whole
pub weigh_two : {P : Type 0} (f : ℕ → ℕ → ℕ → P → ℕ) (network : Network P) (r p i n q j : ℕ) (first second : P) → at network r p i ≡ Some first → at network n q j ≡ Some second → Apart r p i n q j → f r p i first + f n q j second ≤ weigh f network
weigh_two f network r p i n q j first second stands stands_too apart =
    let without = weigh_at f network r p i first stands in
    let rest = weigh_at f (put network r p i None) n q j second (at-put_other network r p i None n q j (place_of network r p i first stands) apart ∙ stands_too) in
    omega arith

-- a sum that is positive has a packet that weighs
pub record Found {P : Type 0} (f : ℕ → ℕ → ℕ → P → ℕ) (network : Network P) : Type 0 where
  pub router : ℕ
  pub port : ℕ
  pub slot : ℕ
  pub packet : P
  pub stands : at network router port slot ≡ Some packet
  pub weighs : 0 < f router port slot packet

packet_of : {P : Type 0} (f : P → ℕ) (packet : Option P) → 0 < weight f packet → (found : P) × (packet ≡ Some found) × (0 < f found)
packet_of f None some = absurd (omega arith)
packet_of f (Some packet) some = (packet, refl, some)

pub found : {P : Type 0} (f : ℕ → ℕ → ℕ → P → ℕ) (network : Network P) → 0 < weigh f network → Found f network
unfolding weigh at
found f network some =
    let router = sum_from-found_at (λ router bank. sum_from (λ port slots. sum_from (λ slot packet. weight (f router port slot) packet) 0 slots) 0 bank) network [] some in
    let port = sum_from-found_at (λ port slots. sum_from (λ slot packet. weight (f router.0 port slot) packet) 0 slots) (get_or network router.0 []) [] router.2 in
    let slot = sum_from-found_at (λ slot packet. weight (f router.0 port.0 slot) packet) (slots_at (get_or network router.0 []) port.0) None port.2 in
    let packet = packet_of (f router.0 port.0 slot.0) (packet_at (get_or network router.0 []) port.0 slot.0) slot.2 in
    record {
      router = router.0;
      port = port.0;
      slot = slot.0;
      packet = packet.0;
      stands = packet.1;
      weighs = packet.2;
    }

-- where no packet weighs, the whole weighs nothing
pub weigh_none : {P : Type 0} (f : ℕ → ℕ → ℕ → P → ℕ) (network : Network P) → ((r p i : ℕ) (packet : P) → at network r p i ≡ Some packet → f r p i packet ≡ 0) → weigh f network ≡ 0
weigh_none f network none = ⊎_elim
    (λ nothing. nothing)
    (λ some. let heavy = found f network (omega arith) in absurd (let weighs = heavy.weighs in let nothing = none heavy.router heavy.port heavy.slot heavy.packet heavy.stands in omega arith))
    (cases_eq (weigh f network) 0)

-- weights that are sums, and weights that are less
pub weigh-add : {P : Type 0} (f g h : ℕ → ℕ → ℕ → P → ℕ) → ((r p i : ℕ) (packet : P) → f r p i packet ≡ g r p i packet + h r p i packet) → (network : Network P) → weigh f network ≡ weigh g network + weigh h network
unfolding weigh
weigh-add f g h parts network =
    sum_from-add _ _ _
    (λ r bank. sum_from-add _ _ _
    (λ p slots. sum_from-add _ _ _ (λ i packet. weight_add (f r p i) (g r p i) (h r p i) (parts r p i) packet) 0 slots)
    0 bank)
    0 network
  where
    weight_add : {P : Type 0} (f g h : P → ℕ) → ((packet : P) → f packet ≡ g packet + h packet) → (packet : Option P) → weight f packet ≡ weight g packet + weight h packet
    weight_add f g h parts None = refl
    weight_add f g h parts (Some packet) = parts packet

pub weigh-le : {P : Type 0} (f g : ℕ → ℕ → ℕ → P → ℕ) → ((r p i : ℕ) (packet : P) → f r p i packet ≤ g r p i packet) → (network : Network P) → weigh f network ≤ weigh g network
unfolding weigh
weigh-le f g below network =
    sum_from-le _ _
    (λ r bank. sum_from-le _ _
    (λ p slots. sum_from-le _ _ (λ i packet. weight_le (f r p i) (g r p i) (below r p i) packet) 0 slots)
    0 bank)
    0 network
  where
    weight_le : {P : Type 0} (f g : P → ℕ) → ((packet : P) → f packet ≤ g packet) → (packet : Option P) → weight f packet ≤ weight g packet
    weight_le f g below None = omega arith
    weight_le f g below (Some packet) = below packet

-- ---- sums of weights, and how many slots there are

-- the sum over several weights is the weight that is their sum
pub weigh-sum_by : {P X : Type 0} (f : X → ℕ → ℕ → ℕ → P → ℕ) (network : Network P) (names : List X) → sum_by (λ name. weigh (f name) network) names ≡ weigh (λ r p i packet. sum_by (λ name. f name r p i packet) names) network
weigh-sum_by f network [] = sym (weigh_none (λ r p i packet. sum_by (λ name. f name r p i packet) []) network (λ r p i packet stands. refl))
weigh-sum_by f network (name ∷ names) =
    let rest = weigh-sum_by f network names in
    let parts = weigh-add (λ r p i packet. sum_by (λ other. f other r p i packet) (name ∷ names)) (f name) (λ r p i packet. sum_by (λ other. f other r p i packet) names)
    (λ r p i packet. sum_by-cons (λ other. f other r p i packet) name names) network in
    omega (arith, sum_by-cons (λ other. weigh (f other) network) name names)

-- where each packet weighs at most one, the whole weighs at most as much as there are slots
pub weigh-slot_count : {P : Type 0} (f : ℕ → ℕ → ℕ → P → ℕ) → ((r p i : ℕ) (packet : P) → f r p i packet ≤ 1) → (network : Network P) → weigh f network ≤ slot_count network
unfolding weigh
weigh-slot_count f light network =
    sum_from-le _ _ (λ r bank. sum_from-le _ _ (λ p slots. weight_length (f r p) (light r p) 0 slots) 0 bank) 0 network
  where
    weight_length : {P : Type 0} (f : ℕ → P → ℕ) → ((i : ℕ) (packet : P) → f i packet ≤ 1) → (n : ℕ) (slots : List (Option P)) → sum_from (λ slot packet. weight (f slot) packet) n slots ≤ length slots
    weight_length f light n [] = omega arith
    weight_length f light n (None ∷ slots) = omega (arith, weight_length f light (suc n) slots)
    weight_length f light n (Some packet ∷ slots) = omega (arith, light n packet, weight_length f light (suc n) slots)

-- a write keeps the number of slots
pub slot_count-put : {P : Type 0} (network : Network P) (r p i : ℕ) (packet : Option P) → HasPlace network r p i → slot_count (put network r p i packet) ≡ slot_count network
unfolding put slots
slot_count-put network r p i packet inside =
    let bank = get_or network r [] in
    let all = sum_from-set (λ router bank. sum_from (λ port slots. length slots) 0 bank) 0 network r (with_packet bank p i packet) [] (bank_within network r p i inside) in
    let ports = sum_from-set (λ port slots. length slots) 0 bank p (set (slots_at bank p) i packet) [] (outer_within bank p i inside) in
    omega (arith, length-set (slots_at bank p) i packet)

-- ---- the channels of a router, as a call on its bank reads and changes them
pub at-bank : {P : Type 0} (network : Network P) (bank : Channels P) (r p i : ℕ) → bank ≡ get_or network r [] → packet_at bank p i ≡ at network r p i
unfolding at
at-bank network bank r p i is = ap (λ own. packet_at own p i) is

pub put-bank : {P : Type 0} (network : Network P) (bank : Channels P) (r p i : ℕ) (packet : Option P) → bank ≡ get_or network r [] → set network r (with_packet bank p i packet) ≡ put network r p i packet
unfolding put
put-bank network bank r p i packet is = ap (λ own. set network r (with_packet own p i packet)) is

pub slots-bank : {P : Type 0} (network : Network P) (bank : Channels P) (r p : ℕ) → bank ≡ get_or network r [] → slots_at bank p ≡ slots network r p
unfolding slots
slots-bank network bank r p is = ap (λ own. slots_at own p) is

-- ---- nothing stands in empty channels
get_or-empty : {P : Type 0} (count i : ℕ) → get_or {A = Option P} (replicate count None) i None ≡ None
get_or-empty zero i = refl
get_or-empty (suc count) zero = refl
get_or-empty (suc count) (suc i) = get_or-empty count i

pub packet_at-empty : {P : Type 0} (normal : ℕ) (reserved : Bool) (p i : ℕ) → packet_at {P = P} (empty_channels normal reserved) p i ≡ None
packet_at-empty normal reserved zero i = get_or-empty normal i
packet_at-empty normal reserved (suc zero) i = get_or-empty (normal + (if reserved then 1 else 0)) i
packet_at-empty normal reserved (suc (suc zero)) i = get_or-empty (normal + (if reserved then 1 else 0)) i
packet_at-empty normal reserved (suc (suc (suc zero))) i = get_or-empty (normal + (if reserved then 1 else 0)) i
packet_at-empty normal reserved (suc (suc (suc (suc zero)))) i = get_or-empty (normal + (if reserved then 1 else 0)) i
packet_at-empty normal reserved (suc (suc (suc (suc (suc p))))) i = refl

pub at-empty : {P : Type 0} (count normal : ℕ) (reserved : Bool) (r p i : ℕ) → at {P = P} (replicate count (empty_channels normal reserved)) r p i ≡ None
unfolding at
at-empty zero normal reserved r p i = refl
at-empty (suc count) normal reserved zero p i = packet_at-empty normal reserved p i
at-empty (suc count) normal reserved (suc r) p i = at-empty count normal reserved r p i
