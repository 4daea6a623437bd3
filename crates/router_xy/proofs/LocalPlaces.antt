-- The first channel of a router that owes its own tile.
use Rattle.std.proofs.Common.{◌≡◌, ℕ, suc, zero, ◌+◌, ◌<◌, ◌≤◌, ◌↔◌, true, false, refl, sym, ◌∙◌, ap, subst, arith, ⊎_elim, Option, Some, None, List, [], ◌∷◌, length, get_or}
use Rattle.std.specs.Prelude.{option_map, is_none, is_some}
use Rattle.std.specs.Option.{option_or}
use Rattle.std.proofs.lemmas.List.Quantifiers.{position-Some}
use Rattle.std.specs.List.{list_all, position, position_or_len}
use Rattle.std.proofs.lemmas.Bool.{lt-ltb, le-ltb, true≢false, cases_lt, and_parts, and_from}
use Rattle.std.proofs.lemmas.List.{get_or_past}
use Rattle.std.proofs.lemmas.List.Sums.{position_or_len_is, fails_before_first}
use Rattle.std.proofs.Math.Nat.{zero-add}
use Rattle.mesh_gen.specs.declared.port.Port.{Port}
use Rattle.mesh_gen.specs.declared.port.Port.TheVariants.{L}
use Rattle.mesh_gen.specs.Ports.{port_number}
use Rattle.vc_bank.specs.Channels.{Channels, packet_at}
use Rattle.vc_bank.specs.Places.{Network, at}
use Rattle.chip_model.specs.declared.net_copy.NetCopy.{NetCopy}
use Rattle.chip_model.specs.Copies.{Name, is_named, owes, owes_tile, local_place_from, local_place}
use Rattle.router_xy.specs.LocalCopies.{HasLocalCopy}
use Rattle.router_xy.specs.RequestNetwork.{numbered}

-- ---- the first slot of a port

-- a slot that owes is there
owing_within : (name : Name) (slots : List (Option NetCopy)) (k : ℕ) → owes_tile name (get_or slots k None) ≡ true → k < length slots
owing_within name [] k owed = cc
owing_within name (packet ∷ slots) zero owed = omega arith
owing_within name (packet ∷ slots) (suc k) owed = let below = owing_within name slots k owed in omega arith

pub first_owing : (name : Name) (slots : List (Option NetCopy)) (k : ℕ) → ((j : ℕ) → j < k → owes_tile name (get_or slots j None) ≡ false) → owes_tile name (get_or slots k None) ≡ true → position (owes_tile name) slots ≡ Some k
first_owing name slots k before owed =
    let inside = owing_within name slots k owed in
    let is : position_or_len (owes_tile name) slots ≡ k = position_or_len_is (owes_tile name) slots k None (omega arith) before (λ there. owed) in
    rw (is, lt-ltb _ _ inside)

pub none_owing : (name : Name) (slots : List (Option NetCopy)) → ((j : ℕ) → j < length slots → owes_tile name (get_or slots j None) ≡ false) → position (owes_tile name) slots ≡ None
none_owing name slots before =
    let is : position_or_len (owes_tile name) slots ≡ length slots = position_or_len_is (owes_tile name) slots (length slots) None (omega arith) before (λ past. absurd (omega arith)) in
    rw (is, le-ltb (length slots) (length slots) (omega arith))

-- none owes in an empty port
pub none_vacant : (name : Name) (slots : List (Option NetCopy)) → list_all is_none slots ≡ true → position (owes_tile name) slots ≡ None
none_vacant name slots vacant = none_owing name slots (λ j below. owes_none slots j vacant)
  where
    owes_none : (slots : List (Option NetCopy)) (j : ℕ) → list_all is_none slots ≡ true → owes_tile name (get_or slots j None) ≡ false
    owes_none [] j vacant = refl
    owes_none (None ∷ slots) zero vacant = refl
    owes_none (None ∷ slots) (suc j) vacant = owes_none slots j vacant
    owes_none (Some copy ∷ slots) j vacant = cc

-- ---- the first place of a router

-- such a place has a copy that owes the tile
owing_there : (name : Name) (port : ℕ) (channels : Channels NetCopy) (p slot : ℕ) → local_place_from name port channels ≡ Some (p, slot) → (k : ℕ) × (p ≡ port + k) × (owes_tile name (packet_at channels k slot) ≡ true)
owing_there name port [] p slot found = cc
owing_there name port (slots ∷ channels) p slot found = by (λ is. owing_there name (suc port) channels p slot is) (position (owes_tile name) slots) refl found
  where
    by : (local_place_from name (suc port) channels ≡ Some (p, slot) → (k : ℕ) × (p ≡ suc port + k) × (owes_tile name (packet_at channels k slot) ≡ true))
        → (first : Option ℕ) → position (owes_tile name) slots ≡ first → option_or (option_map (λ slot. (port, slot)) first) (local_place_from name (suc port) channels) ≡ Some (p, slot)
        → (k : ℕ) × (p ≡ port + k) × (owes_tile name (packet_at (slots ∷ channels) k slot) ≡ true)
    by rest (Some i) first is =
        let same : ◌≡◌ {A = ℕ × ℕ} (port, i) (p, slot) = cc in
        (0, sym (ap (λ (place : ℕ × ℕ). place.0) same) ∙ plus_zero port, subst (λ (j : ℕ). owes_tile name (get_or slots j None) ≡ true) (ap (λ (place : ℕ × ℕ). place.1) same) (position-Some (owes_tile name) slots i None first).1)
      where
        plus_zero : (n : ℕ) → n ≡ n + 0
        plus_zero n = omega arith
    by rest None first is = let later = rest is in (suc later.0, later.1 ∙ next_port port later.0, later.2)
      where
        next_port : (n k : ℕ) → suc n + k ≡ n + suc k
        next_port n k = omega arith

copy_of : (name : Name) (packet : Option NetCopy) → owes_tile name packet ≡ true → (copy : NetCopy) × (packet ≡ Some copy) × (is_named name copy.request ≡ true) × (owes copy L ≡ true)
copy_of name None owed = cc
copy_of name (Some copy) owed = let parts = and_parts _ _ owed in (copy, refl, parts.0, parts.1)

pub local_stands : (net : Network NetCopy) (r : ℕ) (name : Name) (p slot : ℕ) → local_place net r name ≡ Some (p, slot) → (copy : NetCopy) × (at net r p slot ≡ Some copy) × (is_named name copy.request ≡ true) × (owes copy L ≡ true)
unfolding local_place at
local_stands net r name p slot found =
    let there = owing_there name 0 (get_or net r []) p slot found in
    let k_is : there.0 ≡ p = sym (zero-add there.0) ∙ sym there.1 in
    copy_of name (packet_at (get_or net r []) p slot) (subst (λ (k : ℕ). owes_tile name (packet_at (get_or net r []) k slot) ≡ true) k_is there.2)

-- a slot that owes is found, or one before it
slot_found : (name : Name) (slots : List (Option NetCopy)) (i : ℕ) → owes_tile name (get_or slots i None) ≡ true → is_some (position (owes_tile name) slots) ≡ true
slot_found name slots i owed =
    let inside = owing_within name slots i owed in
    ⊎_elim
    (λ found. rw (lt-ltb (position_or_len (owes_tile name) slots) (length slots) found))
    (λ past. let not_owing = fails_before_first (owes_tile name) slots i None (omega arith) in absurd (true≢false (sym owed ∙ not_owing)))
    (cases_lt (position_or_len (owes_tile name) slots) (length slots))

either : {X : Type 0} (first second : Option X) → is_some first ≡ true → is_some (option_or first second) ≡ true
either None second is = cc
either (Some x) second is = refl

or_else : {X : Type 0} (first second : Option X) → is_some second ≡ true → is_some (option_or first second) ≡ true
or_else None second is = is
or_else (Some x) second is = refl

mapped : {X Y : Type 0} (f : X → Y) (found : Option X) → is_some found ≡ true → is_some (option_map f found) ≡ true
mapped f None is = cc
mapped f (Some x) is = refl

place_found : (name : Name) (port : ℕ) (channels : Channels NetCopy) (k slot : ℕ) → owes_tile name (packet_at channels k slot) ≡ true → is_some (local_place_from name port channels) ≡ true
place_found name port [] k slot owed = cc
place_found name port (slots ∷ channels) zero slot owed = either _ _ (mapped (λ slot. (port, slot)) (position (owes_tile name) slots) (slot_found name slots slot owed))
place_found name port (slots ∷ channels) (suc k) slot owed = or_else _ _ (place_found name (suc port) channels k slot owed)

is_there : {X : Type 0} (found : Option X) → is_some found ≡ true → (x : X) × (found ≡ Some x)
is_there None is = cc
is_there (Some x) is = (x, refl)

-- a router has a copy for its own tile exactly where such a place is found
pub local_found : (net : Network NetCopy) (r : ℕ) (name : Name) → (is_some (local_place net r name) ≡ true) ↔ HasLocalCopy net r name
unfolding local_place at
local_found net r name = (from_place, to_place)
  where
    from_place : is_some (local_place net r name) ≡ true → HasLocalCopy net r name
    from_place is =
        let place = is_there (local_place net r name) is in
        let copy = local_stands net r name place.0.0 place.0.1 place.1 in
        record { port = place.0.0; slot = place.0.1; copy = copy.0; stands = copy.1; is_named = copy.2; owed = copy.3 }

    to_place : HasLocalCopy net r name → is_some (local_place net r name) ≡ true
    to_place has = place_found name 0 (get_or net r []) has.port has.slot (subst (λ (packet : Option NetCopy). owes_tile name packet ≡ true) (sym has.stands) (and_from _ _ has.is_named has.owed))

-- ---- what a search of a router found
pub local_in : (read net : Network NetCopy) (k r : ℕ) (bank : Channels NetCopy) (name : Name) (place : Option (ℕ × ℕ)) → read ≡ net → k ≡ r → bank ≡ get_or read k [] → place ≡ local_place_from name 0 bank → place ≡ local_place net r name
unfolding local_place
local_in read net k r bank name place same at_r is found =
    found ∙ ap (local_place_from name 0) (is ∙ ap (λ (n : ℕ). get_or read n []) at_r ∙ ap (λ (net : Network NetCopy). get_or net r []) same)

pub local_past : (read net : Network NetCopy) (k r : ℕ) (name : Name) → read ≡ net → k ≡ r → length read ≤ k → None ≡ local_place net r name
unfolding local_place
local_past read net k r name same at_r past = rw (← same, get_or_past read r [] (omega arith))

pub seen_place : (net : Network NetCopy) (r : ℕ) (name : Name) (answer : Option (Port × ℕ)) (port : Port) (slot : ℕ) → numbered answer ≡ local_place net r name → answer ≡ Some (port, slot) → local_place net r name ≡ Some (port_number port, slot)
seen_place net r name answer port slot is found = sym is ∙ ap numbered found
