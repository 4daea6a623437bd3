-- The channels of networks: a place is of a router, and its slot is one of few.
use Rattle.std.proofs.Common.{◌≡◌, ℕ, zero, suc, ◌+◌, ◌<◌, ◌≤◌, Bool, true, false, cond, [], length, ap, inl, inr, arith, Option, None}
use Rattle.std.proofs.lemmas.Bool.{cases_lt}
use Rattle.std.proofs.lemmas.List.{length-replicate, get_or_past}
use Rattle.std.proofs.lemmas.Option.{slice_get-get_or}
use Rattle.mesh_gen.specs.Grid.{Grid}
use Rattle.vc_bank.specs.Channels.{slots_at, empty_channels}
use Rattle.vc_bank.specs.Places.{Network, slots, HasPlace}
use Rattle.chip_model.specs.Copies.{channels_of}
use Rattle.chip_model.specs.NetworkShape.{HasChannels}

pub router_there : {P : Type 0} (net : Network P) (r p slot : ℕ) → HasPlace net r p slot → r < length net
unfolding slots
router_there net r p slot place = elim (cases_lt r (length net)) [
  | inl inside ↦ inside
  | inr past ↦ absurd (let none : length (slots_at (channels_of net r) p) ≡ 0 = ap (λ bank. length (slots_at bank p)) (get_or_past net r [] past) in omega (arith, place, none))
]

one_more : (reserved : Bool) → cond reserved 1 0 ≤ 1
one_more true = omega arith
one_more false = omega arith

empty_few : (P : Type 0) (normal : ℕ) (reserved : Bool) (p : ℕ) → length (slots_at (empty_channels {P = P} normal reserved) p) ≤ normal + 1
empty_few P normal reserved zero = let count = length-replicate {A = Option P} normal None in omega (arith, count)
empty_few P normal reserved (suc zero) = let count = length-replicate {A = Option P} (normal + cond reserved 1 0) None in omega (arith, count, one_more reserved)
empty_few P normal reserved (suc (suc zero)) = let count = length-replicate {A = Option P} (normal + cond reserved 1 0) None in omega (arith, count, one_more reserved)
empty_few P normal reserved (suc (suc (suc zero))) = let count = length-replicate {A = Option P} (normal + cond reserved 1 0) None in omega (arith, count, one_more reserved)
empty_few P normal reserved (suc (suc (suc (suc zero)))) = let count = length-replicate {A = Option P} (normal + cond reserved 1 0) None in omega (arith, count, one_more reserved)
empty_few P normal reserved (suc (suc (suc (suc (suc p))))) = omega arith

pub slot_few : {P : Type 0} (g : Grid) (normal : ℕ) (reserved : Bool) (net : Network P) (r p slot : ℕ) → HasChannels g normal reserved net → HasPlace net r p slot → slot < normal + 1
unfolding slots
slot_few {P} g normal reserved net r p slot have place =
    let there = slice_get-get_or net r [] (router_there net r p slot place) in
    omega (arith, place, have.slots r p (channels_of net r) there, empty_few P normal reserved p)
