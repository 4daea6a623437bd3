-- Once nothing moves, further passes change nothing: so all lists of passes that settle lead to one network.
use Rattle.std.proofs.Common.{◌≡◌, ℕ, zero, suc, ◌+◌, ◌-◌, ◌≤◌, refl, sym, ◌∙◌, ap, subst, arith, inl, inr, List, [], ◌∷◌}
use Rattle.std.proofs.lemmas.Bool.{cases_lt}
use Rattle.chip_model.specs.Chip.{Chip}
use Rattle.chip_model.specs.OrderedNetwork.{OrderedNetwork}
use Rattle.chip_model.specs.Delivery.{network_swept, request_slots, passes, window_events, IsQuiet, Delivers}
use Rattle.chip_model.specs.Delivery.Delivers.{done, window}
use Rattle.net_iface.specs.Moves.{most_moves}
use Rattle.broadcast.specs.Settled.{settled}

-- passes through a network in which nothing moves
passes_still : (chip : Chip) (count : ℕ) (net : OrderedNetwork) → IsQuiet chip net → passes chip count net ≡ net
unfolding passes
passes_still chip zero net still = refl
passes_still chip (suc count) net still = ap (passes chip count) still ∙ passes_still chip count net still

passes_join : (chip : Chip) (first second : ℕ) (net : OrderedNetwork) → passes chip (first + second) net ≡ passes chip second (passes chip first net)
unfolding passes
passes_join chip zero second net = let same : 0 + second ≡ second = omega arith in ap (λ (n : ℕ). passes chip n net) same
passes_join chip (suc first) second net =
    let next : suc first + second ≡ suc (first + second) = omega arith in
    rw next (passes_join chip first second (network_swept chip net (request_slots chip)))

-- more passes than settle a network lead to the same
pub passes_enough : (chip : Chip) (count most : ℕ) (net last : OrderedNetwork) → passes chip count net ≡ last → IsQuiet chip last → count ≤ most → passes chip most net ≡ last
passes_enough chip count most net last passed still enough =
    let parts : most ≡ count + (most - count) = omega arith in
    ap (λ (n : ℕ). passes chip n net) parts
    ∙ passes_join chip count (most - count) net
    ∙ ap (passes chip (most - count)) passed
    ∙ passes_still chip (most - count) last still

pub settled_is : (chip : Chip) (count : ℕ) (net last : OrderedNetwork) → passes chip count net ≡ last → IsQuiet chip last → count ≤ most_moves chip net → settled chip net ≡ last
unfolding settled
settled_is chip count net last passed still few = passes_enough chip count (most_moves chip net) net last passed still few

-- so two networks that passes settle are one
one_settled : (chip : Chip) (m n : ℕ) (net a b : OrderedNetwork) → passes chip m net ≡ a → IsQuiet chip a → passes chip n net ≡ b → IsQuiet chip b → a ≡ b
one_settled chip m n net a b first still_a second still_b = elim (cases_lt m n) [
  | inl fewer ↦ sym (passes_enough chip m n net a first still_a (omega arith)) ∙ second
  | inr as_many ↦ sym first ∙ passes_enough chip n m net b second still_b as_many
]

-- window after window
pub delivers_one : (chip : Chip) (windows : List (List ℕ)) (net a b : OrderedNetwork) → Delivers chip windows net a → Delivers chip windows net b → a ≡ b
delivers_one chip [] net a b done done = refl
delivers_one chip (tiles ∷ rest) net a b (window {settled = x} m first still_x later) (window {settled = y} n second still_y last) =
    let same : x ≡ y = one_settled chip m n (network_swept chip net (window_events chip tiles)) x y first still_x second still_y in
    delivers_one chip rest x a b later (subst (λ (net : OrderedNetwork). Delivers chip rest net b) (sym same) last)
