-- The turns of a window's tiles: which requests they order, and what is left of those that are not ordered.
use Rattle.std.proofs.Common.{◌≡◌, ◌≢◌, ◌⊎◌, ℕ, zero, suc, ◌+◌, ◌-◌, ◌%◌, ◌<◌, ◌≤◌, Bool, true, false, ◌==◌, List, [], ◌∷◌, ◌++◌, length, drop, refl, sym, ◌∙◌, ap, inl, inr, append_assoc, append-nil, arith, Option, Some, None, length-append}
use Rattle.std.specs.Prelude.{filter, slice_get}
use Rattle.std.specs.List.{filter_map, cons_option}
use Rattle.std.proofs.lemmas.Bool.{cases_eq, cases_lt, cases_Bool, ne_eqb, eq-eqb}
use Rattle.std.proofs.lemmas.List.{map-append}
use Rattle.std.proofs.lemmas.List.Elements.{filter-append, filter_map-append}
use Rattle.circular_buffer.specs.Buffer.{Buffer}
use Rattle.mesh_gen.specs.declared.request.Request.{Request}
use Rattle.mesh_gen.specs.TileSet.{has_tile}
use Rattle.order_tracker.specs.Order.{upwards, round_from, expansion}
use Rattle.chip_model.specs.OrderedNetwork.{sources}
use Rattle.chip_model.specs.NetworkFits.{requests_of}
use Rattle.net_iface.specs.Unordered.{lowest_of, LoseLowest}
use Rattle.net_iface.proofs.Named.{requests_of-append}

-- the requests of some turns: `next` gives that of a tile
abbrev pub ordered_in : (ℕ → Option Request) → (ℕ → Bool) → List ℕ → List Request
ordered_in next posted turns = filter_map next (filter posted turns)

-- ---- turn by turn

pub ordered_in-append : (next : ℕ → Option Request) (posted : ℕ → Bool) (xs ys : List ℕ) → ordered_in next posted (xs ++ ys) ≡ ordered_in next posted xs ++ ordered_in next posted ys
ordered_in-append next posted xs ys = ap (filter_map next) (filter-append posted xs ys) ∙ filter_map-append next (filter posted xs) (filter posted ys)

one_request : (o : Option Request) → length (cons_option o []) ≤ 1
one_request None = omega arith
one_request (Some q) = omega arith

-- a turn orders one request at most
pub ordered_le : (next : ℕ → Option Request) (posted : ℕ → Bool) (t : ℕ) → length (ordered_in next posted (t ∷ [])) ≤ 1
ordered_le next posted t = elim (cases_Bool (posted t)) [ inl holds ↦ rw holds (one_request (next t)) | inr fails ↦ rw fails (omega arith) ]

pub all_ordered_le : (next : ℕ → Option Request) (posted : ℕ → Bool) (a c : ℕ) → length (ordered_in next posted (upwards a c)) ≤ c
all_ordered_le next posted a zero = omega arith
all_ordered_le next posted a (suc c) =
    let split = ap length (ordered_in-append next posted (a ∷ []) (upwards (a + 1) c)) in
    omega (arith, split, length-append (ordered_in next posted (a ∷ [])) (ordered_in next posted (upwards (a + 1) c)), ordered_le next posted a, all_ordered_le next posted (a + 1) c)

same_ordered : (next other : ℕ → Option Request) (posted : ℕ → Bool) (t : ℕ) → next t ≡ other t → ordered_in next posted (t ∷ []) ≡ ordered_in other posted (t ∷ [])
same_ordered next other posted t same = elim (cases_Bool (posted t)) [ inl holds ↦ rw holds (ap (λ (o : Option Request). cons_option o []) same) | inr fails ↦ rw fails refl ]

pub same_all_ordered : (next other : ℕ → Option Request) (posted : ℕ → Bool) (a c : ℕ) → ((u : ℕ) → a ≤ u → u < a + c → next u ≡ other u) → ordered_in next posted (upwards a c) ≡ ordered_in other posted (upwards a c)
same_all_ordered next other posted a zero same = refl
same_all_ordered next other posted a (suc c) same =
    ordered_in-append next posted (a ∷ []) (upwards (a + 1) c)
    ∙ ap (λ (rest : List Request). ordered_in next posted (a ∷ []) ++ rest) (same_all_ordered next other posted (a + 1) c (λ u low high. same u (omega arith) (omega arith)))
    ∙ ap (λ (first : List Request). first ++ ordered_in other posted (upwards (a + 1) c)) (same_ordered next other posted a (same a (omega arith) (omega arith)))
    ∙ sym (ordered_in-append other posted (a ∷ []) (upwards (a + 1) c))

-- one turn more is done, and the others are as they were
pub next_ordered : (posted : ℕ → Bool) (lists new : List (Buffer Request)) (before after : List Request) (t to : ℕ) → t < to
    → after ≡ before ++ ordered_in (lowest_of lists) posted (upwards t 1) → ((u : ℕ) → t < u → lowest_of new u ≡ lowest_of lists u)
    → after ++ ordered_in (lowest_of new) posted (upwards (t + 1) (to - (t + 1))) ≡ before ++ ordered_in (lowest_of lists) posted (upwards t (to - t))
next_ordered posted lists new before after t to inside is same =
    let left : to - t ≡ suc (to - (t + 1)) = omega arith in
    let rest = same_all_ordered (lowest_of new) (lowest_of lists) posted (t + 1) (to - (t + 1)) (λ u low high. same u (omega arith)) in
    rw left (
    ap (λ (rs : List Request). rs ++ ordered_in (lowest_of new) posted (upwards (t + 1) (to - (t + 1)))) is
    ∙ ap (λ (rs : List Request). (before ++ ordered_in (lowest_of lists) posted (t ∷ [])) ++ rs) rest
    ∙ append_assoc before (ordered_in (lowest_of lists) posted (t ∷ [])) (ordered_in (lowest_of lists) posted (upwards (t + 1) (to - (t + 1))))
    ∙ ap (λ (rs : List Request). before ++ rs) (sym (ordered_in-append (lowest_of lists) posted (t ∷ []) (upwards (t + 1) (to - (t + 1)))))
    )

-- ---- what is left

-- turns, and further ones after them
pub LoseLowest-behind : (from t to tiles : ℕ) (a b c : List (Buffer Request)) → from ≤ t → t ≤ to → LoseLowest from t tiles a b → LoseLowest t to tiles b c → LoseLowest from to tiles a c
LoseLowest-behind from t to tiles a b c low high first second = record {
  count = second.count ∙ first.count;
  lost = λ u above below there. elim (cases_lt u t) [
    | inl earlier ↦ second.outside u (inl earlier) ∙ first.lost u above earlier there
    | inr later ↦ second.lost u later below there ∙ ap (λ (list : Buffer Request). record { items = drop 1 list.items; capacity = list.capacity }) (first.outside u (inr later))
  ];
  left_out = λ u not_there. second.left_out u not_there ∙ first.left_out u not_there;
  outside = λ u out. elim out [
    | inl below ↦ second.outside u (inl (omega arith)) ∙ first.outside u (inl below)
    | inr above ↦ second.outside u (inr above) ∙ first.outside u (inr (omega arith))
  ];
}

-- what a round orders, in its two parts: the second part finds what the first has left
pub ordered_in_round : (n number set : ℕ) (lists mid : List (Buffer Request)) (before middle after : List Request) → 0 < n
    → middle ≡ before ++ ordered_in (lowest_of lists) (has_tile set) (upwards (number % n) (n - number % n))
    → after ≡ middle ++ ordered_in (lowest_of mid) (has_tile set) (upwards 0 (number % n - 0))
    → LoseLowest (number % n) n set lists mid
    → after ≡ before ++ filter_map (lowest_of lists) (expansion n number set)
ordered_in_round n number set lists mid before middle after some first second lose =
    let late = ordered_in (lowest_of lists) (has_tile set) (upwards (number % n) (n - number % n)) in
    let early = ordered_in (lowest_of lists) (has_tile set) (upwards 0 (number % n)) in
    let all : number % n - 0 ≡ number % n = omega arith in
    let same = same_all_ordered (lowest_of mid) (lowest_of lists) (has_tile set) 0 (number % n) (λ u low high. ap (λ (list : Buffer Request). slice_get list.items 0) (lose.outside u (inl (omega arith)))) in
    second
    ∙ ap (λ (c : ℕ). middle ++ ordered_in (lowest_of mid) (has_tile set) (upwards 0 c)) all
    ∙ ap (λ (rs : List Request). middle ++ rs) same
    ∙ ap (λ (rs : List Request). rs ++ early) first
    ∙ append_assoc before late early
    ∙ ap (λ (rs : List Request). before ++ rs) (sym (ordered_in-append (lowest_of lists) (has_tile set) (upwards (number % n) (n - number % n)) (upwards 0 (number % n))))

-- ---- the requests of one tile among those of some turns

-- a turn of another tile orders none of it, and that of the tile orders its own
source_of_other : (o : Option Request) (u t : ℕ) → u ≢ t → ((q : Request) → o ≡ Some q → q.source ≡ u) → requests_of t (cons_option o []) ≡ []
source_of_other None u t other from = refl
source_of_other (Some q) u t other from = let away : (q.source == t) ≡ false = ne_eqb q.source t (λ same. other (sym (from q refl) ∙ same)) in rw away refl

ordered_of_other : (next : ℕ → Option Request) (posted : ℕ → Bool) (u t : ℕ) → u ≢ t → ((q : Request) → next u ≡ Some q → q.source ≡ u) → requests_of t (ordered_in next posted (u ∷ [])) ≡ []
ordered_of_other next posted u t other from = elim (cases_Bool (posted u)) [ inl holds ↦ rw holds (source_of_other (next u) u t other from) | inr fails ↦ rw fails refl ]

module _ (next : ℕ → Option Request) (posted : ℕ → Bool) (from : (u : ℕ) (q : Request) → next u ≡ Some q → q.source ≡ u) where
  pub requests_of-turns_away : (a c t : ℕ) → (t < a) ⊎ (a + c ≤ t) → requests_of t (ordered_in next posted (upwards a c)) ≡ []
  requests_of-turns_away a zero t away = refl
  requests_of-turns_away a (suc c) t away =
      let apart : a ≢ t = λ same. elim away [ inl below ↦ absurd (omega arith) | inr above ↦ absurd (omega arith) ] in
      ap (requests_of t) (ordered_in-append next posted (a ∷ []) (upwards (a + 1) c))
      ∙ requests_of-append t (ordered_in next posted (a ∷ [])) (ordered_in next posted (upwards (a + 1) c))
      ∙ rw (ordered_of_other next posted a t apart (from a)) (requests_of-turns_away (a + 1) c t (elim away [ inl below ↦ inl (omega arith) | inr above ↦ inr (omega arith) ]))

  pub requests_of-turns_there : (a c t : ℕ) → a ≤ t → t < a + c → requests_of t (ordered_in next posted (upwards a c)) ≡ requests_of t (ordered_in next posted (t ∷ []))
  requests_of-turns_there a zero t low high = absurd (omega arith)
  requests_of-turns_there a (suc c) t low high =
      ap (requests_of t) (ordered_in-append next posted (a ∷ []) (upwards (a + 1) c))
      ∙ requests_of-append t (ordered_in next posted (a ∷ [])) (ordered_in next posted (upwards (a + 1) c))
      ∙ elim (cases_eq a t) [
        | inl here ↦
            rw (requests_of-turns_away (a + 1) c t (inl (omega arith))) (append-nil (requests_of t (ordered_in next posted (a ∷ []))) ∙ rw here refl)
        | inr other ↦ rw (ordered_of_other next posted a t other (from a)) (requests_of-turns_there (a + 1) c t (omega arith) (omega arith))
      ]

  -- in a round each tile has one turn
  pub requests_of-round : (n first t : ℕ) → first ≤ n → t < n → requests_of t (ordered_in next posted (round_from n first)) ≡ requests_of t (ordered_in next posted (t ∷ []))
  requests_of-round n first t within inside =
      let late = ordered_in next posted (upwards first (n - first)) in
      let early = ordered_in next posted (upwards 0 first) in
      ap (requests_of t) (ordered_in-append next posted (upwards first (n - first)) (upwards 0 first))
      ∙ requests_of-append t late early
      ∙ elim (cases_lt t first) [
        | inl before ↦ rw (requests_of-turns_away first (n - first) t (inl before)) (requests_of-turns_there 0 first t (omega arith) (omega arith))
        | inr behind ↦ rw (requests_of-turns_away 0 first t (inr (omega arith))) (append-nil (requests_of t late) ∙ requests_of-turns_there first (n - first) t behind (omega arith))
      ]

-- the turn of a tile that posted, and of one that did not
pub ordered_taken : (next : ℕ → Option Request) (posted : ℕ → Bool) (t : ℕ) (q : Request) → posted t ≡ true → next t ≡ Some q → q.source ≡ t → requests_of t (ordered_in next posted (t ∷ [])) ≡ q ∷ []
ordered_taken next posted t q holds is source = let own : (q.source == t) ≡ true = eq-eqb q.source t source in rw (holds, is, own) refl

pub ordered_passed : (next : ℕ → Option Request) (posted : ℕ → Bool) (t : ℕ) → posted t ≡ false → requests_of t (ordered_in next posted (t ∷ [])) ≡ []
ordered_passed next posted t fails = rw fails refl

-- ---- the sources of some turns

source_of_ordered : (next : ℕ → Option Request) (posted : ℕ → Bool) (t : ℕ) → (posted t ≡ true → (q : Request) × (next t ≡ Some q) × (q.source ≡ t)) → sources (ordered_in next posted (t ∷ [])) ≡ filter posted (t ∷ [])
source_of_ordered next posted t each = elim (cases_Bool (posted t)) [
  | inl holds ↦ let turn = each holds in rw (holds, turn.1) (ap (λ (s : ℕ). s ∷ []) turn.2)
  | inr fails ↦ rw fails refl
]

sources-turns : (next : ℕ → Option Request) (posted : ℕ → Bool) (a c : ℕ) → ((t : ℕ) → a ≤ t → t < a + c → posted t ≡ true → (q : Request) × (next t ≡ Some q) × (q.source ≡ t))
    → sources (ordered_in next posted (upwards a c)) ≡ filter posted (upwards a c)
sources-turns next posted a zero each = refl
sources-turns next posted a (suc c) each =
    ap sources (ordered_in-append next posted (a ∷ []) (upwards (a + 1) c))
    ∙ map-append (λ (q : Request). q.source) (ordered_in next posted (a ∷ [])) (ordered_in next posted (upwards (a + 1) c))
    ∙ ap (λ (rest : List ℕ). sources (ordered_in next posted (a ∷ [])) ++ rest) (sources-turns next posted (a + 1) c (λ t low high. each t (omega arith) (omega arith)))
    ∙ ap (λ (first : List ℕ). first ++ filter posted (upwards (a + 1) c)) (source_of_ordered next posted a (each a (omega arith) (omega arith)))
    ∙ sym (filter-append posted (a ∷ []) (upwards (a + 1) c))

-- where each tile that posted has a request, the sources are the tiles by the rotating priority
pub sources-expansion : (n number set : ℕ) (next : ℕ → Option Request) → 0 < n → ((t : ℕ) → t < n → has_tile set t ≡ true → (q : Request) × (next t ≡ Some q) × (q.source ≡ t))
    → sources (filter_map next (expansion n number set)) ≡ expansion n number set
sources-expansion n number set next some each =
    let first : number % n < n = omega arith in
    let late = upwards (number % n) (n - number % n) in
    let early = upwards 0 (number % n) in
    ap sources (ordered_in-append next (has_tile set) late early)
    ∙ map-append (λ (q : Request). q.source) (ordered_in next (has_tile set) late) (ordered_in next (has_tile set) early)
    ∙ ap (λ (ts : List ℕ). ts ++ sources (ordered_in next (has_tile set) early)) (sources-turns next (has_tile set) (number % n) (n - number % n) (λ t low high. each t (omega arith)))
    ∙ ap (λ (ts : List ℕ). filter (has_tile set) late ++ ts) (sources-turns next (has_tile set) 0 (number % n) (λ t low high. each t (omega arith)))
    ∙ sym (filter-append (has_tile set) late early)

-- tiles with the same requests, and how many requests a window orders at most
pub same_expansion : (n number set : ℕ) (next other : ℕ → Option Request) → 0 < n → ((t : ℕ) → t < n → next t ≡ other t) → filter_map next (expansion n number set) ≡ filter_map other (expansion n number set)
same_expansion n number set next other some same =
    let first : number % n < n = omega arith in
    let late = upwards (number % n) (n - number % n) in
    let early = upwards 0 (number % n) in
    ordered_in-append next (has_tile set) late early
    ∙ ap (λ (rs : List Request). rs ++ ordered_in next (has_tile set) early) (same_all_ordered next other (has_tile set) (number % n) (n - number % n) (λ t low high. same t (omega arith)))
    ∙ ap (λ (rs : List Request). ordered_in other (has_tile set) late ++ rs) (same_all_ordered next other (has_tile set) 0 (number % n) (λ t low high. same t (omega arith)))
    ∙ sym (ordered_in-append other (has_tile set) late early)

pub expansion_le : (n number set : ℕ) (next : ℕ → Option Request) → 0 < n → length (filter_map next (expansion n number set)) ≤ n
expansion_le n number set next some =
    let first : number % n < n = omega arith in
    let late = upwards (number % n) (n - number % n) in
    let early = upwards 0 (number % n) in
    let split = ap length (ordered_in-append next (has_tile set) late early) in
    omega (
      arith,
      first,
      split,
      length-append (ordered_in next (has_tile set) late) (ordered_in next (has_tile set) early),
      all_ordered_le next (has_tile set) (number % n) (n - number % n),
      all_ordered_le next (has_tile set) 0 (number % n),
    )

-- a window orders one request of each tile at most
pub window_le : (next : ℕ → Option Request) (n k set : ℕ) → 0 < n → length (filter_map next (expansion n k set)) ≤ n
window_le next n k set some =
    let first = k % n in
    let below : first < n = omega arith in
    let split = ap length (ordered_in-append next (has_tile set) (upwards first (n - first)) (upwards 0 first)) in
    let whole = length-append (ordered_in next (has_tile set) (upwards first (n - first))) (ordered_in next (has_tile set) (upwards 0 first)) in
    let later = all_ordered_le next (has_tile set) first (n - first) in
    let earlier = all_ordered_le next (has_tile set) 0 first in
    omega arith
