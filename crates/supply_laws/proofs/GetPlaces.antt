-- The place of the get for which a tile waits: that of its ordered demand, and else its first get that it has not delivered.
use Rattle.std.proofs.Common.{◌≡◌, ℕ, zero, suc, ◌+◌, ◌-◌, ◌<◌, ◌≤◌, Bool, true, false, refl, sym, ◌∙◌}
use Rattle.std.proofs.Common.{ap, subst, arith, inl, inr, ◌⊎◌, Option, Some, None, List, [], ◌∷◌, drop, length, length-drop, get_or}
use Rattle.std.specs.Prelude.{◌==◌, ◌&&◌, is_some, slice_get, position, option_map}
use Rattle.std.specs.List.{count_by}
use Rattle.std.specs.Option.{option_or}
use Rattle.std.proofs.lemmas.Bool.{false≢true, and_parts, eq-eqb, eqb-true, cases_eq, cases_lt}
use Rattle.std.proofs.lemmas.List.{get_or-drop}
use Rattle.std.proofs.lemmas.List.Quantifiers.{position-Some}
use Rattle.std.proofs.lemmas.Option.{slice_get_within, get_or_from_slice_get, slice_get-get_or}
use Rattle.mesh_gen.specs.declared.kind.Kind.TheVariants.{GetS}
use Rattle.mesh_gen.specs.declared.request.Request.{Request}
use Rattle.mesh_gen.specs.Ports.{count_if}
use Rattle.chip_model.specs.Misses.{Demand}
use Rattle.chip_model.specs.Node.{Node}
use Rattle.chip_model.specs.Bookkeeping.{is_get, is_get_of}
use Rattle.chip_model.specs.Suppliers.{is_ordered, place_of_ordered}
use Rattle.line_cache.proofs.First.{position-None}
use Rattle.chip_laws.proofs.Options.{none_some}
use Rattle.chip_laws.proofs.SupplyCounts.{count_by-cons}
use Rattle.chip_laws.proofs.SuppliedComes.{OneOpen}

-- whose get it is
pub get_parts : (t : ℕ) (q : Request) → is_get_of t q ≡ true → (is_get q.kind ≡ true) × (q.source ≡ t)
get_parts t q is = let parts = and_parts (is_get q.kind) (q.source == t) is in (parts.0, eqb-true q.source t parts.1)

pub get_of : (t : ℕ) (q : Request) → is_get q.kind ≡ true → q.source ≡ t → is_get_of t q ≡ true
get_of t q asks source = ap (λ (b : Bool). b && (q.source == t)) asks ∙ eq-eqb q.source t source

-- ---- the first get of a tile from a place on
pub record FirstGet (ordered : List Request) (t from place : ℕ) : Type 0 where
  pub get : Request
  pub at : slice_get ordered place ≡ Some get
  pub gets : is_get_of t get ≡ true
  pub beyond : from ≤ place
  pub first : (k : ℕ) (q : Request) → from ≤ k → k < place → slice_get ordered k ≡ Some q → is_get_of t q ≡ false

-- no get of the tile stands from a place on
abbrev pub NoGet : List Request → ℕ → ℕ → Type 0
NoGet ordered t from = (k : ℕ) (q : Request) → from ≤ k → slice_get ordered k ≡ Some q → is_get_of t q ≡ false

abbrev pub FirstGetIs : List Request → ℕ → ℕ → Option ℕ → Type 0
FirstGetIs ordered t from None = NoGet ordered t from
FirstGetIs ordered t from (Some place) = FirstGet ordered t from place

abbrev pub first_get : List Request → ℕ → ℕ → Option ℕ
first_get ordered t from = option_map (λ place. from + place) (position (is_get_of t) (drop from ordered))

no_request : Request
no_request = record { source = 0; number = 0; kind = GetS; line = 0 }

pub first_get_is : (ordered : List Request) (t from : ℕ) → FirstGetIs ordered t from (first_get ordered t from)
first_get_is ordered t from = by (position (is_get_of t) (drop from ordered)) refl where
  there : (j k : ℕ) (q : Request) → from + j ≡ k → slice_get ordered k ≡ Some q → get_or (drop from ordered) j no_request ≡ q
  there j k q is at = get_or-drop from ordered j no_request ∙ ap (λ i. get_or ordered i no_request) is ∙ get_or_from_slice_get ordered k q no_request at

  by : (o : Option ℕ) → position (is_get_of t) (drop from ordered) ≡ o → FirstGetIs ordered t from (option_map (λ place. from + place) o)
  by None is = λ k q beyond at.
      let within = slice_get_within ordered k q at in
      let sum : from + (k - from) ≡ k = omega (arith, beyond) in
      let none = position-None (is_get_of t) (drop from ordered) no_request is (k - from) (omega (arith, beyond, within, length-drop from ordered)) in
      sym (ap (is_get_of t) (there (k - from) k q sum at)) ∙ none
  by (Some i) is =
      let found = position-Some (is_get_of t) (drop from ordered) i no_request is in
      let within : from + i < length ordered = omega (arith, found.0, length-drop from ordered) in
      let at = slice_get-get_or ordered (from + i) no_request within in
      record {
        get = get_or ordered (from + i) no_request;
        at = at;
        gets = sym (ap (is_get_of t) (get_or-drop from ordered i no_request)) ∙ found.1;
        beyond = omega arith;
        first = λ k q beyond before at.
            let sum : from + (k - from) ≡ k = omega (arith, beyond) in
            sym (ap (is_get_of t) (there (k - from) k q sum at)) ∙ found.2 (k - from) (omega (arith, beyond, before));
      }

not_both : {P : Type 0} (ordered : List Request) (t from place other : ℕ) → FirstGet ordered t from place → FirstGet ordered t from other → place < other → P
not_both ordered t from place other is also before = absurd (false≢true (sym (also.first place is.get is.beyond before is.at) ∙ is.gets))

first_only : (ordered : List Request) (t from place : ℕ) (o : Option ℕ) → FirstGet ordered t from place → FirstGetIs ordered t from o → o ≡ Some place
first_only ordered t from place None is none = absurd (false≢true (sym (none place is.get is.beyond is.at) ∙ is.gets))
first_only ordered t from place (Some other) is also = elim (cases_eq other place) [
  | inl same ↦ ap Some same
  | inr away ↦ elim (cases_lt other place) [
    | inl before ↦ not_both ordered t from other place also is before
    | inr beyond ↦ not_both ordered t from place other is also (omega (arith, beyond, away))
  ]
]

pub first_get_at : (ordered : List Request) (t from place : ℕ) → FirstGet ordered t from place → first_get ordered t from ≡ Some place
first_get_at ordered t from place is = first_only ordered t from place (first_get ordered t from) is (first_get_is ordered t from)

none_only : (ordered : List Request) (t from : ℕ) (o : Option ℕ) → NoGet ordered t from → FirstGetIs ordered t from o → o ≡ None
none_only ordered t from None none is = refl
none_only ordered t from (Some place) none is = absurd (false≢true (sym (none place is.get is.beyond is.at) ∙ is.gets))

pub first_get_none : (ordered : List Request) (t from : ℕ) → NoGet ordered t from → first_get ordered t from ≡ None
first_get_none ordered t from none = none_only ordered t from (first_get ordered t from) none (first_get_is ordered t from)

-- ---- counts
pub get_drop : {X : Type 0} (xs : List X) (n k : ℕ) → slice_get (drop n xs) k ≡ slice_get xs (n + k)
get_drop xs zero k = let same : k ≡ 0 + k = omega arith in ap (slice_get xs) same
get_drop [] (suc n) k = refl
get_drop (x ∷ xs) (suc n) k = let same : suc (n + k) ≡ suc n + k = omega arith in get_drop xs n k ∙ ap (slice_get (x ∷ xs)) same

pub one_counts : {X : Type 0} (p : X → Bool) (xs : List X) (k : ℕ) (x : X) → slice_get xs k ≡ Some x → p x ≡ true → 1 ≤ count_by p xs
one_counts p [] k x at passes = none_some x at
one_counts p (y ∷ xs) zero x at passes =
    let same : y ≡ x = cc in
    let here : count_if (p y) ≡ 1 = ap (λ z. count_if (p z)) same ∙ ap count_if passes in
    omega (arith, here, count_by-cons p y xs)
one_counts p (y ∷ xs) (suc k) x at passes = omega (arith, one_counts p xs k x at passes, count_by-cons p y xs)

pub two_count : {X : Type 0} (p : X → Bool) (xs : List X) (j k : ℕ) (x y : X) → j < k → slice_get xs j ≡ Some x → p x ≡ true → slice_get xs k ≡ Some y → p y ≡ true → 2 ≤ count_by p xs
two_count p [] j k x y before at passes also also_passes = none_some x at
two_count p (z ∷ xs) j zero x y before at passes also also_passes = absurd (omega (arith, before))
two_count p (z ∷ xs) zero (suc k) x y before at passes also also_passes =
    let same : z ≡ x = cc in
    let here : count_if (p z) ≡ 1 = ap (λ w. count_if (p w)) same ∙ ap count_if passes in
    omega (arith, here, one_counts p xs k y also also_passes, count_by-cons p z xs)
two_count p (z ∷ xs) (suc j) (suc k) x y before at passes also also_passes =
    omega (arith, two_count p xs j k x y (omega (arith, before)) at passes also also_passes, count_by-cons p z xs)

-- a get that a tile has not delivered counts
pub undelivered_counts : (ordered : List Request) (t from place : ℕ) (q : Request) → slice_get ordered place ≡ Some q → is_get_of t q ≡ true → from ≤ place
    → 1 ≤ count_by (is_get_of t) (drop from ordered)
undelivered_counts ordered t from place q at get beyond =
    let sum : from + (place - from) ≡ place = omega (arith, beyond) in
    one_counts (is_get_of t) (drop from ordered) (place - from) q (get_drop ordered from (place - from) ∙ ap (slice_get ordered) sum ∙ at) get

pub both_count : (ordered : List Request) (t from place other : ℕ) (q r : Request) → slice_get ordered place ≡ Some q → is_get_of t q ≡ true → from ≤ place → place < other
    → slice_get ordered other ≡ Some r → is_get_of t r ≡ true → 2 ≤ count_by (is_get_of t) (drop from ordered)
both_count ordered t from place other q r at get beyond before also also_get =
    let sum : from + (place - from) ≡ place = omega (arith, beyond) in
    let sum_other : from + (other - from) ≡ other = omega (arith, beyond, before) in
    two_count (is_get_of t) (drop from ordered) (place - from) (other - from) q r (omega (arith, beyond, before)) (get_drop ordered from (place - from) ∙ ap (slice_get ordered) sum ∙ at) get
    (get_drop ordered from (other - from) ∙ ap (slice_get ordered) sum_other ∙ also) also_get

-- where none counts, none stands
pub none_counts : (ordered : List Request) (t from : ℕ) → count_by (is_get_of t) (drop from ordered) ≡ 0 → NoGet ordered t from
none_counts ordered t from none k q beyond at = by (is_get_of t q) refl where
  by : (b : Bool) → is_get_of t q ≡ b → is_get_of t q ≡ false
  by true get = absurd (omega (arith, none, undelivered_counts ordered t from k q at get beyond))
  by false fails = fails

-- ---- the get for which a node waits
abbrev pub open_place : List Request → Node → Option ℕ
open_place ordered node = option_or (place_of_ordered node.side.misses.demand) (first_get ordered node.tile node.delivered)

-- that of its ordered demand, and else the first that is not delivered
abbrev pub WaitsAt : List Request → Node → ℕ → Type 0
WaitsAt ordered node place =
    (place_of_ordered node.side.misses.demand ≡ Some place)
    ⊎ ((place_of_ordered node.side.misses.demand ≡ None) × FirstGet ordered node.tile node.delivered place)

pub waits_at : (ordered : List Request) (node : Node) (place : ℕ) → open_place ordered node ≡ Some place → WaitsAt ordered node place
waits_at ordered node place is = by (place_of_ordered node.side.misses.demand) refl (first_get ordered node.tile node.delivered) (first_get_is ordered node.tile node.delivered) refl where
  by : (o : Option ℕ) → place_of_ordered node.side.misses.demand ≡ o → (p : Option ℕ) → FirstGetIs ordered node.tile node.delivered p → first_get ordered node.tile node.delivered ≡ p
      → WaitsAt ordered node place
  by (Some k) ordered_is p first first_is = inl (ordered_is ∙ (sym (ap (λ (x : Option ℕ). option_or x (first_get ordered node.tile node.delivered)) ordered_is) ∙ is))
  by None ordered_is None first first_is =
      none_some place (sym (ap (λ (x : Option ℕ). option_or x (first_get ordered node.tile node.delivered)) ordered_is ∙ first_is) ∙ is)
  by None ordered_is (Some k) first first_is =
      let same : Some k ≡ Some place = sym (ap (λ (x : Option ℕ). option_or x (first_get ordered node.tile node.delivered)) ordered_is ∙ first_is) ∙ is in
      let is_place : k ≡ place = cc in
      inr (ordered_is, subst (FirstGet ordered node.tile node.delivered) is_place first)

pub at_waits : (ordered : List Request) (node : Node) (place : ℕ) → WaitsAt ordered node place → open_place ordered node ≡ Some place
at_waits ordered node place (inl demand) = ap (λ (x : Option ℕ). option_or x (first_get ordered node.tile node.delivered)) demand
at_waits ordered node place (inr first) =
    ap (λ (x : Option ℕ). option_or x (first_get ordered node.tile node.delivered)) first.0 ∙ first_get_at ordered node.tile node.delivered place first.1

pub waits_for_none : (ordered : List Request) (node : Node) → place_of_ordered node.side.misses.demand ≡ None → NoGet ordered node.tile node.delivered → open_place ordered node ≡ None
waits_for_none ordered node demand none =
    ap (λ (x : Option ℕ). option_or x (first_get ordered node.tile node.delivered)) demand ∙ first_get_none ordered node.tile node.delivered none

-- an ordered demand has its place
is_ordered_place : (entry : Option Demand) → is_ordered entry ≡ is_some (place_of_ordered entry)
is_ordered_place None = refl
is_ordered_place (Some demand) = refl

few_if : (o : Option ℕ) (demand : Bool) (count : ℕ) → count + count_if (is_some o) ≤ count_if demand → 1 ≤ count → (o ≡ None) × (count ≡ 1)
few_if None true count few some = (refl, omega (arith, few, some))
few_if (Some k) true count few some = absurd (omega (arith, few, some))
few_if None false count few some = absurd (omega (arith, few, some))
few_if (Some k) false count few some = absurd (omega (arith, few, some))

-- where a tile has one of them at most, any get that it has not delivered is the one for which it waits
pub undelivered_open : (ordered : List Request) (node : Node) (place : ℕ) (q : Request) → OneOpen ordered node.tile node → slice_get ordered place ≡ Some q → is_get_of node.tile q ≡ true
    → node.delivered ≤ place → open_place ordered node ≡ Some place
undelivered_open ordered node place q few at get beyond =
    let count = count_by (is_get_of node.tile) (drop node.delivered ordered) in
    let placed : count_if (is_ordered node.side.misses.demand) ≡ count_if (is_some (place_of_ordered node.side.misses.demand)) = ap count_if (is_ordered_place node.side.misses.demand) in
    let one = few_if (place_of_ordered node.side.misses.demand) (is_some node.side.misses.demand) count (omega (arith, few, placed))
    (undelivered_counts ordered node.tile node.delivered place q at get beyond) in
    at_waits ordered node place (inr (
      one.0,
      record {
        get = q;
        at = at;
        gets = get;
        beyond = beyond;
        first = λ k r from before there. other k r from before there one.1 (is_get_of node.tile r) refl;
      },
    ))
  where
    other : (k : ℕ) (r : Request) → node.delivered ≤ k → k < place → slice_get ordered k ≡ Some r → count_by (is_get_of node.tile) (drop node.delivered ordered) ≡ 1
        → (b : Bool) → is_get_of node.tile r ≡ b → is_get_of node.tile r ≡ false
    other k r from before there one true also = absurd (omega (arith, one, both_count ordered node.tile node.delivered k place r q there also from before at get))
    other k r from before there one false fails = fails

-- a tile that waits for no get has none that is ordered and not complete
no_count : {X : Type 0} (p : X → Bool) (xs : List X) → ((k : ℕ) (x : X) → slice_get xs k ≡ Some x → p x ≡ false) → count_by p xs ≡ 0
no_count p [] none = refl
no_count p (x ∷ xs) none =
    let here : count_if (p x) ≡ 0 = ap count_if (none 0 x refl) in
    omega (arith, here, no_count p xs (λ k y at. none (suc k) y at), count_by-cons p x xs)

pub record WaitsForNone (ordered : List Request) (node : Node) : Type 0 where
  pub unordered : is_ordered node.side.misses.demand ≡ false
  pub undelivered : count_by (is_get_of node.tile) (drop node.delivered ordered) ≡ 0

unordered_place : (entry : Option Demand) → place_of_ordered entry ≡ None → is_ordered entry ≡ false
unordered_place None is = refl
unordered_place (Some demand) is = ap is_some is

pub none_waits : (ordered : List Request) (node : Node) → open_place ordered node ≡ None → WaitsForNone ordered node
none_waits ordered node is =
    by (place_of_ordered node.side.misses.demand) (first_get ordered node.tile node.delivered) refl refl (first_get_is ordered node.tile node.delivered) is where
      by : (o p : Option ℕ) → place_of_ordered node.side.misses.demand ≡ o → first_get ordered node.tile node.delivered ≡ p
          → FirstGetIs ordered node.tile node.delivered (first_get ordered node.tile node.delivered)
          → option_or (place_of_ordered node.side.misses.demand) (first_get ordered node.tile node.delivered) ≡ None
          → WaitsForNone ordered node
      by (Some k) p o_is p_is first none = none_some k (sym none ∙ ap (λ (x : Option ℕ). option_or x (first_get ordered node.tile node.delivered)) o_is)
      by None (Some k) o_is p_is first none = none_some k (sym none ∙ (ap (λ (x : Option ℕ). option_or x (first_get ordered node.tile node.delivered)) o_is ∙ p_is))
      by None None o_is p_is first none =
          let nothing : NoGet ordered node.tile node.delivered = subst (FirstGetIs ordered node.tile node.delivered) p_is first in
          record {
            unordered = unordered_place node.side.misses.demand o_is;
            undelivered = no_count (is_get_of node.tile) (drop node.delivered ordered)
                (λ k q at. nothing (node.delivered + k) q (omega arith) (sym (get_drop ordered node.delivered k) ∙ at));
          }
