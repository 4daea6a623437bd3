-- The tiles within k + 1 hops of a tile are those within k hops of it or of a neighbour.
use Rattle.std.proofs.Common.{◌≡◌, ℕ, ◌+◌, ◌<◌, Bool, true, false, ◌||◌, Option, None, Some, refl, sym, ◌∙◌, inl, inr, arith}
use Rattle.std.specs.Prelude.{nat_le}
use Rattle.std.proofs.lemmas.Bool.{cases_lt, or_cases, le-leb, leb-true, true≢false}
use Rattle.mesh_gen.specs.declared.port.Port.{Port}
use Rattle.mesh_gen.specs.declared.port.Port.TheVariants.{L, E, W, N, S}
use Rattle.mesh_gen.specs.Grid.{Grid, tiles, distance, neighbour}
use Rattle.mesh_gen.specs.Routes.{HasTiles}
use Rattle.mesh_gen.proofs.Distances.{nearer, distance-neighbour}

-- whether s is at most k hops from a tile, where there is one
abbrev pub is_near : Grid → ℕ → ℕ → Option ℕ → Bool
is_near g s k None = false
is_near g s k (Some t) = nat_le (distance g s t) k

-- the same of any of the neighbours of a tile
abbrev pub is_near_beside : Grid → ℕ → ℕ → ℕ → Port → Bool
is_near_beside g s k t p = is_near g s k (neighbour g t p)

same_tests : (a b : Bool) → (a ≡ true → b ≡ true) → (b ≡ true → a ≡ true) → a ≡ b
same_tests true true to from = refl
same_tests true false to from = sym (to refl)
same_tests false true to from = from refl
same_tests false false to from = refl

-- near a neighbour is near, with one hop more
beside_is_near : (g : Grid) (s k t : ℕ) (p : Port) (o : Option ℕ) → HasTiles g → neighbour g t p ≡ o → is_near g s k o ≡ true → nat_le (distance g s t) (k + 1) ≡ true
beside_is_near g s k t p None has is near = cc
beside_is_near g s k t p (Some n) has is near =
    le-leb _ _ (omega (arith, leb-true _ _ near, distance-neighbour g s t p n has is))

-- one of five tests
abbrev pub any_of : Bool → Bool → Bool → Bool → Bool → Bool
any_of own e w n s = (((own || e) || w) || n) || s

or_right : (a b : Bool) → b ≡ true → (a || b) ≡ true
or_right true b is = refl
or_right false b is = is

or_left : (a b : Bool) → a ≡ true → (a || b) ≡ true
or_left a b is = rw is refl

-- the side on which a neighbour is near passes the test
by_side : (own : Bool) (test : Port → Bool) (p : Port) → test L ≡ false → test p ≡ true → any_of own (test E) (test W) (test N) (test S) ≡ true
by_side own test L none is = absurd (true≢false (sym is ∙ none))
by_side own test E none is = or_left _ (test S) (or_left _ (test N) (or_left _ (test W) (or_right own (test E) is)))
by_side own test W none is = or_left _ (test S) (or_left _ (test N) (or_right (own || test E) (test W) is))
by_side own test N none is = or_left _ (test S) (or_right ((own || test E) || test W) (test N) is)
by_side own test S none is = or_right (((own || test E) || test W) || test N) (test S) is

-- near within one hop more: near already, or near a neighbour
near_or_beside : (g : Grid) (s k t : ℕ) → HasTiles g → s < tiles g → t < tiles g → nat_le (distance g s t) (k + 1) ≡ true
    → any_of (nat_le (distance g s t) k) (is_near_beside g s k t E) (is_near_beside g s k t W) (is_near_beside g s k t N) (is_near_beside g s k t S) ≡ true
near_or_beside g s k t has inside_s inside_t near = elim (cases_lt k (distance g s t)) [
  | inl far ↦
      let hop = nearer g s t has inside_s inside_t (omega arith) in
      let near_hop : is_near_beside g s k t hop.side ≡ true = rw hop.beside (le-leb _ _ (omega (arith, hop.nearer, leb-true _ _ near))) in
      by_side (nat_le (distance g s t) k) (is_near_beside g s k t) hop.side refl near_hop
  | inr close ↦
      let own : nat_le (distance g s t) k ≡ true = le-leb _ _ close in
      rw own refl
]

further : (k d : ℕ) → nat_le d k ≡ true → nat_le d (k + 1) ≡ true
further k d near = le-leb _ _ (omega (arith, leb-true _ _ near))

pub near-suc : (g : Grid) (s k t : ℕ) → HasTiles g → s < tiles g → t < tiles g
    → nat_le (distance g s t) (k + 1) ≡ any_of (nat_le (distance g s t) k) (is_near_beside g s k t E) (is_near_beside g s k t W) (is_near_beside g s k t N) (is_near_beside g s k t S)
near-suc g s k t has inside_s inside_t =
    let from : (p : Port) → is_near_beside g s k t p ≡ true → nat_le (distance g s t) (k + 1) ≡ true = λ p is. beside_is_near g s k t p _ has refl is in
    same_tests _ _ (near_or_beside g s k t has inside_s inside_t) (λ any.
    elim (or_cases _ (is_near_beside g s k t S) any) [
      | inr south ↦ from S south
      | inl rest ↦
          elim (or_cases _ (is_near_beside g s k t N) rest) [
            | inr north ↦ from N north
            | inl rest ↦
                elim (or_cases _ (is_near_beside g s k t W) rest) [
                  | inr west ↦ from W west
                  | inl rest ↦
                      elim (or_cases _ (is_near_beside g s k t E) rest) [
                        | inr east ↦ from E east
                        | inl own ↦ further k (distance g s t) own
                      ]
                ]
          ]
    ])
