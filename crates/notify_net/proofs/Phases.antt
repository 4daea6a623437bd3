-- Latches at a phase, after a post and after a tick.
use Rattle.std.proofs.Common.{◌≡◌, ◌≢◌, ℕ, ◌+◌, ◌^◌, ◌<◌, Bool, true, false, ◌&&◌, ◌||◌, ◌==◌, List, [], ◌∷◌, ◌++◌, length, Option, None, Some, refl, sym, ◌∙◌, inl, inr, arith, bit_or, length-set}
use Rattle.std.specs.Prelude.{nat_le, slice_index}
use Rattle.std.proofs.Math.Bool.{and-false}
use Rattle.std.proofs.lemmas.Bool.{cases_eq, eqb-true}
use Rattle.std.proofs.lemmas.Bool.Decides.{nat_tests}
use Rattle.std.proofs.lemmas.List.{get_or-set_same, get_or-set_other}
use Rattle.mesh_gen.specs.declared.port.Port.{Port}
use Rattle.mesh_gen.specs.declared.port.Port.TheVariants.{E, W, N, S}
use Rattle.mesh_gen.specs.Grid.{Grid, tiles, distance, neighbour}
use Rattle.mesh_gen.specs.TileSet.{has_tile, is_among}
use Rattle.mesh_gen.specs.Routes.{HasTiles}
use Rattle.mesh_gen.proofs.Beside.{neighbour_inside}
use Rattle.mesh_gen.proofs.Coordinates.{has_tiles}
use Rattle.mesh_gen.proofs.Distances.{distance-same, apart}
use Rattle.mesh_gen.proofs.TileSets.{has_tile-or, has_tile-one, has_tile-none, has_tile-set_of, same_sets, is_among-filter, is_among-push, among_all, AllByRecursion-push}
use Rattle.notify_net.specs.Latches.{LatchState, latches_after_post, latch_of, taken_in, Ticks}
use Rattle.notify_net.specs.Merge.{merged, IsAtPhase}
use Rattle.notify_net.proofs.Growth.{is_near, is_near_beside, any_of, near-suc}

-- which tiles are in a merged set
has_tile-merged : (g : Grid) (posts : List ℕ) (k t s : ℕ) → has_tile (merged g posts k t) s ≡ (is_among posts s && nat_le (distance g s t) k)
has_tile-merged g posts k t s = has_tile-set_of _ s ∙ is_among-filter _ posts s

-- ---- a post

kept_last : (a x y : Bool) → (x ≡ true → y ≡ true) → ((a && y) || x) ≡ ((a || x) && y)
kept_last true true true so = refl
kept_last true true false so = sym (so refl)
kept_last true false true so = refl
kept_last true false false so = refl
kept_last false true y so = sym (so refl)
kept_last false false y so = refl

left_out : (a x y : Bool) → (x ≡ true → y ≡ false) → (a && y) ≡ ((a || x) && y)
left_out true x y so = refl
left_out false true y so = sym (so refl)
left_out false false y so = refl

-- the latch of the tile that posts
post_here : (g : Grid) (posts : List ℕ) (t : ℕ) → bit_or (merged g posts 0 t) (2 ^ t) ≡ merged g (posts ++ t ∷ []) 0 t
post_here g posts t =
    same_sets (bit_or (merged g posts 0 t) (2 ^ t)) (merged g (posts ++ t ∷ []) 0 t) (λ s.
    let near : (t == s) ≡ true → nat_le (distance g s t) 0 ≡ true = λ same. rw (← eqb-true t s same, distance-same g t) refl in
    rw (has_tile-or (merged g posts 0 t) (2 ^ t) s, has_tile-merged g posts 0 t s, has_tile-one t s, has_tile-merged g (posts ++ t ∷ []) 0 t s, is_among-push posts t s)
    (kept_last (is_among posts s) (t == s) (nat_le (distance g s t) 0) near))

not_near : (d : ℕ) → 0 < d → nat_le d 0 ≡ false
not_near d some = grind (arith, nat_tests)

-- the latch of another
post_elsewhere : (g : Grid) (posts : List ℕ) (t u : ℕ) → u ≢ t → merged g posts 0 u ≡ merged g (posts ++ t ∷ []) 0 u
post_elsewhere g posts t u other =
    same_sets (merged g posts 0 u) (merged g (posts ++ t ∷ []) 0 u) (λ s.
    let far : (t == s) ≡ true → nat_le (distance g s u) 0 ≡ false = λ same. rw (← eqb-true t s same) (not_near (distance g t u) (apart g t u (λ is. other (sym is)))) in
    rw (has_tile-merged g posts 0 u s, has_tile-merged g (posts ++ t ∷ []) 0 u s, is_among-push posts t s)
    (left_out (is_among posts s) (t == s) (nat_le (distance g s u) 0) far))

pub IsAtPhase-post : (g : Grid) (posts : List ℕ) (t : ℕ) (s : LatchState) → t < tiles g → IsAtPhase g posts 0 s → IsAtPhase g (posts ++ t ∷ []) 0 (latches_after_post t s)
IsAtPhase-post g posts t s inside at =
    let within : t < length s.latches = omega (arith, at.count) in
    record {
      grid_is = at.grid_is;
      inside = AllByRecursion-push (λ u. u < tiles g) posts t at.inside inside;
      count = length-set {A = ℕ} s.latches t _ ∙ at.count;
      each = λ u inside_u. elim (cases_eq u t) [
        | inl same ↦ rw (same, get_or-set_same s.latches t _ 0 within, at.each t inside) (post_here g posts t)
        | inr other ↦ rw (get_or-set_other s.latches t u _ 0 other) (at.each u inside_u ∙ post_elsewhere g posts t u other)
      ];
    }

-- ---- a tick

-- what the latch on a side holds
beside_holds : (g : Grid) (posts : List ℕ) (k : ℕ) (old : LatchState) (t : ℕ) (p : Port) (o : Option ℕ) (s : ℕ) → HasTiles g → t < tiles g → IsAtPhase g posts k old
    → neighbour g t p ≡ o → has_tile (latch_of old o) s ≡ (is_among posts s && is_near g s k o)
beside_holds g posts k old t p None s has inside at is = has_tile-none s ∙ sym (and-false (is_among posts s))
beside_holds g posts k old t p (Some n) s has inside at is = rw (at.each n (neighbour_inside g t p n has is)) (has_tile-merged g posts k n s)

spread : (a own e w n s : Bool) → any_of (a && own) (a && e) (a && w) (a && n) (a && s) ≡ (a && any_of own e w n s)
spread true own e w n s = refl
spread false own e w n s = refl

and_under : (a b c : Bool) → (a ≡ true → b ≡ c) → (a && b) ≡ (a && c)
and_under true b c same = same refl
and_under false b c same = refl

-- which tiles are in one of five sets
pub has_tile-union : (a b c d e s : ℕ) → has_tile (bit_or (bit_or (bit_or (bit_or a b) c) d) e) s ≡ any_of (has_tile a s) (has_tile b s) (has_tile c s) (has_tile d s) (has_tile e s)
has_tile-union a b c d e s = rw (has_tile-or (bit_or (bit_or (bit_or a b) c) d) e s, has_tile-or (bit_or (bit_or a b) c) d s, has_tile-or (bit_or a b) c s, has_tile-or a b s) refl

-- the union of the latches around a tile has the tiles within one hop more
taken_in_grows : (g : Grid) (posts : List ℕ) (k : ℕ) (old : LatchState) (t s : ℕ) → HasTiles g → t < tiles g → old.grid ≡ g → IsAtPhase g posts k old
    → has_tile (taken_in old t) s ≡ (is_among posts s && nat_le (distance g s t) (k + 1))
taken_in_grows g posts k old t s has inside grid_is at =
    let own : has_tile (slice_index old.latches t) s ≡ (is_among posts s && nat_le (distance g s t) k) = rw (at.each t inside) (has_tile-merged g posts k t s) in
    let beside : (p : Port) → has_tile (latch_of old (neighbour g t p)) s ≡ (is_among posts s && is_near_beside g s k t p) = λ p. beside_holds g posts k old t p (neighbour g t p) s has inside at refl in
    let grows : is_among posts s ≡ true → nat_le (distance g s t) (k + 1) ≡ any_of (nat_le (distance g s t) k) (is_near_beside g s k t E) (is_near_beside g s k t W) (is_near_beside g s k t N) (is_near_beside g s k t S)
    = λ among. near-suc g s k t has (among_all (λ u. u < tiles g) posts s at.inside among) inside in
    rw grid_is (has_tile-union (slice_index old.latches t) (latch_of old (neighbour g t E)) (latch_of old (neighbour g t W)) (latch_of old (neighbour g t N)) (latch_of old (neighbour g t S)) s
    ∙ rw (own, beside E, beside W, beside N, beside S) (spread (is_among posts s) _ _ _ _ _ ∙ sym (and_under (is_among posts s) _ _ grows)))

pub IsAtPhase-tick : (g : Grid) (posts : List ℕ) (k : ℕ) (old new : LatchState) → Ticks old new → IsAtPhase g posts k old → IsAtPhase g posts (k + 1) new
IsAtPhase-tick g posts k old new ticks at =
    record {
      grid_is = ticks.grid_is ∙ at.grid_is;
      inside = at.inside;
      count = ticks.count ∙ at.count;
      each = λ t inside.
          ticks.each t (rw at.grid_is inside) ∙ same_sets _ _ (λ s. taken_in_grows g posts k old t s (has_tiles g t inside) inside at.grid_is at ∙ sym (has_tile-merged g posts (k + 1) t s));
    }
