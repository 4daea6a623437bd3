-- What holds of windows before any step, and what each step keeps of it.
use Rattle.std.proofs.Common.{◌≡◌, ℕ, zero, suc, ◌+◌, ◌^◌, ◌<◌, ◌≤◌, Bool, true, false, cond, not, ◌&&◌, ◌==◌, List, [], ◌∷◌, ◌++◌, length, set, replicate, Some, refl, sym, ◌∙◌, subst, inl, inr, arith, bit_or, length-append, length-set}
use Rattle.std.specs.Prelude.{slice_get, nat_lt}
use Rattle.std.proofs.Math.Pow.{pow-lt}
use Rattle.std.proofs.lemmas.Bool.{and_parts, not-true, ltb-true, eqb-true}
use Rattle.std.proofs.lemmas.Bool.Decides.{nat_tests}
use Rattle.std.proofs.lemmas.Nat.{or_lt, pow_pos}
use Rattle.std.proofs.lemmas.List.{length-replicate}
use Rattle.std.proofs.lemmas.Option.{cond_some, option_and_then_some, same_Some, slice_get_within}
use Rattle.mesh_gen.specs.TileSet.{has_tile}
use Rattle.order_tracker.specs.Tracker.{IsWindow}
use Rattle.chip_model.specs.Windows.{Windows, opening_windows, may_post, after_post, window_closed, is_last_tick, after_tick, after_take}
use Rattle.chip_model.specs.Chip.{Chip, tile_count}
use Rattle.chip_model.specs.NetworkShape.{WindowsFit}
use Rattle.window_core.specs.Windows.{WindowsHold}
use Rattle.window_core.specs.WindowSteps.{TilePosts, TickPasses, TileTakes}

-- ---- what each step does

pub post_is : (t : ℕ) (old new : Windows) → after_post old t ≡ Some new → TilePosts t old new
unfolding after_post
post_is t old new is =
    let step = cond_some (may_post old t) (record old { posts = bit_or (2 ^ t) old.posts }) new is in
    let parts = and_parts ((old.phase == 0) && nat_lt t (length old.taken)) (not (has_tile old.posts t)) step.0 in
    let both = and_parts (old.phase == 0) (nat_lt t (length old.taken)) parts.0 in
    record { first = eqb-true old.phase 0 both.0; tile = ltb-true t (length old.taken) both.1; fresh = not-true (has_tile old.posts t) parts.1; is = sym step.1 }

pub tick_is : (ticks : ℕ) (old new : Windows) → after_tick ticks old ≡ Some new → TickPasses ticks old new
unfolding after_tick
tick_is ticks old new is =
    let step = cond_some (nat_lt 0 old.posts) (cond (is_last_tick ticks old) (window_closed old) (record old { phase = old.phase + 1 })) new is in
    record { posted = ltb-true 0 old.posts step.0; is = sym step.1 }

pub take_is : (t : ℕ) (old new : Windows) → after_take old t ≡ Some new → TileTakes t old new
unfolding after_take
take_is t old new is =
    option_and_then_some _ (slice_get old.taken t) new is (λ count counted rest.
    option_and_then_some _ (slice_get old.closed count) new rest (λ vector there done.
    record { count = count; vector = vector; counted = counted; there = there; is = sym (same_Some _ new done) }))

-- ---- what holds is kept

-- a tile posts before the first tick
pub posted : {tiles ticks : ℕ} {old : Windows} (t : ℕ) → old.phase ≡ 0 → t < tiles → WindowsHold tiles ticks old → WindowsHold tiles ticks (record old { posts = bit_or (2 ^ t) old.posts })
posted {tiles} {old = old} t first inside holds = record {
  phase = holds.phase;
  begun = inl first;
  posts = or_lt tiles (2 ^ t) old.posts (pow-lt inside) holds.posts;
  closed = holds.closed;
  count = holds.count;
  taken = holds.taken;
}

-- a tick passes that does not end the window
pub merged : {tiles ticks : ℕ} {old : Windows} → 0 < old.posts → old.phase + 1 < ticks → WindowsHold tiles ticks old → WindowsHold tiles ticks (record old { phase = old.phase + 1 })
merged some more holds = record { phase = more; begun = inr some; posts = holds.posts; closed = holds.closed; count = holds.count; taken = holds.taken }

-- the last tick passes
pub ended : {tiles ticks : ℕ} {old : Windows} → 0 < old.posts → WindowsHold tiles ticks old → WindowsHold tiles ticks (window_closed old)
ended {tiles} {old = old} some holds =
    let longer = length-append old.closed (old.posts ∷ []) in
    record {
      phase = omega (arith, holds.phase);
      begun = inl refl;
      posts = pow_pos tiles;
      closed = each_pushed (IsWindow tiles) old.closed old.posts holds.closed (record { some = some; inside = holds.posts });
      count = holds.count;
      taken = λ t count there. omega (arith, longer, holds.taken t count there);
    }
  where
    each_pushed : (P : ℕ → Type 0) (xs : List ℕ) (y : ℕ) → ((k x : ℕ) → slice_get xs k ≡ Some x → P x) → P y → (k x : ℕ) → slice_get (xs ++ y ∷ []) k ≡ Some x → P x
    each_pushed P [] y each last zero x there = subst P (same_Some y x there) last
    each_pushed P [] y each last (suc k) x there = cc
    each_pushed P (z ∷ xs) y each last zero x there = each 0 x there
    each_pushed P (z ∷ xs) y each last (suc k) x there = each_pushed P xs y (λ j. each (suc j)) last k x there

-- a tile takes the next vector
pub took : {tiles ticks : ℕ} {old : Windows} (t count : ℕ) → count < length old.closed → WindowsHold tiles ticks old → WindowsHold tiles ticks (record old { taken = set old.taken t (count + 1) })
took {old = old} t count some holds = record {
  phase = holds.phase;
  begun = holds.begun;
  posts = holds.posts;
  closed = holds.closed;
  count = length-set {A = ℕ} old.taken t (count + 1) ∙ holds.count;
  taken = each_set (λ n. n ≤ length old.closed) old.taken t (count + 1) (omega arith) holds.taken;
}
  where
    each_set : (P : ℕ → Type 0) (xs : List ℕ) (t y : ℕ) → P y → ((k x : ℕ) → slice_get xs k ≡ Some x → P x) → (k x : ℕ) → slice_get (set xs t y) k ≡ Some x → P x
    each_set P [] t y own each k x there = cc
    each_set P (z ∷ xs) zero y own each zero x there = subst P (same_Some y x there) own
    each_set P (z ∷ xs) zero y own each (suc k) x there = each (suc k) x there
    each_set P (z ∷ xs) (suc t) y own each zero x there = each 0 x there
    each_set P (z ∷ xs) (suc t) y own each (suc k) x there = each_set P xs t y own (λ j. each (suc j)) k x there

pub WindowsHold-opening : (tiles ticks : ℕ) → 0 < ticks → WindowsHold tiles ticks (opening_windows tiles)
WindowsHold-opening tiles ticks long = record {
  phase = long;
  begun = inl refl;
  posts = pow_pos tiles;
  closed = λ k vector there. cc;
  count = length-replicate tiles 0;
  taken = λ t count there. none_taken tiles t count there;
}
  where
    none_taken : (n t count : ℕ) → slice_get (replicate n 0) t ≡ Some count → count ≤ 0
    none_taken zero t count there = cc
    none_taken (suc n) zero count there = let same : 0 ≡ count = cc in omega arith
    none_taken (suc n) (suc t) count there = none_taken n t count there

-- ---- the same of a chip's windows

pub fit_of : (chip : Chip) (w : Windows) → WindowsHold (tile_count chip) chip.window w → WindowsFit chip w
fit_of chip w holds = record { phase = holds.phase; begun = holds.begun; posts = holds.posts; closed = holds.closed; tiles = holds.count; taken = holds.taken }

holds_of : (chip : Chip) (w : Windows) → WindowsFit chip w → WindowsHold (tile_count chip) chip.window w
holds_of chip w fit = record { phase = fit.phase; begun = fit.begun; posts = fit.posts; closed = fit.closed; count = fit.tiles; taken = fit.taken }

pub WindowsFit-opening : (chip : Chip) → 0 < chip.window → WindowsFit chip (opening_windows (tile_count chip))
WindowsFit-opening chip long = fit_of chip (opening_windows (tile_count chip)) (WindowsHold-opening (tile_count chip) chip.window long)

pub WindowsFit-post : (chip : Chip) (old new : Windows) (t : ℕ) → WindowsFit chip old → after_post old t ≡ Some new → WindowsFit chip new
WindowsFit-post chip old new t fit is =
    let posts = post_is t old new is in
    subst (WindowsFit chip) (sym posts.is) (fit_of chip _ (posted t posts.first (omega (arith, posts.tile, fit.tiles)) (holds_of chip old fit)))

pub WindowsFit-tick : (chip : Chip) (old new : Windows) → WindowsFit chip old → after_tick chip.window old ≡ Some new → WindowsFit chip new
WindowsFit-tick chip old new fit is = let passes = tick_is chip.window old new is in subst (WindowsFit chip) (sym passes.is) (by passes.posted (is_last_tick chip.window old) refl)
  where
    before_last : (a b : ℕ) → a < b → (a + 1 == b) ≡ false → a + 1 < b
    before_last a b below more = grind (arith, nat_tests)

    by : 0 < old.posts → (last : Bool) → is_last_tick chip.window old ≡ last → WindowsFit chip (cond last (window_closed old) (record old { phase = old.phase + 1 }))
    by some true last = fit_of chip _ (ended some (holds_of chip old fit))
    by some false more = fit_of chip _ (merged some (before_last old.phase chip.window fit.phase more) (holds_of chip old fit))

pub WindowsFit-take : (chip : Chip) (old new : Windows) (t : ℕ) → WindowsFit chip old → after_take old t ≡ Some new → WindowsFit chip new
WindowsFit-take chip old new t fit is =
    let takes = take_is t old new is in
    subst (WindowsFit chip) (sym takes.is) (fit_of chip _ (took t takes.count (slice_get_within old.closed takes.count takes.vector takes.there) (holds_of chip old fit)))
