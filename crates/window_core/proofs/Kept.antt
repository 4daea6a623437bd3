-- What is kept of windows and their latches, call by call.
use Rattle.std.proofs.Common.{◌≡◌, ℕ, ◌+◌, ◌^◌, ◌<◌, ◌≤◌, List, [], ◌∷◌, ◌++◌, length, set, refl, sym, ◌∙◌, subst, arith, bit_or, length-append}
use Rattle.mesh_gen.specs.Grid.{Grid, tiles, diameter}
use Rattle.mesh_gen.specs.TileSet.{set_of}
use Rattle.mesh_gen.proofs.TileSets.{set_of-push}
use Rattle.notify_net.specs.Latches.{LatchState}
use Rattle.notify_net.specs.Merge.{IsAtPhase}
use Rattle.chip_model.specs.Windows.{Windows, opening_windows, window_closed}
use Rattle.window_core.specs.Windows.{state_of, AreSound, IsKept}
use Rattle.window_core.proofs.Holds.{posted, merged, ended, took}
use Rattle.window_core.proofs.Sound.{AreSound-open, AreSound-step}

-- latches of a grid that is the same
same_grid : (old new : LatchState) (ticks : ℕ) (w : Windows) (room : ℕ) → new.grid ≡ old.grid → AreSound (state_of old ticks w room) → AreSound (state_of new ticks w room)
same_grid old new ticks w room is sound = subst (λ (g : Grid). AreSound (record { grid = g; ticks = ticks; windows = w; room = room })) (sym is) sound

phase_here : (g : Grid) (new : LatchState) (list : List ℕ) (k : ℕ) → IsAtPhase g list k new → IsAtPhase new.grid list k new
phase_here g new list k at = subst (λ (h : Grid). IsAtPhase h list k new) (sym at.grid_is) at

pub IsKept-post : (old new : LatchState) (ticks : ℕ) (w : Windows) (room t : ℕ) → w.phase ≡ 0 → t < tiles old.grid
    → ((g : Grid) (posts : List ℕ) → IsAtPhase g posts 0 old → IsAtPhase g (posts ++ t ∷ []) 0 new)
    → IsKept old ticks w room → IsKept new ticks (record w { posts = bit_or (2 ^ t) w.posts }) room
IsKept-post old new ticks w room t first inside law kept =
    let before : IsAtPhase old.grid kept.list 0 old = rw first at kept.at in
    let after : IsAtPhase old.grid (kept.list ++ t ∷ []) 0 new = law old.grid kept.list before in
    record {
      sound = same_grid old new ticks (record w { posts = bit_or (2 ^ t) w.posts }) room after.grid_is (AreSound-step (state_of old ticks w room) (record w { posts = bit_or (2 ^ t) w.posts }) (posted t first inside kept.sound.holds) kept.sound.room kept.sound);
      list = kept.list ++ t ∷ [];
      set = set_of-push kept.list t ∙ rw kept.set refl;
      at = rw first (phase_here old.grid new (kept.list ++ t ∷ []) 0 after);
    }

pub IsKept-merge : (old new : LatchState) (ticks : ℕ) (w : Windows) (room : ℕ) → 0 < w.posts → w.phase + 1 < ticks
    → ((g : Grid) (posts : List ℕ) (k : ℕ) → IsAtPhase g posts k old → IsAtPhase g posts (k + 1) new)
    → IsKept old ticks w room → IsKept new ticks (record w { phase = w.phase + 1 }) room
IsKept-merge old new ticks w room some more law kept =
    let after : IsAtPhase old.grid kept.list (w.phase + 1) new = law old.grid kept.list w.phase kept.at in
    record {
      sound = same_grid old new ticks (record w { phase = w.phase + 1 }) room after.grid_is (AreSound-step (state_of old ticks w room) (record w { phase = w.phase + 1 }) (merged some more kept.sound.holds) kept.sound.room kept.sound);
      list = kept.list;
      set = kept.set;
      at = phase_here old.grid new kept.list (w.phase + 1) after;
    }

-- what the latches hold together at the end of a window
pub vector-close : (old mid : LatchState) (ticks : ℕ) (w : Windows) (room vector : ℕ) → w.phase + 1 ≡ ticks
    → ((g : Grid) (posts : List ℕ) (k : ℕ) → IsAtPhase g posts k old → IsAtPhase g posts (k + 1) mid)
    → ((g : Grid) (posts : List ℕ) (k : ℕ) → IsAtPhase g posts k mid → diameter g ≤ k → vector ≡ set_of posts)
    → IsKept old ticks w room → vector ≡ w.posts
vector-close old mid ticks w room vector last law whole kept =
    whole old.grid kept.list (w.phase + 1) (law old.grid kept.list w.phase kept.at) (omega (arith, kept.sound.wide)) ∙ kept.set

pub IsKept-close : (old new : LatchState) (ticks : ℕ) (w : Windows) (room : ℕ) → 0 < w.posts → length w.closed < room → new.grid ≡ old.grid → IsAtPhase old.grid [] 0 new
    → IsKept old ticks w room → IsKept new ticks (window_closed w) room
IsKept-close old new ticks w room some spare is cleared kept = record {
  sound = same_grid old new ticks (window_closed w) room is (AreSound-step (state_of old ticks w room) (window_closed w) (ended some kept.sound.holds) (omega (arith, length-append w.closed (w.posts ∷ []))) kept.sound);
  list = [];
  set = refl;
  at = phase_here old.grid new [] 0 cleared;
}

pub IsKept-take : (latches : LatchState) (ticks : ℕ) (w : Windows) (room t count : ℕ) → count < length w.closed
    → IsKept latches ticks w room → IsKept latches ticks (record w { taken = set w.taken t (count + 1) }) room
IsKept-take latches ticks w room t count some kept = record {
  sound = AreSound-step (state_of latches ticks w room) (record w { taken = set w.taken t (count + 1) }) (took t count some kept.sound.holds) kept.sound.room kept.sound;
  list = kept.list;
  set = kept.set;
  at = kept.at;
}

pub IsKept-open : (g : Grid) (latches : LatchState) (ticks room : ℕ) → latches.grid ≡ g → 0 < tiles g → tiles g ≤ 64 → diameter g ≤ ticks → 0 < ticks → IsAtPhase g [] 0 latches
    → IsKept latches ticks (opening_windows (tiles g)) room
IsKept-open g latches ticks room is some few wide long at = record {
  sound = subst (λ (h : Grid). AreSound (record { grid = h; ticks = ticks; windows = opening_windows (tiles g); room = room })) (sym is) (AreSound-open g ticks room some few wide long);
  list = [];
  set = refl;
  at = phase_here g latches [] 0 at;
}
