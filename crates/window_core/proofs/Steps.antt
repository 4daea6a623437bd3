-- The steps of windows where their guards hold and where they do not.
use Rattle.std.proofs.Common.{◌≡◌, ◌≢◌, ℕ, ◌+◌, ◌^◌, ◌<◌, Bool, true, false, not, ◌&&◌, ◌==◌, List, length, set, Option, Some, None, refl, sym, ◌∙◌, arith, bit_or}
use Rattle.std.specs.Prelude.{slice_get, nat_lt, nat_eq, is_some}
use Rattle.std.proofs.lemmas.Bool.Decides.{nat_tests}
use Rattle.std.proofs.lemmas.Option.{slice_get_within}
use Rattle.mesh_gen.specs.TileSet.{has_tile}
use Rattle.chip_model.specs.Partial.{when, ◌>>=◌}
use Rattle.chip_model.specs.Windows.{Windows, may_post, after_post, window_closed, after_tick, closed_by_tick, next_vector, after_take}

-- ---- a step with a guard

is_some-when : {X : Type 0} (b : Bool) (x : X) → is_some (when b (Some x)) ≡ b
is_some-when true x = refl
is_some-when false x = refl

when_holds : {X : Type 0} (b : Bool) (x : X) → is_some (when b (Some x)) ≡ true → when b (Some x) ≡ Some x
when_holds true x so = refl
when_holds false x so = cc

pub none_from_test : {X : Type 0} (o : Option X) → is_some o ≡ false → o ≡ None
none_from_test None fails = refl
none_from_test (Some x) fails = cc

-- ---- a post

pub is_some-after_post : (w : Windows) (t : ℕ) → is_some (after_post w t) ≡ may_post w t
unfolding after_post
is_some-after_post w t = is_some-when (may_post w t) (record w { posts = bit_or (2 ^ t) w.posts })

pub after_post-some : (w : Windows) (t : ℕ) → is_some (after_post w t) ≡ true → after_post w t ≡ Some (record w { posts = bit_or (2 ^ t) w.posts })
unfolding after_post
after_post-some w t so = when_holds (may_post w t) (record w { posts = bit_or (2 ^ t) w.posts }) so

first_of : (a b : Bool) (phase : ℕ) → ((phase == 0) && a && b) ≡ true → phase ≡ 0
first_of a b phase so = grind (arith, nat_tests)

pub after_post-first : (w : Windows) (t : ℕ) → is_some (after_post w t) ≡ true → w.phase ≡ 0
after_post-first w t so = first_of (nat_lt t (length w.taken)) (not (has_tile w.posts t)) w.phase (sym (is_some-after_post w t) ∙ so)

at_first : (a b : Bool) (phase : ℕ) → phase ≡ 0 → ((phase == 0) && a && b) ≡ (a && b)
at_first a b phase first = grind (arith, nat_tests)

pub is_some-after_post-first : (w : Windows) (t : ℕ) → w.phase ≡ 0 → is_some (after_post w t) ≡ (nat_lt t (length w.taken) && not (has_tile w.posts t))
is_some-after_post-first w t first = is_some-after_post w t ∙ at_first (nat_lt t (length w.taken)) (not (has_tile w.posts t)) w.phase first

later : (a b : Bool) (phase : ℕ) → phase ≢ 0 → ((phase == 0) && a && b) ≡ false
later a b phase begun = grind (arith, nat_tests)

pub is_some-after_post-begun : (w : Windows) (t : ℕ) → w.phase ≢ 0 → is_some (after_post w t) ≡ false
is_some-after_post-begun w t begun = is_some-after_post w t ∙ later (nat_lt t (length w.taken)) (not (has_tile w.posts t)) w.phase begun

-- ---- a tick

pub is_some-after_tick : (ticks : ℕ) (w : Windows) → is_some (after_tick ticks w) ≡ nat_lt 0 w.posts
unfolding after_tick
is_some-after_tick ticks w = is_some-when (nat_lt 0 w.posts) _

is_some_posts : (n : ℕ) → nat_lt 0 n ≡ not (nat_eq n 0)
is_some_posts n = grind (arith, nat_tests)

pub test_posts : (ticks : ℕ) (w : Windows) → not (nat_eq w.posts 0) ≡ is_some (after_tick ticks w)
test_posts ticks w = sym (is_some-after_tick ticks w ∙ is_some_posts w.posts)

positive : (n : ℕ) → nat_lt 0 n ≡ true → 0 < n
positive n so = grind (arith, nat_tests)

pub after_tick-after_post : (ticks : ℕ) (w : Windows) → is_some (after_tick ticks w) ≡ true → 0 < w.posts
after_tick-after_post ticks w so = positive w.posts (sym (is_some-after_tick ticks w) ∙ so)

some_posted : (n : ℕ) → 0 < n → nat_lt 0 n ≡ true
some_posted n some = grind (arith, nat_tests)

not_last : (a b : ℕ) → a < b → (a == b) ≡ false
not_last a b below = grind (arith, nat_tests)

last : (a b : ℕ) → a ≡ b → (a == b) ≡ true
last a b same = grind (arith, nat_tests)

pub after_tick-merge : (ticks : ℕ) (w : Windows) → 0 < w.posts → w.phase + 1 < ticks → after_tick ticks w ≡ Some (record w { phase = w.phase + 1 })
unfolding after_tick
after_tick-merge ticks w after_post more = rw (some_posted w.posts after_post, not_last (w.phase + 1) ticks more) refl

pub after_tick-close : (ticks : ℕ) (w : Windows) → 0 < w.posts → w.phase + 1 ≡ ticks → after_tick ticks w ≡ Some (window_closed w)
unfolding after_tick
after_tick-close ticks w after_post is = rw (some_posted w.posts after_post, last (w.phase + 1) ticks is) refl

pub closed_by_tick-merge : (ticks : ℕ) (w : Windows) → w.phase + 1 < ticks → closed_by_tick ticks w ≡ None
unfolding closed_by_tick
closed_by_tick-merge ticks w more = rw (not_last (w.phase + 1) ticks more) refl

pub closed_by_tick-close : (ticks : ℕ) (w : Windows) → w.phase + 1 ≡ ticks → closed_by_tick ticks w ≡ Some w.posts
unfolding closed_by_tick
closed_by_tick-close ticks w is = rw (last (w.phase + 1) ticks is) refl

-- ---- a take

-- the count of a tile, and the vector there
pub record IsNext (taken closed : List ℕ) (t vector : ℕ) : Type 0 where
  pub at : ℕ
  pub counted : slice_get taken t ≡ Some at
  pub there : slice_get closed at ≡ Some vector

found : (taken closed : List ℕ) (t vector : ℕ) (o : Option ℕ) → slice_get taken t ≡ o → (o >>= slice_get closed) ≡ Some vector → IsNext taken closed t vector
found taken closed t vector None is e = cc
found taken closed t vector (Some at) is e = record { at = at; counted = is; there = e }

pub next_from : (taken closed : List ℕ) (t vector : ℕ) → (slice_get taken t >>= slice_get closed) ≡ Some vector → IsNext taken closed t vector
next_from taken closed t vector is = found taken closed t vector (slice_get taken t) refl is

pub next-within : (taken closed : List ℕ) (t vector : ℕ) → IsNext taken closed t vector → t < length taken
next-within taken closed t vector next = slice_get_within taken t next.at next.counted

pub next-below : (taken closed : List ℕ) (t vector : ℕ) → (next : IsNext taken closed t vector) → next.at < length closed
next-below taken closed t vector next = slice_get_within closed next.at vector next.there

pub next_vector-some : (w : Windows) (t vector : ℕ) → IsNext w.taken w.closed t vector → next_vector w t ≡ Some vector
unfolding next_vector
next_vector-some w t vector next = rw (next.counted, next.there) refl

pub after_take-some : (w : Windows) (t vector : ℕ) → (next : IsNext w.taken w.closed t vector) → after_take w t ≡ Some (record w { taken = set w.taken t (next.at + 1) })
unfolding after_take
after_take-some w t vector next = rw (next.counted, next.there) refl

none_from_next : (closed : List ℕ) (o : Option ℕ) (f : ℕ → ℕ → Windows) → (o >>= slice_get closed) ≡ None → (o >>= (λ count. slice_get closed count >>= (λ vector. Some (f count vector)))) ≡ None
none_from_next closed None f e = refl
none_from_next closed (Some count) f e = rw e refl

pub after_take-none : (w : Windows) (t : ℕ) → (slice_get w.taken t >>= slice_get w.closed) ≡ None → after_take w t ≡ None
unfolding after_take
after_take-none w t none = none_from_next w.closed (slice_get w.taken t) (λ count vector. record w { taken = set w.taken t (count + 1) }) none

pub there_too : {X Y : Type 0} (o : Option X) (y : X → Y) → is_some (o >>= (λ x. Some (y x))) ≡ is_some o
there_too None y = refl
there_too (Some x) y = refl

test_from_next : (closed : List ℕ) (o : Option ℕ) (f : ℕ → ℕ → Windows) → is_some (o >>= (λ count. slice_get closed count >>= (λ vector. Some (f count vector)))) ≡ is_some (o >>= slice_get closed)
test_from_next closed None f = refl
test_from_next closed (Some count) f = there_too (slice_get closed count) (f count)

pub is_some-after_take : (w : Windows) (t : ℕ) → is_some (after_take w t) ≡ is_some (slice_get w.taken t >>= slice_get w.closed)
unfolding after_take
is_some-after_take w t = test_from_next w.closed (slice_get w.taken t) (λ count vector. record w { taken = set w.taken t (count + 1) })

pub not_first : (n : ℕ) → n ≢ 0 → nat_eq n 0 ≡ false
not_first n some = grind (arith, nat_tests)
