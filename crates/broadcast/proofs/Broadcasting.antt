-- A window of a broadcast, event by event.
use Rattle.std.proofs.Common.{◌≡◌, ◌≢◌, ◌⊎◌, ℕ, zero, suc, ◌+◌, ◌-◌, ◌%◌, ◌^◌, ◌<◌, ◌≤◌, Bool, true, false, refl, sym, ◌∙◌, ap, subst, arith, inl, inr, Option, Some, None, List, [], ◌∷◌, ◌++◌, map, length}
use Rattle.std.specs.Prelude.{unwrap_or, filter, slice_get, set, bit_or, OnOk, OnErr, Result, Ok, Err, nat_lt, if◌then◌else◌}
use Rattle.std.proofs.Math.Nat.{zero-mod}
use Rattle.std.proofs.lemmas.Bool.{eqb-true, eqb-false}
use Rattle.std.proofs.lemmas.Bool.Decides.{nat_tests}
use Rattle.std.proofs.lemmas.List.{append-nil}
use Rattle.std.proofs.lemmas.List.Elements.{filter-append}
use Rattle.std.proofs.lemmas.List.Sums.{fold-append}
use Rattle.mesh_gen.specs.declared.kind.Kind.TheVariants.{GetS}
use Rattle.mesh_gen.specs.TileSet.{has_tile}
use Rattle.order_tracker.specs.Order.{upwards, expansion}
use Rattle.report_text.specs.declared.event.Event.{Event}
use Rattle.report_text.specs.declared.event.Event.TheVariants.{Tick, Inject, Post}
use Rattle.chip_model.specs.Partial.{◌>>=◌, when}
use Rattle.chip_model.specs.Chip.{Chip, tile_count}
use Rattle.chip_model.specs.Windows.{Windows, after_tick, may_post, after_post, window_closed, is_last_tick}
use Rattle.chip_model.specs.Copies.{after_entry}
use Rattle.chip_model.specs.OrderedNetwork.{OrderedNetwork, with_interface, next_request, after_inject, after_request_post, after_network_tick, ordered_by_window}
use Rattle.chip_model.specs.Delivery.{network_step, network_tried, network_swept, ticks, window_events}
use Rattle.net_iface.specs.OrderedNet.{NetworkState, SameSizes}
use Rattle.broadcast.specs.Broadcasts.{BeginsWindow, TicksFor, WindowPasses}
use Rattle.net_iface.proofs.Binds.{bind, bind_eq, made}
use Rattle.broadcast.proofs.Sweeping.{on_ok, on_err, one_more_number, same_sizes_join}

-- ---- an event that may not be possible
tried_is : (chip : Chip) (net new : OrderedNetwork) (event : Event) (step : Option OrderedNetwork) → network_step chip net event ≡ step → unwrap_or step net ≡ new → network_tried chip net event ≡ new
tried_is chip net new event step is gives = rw is gives

-- what a call leaves is what the event leaves, where it is possible
pub tried_call : {X E : Type 0} (event : Event) (a b : NetworkState) (answer : Result X E) → OnOk answer (network_step a.chip a.network event ≡ Some b.network) → OnErr answer (network_step a.chip a.network event ≡ None) → OnErr answer (b ≡ a)
    → b.network ≡ network_tried a.chip a.network event
tried_call event a b (Ok x) done none kept = sym (tried_is a.chip a.network b.network event (Some b.network) done refl)
tried_call event a b (Err e) done none kept = ap (λ (s : NetworkState). s.network) kept ∙ sym (tried_is a.chip a.network a.network event None none refl)

-- ---- requests that are made, and posts
abbrev Stays : OrderedNetwork → OrderedNetwork → Type 0
Stays old new = (new.ordered ≡ old.ordered) × (new.windows.phase ≡ old.windows.phase)

inject_stays : (chip : Chip) (net new : OrderedNetwork) (t : ℕ) → after_inject chip net t GetS 0 ≡ Some new → Stays net new
unfolding after_inject
inject_stays chip net new t =
    bind (Stays net) (slice_get net.interfaces t) _
    (λ interface last. bind (Stays net) (after_entry chip.grid net.copies (next_request t interface GetS 0)) _
    (λ copies n is. made (Stays net) (with_interface (record net { copies = copies }) t (record interface { made = interface.made ++ next_request t interface GetS 0 ∷ [] })) n (refl, refl) is) last)
    new

when_some : {X : Type 0} (holds : Bool) (o : Option X) (x : X) → when holds o ≡ Some x → (holds ≡ true) × (o ≡ Some x)
when_some true o x is = (refl, is)
when_some false o x is = cc

when_none : {X : Type 0} (holds : Bool) (x : X) → when holds (Some x) ≡ None → holds ≡ false
when_none true x is = cc
when_none false x is = refl

posted_stays : (w new : Windows) (t : ℕ) → after_post w t ≡ Some new → new.phase ≡ w.phase
unfolding after_post
posted_stays w new t done = made (λ (n : Windows). n.phase ≡ w.phase) (record w { posts = bit_or (2 ^ t) w.posts }) new refl (when_some (may_post w t) _ new done).1

post_stays : (net new : OrderedNetwork) (t : ℕ) → after_request_post net t ≡ Some new → Stays net new
unfolding after_request_post
post_stays net new t =
    bind (Stays net) (slice_get net.interfaces t) _
    (λ interface last done. bind_eq (Stays net) (after_post net.windows t) _
    (λ windows posts n is. made (Stays net) (with_interface (record net { windows = windows }) t (record interface { posted = interface.posted + 1 })) n (refl, posted_stays net.windows windows t posts) is)
    last (when_some (nat_lt interface.posted (length interface.made)) _ last done).1)
    new

on_answer : {X E : Type 0} (P : Type 0) (answer : Result X E) → OnOk answer P → OnErr answer P → P
on_answer P (Ok x) ok err = ok
on_answer P (Err e) ok err = err

kept_stays : (a b : NetworkState) → b ≡ a → Stays a.network b.network
kept_stays a b same = (ap (λ (s : NetworkState). s.network.ordered) same, ap (λ (s : NetworkState). s.network.windows.phase) same)

pub begins_none : (a : NetworkState) → BeginsWindow [] a a
begins_none a = record { swept = refl; sizes = record { chip_is = refl; room_is = refl }; ordered = refl; phase = refl }

pub begins_join : (xs ys : List Event) (a b c : NetworkState) → BeginsWindow xs a b → BeginsWindow ys b c → BeginsWindow (xs ++ ys) a c
begins_join xs ys a b c first second = record {
  swept =
      second.swept ∙ ap (λ (chip : Chip). network_swept chip b.network ys) first.sizes.chip_is
      ∙ ap (λ (net : OrderedNetwork). network_swept a.chip net ys) first.swept
      ∙ sym (fold-append (network_tried a.chip) a.network xs ys);
  sizes = same_sizes_join a b c first.sizes second.sizes;
  ordered = second.ordered ∙ first.ordered;
  phase = second.phase ∙ first.phase;
}

pub inject_begins : {X E : Type 0} (a b : NetworkState) (t : ℕ) (answer : Result X E) → SameSizes a b → OnOk answer (after_inject a.chip a.network t GetS 0 ≡ Some b.network) → OnErr answer (after_inject a.chip a.network t GetS 0 ≡ None) → OnErr answer (b ≡ a)
    → BeginsWindow (Inject t ∷ []) a b
unfolding network_step
inject_begins a b t answer sizes done none kept =
    let stays = on_answer _ answer (on_ok _ _ answer (inject_stays a.chip a.network b.network t) done) (on_err _ _ answer (kept_stays a b) kept) in
    record { swept = tried_call (Inject t) a b answer done none kept; sizes = sizes; ordered = stays.0; phase = stays.1 }

pub post_begins : {X E : Type 0} (a b : NetworkState) (t : ℕ) (answer : Result X E) → SameSizes a b → OnOk answer (after_request_post a.network t ≡ Some b.network) → OnErr answer (after_request_post a.network t ≡ None) → OnErr answer (b ≡ a)
    → BeginsWindow (Post t ∷ []) a b
unfolding network_step
post_begins a b t answer sizes done none kept =
    let stays = on_answer _ answer (on_ok _ _ answer (post_stays a.network b.network t) done) (on_err _ _ answer (kept_stays a b) kept) in
    record { swept = tried_call (Post t) a b answer done none kept; sizes = sizes; ordered = stays.0; phase = stays.1 }

-- ---- the tiles of a set so far, and one more
one_more_in : (set k : ℕ) → filter (has_tile set) (upwards 0 (k + 1)) ≡ filter (has_tile set) (upwards 0 k) ++ filter (has_tile set) (k ∷ [])
one_more_in set k = ap (filter (has_tile set)) (one_more_number k) ∙ filter-append (has_tile set) (upwards 0 k) (k ∷ [])

map_append : (f : ℕ → Event) (xs ys : List ℕ) → map f (xs ++ ys) ≡ map f xs ++ map f ys
map_append f [] ys = refl
map_append f (x ∷ xs) ys = ap (λ (rest : List Event). f x ∷ rest) (map_append f xs ys)

pub begins_with : (f : ℕ → Event) (set k : ℕ) (a b c : NetworkState) → has_tile set k ≡ true → BeginsWindow (map f (filter (has_tile set) (upwards 0 k))) a b → BeginsWindow (f k ∷ []) b c → BeginsWindow (map f (filter (has_tile set) (upwards 0 (k + 1)))) a c
begins_with f set k a b c inside first second =
    let one : filter (has_tile set) (k ∷ []) ≡ k ∷ [] = rw inside refl in
    subst (λ events. BeginsWindow events a c) (sym (ap (map f) (one_more_in set k ∙ ap (λ (last : List ℕ). filter (has_tile set) (upwards 0 k) ++ last) one) ∙ map_append f (filter (has_tile set) (upwards 0 k)) (k ∷ [])))
    (begins_join (map f (filter (has_tile set) (upwards 0 k))) (f k ∷ []) a b c first second)

pub begins_without : (f : ℕ → Event) (set k : ℕ) (a b : NetworkState) → has_tile set k ≡ false → BeginsWindow (map f (filter (has_tile set) (upwards 0 k))) a b → BeginsWindow (map f (filter (has_tile set) (upwards 0 (k + 1)))) a b
begins_without f set k a b outside first =
    let none : filter (has_tile set) (k ∷ []) ≡ [] = rw outside refl in
    subst (λ events. BeginsWindow events a b) (sym (ap (map f) (one_more_in set k ∙ ap (λ (last : List ℕ). filter (has_tile set) (upwards 0 k) ++ last) none ∙ append-nil (filter (has_tile set) (upwards 0 k))))) first

-- ---- ticks
-- what a tick makes of the windows, and of what is ordered
abbrev Ticked : Chip → OrderedNetwork → OrderedNetwork → Type 0
Ticked chip net new = (0 < net.windows.posts) × (
    ((net.windows.phase + 1 ≡ chip.window) × (new.windows.phase ≡ 0))
    ⊎ ((net.windows.phase + 1 ≢ chip.window) × (new.windows.phase ≡ net.windows.phase + 1) × (new.windows.posts ≡ net.windows.posts) × (new.ordered ≡ net.ordered)))

some_posted : (posts : ℕ) → nat_lt 0 posts ≡ true → 0 < posts
some_posted posts is = grind (arith, nat_tests)

none_posted : (posts : ℕ) → nat_lt 0 posts ≡ false → posts ≡ 0
none_posted posts is = grind (arith, nat_tests)

window_ticks : (ticks : ℕ) (w new : Windows) → (if is_last_tick ticks w then window_closed w else record w { phase = w.phase + 1 }) ≡ new
    → ((is_last_tick ticks w ≡ true) × (new.phase ≡ 0)) ⊎ ((is_last_tick ticks w ≡ false) × (new.phase ≡ w.phase + 1) × (new.posts ≡ w.posts))
window_ticks ticks w new is = by (is_last_tick ticks w) is
  where
    by : (last : Bool) → (if last then window_closed w else record w { phase = w.phase + 1 }) ≡ new → ((last ≡ true) × (new.phase ≡ 0)) ⊎ ((last ≡ false) × (new.phase ≡ w.phase + 1) × (new.posts ≡ w.posts))
    by true is = inl (refl, ap (λ (n : Windows). n.phase) (sym is))
    by false is = inr (refl, ap (λ (n : Windows). n.phase) (sym is), ap (λ (n : Windows). n.posts) (sym is))

tick_goes : (chip : Chip) (net new : OrderedNetwork) → after_network_tick chip net ≡ Some new → Ticked chip net new
unfolding after_network_tick after_tick
tick_goes chip net new =
    bind_eq (Ticked chip net) (when (nat_lt 0 net.windows.posts) (Some (if is_last_tick chip.window net.windows then window_closed net.windows else record net.windows { phase = net.windows.phase + 1 }))) _
    (λ windows ticks n is. let parts = when_some (nat_lt 0 net.windows.posts) _ windows ticks in
    made (Ticked chip net) (record net { windows = windows; ordered = if is_last_tick chip.window net.windows then net.ordered ++ ordered_by_window chip net else net.ordered }) n
    (some_posted net.windows.posts parts.0, ends windows (window_ticks chip.window net.windows windows (same _ windows parts.1))) is)
    new
  where
    same : (x y : Windows) → ◌≡◌ {A = Option Windows} (Some x) (Some y) → x ≡ y
    same x y is = cc

    ends : (windows : Windows)
        → ((is_last_tick chip.window net.windows ≡ true) × (windows.phase ≡ 0)) ⊎ ((is_last_tick chip.window net.windows ≡ false) × (windows.phase ≡ net.windows.phase + 1) × (windows.posts ≡ net.windows.posts))
        → ((net.windows.phase + 1 ≡ chip.window) × (windows.phase ≡ 0))
        ⊎ ((net.windows.phase + 1 ≢ chip.window) × (windows.phase ≡ net.windows.phase + 1) × (windows.posts ≡ net.windows.posts) × ((if is_last_tick chip.window net.windows then net.ordered ++ ordered_by_window chip net else net.ordered) ≡ net.ordered))
    ends windows (inl last) = inl (eqb-true _ _ last.0, last.1)
    ends windows (inr more) = inr (eqb-false _ _ more.0, more.1, more.2, rw more.0 refl)

no_tick : (chip : Chip) (net : OrderedNetwork) → after_network_tick chip net ≡ None → net.windows.posts ≡ 0
unfolding after_network_tick after_tick
no_tick chip net none = by (nat_lt 0 net.windows.posts) refl none
  where
    by : (some : Bool) → nat_lt 0 net.windows.posts ≡ some
        → (when some (Some (if is_last_tick chip.window net.windows then window_closed net.windows else record net.windows { phase = net.windows.phase + 1 })) >>= (λ windows.
        Some (record net { windows = windows; ordered = if is_last_tick chip.window net.windows then net.ordered ++ ordered_by_window chip net else net.ordered }))) ≡ None → net.windows.posts ≡ 0
    by true is none = cc
    by false is none = none_posted net.windows.posts is

ticks_more : (count : ℕ) → ticks (count + 1) ≡ ticks count ++ Tick ∷ []
ticks_more count = ap (map (λ k. Tick)) (one_more_number count) ∙ map_append (λ k. Tick) (upwards 0 count) (count ∷ [])

pub no_ticks : (a : NetworkState) → a.network.windows.phase ≡ 0 → TicksFor 0 a a
no_ticks a closed = record {
  swept = refl;
  sizes = record { chip_is = refl; room_is = refl };
  ordered = λ more. refl;
  runs = λ more. open_or_closed a.network.windows.posts refl;
  over = λ end. closed;
  few = omega arith;
}
  where
    open_or_closed : (posts : ℕ) → a.network.windows.posts ≡ posts → ((a.network.windows.phase ≡ 0) × (a.network.windows.posts ≡ 0)) ⊎ ((a.network.windows.phase ≡ 0) × (0 < a.network.windows.posts))
    open_or_closed zero is = inl (closed, is)
    open_or_closed (suc posts) is = inr (closed, omega arith)

-- one more tick of a window that is open
tick_passes : (count : ℕ) (a b c : NetworkState) → count < a.chip.window → TicksFor count a b → SameSizes b c → c.network ≡ network_tried b.chip b.network Tick → length c.network.ordered ≤ length b.network.ordered + tile_count b.chip
    → Ticked b.chip b.network c.network → TicksFor (count + 1) a c
tick_passes count a b c inside before sizes tried few after_tick = record {
  swept = swept_more;
  sizes = same_sizes_join a b c before.sizes sizes;
  ordered = λ more. elim after_tick.1 [ inl last ↦ absurd (is_not_last more last.0) | inr goes ↦ goes.3 ∙ before.ordered inside ];
  runs = λ more. elim after_tick.1 [ inl last ↦ absurd (is_not_last more last.0) | inr goes ↦ inr (goes.1 ∙ ap (λ (n : ℕ). n + 1) phase_is, subst (λ (n : ℕ). 0 < n) (sym goes.2) after_tick.0) ];
  over = λ end. elim after_tick.1 [ inl last ↦ last.1 | inr goes ↦ absurd (goes.0 (ap (λ (n : ℕ). n + 1) phase_is ∙ end ∙ sym window_is)) ];
  few = let same = ap length (before.ordered inside) in let tiles = ap tile_count before.sizes.chip_is in omega arith;
}
  where
    window_is : b.chip.window ≡ a.chip.window
    window_is = ap (λ (chip : Chip). chip.window) before.sizes.chip_is

    phase_is : b.network.windows.phase ≡ count
    phase_is = elim (before.runs inside) [ inl closed ↦ let none = closed.1 in let some = after_tick.0 in absurd (omega arith) | inr runs ↦ runs.0 ]

    is_not_last : count + 1 < a.chip.window → b.network.windows.phase + 1 ≡ b.chip.window → ⊥
    is_not_last more last = let phase = phase_is in let window = window_is in omega arith

    swept_more : c.network ≡ network_swept a.chip a.network (ticks (count + 1))
    swept_more =
        tried ∙ ap (λ (chip : Chip). network_tried chip b.network Tick) before.sizes.chip_is
        ∙ ap (λ (net : OrderedNetwork). network_tried a.chip net Tick) before.swept
        ∙ sym (ap (network_swept a.chip a.network) (ticks_more count) ∙ fold-append (network_tried a.chip) a.network (ticks count) (Tick ∷ []))

-- one more tick of a window in which no tile posted
tick_refused : (count : ℕ) (a b c : NetworkState) → count < a.chip.window → TicksFor count a b → c.network ≡ network_tried b.chip b.network Tick → c ≡ b → b.network.windows.posts ≡ 0 → TicksFor (count + 1) a c
tick_refused count a b c inside before tried kept none = record {
  swept =
      tried ∙ ap (λ (chip : Chip). network_tried chip b.network Tick) before.sizes.chip_is
      ∙ ap (λ (net : OrderedNetwork). network_tried a.chip net Tick) before.swept
      ∙ sym (ap (network_swept a.chip a.network) (ticks_more count) ∙ fold-append (network_tried a.chip) a.network (ticks count) (Tick ∷ []));
  sizes = rw kept before.sizes;
  ordered = λ more. rw kept (before.ordered inside);
  runs = λ more. inl (rw kept closed);
  over = λ end. rw kept closed.0;
  few = rw kept before.few;
}
  where
    closed : (b.network.windows.phase ≡ 0) × (b.network.windows.posts ≡ 0)
    closed = elim (before.runs inside) [ inl over ↦ over | inr runs ↦ let some = runs.1 in absurd (omega arith) ]

pub one_more_tick : {X E : Type 0} (count : ℕ) (a b c : NetworkState) (answer : Result X E) → count < a.chip.window → TicksFor count a b → SameSizes b c → OnOk answer (after_network_tick b.chip b.network ≡ Some c.network)
    → OnErr answer (after_network_tick b.chip b.network ≡ None) → OnErr answer (c ≡ b) → length c.network.ordered ≤ length b.network.ordered + tile_count b.chip → TicksFor (count + 1) a c
unfolding network_step
one_more_tick count a b c (Ok x) inside before sizes done none kept few =
    tick_passes count a b c inside before sizes (sym (tried_is b.chip b.network c.network Tick (Some c.network) done refl)) few (tick_goes b.chip b.network c.network done)
one_more_tick count a b c (Err e) inside before sizes done none kept few =
    tick_refused count a b c inside before (ap (λ (s : NetworkState). s.network) kept ∙ sym (tried_is b.chip b.network b.network Tick None none refl)) kept (no_tick b.chip b.network none)

-- ---- a whole window
-- the tiles of a set in rising order
pub rising_tiles : (n set : ℕ) → expansion n 0 set ≡ filter (has_tile set) (upwards 0 n)
rising_tiles n set =
    let first : 0 % n ≡ 0 = zero-mod n in
    let count : n - 0 ≡ n = omega arith in
    rw (first, count, append-nil (upwards 0 n)) refl

pub window_passes : (set : ℕ) (a b c d : NetworkState) → BeginsWindow (map Inject (filter (has_tile set) (upwards 0 (tile_count a.chip)))) a b → BeginsWindow (map Post (filter (has_tile set) (upwards 0 (tile_count b.chip)))) b c
    → c.network.windows.phase ≡ 0 → TicksFor c.chip.window c d → WindowPasses (window_events a.chip (expansion (tile_count a.chip) 0 set)) a d
window_passes set a b c d injects posts closed after_tick =
    let turns = filter (has_tile set) (upwards 0 (tile_count a.chip)) in
    let posts_here : BeginsWindow (map Post turns) b c = subst (λ (chip : Chip). BeginsWindow (map Post (filter (has_tile set) (upwards 0 (tile_count chip)))) b c) injects.sizes.chip_is posts in
    let begun = begins_join (map Inject turns) (map Post turns) a b c injects posts_here in
    let events : network_swept a.chip a.network ((map Inject turns ++ map Post turns) ++ ticks a.chip.window) ≡ d.network =
    fold-append (network_tried a.chip) a.network (map Inject turns ++ map Post turns) (ticks a.chip.window)
    ∙ ap (λ (net : OrderedNetwork). network_swept a.chip net (ticks a.chip.window)) (sym begun.swept)
    ∙ ap (λ (chip : Chip). network_swept chip c.network (ticks chip.window)) (sym begun.sizes.chip_is)
    ∙ sym after_tick.swept in
    record {
      swept = rw (rising_tiles (tile_count a.chip) set) (sym events);
      sizes = same_sizes_join a c d begun.sizes after_tick.sizes;
      over = after_tick.over refl;
      few = let same = ap length begun.ordered in let tiles = ap tile_count begun.sizes.chip_is in let few = after_tick.few in omega arith;
    }
