-- The steps of an ordered network where their guards hold and where they do not.
use Rattle.std.proofs.Common.{◌≡◌, ℕ, ◌+◌, Bool, true, false, [], ◌∷◌, ◌++◌, length, Option, Some, None, Result, Ok, Err, refl, sym, ◌∙◌}
use Rattle.std.specs.Prelude.{slice_get, nat_lt, is_some, OnErr}
use Rattle.std.proofs.lemmas.Option.{cond_some}
use Rattle.mesh_gen.specs.declared.request.Request.{Request}
use Rattle.mesh_gen.specs.declared.kind.Kind.{Kind}
use Rattle.mesh_gen.specs.declared.port.Port.{Port}
use Rattle.vc_bank.specs.Places.{Network}
use Rattle.chip_model.specs.declared.net_copy.NetCopy.{NetCopy}
use Rattle.chip_model.specs.Partial.{when, ◌>>=◌}
use Rattle.chip_model.specs.Chip.{Chip}
use Rattle.chip_model.specs.Windows.{Windows, after_post, window_closed, is_last_tick, after_tick, closed_by_tick, after_take}
use Rattle.chip_model.specs.Copies.{Name, after_entry, after_hop, local_place, after_serve}
use Rattle.window_core.proofs.Holds.{tick_is}
use Rattle.window_core.proofs.Steps.{none_from_test, there_too}
use Rattle.chip_model.specs.OrderedNetwork.{OrderedNetwork, Interface, with_interface, next_request, after_inject, after_request_post, ordered_by_window, after_network_tick, after_vector_take, expected_at, expected_at_next_hop, after_copy_hop, after_delivery}

-- ---- a request is made

pub after_inject-some : (chip : Chip) (net : OrderedNetwork) (t : ℕ) (kind : Kind) (line : ℕ) (interface : Interface) (copies : Network NetCopy) → slice_get net.interfaces t ≡ Some interface
    → after_entry chip.grid net.copies (next_request t interface kind line) ≡ Some copies
    → after_inject chip net t kind line ≡ Some (with_interface (record net { copies = copies }) t (record interface { made = interface.made ++ next_request t interface kind line ∷ [] }))
unfolding after_inject
after_inject-some chip net t kind line interface copies is enters = rw (is, enters) refl

pub after_inject-full : (chip : Chip) (net : OrderedNetwork) (t : ℕ) (kind : Kind) (line : ℕ) (interface : Interface) → slice_get net.interfaces t ≡ Some interface
    → after_entry chip.grid net.copies (next_request t interface kind line) ≡ None → after_inject chip net t kind line ≡ None
unfolding after_inject
after_inject-full chip net t kind line interface is enters = rw (is, enters) refl

pub after_inject-none : (chip : Chip) (net : OrderedNetwork) (t : ℕ) (kind : Kind) (line : ℕ) → slice_get net.interfaces t ≡ None → after_inject chip net t kind line ≡ None
unfolding after_inject
after_inject-none chip net t kind line is = rw is refl

pub is_some-after_inject : (chip : Chip) (net : OrderedNetwork) (t : ℕ) (kind : Kind) (line : ℕ) (interface : Interface) → slice_get net.interfaces t ≡ Some interface
    → is_some (after_inject chip net t kind line) ≡ is_some (after_entry chip.grid net.copies (next_request t interface kind line))
unfolding after_inject
is_some-after_inject chip net t kind line interface is = rw is (there_too (after_entry chip.grid net.copies (next_request t interface kind line)) _)

-- ---- a tile posts

pub after_request_post-some : (net : OrderedNetwork) (t : ℕ) (interface : Interface) (windows : Windows) → slice_get net.interfaces t ≡ Some interface → nat_lt interface.posted (length interface.made) ≡ true
    → after_post net.windows t ≡ Some windows → after_request_post net t ≡ Some (with_interface (record net { windows = windows }) t (record interface { posted = interface.posted + 1 }))
unfolding after_request_post
after_request_post-some net t interface windows is more posts = rw (is, more, posts) refl

pub after_request_post-no_tile : (net : OrderedNetwork) (t : ℕ) → slice_get net.interfaces t ≡ None → after_request_post net t ≡ None
unfolding after_request_post
after_request_post-no_tile net t is = rw is refl

pub after_request_post-all : (net : OrderedNetwork) (t : ℕ) (interface : Interface) → slice_get net.interfaces t ≡ Some interface → nat_lt interface.posted (length interface.made) ≡ false → after_request_post net t ≡ None
unfolding after_request_post
after_request_post-all net t interface is none = rw (is, none) refl

nothing_when : {X Y : Type 0} (b : Bool) (o : Option X) (f : X → Option Y) → o ≡ None → when b (o >>= f) ≡ None
nothing_when true o f none = rw none refl
nothing_when false o f none = refl

nothing_for : {X Y Z : Type 0} (o : Option Z) (b : Z → Bool) (p : Option X) (f : Z → X → Option Y) → p ≡ None → (o >>= (λ z. when (b z) (p >>= f z))) ≡ None
nothing_for None b p f none = refl
nothing_for (Some z) b p f none = nothing_when (b z) p (f z) none

pub after_request_post-refused : (net : OrderedNetwork) (t : ℕ) → after_post net.windows t ≡ None → after_request_post net t ≡ None
unfolding after_request_post
after_request_post-refused net t none =
    nothing_for (slice_get net.interfaces t) (λ (interface : Interface). nat_lt interface.posted (length interface.made)) (after_post net.windows t)
    (λ interface windows. Some (with_interface (record net { windows = windows }) t (record interface { posted = interface.posted + 1 }))) none

pub is_some-after_request_post : (net : OrderedNetwork) (t : ℕ) (interface : Interface) → slice_get net.interfaces t ≡ Some interface → nat_lt interface.posted (length interface.made) ≡ true
    → is_some (after_request_post net t) ≡ is_some (after_post net.windows t)
unfolding after_request_post
is_some-after_request_post net t interface is more = rw (is, more) (there_too (after_post net.windows t) _)

-- ---- a tick

pub record IsLast (ticks : ℕ) (w : Windows) (vector : ℕ) : Type 0 where
  pub last : is_last_tick ticks w ≡ true
  pub is : w.posts ≡ vector

pub last_is : (ticks : ℕ) (w : Windows) (vector : ℕ) → closed_by_tick ticks w ≡ Some vector → IsLast ticks w vector
unfolding closed_by_tick
last_is ticks w vector is = let parts = cond_some (is_last_tick ticks w) w.posts vector is in record { last = parts.0; is = parts.1 }

not_last_by : (b : Bool) (posts : ℕ) → when b (Some posts) ≡ None → b ≡ false
not_last_by true posts none = cc
not_last_by false posts none = refl

pub not_last : (ticks : ℕ) (w : Windows) → closed_by_tick ticks w ≡ None → is_last_tick ticks w ≡ false
unfolding closed_by_tick
not_last ticks w none = not_last_by (is_last_tick ticks w) w.posts none

-- a tick that is not the last one, and one that is
pub merge_is : (ticks : ℕ) (w new : Windows) → after_tick ticks w ≡ Some new → is_last_tick ticks w ≡ false → record w { phase = w.phase + 1 } ≡ new
merge_is ticks w new is other = let step = tick_is ticks w new is in sym (rw other at step.is)

pub close_is : (ticks : ℕ) (w new : Windows) → after_tick ticks w ≡ Some new → is_last_tick ticks w ≡ true → window_closed w ≡ new
close_is ticks w new is last = let step = tick_is ticks w new is in sym (rw last at step.is)

pub after_network_tick-last : (chip : Chip) (net : OrderedNetwork) (windows : Windows) → after_tick chip.window net.windows ≡ Some windows → is_last_tick chip.window net.windows ≡ true
    → after_network_tick chip net ≡ Some (record net { windows = windows; ordered = net.ordered ++ ordered_by_window chip net })
unfolding after_network_tick
after_network_tick-last chip net windows is last = rw (is, last) refl

pub after_network_tick-other : (chip : Chip) (net : OrderedNetwork) (windows : Windows) → after_tick chip.window net.windows ≡ Some windows → is_last_tick chip.window net.windows ≡ false
    → after_network_tick chip net ≡ Some (record net { windows = windows })
unfolding after_network_tick
after_network_tick-other chip net windows is other = rw (is, other) refl

pub after_network_tick-none : (chip : Chip) (net : OrderedNetwork) → after_tick chip.window net.windows ≡ None → after_network_tick chip net ≡ None
unfolding after_network_tick
after_network_tick-none chip net is = rw is refl

pub is_some-after_network_tick : (chip : Chip) (net : OrderedNetwork) → is_some (after_network_tick chip net) ≡ is_some (after_tick chip.window net.windows)
unfolding after_network_tick
is_some-after_network_tick chip net = there_too (after_tick chip.window net.windows) _

-- ---- a vector is taken

pub after_vector_take-some : (net : OrderedNetwork) (t : ℕ) (windows : Windows) → after_take net.windows t ≡ Some windows → after_vector_take net t ≡ Some (record net { windows = windows })
unfolding after_vector_take
after_vector_take-some net t windows is = rw is refl

pub after_vector_take-none : (net : OrderedNetwork) (t : ℕ) → after_take net.windows t ≡ None → after_vector_take net t ≡ None
unfolding after_vector_take
after_vector_take-none net t is = rw is refl

pub is_some-after_vector_take : (net : OrderedNetwork) (t : ℕ) → is_some (after_vector_take net t) ≡ is_some (after_take net.windows t)
unfolding after_vector_take
is_some-after_vector_take net t = there_too (after_take net.windows t) _

-- ---- a copy hops

pub after_copy_hop-some : (chip : Chip) (net : OrderedNetwork) (r : ℕ) (port : Port) (slot : ℕ) (out : Port) (expected : Option Name) (copies : Network NetCopy) → expected ≡ expected_at_next_hop chip net r out
    → after_hop chip.grid net.copies r port slot out expected ≡ Some copies → after_copy_hop chip net r port slot out ≡ Some (record net { copies = copies })
unfolding after_copy_hop
after_copy_hop-some chip net r port slot out expected copies is hops = rw (← is, hops) refl

pub after_copy_hop-none : (chip : Chip) (net : OrderedNetwork) (r : ℕ) (port : Port) (slot : ℕ) (out : Port) (expected : Option Name) → expected ≡ expected_at_next_hop chip net r out
    → after_hop chip.grid net.copies r port slot out expected ≡ None → after_copy_hop chip net r port slot out ≡ None
unfolding after_copy_hop
after_copy_hop-none chip net r port slot out expected is hops = rw (← is, hops) refl

pub is_some-after_copy_hop : (chip : Chip) (net : OrderedNetwork) (r : ℕ) (port : Port) (slot : ℕ) (out : Port) (expected : Option Name) → expected ≡ expected_at_next_hop chip net r out
    → is_some (after_copy_hop chip net r port slot out) ≡ is_some (after_hop chip.grid net.copies r port slot out expected)
unfolding after_copy_hop
is_some-after_copy_hop chip net r port slot out expected is = rw (← is) (there_too (after_hop chip.grid net.copies r port slot out expected) _)

-- ---- a request is delivered

pub after_delivery-some : (chip : Chip) (net : OrderedNetwork) (t : ℕ) (interface : Interface) (name : Name) (q : Request) (copies : Network NetCopy) → slice_get net.interfaces t ≡ Some interface → expected_at chip net t ≡ Some name
    → after_serve net.copies t name ≡ Some (q, copies) → after_delivery chip net t ≡ Some (q, with_interface (record net { copies = copies }) t (record interface { delivered = interface.delivered + 1 }))
unfolding after_delivery
after_delivery-some chip net t interface name q copies is expects serves = rw (is, expects, serves) refl

nothing_expected : {X Y Z : Type 0} (o : Option Z) (p : Option X) (f : Z → X → Option Y) → p ≡ None → (o >>= (λ z. p >>= f z)) ≡ None
nothing_expected None p f none = refl
nothing_expected (Some z) p f none = rw none refl

pub after_delivery-unknown : (chip : Chip) (net : OrderedNetwork) (t : ℕ) → expected_at chip net t ≡ None → after_delivery chip net t ≡ None
unfolding after_delivery
after_delivery-unknown chip net t none = nothing_expected (slice_get net.interfaces t) (expected_at chip net t) _ none

pub after_serve-none : (net : Network NetCopy) (r : ℕ) (name : Name) → local_place net r name ≡ None → after_serve net r name ≡ None
unfolding after_serve
after_serve-none net r name none = rw none refl

pub after_delivery-absent : (chip : Chip) (net : OrderedNetwork) (t : ℕ) (interface : Interface) (name : Name) → slice_get net.interfaces t ≡ Some interface → expected_at chip net t ≡ Some name
    → is_some (local_place net.copies t name) ≡ false → after_delivery chip net t ≡ None
unfolding after_delivery
after_delivery-absent chip net t interface name is expects none = rw (is, expects, after_serve-none net.copies t name (none_from_test (local_place net.copies t name) none)) refl

pub is_some-after_delivery : (chip : Chip) (net : OrderedNetwork) (t : ℕ) (interface : Interface) (name : Name) → is_some (after_serve net.copies t name) ≡ is_some (local_place net.copies t name) → slice_get net.interfaces t ≡ Some interface → expected_at chip net t ≡ Some name
    → is_some (after_delivery chip net t) ≡ is_some (local_place net.copies t name)
unfolding after_delivery
is_some-after_delivery chip net t interface name found is expects = rw (is, expects) (there_too (after_serve net.copies t name) _ ∙ found)

-- ---- answers

pub on_err : {V E : Type 0} (answer : Result V E) (P : Type 0) → P → OnErr answer P
on_err (Ok v) P holds = tt
on_err (Err e) P holds = holds
