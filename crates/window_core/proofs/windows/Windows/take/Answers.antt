use Rattle.std.proofs.Common.{◌≡◌, None, Some, refl, sym, ◌∙◌, rules, arith}
use Rattle.std.specs.Prelude.{slice_get, option_and_then}
use Rattle.std.proofs.lemmas.Option.{get_or_from_slice_get}
use Rattle.window_core.proofs.Kept.{IsKept-take}
use Rattle.window_core.proofs.Steps.{next_from, next-within, next-below, next_vector-some, after_take-some, after_take-none}
use Rattle.window_core.proofs.windows.Windows.take.Goals as goal

pub returns-in_default-clause-err : goal.returns-in_default-clause-err
returns-in_default-clause-err c =
    let gives : c.next_of.result ≡ option_and_then (slice_get c.self.inside.closed.items) (slice_get c.self.inside.taken.items c.args.t) = c.next_of.ensures ∙ rw (c.deref.ensures.value, c.deref-2.ensures.value) refl in
    let none : c.next_of.result ≡ None = search rules in
    rw (← c.self.view_is) (after_take-none (record { phase = c.self.inside.phase; posts = c.self.inside.posts; closed = c.self.inside.closed.items; taken = c.self.inside.taken.items }) c.args.t (sym gives ∙ none))

pub index_mut-requires : goal.index_mut-requires
index_mut-requires c =
    let gives : c.next_of.result ≡ option_and_then (slice_get c.self.inside.closed.items) (slice_get c.self.inside.taken.items c.args.t) = c.next_of.ensures ∙ rw (c.deref.ensures.value, c.deref-2.ensures.value) refl in
    let is : c.next_of.result ≡ Some c.in-Some.vector = search rules in
    let next = next_from c.self.inside.taken.items c.self.inside.closed.items c.args.t c.in-Some.vector (sym gives ∙ is) in
    omega (arith, c.from.ensures, c.self.inside.taken.ok.0, next-within c.self.inside.taken.items c.self.inside.closed.items c.args.t c.in-Some.vector next)

pub overflow_add-index_mut : goal.overflow_add-index_mut
overflow_add-index_mut c =
    let gives : c.next_of.result ≡ option_and_then (slice_get c.self.inside.closed.items) (slice_get c.self.inside.taken.items c.args.t) = c.next_of.ensures ∙ rw (c.deref.ensures.value, c.deref-2.ensures.value) refl in
    let is : c.next_of.result ≡ Some c.in-Some.vector = search rules in
    let next = next_from c.self.inside.taken.items c.self.inside.closed.items c.args.t c.in-Some.vector (sym gives ∙ is) in
    let here : c.index_mut.result.now ≡ next.at = c.index_mut.ensures.value ∙ rw c.from.ensures (get_or_from_slice_get c.self.inside.taken.items c.args.t next.at c.index_mut.result.now next.counted) in
    let below = next-below c.self.inside.taken.items c.self.inside.closed.items c.args.t c.in-Some.vector next in
    omega (arith, here, below, c.self.inside.closed.ok.0, c.self.inside.closed.ok.1, c.self.inside.closed.small)

pub invariant_of-self : goal.invariant_of-self
invariant_of-self c =
    let gives : c.next_of.result ≡ option_and_then (slice_get c.self.inside.closed.items) (slice_get c.self.inside.taken.items c.args.t) = c.next_of.ensures ∙ rw (c.deref.ensures.value, c.deref-2.ensures.value) refl in
    let is : c.next_of.result ≡ Some c.in-Some.vector = search rules in
    let next = next_from c.self.inside.taken.items c.self.inside.closed.items c.args.t c.in-Some.vector (sym gives ∙ is) in
    let here : c.index_mut.result.now ≡ next.at = c.index_mut.ensures.value ∙ rw c.from.ensures (get_or_from_slice_get c.self.inside.taken.items c.args.t next.at c.index_mut.result.now next.counted) in
    let below = next-below c.self.inside.taken.items c.self.inside.closed.items c.args.t c.in-Some.vector next in
    (rw (c.from.ensures, here) (IsKept-take c.self.inside.latches c.self.inside.ticks (record { phase = c.self.inside.phase; posts = c.self.inside.posts; closed = c.self.inside.closed.items; taken = c.self.inside.taken.items }) c.self.inside.room c.args.t next.at below c.self.invariant.0), c.self.invariant.1)

pub returns-clause-ok : goal.returns-clause-ok
returns-clause-ok c =
    let gives : c.next_of.result ≡ option_and_then (slice_get c.self.inside.closed.items) (slice_get c.self.inside.taken.items c.args.t) = c.next_of.ensures ∙ rw (c.deref.ensures.value, c.deref-2.ensures.value) refl in
    let is : c.next_of.result ≡ Some c.in-Some.vector = search rules in
    let next = next_from c.self.inside.taken.items c.self.inside.closed.items c.args.t c.in-Some.vector (sym gives ∙ is) in
    let here : c.index_mut.result.now ≡ next.at = c.index_mut.ensures.value ∙ rw c.from.ensures (get_or_from_slice_get c.self.inside.taken.items c.args.t next.at c.index_mut.result.now next.counted) in
    rw (← c.self.view_is, c.from.ensures, here) (after_take-some (record { phase = c.self.inside.phase; posts = c.self.inside.posts; closed = c.self.inside.closed.items; taken = c.self.inside.taken.items }) c.args.t c.in-Some.vector next)

pub returns-clause-vector : goal.returns-clause-vector
returns-clause-vector c =
    let gives : c.next_of.result ≡ option_and_then (slice_get c.self.inside.closed.items) (slice_get c.self.inside.taken.items c.args.t) = c.next_of.ensures ∙ rw (c.deref.ensures.value, c.deref-2.ensures.value) refl in
    let is : c.next_of.result ≡ Some c.in-Some.vector = search rules in
    let next = next_from c.self.inside.taken.items c.self.inside.closed.items c.args.t c.in-Some.vector (sym gives ∙ is) in
    rw (← c.self.view_is) (next_vector-some (record { phase = c.self.inside.phase; posts = c.self.inside.posts; closed = c.self.inside.closed.items; taken = c.self.inside.taken.items }) c.args.t c.in-Some.vector next)

pub returns-clause-tiles : goal.returns-clause-tiles
returns-clause-tiles c =
    let gives : c.next_of.result ≡ option_and_then (slice_get c.self.inside.closed.items) (slice_get c.self.inside.taken.items c.args.t) = c.next_of.ensures ∙ rw (c.deref.ensures.value, c.deref-2.ensures.value) refl in
    let is : c.next_of.result ≡ Some c.in-Some.vector = search rules in
    let next = next_from c.self.inside.taken.items c.self.inside.closed.items c.args.t c.in-Some.vector (sym gives ∙ is) in
    rw (← c.self.view_is) (c.self.invariant.0.sound.holds.closed next.at c.in-Some.vector next.there)
