-- What each step of the ordered network does to the order and to the interfaces.
use Rattle.std.proofs.Common.{◌≡◌, ◌≢◌, ℕ, ◌+◌, Bool, true, false, cond, refl, sym, ◌∙◌, ap, subst, inl, inr, arith, Some, List, [], ◌∷◌, ◌++◌, length, set, slice_get}
use Rattle.std.specs.Prelude.{nat_lt}
use Rattle.std.proofs.lemmas.Bool.{cases_eq}
use Rattle.std.proofs.lemmas.List.{append-nil}
use Rattle.std.proofs.lemmas.Option.{same_Some}
use Rattle.mesh_gen.specs.declared.kind.Kind.{Kind}
use Rattle.mesh_gen.specs.declared.port.Port.{Port}
use Rattle.mesh_gen.specs.declared.request.Request.{Request}
use Rattle.vc_bank.specs.Places.{Network}
use Rattle.chip_model.specs.declared.net_copy.NetCopy.{NetCopy}
use Rattle.chip_model.specs.Partial.{when, ◌>>=◌}
use Rattle.chip_model.specs.Chip.{Chip}
use Rattle.chip_model.specs.Windows.{Windows, after_post, after_tick, is_last_tick}
use Rattle.chip_model.specs.Copies.{after_entry, after_serve}
use Rattle.chip_model.specs.OrderedNetwork.{OrderedNetwork, Interface, with_interface, next_request, after_inject, after_request_post, ordered_by_window, after_network_tick, after_vector_take, expected_at, after_copy_hop, after_delivery}
use Rattle.chip_laws.proofs.Options.{bind, when_some, slice_get-set_same, slice_get-set_other}

-- the interface of a tile becomes another, and the order stays
pub record SetsInterface (old new : OrderedNetwork) (t : ℕ) (interface after : Interface) : Type 0 where
  pub at : slice_get old.interfaces t ≡ Some interface
  pub interfaces : new.interfaces ≡ set old.interfaces t after
  pub ordered : new.ordered ≡ old.ordered

-- an interface that was made and delivered the same before
pub record WasInterface (net : OrderedNetwork) (t : ℕ) (interface : Interface) : Type 0 where
  pub was : Interface
  pub at : slice_get net.interfaces t ≡ Some was
  pub made : interface.made ≡ was.made
  pub delivered : interface.delivered ≡ was.delivered

-- no interface makes or delivers a request, and the order may grow
pub record SameViews (old new : OrderedNetwork) : Type 0 where
  pub more : List Request
  pub ordered : new.ordered ≡ old.ordered ++ more
  pub interfaces : (t : ℕ) (interface : Interface) → slice_get new.interfaces t ≡ Some interface → WasInterface old t interface

-- the same interfaces and the same order
pub unchanged_views : (old new : OrderedNetwork) → new.ordered ≡ old.ordered → new.interfaces ≡ old.interfaces → SameViews old new
unchanged_views old new ordered interfaces = record {
  more = [];
  ordered = ordered ∙ sym (append-nil old.ordered);
  interfaces = λ t interface at. record { was = interface; at = ap (λ (xs : List Interface). slice_get xs t) (sym interfaces) ∙ at; made = refl; delivered = refl };
}

pub set_interface : (old new : OrderedNetwork) (t : ℕ) (interface after : Interface) → SetsInterface old new t interface after → slice_get new.interfaces t ≡ Some after
set_interface old new t interface after sets = ap (λ (xs : List Interface). slice_get xs t) sets.interfaces ∙ slice_get-set_same old.interfaces t interface after sets.at

pub other_interface : (old new : OrderedNetwork) (t u : ℕ) (interface after : Interface) → SetsInterface old new t interface after → u ≢ t → slice_get new.interfaces u ≡ slice_get old.interfaces u
other_interface old new t u interface after sets away = ap (λ (xs : List Interface). slice_get xs u) sets.interfaces ∙ slice_get-set_other old.interfaces u t after away

-- ---- the steps
pub ticked_views : (chip : Chip) (net new : OrderedNetwork) → after_network_tick chip net ≡ Some new → SameViews net new
unfolding after_network_tick
ticked_views chip net new e =
    let tick : Windows → OrderedNetwork = λ (windows : Windows). record net { windows = windows; ordered = cond (is_last_tick chip.window net.windows) (net.ordered ++ ordered_by_window chip net) net.ordered } in
    bind (after_tick chip.window net.windows) (λ windows. Some (tick windows)) new e (λ windows is done.
    subst (SameViews net) (same_Some (tick windows) new done) (record {
      more = (grown (is_last_tick chip.window net.windows)).0;
      ordered = (grown (is_last_tick chip.window net.windows)).1;
      interfaces = λ t interface at. record { was = interface; at = at; made = refl; delivered = refl };
    })) where
      grown : (b : Bool) → (more : List Request) × (cond b (net.ordered ++ ordered_by_window chip net) net.ordered ≡ net.ordered ++ more)
      grown true = (ordered_by_window chip net, refl)
      grown false = ([], sym (append-nil net.ordered))

taken_same : (net new : OrderedNetwork) (t : ℕ) → after_vector_take net t ≡ Some new → (new.ordered ≡ net.ordered) × (new.interfaces ≡ net.interfaces)
unfolding after_vector_take
taken_same net new t e = (grind arith, grind arith)

pub taken_views : (net new : OrderedNetwork) (t : ℕ) → after_vector_take net t ≡ Some new → SameViews net new
taken_views net new t e = let same = taken_same net new t e in unchanged_views net new same.0 same.1

hopped_same : (chip : Chip) (net new : OrderedNetwork) (r : ℕ) (port : Port) (slot : ℕ) (out : Port) → after_copy_hop chip net r port slot out ≡ Some new → (new.ordered ≡ net.ordered) × (new.interfaces ≡ net.interfaces)
unfolding after_copy_hop
hopped_same chip net new r port slot out e = (grind arith, grind arith)

pub hopped_views : (chip : Chip) (net new : OrderedNetwork) (r : ℕ) (port : Port) (slot : ℕ) (out : Port) → after_copy_hop chip net r port slot out ≡ Some new → SameViews net new
hopped_views chip net new r port slot out e = let same = hopped_same chip net new r port slot out e in unchanged_views net new same.0 same.1

pub posted_sets : (net new : OrderedNetwork) (t : ℕ) → after_request_post net t ≡ Some new → (interface : Interface) × SetsInterface net new t interface (record interface { posted = interface.posted + 1 })
unfolding after_request_post
posted_sets net new t e =
    let after : Interface → Windows → OrderedNetwork = λ (interface : Interface) (windows : Windows). with_interface (record net { windows = windows }) t (record interface { posted = interface.posted + 1 }) in
    bind (slice_get net.interfaces t) (λ interface. when (nat_lt interface.posted (length interface.made)) (after_post net.windows t >>= λ windows. Some (after interface windows))) new e (λ interface at e1.
    when_some (nat_lt interface.posted (length interface.made)) (after_post net.windows t >>= λ windows. Some (after interface windows)) new e1 (λ may e2.
    bind (after_post net.windows t) (λ windows. Some (after interface windows)) new e2 (λ windows is done. (
      interface,
      subst (λ (x : OrderedNetwork). SetsInterface net x t interface (record interface { posted = interface.posted + 1 })) (same_Some (after interface windows) new done)
          (record { at = at; interfaces = refl; ordered = refl }),
    ))))

-- a post changes what no node sees
pub posted_views : (net new : OrderedNetwork) (t : ℕ) → after_request_post net t ≡ Some new → SameViews net new
posted_views net new t e =
    let is = posted_sets net new t e in
    let after : Interface = record is.0 { posted = is.0.posted + 1 } in
    record {
      more = [];
      ordered = is.1.ordered ∙ sym (append-nil net.ordered);
      interfaces = λ u interface at. elim (cases_eq u t) [
        | inl same ↦ (
            let here : after ≡ interface = same_Some after interface (sym (set_interface net new t is.0 after is.1) ∙ (ap (slice_get new.interfaces) (sym same) ∙ at)) in
            subst (WasInterface net u) here (record { was = is.0; at = ap (slice_get net.interfaces) same ∙ is.1.at; made = refl; delivered = refl }))
        | inr away ↦ record { was = interface; at = sym (other_interface net new t u is.0 after is.1 away) ∙ at; made = refl; delivered = refl }
      ];
    }

pub injected_sets : (chip : Chip) (net new : OrderedNetwork) (t : ℕ) (kind : Kind) (line : ℕ) → after_inject chip net t kind line ≡ Some new
    → (interface : Interface) × SetsInterface net new t interface (record interface { made = interface.made ++ next_request t interface kind line ∷ [] })
unfolding after_inject
injected_sets chip net new t kind line e =
    let made : Interface → Interface = λ (interface : Interface). record interface { made = interface.made ++ next_request t interface kind line ∷ [] } in
    let after : Interface → Network NetCopy → OrderedNetwork = λ (interface : Interface) (copies : Network NetCopy). with_interface (record net { copies = copies }) t (made interface) in
    bind (slice_get net.interfaces t) (λ interface. after_entry chip.grid net.copies (next_request t interface kind line) >>= λ copies. Some (after interface copies)) new e (λ interface at e1.
    bind (after_entry chip.grid net.copies (next_request t interface kind line)) (λ copies. Some (after interface copies)) new e1 (λ copies is done.
    (interface, subst (λ (x : OrderedNetwork). SetsInterface net x t interface (made interface)) (same_Some (after interface copies) new done) (record { at = at; interfaces = refl; ordered = refl }))))

pub delivered_sets : (chip : Chip) (net new : OrderedNetwork) (t : ℕ) (q : Request) → after_delivery chip net t ≡ Some (q, new)
    → (interface : Interface) × SetsInterface net new t interface (record interface { delivered = interface.delivered + 1 })
unfolding after_delivery
delivered_sets chip net new t q e =
    let more : Interface → Interface = λ (interface : Interface). record interface { delivered = interface.delivered + 1 } in
    let after : Interface → Request × Network NetCopy → Request × OrderedNetwork = λ (interface : Interface) (out : Request × Network NetCopy). (out.0, with_interface (record net { copies = out.1 }) t (more interface)) in
    bind (slice_get net.interfaces t) (λ interface. expected_at chip net t >>= λ name. after_serve net.copies t name >>= λ out. Some (after interface out)) (q, new) e (λ interface at e1.
    bind (expected_at chip net t) (λ name. after_serve net.copies t name >>= λ out. Some (after interface out)) (q, new) e1 (λ name expects e2.
    bind (after_serve net.copies t name) (λ out. Some (after interface out)) (q, new) e2 (λ out is done. (
      interface,
      subst (λ (x : Request × OrderedNetwork). SetsInterface net x.1 t interface (more interface)) (same_Some {A = Request × OrderedNetwork} (after interface out) (q, new) done)
          (record { at = at; interfaces = refl; ordered = refl }),
    ))))
