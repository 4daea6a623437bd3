-- Which requests have copies after a step, whatever the channels are.
use Rattle.std.proofs.Common.{◌≡◌, ◌⊎◌, ℕ, Bool, true, false, refl, sym, ◌∙◌, ap, subst, arith, inl, inr, ⊎_elim, Option, Some, None, List, [], length, set, get_or}
use Rattle.std.specs.Prelude.{is_some}
use Rattle.std.proofs.lemmas.Bool.{cases_eq, cases_lt}
use Rattle.std.proofs.lemmas.List.{get_or-set_same, get_or-set_other, get_or_past, length-set}
use Rattle.mesh_gen.specs.declared.request.Request.{Request}
use Rattle.mesh_gen.specs.declared.port.Port.{Port}
use Rattle.mesh_gen.specs.declared.port.Port.TheVariants.{L}
use Rattle.mesh_gen.specs.Grid.{Grid, neighbour}
use Rattle.mesh_gen.specs.Ports.{port_number, opposite}
use Rattle.vc_bank.specs.Channels.{Channels, lowest_free}
use Rattle.vc_bank.specs.Places.{Network, at, put}
use Rattle.chip_model.specs.declared.net_copy.NetCopy.{NetCopy}
use Rattle.chip_model.specs.Partial.{when, ◌>>=◌}
use Rattle.chip_model.specs.Copies.{Name, name_of, channels_of, no_copies, arriving, left_by, owes, after_entry, entry_slot, expects, after_hop, local_place, after_serve}
use Rattle.chip_model.specs.CopiesOwed.{HasCopies, NoneComes, ComesAlone}
use Rattle.router_xy.specs.CopySteps.{Serves}
use Rattle.router_xy.proofs.CopyOutputs.{some_is, left_request, name_is}
use Rattle.router_xy.proofs.LocalPlaces.{local_stands}
use Rattle.router_xy.proofs.Steps.{served_at}
use Rattle.router_xy.proofs.Sound.{nothing_stands}

-- an item of a list after one place was set is the new one, or as before
set_cases : {X : Type 0} (xs : List X) (k : ℕ) (y : X) (j : ℕ) (other : X) → ((get_or (set xs k y) j other ≡ y) × (j ≡ k)) ⊎ (get_or (set xs k y) j other ≡ get_or xs j other)
set_cases xs k y j other = elim (cases_eq j k) [
  | inl same ↦ elim (cases_lt k (length xs)) [
    | inl inside ↦ inl (ap (λ (n : ℕ). get_or (set xs k y) n other) same ∙ get_or-set_same xs k y other inside, same)
    | inr past ↦ inr (get_or_past (set xs k y) j other (omega (arith, same, length-set xs k y)) ∙ sym (get_or_past xs j other (omega (arith, same))))
  ]
  | inr away ↦ inr (get_or-set_other xs k j y other away)
]

-- a copy that stands after one channel was written is what was written, or stood before
stood_or_put : (net : Network NetCopy) (r p i : ℕ) (packet : Option NetCopy) (n q j : ℕ) (copy : NetCopy) → at (put net r p i packet) n q j ≡ Some copy → (packet ≡ Some copy) ⊎ (at net n q j ≡ Some copy)
unfolding at put
stood_or_put net r p i packet n q j copy stands =
    let bank = get_or net r [] in
    let slots = get_or bank p [] in
    let written = set bank p (set slots i packet) in
    ⊎_elim
    (λ here. ⊎_elim
    (λ there. ⊎_elim
    (λ last. inl (sym last.0 ∙ sym (ap (λ (row : List (Option NetCopy)). get_or row j None) there.0) ∙ sym (ap (λ (b : Channels NetCopy). get_or (get_or b q []) j None) here.0) ∙ stands))
    (λ same. inr (
    ap (λ (k : ℕ). get_or (get_or (get_or net k []) q []) j None) here.1
    ∙ ap (λ (k : ℕ). get_or (get_or bank k []) j None) there.1
    ∙ sym same ∙ sym (ap (λ (row : List (Option NetCopy)). get_or row j None) there.0) ∙ sym (ap (λ (b : Channels NetCopy). get_or (get_or b q []) j None) here.0) ∙ stands
    ))
    (set_cases slots i packet j None))
    (λ same. inr (
    ap (λ (k : ℕ). get_or (get_or (get_or net k []) q []) j None) here.1
    ∙ sym (ap (λ (row : List (Option NetCopy)). get_or row j None) same) ∙ sym (ap (λ (b : Channels NetCopy). get_or (get_or b q []) j None) here.0) ∙ stands
    ))
    (set_cases bank p (set slots i packet) q []))
    (λ same. inr (sym (ap (λ (b : Channels NetCopy). get_or (get_or b q []) j None) same) ∙ stands))
    (set_cases net r written n [])

-- the same of requests on their way
way_or_put : (net : Network NetCopy) (r p i : ℕ) (packet : Option NetCopy) (q : Request) → HasCopies (put net r p i packet) q → ((copy : NetCopy) × (packet ≡ Some copy) × (copy.request ≡ q)) ⊎ HasCopies net q
way_or_put net r p i packet q on = ⊎_elim
    (λ here. inl (on.there.copy, here, on.there.is))
    (λ before. inr (record { router = on.router; port = on.port; slot = on.slot; there = record { copy = on.there.copy; stands = before; is = on.there.is } }))
    (stood_or_put net r p i packet on.router on.port on.slot on.there.copy on.there.stands)

pub before_any_step : (g : Grid) (vcs router port slot : ℕ) → at (no_copies g vcs) router port slot ≡ None
before_any_step g vcs router port slot = by (at (no_copies g vcs) router port slot) refl
  where
    by : (packet : Option NetCopy) → at (no_copies g vcs) router port slot ≡ packet → at (no_copies g vcs) router port slot ≡ None
    by None is = is
    by (Some copy) is = absurd (nothing_stands g vcs router port slot copy is)

-- ---- a request enters
pub enters_alone : (g : Grid) (old new : Network NetCopy) (q : Request) → after_entry g old q ≡ Some new → ComesAlone q old new
unfolding after_entry
enters_alone g old new q = by (lowest_free (channels_of old q.source) (port_number L))
  where
    by : (lowest : Option ℕ) → (lowest >>= (λ slot. Some (put old q.source (port_number L) slot (Some (arriving g q.source q))))) ≡ Some new → ComesAlone q old new
    by None is request on = cc
    by (Some slot) is request on =
        let made : put old q.source (port_number L) slot (Some (arriving g q.source q)) ≡ new = cc in
        ⊎_elim
        (λ come. inr (sym come.2 ∙ ap (λ (copy : NetCopy). copy.request) (sym (some_is (arriving g q.source q) come.0 come.1))))
        (λ before. inl before)
        (way_or_put old q.source (port_number L) slot (Some (arriving g q.source q)) request (subst (λ (net : Network NetCopy). HasCopies net request) (sym made) on))

-- ---- a copy leaves, and it or what is left of it stands
left_stands : (net : Network NetCopy) (r p i : ℕ) (out : Port) (copy : NetCopy) → at net r p i ≡ Some copy → NoneComes net (put net r p i (left_by out copy))
left_stands net r p i out copy stands q on = ⊎_elim
    (λ left. record { router = r; port = p; slot = i; there = record { copy = copy; stands = stands; is = sym (left_request out copy left.0 left.1) ∙ left.2 } })
    (λ before. before)
    (way_or_put net r p i (left_by out copy) q on)

pub hops_with_none : (g : Grid) (old new : Network NetCopy) (r : ℕ) (port : Port) (slot : ℕ) (out : Port) (expected : Option Name) → after_hop g old r port slot out expected ≡ Some new → NoneComes old new
unfolding after_hop
hops_with_none g old new r port slot out expected = by (at old r (port_number port) slot) refl
  where
    mid : NetCopy → Network NetCopy
    mid copy = put old r (port_number port) slot (left_by out copy)

    landed : (copy : NetCopy) (to entry : ℕ) → at old r (port_number port) slot ≡ Some copy → put (mid copy) to (port_number (opposite out)) entry (Some (arriving g to copy.request)) ≡ new → NoneComes old new
    landed copy to entry stands made q on = ⊎_elim
        (λ come. record {
          router = r;
          port = port_number port;
          slot = slot;
          there = record { copy = copy; stands = stands; is = ap (λ (c : NetCopy). c.request) (some_is (arriving g to copy.request) come.0 come.1) ∙ come.2 };
        })
        (λ before. left_stands old r (port_number port) slot out copy stands q before)
        (way_or_put (mid copy) to (port_number (opposite out)) entry (Some (arriving g to copy.request)) q (subst (λ (net : Network NetCopy). HasCopies net q) (sym made) on))

    into : (copy : NetCopy) (to : ℕ) → at old r (port_number port) slot ≡ Some copy → (entry : Option ℕ) → (entry >>= (λ entry. Some (put (mid copy) to (port_number (opposite out)) entry (Some (arriving g to copy.request))))) ≡ Some new → NoneComes old new
    into copy to stands None is = cc
    into copy to stands (Some entry) is = let made : put (mid copy) to (port_number (opposite out)) entry (Some (arriving g to copy.request)) ≡ new = cc in landed copy to entry stands made

    beside : (copy : NetCopy) → at old r (port_number port) slot ≡ Some copy → (next : Option ℕ)
        → (next >>= (λ to. entry_slot (channels_of old to) (opposite out) (expects expected copy.request) >>= (λ entry. Some (put (mid copy) to (port_number (opposite out)) entry (Some (arriving g to copy.request)))))) ≡ Some new → NoneComes old new
    beside copy stands None is = cc
    beside copy stands (Some to) is = into copy to stands (entry_slot (channels_of old to) (opposite out) (expects expected copy.request)) is

    owing : (copy : NetCopy) → at old r (port_number port) slot ≡ Some copy → (owed : Bool)
        → when owed (neighbour g r out >>= (λ to. entry_slot (channels_of old to) (opposite out) (expects expected copy.request) >>= (λ entry. Some (put (mid copy) to (port_number (opposite out)) entry (Some (arriving g to copy.request)))))) ≡ Some new → NoneComes old new
    owing copy stands true is = beside copy stands (neighbour g r out) is
    owing copy stands false is = cc

    by : (packet : Option NetCopy) → at old r (port_number port) slot ≡ packet
        → (packet >>= (λ copy. when (owes copy out) (neighbour g r out >>= (λ to. entry_slot (channels_of old to) (opposite out) (expects expected copy.request) >>= (λ entry.
        Some (put (put old r (port_number port) slot (left_by out copy)) to (port_number (opposite out)) entry (Some (arriving g to copy.request)))))))) ≡ Some new → NoneComes old new
    by None stands is = cc
    by (Some copy) stands is = owing copy stands (owes copy out) is

-- ---- a request is served
pub serve_found : (net : Network NetCopy) (r : ℕ) (name : Name) → is_some (after_serve net r name) ≡ is_some (local_place net r name)
unfolding after_serve
serve_found net r name = by (local_place net r name) refl
  where
    by : (place : Option (ℕ × ℕ)) → local_place net r name ≡ place → is_some (after_serve net r name) ≡ is_some (local_place net r name)
    by None is = rw is refl
    by (Some place) is = let there = local_stands net r name place.0 place.1 is in rw (is, there.1) refl

pub serves_named : (old new : Network NetCopy) (r : ℕ) (name : Name) (q : Request) → after_serve old r name ≡ Some (q, new) → Serves old new name q
serves_named old new r name q = by (local_place old r name) refl
  where
    by : (place : Option (ℕ × ℕ)) → local_place old r name ≡ place → after_serve old r name ≡ Some (q, new) → Serves old new name q
    by None none is = let fails : is_some (after_serve old r name) ≡ false = serve_found old r name ∙ ap is_some none in let holds = ap is_some is in cc
    by (Some place) found is =
        let there = local_stands old r name place.0 place.1 found in
        let copy = there.0 in
        let out : ◌≡◌ {A = Option (Request × Network NetCopy)} (Some (copy.request, put old r place.0 place.1 (left_by L copy))) (Some (q, new)) = sym (served_at old r name place.0 place.1 copy found there.1) ∙ is in
        let same = some_pair (copy.request, put old r place.0 place.1 (left_by L copy)) (q, new) out in
        let request : copy.request ≡ q = ap (λ (pair : Request × Network NetCopy). pair.0) same in
        let left : put old r place.0 place.1 (left_by L copy) ≡ new = ap (λ (pair : Request × Network NetCopy). pair.1) same in
        record {
          named = ap name_of (sym request) ∙ name_is name copy.request there.2;
          stood = record { router = r; port = place.0; slot = place.1; there = record { copy = copy; stands = there.1; is = request } };
          none_comes = subst (λ (net : Network NetCopy). NoneComes old net) left (left_stands old r place.0 place.1 L copy there.1);
        }
      where
        some_pair : (a b : Request × Network NetCopy) → ◌≡◌ {A = Option (Request × Network NetCopy)} (Some a) (Some b) → a ≡ b
        some_pair a b is = cc
