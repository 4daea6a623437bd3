-- Which requests have copies after a step, and in which channels.
use Rattle.std.proofs.Common.{◌≡◌, ◌⊎◌, ℕ, ◌<◌, true, refl, sym, ◌∙◌, ap, subst, arith, inl, inr, ⊎_elim, Bool, false, Option, Some, None}
use Rattle.std.specs.Prelude.{◌&&◌}
use Rattle.std.specs.Option.{option_or}
use Rattle.mesh_gen.specs.declared.request.Request.{Request}
use Rattle.mesh_gen.specs.declared.port.Port.{Port}
use Rattle.mesh_gen.specs.Grid.{Grid, neighbour}
use Rattle.mesh_gen.specs.Ports.{port_number}
use Rattle.vc_bank.specs.Channels.{Channels, lowest_free, reserved_free, normal_slots}
use Rattle.vc_bank.specs.Places.{Network, at}
use Rattle.vc_bank.proofs.FreeSlots.{IsLowestFree-lowest_free}
use Rattle.vc_bank.proofs.PlaceLaws.{at-put, place_of}
use Rattle.chip_model.specs.declared.net_copy.NetCopy.{NetCopy}
use Rattle.chip_model.specs.Partial.{when}
use Rattle.chip_model.specs.Copies.{Name, entry_slot, expects}
use Rattle.chip_model.specs.CopiesOwed.{HasCopyAt, NoneComes, ComesAlone, ReservesExpected, ReservesNothing}
use Rattle.router_xy.proofs.CopyOutputs.{some_is, left_request}
use Rattle.router_xy.proofs.OwedCounts.{Leaves, Arrives, free_place}

-- ---- one write

-- where a copy of a request stands once another has left its channel, one stood before
pub before-leave : {net new : Network NetCopy} {r p slot : ℕ} {out : Port} {copy : NetCopy} {left : Option NetCopy} → Leaves net new r p slot out copy left → (n port i : ℕ) (q : Request) → HasCopyAt new n port i q → HasCopyAt net n port i q
before-leave {net} {new} {r} {p} {slot} {out} {copy} {left} leaves n port i q has = ⊎_elim
    (λ here. record {
      copy = copy;
      stands = at_one net r p slot n port i here.0 here.1 here.2 ∙ leaves.stands;
      is = sym (left_request out copy has.copy (sym leaves.left_is ∙ here.3)) ∙ has.is;
    })
    (λ before. record { copy = has.copy; stands = before; is = has.is })
    (at-put net r p slot left n port i has.copy (place_of net r p slot copy leaves.stands) (subst (λ (after : Network NetCopy). at after n port i ≡ Some has.copy) leaves.made has.stands))
  where
    at_one : (net : Network NetCopy) (r p i n q j : ℕ) → n ≡ r → q ≡ p → j ≡ i → at net n q j ≡ at net r p i
    at_one net r p i n q j router port slot = rw (router, port, slot)

-- where one stands after a copy came, one stood before, or it is the one that came
record Came (r p slot : ℕ) (q : Request) (n port i : ℕ) (request : Request) : Type 0 where
  pub at_router : n ≡ r
  pub at_port : port ≡ p
  pub at_slot : i ≡ slot
  pub is : request ≡ q

before-arrive : {g : Grid} {net new : Network NetCopy} {r p slot : ℕ} {q : Request} {copy : NetCopy} → Arrives g net new r p slot q copy
    → (n port i : ℕ) (request : Request) → HasCopyAt new n port i request → HasCopyAt net n port i request ⊎ Came r p slot q n port i request
before-arrive {g} {net} {new} {r} {p} {slot} {q} {copy} arrives n port i request has = ⊎_elim
    (λ here. inr (record {
      at_router = here.0;
      at_port = here.1;
      at_slot = here.2;
      is = sym has.is ∙ ap (λ (c : NetCopy). c.request) (sym (some_is copy has.copy here.3) ∙ arrives.copy_is);
    }))
    (λ before. inl (record { copy = has.copy; stands = before; is = has.is }))
    (at-put net r p slot (Some copy) n port i has.copy (free_place net r p slot arrives.free) (subst (λ (after : Network NetCopy). at after n port i ≡ Some has.copy) arrives.made has.stands))

-- ---- which channel takes a copy in
pub lowest_is_normal : (channels : Channels NetCopy) (p slot : ℕ) → lowest_free channels p ≡ Some slot → slot < normal_slots channels
lowest_is_normal channels p slot is = (IsLowestFree-lowest_free channels p slot is).normal

-- a normal one, or the request is expected there
pub normal_or_expected : (channels : Channels NetCopy) (port : Port) (is_expected : Bool) (slot : ℕ) → entry_slot channels port is_expected ≡ Some slot → (slot < normal_slots channels) ⊎ (is_expected ≡ true)
normal_or_expected channels port is_expected slot found = by (lowest_free channels (port_number port)) refl found
  where
    expected : (is_expected free : Bool) → when (is_expected && free) (Some (normal_slots channels)) ≡ Some slot → is_expected ≡ true
    expected true free is = refl
    expected false free is = cc

    by : (lowest : Option ℕ) → lowest_free channels (port_number port) ≡ lowest → option_or lowest (when (is_expected && reserved_free channels (port_number port)) (Some (normal_slots channels))) ≡ Some slot
        → (slot < normal_slots channels) ⊎ (is_expected ≡ true)
    by (Some k) lowest is = inl (lowest_is_normal channels (port_number port) slot (lowest ∙ is))
    by None lowest is = inr (expected is_expected (reserved_free channels (port_number port)) is)

-- ---- the steps

-- a copy leaves
pub none_comes : {net new : Network NetCopy} {r p slot : ℕ} {out : Port} {copy : NetCopy} {left : Option NetCopy} → Leaves net new r p slot out copy left → NoneComes net new
none_comes leaves q on = record {
  router = on.router;
  port = on.port;
  slot = on.slot;
  there = before-leave leaves on.router on.port on.slot q on.there;
}

-- a request enters, by a normal channel
pub comes_alone : {g : Grid} {net new : Network NetCopy} {r p slot : ℕ} {q : Request} {copy : NetCopy} → Arrives g net new r p slot q copy → ComesAlone q net new
comes_alone arrives request on = ⊎_elim
    (λ before. inl (record { router = on.router; port = on.port; slot = on.slot; there = before }))
    (λ came. inr came.is)
    (before-arrive arrives on.router on.port on.slot request on.there)

pub enters_normal : {g : Grid} {net new : Network NetCopy} {r p slot reserved : ℕ} {q : Request} {copy : NetCopy} → slot < reserved → Arrives g net new r p slot q copy → ReservesNothing reserved net new
enters_normal {reserved = reserved} normal arrives n port request has = ⊎_elim
    (λ before. before)
    (λ came. absurd (let same = came.at_slot in omega arith))
    (before-arrive arrives n port reserved request has)

-- a copy hops
pub hop_brings_none : {g : Grid} {net mid new : Network NetCopy} {r p slot : ℕ} {out : Port} {copy : NetCopy} {left : Option NetCopy} {to side entry : ℕ} {come : NetCopy} → Leaves net mid r p slot out copy left → Arrives g mid new to side entry copy.request come
    → NoneComes net new
hop_brings_none {r = r} {p} {slot} {copy = copy} leaves arrives q on = ⊎_elim
    (λ before. none_comes leaves q (record { router = on.router; port = on.port; slot = on.slot; there = before }))
    (λ came. record { router = r; port = p; slot = slot; there = record { copy = copy; stands = leaves.stands; is = sym came.is } })
    (before-arrive arrives on.router on.port on.slot q on.there)

pub hop_reserves : {g : Grid} {net mid new : Network NetCopy} {r p slot : ℕ} {out : Port} {copy : NetCopy} {left : Option NetCopy} {to side entry : ℕ} {come : NetCopy} {reserved : ℕ} (expected : Option Name) → Leaves net mid r p slot out copy left
    → neighbour g r out ≡ Some to → (entry < reserved) ⊎ (expects expected copy.request ≡ true) → Arrives g mid new to side entry copy.request come → ReservesExpected g reserved r out expected net new
hop_reserves {reserved = reserved} expected leaves next normal arrives n port q has = ⊎_elim
    (λ before. inl (before-leave leaves n port reserved q before))
    (λ came. inr (
      next ∙ ap Some (sym came.at_router),
      ⊎_elim
          (λ below. absurd (let same = came.at_slot in omega arith))
          (λ is_expected. subst (λ (request : Request). expects expected request ≡ true) (sym came.is) is_expected)
          normal,
    ))
    (before-arrive arrives n port reserved q has)
