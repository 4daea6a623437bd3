-- What the steps of the request routers do, from what a call finds.
use Rattle.std.proofs.Common.{◌≡◌, ◌≢◌, ℕ, Bool, true, false, refl, sym, ◌∙◌, ap, subst, arith, Option, Some, None}
use Rattle.std.specs.Prelude.{is_some, not, ◌&&◌, ◌||◌, ◌==◌, option_map}
use Rattle.std.specs.Bool.{OnTrue}
use Rattle.std.specs.Option.{option_or}
use Rattle.std.proofs.lemmas.Bool.{eq-eqb}
use Rattle.mesh_gen.specs.declared.request.Request.{Request}
use Rattle.mesh_gen.specs.declared.port.Port.{Port}
use Rattle.mesh_gen.specs.declared.port.Port.TheVariants.{L, E, W, N, S}
use Rattle.mesh_gen.specs.Grid.{Grid, neighbour, x_of, y_of}
use Rattle.mesh_gen.specs.declared.ports.Ports.{Ports}
use Rattle.mesh_gen.specs.PortSets.{bits_of}
use Rattle.mesh_gen.specs.Ports.{port_number, opposite, has}
use Rattle.mesh_gen.specs.Routes.{HasTiles}
use Rattle.mesh_gen.proofs.Beside.{Beside, beside}
use Rattle.vc_bank.specs.Channels.{Channels, IsFree, lowest_free, reserved_free, normal_slots, is_there_and_free}
use Rattle.vc_bank.specs.Places.{Network, at, put}
use Rattle.vc_bank.proofs.FreeSlots.{IsLowestFree-lowest_free}
use Rattle.chip_model.specs.declared.net_copy.NetCopy.{NetCopy}
use Rattle.chip_model.specs.Partial.{◌>>=◌, when}
use Rattle.chip_model.specs.Copies.{Name, name_of, channels_of, arriving, left_by, owes, after_entry, entry_slot, expects, after_hop, local_place, after_serve}
use Rattle.router_xy.specs.declared.way.Entry.{Entry}
use Rattle.router_xy.specs.declared.way.Way.{Way}
use Rattle.router_xy.specs.RequestNetwork.{is_owed}
use Rattle.router_xy.specs.Ways.{IsOpenHop, IsWay, free_entry, normal_entry, reserved_entry, takes_in}

-- ---- a channel that takes a copy in is free
pub lowest_is_free : (channels : Channels NetCopy) (p slot : ℕ) → lowest_free channels p ≡ Some slot → IsFree channels p slot
lowest_is_free channels p slot is = (IsLowestFree-lowest_free channels p slot is).free

free_there : (packet : Option (Option NetCopy)) → is_there_and_free packet ≡ true → packet ≡ Some None
free_there None free = cc
free_there (Some None) free = refl
free_there (Some (Some copy)) free = cc

reserved_is_free : (channels : Channels NetCopy) (p slot : ℕ) (is_expected free : Bool) → reserved_free channels p ≡ free → when (is_expected && free) (Some (normal_slots channels)) ≡ Some slot → IsFree channels p slot
reserved_is_free channels p slot true true free found = let same : normal_slots channels ≡ slot = cc in subst (λ (i : ℕ). IsFree channels p i) same (free_there _ free)
reserved_is_free channels p slot true false free found = cc
reserved_is_free channels p slot false free free_is found = cc

pub entry_is_free : (channels : Channels NetCopy) (port : Port) (is_expected : Bool) (slot : ℕ) → entry_slot channels port is_expected ≡ Some slot → IsFree channels (port_number port) slot
entry_is_free channels port is_expected slot found = by (lowest_free channels (port_number port)) refl found
  where
    by : (lowest : Option ℕ) → lowest_free channels (port_number port) ≡ lowest → option_or lowest (when (is_expected && reserved_free channels (port_number port)) (Some (normal_slots channels))) ≡ Some slot → IsFree channels (port_number port) slot
    by (Some k) lowest is = lowest_is_free channels (port_number port) slot (lowest ∙ is)
    by None lowest is = reserved_is_free channels (port_number port) slot is_expected _ refl is

-- a hop goes to another router
pub hops_away : (g : Grid) (r : ℕ) (out : Port) (n : ℕ) → HasTiles g → neighbour g r out ≡ Some n → n ≢ r
hops_away g r out n some next = away out (beside g r out n some next)
  where
    away : (out : Port) → Beside g r out n → n ≢ r
    away L near same = near
    away E near same = let x = ap (x_of g) same in omega arith
    away W near same = let x = ap (x_of g) same in omega arith
    away N near same = let y = ap (y_of g) same in omega arith
    away S near same = let y = ap (y_of g) same in omega arith

-- ---- what a call reads from the channels of the network
seen : {Y : Type 0} (f : Network NetCopy → Y) (read net : Network NetCopy) (answer value : Y) → read ≡ net → answer ≡ f read → answer ≡ value → f net ≡ value
seen f read net answer value same is found = ap f (sym same) ∙ sym is ∙ found

pub seen_at : (read net : Network NetCopy) (r p slot : ℕ) (answer value : Option NetCopy) → read ≡ net → answer ≡ at read r p slot → answer ≡ value → at net r p slot ≡ value
seen_at read net r p slot = seen (λ net. at net r p slot) read net

pub seen_free : (read net : Network NetCopy) (r p : ℕ) (answer value : Option ℕ) → read ≡ net → answer ≡ lowest_free (channels_of read r) p → answer ≡ value → lowest_free (channels_of net r) p ≡ value
seen_free read net r p = seen (λ net. lowest_free (channels_of net r) p) read net

pub seen_entry : (read net : Network NetCopy) (to : ℕ) (out port : Port) (answer value : Option Entry) → read ≡ net → port ≡ opposite out
    → answer ≡ free_entry (channels_of read to) port → answer ≡ value → free_entry (channels_of net to) (opposite out) ≡ value
seen_entry read net to out port answer value same port_is is found = rw (← same, ← port_is, ← is) found

-- ---- a request enters, or is refused
pub entered_into : (g : Grid) (net : Network NetCopy) (q : Request) (slot : ℕ) → lowest_free (channels_of net q.source) (port_number L) ≡ Some slot → after_entry g net q ≡ Some (put net q.source (port_number L) slot (Some (arriving g q.source q)))
unfolding after_entry
entered_into g net q slot lowest = rw lowest

pub not_entered : (g : Grid) (net : Network NetCopy) (q : Request) → lowest_free (channels_of net q.source) (port_number L) ≡ None → after_entry g net q ≡ None
unfolding after_entry
not_entered g net q lowest = rw lowest

some_bind : {X Y : Type 0} (o : Option X) (f : X → Y) → is_some o ≡ is_some (o >>= (λ x. Some (f x)))
some_bind None f = refl
some_bind (Some x) f = refl

pub can_enter : (g : Grid) (net : Network NetCopy) (q : Request) → is_some (lowest_free (channels_of net q.source) (port_number L)) ≡ is_some (after_entry g net q)
unfolding after_entry
can_enter g net q = some_bind (lowest_free (channels_of net q.source) (port_number L)) (λ slot. put net q.source (port_number L) slot (Some (arriving g q.source q)))

-- ---- a copy hops, or is refused
pub no_copy : (g : Grid) (net : Network NetCopy) (r : ℕ) (port : Port) (slot : ℕ) (out : Port) (expected : Option Name) → at net r (port_number port) slot ≡ None → after_hop g net r port slot out expected ≡ None
unfolding after_hop
no_copy g net r port slot out expected stands = rw stands

pub not_owed : (g : Grid) (net : Network NetCopy) (r : ℕ) (port : Port) (slot : ℕ) (out : Port) (expected : Option Name) (copy : NetCopy) → at net r (port_number port) slot ≡ Some copy → owes copy out ≡ false → after_hop g net r port slot out expected ≡ None
unfolding after_hop
not_owed g net r port slot out expected copy stands owed = rw (stands, owed)

-- no port is in an empty set
pub has_none : (ports : Ports) (out : Port) → bits_of ports ≡ 0 → has (bits_of ports) out ≡ false
unfolding has
has_none ports L none = rw none refl
has_none ports E none = rw none refl
has_none ports W none = rw none refl
has_none ports N none = rw none refl
has_none ports S none = rw none refl

-- the same of an answer that no copy is there, or none that owes the port
pub no_copies_in : (g : Grid) (net : Network NetCopy) (r : ℕ) (port : Port) (answer : Bool) → OnTrue answer ((slot : ℕ) → at net r (port_number port) slot ≡ None)
    → OnTrue answer ((slot : ℕ) (out : Port) (expected : Option Name) → after_hop g net r port slot out expected ≡ None)
no_copies_in g net r port true none = λ slot out expected. no_copy g net r port slot out expected (none slot)
no_copies_in g net r port false none = tt

pub not_owing : (g : Grid) (net : Network NetCopy) (r : ℕ) (port : Port) (slot : ℕ) (out : Port) → false ≡ is_owed out (at net r (port_number port) slot)
    → (expected : Option Name) → after_hop g net r port slot out expected ≡ None
not_owing g net r port slot out is = by (at net r (port_number port) slot) refl is
  where
    by : (found : Option NetCopy) → at net r (port_number port) slot ≡ found → false ≡ is_owed out found → (expected : Option Name) → after_hop g net r port slot out expected ≡ None
    by None stands is expected = no_copy g net r port slot out expected stands
    by (Some copy) stands is expected = not_owed g net r port slot out expected copy stands (sym is)

pub no_router : (g : Grid) (net : Network NetCopy) (r : ℕ) (port : Port) (slot : ℕ) (out : Port) (expected : Option Name) (copy : NetCopy) → at net r (port_number port) slot ≡ Some copy → owes copy out ≡ true → neighbour g r out ≡ None
    → after_hop g net r port slot out expected ≡ None
unfolding after_hop
no_router g net r port slot out expected copy stands owed next = rw (stands, owed, next)

-- the channel that takes a copy in is the free one, where that takes it
module _ (channels : Channels NetCopy) (port : Port) where
  taken : (lowest : Option ℕ) (free is_expected : Bool) (entry : Entry) → option_or (option_map normal_entry lowest) (when free (Some (reserved_entry (normal_slots channels)))) ≡ Some entry
      → (not entry.is_reserved || is_expected) ≡ true → option_or lowest (when (is_expected && free) (Some (normal_slots channels))) ≡ Some entry.slot
  taken (Some slot) free is_expected entry is takes = cc
  taken None true true entry is takes = cc
  taken None true false entry is takes = cc
  taken None false is_expected entry is takes = cc

  not_taken : (lowest : Option ℕ) (free is_expected : Bool) (entry : Entry) → option_or (option_map normal_entry lowest) (when free (Some (reserved_entry (normal_slots channels)))) ≡ Some entry
      → (not entry.is_reserved || is_expected) ≡ false → option_or lowest (when (is_expected && free) (Some (normal_slots channels))) ≡ None
  not_taken (Some slot) free is_expected entry is takes = cc
  not_taken None true true entry is takes = cc
  not_taken None true false entry is takes = refl
  not_taken None false is_expected entry is takes = cc

  none_free : (lowest : Option ℕ) (free is_expected : Bool) → option_or (option_map normal_entry lowest) (when free (Some (reserved_entry (normal_slots channels)))) ≡ None
      → option_or lowest (when (is_expected && free) (Some (normal_slots channels))) ≡ None
  none_free (Some slot) free is_expected is = cc
  none_free None true is_expected is = cc
  none_free None false true is = refl
  none_free None false false is = refl

  pub entry_taken : (is_expected : Bool) (entry : Entry) → free_entry channels port ≡ Some entry → (not entry.is_reserved || is_expected) ≡ true → entry_slot channels port is_expected ≡ Some entry.slot
  entry_taken is_expected entry = taken (lowest_free channels (port_number port)) (reserved_free channels (port_number port)) is_expected entry

  pub entry_not_taken : (is_expected : Bool) (entry : Entry) → free_entry channels port ≡ Some entry → (not entry.is_reserved || is_expected) ≡ false → entry_slot channels port is_expected ≡ None
  entry_not_taken is_expected entry = not_taken (lowest_free channels (port_number port)) (reserved_free channels (port_number port)) is_expected entry

  pub no_entry_taken : (is_expected : Bool) → free_entry channels port ≡ None → entry_slot channels port is_expected ≡ None
  no_entry_taken is_expected = none_free (lowest_free channels (port_number port)) (reserved_free channels (port_number port)) is_expected

pub refused_entry : (g : Grid) (net : Network NetCopy) (r : ℕ) (port : Port) (slot : ℕ) (out : Port) (expected : Option Name) (copy : NetCopy) (to : ℕ) → at net r (port_number port) slot ≡ Some copy → owes copy out ≡ true → neighbour g r out ≡ Some to
    → entry_slot (channels_of net to) (opposite out) (expects expected copy.request) ≡ None → after_hop g net r port slot out expected ≡ None
unfolding after_hop
refused_entry g net r port slot out expected copy to stands owed next entry = rw (stands, owed, next, entry)

-- without a free channel no request is taken in, whatever is expected
pub no_entry : (g : Grid) (net : Network NetCopy) (r : ℕ) (port : Port) (slot : ℕ) (out : Port) (expected : Option Name) (copy : NetCopy) (to : ℕ) → at net r (port_number port) slot ≡ Some copy → owes copy out ≡ true → neighbour g r out ≡ Some to
    → free_entry (channels_of net to) (opposite out) ≡ None → after_hop g net r port slot out expected ≡ None
no_entry g net r port slot out expected copy to stands owed next none =
    refused_entry g net r port slot out expected copy to stands owed next (no_entry_taken (channels_of net to) (opposite out) (expects expected copy.request) none)

-- a way along which the copy is taken in
pub opened : (g : Grid) (net : Network NetCopy) (r : ℕ) (port : Port) (slot : ℕ) (out : Port) (expected : Option Name) (way : Way) → IsWay g net r port slot out way → takes_in way expected ≡ true → IsOpenHop g net r port slot out expected way
opened g net r port slot out expected way is takes = record {
  stands = is.stands;
  owed = is.owed;
  next = is.next;
  entry = entry_taken (channels_of net way.to) (opposite out) (expects expected way.copy.request) way.entry is.entry takes;
}

pub hopped_by : (g : Grid) (net : Network NetCopy) (r : ℕ) (port : Port) (slot : ℕ) (out : Port) (expected : Option Name) (way : Way) → IsOpenHop g net r port slot out expected way
    → after_hop g net r port slot out expected ≡ Some (put (put net r (port_number port) slot (left_by out way.copy)) way.to (port_number (opposite out)) way.entry.slot (Some (arriving g way.to way.copy.request)))
unfolding after_hop
hopped_by g net r port slot out expected way is = rw (is.stands, is.owed, is.next, is.entry)

-- it can go exactly where the channel takes it in
pub goes_where_taken : (g : Grid) (net : Network NetCopy) (r : ℕ) (port : Port) (slot : ℕ) (out : Port) (expected : Option Name) (way : Way) → IsWay g net r port slot out way
    → takes_in way expected ≡ is_some (after_hop g net r port slot out expected)
goes_where_taken g net r port slot out expected way is = by (takes_in way expected) refl
  where
    by : (takes : Bool) → takes_in way expected ≡ takes → takes ≡ is_some (after_hop g net r port slot out expected)
    by true takes = sym (ap is_some (hopped_by g net r port slot out expected way (opened g net r port slot out expected way is takes)))
    by false takes = sym (ap is_some (refused_entry g net r port slot out expected way.copy way.to is.stands is.owed is.next (entry_not_taken (channels_of net way.to) (opposite out) (expects expected way.copy.request) way.entry is.entry takes)))

-- some request is taken in along every way: the copy's own, where it is expected
own_name : (n : ℕ) → (n == n) ≡ true
own_name n = eq-eqb n n refl

pub own_taken : (way : Way) → takes_in way (Some (name_of way.copy.request)) ≡ true
own_taken way = by way.entry.is_reserved
  where
    named : expects (Some (name_of way.copy.request)) way.copy.request ≡ true
    named = rw (own_name way.copy.request.source, own_name way.copy.request.number) refl

    by : (reserved : Bool) → (not reserved || expects (Some (name_of way.copy.request)) way.copy.request) ≡ true
    by true = named
    by false = refl

-- the two writes of a hop, one after the other
pub landed : (g : Grid) (net mid new : Network NetCopy) (r : ℕ) (port : Port) (slot : ℕ) (out side : Port) (way : Way) (left : Option NetCopy) (copy : NetCopy) → mid ≡ put net r (port_number port) slot left → left ≡ left_by out way.copy → side ≡ opposite out
    → copy ≡ arriving g way.to way.copy.request → new ≡ put mid way.to (port_number side) way.entry.slot (Some copy)
    → put (put net r (port_number port) slot (left_by out way.copy)) way.to (port_number (opposite out)) way.entry.slot (Some (arriving g way.to way.copy.request)) ≡ new
landed g net mid new r port slot out side way left copy mid_is left_is side_is copy_is made = cc

-- ---- a request is served
pub served_at : (net : Network NetCopy) (r : ℕ) (name : Name) (p slot : ℕ) (copy : NetCopy) → local_place net r name ≡ Some (p, slot) → at net r p slot ≡ Some copy → after_serve net r name ≡ Some (copy.request, put net r p slot (left_by L copy))
unfolding after_serve
served_at net r name p slot copy place stands = rw (place, stands)
