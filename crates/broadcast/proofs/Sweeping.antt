-- Events one after another, each where it is possible.
use Rattle.std.proofs.Common.{◌≡◌, ℕ, zero, suc, ◌+◌, ◌-◌, ◌<◌, ◌≤◌, Bool, true, false, refl, sym, ◌∙◌, ap, subst, arith, Option, Some, None, List, [], ◌∷◌, ◌++◌, map}
use Rattle.std.specs.Prelude.{unwrap_or, ◌||◌, filter}
use Rattle.std.specs.Bool.{OnTrue}
use Rattle.std.specs.List.{flat_map}
use Rattle.std.specs.Prelude.{slice_get, set, is_ok, OnOk, OnErr, IfOk, Result, Ok, Err, option_map}
use Rattle.std.proofs.lemmas.List.Sums.{fold-append}
use Rattle.std.proofs.lemmas.List.{append-nil}
use Rattle.std.proofs.Math.Nat.{zero-add}
use Rattle.std.proofs.lemmas.List.Elements.{filter-append}
use Rattle.std.proofs.lemmas.Grind.{flat_map-append}
use Rattle.mesh_gen.specs.declared.port.Port.{Port}
use Rattle.mesh_gen.specs.declared.port.Port.TheVariants.{L, E, W, N, S}
use Rattle.mesh_gen.specs.declared.ports.Ports.{Ports}
use Rattle.mesh_gen.specs.Ports.{has}
use Rattle.mesh_gen.specs.PortSets.{bits_of}
use Rattle.mesh_gen.specs.declared.request.Request.{Request}
use Rattle.order_tracker.specs.Order.{upwards}
use Rattle.report_text.specs.declared.event.Event.{Event}
use Rattle.report_text.specs.declared.event.Event.TheVariants.{Core, Inject, Post, Take, Eject, Send, Hop, DataHop, DataEject}
use Rattle.chip_model.specs.Partial.{◌>>=◌}
use Rattle.chip_model.specs.Chip.{Chip, tile_count}
use Rattle.chip_model.specs.Windows.{Windows, after_take}
use Rattle.chip_model.specs.Copies.{after_hop, after_serve}
use Rattle.chip_model.specs.OrderedNetwork.{OrderedNetwork, with_interface, after_vector_take, after_copy_hop, after_delivery, expected_at, expected_at_next_hop}
use Rattle.chip_model.specs.Delivery.{network_step, network_tried, network_swept, moves_requests, request_slots, passes}
use Rattle.chip_model.specs.Schedules.{hops_from, router_hops, reply_events, tile_slots, slots, output_ports, ports}
use Rattle.net_iface.specs.OrderedNet.{NetworkState, SameSizes}
use Rattle.net_iface.proofs.Binds.{bind, made}
use Rattle.net_iface.specs.Moves.{moves_done, most_moves}
use Rattle.broadcast.specs.Sweeps.{LeavesByThese, MovesOn, Sweeps, tile_moves, Passes, Settles}

-- ---- one sweep after another
pub same_sizes_join : (a b c : NetworkState) → SameSizes a b → SameSizes b c → SameSizes a c
same_sizes_join a b c first second = record { chip_is = second.chip_is ∙ first.chip_is; room_is = second.room_is ∙ first.room_is }

moves_join : (a b c : NetworkState) (m n : Bool) → MovesOn a b m → MovesOn b c n → MovesOn a c (m || n)
moves_join a b c m n first second = record {
  sizes = same_sizes_join a b c first.sizes second.sizes;
  closed = second.closed ∙ first.closed;
  phase = second.phase ∙ first.phase;
  ordered = second.ordered ∙ first.ordered;
  still = still_of m n first.still second.still;
  further = further_of m n first.still second.still first.further second.further;
}
  where
    still_of : (m n : Bool) → (m ≡ false → b.network ≡ a.network) → (n ≡ false → c.network ≡ b.network) → (m || n) ≡ false → c.network ≡ a.network
    still_of false false one two none = two refl ∙ one refl
    still_of false true one two none = cc
    still_of true n one two none = cc

    further_of : (m n : Bool) → (m ≡ false → b.network ≡ a.network) → (n ≡ false → c.network ≡ b.network) → (m ≡ true → moves_done a.network < moves_done b.network) → (n ≡ true → moves_done b.network < moves_done c.network)
        → (m || n) ≡ true → moves_done a.network < moves_done c.network
    further_of true true one two more most some = omega (arith, more refl, most refl)
    further_of true false one two more most some = omega (arith, more refl, ap moves_done (two refl))
    further_of false true one two more most some = omega (arith, most refl, ap moves_done (one refl))
    further_of false false one two more most some = cc

pub sweeps_join : (xs ys : List Event) (a b c : NetworkState) (m n : Bool) → Sweeps xs a b m → Sweeps ys b c n → Sweeps (xs ++ ys) a c (m || n)
sweeps_join xs ys a b c m n first second = record {
  swept =
      second.swept ∙ ap (λ (chip : Chip). network_swept chip b.network ys) first.moves.sizes.chip_is
      ∙ ap (λ (net : OrderedNetwork). network_swept a.chip net ys) first.swept
      ∙ sym (fold-append (network_tried a.chip) a.network xs ys);
  moves = moves_join a b c m n first.moves second.moves;
}

-- no event
pub sweeps_none : (a : NetworkState) → Sweeps [] a a false
sweeps_none a = record {
  swept = refl;
  moves = record { sizes = record { chip_is = refl; room_is = refl }; closed = refl; phase = refl; ordered = refl; still = λ none. refl; further = λ some. cc };
}

-- an event of which a call tells whether it was possible
pub sweeps_one : (event : Event) (a b : NetworkState) (moved : Bool) → SameSizes a b → b.network.windows.closed ≡ a.network.windows.closed → b.network.windows.phase ≡ a.network.windows.phase → b.network.ordered ≡ a.network.ordered
    → (moved ≡ true → network_step a.chip a.network event ≡ Some b.network) → (moved ≡ false → network_step a.chip a.network event ≡ None) → (moved ≡ false → b ≡ a) → (moved ≡ true → moves_done b.network ≡ moves_done a.network + 1)
    → Sweeps (event ∷ []) a b moved
sweeps_one event a b moved sizes closed phase ordered done none kept more = record {
  swept = swept_by moved done none kept;
  moves = record {
    sizes = sizes;
    closed = closed;
    phase = phase;
    ordered = ordered;
    still = λ still. ap (λ (s : NetworkState). s.network) (kept still);
    further = λ some. omega (arith, more some);
  };
}
  where
    tried : (step : Option OrderedNetwork) → network_step a.chip a.network event ≡ step → network_tried a.chip a.network event ≡ unwrap_or step a.network
    tried step is = rw is refl

    swept_by : (moved : Bool) → (moved ≡ true → network_step a.chip a.network event ≡ Some b.network) → (moved ≡ false → network_step a.chip a.network event ≡ None) → (moved ≡ false → b ≡ a) → b.network ≡ network_tried a.chip a.network event
    swept_by true done none kept = sym (tried (Some b.network) (done refl))
    swept_by false done none kept = ap (λ (s : NetworkState). s.network) (kept refl) ∙ sym (tried None (none refl))

-- ---- events of which none is possible
sweeps_still : (event : Event) (a : NetworkState) → network_step a.chip a.network event ≡ None → Sweeps (event ∷ []) a a false
sweeps_still event a none = sweeps_one event a a false (record { chip_is = refl; room_is = refl }) refl refl refl (λ yes. cc) (λ no. none) (λ no. refl) (λ yes. cc)

still_sides : (a : NetworkState) (r : ℕ) (port : Port) (slot : ℕ) → ((out : Port) → after_copy_hop a.chip a.network r port slot out ≡ None) → (outs : List Port) → Sweeps (map (Hop r port slot) outs) a a false
unfolding network_step
still_sides a r port slot none [] = sweeps_none a
still_sides a r port slot none (out ∷ outs) = sweeps_join (Hop r port slot out ∷ []) (map (Hop r port slot) outs) a a a false false (sweeps_still (Hop r port slot out) a (none out)) (still_sides a r port slot none outs)

still_slots : (a : NetworkState) (r : ℕ) (port : Port) → ((slot : ℕ) (out : Port) → after_copy_hop a.chip a.network r port slot out ≡ None) → (slots : List ℕ) → Sweeps (flat_map (hops_from r port) slots) a a false
still_slots a r port none [] = sweeps_none a
still_slots a r port none (slot ∷ slots) =
    sweeps_join (hops_from r port slot) (flat_map (hops_from r port) slots) a a a false false (still_sides a r port slot (none slot) output_ports) (still_slots a r port none slots)

-- no copy leaves by a port that it does not owe, and so none where no side is owed
pub still_side : (a : NetworkState) (r : ℕ) (port : Port) (slot : ℕ) (out : Port) (owed : Ports) → LeavesByThese a r port slot owed → has (bits_of owed) out ≡ false → Sweeps (Hop r port slot out ∷ []) a a false
unfolding network_step
still_side a r port slot out owed leaves none = sweeps_still (Hop r port slot out) a (leaves out none)

none_of : (a b c d : Bool) → false ≡ (a || (b || (c || d))) → (a ≡ false) × (b ≡ false) × (c ≡ false) × (d ≡ false)
none_of true b c d is = cc
none_of false true c d is = cc
none_of false false true d is = cc
none_of false false false true is = cc
none_of false false false false is = (refl, refl, refl, refl)

pub still_channel : (a : NetworkState) (r : ℕ) (port : Port) (slot : ℕ) (owed : Ports) (any : Bool) → LeavesByThese a r port slot owed
    → any ≡ (has (bits_of owed) E || (has (bits_of owed) W || (has (bits_of owed) N || has (bits_of owed) S))) → any ≡ false → Sweeps (hops_from r port slot) a a false
still_channel a r port slot owed any leaves is none =
    let event = Hop r port slot in
    let sides = none_of (has (bits_of owed) E) (has (bits_of owed) W) (has (bits_of owed) N) (has (bits_of owed) S) (sym none ∙ is) in
    sweeps_join (event E ∷ []) (event W ∷ event N ∷ event S ∷ []) a a a false false (still_side a r port slot E owed leaves sides.0)
    (sweeps_join (event W ∷ []) (event N ∷ event S ∷ []) a a a false false (still_side a r port slot W owed leaves sides.1)
    (sweeps_join (event N ∷ []) (event S ∷ []) a a a false false (still_side a r port slot N owed leaves sides.2) (still_side a r port slot S owed leaves sides.3)))

-- nor from a port where no channel holds one
pub still_port : (a : NetworkState) (r : ℕ) (port : Port) (vacant : Bool) → vacant ≡ true → OnTrue vacant ((slot : ℕ) (out : Port) → after_copy_hop a.chip a.network r port slot out ≡ None)
    → (slots : List ℕ) → Sweeps (flat_map (hops_from r port) slots) a a false
still_port a r port true is none slots = still_slots a r port none slots
still_port a r port false is none slots = cc

-- ---- what a call tells

-- no tick passes, and no request is ordered
abbrev Keeps : OrderedNetwork → OrderedNetwork → Type 0
Keeps old new = (new.windows.closed ≡ old.windows.closed) × (new.windows.phase ≡ old.windows.phase) × (new.ordered ≡ old.ordered)

abbrev KeepsWindows : Windows → Windows → Type 0
KeepsWindows old new = (new.closed ≡ old.closed) × (new.phase ≡ old.phase)

taken_keeps : (w new : Windows) (t : ℕ) → after_take w t ≡ Some new → KeepsWindows w new
unfolding after_take
taken_keeps w new t =
    bind (KeepsWindows w) (slice_get w.taken t) _
    (λ count last done. bind (KeepsWindows w) (slice_get w.closed count) _
    (λ vector n is. made (KeepsWindows w) (record w { taken = set w.taken t (count + 1) }) n (refl, refl) is) last done)
    new

take_keeps : (net new : OrderedNetwork) (t : ℕ) → after_vector_take net t ≡ Some new → Keeps net new
unfolding after_vector_take
take_keeps net new t done = by (after_take net.windows t) refl done
  where
    by : (windows : Option Windows) → after_take net.windows t ≡ windows → (windows >>= (λ windows. Some (record net { windows = windows }))) ≡ Some new → Keeps net new
    by None is done = cc
    by (Some windows) is done = made (Keeps net) (record net { windows = windows }) new ((taken_keeps net.windows windows t is).0, (taken_keeps net.windows windows t is).1, refl) done

hop_keeps : (chip : Chip) (net new : OrderedNetwork) (r : ℕ) (port : Port) (slot : ℕ) (out : Port) → after_copy_hop chip net r port slot out ≡ Some new → Keeps net new
unfolding after_copy_hop
hop_keeps chip net new r port slot out = bind (Keeps net) (after_hop chip.grid net.copies r port slot out (expected_at_next_hop chip net r out)) _ (λ copies y. made (Keeps net) (record net { copies = copies }) y (refl, refl, refl)) new

eject_keeps : (chip : Chip) (net new : OrderedNetwork) (t : ℕ) (q : Request) → after_delivery chip net t ≡ Some (q, new) → Keeps net new
unfolding after_delivery
eject_keeps chip net new t q done =
    bind (λ (out : Request × OrderedNetwork). Keeps net out.1) (slice_get net.interfaces t) _
    (λ interface last done. bind (λ (out : Request × OrderedNetwork). Keeps net out.1) (expected_at chip net t) _
    (λ name last done. bind (λ (out : Request × OrderedNetwork). Keeps net out.1) (after_serve net.copies t name) _
    (λ out last is. made (λ (out : Request × OrderedNetwork). Keeps net out.1) (out.0, with_interface (record net { copies = out.1 }) t (record interface { delivered = interface.delivered + 1 })) last (refl, refl, refl) is)
    last done) last done)
    (q, new) done

-- a call that moves requests on
pub swept_call : {X E : Type 0} (event : Event) (a b : NetworkState) (answer : Result X E) (moved : Bool) → moved ≡ is_ok answer → SameSizes a b → OnOk answer ((network_step a.chip a.network event ≡ Some b.network) × Keeps a.network b.network)
    → OnErr answer (network_step a.chip a.network event ≡ None) → OnErr answer (b ≡ a) → OnOk answer (moves_done b.network ≡ moves_done a.network + 1) → Sweeps (event ∷ []) a b moved
swept_call event a b (Ok x) moved is sizes done none kept more =
    subst (λ moved. Sweeps (event ∷ []) a b moved) (sym is) (sweeps_one event a b true sizes done.1.0 done.1.1 done.1.2 (λ yes. done.0) (λ no. cc) (λ no. cc) (λ yes. more))
swept_call event a b (Err e) moved is sizes done none kept more =
    let same = ap (λ (s : NetworkState). s.network) kept in
    subst (λ moved. Sweeps (event ∷ []) a b moved) (sym is) (sweeps_one event a b false sizes (ap (λ (net : OrderedNetwork). net.windows.closed) same) (ap (λ (net : OrderedNetwork). net.windows.phase) same) (ap (λ (net : OrderedNetwork). net.ordered) same) (λ yes. cc) (λ no. none) (λ no. kept) (λ yes. cc))

pub on_ok : {X E : Type 0} (P Q : Type 0) (answer : Result X E) → (P → Q) → OnOk answer P → OnOk answer Q
on_ok P Q (Ok x) f p = f p
on_ok P Q (Err e) f p = tt

if_ok : {X E : Type 0} (P : X → Type 0) (Q : Type 0) (answer : Result X E) → ((x : X) → P x → Q) → IfOk answer P → OnOk answer Q
if_ok P Q (Ok x) f p = f x p
if_ok P Q (Err e) f p = tt

pub on_err : {X E : Type 0} (P Q : Type 0) (answer : Result X E) → (P → Q) → OnErr answer P → OnErr answer Q
on_err P Q (Ok x) f p = tt
on_err P Q (Err e) f p = f p

pub take_sweeps : {X E : Type 0} (a b : NetworkState) (t : ℕ) (answer : Result X E) (moved : Bool) → moved ≡ is_ok answer → SameSizes a b → OnOk answer (after_vector_take a.network t ≡ Some b.network)
    → OnErr answer (after_vector_take a.network t ≡ None) → OnErr answer (b ≡ a) → OnOk answer (moves_done b.network ≡ moves_done a.network + 1) → Sweeps (Take t ∷ []) a b moved
unfolding network_step
take_sweeps a b t answer moved is sizes done = swept_call (Take t) a b answer moved is sizes (on_ok _ _ answer (λ done. (done, take_keeps a.network b.network t done)) done)

pub hop_sweeps : {X E : Type 0} (a b : NetworkState) (r : ℕ) (port : Port) (slot : ℕ) (out : Port) (answer : Result X E) (moved : Bool) → moved ≡ is_ok answer → SameSizes a b → OnOk answer (after_copy_hop a.chip a.network r port slot out ≡ Some b.network)
    → OnErr answer (after_copy_hop a.chip a.network r port slot out ≡ None) → OnErr answer (b ≡ a) → OnOk answer (moves_done b.network ≡ moves_done a.network + 1) → Sweeps (Hop r port slot out ∷ []) a b moved
unfolding network_step
hop_sweeps a b r port slot out answer moved is sizes done = swept_call (Hop r port slot out) a b answer moved is sizes (on_ok _ _ answer (λ done. (done, hop_keeps a.chip a.network b.network r port slot out done)) done)

pub eject_sweeps : {E : Type 0} (a b : NetworkState) (t : ℕ) (answer : Result Request E) (moved : Bool) → moved ≡ is_ok answer → SameSizes a b → IfOk answer (λ q. after_delivery a.chip a.network t ≡ Some (q, b.network))
    → OnErr answer (after_delivery a.chip a.network t ≡ None) → OnErr answer (b ≡ a) → OnOk answer (moves_done b.network ≡ moves_done a.network + 1) → Sweeps (Eject t ∷ []) a b moved
unfolding network_step
eject_sweeps a b t answer moved is sizes done none =
    swept_call (Eject t) a b answer moved is sizes
    (if_ok _ _ answer (λ q done. (ap (option_map (λ (out : Request × OrderedNetwork). out.1)) done, eject_keeps a.chip a.network b.network t q done)) done)
    (on_err _ _ answer (λ none. ap (option_map (λ (out : Request × OrderedNetwork). out.1)) none) none)

-- ---- the slots so far, and one more
pub upwards_more : (first count : ℕ) → upwards first (count + 1) ≡ upwards first count ++ (first + count) ∷ []
upwards_more first zero = ap (λ (n : ℕ). n ∷ []) (omega arith)
upwards_more first (suc count) =
    let next : suc count + 1 ≡ suc (count + 1) = omega arith in
    rw next (ap (λ (ns : List ℕ). first ∷ ns) (upwards_more (first + 1) count ∙ ap (λ (n : ℕ). upwards (first + 1) count ++ n ∷ []) (omega arith)))

pub one_more_number : (k : ℕ) → upwards 0 (k + 1) ≡ upwards 0 k ++ k ∷ []
one_more_number k = upwards_more 0 k ∙ ap (λ (n : ℕ). upwards 0 k ++ n ∷ []) (zero-add k)

pub sweeps_next : (events : ℕ → List Event) (k : ℕ) (a b c : NetworkState) (m n : Bool) → Sweeps (flat_map events (upwards 0 k)) a b m → Sweeps (events k) b c n → Sweeps (flat_map events (upwards 0 (k + 1))) a c (m || n)
sweeps_next events k a b c m n first second =
    subst (λ all. Sweeps all a c (m || n)) (sym (ap (flat_map events) (one_more_number k) ∙ flat_map-append events (upwards 0 k) (k ∷ []) ∙ ap (λ (last : List Event). flat_map events (upwards 0 k) ++ last) (append-nil (events k))))
    (sweeps_join (flat_map events (upwards 0 k)) (events k) a b c m n first second)

-- ---- the slots that move requests on
all_hops : (r : ℕ) (port : Port) (slots : List ℕ) → filter moves_requests (flat_map (hops_from r port) slots) ≡ flat_map (hops_from r port) slots
all_hops r port [] = refl
all_hops r port (slot ∷ slots) = filter-append moves_requests (hops_from r port slot) (flat_map (hops_from r port) slots) ∙ ap (λ (rest : List Event). hops_from r port slot ++ rest) (all_hops r port slots)

all_ports : (r : ℕ) (slots : List ℕ) (ports : List Port) → filter moves_requests (flat_map (λ port. flat_map (hops_from r port) slots) ports) ≡ flat_map (λ port. flat_map (hops_from r port) slots) ports
all_ports r slots [] = refl
all_ports r slots (port ∷ ports) =
    filter-append moves_requests (flat_map (hops_from r port) slots) (flat_map (λ port. flat_map (hops_from r port) slots) ports)
    ∙ rw (all_hops r port slots, all_ports r slots ports) refl

all_router_hops : (chip : Chip) (r : ℕ) → filter moves_requests (router_hops chip r) ≡ router_hops chip r
all_router_hops chip r =
    filter-append moves_requests (flat_map (hops_from r L) (upwards 0 chip.vcs)) (flat_map (λ port. flat_map (hops_from r port) (upwards 0 (chip.vcs + 1))) output_ports)
    ∙ rw (all_hops r L (upwards 0 chip.vcs), all_ports r (upwards 0 (chip.vcs + 1)) output_ports) refl

no_message_moves : (event : ℕ → Event) → ((slot : ℕ) → moves_requests (event slot) ≡ false) → (slots : List ℕ) → filter moves_requests (map event slots) ≡ []
no_message_moves event none [] = refl
no_message_moves event none (slot ∷ slots) = rw (none slot) (no_message_moves event none slots)

no_reply_moves : (slots : List ℕ) (event : Port → ℕ → Event) → ((port : Port) (slot : ℕ) → moves_requests (event port slot) ≡ false) → (ports : List Port) → filter moves_requests (flat_map (λ port. map (event port) slots) ports) ≡ []
no_reply_moves slots event none [] = refl
no_reply_moves slots event none (port ∷ ports) =
    filter-append moves_requests (map (event port) slots) (flat_map (λ port. map (event port) slots) ports)
    ∙ rw (no_message_moves (event port) (none port) slots, no_reply_moves slots event none ports) refl

tile_moves_are : (chip : Chip) (t : ℕ) → filter moves_requests (tile_slots chip t) ≡ tile_moves chip t
tile_moves_are chip t =
    let own = Core t ∷ Inject t ∷ Post t ∷ Take t ∷ Eject t ∷ Send t ∷ [] in
    let front = own ++ router_hops chip t in
    let hops = reply_events chip (DataHop t) in
    let ejects = reply_events chip (DataEject t) in
    let no_hops : filter moves_requests hops ≡ [] = no_reply_moves (upwards 0 chip.data_vcs) (DataHop t) (λ port slot. refl) ports in
    let no_ejects : filter moves_requests ejects ≡ [] = no_reply_moves (upwards 0 chip.data_vcs) (DataEject t) (λ port slot. refl) ports in
    filter-append moves_requests (front ++ hops) ejects
    ∙ ap (λ (rest : List Event). filter moves_requests (front ++ hops) ++ rest) no_ejects
    ∙ append-nil (filter moves_requests (front ++ hops))
    ∙ filter-append moves_requests front hops
    ∙ ap (λ (rest : List Event). filter moves_requests front ++ rest) no_hops
    ∙ append-nil (filter moves_requests front)
    ∙ filter-append moves_requests own (router_hops chip t)
    ∙ ap (λ (rest : List Event). Take t ∷ Eject t ∷ rest) (all_router_hops chip t)

all_tiles : (chip : Chip) (tiles : List ℕ) → filter moves_requests (flat_map (tile_slots chip) tiles) ≡ flat_map (tile_moves chip) tiles
all_tiles chip [] = refl
all_tiles chip (t ∷ tiles) =
    filter-append moves_requests (tile_slots chip t) (flat_map (tile_slots chip) tiles)
    ∙ ap (λ (own : List Event). own ++ filter moves_requests (flat_map (tile_slots chip) tiles)) (tile_moves_are chip t)
    ∙ ap (λ (rest : List Event). tile_moves chip t ++ rest) (all_tiles chip tiles)

pub request_slots_are : (chip : Chip) → request_slots chip ≡ flat_map (tile_moves chip) (upwards 0 (tile_count chip))
unfolding slots
request_slots_are chip = all_tiles chip (upwards 0 (tile_count chip))

-- ---- pass after pass
passes_more : (chip : Chip) (count : ℕ) (net : OrderedNetwork) → passes chip (count + 1) net ≡ network_swept chip (passes chip count net) (request_slots chip)
unfolding passes
passes_more chip zero net = refl
passes_more chip (suc count) net =
    let next : suc count + 1 ≡ suc (count + 1) = omega arith in
    rw next (passes_more chip count (network_swept chip net (request_slots chip)))

pub no_pass : (a : NetworkState) → Passes a a
unfolding passes
no_pass a = record { count = 0; passed = refl; moved = omega arith; sizes = record { chip_is = refl; room_is = refl }; closed = refl; phase = refl; ordered = refl }

pub one_more : (a b c : NetworkState) (moved : Bool) → Passes a b → Sweeps (request_slots b.chip) b c moved → moved ≡ true → Passes a c
one_more a b c moved before swept some = record {
  count = before.count + 1;
  passed =
      passes_more a.chip before.count a.network
      ∙ rw (before.passed) (ap (λ (chip : Chip). network_swept chip b.network (request_slots chip)) (sym before.sizes.chip_is))
      ∙ sym swept.swept;
  moved = let so_far = before.moved in let further = swept.moves.further some in omega arith;
  sizes = same_sizes_join a b c before.sizes swept.moves.sizes;
  closed = swept.moves.closed ∙ before.closed;
  phase = swept.moves.phase ∙ before.phase;
  ordered = swept.moves.ordered ∙ before.ordered;
}

-- a pass in which nothing moved
pub settles : (a b c : NetworkState) (moved : Bool) → Passes a b → Sweeps (request_slots b.chip) b c moved → moved ≡ false → moves_done c.network ≤ most_moves c.chip c.network → Settles a c
settles a b c moved before swept still most =
    let same = swept.moves.still still in
    let chip = swept.moves.sizes.chip_is in
    let all_moved : moves_done a.network + before.count ≤ moves_done c.network = rw same before.moved in
    let as_many : most_moves c.chip c.network ≡ most_moves a.chip a.network =
    rw (chip, before.sizes.chip_is, swept.moves.closed, before.closed, swept.moves.ordered, before.ordered) refl
    in
    record {
      passes = record {
        count = before.count;
        passed = before.passed ∙ sym same;
        moved = all_moved;
        sizes = same_sizes_join a b c before.sizes swept.moves.sizes;
        closed = swept.moves.closed ∙ before.closed;
        phase = swept.moves.phase ∙ before.phase;
        ordered = swept.moves.ordered ∙ before.ordered;
      };
      few = omega (arith, all_moved, as_many, most);
      settled = rw (chip, same) (sym swept.swept ∙ same);
    }

-- each pass in which something moved leaves fewer moves
pub fewer_left : (a b : NetworkState) (moved : Bool) → Sweeps (request_slots a.chip) a b moved → moved ≡ true → moves_done b.network ≤ most_moves b.chip b.network
    → most_moves b.chip b.network - moves_done b.network < most_moves a.chip a.network - moves_done a.network
fewer_left a b moved swept some few =
    let further = swept.moves.further some in
    let same : most_moves b.chip b.network ≡ most_moves a.chip a.network = rw (swept.moves.sizes.chip_is, swept.moves.closed, swept.moves.ordered) refl in
    omega arith
