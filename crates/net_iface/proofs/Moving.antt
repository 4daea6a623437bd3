-- Each take, hop and delivery is one move, and there are only so many.
use Rattle.std.proofs.Common.{◌≡◌, ℕ, suc, ◌+◌, ◌*◌, ◌≤◌, refl, ap, arith, Some, List, [], ◌∷◌, length, get_or, set}
use Rattle.std.specs.Prelude.{slice_get}
use Rattle.std.specs.List.{sum_by}
use Rattle.std.proofs.lemmas.List.Sums.{sum_by-cons, sum_by-set}
use Rattle.std.proofs.lemmas.Option.{slice_get_within, get_or_from_slice_get}
use Rattle.mesh_gen.specs.declared.request.Request.{Request}
use Rattle.mesh_gen.specs.declared.port.Port.{Port}
use Rattle.chip_model.specs.Chip.{Chip}
use Rattle.chip_model.specs.Windows.{Windows, after_take}
use Rattle.chip_model.specs.Copies.{after_hop, after_serve}
use Rattle.chip_model.specs.OrderedNetwork.{OrderedNetwork, Interface, with_interface, after_vector_take, after_copy_hop, after_delivery, expected_at, expected_at_next_hop}
use Rattle.chip_model.specs.CopiesOwed.{channel_count}
use Rattle.router_xy.specs.RequestNetwork.{arrived}
use Rattle.chip_model.specs.NetworkFits.{NetworkFits}
use Rattle.net_iface.specs.Moves.{moves_done, most_moves}
use Rattle.net_iface.proofs.Binds.{bind, bind_eq, made}

-- ---- a count that rises by one
rises : {X : Type 0} (f : X → ℕ) (xs : List X) (t : ℕ) (x y : X) → slice_get xs t ≡ Some x → f y ≡ f x + 1 → sum_by f (set xs t y) ≡ sum_by f xs + 1
rises f xs t x y there more =
    let within = slice_get_within xs t x there in
    let was : get_or xs t x ≡ x = get_or_from_slice_get xs t x x there in
    let change = sum_by-set f xs t y x within in
    let same = ap f was in
    omega arith

-- ---- a take
abbrev Rises : Windows → Windows → Type 0
Rises old new = sum_by (λ taken. taken) new.taken ≡ sum_by (λ taken. taken) old.taken + 1

taken_rises : (w new : Windows) (t : ℕ) → after_take w t ≡ Some new → Rises w new
unfolding after_take
taken_rises w new t =
    bind_eq (Rises w) (slice_get w.taken t) _
    (λ count there last done. bind (Rises w) (slice_get w.closed count) _
    (λ vector n is. made (Rises w) (record w { taken = set w.taken t (count + 1) }) n (rises (λ taken. taken) w.taken t count (count + 1) there refl) is) last done)
    new

abbrev pub OneMove : OrderedNetwork → OrderedNetwork → Type 0
OneMove old new = moves_done new ≡ moves_done old + 1

pub take_moves : (net new : OrderedNetwork) (t : ℕ) → after_vector_take net t ≡ Some new → OneMove net new
unfolding after_vector_take moves_done
take_moves net new t =
    bind_eq (OneMove net) (after_take net.windows t) _
    (λ windows takes n is. made (OneMove net) (record net { windows = windows }) n (let more = taken_rises net.windows windows t takes in omega arith) is)
    new

-- ---- a hop, which brings one more copy to a tile
pub hop_moves : (chip : Chip) (net new : OrderedNetwork) (r : ℕ) (port : Port) (slot : ℕ) (out : Port) → after_copy_hop chip net r port slot out ≡ Some new → arrived new.copies ≡ arrived net.copies + 1 → OneMove net new
unfolding after_copy_hop moves_done
hop_moves chip net new r port slot out =
    bind (λ (new : OrderedNetwork). arrived new.copies ≡ arrived net.copies + 1 → OneMove net new) (after_hop chip.grid net.copies r port slot out (expected_at_next_hop chip net r out)) _
    (λ copies n is. made (λ (new : OrderedNetwork). arrived new.copies ≡ arrived net.copies + 1 → OneMove net new) (record net { copies = copies }) n (λ more. omega arith) is)
    new

-- ---- a delivery, which takes one away
pub delivery_moves : (chip : Chip) (net new : OrderedNetwork) (t : ℕ) (q : Request) → after_delivery chip net t ≡ Some (q, new) → arrived new.copies + 1 ≡ arrived net.copies → OneMove net new
unfolding after_delivery moves_done
delivery_moves chip net new t q =
    bind_eq (Delivers net) (slice_get net.interfaces t) _
    (λ interface there last done. bind (Delivers net) (expected_at chip net t) _
    (λ name last done. bind (Delivers net) (after_serve net.copies t name) _
    (λ out last is. made (Delivers net) (out.0, with_interface (record net { copies = out.1 }) t (record interface { delivered = interface.delivered + 1 })) last
    (λ fewer. let more = rises (λ (interface : Interface). interface.delivered) net.interfaces t interface (record interface { delivered = interface.delivered + 1 }) there refl in omega arith) is)
    last done) last done)
    (q, new)
  where
    Delivers : OrderedNetwork → Request × OrderedNetwork → Type 0
    Delivers net out = arrived out.1.copies + 1 ≡ arrived net.copies → OneMove net out.1

-- ---- there are only so many
sum_le : {X : Type 0} (f : X → ℕ) (most : ℕ) (xs : List X) → ((k : ℕ) (x : X) → slice_get xs k ≡ Some x → f x ≤ most) → sum_by f xs ≤ length xs * most
sum_le f most [] each = omega arith
sum_le f most (x ∷ xs) each =
    let first = each 0 x refl in
    let rest = sum_le f most xs (λ k y there. each (suc k) y there) in
    let all = sum_by-cons f x xs in
    omega arith

pub few_moves : (chip : Chip) (net : OrderedNetwork) → NetworkFits chip net → arrived net.copies ≤ channel_count chip → moves_done net ≤ most_moves chip net
unfolding moves_done
few_moves chip net fits copies =
    let taken = sum_le (λ taken. taken) (length net.windows.closed) net.windows.taken (λ t count there. fits.windows.taken t count there) in
    let delivered = sum_le (λ (interface : Interface). interface.delivered) (length net.ordered) net.interfaces (λ t interface there. (fits.agree t interface there).within) in
    let tiles = ap (λ (n : ℕ). n * length net.windows.closed) fits.windows.tiles in
    let interfaces = ap (λ (n : ℕ). n * length net.ordered) fits.interfaces in
    omega arith
