-- The hop of a copy, by its way: whether it can be made, and what it makes.
use Rattle.std.proofs.Common.{◌≡◌, ℕ, Bool, true, false, Option, Some, None, refl, sym, ◌∙◌, ap}
use Rattle.std.specs.Prelude.{is_some}
use Rattle.std.specs.Bool.{OnTrue}
use Rattle.mesh_gen.specs.declared.port.Port.{Port}
use Rattle.vc_bank.specs.Places.{Network}
use Rattle.chip_model.specs.declared.net_copy.NetCopy.{NetCopy}
use Rattle.chip_model.specs.Partial.{◌>>=◌}
use Rattle.chip_model.specs.Chip.{Chip}
use Rattle.chip_model.specs.Copies.{Name, after_hop}
use Rattle.chip_model.specs.OrderedNetwork.{OrderedNetwork, expected_at, expected_at_next_hop, after_copy_hop}
use Rattle.window_core.proofs.Steps.{none_from_test}
use Rattle.router_xy.specs.declared.way.Way.{Way}
use Rattle.router_xy.specs.Ways.{IsWay, takes_in}
use Rattle.net_iface.proofs.Steps.{after_copy_hop-some, after_copy_hop-none, is_some-after_copy_hop}

-- where no copy is there
pub no_hops_from : (chip : Chip) (net : OrderedNetwork) (r : ℕ) (port : Port) (answer : Bool)
    → OnTrue answer ((slot : ℕ) (out : Port) (expected : Option Name) → after_hop chip.grid net.copies r port slot out expected ≡ None)
    → OnTrue answer ((slot : ℕ) (out : Port) → after_copy_hop chip net r port slot out ≡ None)
no_hops_from chip net r port true none = λ slot out. after_copy_hop-none chip net r port slot out (expected_at_next_hop chip net r out) refl (none slot out _)
no_hops_from chip net r port false none = tt

-- what is expected at the end of a way is what the next router expects
expected_beside : (chip : Chip) (net : OrderedNetwork) (r : ℕ) (port : Port) (slot : ℕ) (out : Port) (way : Way) → IsWay chip.grid net.copies r port slot out way → expected_at chip net way.to ≡ expected_at_next_hop chip net r out
expected_beside chip net r port slot out way is = sym (ap (λ (to : Option ℕ). to >>= expected_at chip net) is.next)

-- a copy has no way, one that is shut, or one that takes it in
pub no_way : (chip : Chip) (net : OrderedNetwork) (r : ℕ) (port : Port) (slot : ℕ) (out : Port) → ((expected : Option Name) → after_hop chip.grid net.copies r port slot out expected ≡ None) → after_copy_hop chip net r port slot out ≡ None
no_way chip net r port slot out none = after_copy_hop-none chip net r port slot out (expected_at_next_hop chip net r out) refl (none _)

pub shut_way : (chip : Chip) (net : OrderedNetwork) (r : ℕ) (port : Port) (slot : ℕ) (out : Port) (way : Way) (answer : Bool) → IsWay chip.grid net.copies r port slot out way
    → ((expected : Option Name) → takes_in way expected ≡ is_some (after_hop chip.grid net.copies r port slot out expected)) → answer ≡ takes_in way (expected_at chip net way.to) → answer ≡ false
    → after_copy_hop chip net r port slot out ≡ None
shut_way chip net r port slot out way answer is goes takes shut =
    let expected = expected_at chip net way.to in
    after_copy_hop-none chip net r port slot out expected (expected_beside chip net r port slot out way is)
    (none_from_test (after_hop chip.grid net.copies r port slot out expected) (sym (goes expected) ∙ sym takes ∙ shut))

pub gone_way : (chip : Chip) (net : OrderedNetwork) (r : ℕ) (port : Port) (slot : ℕ) (out : Port) (way : Way) (answer : Bool) (copies : Network NetCopy) → IsWay chip.grid net.copies r port slot out way
    → ((expected : Option Name) → takes_in way expected ≡ true → after_hop chip.grid net.copies r port slot out expected ≡ Some copies) → answer ≡ takes_in way (expected_at chip net way.to) → answer ≡ true
    → after_copy_hop chip net r port slot out ≡ Some (record net { copies = copies })
gone_way chip net r port slot out way answer copies is hops takes open_to =
    let expected = expected_at chip net way.to in
    after_copy_hop-some chip net r port slot out expected copies (expected_beside chip net r port slot out way is) (hops expected (sym takes ∙ open_to))

pub can_go : (chip : Chip) (net : OrderedNetwork) (r : ℕ) (port : Port) (slot : ℕ) (out : Port) (way : Way) (answer : Bool) → IsWay chip.grid net.copies r port slot out way
    → ((expected : Option Name) → takes_in way expected ≡ is_some (after_hop chip.grid net.copies r port slot out expected)) → answer ≡ takes_in way (expected_at chip net way.to)
    → answer ≡ is_some (after_copy_hop chip net r port slot out)
can_go chip net r port slot out way answer is goes takes =
    let expected = expected_at chip net way.to in
    takes ∙ goes expected ∙ sym (is_some-after_copy_hop chip net r port slot out expected (expected_beside chip net r port slot out way is))
