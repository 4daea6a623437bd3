-- A post, a vector that is taken and a hop leave the order as it is.
use Rattle.std.proofs.Common.{◌≡◌, ℕ, Some, length, slice_get, refl, sym, ◌∙◌, ap}
use Rattle.std.specs.Prelude.{nat_lt}
use Rattle.std.proofs.lemmas.Option.{same_Some}
use Rattle.mesh_gen.specs.declared.port.Port.{Port}
use Rattle.chip_model.specs.Chip.{Chip}
use Rattle.chip_model.specs.Windows.{after_post, after_take}
use Rattle.chip_model.specs.Copies.{after_hop}
use Rattle.chip_model.specs.OrderedNetwork.{OrderedNetwork, after_request_post, after_vector_take, expected_at_next_hop, after_copy_hop}
use Rattle.chip_laws.proofs.Options.{bind, when_some}

ends_as : (net made new : OrderedNetwork) → made.ordered ≡ net.ordered → Some made ≡ Some new → new.ordered ≡ net.ordered
ends_as net made new same is = ap (λ (n : OrderedNetwork). n.ordered) (sym (same_Some made new is)) ∙ same

pub posted_order : (net new : OrderedNetwork) (t : ℕ) → after_request_post net t ≡ Some new → new.ordered ≡ net.ordered
unfolding after_request_post
posted_order net new t is =
    bind (slice_get net.interfaces t) _ new is (λ interface at rest.
    when_some (nat_lt interface.posted (length interface.made)) _ new rest (λ some more.
    bind (after_post net.windows t) _ new more (λ windows posts done. ends_as net _ new refl done)))

pub taken_order : (net new : OrderedNetwork) (t : ℕ) → after_vector_take net t ≡ Some new → new.ordered ≡ net.ordered
unfolding after_vector_take
taken_order net new t is = bind (after_take net.windows t) _ new is (λ windows takes done. ends_as net _ new refl done)

pub hopped_order : (chip : Chip) (net new : OrderedNetwork) (r : ℕ) (port : Port) (slot : ℕ) (out : Port) → after_copy_hop chip net r port slot out ≡ Some new → new.ordered ≡ net.ordered
unfolding after_copy_hop
hopped_order chip net new r port slot out is =
    bind (after_hop chip.grid net.copies r port slot out (expected_at_next_hop chip net r out)) _ new is (λ copies hops done. ends_as net _ new refl done)
