-- Whether every tile has delivered as many requests as there are, tile by tile.
use Rattle.std.proofs.Common.{◌≡◌, ℕ, ◌+◌, ◌<◌, Bool, [], List, length, map, sym, ◌∙◌, ap}
use Rattle.std.specs.Prelude.{take, slice_index, ◌==◌, ◌&&◌}
use Rattle.std.specs.List.{list_all}
use Rattle.std.proofs.lemmas.List.{get_or-map}
use Rattle.std.proofs.lemmas.List.Folds.{list_all_more}
use Rattle.chip_model.specs.OrderedNetwork.{Interface}
use Rattle.fabric_core.specs.Fabric.{has_delivered}

-- one tile more
pub next_all : (n t : ℕ) (interfaces : List Interface) (all now : Bool) → t < length interfaces → all ≡ list_all (has_delivered n) (take t interfaces)
    → now ≡ (all && (slice_index (map (λ (interface : Interface). interface.delivered) interfaces) t == n)) → now ≡ list_all (has_delivered n) (take (t + 1) interfaces)
next_all n t interfaces all now inside before is =
    let none : Interface = record { made = []; posted = 0; delivered = 0 } in
    is
    ∙ ap (λ (b : Bool). b && (slice_index (map (λ (interface : Interface). interface.delivered) interfaces) t == n)) before
    ∙ ap (λ (count : ℕ). list_all (has_delivered n) (take t interfaces) && (count == n)) (get_or-map (λ (interface : Interface). interface.delivered) interfaces t none 0 inside)
    ∙ sym (list_all_more (has_delivered n) interfaces t none inside)
