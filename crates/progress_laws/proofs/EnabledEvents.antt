-- A step of a network that is possible is an event of the chip that is.
use Rattle.std.proofs.Common.{◌≡◌, ℕ, true, Option, Some, None, length, refl, ◌∙◌, arith}
use Rattle.std.specs.Prelude.{slice_get, is_some}
use Rattle.mesh_gen.specs.declared.port.Port.{Port}
use Rattle.report_text.specs.declared.event.Event.TheVariants.{Tick, Post, Take, Eject, Hop, DataHop, DataEject}
use Rattle.mesh_gen.specs.Partial.{◌>>=◌}
use Rattle.chip_model.specs.Chip.{Chip, tile_count}
use Rattle.chip_model.specs.OrderedNetwork.{after_network_tick, after_request_post, after_vector_take, after_copy_hop, after_delivery}
use Rattle.chip_model.specs.Replies.{after_data_hop, after_data_eject}
use Rattle.chip_model.specs.Units.{UnitState, Behaviour}
use Rattle.chip_model.specs.ChipState.{ChipState}
use Rattle.chip_model.specs.Events.{step, unit_at}
use Rattle.chip_model.specs.Runs.{enabled}
use Rattle.window_core.proofs.Steps.{there_too}
use Rattle.net_iface.proofs.Places.{item_at}
use Rattle.flow_laws.specs.NetworkMoves.{DeliveryMoves, NetworkMoves, takes, hops, ejects, delivers, ticks, posts}
use Rattle.flow_laws.specs.MessageMoves.{MessageMoves, message_hops, message_ejects}
use Rattle.progress_laws.specs.Possible.{SomeIsEnabled}

tick_enabled : (b : Behaviour) (chip : Chip) (s : ChipState) → is_some (after_network_tick chip s.network) ≡ true → enabled b chip s Tick ≡ true
unfolding enabled step
tick_enabled b chip s is = there_too (after_network_tick chip s.network) _ ∙ is

post_enabled : (b : Behaviour) (chip : Chip) (s : ChipState) (t : ℕ) → is_some (after_request_post s.network t) ≡ true → enabled b chip s (Post t) ≡ true
unfolding enabled step
post_enabled b chip s t is = there_too (after_request_post s.network t) _ ∙ is

take_enabled : (b : Behaviour) (chip : Chip) (s : ChipState) (t : ℕ) → is_some (after_vector_take s.network t) ≡ true → enabled b chip s (Take t) ≡ true
unfolding enabled step
take_enabled b chip s t is = there_too (after_vector_take s.network t) _ ∙ is

hop_enabled : (b : Behaviour) (chip : Chip) (s : ChipState) (r : ℕ) (port : Port) (slot : ℕ) (out : Port) → is_some (after_copy_hop chip s.network r port slot out) ≡ true
    → enabled b chip s (Hop r port slot out) ≡ true
unfolding enabled step
hop_enabled b chip s r port slot out is = there_too (after_copy_hop chip s.network r port slot out) _ ∙ is

eject_enabled : (b : Behaviour) (chip : Chip) (s : ChipState) (t : ℕ) (unit : UnitState) → slice_get s.units t ≡ Some unit → is_some (after_delivery chip s.network t) ≡ true
    → enabled b chip s (Eject t) ≡ true
unfolding enabled step unit_at
eject_enabled b chip s t unit there is = rw there (there_too (after_delivery chip s.network t) _ ∙ is)

data_hop_enabled : (b : Behaviour) (chip : Chip) (s : ChipState) (r : ℕ) (port : Port) (slot : ℕ) → is_some (after_data_hop chip.grid s.replies r port slot) ≡ true
    → enabled b chip s (DataHop r port slot) ≡ true
unfolding enabled step
data_hop_enabled b chip s r port slot is = there_too (after_data_hop chip.grid s.replies r port slot) _ ∙ is

some_of_both : {X Y Z : Type 0} (o : Option X) (p : Option Y) (y : Y) (f : X → Y → Z) → p ≡ Some y → is_some (o >>= (λ x. p >>= (λ y. Some (f x y)))) ≡ is_some o
some_of_both None p y f there = refl
some_of_both (Some x) p y f there = rw there refl

data_eject_enabled : (b : Behaviour) (chip : Chip) (s : ChipState) (r : ℕ) (port : Port) (slot : ℕ) (unit : UnitState) → slice_get s.units r ≡ Some unit
    → is_some (after_data_eject s.replies r port slot) ≡ true
    → enabled b chip s (DataEject r port slot) ≡ true
unfolding enabled step unit_at
data_eject_enabled b chip s r port slot unit there is = some_of_both (after_data_eject s.replies r port slot) (slice_get s.units r) unit _ there ∙ is

-- ---- of each network, where there is a unit a tile
pub delivery_enabled : (b : Behaviour) (chip : Chip) (s : ChipState) → length s.units ≡ tile_count chip → DeliveryMoves chip s.network → SomeIsEnabled b chip s
delivery_enabled b chip s units (takes t is) = record { event = Take t; possible = take_enabled b chip s t is }
delivery_enabled b chip s units (hops r port slot out is) = record { event = Hop r port slot out; possible = hop_enabled b chip s r port slot out is }
delivery_enabled b chip s units (ejects t inside is) =
    record { event = Eject t; possible = let unit = item_at s.units t (omega arith) in eject_enabled b chip s t unit.item unit.there is }

pub network_enabled : (b : Behaviour) (chip : Chip) (s : ChipState) → length s.units ≡ tile_count chip → NetworkMoves chip s.network → SomeIsEnabled b chip s
network_enabled b chip s units (delivers moves) = delivery_enabled b chip s units moves
network_enabled b chip s units (ticks is) = record { event = Tick; possible = tick_enabled b chip s is }
network_enabled b chip s units (posts t is) = record { event = Post t; possible = post_enabled b chip s t is }

pub message_enabled : (b : Behaviour) (chip : Chip) (s : ChipState) → length s.units ≡ tile_count chip → MessageMoves chip.grid s.replies → SomeIsEnabled b chip s
message_enabled b chip s units (message_hops r port slot is) = record { event = DataHop r port slot; possible = data_hop_enabled b chip s r port slot is }
message_enabled b chip s units (message_ejects r port slot inside is) =
    record { event = DataEject r port slot; possible = let unit = item_at s.units r (omega arith) in data_eject_enabled b chip s r port slot unit.item unit.there is }
