-- Whether what stands in a channel can go on tells whether the event of that channel is possible.
use Rattle.std.proofs.Common.{◌≡◌, ℕ, List, Bool, true, false, List, Option, Some, None, refl}
use Rattle.std.specs.Prelude.{is_some}
use Rattle.std.specs.Bool.{OnTrue}
use Rattle.mesh_gen.specs.declared.port.Port.{Port}
use Rattle.mesh_gen.specs.Partial.{◌>>=◌}
use Rattle.mesh_gen.specs.Ports.{port_number}
use Rattle.vc_bank.specs.Places.{at}
use Rattle.report_text.specs.declared.event.Event.TheVariants.{Hop, DataHop, DataEject}
use Rattle.chip_model.specs.Chip.{Chip}
use Rattle.chip_model.specs.OrderedNetwork.{after_copy_hop}
use Rattle.chip_model.specs.Replies.{after_data_hop, after_data_eject}
use Rattle.chip_model.specs.Units.{Behaviour, UnitState}
use Rattle.chip_model.specs.Events.{step}
use Rattle.chip_model.specs.Runs.{after, enabled}
use Rattle.fabric_core.specs.Fabric.{FabricState}
use Rattle.machine_core.specs.Stations.{chip_state}

-- what an answer says, by what follows of it
pub on_true : {P Q : Type 0} (answer : Bool) → (P → Q) → OnTrue answer P → OnTrue answer Q
on_true true f p = f p
on_true false f p = tt

some_of : {X Y : Type 0} (o : Option X) (f : X → Y) → is_some o ≡ is_some (o >>= (λ x. Some (f x)))
some_of None f = refl
some_of (Some x) f = refl

module _ (b : Behaviour) (chip : Chip) (fabric : FabricState) (units : List UnitState) (same : fabric.chip ≡ chip) (r : ℕ) (port : Port) (slot : ℕ) where
  -- a copy can hop exactly where a step of the network says so
  pub hop_possible : (out : Port) → is_some (after_copy_hop fabric.chip fabric.network r port slot out) ≡ enabled b chip (chip_state fabric units) (Hop r port slot out)
  unfolding enabled step
  hop_possible out = rw same (some_of (after_copy_hop chip fabric.network r port slot out) _)

  pub no_hop : (out : Port) → after_copy_hop fabric.chip fabric.network r port slot out ≡ None → after b chip (chip_state fabric units) (Hop r port slot out) ≡ None
  unfolding after step
  no_hop out none = rw (← same, none) refl

  -- no message goes on from an empty channel, and none comes to the tile
  pub no_data_hop : at fabric.replies r (port_number port) slot ≡ None → after b chip (chip_state fabric units) (DataHop r port slot) ≡ None
  unfolding after step after_data_hop
  no_data_hop none = rw none refl

  pub no_data_eject : at fabric.replies r (port_number port) slot ≡ None → after b chip (chip_state fabric units) (DataEject r port slot) ≡ None
  unfolding after step after_data_eject
  no_data_eject none = rw none refl
