use Rattle.std.proofs.Common.{◌≡◌, ℕ, Some, ◌%◌, subst, div-add-mod'}
use Rattle.std.specs.Prelude.{slice_get}
use Rattle.report_text.specs.declared.event.Event.TheVariants.{Hop}
use Rattle.chip_model.specs.Chip.{chip_of_mesh}
use Rattle.chip_model.specs.Schedules.{router_hops}
use Rattle.machine_core.proofs.slots.hop_event.Goals as goal

pub returns : goal.returns
returns c =
    subst (λ (n : ℕ). slice_get (router_hops (chip_of_mesh c.args.mesh.now) c.args.r) n ≡ Some (Hop c.args.r c.request_channel-port.result.0 c.request_channel-port.result.1 c.side.result)) (div-add-mod' c.args.j 4)
    (c.request_channel-port.ensures c.args.r (c.args.j % 4) c.side.result c.side.ensures)
