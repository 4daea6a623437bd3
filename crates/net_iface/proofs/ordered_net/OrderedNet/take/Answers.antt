use Rattle.std.proofs.Common.{◌≡◌, ◌≤◌, length, Some, ap, ◌∙◌, sym, refl, arith}
use Rattle.mesh_gen.specs.Grid.{tiles}
use Rattle.net_iface.specs.Parts.{network_of}
use Rattle.net_iface.proofs.InsideParts.{parts}
use Rattle.net_iface.proofs.LawsOfParts.{room_for_names}
use Rattle.net_iface.proofs.Steps.{after_vector_take-some, after_vector_take-none}
use Rattle.chip_model.specs.Windows.{Windows}
use Rattle.chip_model.specs.OrderedNetwork.{after_vector_take}
use Rattle.net_iface.proofs.Views.{windows_seen}
use Rattle.net_iface.proofs.Taken.{take_is, may_take_in, AreKept-take}
use Rattle.net_iface.proofs.Moving.{take_moves}
use Rattle.net_iface.proofs.ordered_net.OrderedNet.take.Goals as goal

pub take_in-requires : goal.take_in-requires
take_in-requires c =
    let p = parts c.self.inside in
    let sizes = c.self.invariant.0.sizes in
    let one = take_is p.windows.windows c.args.t c.in-Ok.vector c.take.new.self.windows c.in-Ok.ensures.ok c.in-Ok.ensures.vector in
    let window = rw (ap tiles sizes.windows_grid) at c.in-Ok.ensures.tiles in
    let fit = c.self.invariant.0.holds.fits.windows in
    let count = rw (← c.self.view_is) at c.closed_count.ensures.count in
    let below = rw (← c.self.view_is) at c.closed_count.ensures.few in
    let few : length p.windows.windows.closed ≤ length p.ordered = omega (arith, count, below) in
    may_take_in p c.args.t c.in-Ok.vector c.take.new.self.windows c.self.invariant.0 one window fit few
    (room_for_names p p.routers c.args.t c.owed_laws.ensures.room sizes.grid sizes.vcs c.tiles.ensures.channels)

steps : (c : goal.After-take_in) → after_vector_take (network_of (parts c.self.inside)) c.args.t ≡ Some (network_of (record (parts c.self.inside) { windows = c.take.new.self }))
steps c =
    let p = parts c.self.inside in
    let one = take_is p.windows.windows c.args.t c.in-Ok.vector c.take.new.self.windows c.in-Ok.ensures.ok c.in-Ok.ensures.vector in
    after_vector_take-some (network_of p) c.args.t c.take.new.self.windows c.in-Ok.ensures.ok ∙ ap Some (windows_seen p c.take.new.self (ap (λ (w : Windows). w.posts) (sym one.is)))

pub invariant_of-self : goal.invariant_of-self
invariant_of-self c =
    let p = parts c.self.inside in
    let sizes = c.self.invariant.0.sizes in
    let one = take_is p.windows.windows c.args.t c.in-Ok.vector c.take.new.self.windows c.in-Ok.ensures.ok c.in-Ok.ensures.vector in
    let window = rw (ap tiles sizes.windows_grid) at c.in-Ok.ensures.tiles in
    let fit = c.self.invariant.0.holds.fits.windows in
    let count = rw (← c.self.view_is) at c.closed_count.ensures.count in
    let below = rw (← c.self.view_is) at c.closed_count.ensures.few in
    let few : length p.windows.windows.closed ≤ length p.ordered = omega (arith, count, below) in
    let holds = c.network_laws.ensures.taken p.chip (network_of p) _ c.args.t c.self.invariant.0.holds (steps c) in (
      AreKept-take p c.args.t c.in-Ok.vector c.take.new.self.windows c.self.invariant.0 one window fit few
          (room_for_names p p.routers c.args.t c.owed_laws.ensures.room sizes.grid sizes.vcs c.tiles.ensures.channels) c.take.new.self c.take_in.new.trackers.items refl c.in-Ok.ensures.sizes c.take_in.ensures holds,
      c.self.invariant.1,
    )

pub returns-in-Ok-clause-ok : goal.returns-in-Ok-clause-ok
returns-in-Ok-clause-ok c = rw (← c.self.view_is) (steps c)

pub returns-in-Err-clause-err : goal.returns-in-Err-clause-err
returns-in-Err-clause-err c = rw (← c.self.view_is) (after_vector_take-none (network_of (parts c.self.inside)) c.args.t c.in-Err.ensures.err)

pub returns-in-Ok-clause-moves : goal.returns-in-Ok-clause-moves
returns-in-Ok-clause-moves c = take_moves c.args.self.now.network _ c.args.t (returns-in-Ok-clause-ok c)
