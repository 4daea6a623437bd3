use Rattle.std.proofs.Common.{◌*◌, ◌+◌, ap, length, length-append, subst, sym, arith, List, [], ◌∷◌}
use Rattle.std.specs.List.{All}
use Rattle.std.proofs.lemmas.List.Elements.{All-push}
use Rattle.mesh_gen.specs.Grid.{tiles}
use Rattle.mesh_gen.specs.Mesh.{grid}
use Rattle.order_tracker.specs.Tracker.{TrackerState}
use Rattle.net_iface.specs.Trackers.{IsUnused}
use Rattle.net_iface.proofs.trackers.new_trackers.Goals as goal

pub loop-preserved : goal.loop-preserved
loop-preserved c =
    let IsOne : TrackerState → Type 0 = λ tracker. IsUnused (tiles (grid c.args.mesh.now)) (tiles (grid c.args.mesh.now) * (5 * c.args.mesh.now.vcs + 4)) tracker in
    record {
      count = omega (arith, c.loop.invariant.count, ap length c.in_ok-push.ensures.items, length-append c.loop.trackers.items (c.in_ok-open.field-0 ∷ []));
      each =
          subst (λ (trackers : List TrackerState). All IsOne trackers) (sym c.in_ok-push.ensures.items)
          (All-push IsOne c.loop.trackers.items c.in_ok-open.field-0 c.loop.invariant.each (record { new = c.in_ok-open.ensures.new; follows = c.in_ok-open.ensures.follows }));
    }
