use Rattle.std.proofs.Common.{◌≡◌, [], refl, ◌∙◌, ap, subst, arith}
use Rattle.mesh_gen.specs.Grid.{Grid}
use Rattle.notify_net.specs.Latches.{LatchState}
use Rattle.notify_net.specs.Merge.{IsAtPhase}
use Rattle.window_core.proofs.Kept.{vector-close, IsKept-close}
use Rattle.window_core.proofs.windows.Windows.close.Goals as goal

pub returns-clause-vector : goal.returns-clause-vector
returns-clause-vector c =
    let last = rw (← c.self.view_is) at c.requires.last in
    rw (← c.self.view_is)
    (vector-close c.self.inside.latches c.tick.new.self c.self.inside.ticks (record { phase = c.self.inside.phase; posts = c.self.inside.posts; closed = c.self.inside.closed.items; taken = c.self.inside.taken.items }) c.self.inside.room c.merged_at-vector.result last c.tick.ensures.phase c.merged_at-vector.ensures.whole c.self.invariant.0)

pub invariant_of-self : goal.invariant_of-self
invariant_of-self c =
    let held : c.merged_at-vector.result ≡ c.args.self.now.windows.posts = returns-clause-vector c in
    let vector : c.merged_at-vector.result ≡ c.self.inside.posts = rw (← c.self.view_is) at held in
    let posted = rw (← c.self.view_is) at c.requires.posted in
    let room = rw (← c.self.view_is) at c.requires.room in
    let same_grid : c.clear.new.self.grid ≡ c.self.inside.latches.grid = ap (λ (s : LatchState). s.grid) c.clear.ensures.cleared ∙ c.tick.ensures.ticked.grid_is in
    let empty = subst (λ (g : Grid). IsAtPhase g [] 0 c.clear.new.self) c.tick.ensures.ticked.grid_is c.clear.ensures.phase in (
      rw (c.push_reserved.ensures.items, vector)
          (IsKept-close c.self.inside.latches c.clear.new.self c.self.inside.ticks (record { phase = c.self.inside.phase; posts = c.self.inside.posts; closed = c.self.inside.closed.items; taken = c.self.inside.taken.items }) c.self.inside.room posted room same_grid empty c.self.invariant.0),
      omega (arith, c.push_reserved.ensures.capacity, c.self.invariant.1),
    )

pub returns-clause-closed : goal.returns-clause-closed
returns-clause-closed c =
    let held : c.merged_at-vector.result ≡ c.args.self.now.windows.posts = returns-clause-vector c in
    let vector : c.merged_at-vector.result ≡ c.self.inside.posts = rw (← c.self.view_is) at held in
    let same_grid : c.clear.new.self.grid ≡ c.self.inside.latches.grid = ap (λ (s : LatchState). s.grid) c.clear.ensures.cleared ∙ c.tick.ensures.ticked.grid_is in
    rw (← c.self.view_is, c.push_reserved.ensures.items, vector, same_grid) refl
