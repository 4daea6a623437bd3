use Rattle.std.proofs.Common.{ℕ, List, take, drop, ap, ◌∙◌}
use Rattle.outside_io.proofs.Pieces.{split_taken}
use Rattle.outside_io.proofs.mem_source.MemSourceSource.read.Goals as goal

pub returns-clause-next : goal.returns-clause-next
returns-clause-next c =
    let left_is = c.split_at.ensures.back ∙ ap (λ (bytes : List ℕ). drop c.self.inside.taken bytes) c.as_slice.ensures.value in
    let came_is = c.copy_prefix-count.ensures.front ∙ ap (λ (bytes : List ℕ). take c.copy_prefix-count.result bytes) left_is in
    rw (← c.self.view_is) (split_taken c.self.inside.bytes.items c.self.inside.taken c.copy_prefix-count.result _ came_is)
