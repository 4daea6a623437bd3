use Rattle.std.proofs.Common.{◌∙◌}
use Rattle.node_tests.proofs.LastTile.{are_tiles}
use Rattle.node_tests.proofs.nodes.one_of_four.Goals as goal

pub invariant_of-mesh-clause-controllers_limit : goal.invariant_of-mesh-clause-controllers_limit
invariant_of-mesh-clause-controllers_limit c =
    ∣ are_tiles c.in_ok-mesh.mesh.cols c.in_ok-mesh.mesh.rows c.new.result c.in_ok-mesh.ensures.cols_is c.in_ok-mesh.ensures.rows_is
    (c.new.ensures ∙ c.in_ok-from_slice.ensures.items) ∣₁
