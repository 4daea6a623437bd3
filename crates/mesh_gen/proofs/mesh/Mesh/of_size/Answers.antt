use Rattle.std.proofs.Common.{◌*◌, ◌∙◌, arith}
use Rattle.mesh_gen.proofs.OneTile.{AreTiles-is_one, product_positive}
use Rattle.mesh_gen.proofs.mesh.Mesh.of_size.Goals as goal

pub invariant_of-result-clause-controllers_limit : goal.invariant_of-result-clause-controllers_limit
invariant_of-result-clause-controllers_limit c =
    ∣ AreTiles-is_one (c.args.cols * c.args.rows) 0 _ (product_positive c.args.cols c.args.rows (omega arith) (omega arith)) (c.new.ensures ∙ c.in_ok-from_slice.ensures.items) ∣₁
