use Rattle.std.proofs.Common.{◌∙◌, sym, subst}
use Rattle.mesh_gen.specs.Limits.{AreTiles}
use Rattle.load_gen.proofs.Limits.{two_controllers}
use Rattle.load_gen.proofs.document.generate.Goals as goal

pub invariant_of-result-clause-controllers_limit : goal.invariant_of-result-clause-controllers_limit
invariant_of-result-clause-controllers_limit c =
    ∣ subst (AreTiles 16) (sym (c.new.ensures ∙ c.in_ok-from_slice.ensures.items)) two_controllers ∣₁
