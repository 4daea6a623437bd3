use Rattle.std.proofs.Common.{List, sym, subst}
use Rattle.mesh_gen.specs.declared.msg.Msg.{Msg}
use Rattle.chip_model.specs.Chip.{chip_of_mesh}
use Rattle.snoop_core.specs.Nodes.{NodeIsSound}
use Rattle.snoop_core.proofs.NodeSteps.{node_of}
use Rattle.snoop_core.proofs.Opened.{NodeIsSound-opening}
use Rattle.snoop_core.proofs.node.Node.open.Goals as goal

pub invariant_of-result : goal.invariant_of-result
invariant_of-result c =
    subst (λ (out : List Msg). NodeIsSound (node_of c.in_ok-open.field-0 c.args.tile c.in_ok-open-2.field-0 out 0)) (sym c.new.ensures)
    (NodeIsSound-opening (chip_of_mesh c.args.mesh.now) c.in_ok-open.field-0 c.args.tile c.in_ok-open-2.field-0 c.in_ok-open.ensures c.requires.tile c.in_ok-open-2.ensures.homes)
