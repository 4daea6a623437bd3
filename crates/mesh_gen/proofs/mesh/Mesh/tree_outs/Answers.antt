use Rattle.std.proofs.Common.{◌≡◌}
use Rattle.mesh_gen.specs.declared.port.Port.TheVariants.{E, W, N, S}
use Rattle.mesh_gen.specs.Mesh.{grid}
use Rattle.mesh_gen.specs.PortSets.{bits_of}
use Rattle.mesh_gen.specs.Tree.{leaves_by, tree_outs}
use Rattle.mesh_gen.proofs.TreeOuts.{unions, has-tree_outs, tree_outs_below}
use Rattle.mesh_gen.proofs.mesh.Mesh.tree_outs.Goals as goal

bits_are : (c : goal.After-union-4) → bits_of c.union-4.result ≡ tree_outs (grid c.args.self.now) c.args.s c.args.r
unfolding tree_outs
bits_are c =
    let leaves = leaves_by (grid c.args.self.now) c.args.s c.args.r in
    rw (c.union-4.ensures tt, c.union-3.ensures tt, c.union-2.ensures tt, c.union.ensures tt, c.branch-self.ensures, c.branch-self-2.ensures, c.branch-self-3.ensures, c.branch-self-4.ensures)
    (unions (leaves E) (leaves W) (leaves N) (leaves S))

pub returns-clause-bits : goal.returns-clause-bits
returns-clause-bits c = bits_are c

pub returns-clause-ports : goal.returns-clause-ports
returns-clause-ports c = λ port. rw (bits_are c) (has-tree_outs (grid c.args.self.now) c.args.s c.args.r port)

pub returns-clause-small : goal.returns-clause-small
returns-clause-small c = rw (bits_are c) (tree_outs_below (grid c.args.self.now) c.args.s c.args.r)
