use Rattle.std.proofs.Math.Logic.{∥∥₁_elim}
use Rattle.std.proofs.Math.Bridge.{le_prop}
use Rattle.std.specs.List.{AllByRecursion-prop}
use Rattle.std.proofs.Common.{◌*◌}
use Rattle.mesh_gen.specs.Limits.{AreTiles}
use Rattle.mesh_gen.proofs.Controllers.{AreTiles-prop}
use Rattle.doc_text.proofs.document.Document.windows.Goals as goal

pub returns-clause-few : goal.returns-clause-few
returns-clause-few c = ∥∥₁_elim c.args.self.now.posts_limit le_prop (λ posts. posts.few)

pub returns-clause-each : goal.returns-clause-each
returns-clause-each c =
    let document = c.args.self.now in
    let tiles = document.mesh.cols * document.mesh.rows in
    ∥∥₁_elim document.posts_limit (AllByRecursion-prop (AreTiles tiles) (AreTiles-prop tiles) document.posts) (λ posts. posts.each)
