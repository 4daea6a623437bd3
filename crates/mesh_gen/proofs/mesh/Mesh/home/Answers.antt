use Rattle.std.proofs.Common.{◌*◌}
use Rattle.std.proofs.lemmas.List.Elements.{Contains-get_or}
use Rattle.mesh_gen.proofs.Controllers.{round_below, get_or-round}
use Rattle.mesh_gen.proofs.mesh.Mesh.home.Goals as goal

pub returns-clause-controller : goal.returns-clause-controller
returns-clause-controller c =
    let mesh = c.args.self.now in
    rw (c.as_slice-controllers.ensures, c.from.ensures)
    (Contains-get_or mesh.controllers _ 0 (round_below (mesh.cols * mesh.rows) mesh.controllers c.args.line mesh.controllers_limit))

pub returns-clause-tile : goal.returns-clause-tile
returns-clause-tile c =
    let mesh = c.args.self.now in
    rw (c.as_slice-controllers.ensures, c.from.ensures)
    (get_or-round (mesh.cols * mesh.rows) mesh.controllers c.args.line mesh.controllers_limit)
