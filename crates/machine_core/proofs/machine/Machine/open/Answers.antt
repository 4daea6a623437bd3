use Rattle.std.proofs.Common.{arith}
use Rattle.doc_text.specs.Doc.{doc_of}
use Rattle.machine_core.proofs.Openings.{document_within, parts_opened, state_opened}
use Rattle.machine_core.proofs.machine.Machine.open.Goals as goal

pub invariant_of-result : goal.invariant_of-result
invariant_of-result g c =
    let d = doc_of c.args.document in
    let within = document_within c.args.document in
    rw (c.in_ok-rest.ensures, c.in_ok-fabric.ensures, c.in_ok-stations.ensures)
    (parts_opened g.U.Unit.behaviour d _ within (omega (arith, c.requires.high, within.tiles, c.from.ensures, c.from-tiles.ensures)))

pub returns-clause-state : goal.returns-clause-state
returns-clause-state g c =
    let d = doc_of c.args.document in
    rw (c.in_ok-fabric.ensures, c.in_ok-stations.ensures) (state_opened d 0)
