use Rattle.outside_io.specs.Streams.{stream}
use Rattle.commands.proofs.Runs.{read_is_taken}
use Rattle.commands.proofs.command.take_document.Goals as goal

pub returns-in-None-clause-taken : goal.returns-in-None-clause-taken
returns-in-None-clause-taken g c =
    rw c.in-None.is (read_is_taken (stream g.S.Source.left g.S.Source.faults c.args.source.now c.read_input.new.source) c.read_input.result c.read_input.ensures)
