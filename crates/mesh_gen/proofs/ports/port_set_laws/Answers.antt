use Rattle.mesh_gen.proofs.PortBits.{has-empty, some_port, has-without_port, without_port_below}
use Rattle.mesh_gen.proofs.ports.port_set_laws.Goals as goal

pub returns-clause-empty : goal.returns-clause-empty
returns-clause-empty c = has-empty

pub returns-clause-some : goal.returns-clause-some
returns-clause-some c = some_port

pub returns-clause-without : goal.returns-clause-without
returns-clause-without c = has-without_port

pub returns-clause-small : goal.returns-clause-small
returns-clause-small c = without_port_below
