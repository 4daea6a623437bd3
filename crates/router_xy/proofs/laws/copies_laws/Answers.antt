use Rattle.router_xy.proofs.Sound.{sound_empty}
use Rattle.router_xy.proofs.CopiesKept.{request_entered, copy_hopped, request_served}
use Rattle.router_xy.proofs.laws.copies_laws.Goals as goal

pub returns-clause-opened : goal.returns-clause-opened
returns-clause-opened c = sound_empty

pub returns-clause-enters : goal.returns-clause-enters
returns-clause-enters c = request_entered

pub returns-clause-hops : goal.returns-clause-hops
returns-clause-hops c = copy_hopped

pub returns-clause-serves : goal.returns-clause-serves
returns-clause-serves c = request_served
