use Rattle.router_xy.proofs.CopySteps.{before_any_step, enters_alone, hops_with_none, serve_found, serves_named}
use Rattle.router_xy.proofs.laws.step_laws.Goals as goal

pub returns-clause-opened : goal.returns-clause-opened
returns-clause-opened c = before_any_step

pub returns-clause-enters : goal.returns-clause-enters
returns-clause-enters c = enters_alone

pub returns-clause-hops : goal.returns-clause-hops
returns-clause-hops c = hops_with_none

pub returns-clause-found : goal.returns-clause-found
returns-clause-found c = serve_found

pub returns-clause-serves : goal.returns-clause-serves
returns-clause-serves c = serves_named
