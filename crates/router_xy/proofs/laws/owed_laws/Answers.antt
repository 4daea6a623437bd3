use Rattle.router_xy.proofs.OwedCounts.{owing-absent}
use Rattle.router_xy.proofs.OwedOutputs.{owed_once, one_output, none_ahead}
use Rattle.router_xy.proofs.RoomForNames.{names_fit}
use Rattle.router_xy.proofs.LocalPlaces.{local_found}
use Rattle.router_xy.proofs.laws.owed_laws.Goals as goal

pub returns-clause-owed : goal.returns-clause-owed
returns-clause-owed c = owed_once

pub returns-clause-one_output : goal.returns-clause-one_output
returns-clause-one_output c = one_output c.tree_laws.ensures.apart

pub returns-clause-ahead : goal.returns-clause-ahead
returns-clause-ahead c = none_ahead

pub returns-clause-room : goal.returns-clause-room
returns-clause-room c = names_fit

pub returns-clause-local : goal.returns-clause-local
returns-clause-local c = local_found

pub returns-clause-absent : goal.returns-clause-absent
returns-clause-absent c = owing-absent
