use Rattle.mesh_gen.proofs.RouteHops.{route_ends, route_at_end, route_goes_on, hop_nearer, hop_stands, rank-hop, travels_stands}
use Rattle.mesh_gen.proofs.routes.route_laws.Goals as goal

pub returns-clause-ranks : goal.returns-clause-ranks
returns-clause-ranks c = λ g dest r n q some travels next. rank-hop g dest r n q some (travels_stands g dest r q some travels) next

pub returns-clause-nearer : goal.returns-clause-nearer
returns-clause-nearer c = λ g dest r n some next. hop_nearer g r dest n some next

pub returns-clause-ends : goal.returns-clause-ends
returns-clause-ends c = λ g dest r. (route_ends g r dest, route_at_end g r dest)

pub returns-clause-goes_on : goal.returns-clause-goes_on
returns-clause-goes_on c = λ g dest r some inside reached other. route_goes_on g r dest some inside reached other

pub returns-clause-is_route_channel : goal.returns-clause-is_route_channel
returns-clause-is_route_channel c = travels_stands

pub returns-clause-stands_on : goal.returns-clause-stands_on
returns-clause-stands_on c = λ g dest r n some next. hop_stands g r dest n some next

pub returns-clause-ranks_there : goal.returns-clause-ranks_there
returns-clause-ranks_there c = rank-hop
