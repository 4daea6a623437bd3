use Rattle.std.proofs.Common.{◌∙◌, sym, ap}
use Rattle.router_xy.specs.RequestNetwork.{is_owed}
use Rattle.router_xy.proofs.Steps.{seen_at, not_owing, has_none}
use Rattle.router_xy.proofs.routers.Routers.owed.Goals as goal

pub returns-in-Some-clause-none : goal.returns-in-Some-clause-none
returns-in-Some-clause-none c = λ out not.
    rw (← c.self.view_is) (not_owing c.self.inside.wiring c.self.inside.banks.items c.args.r c.args.port c.args.slot out
    (sym not ∙ sym (ap (is_owed out) (seen_at _ _ _ _ _ _ _ c.deref.ensures.value c.packet_at.ensures c.in-Some.is))))

pub returns-in-None-clause-owed : goal.returns-in-None-clause-owed
returns-in-None-clause-owed c = λ out.
    rw (← c.self.view_is) (has_none _ out c.no_ports.ensures ∙ sym (ap (is_owed out) (seen_at _ _ _ _ _ _ _ c.deref.ensures.value c.packet_at.ensures c.in-None.is)))

pub returns-in-None-clause-none : goal.returns-in-None-clause-none
returns-in-None-clause-none c = λ out not.
    rw (← c.self.view_is) (not_owing c.self.inside.wiring c.self.inside.banks.items c.args.r c.args.port c.args.slot out
    (sym (ap (is_owed out) (seen_at _ _ _ _ _ _ _ c.deref.ensures.value c.packet_at.ensures c.in-None.is))))
