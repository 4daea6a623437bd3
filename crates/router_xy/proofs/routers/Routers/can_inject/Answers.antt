use Rattle.std.proofs.Common.{sym, ◌∙◌, ap, refl}
use Rattle.std.specs.Prelude.{is_some}
use Rattle.router_xy.proofs.Steps.{seen_free, can_enter}
use Rattle.router_xy.proofs.routers.Routers.can_inject.Goals as goal

pub returns : goal.returns
returns c =
    rw (← c.self.view_is)
    (c.is_some.ensures ∙ ap is_some (sym (seen_free _ _ _ _ _ _ c.deref.ensures.value c.free_slot.ensures refl)) ∙ can_enter (c.self.inside.wiring) c.self.inside.banks.items c.args.q)
