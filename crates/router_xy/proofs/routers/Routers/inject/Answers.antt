use Rattle.std.proofs.Common.{arith, ◌≡◌, ◌<◌, sym, ◌∙◌, ap, Some}
use Rattle.mesh_gen.specs.declared.port.Port.TheVariants.{L}
use Rattle.mesh_gen.specs.Grid.{tiles}
use Rattle.mesh_gen.specs.Ports.{port_number}
use Rattle.vc_bank.specs.Places.{put}
use Rattle.chip_model.specs.Copies.{channels_of, name_of, arriving, after_entry}
use Rattle.router_xy.specs.CopySteps.{RequestEntered}
use Rattle.router_xy.specs.RequestNetwork.{IsAbsent}
use Rattle.router_xy.proofs.Steps.{seen_free, lowest_is_free, entered_into, not_entered}
use Rattle.router_xy.proofs.CopiesKept.{request_entered}
use Rattle.router_xy.proofs.routers.Routers.inject.Goals as goal

pub returns-in_default-clause-err : goal.returns-in_default-clause-err
returns-in_default-clause-err c = rw (← c.self.view_is) (not_entered _ _ _ (seen_free _ _ _ _ _ _ c.deref.ensures.value c.free_slot.ensures c.in_default.is))

pub put_into-requires : goal.put_into-requires
put_into-requires c = (omega arith, lowest_is_free (channels_of c.self.inside.banks.items c.args.q.source) (port_number L) c.in-Some.slot (seen_free _ _ _ _ _ _ c.deref.ensures.value c.free_slot.ensures c.in-Some.is))

steps : (c : goal.After-put_into) → after_entry (c.self.inside.wiring) c.self.inside.banks.items c.args.q ≡ Some c.put_into.new.banks.items
steps c =
    let net = c.self.inside.banks.items in
    let q = c.args.q in
    let is : c.arriving-copy.result ≡ arriving (c.self.inside.wiring) q.source q = rw (← c.self.view_is) at c.arriving-copy.ensures in
    entered_into (c.self.inside.wiring) net q c.in-Some.slot (seen_free _ _ _ _ _ _ c.deref.ensures.value c.free_slot.ensures c.in-Some.is)
    ∙ ap (λ copy. Some (put net q.source (port_number L) c.in-Some.slot (Some copy))) (sym is) ∙ ap Some (sym c.put_into.ensures)

enters : (c : goal.After-put_into) → RequestEntered (c.self.inside.wiring) c.self.inside.vcs c.args.q c.self.inside.banks.items c.put_into.new.banks.items
enters c =
    let source : c.args.q.source < tiles (c.self.inside.wiring) = rw (← c.self.view_is) at c.requires.source in
    let absent : IsAbsent c.self.inside.banks.items (name_of c.args.q) = rw (← c.self.view_is) at c.requires.absent in
    request_entered (c.self.inside.wiring) c.self.inside.vcs c.self.inside.banks.items c.put_into.new.banks.items c.args.q source c.self.invariant.copies absent (steps c)

pub invariant_of-self : goal.invariant_of-self
invariant_of-self c = record { some = c.self.invariant.some; vcs_limit = c.self.invariant.vcs_limit; copies = (enters c).holds }

pub returns-clause-ok : goal.returns-clause-ok
returns-clause-ok c = rw (← c.self.view_is) (steps c)

pub returns-clause-owed : goal.returns-clause-owed
returns-clause-owed c = rw (← c.self.view_is) (enters c).owes

pub returns-clause-requests : goal.returns-clause-requests
returns-clause-requests c = rw (← c.self.view_is) (enters c).comes

pub returns-clause-reserved : goal.returns-clause-reserved
returns-clause-reserved c = rw (← c.self.view_is) (enters c).reserves

pub returns-clause-arrived : goal.returns-clause-arrived
returns-clause-arrived c = rw (← c.self.view_is) (enters c).arrives
