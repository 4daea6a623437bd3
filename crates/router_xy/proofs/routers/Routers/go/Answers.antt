use Rattle.std.proofs.Common.{arith, ◌≡◌, ◌∙◌, ap, Option, Some, true}
use Rattle.chip_model.specs.Copies.{Name, name_of, after_hop}
use Rattle.router_xy.specs.CopySteps.{CopyHopped}
use Rattle.router_xy.specs.Ways.{IsWay, takes_in}
use Rattle.router_xy.proofs.Steps.{hopped_by, landed, opened, own_taken}
use Rattle.router_xy.proofs.Sound.{entry_beside}
use Rattle.router_xy.proofs.CopiesKept.{copy_hopped}
use Rattle.router_xy.proofs.routers.Routers.go.Goals as goal

pub put_into-requires : goal.put_into-requires
put_into-requires c =
    let g = c.self.inside.wiring in
    let net = c.self.inside.banks.items in
    let way = c.args.way in
    let is : IsWay g net c.args.r c.args.port c.args.slot c.args.out way = rw (← c.self.view_is) at c.requires in
    let own = Some (name_of way.copy.request) in (
      omega arith,
      entry_beside g net c.leave.new.banks.items c.args.r c.args.port c.args.slot c.args.out c.opposite.result own way c.left_by.result c.self.invariant.some
          (opened g net c.args.r c.args.port c.args.slot c.args.out own way is (own_taken way)) c.leave.ensures c.opposite.ensures,
    )

steps : (c : goal.After-put_into) (expected : Option Name) → takes_in c.args.way expected ≡ true
    → after_hop c.self.inside.wiring c.self.inside.banks.items c.args.r c.args.port c.args.slot c.args.out expected ≡ Some c.put_into.new.banks.items
steps c expected takes =
    let g = c.self.inside.wiring in
    let net = c.self.inside.banks.items in
    let way = c.args.way in
    let is : IsWay g net c.args.r c.args.port c.args.slot c.args.out way = rw (← c.self.view_is) at c.requires in
    hopped_by g net c.args.r c.args.port c.args.slot c.args.out expected way (opened g net c.args.r c.args.port c.args.slot c.args.out expected way is takes)
    ∙ ap Some (landed g net c.leave.new.banks.items c.put_into.new.banks.items c.args.r c.args.port c.args.slot c.args.out c.opposite.result way c.left_by.result c.arriving-copy.result
    c.leave.ensures c.left_by.ensures c.opposite.ensures (rw (← c.self.view_is) at c.arriving-copy.ensures) c.put_into.ensures)

hops : (c : goal.After-put_into) (expected : Option Name) → takes_in c.args.way expected ≡ true → CopyHopped c.self.inside.wiring c.self.inside.vcs c.args.r c.args.out expected c.self.inside.banks.items c.put_into.new.banks.items
hops c expected takes =
    copy_hopped c.self.inside.wiring c.self.inside.vcs c.self.inside.banks.items c.put_into.new.banks.items c.args.r c.args.port c.args.slot c.args.out expected c.self.invariant.copies (steps c expected takes)

-- as it hops where its own request is expected
own_hops : (c : goal.After-put_into) → CopyHopped c.self.inside.wiring c.self.inside.vcs c.args.r c.args.out (Some (name_of c.args.way.copy.request)) c.self.inside.banks.items c.put_into.new.banks.items
own_hops c = hops c (Some (name_of c.args.way.copy.request)) (own_taken c.args.way)

pub invariant_of-self : goal.invariant_of-self
invariant_of-self c = record { some = c.self.invariant.some; vcs_limit = c.self.invariant.vcs_limit; copies = (own_hops c).holds }

pub returns-clause-hopped : goal.returns-clause-hopped
returns-clause-hopped c = λ expected takes. rw (← c.self.view_is) (steps c expected takes)

pub returns-clause-owed : goal.returns-clause-owed
returns-clause-owed c = rw (← c.self.view_is) (own_hops c).owes

pub returns-clause-requests : goal.returns-clause-requests
returns-clause-requests c = rw (← c.self.view_is) (own_hops c).comes

pub returns-clause-reserved : goal.returns-clause-reserved
returns-clause-reserved c = λ expected takes. rw (← c.self.view_is) (hops c expected takes).reserves

pub returns-clause-arrived : goal.returns-clause-arrived
returns-clause-arrived c = rw (← c.self.view_is) (own_hops c).arrives
