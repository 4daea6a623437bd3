use Rattle.std.proofs.Common.{refl, ◌≡◌, ◌<◌, ◌*◌, Some, sym, ◌∙◌, ap, subst}
use Rattle.chip_model.specs.declared.pending.Pending.{Pending}
use Rattle.chip_model.specs.Node.{Node, node_after_access}
use Rattle.chip_model.specs.Ownership.{owns}
use Rattle.snoop_core.specs.declared.outcome.Outcome.{Outcome}
use Rattle.snoop_core.specs.Plans.{planned}
use Rattle.snoop_core.specs.Outcomes.{access_performed}
use Rattle.snoop_core.proofs.NodeSteps.{node_of}
use Rattle.snoop_core.proofs.Accessing.{writes, starts, starts_without, puts_back, loads_done}
use Rattle.snoop_core.proofs.Sound.{NodeIsSound-node_after_access}
use Rattle.snoop_core.proofs.OwnershipSteps.{owns-node_after_access}
use Rattle.snoop_core.proofs.node.Node.access.Goals as goal

pub invariant_of-self : goal.invariant_of-self
invariant_of-self c =
    let access : Pending = record { kind = c.args.kind; address = c.args.address; value = c.args.value } in
    let i = c.self.inside in
    let is = subst (λ (node : Node). node_after_access access node ≡ planned c.plan.result access node) (sym c.self.view_is)
    (c.plan.ensures.plan access refl (sym c.line_of-line.ensures)) in
    NodeIsSound-node_after_access access _ _ (writes access c.line_of-line.result i.snooper c.write.new.self i.tile i.controller i.out i.delivered c.plan.result c.in-HitStore.words c.written.result is c.in-HitStore.is c.line_of-line.ensures c.written.ensures c.write.ensures)
    (subst (λ (node : Node). c.args.address < 4 * node.chip.lines) (sym c.self.view_is) c.requires) c.self.invariant

pub returns-in-HitStore-clause-owners : goal.returns-in-HitStore-clause-owners
returns-in-HitStore-clause-owners c = λ line.
    let access : Pending = record { kind = c.args.kind; address = c.args.address; value = c.args.value } in
    let i = c.self.inside in
    let is = subst (λ (node : Node). node_after_access access node ≡ planned c.plan.result access node) (sym c.self.view_is)
    (c.plan.ensures.plan access refl (sym c.line_of-line.ensures)) in
    owns-node_after_access access _ _ (writes access c.line_of-line.result i.snooper c.write.new.self i.tile i.controller i.out i.delivered c.plan.result c.in-HitStore.words c.written.result is c.in-HitStore.is c.line_of-line.ensures c.written.ensures c.write.ensures)
    c.self.invariant.fits.side line
    ∙ ap (λ (node : Node). owns node.chip node.side line) c.self.view_is

pub invariant_of-self-in-Miss : goal.invariant_of-self-in-Miss
invariant_of-self-in-Miss c =
    let access : Pending = record { kind = c.args.kind; address = c.args.address; value = c.args.value } in
    let i = c.self.inside in
    let is = subst (λ (node : Node). node_after_access access node ≡ planned c.plan.result access node) (sym c.self.view_is)
    (c.plan.ensures.plan access refl (sym c.line_of-line.ensures)) in
    NodeIsSound-node_after_access access _ _ (starts access c.line_of-line.result i.snooper c.start.new.self i.tile i.controller i.out i.delivered c.plan.result is c.in-Miss.is c.line_of-line.ensures c.start.ensures)
    (subst (λ (node : Node). c.args.address < 4 * node.chip.lines) (sym c.self.view_is) c.requires) c.self.invariant

pub returns-in-Miss-clause-owners : goal.returns-in-Miss-clause-owners
returns-in-Miss-clause-owners c = λ line.
    let access : Pending = record { kind = c.args.kind; address = c.args.address; value = c.args.value } in
    let i = c.self.inside in
    let is = subst (λ (node : Node). node_after_access access node ≡ planned c.plan.result access node) (sym c.self.view_is)
    (c.plan.ensures.plan access refl (sym c.line_of-line.ensures)) in
    owns-node_after_access access _ _ (starts access c.line_of-line.result i.snooper c.start.new.self i.tile i.controller i.out i.delivered c.plan.result is c.in-Miss.is c.line_of-line.ensures c.start.ensures)
    c.self.invariant.fits.side line
    ∙ ap (λ (node : Node). owns node.chip node.side line) c.self.view_is

pub invariant_of-self-in-MissWithout : goal.invariant_of-self-in-MissWithout
invariant_of-self-in-MissWithout c =
    let access : Pending = record { kind = c.args.kind; address = c.args.address; value = c.args.value } in
    let i = c.self.inside in
    let is = subst (λ (node : Node). node_after_access access node ≡ planned c.plan.result access node) (sym c.self.view_is)
    (c.plan.ensures.plan access refl (sym c.line_of-line.ensures)) in
    NodeIsSound-node_after_access access _ _ (starts_without access c.line_of-line.result c.in-MissWithout.leaving i.snooper c.drop_line.new.self c.start-in-MissWithout.new.self i.tile i.controller i.out i.delivered c.plan.result is c.in-MissWithout.is c.line_of-line.ensures c.drop_line.ensures c.start-in-MissWithout.ensures)
    (subst (λ (node : Node). c.args.address < 4 * node.chip.lines) (sym c.self.view_is) c.requires) c.self.invariant

pub returns-in-MissWithout-clause-owners : goal.returns-in-MissWithout-clause-owners
returns-in-MissWithout-clause-owners c = λ line.
    let access : Pending = record { kind = c.args.kind; address = c.args.address; value = c.args.value } in
    let i = c.self.inside in
    let is = subst (λ (node : Node). node_after_access access node ≡ planned c.plan.result access node) (sym c.self.view_is)
    (c.plan.ensures.plan access refl (sym c.line_of-line.ensures)) in
    owns-node_after_access access _ _ (starts_without access c.line_of-line.result c.in-MissWithout.leaving i.snooper c.drop_line.new.self c.start-in-MissWithout.new.self i.tile i.controller i.out i.delivered c.plan.result is c.in-MissWithout.is c.line_of-line.ensures c.drop_line.ensures c.start-in-MissWithout.ensures)
    c.self.invariant.fits.side line
    ∙ ap (λ (node : Node). owns node.chip node.side line) c.self.view_is

pub invariant_of-self-in-PutBack : goal.invariant_of-self-in-PutBack
invariant_of-self-in-PutBack c =
    let access : Pending = record { kind = c.args.kind; address = c.args.address; value = c.args.value } in
    let i = c.self.inside in
    let is = subst (λ (node : Node). node_after_access access node ≡ planned c.plan.result access node) (sym c.self.view_is)
    (c.plan.ensures.plan access refl (sym c.line_of-line.ensures)) in
    NodeIsSound-node_after_access access _ _ (puts_back access c.in-PutBack.line i.snooper c.put_back.new.self i.tile i.controller i.out i.delivered c.plan.result c.in-PutBack.words is c.in-PutBack.is c.put_back.ensures)
    (subst (λ (node : Node). c.args.address < 4 * node.chip.lines) (sym c.self.view_is) c.requires) c.self.invariant

pub returns-in-PutBack-clause-owners : goal.returns-in-PutBack-clause-owners
returns-in-PutBack-clause-owners c = λ line.
    let access : Pending = record { kind = c.args.kind; address = c.args.address; value = c.args.value } in
    let i = c.self.inside in
    let is = subst (λ (node : Node). node_after_access access node ≡ planned c.plan.result access node) (sym c.self.view_is)
    (c.plan.ensures.plan access refl (sym c.line_of-line.ensures)) in
    owns-node_after_access access _ _ (puts_back access c.in-PutBack.line i.snooper c.put_back.new.self i.tile i.controller i.out i.delivered c.plan.result c.in-PutBack.words is c.in-PutBack.is c.put_back.ensures)
    c.self.invariant.fits.side line
    ∙ ap (λ (node : Node). owns node.chip node.side line) c.self.view_is

pub returns-in-HitStore-clause-ok : goal.returns-in-HitStore-clause-ok
returns-in-HitStore-clause-ok c =
    let access : Pending = record { kind = c.args.kind; address = c.args.address; value = c.args.value } in
    let i = c.self.inside in
    let is = subst (λ (node : Node). node_after_access access node ≡ planned c.plan.result access node) (sym c.self.view_is)
    (c.plan.ensures.plan access refl (sym c.line_of-line.ensures)) in
    ap (λ (node : Node). node_after_access access node) (sym c.self.view_is)
    ∙ writes access c.line_of-line.result i.snooper c.write.new.self i.tile i.controller i.out i.delivered c.plan.result c.in-HitStore.words c.written.result is c.in-HitStore.is c.line_of-line.ensures c.written.ensures c.write.ensures
    ∙ ap (λ (o : Outcome). Some (node_of c.write.new.self i.tile i.controller i.out i.delivered, access_performed o)) (sym c.hit-in-HitStore.ensures)

pub returns-in-HitLoad-clause-ok : goal.returns-in-HitLoad-clause-ok
returns-in-HitLoad-clause-ok c =
    let access : Pending = record { kind = c.args.kind; address = c.args.address; value = c.args.value } in
    loads_done access c.args.self.now c.plan.result c.in-HitLoad.words c.hit.result (c.plan.ensures.plan access refl (sym c.line_of-line.ensures)) c.in-HitLoad.is c.hit.ensures
