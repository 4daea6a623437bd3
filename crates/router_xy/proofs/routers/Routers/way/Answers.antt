use Rattle.std.proofs.Common.{sym, ◌∙◌, ap}
use Rattle.vc_bank.specs.Channels.{normal_slots}
use Rattle.chip_model.specs.Copies.{channels_of}
use Rattle.mesh_gen.proofs.Beside.{neighbour_inside}
use Rattle.router_xy.specs.Ways.{IsWay}
use Rattle.router_xy.proofs.Steps.{seen_at, seen_entry, no_copy, not_owed, no_router, no_entry, goes_where_taken}
use Rattle.router_xy.proofs.Sound.{normal_there}
use Rattle.router_xy.proofs.routers.Routers.way.Goals as goal

pub returns-in_default-clause-none : goal.returns-in_default-clause-none
returns-in_default-clause-none c = λ expected.
    rw (← c.self.view_is) (no_copy _ _ _ _ _ _ expected (seen_at _ _ _ _ _ _ _ c.deref.ensures.value c.packet_at.ensures c.in_default.is))

pub returns-then-not-has-clause-none : goal.returns-then-not-has-clause-none
returns-then-not-has-clause-none c = λ expected.
    rw (← c.self.view_is) (not_owed _ _ _ _ _ _ expected c.in-Some.copy (seen_at _ _ _ _ _ _ _ c.deref.ensures.value c.packet_at.ensures c.in-Some.is) (sym c.has.ensures ∙ c.if-not-has.true))

pub returns-in_default-neighbour-clause-none : goal.returns-in_default-neighbour-clause-none
returns-in_default-neighbour-clause-none c = λ expected.
    rw (← c.self.view_is) (no_router _ _ _ _ _ _ expected c.in-Some.copy (seen_at _ _ _ _ _ _ _ c.deref.ensures.value c.packet_at.ensures c.in-Some.is) (sym c.has.ensures ∙ c.if-not-has.false) (sym c.neighbour.ensures ∙ c.in_default-neighbour.is))

pub free_entry-requires : goal.free_entry-requires
free_entry-requires c =
    let g = c.self.inside.wiring in
    let to = c.in-Some-neighbour.to in
    let inside = neighbour_inside g c.args.r c.args.out to c.self.invariant.some (sym c.neighbour.ensures ∙ c.in-Some-neighbour.is) in
    ap (λ net. normal_slots (channels_of net to)) c.deref-2.ensures.value ∙ normal_there g c.self.inside.vcs c.self.inside.banks.items to c.self.invariant.copies inside

pub returns-in_default-free_entry-clause-none : goal.returns-in_default-free_entry-clause-none
returns-in_default-free_entry-clause-none c = λ expected.
    rw (← c.self.view_is) (no_entry _ _ _ _ _ _ expected c.in-Some.copy c.in-Some-neighbour.to (seen_at _ _ _ _ _ _ _ c.deref.ensures.value c.packet_at.ensures c.in-Some.is) (sym c.has.ensures ∙ c.if-not-has.false) (sym c.neighbour.ensures ∙ c.in-Some-neighbour.is)
    (seen_entry _ _ _ _ _ _ _ c.deref-2.ensures.value c.opposite.ensures c.free_entry.ensures c.in_default-free_entry.is))

way_is : (c : goal.In-Some-free_entry) → IsWay c.self.inside.wiring c.self.inside.banks.items c.args.r c.args.port c.args.slot c.args.out (record { copy = c.in-Some.copy; to = c.in-Some-neighbour.to; entry = c.in-Some-free_entry.entry })
way_is c = record {
  stands = seen_at _ _ _ _ _ _ _ c.deref.ensures.value c.packet_at.ensures c.in-Some.is;
  owed = sym c.has.ensures ∙ c.if-not-has.false;
  next = sym c.neighbour.ensures ∙ c.in-Some-neighbour.is;
  entry = seen_entry _ _ _ _ _ _ _ c.deref-2.ensures.value c.opposite.ensures c.free_entry.ensures c.in-Some-free_entry.is;
}

pub returns-clause-some : goal.returns-clause-some
returns-clause-some c = rw (← c.self.view_is) (way_is c)

pub returns-clause-goes : goal.returns-clause-goes
returns-clause-goes c = λ expected. rw (← c.self.view_is) (goes_where_taken c.self.inside.wiring c.self.inside.banks.items c.args.r c.args.port c.args.slot c.args.out expected _ (way_is c))
