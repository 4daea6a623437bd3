use Rattle.std.proofs.Common.{◌≡◌, ◌<◌, ◌≤◌, length, Some, None, ap, ◌∙◌, sym, arith}
use Rattle.std.specs.Prelude.{slice_index}
use Rattle.mesh_gen.specs.Grid.{tiles}
use Rattle.mesh_gen.specs.declared.request.Request.{Request}
use Rattle.chip_model.specs.Chip.{tile_count}
use Rattle.chip_model.specs.Copies.{after_entry}
use Rattle.chip_model.specs.CopiesOwed.{channel_count}
use Rattle.chip_model.specs.OrderedNetwork.{after_inject}
use Rattle.net_iface.specs.Unordered.{unordered_of}
use Rattle.net_iface.specs.Parts.{network_of, interface_of}
use Rattle.net_iface.proofs.InsideParts.{parts}
use Rattle.net_iface.proofs.Expected.{interface_at}
use Rattle.net_iface.proofs.Injects.{next_is, next_source, next_number, no_next, absent, has_room, made_below, next_made, injected, AreKept-inject, inject_seen}
use Rattle.net_iface.proofs.LawsOfParts.{room_for_names}
use Rattle.net_iface.proofs.Places.{count_read, risen}
use Rattle.net_iface.proofs.Steps.{on_err, after_inject-some, after_inject-full, after_inject-none}
use Rattle.net_iface.proofs.ordered_net.OrderedNet.inject.Goals as goal

pub returns-in_default-clause-err : goal.returns-in_default-clause-err
returns-in_default-clause-err c =
    let p = parts c.self.inside in
    let answer = rw (← c.self.view_is) at c.next_request.ensures in
    rw (← c.self.view_is) (after_inject-none p.chip (network_of p) c.args.t c.args.kind c.args.line (no_next p c.args.t c.args.kind c.args.line (sym answer ∙ c.in_default.is)))

pub inject-requires-clause-source : goal.inject-requires-clause-source
inject-requires-clause-source c =
    let p = parts c.self.inside in
    let kept = c.self.invariant.0 in
    let answer = rw (← c.self.view_is) at c.next_request.ensures in
    let one = next_is p c.args.t c.args.kind c.args.line c.in-Some.q (sym answer ∙ c.in-Some.is) in
    let source = next_source p c.args.t c.args.kind c.args.line c.in-Some.q one in
    let number = next_number p c.args.t c.args.kind c.args.line c.in-Some.q one in
    omega (arith, one.inside, source, ap tiles kept.sizes.grid)

pub inject-requires-clause-absent : goal.inject-requires-clause-absent
inject-requires-clause-absent c =
    let p = parts c.self.inside in
    let kept = c.self.invariant.0 in
    let answer = rw (← c.self.view_is) at c.next_request.ensures in
    let one = next_is p c.args.t c.args.kind c.args.line c.in-Some.q (sym answer ∙ c.in-Some.is) in
    let source = next_source p c.args.t c.args.kind c.args.line c.in-Some.q one in
    let number = next_number p c.args.t c.args.kind c.args.line c.in-Some.q one in
    absent p c.in-Some.q kept number

pub returns-in_err-inject-clause-err : goal.returns-in_err-inject-clause-err
returns-in_err-inject-clause-err c =
    let p = parts c.self.inside in
    let kept = c.self.invariant.0 in
    let answer = rw (← c.self.view_is) at c.next_request.ensures in
    let one = next_is p c.args.t c.args.kind c.args.line c.in-Some.q (sym answer ∙ c.in-Some.is) in
    let source = next_source p c.args.t c.args.kind c.args.line c.in-Some.q one in
    let number = next_number p c.args.t c.args.kind c.args.line c.in-Some.q one in
    let full = rw kept.sizes.grid at c.in_err-inject.ensures.err in
    let full_here = ap (λ (q : Request). after_entry p.chip.grid p.routers.copies q) one.is ∙ full in
    let refused : after_inject c.args.self.now.chip c.args.self.now.network c.args.t c.args.kind c.args.line ≡ None =
    rw (← c.self.view_is) (after_inject-full p.chip (network_of p) c.args.t c.args.kind c.args.line (interface_of p.windows.windows.posts p.ordered p.unordered p.delivered c.args.t) (interface_at p c.args.t one.inside) full_here)
    in
    on_err c.from_residual.result _ refused

pub index_mut-requires : goal.index_mut-requires
index_mut-requires c =
    let p = parts c.self.inside in
    let kept = c.self.invariant.0 in
    let answer = rw (← c.self.view_is) at c.next_request.ensures in
    let one = next_is p c.args.t c.args.kind c.args.line c.in-Some.q (sym answer ∙ c.in-Some.is) in
    let source = next_source p c.args.t c.args.kind c.args.line c.in-Some.q one in
    let number = next_number p c.args.t c.args.kind c.args.line c.in-Some.q one in
    omega (arith, c.from.ensures, c.self.inside.made.ok.0, one.inside, kept.sizes.made)

pub overflow_add-index_mut : goal.overflow_add-index_mut
overflow_add-index_mut c =
    let p = parts c.self.inside in
    let kept = c.self.invariant.0 in
    let answer = rw (← c.self.view_is) at c.next_request.ensures in
    let one = next_is p c.args.t c.args.kind c.args.line c.in-Some.q (sym answer ∙ c.in-Some.is) in
    let source = next_source p c.args.t c.args.kind c.args.line c.in-Some.q one in
    let number = next_number p c.args.t c.args.kind c.args.line c.in-Some.q one in
    let inside : c.in-Some.q.source < tile_count p.chip = omega (arith, one.inside, source) in
    let done = c.in_ok-inject.ensures in
    let enters = rw kept.sizes.grid at done.ok in
    let holds = c.network_laws.ensures.made p.chip (network_of p) _ c.args.t c.args.kind c.args.line kept.holds (injected p c.inject.new.self c.args.t c.args.kind c.args.line c.in-Some.q kept inside number one enters) in
    let law = room_for_names p c.inject.new.self c.in-Some.q.source c.owed_laws.ensures.room (done.grid ∙ kept.sizes.grid) (done.vcs ∙ kept.sizes.vcs) c.tiles.ensures.channels in
    let room = has_room p c.inject.new.self c.in-Some.q kept inside number holds law in
    let few : length (unordered_of p.unordered c.in-Some.q.source) ≤ channel_count p.chip = omega (arith, room, kept.capacities c.in-Some.q.source inside) in
    let below = made_below p c.in-Some.q.source kept inside c.self.inside.mesh.vcs_limit.high few in
    let here : c.index_mut.result.now ≡ slice_index p.made c.in-Some.q.source =
    count_read p.made c.from.result c.args.t c.in-Some.q.source c.index_mut.result.now c.from.ensures source (omega (arith, c.from.ensures, one.inside, kept.sizes.made)) c.index_mut.ensures.value
    in
    let counted = kept.counts c.in-Some.q.source inside in
    omega (arith, here, below, counted)

pub add-requires : goal.add-requires
add-requires c =
    let p = parts c.self.inside in
    let kept = c.self.invariant.0 in
    let answer = rw (← c.self.view_is) at c.next_request.ensures in
    let one = next_is p c.args.t c.args.kind c.args.line c.in-Some.q (sym answer ∙ c.in-Some.is) in
    let source = next_source p c.args.t c.args.kind c.args.line c.in-Some.q one in
    let number = next_number p c.args.t c.args.kind c.args.line c.in-Some.q one in
    let inside : c.in-Some.q.source < tile_count p.chip = omega (arith, one.inside, source) in
    let done = c.in_ok-inject.ensures in
    let enters = rw kept.sizes.grid at done.ok in
    let holds = c.network_laws.ensures.made p.chip (network_of p) _ c.args.t c.args.kind c.args.line kept.holds (injected p c.inject.new.self c.args.t c.args.kind c.args.line c.in-Some.q kept inside number one enters) in
    let law = room_for_names p c.inject.new.self c.in-Some.q.source c.owed_laws.ensures.room (done.grid ∙ kept.sizes.grid) (done.vcs ∙ kept.sizes.vcs) c.tiles.ensures.channels in
    let room = has_room p c.inject.new.self c.in-Some.q kept inside number holds law in
    room

pub invariant_of-self-2 : goal.invariant_of-self-2
invariant_of-self-2 c =
    let p = parts c.self.inside in
    let kept = c.self.invariant.0 in
    let answer = rw (← c.self.view_is) at c.next_request.ensures in
    let one = next_is p c.args.t c.args.kind c.args.line c.in-Some.q (sym answer ∙ c.in-Some.is) in
    let source = next_source p c.args.t c.args.kind c.args.line c.in-Some.q one in
    let number = next_number p c.args.t c.args.kind c.args.line c.in-Some.q one in
    let inside : c.in-Some.q.source < tile_count p.chip = omega (arith, one.inside, source) in
    let done = c.in_ok-inject.ensures in
    let enters = rw kept.sizes.grid at done.ok in
    let holds = c.network_laws.ensures.made p.chip (network_of p) _ c.args.t c.args.kind c.args.line kept.holds (injected p c.inject.new.self c.args.t c.args.kind c.args.line c.in-Some.q kept inside number one enters) in
    let counts = risen p.made c.from.result c.args.t c.in-Some.q.source c.index_mut.result.now c.from.ensures source (omega (arith, c.from.ensures, one.inside, kept.sizes.made)) c.index_mut.ensures.value in
    (AreKept-inject p c.inject.new.self c.in-Some.q kept inside number c.add.new.lists.items _ c.add.ensures counts done.grid done.vcs holds, c.self.invariant.1)

pub returns-clause-ok : goal.returns-clause-ok
returns-clause-ok c =
    let p = parts c.self.inside in
    let kept = c.self.invariant.0 in
    let answer = rw (← c.self.view_is) at c.next_request.ensures in
    let one = next_is p c.args.t c.args.kind c.args.line c.in-Some.q (sym answer ∙ c.in-Some.is) in
    let source = next_source p c.args.t c.args.kind c.args.line c.in-Some.q one in
    let number = next_number p c.args.t c.args.kind c.args.line c.in-Some.q one in
    let inside : c.in-Some.q.source < tile_count p.chip = omega (arith, one.inside, source) in
    let done = c.in_ok-inject.ensures in
    let entered_here = rw kept.sizes.grid at done.ok in
    let step =
    after_inject-some p.chip (network_of p) c.args.t c.args.kind c.args.line (interface_of p.windows.windows.posts p.ordered p.unordered p.delivered c.args.t) c.inject.new.self.copies (interface_at p c.args.t one.inside)
    (ap (λ (q : Request). after_entry p.chip.grid p.routers.copies q) one.is ∙ entered_here)
    in
    rw (← c.self.view_is)
    (step
    ∙ ap Some (next_made p c.inject.new.self.copies c.args.t c.args.kind c.args.line c.in-Some.q one ∙ inject_seen p c.inject.new.self c.in-Some.q kept inside number c.add.new.lists.items p.made c.add.ensures))
