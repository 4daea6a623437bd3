use Rattle.std.proofs.Common.{◌≡◌, ℕ, None, List, ap, ◌∙◌, sym, refl, arith}
use Rattle.std.specs.Prelude.{slice_get, slice_index}
use Rattle.chip_model.specs.OrderedNetwork.{after_delivery}
use Rattle.net_iface.specs.Parts.{network_of, interface_of}
use Rattle.net_iface.proofs.InsideParts.{parts}
use Rattle.net_iface.proofs.Counts.{delivered_counts-network}
use Rattle.net_iface.proofs.Expected.{expects_tile, interface_at}
use Rattle.net_iface.proofs.Ejects.{is_next, may_pass, AreKept-eject, ejected}
use Rattle.net_iface.proofs.Kept.{delivered_within}
use Rattle.net_iface.proofs.Places.{count_read, risen}
use Rattle.net_iface.proofs.Steps.{on_err, after_delivery-unknown, after_delivery-absent}
use Rattle.net_iface.proofs.Moving.{delivery_moves}
use Rattle.net_iface.proofs.ordered_net.OrderedNet.eject.Goals as goal

pub returns-in_default-clause-err : goal.returns-in_default-clause-err
returns-in_default-clause-err c =
    let p = parts c.self.inside in
    let answer = rw (← c.self.view_is) at c.expected.ensures in
    rw (← c.self.view_is) (after_delivery-unknown p.chip (network_of p) c.args.t (sym answer ∙ c.in_default.is))

pub returns-in_err-q-clause-err : goal.returns-in_err-q-clause-err
returns-in_err-q-clause-err c =
    let p = parts c.self.inside in
    let kept = c.self.invariant.0 in
    let answer = rw (← c.self.view_is) at c.expected.ensures in
    let expects = sym answer ∙ c.in-Some.is in
    let inside = expects_tile p c.args.t c.in-Some.name expects in
    let refused : after_delivery c.args.self.now.chip c.args.self.now.network c.args.t ≡ None =
    rw (← c.self.view_is)
    (after_delivery-absent p.chip (network_of p) c.args.t (interface_of p.windows.windows.posts p.ordered p.unordered p.delivered c.args.t) c.in-Some.name (interface_at p c.args.t inside) expects
    c.in_err-q.ensures.err)
    in
    on_err c.from_residual.result _ refused

pub pass_over-requires : goal.pass_over-requires
pass_over-requires c =
    let p = parts c.self.inside in
    let kept = c.self.invariant.0 in
    let answer = rw (← c.self.view_is) at c.expected.ensures in
    let expects = sym answer ∙ c.in-Some.is in
    let inside = expects_tile p c.args.t c.in-Some.name expects in
    may_pass p c.args.t c.in-Some.name kept expects

pub index_mut-requires : goal.index_mut-requires
index_mut-requires c =
    let p = parts c.self.inside in
    let kept = c.self.invariant.0 in
    let answer = rw (← c.self.view_is) at c.expected.ensures in
    let expects = sym answer ∙ c.in-Some.is in
    let inside = expects_tile p c.args.t c.in-Some.name expects in
    omega (arith, c.from.ensures, c.self.inside.delivered.ok.0, inside, kept.sizes.delivered)

pub overflow_add-index_mut : goal.overflow_add-index_mut
overflow_add-index_mut c =
    let p = parts c.self.inside in
    let kept = c.self.invariant.0 in
    let answer = rw (← c.self.view_is) at c.expected.ensures in
    let expects = sym answer ∙ c.in-Some.is in
    let inside = expects_tile p c.args.t c.in-Some.name expects in
    let here : c.index_mut.result.now ≡ slice_index p.delivered c.args.t =
    count_read p.delivered c.from.result c.args.t c.args.t c.index_mut.result.now c.from.ensures refl (omega (arith, c.from.ensures, inside, kept.sizes.delivered)) c.index_mut.ensures.value
    in
    let within = delivered_within p c.args.t kept inside in
    omega (arith, here, within, kept.sizes.within, kept.sizes.small)

pub invariant_of-self-2 : goal.invariant_of-self-2
invariant_of-self-2 c =
    let p = parts c.self.inside in
    let kept = c.self.invariant.0 in
    let answer = rw (← c.self.view_is) at c.expected.ensures in
    let expects = sym answer ∙ c.in-Some.is in
    let inside = expects_tile p c.args.t c.in-Some.name expects in
    let done = c.in_ok-q.ensures in
    let counts = risen p.delivered c.from.result c.args.t c.args.t c.index_mut.result.now c.from.ensures refl (omega (arith, c.from.ensures, inside, kept.sizes.delivered)) c.index_mut.ensures.value in (
      AreKept-eject p c.serve_local.new.self c.args.t c.in_ok-q.q kept inside c.pass_over.new.trackers.items _ c.pass_over.ensures counts done.grid done.vcs
          (c.network_laws.ensures.delivered p.chip (network_of p) _ c.args.t c.in_ok-q.q kept.holds (ejected p c.serve_local.new.self c.args.t c.in_ok-q.q kept inside c.in-Some.name expects done.ok)),
      c.self.invariant.1,
    )

pub returns-clause-ok : goal.returns-clause-ok
returns-clause-ok c =
    let p = parts c.self.inside in
    let kept = c.self.invariant.0 in
    let answer = rw (← c.self.view_is) at c.expected.ensures in
    let expects = sym answer ∙ c.in-Some.is in
    let inside = expects_tile p c.args.t c.in-Some.name expects in
    let done = c.in_ok-q.ensures in
    let counts = risen p.delivered c.from.result c.args.t c.args.t c.index_mut.result.now c.from.ensures refl (omega (arith, c.from.ensures, inside, kept.sizes.delivered)) c.index_mut.ensures.value in
    rw (← c.self.view_is, counts) (ejected p c.serve_local.new.self c.args.t c.in_ok-q.q kept inside c.in-Some.name expects done.ok)

pub returns-clause-in_order : goal.returns-clause-in_order
returns-clause-in_order c =
    let p = parts c.self.inside in
    let kept = c.self.invariant.0 in
    let answer = rw (← c.self.view_is) at c.expected.ensures in
    let expects = sym answer ∙ c.in-Some.is in
    let inside = expects_tile p c.args.t c.in-Some.name expects in
    let done = c.in_ok-q.ensures in
    let next = is_next p c.args.t c.in-Some.name c.in_ok-q.q kept expects (c.step_laws.ensures.serves _ _ _ _ _ done.ok).stood done.name in
    rw (← c.self.view_is) (ap (λ (counts : List ℕ). slice_get p.ordered (slice_index counts c.args.t)) (delivered_counts-network p kept.sizes) ∙ next)

pub returns-clause-moves : goal.returns-clause-moves
returns-clause-moves c = delivery_moves c.args.self.now.chip c.args.self.now.network _ c.args.t c.in_ok-q.q (returns-clause-ok c) (rw (← c.self.view_is) c.in_ok-q.ensures.arrived)
