use Rattle.std.proofs.Common.{◌≡◌, replicate, refl, sym, ◌∙◌, ap, subst, rules, arith}
use Rattle.std.proofs.lemmas.Grind.{common_steps}
use Rattle.chip_model.specs.Chip.{chip_of_mesh}
use Rattle.chip_model.specs.OrderedNetwork.{OrderedNetwork}
use Rattle.net_iface.specs.Parts.{Parts, network_of_parts, AreKept}
use Rattle.net_iface.proofs.Opening.{opening_parts, AreKept-opening_state, opening_seen}
use Rattle.net_iface.proofs.ordered_net.OrderedNet.«open».Goals as goal

opened_parts : (c : goal.In_ok-vec-2) → record {
  chip = chip_of_mesh c.in_ok-copy.field-0;
  routers = c.in_ok-open.field-0;
  windows = c.in_ok-open-2.field-0;
  trackers = c.in_ok-new_trackers.field-0.items;
  unordered = c.in_ok-empty_lists.field-0.items;
  made = c.in_ok-vec.field-0.items;
  ordered = c.in_ok-with_capacity.field-0.items;
  delivered = c.in_ok-vec-2.field-0.items;
  room = c.args.room;
} ≡ opening_parts (chip_of_mesh c.args.mesh.now) c.args.room c.in_ok-new_trackers.field-0.items
opened_parts c =
    let made : c.in_ok-vec.field-0.items ≡ replicate c.from-tiles.result 0 = search (rules, common_steps) in
    let delivered : c.in_ok-vec-2.field-0.items ≡ replicate c.from-tiles.result 0 = search (rules, common_steps) in
    rw (c.in_ok-copy.ensures, c.in_ok-open.ensures, c.in_ok-open-2.ensures, c.in_ok-empty_lists.ensures, c.in_ok-with_capacity.ensures.items, made, delivered, c.from-tiles.ensures, c.tiles.ensures.tiles) refl

pub invariant_of-result : goal.invariant_of-result
invariant_of-result c =
    let chip = chip_of_mesh c.args.mesh.now in
    let trackers = c.in_ok-new_trackers.field-0.items in
    let window = c.args.mesh.now.window_limit in
    let kept = AreKept-opening_state chip c.args.room trackers (omega (arith, c.tiles.ensures.tiles, c.tiles.ensures.limits.low)) (c.network_laws.ensures.opened chip (omega (arith, window.low))) (omega (arith, c.tiles.ensures.tiles, c.tiles.ensures.limits.high)) c.requires c.in_ok-new_trackers.ensures in
    (subst (λ (p : Parts). AreKept p) (sym (opened_parts c)) kept, c.in_ok-with_capacity.ensures.capacity)

pub returns : goal.returns
returns c =
    let chip = chip_of_mesh c.args.mesh.now in
    ap network_of_parts (opened_parts c)
    ∙ ap (λ (net : OrderedNetwork). record { chip = chip; network = net; room = c.args.room })
    (opening_seen chip c.args.room c.in_ok-new_trackers.field-0.items (omega (arith, c.tiles.ensures.tiles, c.tiles.ensures.limits.low)))
