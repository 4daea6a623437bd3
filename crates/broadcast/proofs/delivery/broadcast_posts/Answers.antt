use Rattle.std.proofs.Common.{◌≡◌, ◌<◌, ◌≤◌, ◌*◌, List, ℕ, length, map, [], sym, ◌∙◌, ap, subst, refl, arith}
use Rattle.std.proofs.lemmas.List.{get_or_default, take_all}
use Rattle.mesh_gen.specs.TileSet.{set_of}
use Rattle.chip_model.specs.Chip.{chip_of_mesh, tile_count}
use Rattle.doc_text.specs.Doc.{doc_of}
use Rattle.chip_model.specs.OrderedNetwork.{opening_network}
use Rattle.chip_model.specs.Delivery.{window_events, rising, Delivers}
use Rattle.order_tracker.specs.Order.{expansion}
use Rattle.net_iface.specs.OrderedNet.{opening_state}
use Rattle.broadcast.specs.Broadcasts.{WindowPasses}
use Rattle.broadcast.specs.Delivered.{HasBroadcast}
use Rattle.broadcast.proofs.Delivering.{none_yet, one_more_window}
use Rattle.broadcast.proofs.delivery.broadcast_posts.Goals as goal

pub loop-window-init : goal.loop-window-init
loop-window-init c =
    let chip = chip_of_mesh c.args.document.now.mesh in
    let posts = c.args.document.now.posts in
    let room : length c.windows-windows.result.now * c.from.result ≡ length posts * tile_count chip = rw (c.windows-windows.ensures.windows, c.from.ensures, c.tiles-tiles.ensures.tiles) refl in
    subst (λ s. HasBroadcast chip posts (length posts * tile_count chip) 0 s) (sym (c.in_ok-net.ensures ∙ ap (opening_state chip) room)) (none_yet chip posts (length posts * tile_count chip))

pub loop-window-preserved : goal.loop-window-preserved
loop-window-preserved c =
    let chip = chip_of_mesh c.args.document.now.mesh in
    let posts = c.args.document.now.posts in
    let inside : c.loop-window.window-index < length posts = rw c.windows-windows.ensures.windows at c.loop-window-test.true in
    let tiles_is = get_or_default posts c.loop-window.window-index [] c.window-item.result inside ∙ sym (rw c.windows-windows.ensures.windows at c.window-item.is) in
    let set = c.posts_of-set.ensures ∙ ap set_of c.as_slice.ensures in
    let passed = subst (λ set. WindowPasses (window_events c.loop-window.net.chip (expansion (tile_count c.loop-window.net.chip) 0 set)) c.loop-window.net c.pass_window.new.net) set c.pass_window.ensures in
    one_more_window chip posts (length posts * tile_count chip) c.loop-window.window-index c.window-item.result c.loop-window.net c.pass_window.new.net c.settle.new.net inside tiles_is c.loop-window.invariant passed c.settle.ensures

pub returns-clause-whole : goal.returns-clause-whole
returns-clause-whole c =
    let d = doc_of c.args.document.now in
    let chip = chip_of_mesh c.args.document.now.mesh in
    let posts = c.args.document.now.posts in
    let count = c.loop-window.window-index in
    let past : length c.windows-windows.result.now ≤ count = omega (arith, c.loop-window-test.false) in
    let all : length posts ≤ count = rw c.windows-windows.ensures.windows at past in
    let delivers : Delivers chip (map (rising chip) posts) (opening_network chip) c.loop-window.net.network =
    subst (λ (windows : List (List ℕ)). Delivers chip (map (rising chip) windows) (opening_network chip) c.loop-window.net.network) (take_all count posts all) c.loop-window.invariant.delivers in
    c.broadcast_laws.ensures.whole d c.loop-window.net.network (record {
      tiles = c.tiles-tiles.ensures.some;
      channels = c.args.document.now.mesh.vcs_limit.low;
      ticks = omega (arith, c.args.document.now.mesh.window_limit.low);
      posts = c.windows-windows.ensures.each;
    }) delivers
