use Rattle.std.proofs.Common.{false, ℕ, List, ◌≡◌, [], ◌∷◌, length, map, refl, ◌∙◌, ap, arith, length-append}
use Rattle.std.specs.Prelude.{slice_index}
use Rattle.std.proofs.lemmas.List.{drop_all}
use Rattle.mesh_gen.specs.TileSet.{set_of}
use Rattle.mesh_gen.proofs.TileSets.{set_of-positive, set_of-lt}
use Rattle.order_tracker.specs.Order.{expansion, order_from}
use Rattle.order_tracker.specs.Tracker.{TrackerState, left_of}
use Rattle.order_tracker.proofs.Priorities.{length-expansion-le}
use Rattle.commands.specs.Entries.{rest_text}
use Rattle.outside_io.proofs.Writes.{WritesAllBut-nothing, WritesAllBut-more, Writes-failed, Writes-last}
use Rattle.commands.proofs.Lines.{numbers_line-rest}
use Rattle.commands.proofs.Windows.{left_is_window, step_text, tiles_of_window, some_tile}
use Rattle.commands.proofs.order.write_line.Goals as goal

pub loop-window-init : goal.loop-window-init
loop-window-init g c =
    let numbers = order_from c.args.tracker.now.tiles 0 (map set_of c.args.posts.now) in
    record {
      written = rw (numbers_line-rest numbers) (WritesAllBut-nothing (rest_text false numbers));
      grid = refl;
      tiles = refl;
      windows = c.requires.new.0;
      number = c.requires.new.1;
      room = c.requires.new.3;
      used = λ t. omega (arith, c.requires.new.2 t);
    }

pub push-requires-clause-some : goal.push-requires-clause-some
push-requires-clause-some g c =
    let tiles = tiles_of_window c.args.tracker.now.tiles c.loop-window.window-index c.args.posts.now c.window-item.result c.requires.posts c.loop-window-test.true c.window-item.is in
    rw (c.merge.ensures.merged ∙ ap set_of c.as_slice.ensures) (set_of-positive c.window-item.result tiles.some)

pub push-requires-clause-tiles : goal.push-requires-clause-tiles
push-requires-clause-tiles g c =
    let tiles = tiles_of_window c.args.tracker.now.tiles c.loop-window.window-index c.args.posts.now c.window-item.result c.requires.posts c.loop-window-test.true c.window-item.is in
    rw (c.loop-window.invariant.tiles, c.merge.ensures.merged ∙ ap set_of c.as_slice.ensures) (set_of-lt c.args.tracker.now.tiles c.window-item.result tiles.inside)

pub write_entries-requires : goal.write_entries-requires
write_entries-requires g c = λ t.
    let so_far = c.loop-window.invariant in
    let tiles = tiles_of_window c.args.tracker.now.tiles c.loop-window.window-index c.args.posts.now c.window-item.result c.requires.posts c.loop-window-test.true c.window-item.is in
    let some = some_tile c.args.tracker.now.tiles c.window-item.result tiles in
    let left = left_is_window c.loop-window.tracker c.push.new.self c.merge.result so_far.windows c.push.ensures.pushed in
    let used = ap (λ (s : TrackerState). slice_index s.used t) c.push.ensures.pushed in
    omega (arith, so_far.used t, so_far.tiles, used, ap length left, length-expansion-le c.loop-window.tracker.tiles c.loop-window.tracker.number c.merge.result (omega arith), c.requires.count, c.requires.grid.1, c.loop-window-test.true)

pub returns-in_err-begun : goal.returns-in_err-begun
returns-in_err-begun g c =
    let so_far = c.loop-window.invariant in
    let entries : left_of c.push.new.self ≡ expansion c.args.tracker.now.tiles c.loop-window.window-index (set_of c.window-item.result)
    = left_is_window c.loop-window.tracker c.push.new.self c.merge.result so_far.windows c.push.ensures.pushed ∙ rw (so_far.tiles, so_far.number, c.merge.ensures.merged ∙ ap set_of c.as_slice.ensures) refl in
    let step = step_text c.loop-window.begun c.args.tracker.now.tiles c.loop-window.window-index c.args.posts.now c.window-item.result (left_of c.push.new.self) c.loop-window-test.true c.window-item.is entries in
    Writes-failed _ c.from_residual.result c.from_residual.ensures.0 so_far.written step c.in_err-begun.ensures.written

pub loop-window-preserved : goal.loop-window-preserved
loop-window-preserved g c =
    let so_far = c.loop-window.invariant in
    let used_up = c.in_ok-begun.ensures.used_up in
    let entries : left_of c.push.new.self ≡ expansion c.args.tracker.now.tiles c.loop-window.window-index (set_of c.window-item.result)
    = left_is_window c.loop-window.tracker c.push.new.self c.merge.result so_far.windows c.push.ensures.pushed ∙ rw (so_far.tiles, so_far.number, c.merge.ensures.merged ∙ ap set_of c.as_slice.ensures) refl in
    let step = step_text c.loop-window.begun c.args.tracker.now.tiles c.loop-window.window-index c.args.posts.now c.window-item.result (left_of c.push.new.self) c.loop-window-test.true c.window-item.is entries in
    let tiles = tiles_of_window c.args.tracker.now.tiles c.loop-window.window-index c.args.posts.now c.window-item.result c.requires.posts c.loop-window-test.true c.window-item.is in
    let some = some_tile c.args.tracker.now.tiles c.window-item.result tiles in
    let few = length-expansion-le c.args.tracker.now.tiles c.loop-window.window-index (set_of c.window-item.result) some in
    let pushed = c.push.ensures.pushed in
    let one_window = ap (λ (s : TrackerState). length s.windows) pushed in
    record {
      written = rw c.in_ok-begun.ensures.begun (WritesAllBut-more so_far.written step c.in_ok-begun.ensures.written);
      grid = c.merge.ensures.grid ∙ so_far.grid;
      tiles = used_up.tiles ∙ ap (λ (s : TrackerState). s.tiles) pushed ∙ so_far.tiles;
      windows = used_up.windows;
      number = omega (arith, used_up.number, ap (λ (s : TrackerState). s.number) pushed, one_window, length-append c.loop-window.tracker.windows (c.merge.result ∷ []), ap length so_far.windows, so_far.number);
      room = omega (arith, used_up.room, ap (λ (s : TrackerState). s.room) pushed, so_far.room);
      used = λ t. omega (arith, used_up.used t, so_far.used t, ap (λ (s : TrackerState). slice_index s.used t) pushed, ap length entries, few, c.requires.grid.1);
    }

pub returns : goal.returns
returns g c =
    let none = drop_all c.loop-window.window-index c.args.posts.now (omega arith) in
    let last = ap (λ (ps : List (List ℕ)). rest_text c.loop-window.begun (order_from c.args.tracker.now.tiles c.loop-window.window-index (map set_of ps))) none in
    Writes-last c.write_piece.result c.loop-window.invariant.written last c.write_piece.ensures
