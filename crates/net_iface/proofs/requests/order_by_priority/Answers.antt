use Rattle.std.proofs.Common.{◌+◌, ◌<◌, ◌∙◌, ap, inr, arith, length, length-append}
use Rattle.std.specs.Prelude.{slice_get}
use Rattle.mesh_gen.specs.TileSet.{has_tile}
use Rattle.mesh_gen.specs.declared.request.Request.{Request}
use Rattle.circular_buffer.specs.Buffer.{Buffer}
use Rattle.order_tracker.specs.Order.{upwards}
use Rattle.net_iface.specs.Unordered.{lowest_of}
use Rattle.net_iface.proofs.Priorities.{ordered_in, ordered_le, next_ordered, LoseLowest-behind}
use Rattle.net_iface.proofs.requests.order_by_priority.Goals as goal

pub loop-t-preserved : goal.loop-t-preserved
loop-t-preserved c =
    let kept = c.loop-t.invariant in
    let turn = c.order_first.ensures in
    let lists = c.loop-t.lists.items in
    let inside : c.loop-t.t < c.args.to = c.loop-t-test.true in
    let one = ordered_le (lowest_of lists) (has_tile c.args.set) c.loop-t.t in
    let more = ap length turn.ordered in
    let count = length-append c.loop-t.ordered.items (ordered_in (lowest_of lists) (has_tile c.args.set) (upwards c.loop-t.t 1)) in
    record {
      ordered =
          next_ordered (has_tile c.args.set) lists c.order_first.new.lists.items c.loop-t.ordered.items c.order_first.new.ordered.items c.loop-t.t c.args.to inside turn.ordered
          (λ u later. ap (λ (list : Buffer Request). slice_get list.items 0) (turn.lists.outside u (inr (omega arith)))) ∙ kept.ordered;
      lists = LoseLowest-behind c.args.from c.loop-t.t (c.loop-t.t + 1) c.args.set c.args.lists.now.items lists c.order_first.new.lists.items (omega arith) (omega arith) kept.lists turn.lists;
      room = omega arith;
      capacity = turn.room ∙ kept.capacity;
    }
