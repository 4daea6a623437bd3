use Rattle.std.proofs.Common.{set, ◌∙◌, ap}
use Rattle.order_tracker.specs.Tracker.{TrackerState}
use Rattle.net_iface.specs.Trackers.{MayTakeIn, with_window}
use Rattle.net_iface.proofs.Places.{slice_at, same_item}
use Rattle.net_iface.proofs.trackers.take_in.Goals as goal

may_take_in : (c : goal.In-Some) → MayTakeIn c.args.vector c.in-Some.tracker.now
may_take_in c = let a = c.in-Some.ensures in c.requires c.in-Some.tracker.now (slice_at c.args.trackers.now.items c.from.result c.args.t c.in-Some.tracker.now c.from.ensures a.item.3.0 a.value)

pub push-requires-clause-some : goal.push-requires-clause-some
push-requires-clause-some c = (may_take_in c).some

pub push-requires-clause-tiles : goal.push-requires-clause-tiles
push-requires-clause-tiles c = (may_take_in c).tiles

pub push-requires-clause-room : goal.push-requires-clause-room
push-requires-clause-room c = (may_take_in c).room

pub push-requires-clause-count : goal.push-requires-clause-count
push-requires-clause-count c = (may_take_in c).count

pub returns-in-Some : goal.returns-in-Some
returns-in-Some c = λ tracker there.
    let a = c.in-Some.ensures in
    let same = same_item c.args.trackers.now.items c.from.result c.args.t c.in-Some.tracker.now tracker c.from.ensures a.item.3.0 a.value there in
    ap (λ n. set c.args.trackers.now.items n c.push.new.self) c.from.ensures
    ∙ ap (λ (s : TrackerState). set c.args.trackers.now.items c.args.t s) (c.push.ensures.pushed ∙ ap (λ (s : TrackerState). with_window s c.args.vector) same)
