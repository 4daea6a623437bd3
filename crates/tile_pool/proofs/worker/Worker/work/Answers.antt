use Rattle.std.proofs.Common.{◌∙◌, arith}
use Rattle.tile_pool.proofs.Waiting.{ends_refused, starts_waiting}
use Rattle.tile_pool.proofs.worker.Worker.work.Goals as goal

pub loop-init : goal.loop-init
loop-init g c = record {
  tile = c.run_alone.ensures.tile;
  had = c.requires.starts.had_is;
  waits = starts_waiting g.U.Unit.behaviour g.M.Start.start c.args.turns.now.table c.args.self.now.station c.run_alone.new.station c.args.self.now.seat
      c.args.self.now.had c.requires.starts c.run_alone.ensures;
  refused = λ some. absurd (omega (arith, some));
}

pub try_turn-requires-clause-waits : goal.try_turn-requires-clause-waits
try_turn-requires-clause-waits g c κs within = c.loop.invariant.waits

pub try_turn-requires-clause-had : goal.try_turn-requires-clause-had
try_turn-requires-clause-had g c κs within = c.loop.invariant.had

pub returns-then-try_turn-clause-tile : goal.returns-then-try_turn-clause-tile
returns-then-try_turn-clause-tile g c = c.try_turn.ensures.tile ∙ c.loop.invariant.tile

pub loop-preserved : goal.loop-preserved
loop-preserved g c = record {
  tile = c.try_turn.ensures.tile ∙ c.loop.invariant.tile;
  had = c.try_turn.ensures.not_had c.if-try_turn.false;
  waits = c.try_turn.ensures.waits c.if-try_turn.false;
  refused = λ some. c.try_turn.ensures.refused c.if-try_turn.false;
}

pub returns-clause-through : goal.returns-clause-through
returns-clause-through g c =
    ends_refused g.U.Unit.behaviour g.M.Start.start c.args.turns.now.table c.loop.self.station c.loop.self.seat c.loop.self.had c.loop.invariant.had
    c.loop.invariant.waits (c.loop.invariant.refused (omega (arith, c.loop-test.false)))

pub returns-clause-tile : goal.returns-clause-tile
returns-clause-tile g c = c.loop.invariant.tile
