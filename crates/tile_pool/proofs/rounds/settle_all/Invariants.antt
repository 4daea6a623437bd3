use Rattle.std.proofs.Common.{List}
use Rattle.report_text.specs.declared.entry.Entry.{Entry}
use Rattle.chip_model.specs.ChipState.{ChipState}
use Rattle.tile_pool.specs.Seating.{AreSettledTo}
use Rattle.tile_pool.proofs.rounds.settle_all.Given as goal

-- the stations before this one are settled
abbrev pub invariant-loop-t : goal.invariant-loop-t
invariant-loop-t g l = (turns : List Entry) (last : ChipState) → AreSettledTo g.U.Unit.behaviour g.M.Start.start turns last 0 l.fn.fabric l.fn.stations
    → AreSettledTo g.U.Unit.behaviour g.M.Start.start turns last l.t l.fabric l.stations
