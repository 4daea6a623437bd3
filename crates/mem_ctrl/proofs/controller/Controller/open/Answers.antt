use Rattle.std.proofs.Common.{arith}
use Rattle.chip_model.specs.Chip.{chip_of_mesh}
use Rattle.mem_ctrl.proofs.Opened.{opened_more, opened_whole, opened_homes}
use Rattle.mem_ctrl.proofs.controller.Controller.open.Goals as goal

pub loop-line-preserved : goal.loop-line-preserved
loop-line-preserved c =
    opened_more (chip_of_mesh c.args.mesh.now) c.args.tile c.args.memory.now c.loop-line.line
    c.loop-line.records.items c.push.new.self.items c.opening.result
    c.loop-line.invariant c.in_ok-push.ensures.items c.opening.ensures

pub returns-clause-records : goal.returns-clause-records
returns-clause-records c =
    opened_whole (chip_of_mesh c.args.mesh.now) c.args.tile c.args.memory.now c.loop-line.line c.loop-line.records.items
    c.loop-line.invariant (omega arith)

pub returns-clause-homes : goal.returns-clause-homes
returns-clause-homes c =
    opened_homes (chip_of_mesh c.args.mesh.now) c.args.tile c.args.memory.now c.loop-line.records.items
    (opened_whole (chip_of_mesh c.args.mesh.now) c.args.tile c.args.memory.now c.loop-line.line c.loop-line.records.items
    c.loop-line.invariant (omega arith))
