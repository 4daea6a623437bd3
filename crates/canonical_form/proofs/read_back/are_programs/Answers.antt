use Rattle.std.proofs.Common.{◌≤◌, length, subst, arith}
use Rattle.std.specs.List.{All}
use Rattle.std.proofs.lemmas.List.{take_all}
use Rattle.std.proofs.lemmas.List.Elements.{All-more, recursion_from_All}
use Rattle.core_isa.specs.Program.{IsProgram}
use Rattle.canonical_form.proofs.read_back.are_programs.Goals as goal

pub loop-program-preserved : goal.loop-program-preserved
loop-program-preserved c =
    let programs = c.args.programs.now in
    let i = c.loop-program.program-index in
    All-more IsProgram programs i c.program-item.result (omega arith) c.loop-program.invariant (subst IsProgram c.program-item.is c.instrs-instrs.ensures.within)

pub returns : goal.returns
returns c =
    let programs = c.args.programs.now in
    let i = c.loop-program.program-index in
    let past : length programs ≤ i = omega arith in
    recursion_from_All IsProgram programs (subst (All IsProgram) (take_all i programs past) c.loop-program.invariant)
