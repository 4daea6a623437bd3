use Rattle.std.proofs.Common.{◌∙◌, get_or}
use Rattle.std.proofs.lemmas.Result.{err_from_is_err_and}
use Rattle.mesh_doc.specs.Faults.{bad_program}
use Rattle.mesh_doc.specs.Reading.{program_in}
use Rattle.mesh_doc.specs.Seen.{part_seen}
use Rattle.mesh_doc.proofs.Firsts.{seen_ends, seen_clear, seen_more}
use Rattle.mesh_doc.proofs.Assembled.{no_bad_program, program_in-is, refused, tile_at}
use Rattle.mesh_doc.proofs.programs.assemble_cores.Goals as goal

pub returns-in_err-assemble_core-clause-faults : goal.returns-in_err-assemble_core-clause-faults
returns-in_err-assemble_core-clause-faults c =
    let core = c.index-cores-i.result in
    let end = c.in_err-assemble_core.field-0.0 in
    let same = err_from_is_err_and c.from_residual.result c.from_residual.ensures.1 in
    let tile = tile_at c.args.count c.loop-i.i c.args.cores.now core c.args.tiles.now c.loop-i-test.true c.index-cores-i.is c.requires in
    rw (same.1, same.2, c.loop-i.invariant.faults)
    (seen_ends (bad_program c.args.count) part_seen c.args.cores.now c.loop-i.i core end c.loop-i-test.true c.index-cores-i.is (refused c.args.count (get_or c.args.tiles.now c.loop-i.i 0) (part_seen core) end tile c.in_err-assemble_core.ensures.fault))

pub loop-i-preserved : goal.loop-i-preserved
loop-i-preserved c =
    let core = c.index-cores-i.result in
    let program = c.in_ok-assemble_core.field-0 in
    record {
      faults = c.loop-i.invariant.faults ∙ seen_clear (bad_program c.args.count) part_seen c.args.cores.now c.loop-i.i core c.loop-i-test.true c.index-cores-i.is (no_bad_program c.args.count (part_seen core) program c.in_ok-assemble_core.ensures.program);
      programs = c.in_ok-push.ensures.items ∙ seen_more program_in part_seen c.args.cores.now c.loop-i.i core program c.loop-i.programs.items c.loop-i-test.true c.index-cores-i.is (program_in-is (part_seen core) program c.in_ok-assemble_core.ensures.program) c.loop-i.invariant.programs;
    }
