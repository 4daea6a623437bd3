use Rattle.std.proofs.Common.{◌*◌, subst}
use Rattle.std.proofs.Math.Logic.{∥∥₁_elim}
use Rattle.std.specs.List.{AllByRecursion}
use Rattle.core_isa.specs.Program.{IsProgram}
use Rattle.mesh_gen.specs.Limits.{IsFrom}
use Rattle.mesh_gen.proofs.Controllers.{AreTiles-prop}
use Rattle.canonical_form.proofs.read_back.document_is_canonical.Goals as goal

pub returns : goal.returns
returns c =
    let document = c.args.document.now in
    let mesh = document.mesh in
    let tiles = mesh.cols * mesh.rows in
    record {
      keeps = record {
        cols = mesh.cols_limit;
        rows = mesh.rows_limit;
        window = mesh.window_limit;
        vcs = mesh.vcs_limit;
        data_vcs = mesh.data_vcs_limit;
        lines = mesh.lines_limit;
        sets = mesh.sets_limit;
        ways = mesh.ways_limit;
        controllers = ∥∥₁_elim mesh.controllers_limit (AreTiles-prop tiles mesh.controllers) (λ are. are);
        memory = document.memory_limit;
        words = subst (AllByRecursion (IsFrom 0 4294967295)) c.as_slice.ensures c.are_words.ensures;
        programs = document.programs_limit;
        posts = record { few = c.windows-windows.ensures.few; each = c.windows-windows.ensures.each };
      };
      programs = subst (AllByRecursion IsProgram) c.as_slice-2.ensures c.are_programs.ensures;
    }
