-- Each program of the canonical table assembles to itself.
use Rattle.std.proofs.Common.{◌≡◌, ℕ, ◌+◌, List, [], ◌∷◌, Ok, refl}
use Rattle.std.specs.List.{flat_map, AllByRecursion}
use Rattle.core_isa.specs.declared.instr.Instr.{Instr}
use Rattle.core_isa.specs.Program.{IsProgram}
use Rattle.core_isa.specs.Assembly.{assembled}
use Rattle.core_isa.specs.Printing.{program_text}
use Rattle.core_isa.proofs.RoundTrip.{round_trip}
use Rattle.toml.specs.Data.{Members}
use Rattle.doc_text.specs.Doc.{Doc}
use Rattle.mesh_doc.specs.Faults.{tiles_described, bad_program, bad_programs}
use Rattle.mesh_doc.specs.Reading.{program_in}
use Rattle.canonical_form.proofs.CoreParts.{part_of_core, placed_cores}
use Rattle.canonical_form.proofs.WholeTable.{IsWhole}

assembles : (count at t : ℕ) (program : List Instr) → assembled (program_text program) ≡ Ok program → bad_program count (part_of_core at t program) ≡ []
unfolding bad_program
assembles count at t program is = rw is refl

-- the program of a table is that which it prints
pub program_in-placed : (at t : ℕ) (program : List Instr) → IsProgram program → program_in (part_of_core at t program) ≡ program
program_in-placed at t program is = rw (round_trip program is) refl

all_assemble : (count at t : ℕ) (programs : List (List Instr)) → AllByRecursion IsProgram programs → flat_map (bad_program count) (placed_cores at t programs) ≡ []
all_assemble count at t [] are = refl
all_assemble count at t ([] ∷ programs) are = all_assemble count at (t + 1) programs are.1
all_assemble count at t ((instr ∷ instrs) ∷ programs) are =
    rw (assembles count at t (instr ∷ instrs) (round_trip (instr ∷ instrs) are.0)) (all_assemble count (at + 1) (t + 1) programs are.1)

pub programs_assemble : (doc : Doc) (top : Members) → IsWhole doc top → AllByRecursion IsProgram doc.programs → bad_programs top ≡ []
programs_assemble doc top said are = rw (said.cores) (all_assemble (tiles_described top) 0 0 doc.programs are)
