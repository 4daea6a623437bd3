-- The programs of cores.
use Rattle.std.proofs.Common.{◌≡◌, ℕ, ◌<◌, List, [], length, get_or, map, Ok, refl, arith}
use Rattle.std.proofs.lemmas.List.{get_or-map, length-map}
use Rattle.core_isa.specs.declared.instr.Instr.{Instr}
use Rattle.mesh_doc.specs.declared.part.Part.{Part as PartRef}
use Rattle.mesh_doc.specs.declared.end.DocEnd.{DocEnd}
use Rattle.mesh_doc.specs.declared.end.DocEnd.TheVariants.{Fault, NoMemory}
use Rattle.mesh_doc.specs.Tables.{Part}
use Rattle.mesh_doc.specs.Faults.{core_program, core_tile, bad_program}
use Rattle.mesh_doc.specs.Reading.{program_in}
use Rattle.mesh_doc.specs.Seen.{part_seen, parts_seen, IsFirst, IsRefused}

pub no_bad_program : (count : ℕ) (core : Part) (program : List Instr) → core_program core ≡ Ok program → bad_program count core ≡ []
unfolding bad_program
no_bad_program count core program is = rw is refl

pub program_in-is : (core : Part) (program : List Instr) → core_program core ≡ Ok program → program_in core ≡ program
program_in-is core program is = rw is refl

pub refused : (count tile : ℕ) (core : Part) (end : DocEnd) → tile ≡ core_tile count core → IsRefused tile (core_program core) end → IsFirst (bad_program count core) end
unfolding bad_program
refused count tile core (Fault fault) same is = rw (← same) is
refused count tile core NoMemory same is = is

-- the tile of the core at an index
pub tile_at : (count i : ℕ) (cores : List PartRef) (core : PartRef) (tiles : List ℕ) → i < length cores → core ≡ get_or cores i core → tiles ≡ map (core_tile count) (parts_seen cores)
    → get_or tiles i 0 ≡ core_tile count (part_seen core)
tile_at count i cores core tiles within at is =
    let inside : i < length (parts_seen cores) = omega (arith, within, length-map cores part_seen) in
    rw (is, get_or-map (core_tile count) (parts_seen cores) i (part_seen core) 0 inside, get_or-map part_seen cores i core (part_seen core) within, ← at) refl
