-- What the code's values stand for.
use Rattle.std.specs.Prelude.{◌≡◌, ℕ, List, [], map, Some, Result, Ok, Err}
use Rattle.std.specs.Bool.{⊤}
use Rattle.core_isa.specs.declared.instr.Instr.{Instr}
use Rattle.toml.specs.Data.{Members}
use Rattle.toml.specs.View.{table_view}
use Rattle.doc_text.specs.declared.key.Key.TheVariants.{Cols, Rows, Window, Vcs, DataVcs, Lines, Sets, Ways}
use Rattle.doc_text.specs.declared.fault.DocFault.{DocFault}
use Rattle.mesh_doc.specs.declared.end.DocEnd.{DocEnd}
use Rattle.mesh_doc.specs.declared.end.DocEnd.TheVariants.{Fault, NoMemory}
use Rattle.mesh_doc.specs.declared.part.Part.{Part as PartRef}
use Rattle.mesh_doc.specs.declared.sizes.Sizes.{Sizes}
use Rattle.mesh_doc.specs.declared.sizes.Extent.{Extent}
use Rattle.core_isa.specs.declared.fault.AsmFault.{AsmFault}
use Rattle.mesh_doc.specs.Faults.{no_program}
use Rattle.mesh_doc.specs.Tables.{Part, value}
use Rattle.mesh_doc.specs.Values.{number_of}
use Rattle.mesh_doc.specs.Reading.{first}

-- a table in its place
abbrev pub part_seen : PartRef → Part
part_seen part = record { place = part.place; table = table_view part.table.now }

-- tables in their places
abbrev pub parts_seen : List PartRef → List Part
parts_seen parts = map part_seen parts

-- a search for faults found none, or the first
abbrev pub Finds : {A : Type 0} → List DocFault → Result A DocFault → Type 0
Finds faults (Ok answer) = faults ≡ []
Finds faults (Err fault) = first faults ≡ Some fault

-- the same of a search that takes memory, where want of it says nothing
abbrev pub IsFirst : List DocFault → DocEnd → Type 0
IsFirst faults (Fault fault) = first faults ≡ Some fault
IsFirst faults NoMemory = ⊤

-- a search that takes memory found none, or the first, or out of memory
abbrev pub Ends : {A : Type 0} → List DocFault → Result A DocEnd → Type 0
Ends faults (Ok answer) = faults ≡ []
Ends faults (Err end) = IsFirst faults end

-- the program of a core was refused at its tile
abbrev pub IsRefused : ℕ → Result (List Instr) AsmFault → DocEnd → Type 0
IsRefused tile read (Fault fault) = first (no_program tile read) ≡ Some fault
IsRefused tile read NoMemory = ⊤

-- the size is that which the table of the mesh says
pub record IsExtentOf (mesh : Members) (extent : Extent) : Type 0 where
  pub cols : number_of (value Cols mesh) ≡ extent.cols
  pub rows : number_of (value Rows mesh) ≡ extent.rows

-- the sizes are those that the table of the mesh says
pub record AreSizesOf (mesh : Members) (sizes : Sizes) : Type 0 where
  pub window : number_of (value Window mesh) ≡ sizes.window
  pub vcs : number_of (value Vcs mesh) ≡ sizes.vcs
  pub data_vcs : number_of (value DataVcs mesh) ≡ sizes.data_vcs
  pub lines : number_of (value Lines mesh) ≡ sizes.lines
  pub sets : number_of (value Sets mesh) ≡ sizes.sets
  pub ways : number_of (value Ways mesh) ≡ sizes.ways
