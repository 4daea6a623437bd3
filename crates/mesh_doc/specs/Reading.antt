-- What bytes describe, or what is wrong with them first.
use Rattle.std.specs.List.{range_with_len}
use Rattle.std.specs.Prelude.{◌≡◌, ℕ, ◌-◌, ◌*◌, ◌==◌, replicate, if◌then◌else◌, List, [], ◌∷◌, ◌++◌, length, map, Option, Some, None, Result, Ok, Err}
use Rattle.std.specs.Bool.{⊤}
use Rattle.std.specs.Option.{unwrap_or}
use Rattle.std.specs.Result.{result_ok}
use Rattle.core_isa.specs.declared.instr.Instr.{Instr}
use Rattle.toml.specs.Data.{Members}
use Rattle.doc_text.specs.declared.key.Key.TheVariants.{Posts, Window, Vcs, DataVcs, Sets, Ways, Memory}
use Rattle.doc_text.specs.declared.fault.DocFault.{DocFault}
use Rattle.doc_text.specs.declared.fault.DocFault.TheVariants.{NotToml}
use Rattle.doc_text.specs.Doc.{Doc}
use Rattle.mesh_doc.specs.declared.end.DocEnd.{DocEnd}
use Rattle.mesh_doc.specs.declared.end.DocEnd.TheVariants.{Fault, NoMemory}
use Rattle.mesh_doc.specs.Tables.{Part, table_of, cores_of, value}
use Rattle.mesh_doc.specs.Values.{number_of, windows, words}
use Rattle.mesh_doc.specs.Faults.{faults, mesh_table, mesh_sizes, tiles_described, controllers, core_tile, core_program}

-- the words of memory, those that are not written being 0
abbrev pub image : ℕ → List ℕ → List ℕ
image count words = words ++ replicate (count - length words) 0

-- the program of a core's table
abbrev pub program_in : Part → List Instr
program_in core = unwrap_or (result_ok (core_program core)) []

-- the program of a tile: that of its core's table, or the empty one
unfoldable pub program_of_tile : ℕ → List Part → ℕ → List Instr
program_of_tile count [] tile = []
program_of_tile count (core ∷ rest) tile = if core_tile count core == tile then program_in core else program_of_tile count rest tile

-- what a table describes that has no fault
unfoldable pub document : Members → Doc
document top =
    let mesh = mesh_table top in
    let sizes = mesh_sizes top in
    record {
      cols = sizes.cols;
      rows = sizes.rows;
      window = number_of (value Window mesh);
      vcs = number_of (value Vcs mesh);
      data_vcs = number_of (value DataVcs mesh);
      lines = sizes.lines;
      sets = number_of (value Sets mesh);
      ways = number_of (value Ways mesh);
      controllers = controllers top;
      memory = image (4 * sizes.lines) (unwrap_or (words sizes.lines (value Memory mesh)) []);
      programs = map (program_of_tile (tiles_described top) (cores_of top)) (range_with_len 0 (tiles_described top));
      posts = unwrap_or (windows (tiles_described top) (value Posts top)) [];
    }

-- the first of some
abbrev pub first : {A : Type 0} → List A → Option A
first [] = None
first (x ∷ rest) = Some x

-- the first fault, where there is one, and else the document
abbrev pub accepted : Option DocFault → Doc → Result Doc DocFault
accepted None doc = Ok doc
accepted (Some fault) doc = Err fault

-- what a table describes, or its first fault
unfoldable pub reading_of : Members → Result Doc DocFault
reading_of top = accepted (first (faults top)) (document top)

-- what a table describes, where the bytes are TOML
abbrev pub reading_if : Option Members → Result Doc DocFault
reading_if None = Err NotToml
reading_if (Some top) = reading_of top

-- what bytes describe, or their first fault
unfoldable pub reading : List ℕ → Result Doc DocFault
reading bytes = reading_if (table_of bytes)

-- the fault is what is wrong; out of memory says nothing
abbrev pub IsFaultOf : Result Doc DocFault → DocEnd → Type 0
IsFaultOf read (Fault fault) = read ≡ Err fault
IsFaultOf read NoMemory = ⊤
