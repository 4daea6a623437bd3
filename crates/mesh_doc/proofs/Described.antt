-- What was said is what the table describes.
use Rattle.std.specs.List.{range_with_len}
use Rattle.std.proofs.Common.{◌≡◌, List, [], ◌∷◌, ◌++◌, map, Some, Result, Ok, Err, IfOk, IfErr, refl}
use Rattle.core_isa.specs.declared.instr.Instr.{Instr}
use Rattle.toml.specs.Data.{Members}
use Rattle.doc_text.specs.declared.document.Document.{Document}
use Rattle.doc_text.specs.declared.fault.DocFault.{DocFault}
use Rattle.doc_text.specs.Doc.{doc_of}
use Rattle.mesh_doc.specs.declared.end.DocEnd.{DocEnd}
use Rattle.mesh_doc.specs.declared.end.DocEnd.TheVariants.{NoMemory}
use Rattle.mesh_doc.specs.declared.said.Said.{Said}
use Rattle.mesh_doc.specs.Tables.{cores_of}
use Rattle.mesh_doc.specs.Faults.{tiles_described, out_of_range, controllers, core_tiles, controllers_twice, cores_twice, bad_programs, value_faults}
use Rattle.mesh_doc.specs.Reading.{first, document, program_of_tile}
use Rattle.mesh_doc.specs.Seen.{IsFirst, Ends}
use Rattle.mesh_doc.specs.Said.{Says, count_of, IsDocumentOf}
use Rattle.mesh_doc.proofs.Firsts.{first_front, first_rest, end_front, end_rest, both_empty}
use Rattle.mesh_doc.proofs.Ranges.{count_is}

pub count_said : (top : Members) (said : Said) → Says top said → tiles_described top ≡ count_of said
count_said top said says = count_is top said.extent says.extent

pub controllers_said : (top : Members) (said : Said) → Says top said → controllers top ≡ said.controllers.items
controllers_said top said says = rw (count_said top said says, says.controllers) refl

pub nothing_mapped : {A B : Type 0} (f : A → B) (list : List A) → map f list ≡ [] → list ≡ []
nothing_mapped f [] is = refl
nothing_mapped f (x ∷ rest) is = cc

-- ---- the first fault of what values say

pub in_ranges : (top : Members) (end : DocEnd) → IsFirst (out_of_range top) end → IsFirst (value_faults top) end
unfolding value_faults
in_ranges top end is =
    end_front ((out_of_range top ++ controllers_twice (controllers top)) ++ cores_twice (core_tiles top)) (bad_programs top) end
    (end_front (out_of_range top ++ controllers_twice (controllers top)) (cores_twice (core_tiles top)) end
    (end_front (out_of_range top) (controllers_twice (controllers top)) end is))

pub in_controllers : (top : Members) (said : Said) (f : DocFault) → Says top said → out_of_range top ≡ [] → first (controllers_twice said.controllers.items) ≡ Some f → first (value_faults top) ≡ Some f
unfolding value_faults
in_controllers top said f says ranges is =
    let list = controllers_twice (controllers top) in
    first_front ((out_of_range top ++ list) ++ cores_twice (core_tiles top)) (bad_programs top) f
    (first_front (out_of_range top ++ list) (cores_twice (core_tiles top)) f
    (first_rest (out_of_range top) list f ranges (rw (controllers_said top said says) is)))

clear_front : (top : Members) (said : Said) → Says top said → out_of_range top ≡ [] → controllers_twice said.controllers.items ≡ [] → out_of_range top ++ controllers_twice (controllers top) ≡ []
clear_front top said says ranges none = both_empty (out_of_range top) (controllers_twice (controllers top)) ranges (rw (controllers_said top said says) none)

pub in_core_tiles : (top : Members) (said : Said) (f : DocFault) → Says top said → out_of_range top ≡ [] → controllers_twice said.controllers.items ≡ []
    → first (cores_twice said.core_tiles.items) ≡ Some f → first (value_faults top) ≡ Some f
unfolding value_faults
in_core_tiles top said f says ranges none is =
    first_front ((out_of_range top ++ controllers_twice (controllers top)) ++ cores_twice (core_tiles top)) (bad_programs top) f
    (first_rest (out_of_range top ++ controllers_twice (controllers top)) (cores_twice (core_tiles top)) f (clear_front top said says ranges none) (rw says.core_tiles is))

clear_tiles : (top : Members) (said : Said) → Says top said → out_of_range top ≡ [] → controllers_twice said.controllers.items ≡ [] → cores_twice said.core_tiles.items ≡ []
    → (out_of_range top ++ controllers_twice (controllers top)) ++ cores_twice (core_tiles top) ≡ []
clear_tiles top said says ranges none single =
    both_empty (out_of_range top ++ controllers_twice (controllers top)) (cores_twice (core_tiles top)) (clear_front top said says ranges none) (rw says.core_tiles single)

pub in_programs : (top : Members) (said : Said) (end : DocEnd) → Says top said → out_of_range top ≡ [] → controllers_twice said.controllers.items ≡ [] → cores_twice said.core_tiles.items ≡ []
    → IsFirst (bad_programs top) end → IsFirst (value_faults top) end
unfolding value_faults
in_programs top said end says ranges none single is = end_rest _ (bad_programs top) end (clear_tiles top said says ranges none single) is

pub no_fault : (top : Members) (said : Said) → Says top said → out_of_range top ≡ [] → controllers_twice said.controllers.items ≡ [] → cores_twice said.core_tiles.items ≡ [] → bad_programs top ≡ []
    → value_faults top ≡ []
unfolding value_faults
no_fault top said says ranges none single right = both_empty _ (bad_programs top) (clear_tiles top said says ranges none single) right

pub ended : (faults : List DocFault) (read : Result Document DocEnd) → faults ≡ [] → IfErr read (λ end. end ≡ NoMemory) → Ends faults read
ended faults (Ok d) none memory = none
ended faults (Err end) none memory = rw memory tt

-- ---- what the table describes

described : (top : Members) (said : Said) (placed : List (List Instr)) (d : Document) → Says top said → placed ≡ map (program_of_tile (tiles_described top) (cores_of top)) (range_with_len 0 (tiles_described top)) → IsDocumentOf said placed d
    → document top ≡ doc_of d
unfolding document
described top said placed d says all is =
    rw (
      is.cols,
      is.rows,
      is.window,
      is.vcs,
      is.data_vcs,
      is.lines,
      is.sets,
      is.ways,
      is.controllers,
      is.memory,
      is.programs,
      is.posts,
      all,
      controllers_said top said says,
      says.sizes.window,
      says.sizes.vcs,
      says.sizes.data_vcs,
      says.sizes.lines,
      says.sizes.sets,
      says.sizes.ways,
      says.words,
      says.extent.cols,
      says.extent.rows,
      says.posts,
    ) refl

pub read_is : (top : Members) (said : Said) (placed : List (List Instr)) (read : Result Document DocEnd) → Says top said → placed ≡ map (program_of_tile (tiles_described top) (cores_of top)) (range_with_len 0 (tiles_described top))
    → IfOk read (IsDocumentOf said placed) → IfOk read (λ d. document top ≡ doc_of d)
read_is top said placed (Ok d) says all is = described top said placed d says all is
read_is top said placed (Err end) says all is = tt
