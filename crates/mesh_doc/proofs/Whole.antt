-- From the faults of a table to what it describes, and from bytes to their table.
use Rattle.std.proofs.Common.{◌≡◌, [], ◌++◌, Option, Some, None, Result, Ok, Err, IfOk, IfErr, refl}
use Rattle.toml.specs.Data.{Members}
use Rattle.doc_text.specs.declared.document.Document.{Document}
use Rattle.doc_text.specs.declared.fault.DocFault.TheVariants.{NotToml}
use Rattle.doc_text.specs.Doc.{doc_of}
use Rattle.mesh_doc.specs.declared.end.DocEnd.{DocEnd}
use Rattle.mesh_doc.specs.declared.end.DocEnd.TheVariants.{Fault, NoMemory}
use Rattle.mesh_doc.specs.Faults.{table_faults, value_faults}
use Rattle.mesh_doc.specs.Reading.{document, reading_of, reading_if, IsFaultOf}
use Rattle.mesh_doc.specs.Seen.{IsFirst, Ends}
use Rattle.mesh_doc.proofs.Firsts.{end_front, end_rest}

first_told : (top : Members) (end : DocEnd) → IsFirst (table_faults top ++ value_faults top) end → IsFaultOf (reading_of top) end
unfolding reading_of
first_told top (Fault fault) is = rw is refl
first_told top NoMemory is = is

pub told : (top : Members) (end : DocEnd) → IsFirst (table_faults top) end → IsFaultOf (reading_of top) end
told top end is = first_told top end (end_front (table_faults top) (value_faults top) end is)

pub told_rest : (top : Members) (read : Result Document DocEnd) → table_faults top ≡ [] → Ends (value_faults top) read → IfErr read (IsFaultOf (reading_of top))
told_rest top (Ok document) none is = tt
told_rest top (Err end) none is = first_told top end (end_rest (table_faults top) (value_faults top) end none is)

pub accepted_ok : (top : Members) (read : Result Document DocEnd) → table_faults top ≡ [] → Ends (value_faults top) read → IfOk read (λ d. document top ≡ doc_of d)
    → IfOk read (λ d. reading_of top ≡ Ok (doc_of d))
unfolding reading_of
accepted_ok top (Ok d) none is same = rw (none, is, same) refl
accepted_ok top (Err end) none is same = tt

-- ---- by the table that the bytes write

pub same_table : (written : Option Members) (top : Members) → Some top ≡ written → reading_if written ≡ reading_of top
same_table None top is = cc
same_table (Some other) top is = cc

pub no_table : (written : Option Members) → None ≡ written → reading_if written ≡ Err NotToml
no_table None is = refl
no_table (Some other) is = cc
