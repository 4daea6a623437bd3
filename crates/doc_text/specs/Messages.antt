-- What is said of a faulty document.
use Rattle.std.specs.Prelude.{ℕ, List, ◌++◌, codes, decimal}
use Rattle.core_isa.specs.declared.fault.AsmKind.{AsmKind}
use Rattle.core_isa.specs.declared.fault.AsmKind.TheVariants.{Word, Register, Number, Label, Count, Length}
use Rattle.doc_text.specs.declared.fault.DocFault.{DocFault}
use Rattle.doc_text.specs.declared.fault.DocFault.TheVariants.{NotToml, UnknownKey, Missing, WrongKind, Range, Controllers, CoreTwice, Asm}
use Rattle.doc_text.specs.declared.key.Level.{Level}
use Rattle.doc_text.specs.declared.key.Level.TheVariants as level
use Rattle.doc_text.specs.declared.key.Key.{Key}
use Rattle.doc_text.specs.Keys.{row_of}

-- a name after the key of its table
abbrev pub name_under : Level → List ℕ → List ℕ
name_under level.Top name = name
name_under level.Mesh name = codes "mesh." ++ name
name_under level.Core name = codes "core." ++ name

-- a key, as `mesh.window`
abbrev pub key_text : Key → List ℕ
key_text key = name_under (row_of key).level (row_of key).name

-- the number of what is wrong with a line of a program
abbrev pub kind_number : AsmKind → ℕ
kind_number Word = 1
kind_number Register = 2
kind_number Number = 3
kind_number Label = 4
kind_number Count = 5
kind_number Length = 6

-- what is said of each fault
abbrev pub fault_text : DocFault → List ℕ
fault_text NotToml = codes "not toml"
fault_text (UnknownKey place key) = codes "unknown key " ++ key
fault_text (Missing key at) = codes "missing " ++ key_text key
fault_text (WrongKind key at) = codes "wrong kind " ++ key_text key
fault_text (Range key at) = codes "out of range " ++ key_text key
fault_text Controllers = codes "controllers"
fault_text (CoreTwice tile) = codes "core twice " ++ decimal tile
fault_text (Asm tile fault) = codes "core " ++ decimal tile ++ codes " line " ++ decimal fault.line ++ codes " kind " ++ decimal (kind_number fault.kind)
