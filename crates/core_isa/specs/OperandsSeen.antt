-- What the code reads from all operands of an instruction.
use Rattle.std.specs.Prelude.{ℕ, List, Result}
use Rattle.core_isa.specs.declared.fault.AsmKind.{AsmKind}
use Rattle.core_isa.specs.declared.operands.Operands as code
use Rattle.core_isa.specs.Opcodes.{Shape}
use Rattle.core_isa.specs.LineSeen.{texts_seen}
use Rattle.core_isa.specs.LabelsSeen.{scope_seen}
use Rattle.core_isa.specs.Reading.{Reads}

-- the bytes of the operands' words
abbrev pub words_seen : code.Operands → List (List ℕ)
words_seen operands = texts_seen operands.words.now

-- the operands are of these shapes, with these values, or they have a fault
abbrev pub ReadsAll : {X : Type 0} → (X → List ℕ) → List Shape → code.Operands → Result X AsmKind → Type 0
ReadsAll values shapes operands r = Reads values (scope_seen operands.whole.now) shapes (words_seen operands) r
