-- Why a command stops, from why its parts did.
use Rattle.outside_io.specs.declared.reading.ReadEnd.{ReadEnd}
use Rattle.outside_io.specs.declared.reading.ReadEnd.TheVariants.{ReadFault as ReadFailed, TooLong as PastLimit, NoMemory as NoneToRead}
use Rattle.mesh_doc.specs.declared.end.DocEnd.{DocEnd}
use Rattle.mesh_doc.specs.declared.end.DocEnd.TheVariants.{Fault, NoMemory as NoneToParse}
use Rattle.commands.specs.declared.stop.Stop.{Stop}
use Rattle.commands.specs.declared.stop.Stop.TheVariants.{Document, ReadFault, NoMemory, TooLong}

-- the same cause, where the input was not read to its end
abbrev pub read_stop : ReadEnd → Stop
read_stop ReadFailed = ReadFault
read_stop PastLimit = TooLong
read_stop NoneToRead = NoMemory

-- the same cause, where the input is no document
abbrev pub doc_stop : DocEnd → Stop
doc_stop (Fault fault) = Document fault
doc_stop NoneToParse = NoMemory
