use Rattle.std.proofs.Common.{append_assoc}
use Rattle.doc_text.proofs.fault.DocFaultDisplay.fmt.Goals as goal

pub returns-in-NotToml-clause-writes : goal.returns-in-NotToml-clause-writes
returns-in-NotToml-clause-writes g c = rw c.in-NotToml.is c.write_str.ensures.writes

pub returns-in-UnknownKey-clause-writes : goal.returns-in-UnknownKey-clause-writes
returns-in-UnknownKey-clause-writes g c = rw (c.in-UnknownKey.is, ← c.as_str.ensures) c.write.ensures.writes

pub returns-in-Missing-clause-writes : goal.returns-in-Missing-clause-writes
returns-in-Missing-clause-writes g c = rw c.in-Missing.is c.write-in-Missing.ensures.writes

pub returns-in-WrongKind-clause-writes : goal.returns-in-WrongKind-clause-writes
returns-in-WrongKind-clause-writes g c = rw c.in-WrongKind.is c.write-in-WrongKind.ensures.writes

pub returns-in-Range-clause-writes : goal.returns-in-Range-clause-writes
returns-in-Range-clause-writes g c = rw c.in-Range.is c.write-in-Range.ensures.writes

pub returns-in-Controllers-clause-writes : goal.returns-in-Controllers-clause-writes
returns-in-Controllers-clause-writes g c = rw c.in-Controllers.is c.write_str-in-Controllers.ensures.writes

pub returns-in-CoreTwice-clause-writes : goal.returns-in-CoreTwice-clause-writes
returns-in-CoreTwice-clause-writes g c = rw c.in-CoreTwice.is c.write-in-CoreTwice.ensures.writes

pub returns-in-Asm-clause-writes : goal.returns-in-Asm-clause-writes
returns-in-Asm-clause-writes g c = rw (c.in-Asm.is, append_assoc, append_assoc, append_assoc, ← c.number_of.ensures) c.write-in-Asm.ensures.writes
