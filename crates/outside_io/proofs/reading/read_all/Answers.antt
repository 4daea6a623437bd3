use Rattle.std.proofs.Common.{◌++◌, take}
use Rattle.outside_io.proofs.Pieces.{taken_then}
use Rattle.outside_io.proofs.reading.read_all.Goals as goal

pub returns-in_err-extend_from_slice-clause-front : goal.returns-in_err-extend_from_slice-clause-front
returns-in_err-extend_from_slice-clause-front g c =
    record { taken = c.loop-chunk.bytes.items ++ take c.in-Ok.count c.read.new.into; front = taken_then _ _ _ c.loop-chunk.bytes.items _ c.loop-chunk.invariant.0 c.in-Ok.ensures.next }
