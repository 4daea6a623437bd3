-- What is written and what is left make the whole.
use Rattle.std.proofs.Common.{◌≤◌, length, map, codes, drop, ◌++◌}
use denote.Text.{Utf8}
use denote.Shadow.{shadow}
use Rattle.std.specs.List.{join_with_byte}
use Rattle.outside_io.specs.Streams.{stream}
use Rattle.outside_io.proofs.Writes.{WritesAllBut}
use Rattle.doc_text.proofs.Pieces.{values_after}
use Rattle.doc_text.proofs.line.write_numbers.Given as goal

abbrev pub invariant-loop-number : goal.invariant-loop-number
invariant-loop-number g l = record {
  utf8 : shadow (Utf8 l.before);
  short : length l.before ≤ 23;
  written : WritesAllBut (stream g.K.Sink.held g.K.Sink.faults l.initial.sink l.sink) (l.fn.before ++ join_with_byte 44 (map g.N.Integer.text l.numbers))
      (values_after l.before (codes ",") (map g.N.Integer.text (drop l.number-index l.numbers)));
}
