-- What is written and what is left make the whole.
use Rattle.std.proofs.Common.{◌≤◌, ◌++◌, length, map, codes, drop}
use denote.Text.{Utf8}
use denote.Shadow.{shadow}
use Rattle.doc_text.specs.Canonical.{value_line, list_text, numbers_text}
use Rattle.outside_io.specs.Streams.{stream}
use Rattle.outside_io.proofs.Writes.{WritesAllBut}
use Rattle.doc_text.proofs.Pieces.{joined, values_after}
use Rattle.doc_text.proofs.line.write_lists_line.Given as goal

abbrev pub invariant-loop-list : goal.invariant-loop-list
invariant-loop-list g l = record {
  utf8 : shadow (Utf8 l.before);
  short : length l.before ≤ 23;
  written : WritesAllBut (stream g.K.Sink.held g.K.Sink.faults l.initial.sink l.sink) (value_line l.fn.key (list_text (map numbers_text l.lists)))
      (values_after l.before (codes "],[") (map joined (drop l.list-index l.lists)) ++ codes "]]\n");
}
