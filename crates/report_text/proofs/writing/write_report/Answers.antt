-- The parts of a report, one after another.
use Rattle.std.proofs.Common.{◌≡◌, ℕ, List, ◌++◌}
use Rattle.std.proofs.lemmas.Grind.{flat_map-append}
use Rattle.outside_io.proofs.Writes.{WritesAllBut-nothing, WritesAllBut-more, Writes-failed, Writes-last}
use Rattle.report_text.specs.declared.report.Report.{Report}
use Rattle.report_text.specs.Lines.{ended, text_of_lines}
use Rattle.report_text.specs.Report.{request_part, tile_part, access_part, memory_part, count_part, journal_part, finish_part, report_text}
use Rattle.report_text.proofs.Pieces.{text_of_lines-last}
use Rattle.report_text.proofs.writing.write_report.Goals as goal

-- the lines from each part on
abbrev from_finish : Report → List (List ℕ)
from_finish r = finish_part r.ended

abbrev from_journal : Report → List (List ℕ)
from_journal r = journal_part r.journal ++ from_finish r

abbrev from_counts : Report → List (List ℕ)
from_counts r = count_part r.windows r.hops ++ from_journal r

abbrev from_memory : Report → List (List ℕ)
from_memory r = memory_part r.memory ++ from_counts r

abbrev from_accesses : Report → List (List ℕ)
from_accesses r = access_part r.accesses ++ from_memory r

abbrev from_tiles : Report → List (List ℕ)
from_tiles r = tile_part r.seen r.steps ++ from_accesses r

part_first : (part rest : List (List ℕ)) → text_of_lines (part ++ rest) ≡ text_of_lines part ++ text_of_lines rest
part_first part rest = flat_map-append ended part rest

pub returns-in_err-write_requests : goal.returns-in_err-write_requests
returns-in_err-write_requests g c =
    let r = c.args.report.now in
    let nothing = WritesAllBut-nothing (report_text r) in
    Writes-failed _ c.from_residual.result c.from_residual.ensures.0 nothing (part_first (request_part r.requests) (from_tiles r)) (rw c.as_slice.ensures at c.in_err-write_requests.ensures)

pub returns-in_err-write_tiles : goal.returns-in_err-write_tiles
returns-in_err-write_tiles g c =
    let r = c.args.report.now in
    let nothing = WritesAllBut-nothing (report_text r) in
    let requests = WritesAllBut-more nothing (part_first (request_part r.requests) (from_tiles r)) (rw c.as_slice.ensures at c.in_ok-write_requests.ensures) in
    Writes-failed _ c.from_residual-in_err-write_tiles.result c.from_residual-in_err-write_tiles.ensures.0 requests (part_first (tile_part r.seen r.steps) (from_accesses r)) (rw (c.as_slice-2.ensures, c.as_slice-3.ensures) at c.in_err-write_tiles.ensures)

pub returns-in_err-write_accesses : goal.returns-in_err-write_accesses
returns-in_err-write_accesses g c =
    let r = c.args.report.now in
    let nothing = WritesAllBut-nothing (report_text r) in
    let requests = WritesAllBut-more nothing (part_first (request_part r.requests) (from_tiles r)) (rw c.as_slice.ensures at c.in_ok-write_requests.ensures) in
    let tiles = WritesAllBut-more requests (part_first (tile_part r.seen r.steps) (from_accesses r)) (rw (c.as_slice-2.ensures, c.as_slice-3.ensures) at c.in_ok-write_tiles.ensures) in
    Writes-failed _ c.from_residual-in_err-write_accesses.result c.from_residual-in_err-write_accesses.ensures.0 tiles (part_first (access_part r.accesses) (from_memory r)) (rw c.as_slice-4.ensures at c.in_err-write_accesses.ensures)

pub returns-in_err-write_memory : goal.returns-in_err-write_memory
returns-in_err-write_memory g c =
    let r = c.args.report.now in
    let nothing = WritesAllBut-nothing (report_text r) in
    let requests = WritesAllBut-more nothing (part_first (request_part r.requests) (from_tiles r)) (rw c.as_slice.ensures at c.in_ok-write_requests.ensures) in
    let tiles = WritesAllBut-more requests (part_first (tile_part r.seen r.steps) (from_accesses r)) (rw (c.as_slice-2.ensures, c.as_slice-3.ensures) at c.in_ok-write_tiles.ensures) in
    let accesses = WritesAllBut-more tiles (part_first (access_part r.accesses) (from_memory r)) (rw c.as_slice-4.ensures at c.in_ok-write_accesses.ensures) in
    Writes-failed _ c.from_residual-in_err-write_memory.result c.from_residual-in_err-write_memory.ensures.0 accesses (part_first (memory_part r.memory) (from_counts r)) (rw c.as_slice-5.ensures at c.in_err-write_memory.ensures)

pub returns-in_err-write_counts : goal.returns-in_err-write_counts
returns-in_err-write_counts g c =
    let r = c.args.report.now in
    let nothing = WritesAllBut-nothing (report_text r) in
    let requests = WritesAllBut-more nothing (part_first (request_part r.requests) (from_tiles r)) (rw c.as_slice.ensures at c.in_ok-write_requests.ensures) in
    let tiles = WritesAllBut-more requests (part_first (tile_part r.seen r.steps) (from_accesses r)) (rw (c.as_slice-2.ensures, c.as_slice-3.ensures) at c.in_ok-write_tiles.ensures) in
    let accesses = WritesAllBut-more tiles (part_first (access_part r.accesses) (from_memory r)) (rw c.as_slice-4.ensures at c.in_ok-write_accesses.ensures) in
    let memory = WritesAllBut-more accesses (part_first (memory_part r.memory) (from_counts r)) (rw c.as_slice-5.ensures at c.in_ok-write_memory.ensures) in
    Writes-failed _ c.from_residual-in_err-write_counts.result c.from_residual-in_err-write_counts.ensures.0 memory (part_first (count_part r.windows r.hops) (from_journal r)) c.in_err-write_counts.ensures

pub returns-in_err-write_journal : goal.returns-in_err-write_journal
returns-in_err-write_journal g c =
    let r = c.args.report.now in
    let nothing = WritesAllBut-nothing (report_text r) in
    let requests = WritesAllBut-more nothing (part_first (request_part r.requests) (from_tiles r)) (rw c.as_slice.ensures at c.in_ok-write_requests.ensures) in
    let tiles = WritesAllBut-more requests (part_first (tile_part r.seen r.steps) (from_accesses r)) (rw (c.as_slice-2.ensures, c.as_slice-3.ensures) at c.in_ok-write_tiles.ensures) in
    let accesses = WritesAllBut-more tiles (part_first (access_part r.accesses) (from_memory r)) (rw c.as_slice-4.ensures at c.in_ok-write_accesses.ensures) in
    let memory = WritesAllBut-more accesses (part_first (memory_part r.memory) (from_counts r)) (rw c.as_slice-5.ensures at c.in_ok-write_memory.ensures) in
    let counts = WritesAllBut-more memory (part_first (count_part r.windows r.hops) (from_journal r)) c.in_ok-write_counts.ensures in
    Writes-failed _ c.from_residual-in_err-write_journal.result c.from_residual-in_err-write_journal.ensures.0 counts (part_first (journal_part r.journal) (from_finish r)) c.in_err-write_journal.ensures

pub returns : goal.returns
returns g c =
    let r = c.args.report.now in
    let nothing = WritesAllBut-nothing (report_text r) in
    let requests = WritesAllBut-more nothing (part_first (request_part r.requests) (from_tiles r)) (rw c.as_slice.ensures at c.in_ok-write_requests.ensures) in
    let tiles = WritesAllBut-more requests (part_first (tile_part r.seen r.steps) (from_accesses r)) (rw (c.as_slice-2.ensures, c.as_slice-3.ensures) at c.in_ok-write_tiles.ensures) in
    let accesses = WritesAllBut-more tiles (part_first (access_part r.accesses) (from_memory r)) (rw c.as_slice-4.ensures at c.in_ok-write_accesses.ensures) in
    let memory = WritesAllBut-more accesses (part_first (memory_part r.memory) (from_counts r)) (rw c.as_slice-5.ensures at c.in_ok-write_memory.ensures) in
    let counts = WritesAllBut-more memory (part_first (count_part r.windows r.hops) (from_journal r)) c.in_ok-write_counts.ensures in
    let journal = WritesAllBut-more counts (part_first (journal_part r.journal) (from_finish r)) c.in_ok-write_journal.ensures in
    Writes-last c.write.result journal (text_of_lines-last _ _ c.finish_line.ensures.text) c.write.ensures
