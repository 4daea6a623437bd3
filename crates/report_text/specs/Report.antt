-- The lines of a report.
use Rattle.std.specs.Prelude.{◌≡◌, ℕ, ◌/◌, ◌%◌, List, [], ◌∷◌, length, map, codes}
use Rattle.std.specs.Simd.{first_chunks}
use Rattle.std.specs.List.{zip, enumerate_from, flat_map}
use Rattle.mesh_gen.specs.declared.request.Request.{Request}
use Rattle.report_text.specs.declared.access.Access.{Access}
use Rattle.report_text.specs.declared.event.Event.{Event}
use Rattle.report_text.specs.declared.finish.Finish.{Finish}
use Rattle.report_text.specs.declared.report.Report.{Report}
use Rattle.report_text.specs.Events.{event_words}
use Rattle.report_text.specs.Lines.{joined_words, text_of_lines}
use Rattle.report_text.specs.Rows.{count_words, request_words, tile_words, access_words, memory_words, finish_words}

-- requests from this place of the order on
abbrev pub request_rows : ℕ → List Request → List (List ℕ)
request_rows place requests = map (λ p. joined_words (request_words p.0 p.1)) (enumerate_from place requests)

-- what the tiles from this one on have seen and done
abbrev pub tile_rows : ℕ → List ℕ → List ℕ → List (List ℕ)
tile_rows tile seen steps = map (λ p. joined_words (tile_words p.0 p.1.0 p.1.1)) (enumerate_from tile (zip seen steps))

-- the lines of accesses
abbrev pub access_rows : List Access → List (List ℕ)
access_rows accesses = map (λ a. joined_words (access_words a)) accesses

-- lines of memory from this one on
abbrev pub memory_rows : ℕ → List (List ℕ) → List (List ℕ)
memory_rows line memory = map (λ p. joined_words (memory_words p.0 p.1)) (enumerate_from line memory)

-- the line of an event
abbrev pub event_line : Event → List ℕ
event_line e = joined_words (event_words e)

-- the lines of events
abbrev pub event_rows : List Event → List (List ℕ)
event_rows events = map event_line events

-- a line with a count
abbrev pub count_row : List ℕ → ℕ → List ℕ
count_row word count = joined_words (count_words word count)

-- the order of the requests, after their count
abbrev pub request_part : List Request → List (List ℕ)
request_part requests = count_row (codes "requests") (length requests) ∷ request_rows 0 requests

-- what each tile has seen and done, after the count of tiles
abbrev pub tile_part : List ℕ → List ℕ → List (List ℕ)
tile_part seen steps = count_row (codes "seen") (length seen) ∷ tile_rows 0 seen steps

-- the accesses, after their count
abbrev pub access_part : List Access → List (List ℕ)
access_part accesses = count_row (codes "accesses") (length accesses) ∷ access_rows accesses

-- the lines of memory, of four words each
abbrev pub memory_lines : List ℕ → List (List ℕ)
memory_lines memory = first_chunks 4 (length memory / 4) memory

-- the memory, after the count of its lines
abbrev pub memory_part : List ℕ → List (List ℕ)
memory_part memory = count_row (codes "memory") (length (memory_lines memory)) ∷ memory_rows 0 (memory_lines memory)

-- how many windows and hops there were
abbrev pub count_part : ℕ → ℕ → List (List ℕ)
count_part windows hops = count_row (codes "windows") windows ∷ count_row (codes "hops") hops ∷ []

-- the journal, after the count of its events
abbrev pub journal_part : List Event → List (List ℕ)
journal_part events = count_row (codes "journal") (length events) ∷ event_rows events

-- how the run ended
abbrev pub finish_part : Finish → List (List ℕ)
finish_part finish = joined_words (finish_words finish) ∷ []

-- the lines of a report: each list after a line with the number of its lines, and in the end how the run ended
abbrev pub report_parts : Report → List (List (List ℕ))
report_parts r =
    request_part r.requests ∷ tile_part r.seen r.steps ∷ access_part r.accesses ∷ memory_part r.memory ∷ count_part r.windows r.hops
    ∷ journal_part r.journal ∷ finish_part r.ended ∷ []

-- what a report has to be: one number of steps a tile, and whole lines of memory
pub record IsTabular (r : Report) : Type 0 where
  pub tiles : length r.seen ≡ length r.steps
  pub lines : length r.memory % 4 ≡ 0

-- the lines of the parts, one part after another
abbrev pub joined : List (List (List ℕ)) → List (List ℕ)
joined parts = flat_map (λ lines. lines) parts

-- all lines of a report
abbrev pub report_lines : Report → List (List ℕ)
report_lines r = joined (report_parts r)

-- the text of a report
abbrev pub report_text : Report → List ℕ
report_text r = text_of_lines (report_lines r)
