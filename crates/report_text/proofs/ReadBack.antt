-- The lines of a report, read again: they tell its journal, and nothing else.
use Rattle.std.proofs.Common.{◌≡◌, ◌↔◌, ℕ, ◌+◌, if◌then◌else◌, Bool, true, false, List, [], ◌∷◌, ◌++◌, length, map, All, Some, refl, sym, ap, subst, ◌∙◌, append_assoc}
use Rattle.std.specs.Prelude.{codes, decimal}
use Rattle.std.specs.List.{slice_split, AllByRecursion}
use Rattle.std.proofs.lemmas.List.{append-nil}
use Rattle.std.proofs.lemmas.List.Splits.{slice_split_at}
use Rattle.mesh_gen.specs.declared.kind.Kind.{Kind}
use Rattle.mesh_gen.specs.declared.kind.Kind.TheVariants.{GetS, GetM, PutM}
use Rattle.mesh_gen.specs.declared.request.Request.{Request}
use Rattle.report_text.specs.declared.access.Access.{Access}
use Rattle.report_text.specs.declared.access.AccessKind.{AccessKind}
use Rattle.report_text.specs.declared.access.AccessKind.TheVariants.{Load, Store, Swap, Add}
use Rattle.report_text.specs.declared.event.Event.{Event}
use Rattle.report_text.specs.declared.finish.Finish.{Finish}
use Rattle.report_text.specs.declared.finish.Finish.TheVariants.{Finished, Budget}
use Rattle.report_text.specs.declared.report.Report.{Report}
use Rattle.report_text.specs.Accesses.{is_read_modify_write}
use Rattle.report_text.specs.Events.{event_words, IsWithinLimits}
use Rattle.core_isa.specs.Lines.{is_line_feed}
use Rattle.report_text.specs.Lines.{text_of_lines, without_empty_end, lines_of, joined_words}
use Rattle.report_text.specs.Reading.{Tells, is_passed}
use Rattle.report_text.specs.Report.{request_rows, tile_rows, access_rows, memory_rows, memory_lines, event_rows, event_line, count_row, request_part, tile_part, access_part, memory_part, count_part, journal_part, finish_part, joined, report_lines, report_text}
use Rattle.report_text.specs.Rows.{count_words, request_words, tile_words, access_words, memory_words, finish_words, kind_word, access_kind_word}
use Rattle.report_text.specs.Scanning.{words_of, event_said}
use Rattle.report_text.proofs.EventLines.{plain-from_test, event_words-plain, words_of-event_line}
use Rattle.report_text.proofs.ReadLines.{Tells-nothing, Tells-both, Tells-event, Tells-passed}
use Rattle.report_text.proofs.Said.{event_said-event_words}
use Rattle.report_text.proofs.Words.{IsPlain, ArePlain, decimal-plain, joined_words-feedless}

-- ---- text and lines

abbrev IsFeedless : List ℕ → Type 0
IsFeedless line = All (λ byte. is_line_feed byte ≡ false) line

-- the parts of a text between its line feeds
parts_of-text_of_lines : (lines : List (List ℕ)) → AllByRecursion IsFeedless lines → slice_split is_line_feed (text_of_lines lines) ≡ lines ++ [] ∷ []
parts_of-text_of_lines [] all = refl
parts_of-text_of_lines (line ∷ lines) all =
    ap (slice_split is_line_feed) (append_assoc line (10 ∷ []) (text_of_lines lines))
    ∙ slice_split_at is_line_feed line 10 (text_of_lines lines) all.0 refl ∙ ap (λ (parts : List (List ℕ)). line ∷ parts) (parts_of-text_of_lines lines all.1)

without_empty_end-append : (lines : List (List ℕ)) → without_empty_end (lines ++ [] ∷ []) ≡ lines
without_empty_end-append [] = refl
without_empty_end-append (line ∷ []) = refl
without_empty_end-append (line ∷ next ∷ lines) = ap (λ (ls : List (List ℕ)). line ∷ ls) (without_empty_end-append (next ∷ lines))

lines_of-text_of_lines : (lines : List (List ℕ)) → AllByRecursion IsFeedless lines → lines_of (text_of_lines lines) ≡ lines
lines_of-text_of_lines lines all = ap without_empty_end (parts_of-text_of_lines lines all) ∙ without_empty_end-append lines

-- ---- lines that have no line feed and tell these events

record IsRead (lines : List (List ℕ)) (events : List Event) : Type 0 where
  feedless : AllByRecursion IsFeedless lines
  tells : Tells lines events

both_feedless : (xs ys : List (List ℕ)) → AllByRecursion IsFeedless xs → AllByRecursion IsFeedless ys → AllByRecursion IsFeedless (xs ++ ys)
both_feedless [] ys a b = b
both_feedless (x ∷ xs) ys a b = (a.0, both_feedless xs ys a.1 b)

IsRead-nothing : IsRead [] []
IsRead-nothing = record { feedless = tt; tells = Tells-nothing }

IsRead-both : (lines more : List (List ℕ)) (events next : List Event) → IsRead lines events → IsRead more next → IsRead (lines ++ more) (events ++ next)
IsRead-both lines more events next a b = record { feedless = both_feedless lines more a.feedless b.feedless; tells = Tells-both lines more events next a.tells b.tells }

-- a line that is passed over
row : (words : List (List ℕ)) (rest : List (List ℕ)) (events : List Event) → ArePlain words → is_passed (joined_words words) ≡ true → IsRead rest events → IsRead (joined_words words ∷ rest) events
row words rest events plain passed read =
    IsRead-both (joined_words words ∷ []) rest [] events (record { feedless = (joined_words-feedless words plain, tt); tells = Tells-passed (joined_words words) passed }) read

-- ---- the lines of each kind

count_plain : (word : List ℕ) (n : ℕ) → IsPlain word → ArePlain (count_words word n)
count_plain word n plain = (plain, (decimal-plain n, tt))

kind_word-plain : (k : Kind) → IsPlain (kind_word k)
kind_word-plain GetS = plain-from_test (kind_word GetS) refl
kind_word-plain GetM = plain-from_test (kind_word GetM) refl
kind_word-plain PutM = plain-from_test (kind_word PutM) refl

access_kind_word-plain : (k : AccessKind) → IsPlain (access_kind_word k)
access_kind_word-plain Load = plain-from_test (access_kind_word Load) refl
access_kind_word-plain Store = plain-from_test (access_kind_word Store) refl
access_kind_word-plain Swap = plain-from_test (access_kind_word Swap) refl
access_kind_word-plain Add = plain-from_test (access_kind_word Add) refl

old_words-plain : (old : ℕ) (shown : Bool) → ArePlain (if shown then decimal old ∷ [] else [])
old_words-plain old true = (decimal-plain old, tt)
old_words-plain old false = tt

request_rows-read : (place : ℕ) (requests : List Request) → IsRead (request_rows place requests) []
request_rows-read place [] = IsRead-nothing
request_rows-read place (q ∷ requests) =
    row (request_words place q) (request_rows (place + 1) requests) []
    (plain-from_test (codes "q") refl, (decimal-plain place, (decimal-plain q.source, (decimal-plain q.number, (kind_word-plain q.kind, (decimal-plain q.line, tt)))))) refl (request_rows-read (place + 1) requests)

tile_rows-read : (tile : ℕ) (seen steps : List ℕ) → IsRead (tile_rows tile seen steps) []
tile_rows-read tile [] steps = IsRead-nothing
tile_rows-read tile (n ∷ seen) [] = IsRead-nothing
tile_rows-read tile (n ∷ seen) (m ∷ steps) =
    row (tile_words tile n m) (tile_rows (tile + 1) seen steps) [] (plain-from_test (codes "s") refl, (decimal-plain tile, (decimal-plain n, (decimal-plain m, tt)))) refl (tile_rows-read (tile + 1) seen steps)

access_rows-read : (accesses : List Access) → IsRead (access_rows accesses) []
access_rows-read [] = IsRead-nothing
access_rows-read (a ∷ accesses) =
    row (access_words a) (access_rows accesses) []
    (plain-from_test (codes "a") refl, (decimal-plain a.tile, (decimal-plain a.number, (access_kind_word-plain a.kind, (decimal-plain a.address, (decimal-plain a.value, (decimal-plain a.time, old_words-plain a.old (is_read_modify_write a.kind)))))))) refl (access_rows-read accesses)

decimals-plain : (words : List ℕ) → ArePlain (map decimal words)
decimals-plain [] = tt
decimals-plain (word ∷ words) = (decimal-plain word, decimals-plain words)

memory_rows-read : (line : ℕ) (lines : List (List ℕ)) → IsRead (memory_rows line lines) []
memory_rows-read line [] = IsRead-nothing
memory_rows-read line (words ∷ lines) =
    row (memory_words line words) (memory_rows (line + 1) lines) [] (plain-from_test (codes "m") refl, (decimal-plain line, decimals-plain words)) refl (memory_rows-read (line + 1) lines)

event_rows-read : (events : List Event) → AllByRecursion IsWithinLimits events → IsRead (event_rows events) events
event_rows-read [] within = IsRead-nothing
event_rows-read (e ∷ events) within =
    IsRead-both (event_line e ∷ []) (event_rows events) (e ∷ []) events
    (record { feedless = (joined_words-feedless (event_words e) (event_words-plain e), tt); tells = Tells-event (event_line e) e within.0 refl }) (event_rows-read events within.1)

finish-read : (finish : Finish) → IsRead (finish_part finish) []
finish-read Finished = row (finish_words Finished) [] [] (plain-from_test (codes "ended") refl, (plain-from_test (codes "finished") refl, tt)) refl IsRead-nothing
finish-read Budget = row (finish_words Budget) [] [] (plain-from_test (codes "ended") refl, (plain-from_test (codes "budget") refl, tt)) refl IsRead-nothing

-- a list after its count
part-read : (word : List ℕ) (n : ℕ) (rows : List (List ℕ)) (events : List Event) → IsPlain word → is_passed (count_row word n) ≡ true → IsRead rows events → IsRead (count_row word n ∷ rows) events
part-read word n rows events plain passed read = row (count_words word n) rows events (count_plain word n plain) passed read

-- ---- the whole

counts-read : (windows hops : ℕ) → IsRead (count_part windows hops) []
counts-read windows hops =
    part-read (codes "windows") windows (count_row (codes "hops") hops ∷ []) [] (plain-from_test (codes "windows") refl) refl
    (part-read (codes "hops") hops [] [] (plain-from_test (codes "hops") refl) refl IsRead-nothing)

journal-read : (events : List Event) → AllByRecursion IsWithinLimits events → IsRead (journal_part events) events
journal-read events within = part-read (codes "journal") (length events) (event_rows events) events (plain-from_test (codes "journal") refl) refl (event_rows-read events within)

-- some parts that tell no event, before others
before : (part rest : List (List ℕ)) (events : List Event) → IsRead part [] → IsRead rest events → IsRead (part ++ rest) events
before part rest events a b = IsRead-both part rest [] events a b

end-read : (events : List Event) (finish : Finish) → AllByRecursion IsWithinLimits events → IsRead (joined (journal_part events ∷ finish_part finish ∷ [])) events
end-read events finish within =
    subst (IsRead (joined (journal_part events ∷ finish_part finish ∷ []))) (append-nil events)
    (IsRead-both (journal_part events) (finish_part finish ++ []) events [] (journal-read events within) (before (finish_part finish) [] [] (finish-read finish) IsRead-nothing))

report_lines-read : (r : Report) → AllByRecursion IsWithinLimits r.journal → IsRead (report_lines r) r.journal
report_lines-read r within =
    let end = journal_part r.journal ∷ finish_part r.ended ∷ [] in
    let counts = count_part r.windows r.hops ∷ end in
    let memory = memory_part r.memory ∷ counts in
    let accesses = access_part r.accesses ∷ memory in
    let tiles = tile_part r.seen r.steps ∷ accesses in
    before (request_part r.requests) (joined tiles) r.journal (part-read (codes "requests") (length r.requests) (request_rows 0 r.requests) [] (plain-from_test (codes "requests") refl) refl (request_rows-read 0 r.requests)) (
    before (tile_part r.seen r.steps) (joined accesses) r.journal (part-read (codes "seen") (length r.seen) (tile_rows 0 r.seen r.steps) [] (plain-from_test (codes "seen") refl) refl (tile_rows-read 0 r.seen r.steps)) (
    before (access_part r.accesses) (joined memory) r.journal (part-read (codes "accesses") (length r.accesses) (access_rows r.accesses) [] (plain-from_test (codes "accesses") refl) refl (access_rows-read r.accesses)) (
    before (memory_part r.memory) (joined counts) r.journal (part-read (codes "memory") (length (memory_lines r.memory)) (memory_rows 0 (memory_lines r.memory)) [] (plain-from_test (codes "memory") refl) refl (memory_rows-read 0 (memory_lines r.memory))) (
    before (count_part r.windows r.hops) (joined end) r.journal (counts-read r.windows r.hops) (end-read r.journal r.ended within)))))

-- the text of a report tells its journal
pub report_text-tells : (r : Report) → AllByRecursion IsWithinLimits r.journal → Tells (lines_of (report_text r)) r.journal
report_text-tells r within = let read = report_lines-read r within in subst (λ lines. Tells lines r.journal) (sym (lines_of-text_of_lines (report_lines r) read.feedless)) read.tells

-- ---- lines tell one list of events

some_inverse : (a b : Event) → Some a ≡ Some b → a ≡ b
some_inverse a b e = cc

event_line-inverse : (a b : Event) → IsWithinLimits a → IsWithinLimits b → event_line a ≡ event_line b → a ≡ b
event_line-inverse a b wa wb e =
    let words : event_words a ≡ event_words b = sym (words_of-event_line a) ∙ ap words_of e ∙ words_of-event_line b in
    some_inverse a b (sym (event_said-event_words a wa) ∙ ap event_said words ∙ event_said-event_words b wb)

heads_equal : (a b : List ℕ) (more rest : List (List ℕ)) → a ∷ more ≡ b ∷ rest → a ≡ b
heads_equal a b more rest e = cc

tails_equal : (a b : List ℕ) (more rest : List (List ℕ)) → a ∷ more ≡ b ∷ rest → more ≡ rest
tails_equal a b more rest e = cc

lines_inverse : (xs ys : List Event) → AllByRecursion IsWithinLimits xs → AllByRecursion IsWithinLimits ys → map event_line xs ≡ map event_line ys → xs ≡ ys
lines_inverse [] [] wx wy e = refl
lines_inverse [] (y ∷ ys) wx wy e = absurd cc
lines_inverse (x ∷ xs) [] wx wy e = absurd cc
lines_inverse (x ∷ xs) (y ∷ ys) wx wy e =
    ap (λ (z : Event). z ∷ xs) (event_line-inverse x y wx.0 wy.0 (heads_equal _ _ _ _ e)) ∙ ap (λ (zs : List Event). y ∷ zs) (lines_inverse xs ys wx.1 wy.1 (tails_equal _ _ _ _ e))

pub Tells-same : (lines : List (List ℕ)) (a b : List Event) → Tells lines a → Tells lines b → a ≡ b
Tells-same lines a b ta tb = lines_inverse a b ta.within tb.within (sym ta.told ∙ tb.told)

-- the journal, and nothing else
pub journal_is_told : (r : Report) → AllByRecursion IsWithinLimits r.journal → (events : List Event) → Tells (lines_of (report_text r)) events ↔ (events ≡ r.journal)
journal_is_told r within events =
    let own = report_text-tells r within in
    (λ told. Tells-same _ events r.journal told own, λ same. subst (λ es. Tells (lines_of (report_text r)) es) (sym same) own)
