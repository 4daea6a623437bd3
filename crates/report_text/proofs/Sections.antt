-- The lines of a list from one item on begin with that item's.
use Rattle.std.proofs.Common.{◌≡◌, ℕ, ◌+◌, ◌<◌, List, [], ◌∷◌, length, get_or, drop, codes, refl, ap, ◌∙◌, arith}
use Rattle.std.proofs.lemmas.List.{drop_more}
use Rattle.mesh_gen.specs.declared.kind.Kind.TheVariants.{GetS}
use Rattle.mesh_gen.specs.declared.request.Request.{Request}
use Rattle.report_text.specs.declared.access.Access.{Access}
use Rattle.report_text.specs.declared.access.AccessKind.TheVariants.{Load}
use Rattle.report_text.specs.declared.event.Event.{Event}
use Rattle.report_text.specs.declared.event.Event.TheVariants.{Tick}
use Rattle.report_text.specs.Lines.{joined_words}
use Rattle.report_text.specs.Report.{request_rows, tile_rows, access_rows, memory_lines, memory_part, memory_rows, event_rows, event_line, count_row}
use Rattle.report_text.specs.Rows.{request_words, tile_words, access_words, memory_words}

-- what a loop reads at a place
abbrev pub request_at : List Request → ℕ → Request
request_at requests place = get_or requests place (record { source = 0; number = 0; kind = GetS; line = 0 })

abbrev pub access_at : List Access → ℕ → Access
access_at accesses place = get_or accesses place (record { tile = 0; number = 0; kind = Load; address = 0; value = 0; time = 0; old = 0 })

pub request_rows-drop : (requests : List Request) (place : ℕ) → place < length requests → request_rows place (drop place requests) ≡ joined_words (request_words place (request_at requests place)) ∷ request_rows (place + 1) (drop (place + 1) requests)
request_rows-drop requests place lt = ap (request_rows place) (drop_more requests place (record { source = 0; number = 0; kind = GetS; line = 0 }) lt)

pub tile_rows-drop : (seen steps : List ℕ) (tile : ℕ) → length seen ≡ length steps → tile < length seen → tile_rows tile (drop tile seen) (drop tile steps)
    ≡ joined_words (tile_words tile (get_or seen tile 0) (get_or steps tile 0)) ∷ tile_rows (tile + 1) (drop (tile + 1) seen) (drop (tile + 1) steps)
tile_rows-drop seen steps tile same lt =
    ap (λ (xs : List ℕ). tile_rows tile xs (drop tile steps)) (drop_more seen tile 0 lt) ∙ ap (λ (xs : List ℕ). tile_rows tile (get_or seen tile 0 ∷ drop (tile + 1) seen) xs) (drop_more steps tile 0 (omega arith))

pub access_rows-drop : (accesses : List Access) (i : ℕ) → i < length accesses → access_rows (drop i accesses) ≡ joined_words (access_words (access_at accesses i)) ∷ access_rows (drop (i + 1) accesses)
access_rows-drop accesses i lt = ap access_rows (drop_more accesses i (record { tile = 0; number = 0; kind = Load; address = 0; value = 0; time = 0; old = 0 }) lt)

pub event_rows-drop : (events : List Event) (i : ℕ) → i < length events → event_rows (drop i events) ≡ event_line (get_or events i Tick) ∷ event_rows (drop (i + 1) events)
event_rows-drop events i lt = ap event_rows (drop_more events i Tick lt)

abbrev pub line_at : List (List ℕ) → ℕ → List ℕ
line_at lines i = get_or lines i []

pub memory_rows-drop : (lines : List (List ℕ)) (line : ℕ) → line < length lines → memory_rows line (drop line lines) ≡ joined_words (memory_words line (line_at lines line)) ∷ memory_rows (line + 1) (drop (line + 1) lines)
memory_rows-drop lines line lt = ap (memory_rows line) (drop_more lines line [] lt)

-- the memory's lines as the code cuts them
pub memory_part-chunks : (memory : List ℕ) (chunks : List (List ℕ)) → chunks ≡ memory_lines memory → memory_part memory ≡ count_row (codes "memory") (length chunks) ∷ memory_rows 0 chunks
memory_part-chunks memory chunks e = rw e refl
