-- A run of one tile, worked out by hand: it stores 7 at address 2 and loads it again.
use Rattle.std.specs.Prelude.{◌≡◌, ℕ, List, [], ◌∷◌, ◌++◌, codes, refl}
use Rattle.std.specs.Fmt.{digits}
use Rattle.mesh_gen.specs.declared.kind.Kind.TheVariants.{GetM}
use Rattle.mesh_gen.specs.declared.port.Port.TheVariants.{L, E}
use Rattle.report_text.specs.declared.access.AccessKind.TheVariants.{Load, Store, Swap, Add}
use Rattle.report_text.specs.declared.event.Event.{Event}
use Rattle.report_text.specs.declared.event.Event.TheVariants.{Tick, Core, Inject, Post, Take, Eject, Send, Hop, DataEject}
use Rattle.report_text.specs.declared.finish.Finish.TheVariants.{Finished}
use Rattle.report_text.specs.declared.report.Report.{Report}
use Rattle.report_text.specs.Entry.{packed}
use Rattle.report_text.specs.Lines.{lines_of, text_of_lines}
use Rattle.report_text.specs.Report.{access_rows, report_text}

-- its journal
abbrev pub run_events : List Event
run_events =
    Core 0 ∷ Core 0 ∷ Inject 0 ∷ Post 0 ∷ Tick ∷ Take 0 ∷ Eject 0 ∷ Send 0 ∷ DataEject 0 L 0 ∷ Core 0 ∷ Core 0 ∷ []

-- its report
abbrev pub run_report : Report
run_report =
    record {
      requests = record { source = 0; number = 0; kind = GetM; line = 0 } ∷ [];
      seen = 1 ∷ [];
      steps = 3 ∷ [];
      accesses = record { tile = 0; number = 1; kind = Store; address = 2; value = 7; time = 1; old = 0 } ∷ record { tile = 0; number = 2; kind = Load; address = 2; value = 7; time = 1; old = 0 } ∷ [];
      memory = 0 ∷ 0 ∷ 7 ∷ 0 ∷ [];
      journal = run_events;
      windows = 1;
      hops = 0;
      ended = Finished;
    }

-- the text of its report
abbrev pub run_text : List ℕ
run_text =
    codes "requests 1\nq 0 0 0 GetM 0\nseen 1\ns 0 1 3\naccesses 2\na 0 1 st 2 7 1\na 0 2 ld 2 7 1\nmemory 1\nm 0 0 0 7 0\nwindows 1\nhops 0\n"
    ++ codes "journal 11\ne core 0\ne core 0\ne inject 0\ne post 0\ne tick\ne take 0\ne eject 0\ne send 0\ne dataeject 0 l 0\ne core 0\ne core 0\nended finished\n"

-- the text of the run
text_of_run : report_text run_report ≡ run_text
unfolding digits
text_of_run = refl

-- the lines of an add and of a swap end with the old word
text_of_exchanges : text_of_lines (access_rows (record { tile = 0; number = 1; kind = Add; address = 0; value = 13; time = 1; old = 10 } ∷ record { tile = 0; number = 2; kind = Swap; address = 0; value = 10; time = 1; old = 13 } ∷ [])) ≡ codes "a 0 1 fa 0 13 1 10\na 0 2 sw 0 10 1 13\n"
unfolding digits
text_of_exchanges = refl

-- a line more is no line where nothing stands after the last line feed, and an empty line is one
lines_of_texts : lines_of (codes "e tick\ne core 0") ≡ lines_of (codes "e tick\ne core 0\n")
lines_of_texts = refl

empty_line : lines_of (codes "\n") ≡ [] ∷ []
empty_line = refl

no_line : lines_of [] ≡ []
no_line = refl

-- packed words
hop_word : packed (record { by = 0; cores = 0; event = Hop 0 L 0 E }) ≡ 458753
hop_word = refl

turn_word : packed (record { by = 1; cores = 3; event = Eject 1 }) ≡ 202703872
turn_word = refl
