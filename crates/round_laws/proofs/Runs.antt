-- Runs after each other, and what they leave in the journal.
use Rattle.std.proofs.Common.{◌≡◌, ℕ, ◌+◌, List, [], ◌∷◌, ◌++◌, Option, Some, None, length, length-append, refl, sym, ◌∙◌, ap, subst, arith}
use Rattle.std.proofs.lemmas.List.{append-nil, append_assoc}
use Rattle.std.proofs.lemmas.Option.{same_Some}
use Rattle.mesh_gen.specs.Partial.{◌>>=◌}
use Rattle.report_text.specs.declared.event.Event.{Event}
use Rattle.doc_text.specs.Doc.{Doc}
use Rattle.chip_model.specs.Chip.{Chip, chip_of}
use Rattle.chip_model.specs.Units.{Behaviour}
use Rattle.chip_model.specs.ChipState.{ChipState, opening}
use Rattle.chip_model.specs.Runs.{after, run, IsReachable}

-- each event notes itself at the end of the journal
abbrev pub EachIsNoted : Behaviour → Chip → Type 0
EachIsNoted b chip = (s new : ChipState) (event : Event) → after b chip s event ≡ Some new → new.journal ≡ s.journal ++ event ∷ []

pub bind_run : {P : Type 0} (b : Behaviour) (chip : Chip) (s new : ChipState) (event : Event) (events : List Event) → run b chip s (event ∷ events) ≡ Some new
    → ((next : ChipState) → after b chip s event ≡ Some next → run b chip next events ≡ Some new → P) → P
unfolding run
bind_run {P} b chip s new event events is then = by (after b chip s event) refl is
  where
    by : (o : Option ChipState) → after b chip s event ≡ o → (o >>= (λ next. run b chip next events)) ≡ Some new → P
    by None here goes = cc
    by (Some next) here goes = then next here goes

pub run_one : (b : Behaviour) (chip : Chip) (s new : ChipState) (event : Event) → after b chip s event ≡ Some new → run b chip s (event ∷ []) ≡ Some new
unfolding run
run_one b chip s new event is = rw is refl

pub run_then : (b : Behaviour) (chip : Chip) (events later : List Event) (s mid new : ChipState) → run b chip s events ≡ Some mid → run b chip mid later ≡ Some new
    → run b chip s (events ++ later) ≡ Some new
unfolding run
run_then b chip [] later s mid new goes rest = ap (λ (x : ChipState). run b chip x later) (same_Some s mid goes) ∙ rest
run_then b chip (event ∷ events) later s mid new goes rest =
    bind_run b chip s mid event events goes (λ next begins on. rw begins (run_then b chip events later next mid new on rest))

-- a run notes its events
pub run_noted : (b : Behaviour) (chip : Chip) (events : List Event) (s new : ChipState) → EachIsNoted b chip → run b chip s events ≡ Some new
    → new.journal ≡ s.journal ++ events
unfolding run
run_noted b chip [] s new noted is = ap (λ (x : ChipState). x.journal) (sym (same_Some s new is)) ∙ sym (append-nil s.journal)
run_noted b chip (event ∷ events) s new noted is =
    bind_run b chip s new event events is (λ next begins on.
    run_noted b chip events next new noted on
    ∙ ap (λ (journal : List Event). journal ++ events) (noted s next event begins)
    ∙ append_assoc s.journal (event ∷ []) events)

-- a run from a state that a document's run reaches
pub run_reached : (b : Behaviour) (d : Doc) (events : List Event) (s new : ChipState) → EachIsNoted b (chip_of d) → IsReachable b d s → run b (chip_of d) s events ≡ Some new
    → IsReachable b d new
run_reached b d events s new noted reached is =
    subst (λ (journal : List Event). run b (chip_of d) (opening d) journal ≡ Some new) (sym (run_noted b (chip_of d) events s new noted is))
    (run_then b (chip_of d) s.journal events (opening d) s new reached is)

pub run_counted : (b : Behaviour) (chip : Chip) (events : List Event) (s new : ChipState) → EachIsNoted b chip → run b chip s events ≡ Some new
    → length new.journal ≡ length s.journal + length events
run_counted b chip events s new noted is = ap length (run_noted b chip events s new noted is) ∙ length-append s.journal events
