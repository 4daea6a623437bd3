-- Turns that come after each other, and the run that they are.
use Rattle.std.proofs.Common.{◌≡◌, ℕ, ◌+◌, List, [], ◌∷◌, ◌++◌, Option, Some, None, refl, sym, ◌∙◌, ap, subst}
use Rattle.std.specs.Prelude.{replicate}
use Rattle.std.specs.List.{flat_map}
use Rattle.std.proofs.lemmas.List.Concat.{flat_map-cons}
use Rattle.report_text.specs.declared.entry.Entry.{Entry}
use Rattle.report_text.specs.declared.event.Event.{Event}
use Rattle.report_text.specs.declared.event.Event.TheVariants.{Core}
use Rattle.report_text.specs.Journals.{recorded}
use Rattle.chip_model.specs.Chip.{Chip}
use Rattle.chip_model.specs.Units.{Behaviour}
use Rattle.chip_model.specs.ChipState.{ChipState}
use Rattle.chip_model.specs.Runs.{run}
use Rattle.round_laws.specs.Turns.{IsTurn, TurnsLead, alone_events, cores_of}
use Rattle.round_laws.proofs.Runs.{run_one, run_then}

-- one turn more
pub turns_more : (b : Behaviour) (chip : Chip) (turn : ℕ) (start s : ChipState) (turns : List Entry) (mid : ChipState) (entry : Entry) (new : ChipState)
    → TurnsLead b chip turn start s turns mid → IsTurn b chip turn start mid entry new → TurnsLead b chip turn start s (turns ++ entry ∷ []) new
turns_more b chip turn start s [] mid entry new same is = (new, subst (λ (x : ChipState). IsTurn b chip turn start x entry new) (sym same) is, refl)
turns_more b chip turn start s (first ∷ turns) mid entry new lead is =
    (lead.0, lead.1, turns_more b chip turn start lead.0 turns mid entry new lead.2 is)

-- the state after some of the turns
pub turns_split : (b : Behaviour) (chip : Chip) (turn : ℕ) (start s : ChipState) (earlier later : List Entry) (new : ChipState)
    → TurnsLead b chip turn start s (earlier ++ later) new
    → (mid : ChipState) × TurnsLead b chip turn start s earlier mid × TurnsLead b chip turn start mid later new
turns_split b chip turn start s [] later new lead = (s, refl, lead)
turns_split b chip turn start s (first ∷ earlier) later new lead =
    let rest = turns_split b chip turn start lead.0 earlier later new lead.2 in
    (rest.0, (lead.0, lead.1, rest.1), rest.2)

-- a turn is the run of the events that its entry records
pub turn_run : (b : Behaviour) (chip : Chip) (turn : ℕ) (start s : ChipState) (entry : Entry) (new : ChipState) → IsTurn b chip turn start s entry new
    → run b chip s (recorded entry) ≡ Some new
turn_run b chip turn start s entry new is =
    ap (λ (n : ℕ). run b chip s (replicate n (Core entry.by) ++ entry.event ∷ [])) is.cores
    ∙ run_then b chip (alone_events b start entry.by) (entry.event ∷ []) s is.ready new is.alone (run_one b chip is.ready new entry.event is.done)

-- so turns are the run of the events that all their entries record
pub turns_run : (b : Behaviour) (chip : Chip) (turn : ℕ) (start s : ChipState) (turns : List Entry) (new : ChipState) → TurnsLead b chip turn start s turns new
    → run b chip s (flat_map recorded turns) ≡ Some new
unfolding run
turns_run b chip turn start s [] new same = ap Some same
turns_run b chip turn start s (entry ∷ turns) new lead =
    run_then b chip (recorded entry) (flat_map recorded turns) s lead.0 new (turn_run b chip turn start s entry lead.0 lead.1)
    (turns_run b chip turn start lead.0 turns new lead.2)
