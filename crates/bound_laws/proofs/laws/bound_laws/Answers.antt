-- Each clause from the laws below: what holds of reachable states, and that they are never stuck.
use Rattle.std.proofs.Common.{◌≡◌, ◌+◌, ◌≤◌, Some, List, length, arith}
use Rattle.report_text.specs.declared.event.Event.{Event}
use Rattle.doc_text.specs.Doc.{Doc}
use Rattle.chip_model.specs.Chip.{chip_of}
use Rattle.chip_model.specs.Units.{Behaviour, in_order}
use Rattle.chip_model.specs.ChipState.{ChipState, opening}
use Rattle.chip_model.specs.Runs.{run}
use Rattle.chip_model.specs.Schedules.{bound, IsForward}
use Rattle.chip_model.specs.BehaviourLaws.{KeepsLaws}
use Rattle.chip_laws.specs.DocFits.{DocFits}
use Rattle.bound_laws.specs.Measure.{measure}
use Rattle.bound_laws.proofs.OpeningMeasure.{opening_below}
use Rattle.bound_laws.proofs.FallingEvents.{OwnRequestsFit, event_falls, may_fall}
use Rattle.bound_laws.proofs.BoundedRuns.{RunLaws, run_falls}
use Rattle.bound_laws.proofs.Journals.{opening_reached, event_noted}
use Rattle.bound_laws.proofs.SweptStates.{SlotIsPossible, slot_possible, sweep_grows, sweeps_end, enough_end}
use Rattle.bound_laws.proofs.FinishedRuns.{full_finished, rest_finished, ample_finished}
use Rattle.bound_laws.proofs.laws.bound_laws.Goals as goal

pub returns-clause-noted : goal.returns-clause-noted
returns-clause-noted c = event_noted

pub returns-clause-opened : goal.returns-clause-opened
returns-clause-opened c = opening_below

pub returns-clause-falls : goal.returns-clause-falls
returns-clause-falls c = λ d s new event fits forward holds cores is.
    let own : OwnRequestsFit d s = λ t unit q net there delivers.
    (c.node_event_laws.ensures.next d s fits holds t unit q net there delivers, c.node_event_laws.ensures.own d s t unit q net fits holds there delivers) in
    event_falls (chip_of d) s new event (may_fall d s (c.chip_network_laws.ensures.requests d fits) forward own holds cores) is

-- the events of a run and those to come
within : (c : goal.After-chip_progress_laws) (d : Doc) (events : List Event) (s : ChipState) → DocFits d → IsForward d
    → run in_order (chip_of d) (opening d) events ≡ Some s
    → length events + measure (chip_of d) s ≤ bound d
within c d events s fits forward e =
    let laws = c.behaviour_laws.ensures in
    let known : RunLaws d = record {
      fits = fits;
      laws = laws;
      kept = c.reachable_laws.ensures.kept;
      in_turn = c.core_order_laws.ensures.stepped;
      fall = λ s new event holds cores is. returns-clause-falls c d s new event fits forward holds cores is;
    } in
    let below = opening_below d in
    let falls = run_falls d events (opening d) s known laws (c.reachable_laws.ensures.opened in_order laws d fits) (c.core_order_laws.ensures.opened d) e in
    omega arith

pub returns-clause-bounded : goal.returns-clause-bounded
returns-clause-bounded c = λ d events s fits forward e. let all = within c d events s fits forward e in omega arith

pub returns-clause-full : goal.returns-clause-full
returns-clause-full c = λ d events s fits forward e same.
    full_finished d s (length events) (within c d events s fits forward e) same
    (λ new event is. returns-clause-falls c d s new event fits forward (c.reachable_laws.ensures.protocol d events s fits e)
    (c.reachable_laws.ensures.cores d events s fits e) is)
    (c.chip_progress_laws.ensures.reached in_order c.behaviour_laws.ensures d events s fits e)

pub returns-clause-rests : goal.returns-clause-rests
returns-clause-rests c = λ b laws d events s fits e none. rest_finished b (chip_of d) s none (c.chip_progress_laws.ensures.reached b laws d events s fits e)

-- some slot is possible wherever a run has come to, until the chip is finished
some_slot : (c : goal.After-chip_progress_laws) (b : Behaviour) (laws : KeepsLaws b) (d : Doc) → DocFits d → SlotIsPossible b d
some_slot c b laws d fits = λ s reached unfinished.
    slot_possible b d s unfinished (c.chip_progress_laws.ensures.reached b laws d s.journal s fits reached)
    (λ event possible. c.chip_progress_laws.ensures.slot b laws d s (c.reachable_laws.ensures.reached b laws d s.journal s fits reached) event possible)

pub returns-clause-grows : goal.returns-clause-grows
returns-clause-grows c = λ b laws d budget offset s fits reached within going. sweep_grows b d budget offset s (some_slot c b laws d fits) reached within going

pub returns-clause-ends : goal.returns-clause-ends
returns-clause-ends c = λ b laws d budget pace fits. sweeps_end b d budget pace (some_slot c b laws d fits)

pub returns-clause-ample : goal.returns-clause-ample
returns-clause-ample c = λ d budget offsets s fits forward ample swept.
    ample_finished d budget offsets s ample swept
    (λ events e. (returns-clause-bounded c d events s fits forward e, λ same. returns-clause-full c d events s fits forward e same))

pub returns-clause-enough : goal.returns-clause-enough
returns-clause-enough c = λ b laws d budget offsets fits enough.
    enough_end b d budget (opening d) offsets (some_slot c b laws d fits) (opening_reached b d) (omega arith) (omega arith)
