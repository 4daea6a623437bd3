use Rattle.std.proofs.Common.{◌∙◌, sym, ap, Some}
use Rattle.std.specs.Prelude.{if◌then◌else◌, [], Bool}
use Rattle.chip_model.specs.Units.{in_order}
use Rattle.chip_model.specs.Reports.{report_of, final_memory}
use Rattle.bound_laws.proofs.every_run.run_laws.Goals as goal

pub returns : goal.returns
unfolding report_of
returns c = λ d events s fits runs.
    let laws = c.behaviour_laws.ensures in
    let holds = c.reachable_laws.ensures.reached in_order laws d events s fits runs in
    record {
      prefixes = λ t. c.delivery_order_laws.ensures.prefixes in_order laws d events s t fits runs;
      one_order = c.delivery_order_laws.ensures.one_order in_order laws d events s fits runs;
      execution = c.consistency_laws.ensures.execution d events s fits runs;
      whole = λ ends. c.consistency_laws.ensures.whole d events s fits runs ends;
      memory = λ ends. c.consistency_laws.ensures.memory d events s fits runs ends ∙ ap (λ (end : Bool). Some (if end then final_memory d s else [])) (sym ends);
      moves = c.chip_progress_laws.ensures.reached in_order laws d events s fits runs;
      stops = λ ends event. c.chip_progress_laws.ensures.stops in_order laws d s fits holds ends event;
      bounded = λ forward. c.bound_laws.ensures.bounded d events s fits forward runs;
    }
