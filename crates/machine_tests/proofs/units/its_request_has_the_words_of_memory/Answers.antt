use Rattle.machine_tests.proofs.Trials.{takes_request}
use Rattle.machine_tests.proofs.units.its_request_has_the_words_of_memory.Goals as goal

pub deliver-requires : goal.deliver-requires
deliver-requires g c =
    let may = takes_request c.its_request.result c.in_ok-unit.unit c.its_request.ensures c.in_ok-unit.ensures in
    record { source = may.source; line = may.line; count = may.count; own = may.own; list = may.list; waiting = may.waiting; room = may.room; steps = may.steps }
