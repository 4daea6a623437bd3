use Rattle.machine_tests.proofs.Trials.{takes_words}
use Rattle.machine_tests.proofs.units.its_words_complete_the_store.Goals as goal

pub receive-requires : goal.receive-requires
receive-requires g c =
    let may = takes_words c.its_words.result c.in_ok-unit.unit c.its_words.ensures c.in_ok-unit.ensures in
    record { line = may.line; awaited = may.awaited; home = may.home; room = may.room; steps = may.steps }
