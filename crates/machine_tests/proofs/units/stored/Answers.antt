use Rattle.machine_tests.proofs.Trials.{takes_words, after_words}
use Rattle.machine_tests.proofs.units.stored.Goals as goal

pub receive-requires : goal.receive-requires
receive-requires c =
    let may = takes_words c.its_words.result c.in_ok-unit.unit c.its_words.ensures c.in_ok-unit.ensures in
    record { line = may.line; awaited = may.awaited; home = may.home; room = may.room; steps = may.steps }

pub returns : goal.returns
returns c = after_words c.its_words.result c.in_ok-unit.unit c.receive.new.self c.receive.result c.its_words.ensures c.in_ok-unit.ensures c.receive.ensures
