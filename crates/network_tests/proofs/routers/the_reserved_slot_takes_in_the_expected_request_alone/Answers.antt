use Rattle.std.proofs.Common.{◌≢◌, arith}
use Rattle.chip_model.specs.Copies.{name_of}
use Rattle.network_tests.proofs.Absent.{absent_opened, absent_injected}
use Rattle.network_tests.proofs.routers.the_reserved_slot_takes_in_the_expected_request_alone.Goals as goal

pub inject-requires-clause-absent : goal.inject-requires-clause-absent
inject-requires-clause-absent g c = absent_opened c.in_ok-routers.routers _ _ _ c.step_laws.ensures.opened c.in_ok-routers.ensures

pub inject-requires-2-clause-absent : goal.inject-requires-2-clause-absent
inject-requires-2-clause-absent g c =
    let other : c.first_of.result.source ≢ c.first_of-2.result.source = λ same. let zero = c.first_of.ensures.source in let one = c.first_of-2.ensures.source in omega arith in
    absent_injected c.inject.result c.in_ok-routers.routers c.inject.new.self c.first_of.result (name_of c.first_of-2.result) c.inject.ensures.requests c.inject.ensures.kept other
    (absent_opened c.in_ok-routers.routers _ _ (name_of c.first_of-2.result) c.step_laws.ensures.opened c.in_ok-routers.ensures)
