use Rattle.progress_core.proofs.JoinedSweeps.{told, still_router, sweeps_ports}
use Rattle.progress_core.proofs.hops.hop_from_router.Goals as goal

pub returns-then-no_copies : goal.returns-then-no_copies
returns-then-no_copies g c =
    still_router g.U.Unit.behaviour c.args.budget c.args.machine.now c.args.r c.requires.within (told c.no_copies.result _ c.if-no_copies.true c.no_copies.ensures.none)

pub returns : goal.returns
returns g c =
    sweeps_ports g.U.Unit.behaviour c.args.budget c.vcs-vcs.result c.args.r c.args.machine.now c.hop_from_port.new.machine c.hop_from_port-2.new.machine
    c.hop_from_port-3.new.machine c.hop_from_port-4.new.machine c.hop_from_port-5.new.machine c.vcs-vcs.ensures.vcs
    c.hop_from_port.ensures c.hop_from_port-2.ensures c.hop_from_port-3.ensures c.hop_from_port-4.ensures c.hop_from_port-5.ensures
