use Rattle.std.proofs.Common.{◌≡◌, ℕ, false, sym, ◌∙◌, subst}
use Rattle.std.proofs.lemmas.Bool.{eqb-true}
use Rattle.mesh_gen.specs.Ports.{has}
use Rattle.mesh_gen.specs.PortSets.{bits_of}
use Rattle.progress_core.proofs.JoinedSweeps.{still_channel, sweeps_sides}
use Rattle.progress_core.proofs.hops.hop_by_sides.Goals as goal

pub returns-then-is_empty : goal.returns-then-is_empty
returns-then-is_empty g c =
    let empty : bits_of c.owed-owed.result ≡ 0 = eqb-true (bits_of c.owed-owed.result) 0 (sym (c.is_empty.ensures tt) ∙ c.if-is_empty.true) in
    still_channel g.U.Unit.behaviour c.args.budget c.args.machine.now c.args.r c.args.port c.args.slot c.requires.within
    (λ out. c.owed-owed.ensures.none out (subst (λ (bits : ℕ). has bits out ≡ false) (sym empty) (c.port_set_laws.ensures.empty out)))

pub returns : goal.returns
returns g c =
    sweeps_sides g.U.Unit.behaviour c.args.budget c.args.r c.args.port c.args.slot c.args.machine.now c.hop-owed.new.machine c.hop-owed-2.new.machine c.hop-owed-3.new.machine
    c.hop.new.machine c.hop-owed.ensures.swept c.hop-owed-2.ensures.swept c.hop-owed-3.ensures.swept c.hop.ensures.swept
