use Rattle.chip_model.specs.Chip.{chip_of}
use Rattle.machine_core.proofs.OwnersKeep.{owners_keep}
use Rattle.machine_core.proofs.machine.Machine.owners_keep.Goals as goal

pub returns : goal.returns
returns g c = λ ends.
    let d = c.args.self.now.document in
    let s = c.args.self.now.state in
    let laws = c.kind_laws.ensures in
    let fits = c.laws.ensures.within.fits in
    let holds = c.laws.ensures.holds laws in
    owners_keep d s (record {
      tile = λ t inside. c.tile_laws.ensures.has d s t holds.protocol inside;
      at_home = λ line. c.tile_laws.ensures.homes (chip_of d) line fits.chip;
      inside = λ line t is. c.owner_laws.ensures.inside d s line t fits holds.protocol is;
      done = (c.chip_progress_laws.ensures.over g.U.Unit.behaviour laws d s fits holds ends).units;
      whole = c.done_laws.ensures.whole s.network.ordered;
      copies = c.done_laws.ensures.copies s.network.ordered;
    })
