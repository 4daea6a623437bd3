use Rattle.std.proofs.Common.{subst}
use Rattle.chip_model.specs.Chip.{chip_of_mesh}
use Rattle.line_cache.specs.Sets.{IsVictim}
use Rattle.snoop_core.specs.ChipSides.{ChipSide}
use Rattle.snoop_core.proofs.snooper.Snooper.victim.Goals as goal

pub returns : goal.returns
returns c =
    subst (λ (site : ChipSide). IsVictim site.chip site.side.cache c.args.line c.victim.result) c.self.view_is
    (c.victim.ensures.room (chip_of_mesh c.self.inside.mesh) c.self.invariant)
