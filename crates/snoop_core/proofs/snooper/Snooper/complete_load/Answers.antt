use Rattle.std.proofs.Common.{◌≡◌, subst, refl}
use Rattle.chip_model.specs.Chip.{chip_of_mesh}
use Rattle.chip_model.specs.Snoop.{completed_load}
use Rattle.snoop_core.specs.ChipSides.{ChipSide, after_outcome}
use Rattle.snoop_core.proofs.Completing.{left, load_left}
use Rattle.snoop_core.proofs.snooper.Snooper.complete_load.Goals as goal

pub returns-clause-side : goal.returns-clause-side
returns-clause-side c = λ demand stands line once.
    let chip = chip_of_mesh c.self.inside.mesh in
    subst (λ (old : ChipSide). record { chip = chip; side = record { cache = c.keep_loaded.new.cache; misses = c.finish_demand.new.self } } ≡ after_outcome (completed_load old.chip demand c.args.place c.args.words old.side) old)
    c.self.view_is
    (left (record { chip = chip; side = record { cache = c.self.inside.cache; misses = c.self.inside.misses } }) chip (record { cache = c.self.inside.cache; misses = c.self.inside.misses })
    (record { cache = c.keep_loaded.new.cache; misses = c.finish_demand.new.self }) (completed_load chip demand c.args.place c.args.words (record { cache = c.self.inside.cache; misses = c.self.inside.misses })) refl
    (load_left chip (record { cache = c.self.inside.cache; misses = c.self.inside.misses }) c.keep_loaded.new.cache c.finish_demand.new.self demand c.args.line c.args.place c.args.words c.args.once
    line once (c.keep_loaded.ensures.kept chip c.self.invariant) c.finish_demand.ensures.ended))
