use Rattle.std.proofs.Common.{◌≡◌, ◌∙◌, ap, subst, refl, Some, arith, length}
use Rattle.chip_model.specs.Chip.{chip_of_mesh}
use Rattle.chip_model.specs.Snoop.{completed_store}
use Rattle.miss_table.specs.Table.{list_of}
use Rattle.snoop_core.specs.ChipSides.{ChipSide, after_outcome}
use Rattle.snoop_core.proofs.Completing.{left, store_left}
use Rattle.snoop_core.proofs.snooper.Snooper.complete_store.Goals as goal

pub drain_with-requires : goal.drain_with-requires
drain_with-requires c =
    let listed = ap length (c.finish_demand-list.ensures.list ∙ ap (λ (site : ChipSide). list_of site.side.misses.demand) c.self.view_is) in
    record { room = omega (arith, listed, c.requires.room) }

pub returns-clause-side : goal.returns-clause-side
returns-clause-side c = λ demand stands line pending.
    let chip = chip_of_mesh c.self.inside.mesh in
    let here : c.self.inside.misses.demand ≡ Some demand = ap (λ (site : ChipSide). site.side.misses.demand) c.self.view_is ∙ stands in
    subst (λ (old : ChipSide). record { chip = chip; side = record { cache = c.keep_stored.new.cache; misses = c.finish_demand-list.new.self } } ≡ after_outcome (completed_store old.chip demand c.args.place c.args.words old.side) old)
    c.self.view_is
    (left (record { chip = chip; side = record { cache = c.self.inside.cache; misses = c.self.inside.misses } }) chip (record { cache = c.self.inside.cache; misses = c.self.inside.misses })
    (record { cache = c.keep_stored.new.cache; misses = c.finish_demand-list.new.self }) (completed_store chip demand c.args.place c.args.words (record { cache = c.self.inside.cache; misses = c.self.inside.misses })) refl
    (store_left chip (record { cache = c.self.inside.cache; misses = c.self.inside.misses }) c.keep_stored.new.cache c.finish_demand-list.new.self demand c.args.line c.args.place c.args.pending c.args.words
    c.written-after.result c.finish_demand-list.result here line pending c.written-after.ensures c.finish_demand-list.ensures.list (c.keep_stored.ensures.kept chip c.self.invariant) c.finish_demand-list.ensures.ended))
