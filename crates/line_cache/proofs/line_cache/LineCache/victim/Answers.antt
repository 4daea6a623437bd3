use Rattle.std.proofs.Common.{◌∙◌, subst}
use Rattle.chip_model.specs.Cache.{Cache}
use Rattle.line_cache.specs.Sets.{AreInPlace}
use Rattle.line_cache.proofs.Sets.{at_read, victim-at, IsVictim-at, Fits-room}
use Rattle.line_cache.proofs.line_cache.LineCache.victim.Goals as goal

pub returns-clause-rule : goal.returns-clause-rule
returns-clause-rule c = λ chip sets.
    let at = at_read c.args.self.now c.self.inside.sets.items c.args.line c.set_number.result c.index.result.now c.self.view_is c.set_number.ensures.number c.set_number.ensures.there c.index.ensures in
    c.victim.ensures.rule ∙ victim-at chip c.args.self.now c.args.line c.set_number.result c.index.result.now sets at

pub returns-clause-room : goal.returns-clause-room
returns-clause-room c = λ chip sets.
    let at = at_read c.args.self.now c.self.inside.sets.items c.args.line c.set_number.result c.index.result.now c.self.view_is c.set_number.ensures.number c.set_number.ensures.there c.index.ensures in
    let placed = subst (λ (cache : Cache). AreInPlace cache) c.self.view_is c.self.invariant.1 in
    IsVictim-at chip c.args.self.now c.args.line c.set_number.result c.index.result.now c.victim.result sets at placed c.victim.ensures.room

pub returns-clause-fits : goal.returns-clause-fits
returns-clause-fits c = λ empty.
    let at = at_read c.args.self.now c.self.inside.sets.items c.args.line c.set_number.result c.index.result.now c.self.view_is c.set_number.ensures.number c.set_number.ensures.there c.index.ensures in
    Fits-room c.args.self.now c.args.line c.set_number.result c.index.result.now c.victim.result at c.victim.ensures.room empty
