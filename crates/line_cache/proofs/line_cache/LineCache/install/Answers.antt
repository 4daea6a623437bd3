use Rattle.std.proofs.Common.{◌≡◌, true, sym, ◌∙◌, ap, subst}
use Rattle.std.specs.Prelude.{◌||◌, IsTrue, is_some}
use Rattle.chip_model.specs.Cache.{Held, Ways, found, has_empty, placed}
use Rattle.line_cache.specs.Sets.{copy_of}
use Rattle.line_cache.proofs.Found.{found-placed_there, found-placed_other, fits-placed}
use Rattle.line_cache.proofs.Sets.{at_read, fits-at, installs, looks, keeps, stays, fits_still, lookup-at}
use Rattle.line_cache.proofs.line_cache.LineCache.install.Goals as goal

pub place-requires : goal.place-requires
place-requires c =
    let at = at_read c.args.self.now c.self.inside.sets.items c.args.line c.set_number-set.result c.index_mut.result.now c.self.view_is c.set_number-set.ensures.number c.set_number-set.ensures.there c.index_mut.ensures.value in
    subst (λ (held : Held). IsTrue (is_some (found held.line c.index_mut.result.now) || has_empty c.index_mut.result.now)) (sym c.new.ensures)
    (fits-at c.args.self.now c.args.line c.set_number-set.result c.index_mut.result.now c.requires at)

pub invariant_of-self : goal.invariant_of-self
invariant_of-self c =
    let at = at_read c.args.self.now c.self.inside.sets.items c.args.line c.set_number-set.result c.index_mut.result.now c.self.view_is c.set_number-set.ensures.number c.set_number-set.ensures.there c.index_mut.ensures.value in
    let fits = fits-at c.args.self.now c.args.line c.set_number-set.result c.index_mut.result.now c.requires at in
    let is = c.place.ensures ∙ ap (λ (held : Held). placed held c.index_mut.result.now) c.new.ensures in
    stays c.args.self.now c.self.inside.sets.items c.args.line c.set_number-set.result c.index_mut.result.now c.place.new.self c.self.view_is at c.self.invariant
    (λ m other. ap (found m) is ∙ found-placed_other (copy_of c.args.line (c.args.state, c.args.words)) c.index_mut.result.now fits m other)

pub returns-clause-installed : goal.returns-clause-installed
returns-clause-installed c = λ chip sets.
    let at = at_read c.args.self.now c.self.inside.sets.items c.args.line c.set_number-set.result c.index_mut.result.now c.self.view_is c.set_number-set.ensures.number c.set_number-set.ensures.there c.index_mut.ensures.value in
    let is = c.place.ensures ∙ ap (λ (held : Held). placed held c.index_mut.result.now) c.new.ensures in
    installs chip c.args.self.now c.self.inside.sets.items c.set_number-set.result c.index_mut.result.now c.place.new.self (copy_of c.args.line (c.args.state, c.args.words)) c.self.view_is at is sets

pub returns-clause-there : goal.returns-clause-there
returns-clause-there c = λ chip sets.
    let at = at_read c.args.self.now c.self.inside.sets.items c.args.line c.set_number-set.result c.index_mut.result.now c.self.view_is c.set_number-set.ensures.number c.set_number-set.ensures.there c.index_mut.ensures.value in
    let fits = fits-at c.args.self.now c.args.line c.set_number-set.result c.index_mut.result.now c.requires at in
    let is = c.place.ensures ∙ ap (λ (held : Held). placed held c.index_mut.result.now) c.new.ensures in
    looks chip c.args.self.now c.self.inside.sets.items c.args.line c.set_number-set.result c.index_mut.result.now c.place.new.self c.self.view_is at sets
    ∙ ap (found c.args.line) is ∙ found-placed_there (copy_of c.args.line (c.args.state, c.args.words)) c.index_mut.result.now fits

pub returns-clause-others : goal.returns-clause-others
returns-clause-others c = λ chip sets other apart.
    let at = at_read c.args.self.now c.self.inside.sets.items c.args.line c.set_number-set.result c.index_mut.result.now c.self.view_is c.set_number-set.ensures.number c.set_number-set.ensures.there c.index_mut.ensures.value in
    let fits = fits-at c.args.self.now c.args.line c.set_number-set.result c.index_mut.result.now c.requires at in
    let is = c.place.ensures ∙ ap (λ (held : Held). placed held c.index_mut.result.now) c.new.ensures in
    keeps chip c.args.self.now c.self.inside.sets.items c.args.line c.set_number-set.result c.index_mut.result.now c.place.new.self other c.self.view_is at
    (ap (found other) is ∙ found-placed_other (copy_of c.args.line (c.args.state, c.args.words)) c.index_mut.result.now fits other apart)

pub returns-clause-room : goal.returns-clause-room
returns-clause-room c = λ chip sets some other fit.
    let at = at_read c.args.self.now c.self.inside.sets.items c.args.line c.set_number-set.result c.index_mut.result.now c.self.view_is c.set_number-set.ensures.number c.set_number-set.ensures.there c.index_mut.ensures.value in
    let there = ap is_some (sym (lookup-at chip c.args.self.now c.args.line c.set_number-set.result c.index_mut.result.now sets at)) ∙ some in
    let is = c.place.ensures ∙ ap (λ (held : Held). placed held c.index_mut.result.now) c.new.ensures in
    fits_still chip c.args.self.now c.self.inside.sets.items c.args.line c.set_number-set.result c.index_mut.result.now c.place.new.self other c.self.view_is at
    (λ before. subst (λ (ws : Ways). (is_some (found other ws) || has_empty ws) ≡ true) (sym is) (fits-placed (copy_of c.args.line (c.args.state, c.args.words)) other c.index_mut.result.now there before)) fit
