use Rattle.std.proofs.Common.{sym, ◌∙◌, ap}
use Rattle.std.specs.List.{position}
use Rattle.chip_model.specs.Cache.{Ways}
use Rattle.line_cache.specs.Ways.{holds}
use Rattle.line_cache.proofs.First.{emptied-held, emptied-nowhere}
use Rattle.line_cache.proofs.ways.empty.Goals as goal

pub returns-in-Some : goal.returns-in-Some
returns-in-Some c =
    let read = ap (λ (ways : Ways). position (holds c.args.line) ways) (sym c.as_slice.ensures.value) in
    c.write.ensures ∙ emptied-held c.args.line c.args.ways.now.items c.in-Some.way c.requires (read ∙ sym c.way_of.ensures ∙ c.in-Some.is)

pub returns-in_default : goal.returns-in_default
returns-in_default c =
    let read = ap (λ (ways : Ways). position (holds c.args.line) ways) (sym c.as_slice.ensures.value) in
    emptied-nowhere c.args.line c.args.ways.now.items (read ∙ sym c.way_of.ensures ∙ c.in_default.is)
