use Rattle.std.proofs.Common.{sym, ◌∙◌, ap}
use Rattle.std.specs.Prelude.{is_none}
use Rattle.std.specs.List.{position}
use Rattle.chip_model.specs.Cache.{Held, Ways}
use Rattle.line_cache.specs.Ways.{holds}
use Rattle.line_cache.proofs.First.{placed-held, placed-empty, placed-nowhere}
use Rattle.line_cache.proofs.ways.place.Goals as goal

pub returns-in-Some : goal.returns-in-Some
returns-in-Some c =
    let line_is = ap (λ line. position (holds line) c.args.ways.now.items) (sym c.line.ensures) in
    let read = ap (λ (ways : Ways). position (holds c.line.result) ways) (sym c.as_slice.ensures.value) in
    c.write.ensures ∙ placed-held c.args.held c.args.ways.now.items c.in-Some.way (line_is ∙ read ∙ sym c.way_of.ensures ∙ c.in-Some.is)

pub returns-in-Some-empty_way : goal.returns-in-Some-empty_way
returns-in-Some-empty_way c =
    let line_is = ap (λ line. position (holds line) c.args.ways.now.items) (sym c.line.ensures) in
    let read = ap (λ (ways : Ways). position (holds c.line.result) ways) (sym c.as_slice.ensures.value) in
    let empty = ap (λ (ways : Ways). position (is_none {T = Held}) ways) (sym c.as_slice-in_default.ensures.value) in
    c.write-in-Some-empty_way.ensures ∙ placed-empty c.args.held c.args.ways.now.items c.in-Some-empty_way.way
    (line_is ∙ read ∙ sym c.way_of.ensures ∙ c.in_default.is)
    (empty ∙ sym c.empty_way.ensures ∙ c.in-Some-empty_way.is)

pub returns-in_default-empty_way : goal.returns-in_default-empty_way
returns-in_default-empty_way c =
    let line_is = ap (λ line. position (holds line) c.args.ways.now.items) (sym c.line.ensures) in
    let read = ap (λ (ways : Ways). position (holds c.line.result) ways) (sym c.as_slice.ensures.value) in
    let empty = ap (λ (ways : Ways). position (is_none {T = Held}) ways) (sym c.as_slice-in_default.ensures.value) in
    absurd (placed-nowhere c.args.held c.args.ways.now.items
    (line_is ∙ read ∙ sym c.way_of.ensures ∙ c.in_default.is)
    (empty ∙ sym c.empty_way.ensures ∙ c.in_default-empty_way.is)
    c.requires)
