use Rattle.std.proofs.Common.{◌≡◌, sym, ◌∙◌, ap, subst}
use Rattle.mesh_gen.specs.declared.kind.Kind.TheVariants.{GetS, GetM, PutM}
use Rattle.chip_model.specs.Chip.{chip_of_mesh}
use Rattle.chip_model.specs.Cache.{without_line}
use Rattle.chip_model.specs.Misses.{Demand}
use Rattle.chip_model.specs.Snoop.{Outcome, holding, OpenWrite, OpenRead}
use Rattle.line_cache.specs.Sets.{Fits}
use Rattle.miss_table.specs.Table.{Holds, IsLive, IsOrderedRead, TakesOneMore, followed_by, for_once}
use Rattle.snoop_core.specs.ChipSides.{ChipSide, met_by}
use Rattle.snoop_core.proofs.HoldingCases.{holding_open_write, holding_open_read}
use Rattle.snoop_core.proofs.TableRows.{told_write, told_read, owned_fits, holds_live, takes_one_more, holds_read, row, demand_left, kept_cache}
use Rattle.snoop_core.proofs.snooper.Snooper.meet.Goals as goal

pub install-requires : goal.install-requires
install-requires c =
    subst (λ (site : ChipSide). Fits site.side.cache c.args.q.line) (sym c.self.view_is)
    (owned_fits c.args.self.now.chip c.args.self.now.side c.args.q.line c.in-OwnedCopy-GetS.words c.requires.side.cache.sets (sym c.holding.ensures ∙ c.in-OwnedCopy-GetS.is-0))

pub make_stale-requires : goal.make_stale-requires
make_stale-requires c =
    subst (λ (site : ChipSide). Holds IsLive site.side.misses.back) (sym c.self.view_is)
    (holds_live c.args.self.now.chip c.args.self.now.side c.args.q.line c.in-LiveBack-GetM.words (sym c.holding.ensures ∙ c.in-LiveBack-GetM.is-0))

pub append-requires : goal.append-requires
append-requires c =
    let stands = told_write (holding c.args.self.now.chip c.args.self.now.side c.args.q.line) (sym c.holding.ensures ∙ c.in-OpenWrite-GetS.is-0) in
    subst (λ (site : ChipSide). Holds (λ (d : Demand). TakesOneMore d 64) site.side.misses.demand) (sym c.self.view_is)
    (takes_one_more c.args.self.now.chip c.args.self.now.side c.args.q.line stands.0 64 stands.1 (c.requires.list (λ put. let no : GetS ≡ PutM = sym c.in-OpenWrite-GetS.is-1 ∙ put in cc) stands.0 stands.1))

pub append-requires-in-OpenWrite-GetM : goal.append-requires-in-OpenWrite-GetM
append-requires-in-OpenWrite-GetM c =
    let stands = told_write (holding c.args.self.now.chip c.args.self.now.side c.args.q.line) (sym c.holding.ensures ∙ c.in-OpenWrite-GetM.is-0) in
    subst (λ (site : ChipSide). Holds (λ (d : Demand). TakesOneMore d 64) site.side.misses.demand) (sym c.self.view_is)
    (takes_one_more c.args.self.now.chip c.args.self.now.side c.args.q.line stands.0 64 stands.1 (c.requires.list (λ put. let no : GetM ≡ PutM = sym c.in-OpenWrite-GetM.is-1 ∙ put in cc) stands.0 stands.1))

pub set_once-requires : goal.set_once-requires
set_once-requires c =
    let stands = told_read (holding c.args.self.now.chip c.args.self.now.side c.args.q.line) (sym c.holding.ensures ∙ c.in-OpenRead-GetM.is-0) in
    subst (λ (site : ChipSide). Holds IsOrderedRead site.side.misses.demand) (sym c.self.view_is) (holds_read c.args.self.now.chip c.args.self.now.side c.args.q.line stands.0 c.requires.side stands.1)

pub returns-in-OpenWrite-GetS-clause-side : goal.returns-in-OpenWrite-GetS-clause-side
returns-in-OpenWrite-GetS-clause-side c =
    let stands = told_write (holding c.args.self.now.chip c.args.self.now.side c.args.q.line) (sym c.holding.ensures ∙ c.in-OpenWrite-GetS.is-0) in
    demand_left c.args.self.now (chip_of_mesh c.self.inside.mesh) c.self.inside.cache c.self.inside.cache c.self.inside.misses c.append.new.self stands.0
    (followed_by (record { tile = c.args.q.source; kind = c.args.q.kind })) (met_by c.args.q c.args.self.now) c.self.view_is (holding_open_write c.args.self.now.chip c.args.self.now.side c.args.q.line stands.0 stands.1).stands
    c.append.ensures
    (ap (λ (o : Outcome). o.side) (row c.args.q c.args.self.now (OpenWrite stands.0) GetS stands.1 c.in-OpenWrite-GetS.is-1) ∙ kept_cache _ _ _ (ap (λ (site : ChipSide). site.side.cache) c.self.view_is))

pub returns-in-OpenWrite-GetM-clause-side : goal.returns-in-OpenWrite-GetM-clause-side
returns-in-OpenWrite-GetM-clause-side c =
    let stands = told_write (holding c.args.self.now.chip c.args.self.now.side c.args.q.line) (sym c.holding.ensures ∙ c.in-OpenWrite-GetM.is-0) in
    let chip = chip_of_mesh c.self.inside.mesh in
    demand_left c.args.self.now chip c.self.inside.cache c.drop_line-in-OpenWrite-GetM.new.self c.self.inside.misses c.append-in-OpenWrite-GetM.new.self stands.0
    (followed_by (record { tile = c.args.q.source; kind = c.args.q.kind })) (met_by c.args.q c.args.self.now) c.self.view_is (holding_open_write c.args.self.now.chip c.args.self.now.side c.args.q.line stands.0 stands.1).stands
    c.append-in-OpenWrite-GetM.ensures
    (ap (λ (o : Outcome). o.side) (row c.args.q c.args.self.now (OpenWrite stands.0) GetM stands.1 c.in-OpenWrite-GetM.is-1)
    ∙ kept_cache _ _ _ (c.drop_line-in-OpenWrite-GetM.ensures.dropped chip c.self.invariant ∙ ap (λ (site : ChipSide). without_line site.chip c.args.q.line site.side.cache) c.self.view_is))

pub returns-in-OpenRead-GetM-clause-side : goal.returns-in-OpenRead-GetM-clause-side
returns-in-OpenRead-GetM-clause-side c =
    let stands = told_read (holding c.args.self.now.chip c.args.self.now.side c.args.q.line) (sym c.holding.ensures ∙ c.in-OpenRead-GetM.is-0) in
    demand_left c.args.self.now (chip_of_mesh c.self.inside.mesh) c.self.inside.cache c.self.inside.cache c.self.inside.misses c.set_once.new.self stands.0
    for_once (met_by c.args.q c.args.self.now) c.self.view_is (holding_open_read c.args.self.now.chip c.args.self.now.side c.args.q.line stands.0 stands.1).stands
    c.set_once.ensures
    (ap (λ (o : Outcome). o.side) (row c.args.q c.args.self.now (OpenRead stands.0) GetM stands.1 c.in-OpenRead-GetM.is-1) ∙ kept_cache _ _ _ (ap (λ (site : ChipSide). site.side.cache) c.self.view_is))
