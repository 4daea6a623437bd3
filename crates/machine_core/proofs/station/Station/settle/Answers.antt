use Rattle.std.proofs.Common.{◌≡◌, ◌<◌, ◌++◌, ◌∙◌, sym, ap, subst, arith}
use Rattle.fabric_core.specs.Fabric.{FabricState, MayNote, alone, event_count}
use Rattle.machine_core.specs.Stations.{StationState, seen_by, settled}
use Rattle.machine_core.proofs.PrivateSteps.{may_note_core, cores_noted, cores_counted, settled_seen}
use Rattle.machine_core.proofs.station.Station.settle.Goals as goal

pub note_core-requires : goal.note_core-requires
note_core-requires g c =
    let inside = rw (← c.self.view_is) at c.requires.tile in
    let room = rw (← c.self.view_is) at c.requires.room in
    let noted = rw (← c.self.view_is) at c.loop.invariant in
    let below : c.self.inside.tile < 64 = omega (arith, inside, c.requires.few) in
    subst (λ (f : FabricState). MayNote (alone c.self.inside.tile) f) (sym noted)
    (may_note_core c.loop.counter c.self.inside.tile c.args.fabric.now inside below (omega (arith, room, c.loop-test.true)))

pub returns-clause-seen : goal.returns-clause-seen
returns-clause-seen g c = λ units.
    let st = c.args.self.now in
    let fab = c.args.fabric.now in
    let full : c.loop.counter ≡ st.cores = omega (arith, c.loop-test.false, c.loop.auto.counter-end, ap (λ (x : StationState). x.cores) c.self.view_is) in
    let noted : c.loop.fabric ≡ cores_noted st.cores st.tile fab = c.loop.invariant ∙ ap (λ n. cores_noted n st.tile fab) full in
    let left : c.hand_over.new.fabric ≡ record (cores_noted st.cores st.tile fab) { accesses = fab.accesses ++ st.accesses } =
    c.hand_over.ensures.fabric ∙ ap (λ (f : FabricState). record f { accesses = f.accesses ++ st.accesses }) noted in
    let below : st.tile < 64 = omega (arith, c.requires.tile, c.requires.few) in
    ap (λ (x : StationState). seen_by (record x { cores = 0 }) c.hand_over.new.fabric units) (c.self-2.view_is ∙ c.hand_over.ensures.station)
    ∙ ap (λ (f : FabricState). seen_by (settled st) f units) left
    ∙ settled_seen st fab units below

pub returns-clause-count : goal.returns-clause-count
returns-clause-count g c =
    let st = c.args.self.now in
    let fab = c.args.fabric.now in
    let full : c.loop.counter ≡ st.cores = omega (arith, c.loop-test.false, c.loop.auto.counter-end, ap (λ (x : StationState). x.cores) c.self.view_is) in
    let noted : c.loop.fabric ≡ cores_noted st.cores st.tile fab = c.loop.invariant ∙ ap (λ n. cores_noted n st.tile fab) full in
    let left : c.hand_over.new.fabric ≡ record (cores_noted st.cores st.tile fab) { accesses = fab.accesses ++ st.accesses } =
    c.hand_over.ensures.fabric ∙ ap (λ (f : FabricState). record f { accesses = f.accesses ++ st.accesses }) noted in
    let below : st.tile < 64 = omega (arith, c.requires.tile, c.requires.few) in
    ap event_count left ∙ cores_counted st.cores st.tile fab below
