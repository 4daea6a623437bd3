-- Every event of a chip of in-order cores lowers the measure, where what holds of reachable states holds and the programs go
-- forward.
use Rattle.std.proofs.Common.{◌≡◌, ℕ, ◌<◌, ◌≤◌, List, [], length, Option, Some, None, refl, sym, ◌∙◌, ap, subst, arith}
use Rattle.std.specs.Prelude.{slice_get}
use Rattle.std.proofs.lemmas.List.{get_or_past}
use Rattle.std.proofs.lemmas.Option.{slice_get_within, get_or_from_slice_get}
use Rattle.core_isa.specs.declared.instr.Instr.{Instr}
use Rattle.doc_text.specs.Doc.{Doc}
use Rattle.mesh_gen.specs.Limits.{AreTiles}
use Rattle.mesh_gen.specs.Routes.{HasTiles}
use Rattle.mesh_gen.proofs.OneTile.{product_positive}
use Rattle.mesh_gen.specs.declared.request.Request.{Request}
use Rattle.report_text.specs.declared.event.Event.{Event}
use Rattle.report_text.specs.declared.event.Event.TheVariants.{Tick, Core, Inject, Post, Take, Eject, Send, Hop, DataHop, DataEject}
use Rattle.chip_model.specs.Chip.{Chip, chip_of, tile_count}
use Rattle.chip_model.specs.OrderedNetwork.{OrderedNetwork, after_delivery}
use Rattle.chip_model.specs.Units.{UnitState, in_order}
use Rattle.chip_model.specs.NetworkFits.{NetworkFits}
use Rattle.chip_model.specs.ChipInvariant.{ProtocolHolds, CoresInOrder}
use Rattle.chip_model.specs.Schedules.{IsForward}
use Rattle.chip_model.specs.ChipState.{ChipState, program_of}
use Rattle.chip_model.specs.Events.{step}
use Rattle.net_iface.proofs.Places.{past_end}
use Rattle.snoop_core.specs.Requests.{OwnRequestFits}
use Rattle.chip_laws.specs.DocLaws.{DocLaws}
use Rattle.chip_laws.proofs.RequestsInside.{request_inside, tile_of_unit}
use Rattle.chip_laws.proofs.OrderFrames.{HoldsAt, holds_at}
use Rattle.bound_laws.specs.Measure.{Falls}
use Rattle.bound_laws.proofs.EventFalls.{AreOfTiles, tick_falls, post_falls, take_falls, inject_falls, hop_falls, send_falls, data_hop_falls}
use Rattle.bound_laws.proofs.CoreSteps.{GoesForward}
use Rattle.bound_laws.proofs.DeliveredSides.{IsInside}
use Rattle.bound_laws.proofs.UnitEvents.{AreOfChip, AllMayStep, AllWait, DeliveriesComeNext, core_falls, data_eject_falls, eject_falls}

-- the part of what holds in every reachable state on which it stands
pub record MayFall (chip : Chip) (s : ChipState) : Type 0 where
  pub some : HasTiles chip.grid
  pub count : 0 < tile_count chip
  pub network : NetworkFits chip s.network
  pub chips : AreOfChip chip s
  pub tiles : AreOfTiles s
  pub wait : AllWait s
  pub steps : AllMayStep s
  pub next : DeliveriesComeNext chip s

pub event_falls : (chip : Chip) (s new : ChipState) (event : Event) → MayFall chip s → step in_order chip s event ≡ Some new → Falls chip s new
unfolding step
event_falls chip s new Tick may is = tick_falls chip s new may.count may.network.windows may.network.interfaces is
event_falls chip s new (Core tile) may is = core_falls chip s new tile may.chips may.steps is
event_falls chip s new (Inject tile) may is = inject_falls chip s new tile may.network.interfaces is
event_falls chip s new (Post tile) may is = post_falls chip s new tile is
event_falls chip s new (Take tile) may is = take_falls chip s new tile is
event_falls chip s new (Eject tile) may is = eject_falls chip s new tile may.chips may.network.copies may.next is
event_falls chip s new (Send tile) may is = send_falls chip s new tile may.tiles is
event_falls chip s new (Hop router port slot out) may is = hop_falls chip s new router port slot out may.some may.network.copies is
event_falls chip s new (DataHop router port slot) may is = data_hop_falls chip s new router port slot may.some is
event_falls chip s new (DataEject router port slot) may is = data_eject_falls chip s new router port slot may.chips may.wait is

-- ---- the premises follow from what holds in every reachable state
forward_unit : (d : Doc) (t : ℕ) → IsForward d → GoesForward (program_of d t)
forward_unit d t forward place target instr there among = by (slice_get d.programs t) refl
  where
    by : (o : Option (List Instr)) → slice_get d.programs t ≡ o → place < target
    by None is =
        let past : length d.programs ≤ t = past_end d.programs t is in
        let none : program_of d t ≡ [] = get_or_past d.programs t [] past in
        let nothing : slice_get {X = Instr} [] place ≡ Some instr = sym (ap (λ (program : List Instr). slice_get program place) none) ∙ there in
        cc
    by (Some program) is =
        let same : program_of d t ≡ program = get_or_from_slice_get d.programs t program [] is in
        forward t place target program instr is (sym (ap (λ (program : List Instr). slice_get program place) same) ∙ there) among

-- a request of the unit itself is that of what its node waits for
abbrev pub OwnRequestsFit : Doc → ChipState → Type 0
OwnRequestsFit d s =
    (t : ℕ) (unit : UnitState) (q : Request) (net : OrderedNetwork) → slice_get s.units t ≡ Some unit → after_delivery (chip_of d) s.network t ≡ Some (q, net)
    → (slice_get s.network.ordered unit.node.delivered ≡ Some q) × OwnRequestFits unit.node.tile unit.node.side q

pub may_fall : (d : Doc) (s : ChipState) → DocLaws d → IsForward d → OwnRequestsFit d s → ProtocolHolds d s → CoresInOrder s → MayFall (chip_of d) s
may_fall d s laws forward own holds cores = record {
  some = laws.doc.chip.tiles;
  count = product_positive d.cols d.rows laws.doc.chip.tiles.some_column laws.doc.chip.tiles.some_row;
  network = holds.network.requests;
  chips = λ t unit there. (at t unit there).holds.node.chip;
  tiles = λ t unit there. (at t unit there).holds.node.agrees.tile;
  wait = wait;
  steps = λ t unit there. record {
    cache =
        (at t unit there).holds.node.fits.side.cache;
    forward = subst GoesForward (sym (at t unit there).holds.core.program) (forward_unit d t forward);
  };
  next = next;
}
  where
    at : (t : ℕ) (unit : UnitState) → slice_get s.units t ≡ Some unit → HoldsAt d s t unit
    at t unit there = holds_at d s holds t unit there

    wait : AllWait s
    wait t unit there demand stands = let waits = (cores t unit there).waits demand stands in record { running = waits.0; access = waits.1 }

    inside : (t : ℕ) (unit : UnitState) → slice_get s.units t ≡ Some unit → IsInside unit
    inside t unit there =
        let of = (at t unit there).holds.node in
        let tile = of.agrees.tile in
        let within = tile_of_unit d s t unit holds there in
        record {
          tiles = subst (λ (c : Chip). HasTiles c.grid) (sym of.chip) laws.doc.chip.tiles;
          tile = subst (λ (c : Chip). unit.node.tile < tile_count c) (sym of.chip) (omega arith);
          controllers = subst (λ (c : Chip). AreTiles (tile_count c) c.controllers) (sym of.chip) laws.doc.chip.controllers;
        }

    next : DeliveriesComeNext (chip_of d) s
    next t unit q net there delivers =
        let of = (at t unit there).holds in
        let known = own t unit q net there delivers in
        let request = request_inside d s unit.node.delivered q laws holds known.0 in
        record {
          next = known.0;
          within = λ interface at_tile. omega
              (arith, slice_get_within s.network.ordered unit.node.delivered q known.0, (holds.tiles t interface unit at_tile there).node.agrees.counts);
          comes = record {
            inside = inside t unit there;
            waits = wait t unit there;
            fits = of.node.fits;
            owns = of.serves.owns;
            source = subst (λ (c : Chip). q.source < tile_count c) (sym of.node.chip) request.source;
            line = subst (λ (c : Chip). q.line < c.lines) (sym of.node.chip) request.line;
            own = known.1;
          };
          tile = of.node.agrees.tile;
        }
