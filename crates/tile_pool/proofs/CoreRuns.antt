-- The core events that a station does by itself, as a run of the chip that it sees.
use Rattle.std.proofs.Common.{◌≡◌, ℕ, zero, suc, ◌+◌, true, false, List, [], ◌∷◌, ◌++◌, Some, refl, sym, ◌∙◌, ap, arith}
use Rattle.std.specs.Prelude.{slice_get, set, replicate}
use Rattle.std.proofs.lemmas.List.{append-nil}
use Rattle.std.proofs.lemmas.Option.{slice_get_within}
use Rattle.report_text.specs.declared.access.Access.{Access}
use Rattle.report_text.specs.declared.event.Event.{Event}
use Rattle.report_text.specs.declared.event.Event.TheVariants.{Core}
use Rattle.report_text.specs.Journals.{events_of}
use Rattle.chip_model.specs.Chip.{Chip}
use Rattle.chip_model.specs.Units.{UnitState, Behaviour}
use Rattle.chip_model.specs.ChipState.{ChipState}
use Rattle.chip_model.specs.Runs.{run}
use Rattle.fabric_core.specs.Fabric.{FabricState}
use Rattle.machine_core.specs.Stations.{StationState, IsSettled, TakesChip, after_private, chip_state, seen_by}
use Rattle.round_laws.specs.Turns.{core_steps}
use Rattle.round_laws.proofs.Runs.{run_one, run_then}
use Rattle.tile_pool.specs.Workers.{CoresLead}

-- a chip state is known by its parts
pub same_parts : (fabric : FabricState) (units other : List UnitState) (accesses more : List Access) (journal events : List Event) → units ≡ other → accesses ≡ more
    → journal ≡ events
    → ◌≡◌ {A = ChipState} (record {
      network = fabric.network;
      replies = fabric.replies;
      units = units;
      accesses = accesses;
      journal = journal;
      hops = fabric.hops;
    }) (record {
      network = fabric.network;
      replies = fabric.replies;
      units = other;
      accesses = more;
      journal = events;
      hops = fabric.hops;
    })
same_parts fabric units other accesses more journal events a b c = rw (a, b, c) refl

set_same : {X : Type 0} (xs : List X) (k : ℕ) (x : X) → slice_get xs k ≡ Some x → set xs k x ≡ xs
set_same [] k x at = refl
set_same (z ∷ xs) zero x at = cc
set_same (z ∷ xs) (suc k) x at = ap (λ rest. z ∷ rest) (set_same xs k x at)

-- a settled station sees the chip of the fabric and the units
pub settled_sees : (station : StationState) (fabric : FabricState) (units : List UnitState) → IsSettled station
    → seen_by station fabric units ≡ chip_state fabric (set units station.tile station.unit)
settled_sees station fabric units settled =
    same_parts fabric (set units station.tile station.unit) (set units station.tile station.unit) (fabric.accesses ++ station.accesses) fabric.accesses
    (events_of fabric.entries ++ replicate station.cores (Core station.tile)) (events_of fabric.entries) refl
    (ap (λ (more : List Access). fabric.accesses ++ more) settled.accesses ∙ append-nil fabric.accesses)
    (ap (λ (n : ℕ). events_of fabric.entries ++ replicate n (Core station.tile)) settled.cores ∙ append-nil (events_of fabric.entries))

pub settled_is : (station : StationState) (fabric : FabricState) (units : List UnitState) → IsSettled station → slice_get units station.tile ≡ Some station.unit
    → seen_by station fabric units ≡ chip_state fabric units
settled_is station fabric units settled at =
    settled_sees station fabric units settled ∙ ap (chip_state fabric) (set_same units station.tile station.unit at)

replicate_last : {X : Type 0} (n : ℕ) (x : X) → replicate (n + 1) x ≡ replicate n x ++ x ∷ []
replicate_last n x = let same : n + 1 ≡ suc n = omega arith in ap (λ m. replicate m x) same ∙ more n x
  where
    more : {X : Type 0} (n : ℕ) (x : X) → replicate (suc n) x ≡ replicate n x ++ x ∷ []
    more zero x = refl
    more (suc n) x = ap (λ rest. x ∷ rest) (more n x)

-- before its first core event
pub none_lead : (b : Behaviour) (station : StationState) → IsSettled station → CoresLead b station.unit station
unfolding run
none_lead b station settled chip fabric units at =
    ap (λ (n : ℕ). run b chip (chip_state fabric units) (replicate n (Core station.tile))) settled.cores
    ∙ ap Some (sym (settled_is station fabric units settled at))

-- one more
pub one_leads : (b : Behaviour) (unit : UnitState) (station : StationState) → CoresLead b unit station
    → ((chip : Chip) (fabric : FabricState) → TakesChip b chip (Core station.tile) station fabric (after_private b station) fabric)
    → CoresLead b unit (after_private b station)
one_leads b unit station lead takes chip fabric units at =
    ap (run b chip (chip_state fabric units)) (replicate_last station.cores (Core station.tile))
    ∙ run_then b chip (replicate station.cores (Core station.tile)) (Core station.tile ∷ []) (chip_state fabric units) (seen_by station fabric units)
    (seen_by (after_private b station) fabric units) (lead chip fabric units at)
    (run_one b chip (seen_by station fabric units) (seen_by (after_private b station) fabric units) (Core station.tile)
    (takes chip fabric units (slice_get_within units station.tile unit at)))

-- how many core events are left to do, where the core is ready, and where it is not
pub steps_ready : (b : Behaviour) (n left : ℕ) (unit : UnitState) → left ≡ suc n → b.ready unit ≡ true
    → core_steps b left unit ≡ suc (core_steps b n (b.stepped unit).0)
steps_ready b n left unit same ready = rw (same, ready) refl

pub steps_not_ready : (b : Behaviour) (left : ℕ) (unit : UnitState) → b.ready unit ≡ false → core_steps b left unit ≡ 0
steps_not_ready b zero unit not_ready = refl
steps_not_ready b (suc n) unit not_ready = rw not_ready refl
