-- The events of the units of in-order cores lower the measure: a core event, a delivery, and a message that comes.
use Rattle.std.proofs.Common.{◌≡◌, ◌≢◌, ℕ, ◌+◌, ◌*◌, ◌<◌, ◌≤◌, List, Some, length, take, set, refl, sym, ◌∙◌, ap, subst, ⊎_elim, arith}
use Rattle.std.specs.Prelude.{slice_get}
use Rattle.std.proofs.lemmas.Bool.{cases_eq}
use Rattle.std.proofs.lemmas.Option.{slice_get_within}
use Rattle.mesh_gen.specs.declared.port.Port.{Port}
use Rattle.mesh_gen.specs.declared.request.Request.{Request}
use Rattle.chip_model.specs.Chip.{Chip}
use Rattle.chip_model.specs.CopiesOwed.{CopiesFit}
use Rattle.chip_model.specs.OrderedNetwork.{OrderedNetwork, Interface, after_delivery}
use Rattle.chip_model.specs.Replies.{after_data_eject}
use Rattle.chip_model.specs.Units.{UnitState, in_order}
use Rattle.chip_model.specs.ChipState.{ChipState}
use Rattle.chip_model.specs.Events.{with_acted, with_network, unit_at, core, eject, data_eject}
use Rattle.chip_model.specs.Suppliers.{count_of, delivered_at}
use Rattle.net_iface.proofs.Binds.{bind_eq, made}
use Rattle.net_iface.proofs.Places.{slice_get-set_same, slice_get-set_other}
use Rattle.mesh_gen.specs.Ports.{count_if}
use Rattle.chip_model.specs.Ownership.{owner}
use Rattle.chip_laws.proofs.SupplyCounts.{sum_by-set}
use Rattle.bound_laws.specs.Measure.{per_answer, answerer, unit_to_go, Falls}
use Rattle.bound_laws.proofs.AnswerCounts.{is_by, answers_same, Delivers, answers_fall}
use Rattle.bound_laws.proofs.MessageSteps.{received_lowers}
use Rattle.bound_laws.proofs.RequestSteps.{delivery_lowers}
use Rattle.bound_laws.proofs.EventFalls.{counts_set}
use Rattle.bound_laws.proofs.CoreSteps.{MayStep, stepped_falls}
use Rattle.bound_laws.proofs.AccessSteps.{when_some}
use Rattle.bound_laws.proofs.SideSteps.{Waits}
use Rattle.bound_laws.proofs.UnitSteps.{message_keeps, ComesNext, delivery_grows}

-- each unit is of the chip
abbrev pub AreOfChip : Chip → ChipState → Type 0
AreOfChip chip s = (t : ℕ) (unit : UnitState) → slice_get s.units t ≡ Some unit → unit.node.chip ≡ chip

-- ---- a core event
-- each unit may step
abbrev pub AllMayStep : ChipState → Type 0
AllMayStep s = (t : ℕ) (unit : UnitState) → slice_get s.units t ≡ Some unit → MayStep unit

pub core_falls : (chip : Chip) (s new : ChipState) (tile : ℕ) → AreOfChip chip s → AllMayStep s → core in_order s tile ≡ Some new → Falls chip s new
unfolding unit_at
core_falls chip s new tile of all =
    bind_eq (Falls chip s) (slice_get s.units tile) _
    (λ unit there n last.
    let ready = when_some (in_order.ready unit) (Some (with_acted tile (in_order.stepped unit) s)) n last in
    made (Falls chip s) (with_acted tile (in_order.stepped unit) s) n
    (let steps = stepped_falls unit (all tile unit there) ready.0 in
    let later = (in_order.stepped unit).0 in
    let falls = subst (λ (c : Chip). unit_to_go c later < unit_to_go c unit) (of tile unit there) steps.falls in
    let answers = answers_same chip s (with_acted tile (in_order.stepped unit) s) refl (counts_set s.units tile unit later there steps.delivered) in
    let units = sum_by-set (unit_to_go chip) s.units tile unit later there in
    omega arith) ready.1)
    new

-- ---- a message comes
-- each demand of a unit waits as one of an in-order core
abbrev pub AllWait : ChipState → Type 0
AllWait s = (t : ℕ) (unit : UnitState) → slice_get s.units t ≡ Some unit → Waits unit

pub data_eject_falls : (chip : Chip) (s new : ChipState) (r : ℕ) (port : Port) (slot : ℕ) → AreOfChip chip s → AllWait s
    → data_eject in_order s r port slot ≡ Some new → Falls chip s new
unfolding unit_at
data_eject_falls chip s new r port slot of wait =
    bind_eq (Falls chip s) (after_data_eject s.replies r port slot) _
    (λ out comes n last. bind_eq (Falls chip s) (slice_get s.units r) _
    (λ unit there n is. made (Falls chip s) (with_acted r (in_order.received out.0 unit) (record s { replies = out.1 })) n
    (let keeps = message_keeps unit out.0 (wait r unit there) in
    let later = (in_order.received out.0 unit).0 in
    let to_go = subst (λ (c : Chip). unit_to_go c later ≤ unit_to_go c unit) (of r unit there) keeps.to_go in
    let answers =
    answers_same chip s (with_acted r (in_order.received out.0 unit) (record s { replies = out.1 })) refl
    (counts_set s.units r unit later there keeps.delivered) in
    let units = sum_by-set (unit_to_go chip) s.units r unit later there in
    let lowers = received_lowers chip.grid s.replies r port slot out comes in
    omega arith) is) n last)
    new

-- ---- a delivery
-- what a tile delivers is the next request of the order for its unit
pub record ComesInTurn (s : ChipState) (t : ℕ) (unit : UnitState) (q : Request) : Type 0 where
  pub next : slice_get s.network.ordered unit.node.delivered ≡ Some q
  pub within : (interface : Interface) → slice_get s.network.interfaces t ≡ Some interface → interface.delivered < length s.network.ordered
  pub comes : ComesNext s.network.ordered unit q
  pub tile : unit.node.tile ≡ t

abbrev pub DeliveriesComeNext : Chip → ChipState → Type 0
DeliveriesComeNext chip s =
    (t : ℕ) (unit : UnitState) (q : Request) (net : OrderedNetwork) → slice_get s.units t ≡ Some unit → after_delivery chip s.network t ≡ Some (q, net)
    → ComesInTurn s t unit q

delivers : (s new : ChipState) (tile : ℕ) (unit later : UnitState) → slice_get s.units tile ≡ Some unit → new.units ≡ set s.units tile later
    → new.network.ordered ≡ s.network.ordered
    → later.node.delivered ≡ unit.node.delivered + 1 → Delivers s new tile unit.node.delivered
delivers s new tile unit later there units ordered one = record { ordered = ordered; was = ap count_of there; is = now ∙ one; more = more }
  where
    now : delivered_at new tile ≡ later.node.delivered
    now = ap (λ (units : List UnitState). count_of (slice_get units tile)) units ∙ ap count_of
        (slice_get-set_same s.units tile later (slice_get_within s.units tile unit there))

    more : (k : ℕ) → delivered_at s k ≤ delivered_at new k
    more k = ⊎_elim
        (λ (here : k ≡ tile). let was = ap count_of there in let is = now in subst (λ (k : ℕ). delivered_at s k ≤ delivered_at new k) (sym here) (omega arith))
        (λ (other : k ≢ tile). let same =
        ap (λ (units : List UnitState). count_of (slice_get units k)) units ∙ ap count_of (slice_get-set_other s.units tile k later other) in omega arith)
        (cases_eq k tile)

pub eject_falls : (chip : Chip) (s new : ChipState) (tile : ℕ) → AreOfChip chip s → CopiesFit chip.grid s.network.copies → DeliveriesComeNext chip s
    → eject in_order chip s tile ≡ Some new → Falls chip s new
unfolding unit_at
eject_falls chip s new tile of fits next =
    bind_eq (Falls chip s) (slice_get s.units tile) _
    (λ unit there n last. bind_eq (Falls chip s) (after_delivery chip s.network tile) _
    (λ out comes n is. made (Falls chip s) (with_acted tile (in_order.delivered out.0 unit) (with_network out.1 s)) n (falls unit out there comes) is) n last)
    new
  where
    falls : (unit : UnitState) (out : Request × OrderedNetwork) → slice_get s.units tile ≡ Some unit → after_delivery chip s.network tile ≡ Some out
        → Falls chip s (with_acted tile (in_order.delivered out.0 unit) (with_network out.1 s))
    falls unit out there comes =
        let known = next tile unit out.0 out.1 there comes in
        let later = (in_order.delivered out.0 unit).0 in
        let grow = delivery_grows s.network.ordered unit out.0 known.comes in
        let step = delivery_lowers chip s.network tile out known.within fits comes in
        let after = with_acted tile (in_order.delivered out.0 unit) (with_network out.1 s) in
        let answers =
        answers_fall chip s after tile unit.node.delivered out.0 (delivers s after tile unit later there refl step.ordered grow.delivered) known.next in
        let units = sum_by-set (unit_to_go chip) s.units tile unit later there in
        let lowers = step.lowers in
        let grows = at_tile unit out.0 (of tile unit there) known.tile grow.grows in
        omega arith
      where
        at_tile : (unit : UnitState) (q : Request) → unit.node.chip ≡ chip → unit.node.tile ≡ tile
            → unit_to_go unit.node.chip (in_order.delivered q unit).0 ≤ unit_to_go unit.node.chip unit
            + per_answer unit.node.chip * count_if
            (is_by unit.node.tile (answerer unit.node.chip q (owner q.line (take unit.node.delivered s.network.ordered))))
            → unit_to_go chip (in_order.delivered q unit).0 ≤ unit_to_go chip unit
            + per_answer chip * count_if (is_by tile (answerer chip q (owner q.line (take unit.node.delivered s.network.ordered))))
        at_tile unit q same own grows =
            subst (λ (t : ℕ). unit_to_go chip (in_order.delivered q unit).0 ≤ unit_to_go chip unit
            + per_answer chip * count_if (is_by t (answerer chip q (owner q.line (take unit.node.delivered s.network.ordered))))) own
            (subst (λ (c : Chip). unit_to_go c (in_order.delivered q unit).0 ≤ unit_to_go c unit
            + per_answer c * count_if (is_by unit.node.tile (answerer c q (owner q.line (take unit.node.delivered s.network.ordered))))) same grows)
