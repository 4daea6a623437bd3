-- Before any event every node holds, every unit has its shape, and every core is in order.
use Rattle.std.proofs.Common.{◌≡◌, ℕ, zero, suc, ◌+◌, true, refl, sym, ◌∙◌, ap, subst, arith, Some, [], slice_get}
use Rattle.std.specs.Prelude.{replicate}
use Rattle.std.proofs.lemmas.Option.{same_Some, slice_get-map}
use Rattle.order_tracker.specs.Order.{upwards}
use Rattle.doc_text.specs.Doc.{Doc}
use Rattle.chip_model.specs.Chip.{chip_of, tile_count}
use Rattle.chip_model.specs.OrderedNetwork.{Interface}
use Rattle.chip_model.specs.Units.{UnitState, Behaviour, opening_unit}
use Rattle.chip_model.specs.ChipState.{program_of, opening}
use Rattle.chip_model.specs.BehaviourLaws.{KeepsLaws}
use Rattle.chip_model.specs.UnitShape.{UnitFits, InOrderHolds}
use Rattle.chip_model.specs.ChipInvariant.{NodeHolds, CoresInOrder}
use Rattle.snoop_core.proofs.Opened.{NodeFits-opening_node}
use Rattle.chip_laws.specs.DocFits.{DocFits}
use Rattle.chip_laws.specs.Meetings.{NodesHold, UnitsKeepShape, UnitsFit}
use Rattle.chip_laws.proofs.Options.{none_some, option_map_some}

get_upwards : (first count k x : ℕ) → slice_get (upwards first count) k ≡ Some x → x ≡ first + k
get_upwards first zero k x at = none_some x at
get_upwards first (suc count) zero x at = let same : first ≡ x = same_Some first x at in omega (arith, same)
get_upwards first (suc count) (suc k) x at = let rest = get_upwards (first + 1) count k x at in omega (arith, rest)

get_replicate : {X : Type 0} (count k : ℕ) (x y : X) → slice_get (replicate count x) k ≡ Some y → x ≡ y
get_replicate zero k x y at = none_some y at
get_replicate (suc count) zero x y at = same_Some x y at
get_replicate (suc count) (suc k) x y at = get_replicate count k x y at

abbrev pub new_unit : Doc → ℕ → UnitState
new_unit d t = opening_unit (chip_of d) t (program_of d t) d.memory

-- the unit of a tile before any event
pub opened_unit : (d : Doc) (t : ℕ) (unit : UnitState) → slice_get (opening d).units t ≡ Some unit → new_unit d t ≡ unit
opened_unit d t unit at =
    option_map_some (new_unit d) (slice_get (upwards 0 (tile_count (chip_of d))) t) unit (sym (slice_get-map (new_unit d) (upwards 0 (tile_count (chip_of d))) t) ∙ at) (λ x there same.
    let place : t ≡ x = sym (get_upwards 0 (tile_count (chip_of d)) t x there ∙ plain t) in
    ap (new_unit d) place ∙ same) where
      plain : (n : ℕ) → 0 + n ≡ n
      plain n = omega arith

abbrev new_interface : Interface
new_interface = record { made = []; posted = 0; delivered = 0 }

new_node : (d : Doc) (t : ℕ) → NodeHolds d (opening d) t new_interface (new_unit d t).node
new_node d t = record {
  chip = refl;
  fits = NodeFits-opening_node (chip_of d) t d.memory;
  agrees = record {
    tile = refl;
    counts = refl;
    lines = λ n q at. none_some q at;
    under_way = record { gets = refl; puts = refl };
    demand = λ demand place stands ordered. none_some demand stands;
  };
  followed = λ demand place stands ordered. none_some demand stands;
  messages = λ place msg at. none_some msg at;
}

pub nodes_opened : (d : Doc) → NodesHold d (opening d)
nodes_opened d t interface unit at_interface at_unit =
    subst (λ (x : UnitState). NodeHolds d (opening d) t interface x.node) (opened_unit d t unit at_unit)
    (subst (λ (i : Interface). NodeHolds d (opening d) t i (new_unit d t).node) (get_replicate (tile_count (chip_of d)) t new_interface interface at_interface) (new_node d t))

pub shapes_opened : (d : Doc) → UnitsKeepShape d (opening d)
shapes_opened d t unit at = subst (UnitFits d t) (opened_unit d t unit at) (record { program = refl; tile = refl; registers = refl })

pub cores_opened : (d : Doc) → CoresInOrder (opening d)
cores_opened d t unit at = subst (InOrderHolds (opening d) t) (opened_unit d t unit at) (record {
  waits = λ demand stands. none_some demand stands;
  numbers = λ place access here own. none_some access here;
  rising = λ before after first second less here there own_first own_second. none_some first here;
  unbuffered = refl;
})

pub fit_opened : (b : Behaviour) (laws : KeepsLaws b) (d : Doc) → DocFits d → UnitsFit b laws (opening d)
fit_opened b laws d fits t unit at =
    subst (λ (x : UnitState). laws.fits x ≡ true) (opened_unit d t unit at) (laws.opened (chip_of d) t (program_of d t) d.memory fits.chip.lines)
