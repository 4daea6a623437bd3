-- A demand completes: the request for which it stands, the words that came for it, and the access that its tile performs with them.
use Rattle.std.proofs.Common.{◌≡◌, ℕ, ◌+◌, ◌<◌, ◌≤◌, true, refl, sym, ◌∙◌, ap, arith, Some, List, [], ◌∷◌, ◌++◌, set}
use Rattle.std.specs.Prelude.{◌==◌, ◌&&◌, nat_le, filter, slice_get}
use Rattle.std.specs.List.{list_any, AllByRecursion}
use Rattle.std.proofs.lemmas.Bool.{and_parts, eqb-true, leb-true, false_from_ne_true}
use Rattle.mesh_gen.specs.declared.kind.Kind.TheVariants.{GetS, GetM}
use Rattle.mesh_gen.specs.declared.request.Request.{Request}
use Rattle.report_text.specs.declared.access.Access.{Access}
use Rattle.report_text.specs.declared.access.AccessKind.{AccessKind}
use Rattle.report_text.specs.declared.access.AccessKind.TheVariants.{Load, Store, Swap, Add}
use Rattle.report_text.specs.Accesses.{writes, word_after}
use Rattle.doc_text.specs.Doc.{Doc}
use Rattle.chip_model.specs.Chip.{line_of, word_of}
use Rattle.chip_model.specs.Misses.{Demand, is_getm, request_for}
use Rattle.chip_model.specs.Snoop.{completed, done_by, word_in, written_by}
use Rattle.chip_model.specs.Units.{UnitState}
use Rattle.chip_model.specs.ChipState.{ChipState}
use Rattle.chip_model.specs.BehaviourLaws.{numbered}
use Rattle.chip_model.specs.NodeShape.{DemandFits}
use Rattle.chip_model.specs.Bookkeeping.{is_get_of, between, gets_of_others, up_to_getm, waiting_for}
use Rattle.chip_model.specs.Suppliers.{place_of_get}
use Rattle.chip_model.specs.Witness.{is_write, writes_by, with_write, line_value}
use Rattle.chip_model.specs.Writers.{IsSettled, latest_time}
use Rattle.chip_model.specs.Values.{HasValue}
use Rattle.chip_model.specs.ChipInvariant.{ProtocolHolds}
use Rattle.chip_laws.proofs.Each.{each_from}
use Rattle.chip_laws.proofs.SuppliedEvents.{unit_holds}
use Rattle.value_laws.specs.Sequences.{Follows}
use Rattle.value_laws.proofs.Sequences.{before_time, all_succeed}
use Rattle.value_laws.proofs.LineValues.{value_kept}

-- The demand's request stands at a place of the order, with what the requests delivered after it have made of the demand; the
-- words have the line's value there; and the access has the time after it.
pub record Completion (d : Doc) (s new : ChipState) (t : ℕ) (unit after : UnitState) : Type 0 where
  pub at_unit : slice_get s.units t ≡ Some unit
  pub demand : Demand
  pub stands : unit.node.side.misses.demand ≡ Some demand
  pub place : ℕ
  pub get : Request
  pub at : slice_get s.network.ordered place ≡ Some get
  pub source : get.source ≡ t
  pub kind : get.kind ≡ demand.kind
  pub line : get.line ≡ demand.line
  pub waits : place_of_get s unit.node ≡ Some place
  pub latest : latest_time unit.node ≤ place
  pub late : demand.kind ≡ GetM → (p : ℕ) → IsSettled s.network.ordered unit.node demand.line p → p ≤ place
  pub reached : place < after.node.delivered
  pub once : demand.kind ≡ GetS
      → demand.once ≡ list_any (λ (q : Request). is_getm q.kind) (gets_of_others t demand.line (between place after.node.delivered s.network.ordered))
  pub list : demand.kind ≡ GetM → demand.list ≡ waiting_for (up_to_getm (gets_of_others t demand.line (between place after.node.delivered s.network.ordered)))
  pub alone : filter (is_get_of t) (between place after.node.delivered s.network.ordered) ≡ []
  pub words : List ℕ
  pub has : HasValue d s demand.line place words
  pub side : after.node.side ≡ (completed unit.node.chip demand place words unit.node.side).side
  pub access : Access
  pub accesses : new.accesses ≡ s.accesses ++ access ∷ []
  pub tile : access.tile ≡ t
  pub time : access.time ≡ place + 1
  pub address : access.address ≡ demand.pending.address
  pub access_kind : access.kind ≡ demand.pending.kind
  pub value : access.value ≡ word_after demand.pending.kind demand.pending.value (word_in words demand.pending.address)

-- the access of a completion is that of its demand, with the words that came
pub record CompletesBy (d : Doc) (s new : ChipState) (t : ℕ) (unit after : UnitState) (number : ℕ) : Type 0 where
  pub is : Completion d s new t unit after
  pub same : is.access ≡ numbered unit (done_by is.demand.pending (is.place + 1) is.words) number

-- a kind of access writes where its request asks to
writes_asks : (kind : AccessKind) → writes kind ≡ is_getm (request_for kind)
writes_asks Load = refl
writes_asks Store = refl
writes_asks Swap = refl
writes_asks Add = refl

module _ (d : Doc) (s new : ChipState) (t : ℕ) (unit after : UnitState) (holds : ProtocolHolds d s) (is : Completion d s new t unit after) where
  pub fits : DemandFits unit.node.chip unit.node.side.cache is.demand
  fits = (unit_holds d s t unit holds is.at_unit).holds.node.fits.side.demand is.demand is.stands

  pub at_line : line_of is.access.address ≡ is.demand.line
  at_line = ap line_of is.address ∙ fits.line

  pub write_asks : is_write is.access ≡ is_getm is.demand.kind
  write_asks = ap writes is.access_kind ∙ (writes_asks is.demand.pending.kind ∙ sym (ap is_getm fits.asks))

  -- what it leaves of the words
  pub with_access : with_write is.words is.access ≡ written_by is.demand.pending is.words
  with_access =
      ap (λ (address : ℕ). set is.words (word_of address) is.access.value) is.address
      ∙ ap (set is.words (word_of is.demand.pending.address)) is.value

  -- its tile's accesses come before it
  pub own_before : (i : ℕ) (b : Access) → slice_get s.accesses i ≡ Some b → b.tile ≡ t → b.time ≤ is.place
  own_before i b at own = let early : b.time ≤ latest_time unit.node = holds.timely.times t i unit b is.at_unit at own in omega (arith, early, is.latest)

  pub follows : AllByRecursion (λ b. Follows b is.access) s.accesses
  follows = each_from (λ b. Follows b is.access) s.accesses (λ i b at same.
      let early = own_before i b at (same ∙ is.tile) in before_time b is.access (omega (arith, early, is.time)))

  -- the value of a line stays where the access does not count
  pub value_elsewhere : (line p : ℕ) → (is_write is.access ≡ true → line ≡ is.demand.line → p ≤ is.place)
      → line_value d new.accesses line p ≡ line_value d s.accesses line p
  value_elsewhere line p apart =
      ap (λ (xs : List Access). line_value d xs line p) is.accesses
      ∙ value_kept d s.accesses is.access line p (all_succeed is.access s.accesses follows) (false_from_ne_true (writes_by line p is.access) (λ counts.
      let both = and_parts (is_write is.access && (line_of is.access.address == line)) (nat_le is.access.time p) counts in
      let first = and_parts (is_write is.access) (line_of is.access.address == line) both.0 in
      let early : is.access.time ≤ p = leb-true is.access.time p both.1 in
      let late = apart first.0 (sym (eqb-true (line_of is.access.address) line first.1) ∙ at_line) in
      absurd (omega (arith, early, late, is.time))))
