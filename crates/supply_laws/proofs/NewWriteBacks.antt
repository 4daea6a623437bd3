-- Of the requests by which the order grows at most one writes a line back, and none while words of the line are due.
use Rattle.std.proofs.Common.{◌≡◌, ◌≢◌, ℕ, ◌+◌, ◌<◌, ◌≤◌, true, false, List, ◌++◌, length, refl, sym, ◌∙◌, ap, arith, inl, inr, Option, Some, None}
use Rattle.std.specs.Prelude.{◌==◌, is_some, slice_get}
use Rattle.std.proofs.lemmas.Bool.{eq-eqb, both_ways, cases_lt, cases_order, false≢true, false_from_ne_true}
use Rattle.std.proofs.lemmas.Option.{same_Some}
use Rattle.mesh_gen.specs.declared.kind.Kind.TheVariants.{GetM, PutM}
use Rattle.mesh_gen.specs.declared.request.Request.{Request}
use Rattle.chip_model.specs.Misses.{Demand}
use Rattle.chip_model.specs.OrderedNetwork.{Interface}
use Rattle.chip_model.specs.NetworkFits.{InterfaceAgrees}
use Rattle.chip_model.specs.Bookkeeping.{is_get, TileAgrees}
use Rattle.doc_text.specs.Doc.{Doc}
use Rattle.snoop_core.specs.Requests.{MeetsBack}
use Rattle.chip_model.specs.Units.{UnitState}
use Rattle.chip_model.specs.ChipState.{ChipState}
use Rattle.chip_model.specs.NodeShape.{SideFits}
use Rattle.chip_model.specs.Suppliers.{delivered_at, writes_back, last, last_written_back, ReachesMemory, GetsWait, IsOpen}
use Rattle.net_iface.proofs.Named.{slice_get-append_left}
use Rattle.chip_laws.proofs.Supplied.{Grows}
use Rattle.supply_laws.specs.OwnerGets.{OwnerGet}
use Rattle.supply_laws.proofs.LastPlaces.{LastIs, NonePasses, passing, last_is}
use Rattle.supply_laws.proofs.OwnerGets.{BackOf, owner_get, back_of}
use Rattle.supply_laws.proofs.Undelivered.{undelivered_get, undelivered_put}
use Rattle.supply_laws.proofs.OpenGets.{open_get}
use Rattle.supply_laws.proofs.Ticked.{TickedTile}
use Rattle.supply_laws.proofs.WriteBackPlaces.{writes_back_grown, last_of_all}
use Rattle.supply_laws.proofs.WordsDue.{due}

-- a tile that agrees with the order before and after it grows
pub record TileOfSource (d : Doc) (s new : ChipState) (t : ℕ) : Type 0 where
  pub unit : UnitState
  pub at : slice_get s.units t ≡ Some unit
  pub within : unit.node.delivered ≤ length s.network.ordered
  pub side : SideFits unit.node.chip unit.node.side
  pub interface : Interface
  pub agrees : InterfaceAgrees s.network t interface
  pub tile : TileAgrees s.network t interface unit.node
  pub ticked : TickedTile d new t unit

-- the order grows by requests of tiles of the chip
pub record OrdersMore (d : Doc) (s new : ChipState) (more : List Request) : Type 0 where
  pub grows : Grows s new more
  pub within : (v : ℕ) → delivered_at s v ≤ length s.network.ordered
  pub sources : (k : ℕ) (q : Request) → slice_get (s.network.ordered ++ more) k ≡ Some q → TileOfSource d s new q.source

-- ---- a request that writes back, and the GetM from which its tile owned the line
pub record BackFrom (line place : ℕ) (ordered : List Request) : Type 0 where
  pub back : BackOf line place ordered
  pub get : OwnerGet line back.put.source place ordered

pub back_from : (line place : ℕ) (ordered : List Request) → writes_back line ordered place ≡ true → BackFrom line place ordered
back_from line place ordered is =
    let b = back_of line place ordered is in
    record { back = b; get = owner_get line b.put.source place ordered b.owned }

getm_not_putm : (q r : Request) → q ≡ r → q.kind ≡ GetM → r.kind ≡ PutM → ⊥
getm_not_putm q r same get put = let kinds : GetM ≡ PutM = sym get ∙ ap (λ (x : Request). x.kind) same ∙ put in absurd (cc)

-- it stands after each earlier request that writes the line back
pub get_after_back : (line k place : ℕ) (ordered : List Request) → writes_back line ordered k ≡ true → k < place → (from : BackFrom line place ordered) → k < from.get.place
get_after_back line k place ordered writes before from = elim (cases_order k from.get.place) [
  | inl same ↦ (
      let earlier = back_of line k ordered writes in
      absurd (getm_not_putm from.get.get earlier.put (same_Some from.get.get earlier.put (sym from.get.at ∙ (ap (slice_get ordered) (sym same) ∙ earlier.at))) from.get.kind earlier.kind))
  | inr (inl less) ↦ less
  | inr (inr more) ↦ absurd (both_ways (writes_back line ordered k) (from.get.last.backs k (omega (arith, more)) before) writes)
]

-- ---- what the order grows by
module _ (d : Doc) (s new : ChipState) (more : List Request) (orders : OrdersMore d s new more) (line : ℕ) where
  abbrev before : List Request
  before = s.network.ordered

  abbrev after : List Request
  after = s.network.ordered ++ more

  new_at : (k : ℕ) (q : Request) → slice_get after k ≡ Some q → slice_get new.network.ordered k ≡ Some q
  new_at k q at = ap (λ (rs : List Request). slice_get rs k) orders.grows.order ∙ at

  -- the write-back at a new place is the tile's
  put_for : (place : ℕ) (from : BackFrom line place after) → (tile : TileOfSource d s new from.back.put.source) → length before ≤ place → MeetsBack tile.unit.node.side from.back.put
  put_for place from tile above =
      undelivered_put new.network from.back.put.source tile.ticked.interface tile.unit.node place from.back.put tile.ticked.agrees tile.ticked.node.agrees
      (new_at place from.back.put from.back.at) refl (omega (arith, tile.within, above)) (ap is_get from.back.kind)

  -- a tile does not wait for the line that it writes back
  not_both : (unit : UnitState) (put : Request) (demand : Demand) → SideFits unit.node.chip unit.node.side → unit.node.side.misses.demand ≡ Some demand → demand.line ≡ line
      → MeetsBack unit.node.side put → put.line ≡ line → ⊥
  not_both unit put demand side stands of_line back put_line =
      both_ways (demand.line == back.0.line) (side.apart demand back.0 stands back.1) (eq-eqb demand.line back.0.line (of_line ∙ sym (back.2.line ∙ put_line)))

  -- both its GetM and the write-back are new
  new_get_not : (place : ℕ) (from : BackFrom line place after) → TileOfSource d s new from.back.put.source → length before ≤ from.get.place → ⊥
  new_get_not place from tile above =
      let asked = undelivered_get new.network from.back.put.source tile.ticked.interface tile.unit.node from.get.place from.get.get tile.ticked.agrees tile.ticked.node.agrees
      (new_at from.get.place from.get.get from.get.at) from.get.source (omega (arith, tile.within, above)) (ap is_get from.get.kind) in
      not_both tile.unit from.back.put asked.0 tile.side asked.1 (asked.2.line ∙ from.get.same) (put_for place from tile (omega (arith, above, from.get.before))) from.back.same

  -- at most one new request writes the line back
  pub one_new : (k place : ℕ) → length before ≤ k → k < place → writes_back line after k ≡ true → writes_back line after place ≡ true → ⊥
  one_new k place above less first second =
      let from = back_from line place after second in
      let later = get_after_back line k place after first less from in
      new_get_not place from (orders.sources place from.back.put from.back.at) (omega (arith, above, later))

  -- none does while words are due from an earlier one
  pub none_while_due : ReachesMemory s line → GetsWait s line → 0 < due s line → (place : ℕ) → length before ≤ place → writes_back line after place ≡ true → ⊥
  none_while_due reaches waits some place above writes = by (last_written_back line before) refl (last_of_all line before) (reaches.last some)
    where
      by : (o : Option ℕ) → last_written_back line before ≡ o → LastIs (writes_back line before) 0 (length before) o → is_some o ≡ true → ⊥
      by None last_here none there = absurd (false≢true there)
      by (Some g) last_here is there =
          let from = back_from line place after writes in
          let tile = orders.sources place from.back.put from.back.at in
          let inside : g < length before = omega (arith, is.below) in
          let later = get_after_back line g place after (writes_back_grown line before more g inside ∙ is.passes) (omega (arith, inside, above)) from in
          elim (cases_lt from.get.place (length before)) [
            | inl old ↦ (
                let at : slice_get before from.get.place ≡ Some from.get.get = sym (slice_get-append_left before more from.get.place old) ∙ from.get.at in
                let opens : IsOpen s from.get.place from.get.get = waits.after_back g from.get.place from.get.get some last_here later at (ap is_get from.get.kind) from.get.same in
                let own : slice_get s.units from.get.get.source ≡ Some tile.unit = ap (slice_get s.units) from.get.source ∙ tile.at in
                let asked = open_get s.network from.back.put.source tile.interface tile.unit.node from.get.place tile.agrees tile.tile tile.side (opens tile.unit own) in
                let same : asked.get ≡ from.get.get = same_Some asked.get from.get.get (sym asked.at ∙ at) in
                not_both tile.unit from.back.put asked.demand tile.side asked.stands (asked.line ∙ ap (λ (q : Request). q.line) same ∙ from.get.same)
                (put_for place from tile above) from.back.same)
            | inr late ↦ new_get_not place from tile late
          ]

  -- the one new request that writes the line back
  pub record IsNewBack (place : ℕ) : Type 0 where
    pub above : length before ≤ place
    pub below : place < length before + length more
    pub writes : writes_back line after place ≡ true
    pub only : (k : ℕ) → length before ≤ k → k < length before + length more → k ≢ place → writes_back line after k ≡ false
    pub none_due : due s line ≡ 0

  abbrev pub NewBackIs : Option ℕ → Type 0
  NewBackIs None = NonePasses (writes_back line after) (length before) (length more)
  NewBackIs (Some place) = IsNewBack place

  abbrev pub new_back : Option ℕ
  new_back = last (passing (writes_back line after) (length before) (length more))

  pub new_back_is : ReachesMemory s line → GetsWait s line → NewBackIs new_back
  new_back_is reaches waits = by new_back (last_is (writes_back line after) (length before) (length more)) where
    by : (o : Option ℕ) → LastIs (writes_back line after) (length before) (length more) o → NewBackIs o
    by None none = none
    by (Some place) is = record {
      above = is.from;
      below = is.below;
      writes = is.passes;
      only = λ k above below away. elim (cases_lt place k) [
        | inl later ↦ is.after k later below
        | inr earlier ↦ false_from_ne_true (writes_back line after k) (λ writes. one_new k place above (omega (arith, earlier, away)) writes is.passes)
      ];
      none_due = let none : 0 < due s line → ⊥ = λ some. none_while_due reaches waits some place is.from is.passes in omega (arith, none);
    }
