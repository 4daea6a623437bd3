-- Those to whom a node sends data wait for a get of its line: the tile that it supplies, those that wait for its demand, and
-- those that wait at its records.
use Rattle.std.proofs.Common.{◌≡◌, ℕ, suc, ◌+◌, ◌<◌, Bool, true, false, cond, refl, sym, ◌∙◌, ap, subst, arith, inl, Option, Some, None, List, [], ◌∷◌, take}
use Rattle.std.specs.Prelude.{◌==◌, ◌&&◌, ◌||◌, not, filter, slice_get, slice_index_or}
use Rattle.std.specs.List.{AllByRecursion}
use Rattle.std.proofs.lemmas.Bool.{false≢true, and_parts, eqb-true}
use Rattle.mesh_gen.specs.declared.kind.Kind.{Kind}
use Rattle.mesh_gen.specs.declared.kind.Kind.TheVariants.{GetS, GetM, PutM}
use Rattle.mesh_gen.specs.declared.request.Request.{Request}
use Rattle.doc_text.specs.Doc.{Doc}
use Rattle.chip_model.specs.declared.waiting.Waiting.{Waiting}
use Rattle.chip_model.specs.Chip.{Chip, chip_of}
use Rattle.chip_model.specs.Records.{LineRecord}
use Rattle.chip_model.specs.Node.{Node}
use Rattle.chip_model.specs.Units.{UnitState}
use Rattle.chip_model.specs.ChipState.{ChipState}
use Rattle.chip_model.specs.Ownership.{owner, owns, delivered_to}
use Rattle.chip_model.specs.Bookkeeping.{is_get, between, up_to_getm, waiting_for}
use Rattle.chip_model.specs.Suppliers.{count_of, delivered_at, supplier, place_of_ordered, place_of_get, IsOpen, last_written_back, has_reached_memory, waiters_after}
use Rattle.chip_model.specs.ChipInvariant.{ProtocolHolds}
use Rattle.chip_laws.specs.DocLaws.{DocLaws}
use Rattle.chip_laws.proofs.Each.{each_map, each_up_to_getm}
use Rattle.chip_laws.proofs.OrderFrames.{holds_at}
use Rattle.chip_laws.proofs.OrderLists.{get_take}
use Rattle.chip_laws.proofs.RequestsInside.{tile_of, source_inside, request_inside}
use Rattle.chip_laws.proofs.SupplyAccounts.{is_from_memory}
use Rattle.chip_laws.proofs.SupplyDeliveries.{supplier_here}
use Rattle.chip_laws.proofs.UnderWay.{demand_gets}
use Rattle.supply_laws.specs.OpenGets.{WaitsFor}
use Rattle.supply_laws.proofs.DataSends.{AllWaitFor, DemandServes, Supplies}
use Rattle.supply_laws.proofs.GetPlaces.{get_of, get_drop, at_waits}
use Rattle.supply_laws.proofs.ReachedWords.{not_reached}
use Rattle.supply_laws.proofs.OneToComes.{to_come_by}

-- ---- lists
each_passing : {X : Type 0} (P : X → Type 0) (p : X → Bool) (xs : List X) → ((k : ℕ) (x : X) → slice_get xs k ≡ Some x → p x ≡ true → P x) → AllByRecursion P (filter p xs)
each_passing P p [] all = _
each_passing {X} P p (x ∷ xs) all = by (p x) refl (each_passing P p xs (λ k. all (suc k))) where
  by : (b : Bool) → p x ≡ b → AllByRecursion P (filter p xs) → AllByRecursion P (cond {A = List X} b (x ∷ filter p xs) (filter p xs))
  by true passes rest = (all 0 x refl passes, rest)
  by false fails rest = rest

-- the gets of a line that stand after a place and below another wait, where each of them does
pub each_waits : (s : ChipState) (line place below : ℕ) (p : Request → Bool) → ((q : Request) → p q ≡ true → (is_get q.kind ≡ true) × (q.line ≡ line))
    → ((k : ℕ) (q : Request) → place < k → slice_get s.network.ordered k ≡ Some q → is_get q.kind ≡ true → q.line ≡ line → WaitsFor s q.source line)
    → AllWaitFor (WaitsFor s) line (waiting_for (up_to_getm (filter p (between place below s.network.ordered))))
each_waits s line place below p passes each =
    let Waits : Request → Type 0 = λ (q : Request). WaitsFor s q.source line in
    each_map Waits (λ (waiting : Waiting). WaitsFor s waiting.tile line) (λ (q : Request). record { tile = q.source; kind = q.kind })
    (up_to_getm (filter p (between place below s.network.ordered))) (λ q waits. waits)
    (each_up_to_getm Waits (filter p (between place below s.network.ordered))
    (each_passing Waits p (between place below s.network.ordered) (λ k q at is.
    let there = get_take s.network.ordered below (place + 1 + k) q (sym (get_drop (take below s.network.ordered) (place + 1) k) ∙ at) in
    let parts = passes q is in
    each (place + 1 + k) q (omega arith) there parts.0 parts.1)))

-- an open get of a line is one for which its tile waits
pub waits_of : (d : Doc) (s : ChipState) (k line : ℕ) (q : Request) → DocLaws d → ProtocolHolds d s → slice_get s.network.ordered k ≡ Some q → q.line ≡ line → IsOpen s k q
    → WaitsFor s q.source line
waits_of d s k line q fits holds at same is =
    let tile = tile_of d s q.source holds (source_inside d s k q fits holds at) in
    record { unit = tile.unit; unit_at = tile.unit_at; place = k; waits = is tile.unit tile.unit_at; get = q; get_at = at; same = same }

module _ (d : Doc) (s : ChipState) (fits : DocLaws d) (holds : ProtocolHolds d s) where
  -- ---- the tile that a node supplies
  supplied_waits : (u : ℕ) (unit : UnitState) (q : Request) → slice_get s.units u ≡ Some unit → slice_get s.network.ordered unit.node.delivered ≡ Some q → is_get q.kind ≡ true
      → (supplier unit.node.chip q.line (owner q.line (delivered_to s.network.ordered unit.node)) == unit.node.tile) ≡ true → WaitsFor s q.source q.line
  supplied_waits u unit q at next get supplies =
      let here = holds_at d s holds u unit at in
      let n = unit.node.delivered in
      let inside = source_inside d s n q fits holds next in
      let tile = tile_of d s q.source holds inside in
      let who = supplier (chip_of d) q.line (owner q.line (take n s.network.ordered)) in
      let is_tile : who ≡ u =
      ap (λ (c : Chip). supplier c q.line (owner q.line (take n s.network.ordered))) (sym here.holds.node.chip)
      ∙ eqb-true (supplier unit.node.chip q.line (owner q.line (take n s.network.ordered))) unit.node.tile supplies
      ∙ here.holds.node.agrees.tile in
      let count : delivered_at s who ≡ n = ap (delivered_at s) is_tile ∙ ap count_of at in
      let comes = to_come_by (chip_of d) s q.source n q next (get_of q.source q get refl) (omega (arith, count)) in
      record { unit = tile.unit; unit_at = tile.unit_at; place = n; waits = tile.holds.serves.one n comes; get = q; get_at = next; same = refl }

  one_supplies : (a b c : Bool) → cond {A = ℕ} a 1 0 + cond {A = ℕ} b 1 0 ≡ cond {A = ℕ} c 1 0 → ((a || b) ≡ true) → c ≡ true
  one_supplies true b true sum some = refl
  one_supplies false true true sum some = refl
  one_supplies true b false sum some = absurd (omega (arith, sum))
  one_supplies false true false sum some = absurd (omega (arith, sum))
  one_supplies false false true sum some = refl
  one_supplies false false false sum some = some

  or_second : (a b : Bool) → b ≡ true → (a || b) ≡ true
  or_second true b is = refl
  or_second false b is = is

  pub supplies_waiting : (u : ℕ) (unit : UnitState) (q : Request) → slice_get s.units u ≡ Some unit → slice_get s.network.ordered unit.node.delivered ≡ Some q → Supplies (WaitsFor s) unit.node q
  supplies_waiting u unit q at next =
      let here = holds_at d s holds u unit at in
      let inside = request_inside d s unit.node.delivered q fits holds next in
      let line = subst (λ (c : Chip). q.line < c.lines) (sym here.holds.node.chip) inside.line in
      let a = owns unit.node.chip unit.node.side q.line in
      let b = is_from_memory (slice_index_or unit.node.records q.line None) in
      let c = supplier unit.node.chip q.line (owner q.line (delivered_to s.network.ordered unit.node)) == unit.node.tile in
      let sum = supplier_here s.network.ordered q unit.node 1 here.holds.node.fits here.holds.serves.owns line in
      record {
        owned = λ get owned. supplied_waits u unit q at next get (one_supplies a b c sum (ap (λ (x : Bool). x || b) owned));
        memory = λ get memory. supplied_waits u unit q at next get (one_supplies a b c sum (or_second a b memory));
      }

  -- ---- those that wait for a demand
  of_others : (t line : ℕ) (q : Request) → (is_get q.kind && (q.line == line) && not (q.source == t)) ≡ true → (is_get q.kind ≡ true) × (q.line ≡ line)
  of_others t line q is = by (is_get q.kind) (q.line == line) refl refl is where
    by : (a b : Bool) → is_get q.kind ≡ a → (q.line == line) ≡ b → (a && b && not (q.source == t)) ≡ true → (is_get q.kind ≡ true) × (q.line ≡ line)
    by true true a b both = (a, eqb-true q.line line b)
    by true false a b both = absurd (false≢true both)
    by false x a b both = absurd (false≢true both)

  nobody : (line : ℕ) (list : List Waiting) → list ≡ [] → AllWaitFor (WaitsFor s) line list
  nobody line list none = subst (AllWaitFor (WaitsFor s) line) (sym none) _

  pub demand_waits : (u : ℕ) (unit : UnitState) → slice_get s.units u ≡ Some unit → DemandServes (WaitsFor s) unit.node.side
  demand_waits u unit at demand stands = by demand.kind demand.ordered refl refl where
    by : (kind : Kind) (o : Option ℕ) → demand.kind ≡ kind → demand.ordered ≡ o → AllWaitFor (WaitsFor s) demand.line demand.list
    by GetS o kind ordered =
        let here = holds_at d s holds u unit at in
        nobody demand.line demand.list ((here.holds.node.fits.side.demand demand stands).reads kind)
    by PutM o kind ordered =
        let here = holds_at d s holds u unit at in
        absurd (false≢true (sym (ap is_get kind) ∙ demand_gets unit.node.chip unit.node.side demand here.holds.node.fits.side stands))
    by GetM None kind ordered =
        let here = holds_at d s holds u unit at in
        nobody demand.line demand.list ((here.holds.node.fits.side.demand demand stands).unordered ordered).0
    by GetM (Some g) kind ordered =
        let here = holds_at d s holds u unit at in
        let is = here.holds.node.agrees.demand demand g stands ordered in
        let open_at : place_of_get s unit.node ≡ Some g = at_waits s.network.ordered unit.node g (inl (ap place_of_ordered stands ∙ ordered)) in
        let source_at : slice_get s.units is.request.source ≡ Some unit = ap (slice_get s.units) (is.source ∙ here.holds.node.agrees.tile) ∙ at in
        subst (AllWaitFor (WaitsFor s) demand.line) (sym ((here.holds.node.followed demand g stands ordered).list kind))
        (each_waits s demand.line g unit.node.delivered (λ (q : Request). is_get q.kind && (q.line == demand.line) && not (q.source == unit.node.tile)) (of_others unit.node.tile demand.line)
        (λ k q beyond there get line.
        waits_of d s k demand.line q fits holds there line
        ((holds.wait demand.line).after_write g k is.request q unit beyond is.at (is.kind ∙ kind) is.line source_at open_at there get line)))

  -- ---- those that wait at a record
  of_line : (line : ℕ) (q : Request) → (is_get q.kind && (q.line == line)) ≡ true → (is_get q.kind ≡ true) × (q.line ≡ line)
  of_line line q is = let parts = and_parts (is_get q.kind) (q.line == line) is in (parts.0, eqb-true q.line line parts.1)

  waits_after : (line : ℕ) (node : Node) (o : Option ℕ) → AllWaitFor (WaitsFor s) line (waiters_after s node line o)
  waits_after line node None = _
  waits_after line node (Some place) = by (has_reached_memory s line place) refl where
    by : (b : Bool) → has_reached_memory s line place ≡ b
        → AllWaitFor (WaitsFor s) line
        (cond {A = List Waiting} b [] (waiting_for (up_to_getm (filter (λ (q : Request). is_get q.kind && (q.line == line)) (between place node.delivered s.network.ordered)))))
    by true reached = _
    by false waits =
        let back = not_reached s line place waits in
        each_waits s line place node.delivered (λ (q : Request). is_get q.kind && (q.line == line)) (of_line line) (λ k q beyond there get same.
        waits_of d s k line q fits holds there same ((holds.wait line).after_back place k q back.some back.last beyond there get same))

  pub waiters_wait : (u : ℕ) (unit : UnitState) (line : ℕ) (r : LineRecord) → slice_get s.units u ≡ Some unit → slice_index_or unit.node.records line None ≡ Some r
      → AllWaitFor (WaitsFor s) line r.waiters
  waiters_wait u unit line r at there =
      let here = holds_at d s holds u unit at in
      subst (AllWaitFor (WaitsFor s) line) (sym (here.holds.serves.waiters line r there)) (by r.fresh) where
        by : (fresh : Bool) → AllWaitFor (WaitsFor s) line (cond {A = List Waiting} fresh [] (waiters_after s unit.node line (last_written_back line (delivered_to s.network.ordered unit.node))))
        by true = _
        by false = waits_after line unit.node (last_written_back line (delivered_to s.network.ordered unit.node))
