-- What the delivery of a request asks of a node holds where an event delivers it: there is room for one tile more in the
-- list of a demand and among those that wait at a home, and in the queue for what the node sends.
use Rattle.std.proofs.Common.{◌≡◌, ◌≢◌, ℕ, ◌+◌, ◌<◌, ◌≤◌, Bool, true, false, cond, List, [], ◌∷◌, length, take, refl, sym, ◌∙◌, ap, subst, arith, Option, Some, None}
use Rattle.std.specs.Prelude.{◌==◌, ◌&&◌, ◌||◌, IsTrue, is_some, slice_get}
use Rattle.std.specs.List.{list_any}
use Rattle.std.proofs.lemmas.Bool.{false≢true, eqb-true, not-true, or_right}
use Rattle.std.proofs.lemmas.Option.{slice_get_within}
use Rattle.mesh_gen.specs.declared.kind.Kind.{Kind}
use Rattle.mesh_gen.specs.declared.kind.Kind.TheVariants.{GetS, GetM, PutM}
use Rattle.mesh_gen.specs.declared.request.Request.{Request}
use Rattle.mesh_gen.specs.Ports.{count_if}
use Rattle.doc_text.specs.Doc.{Doc}
use Rattle.chip_model.specs.declared.owner.Owner.{Owner}
use Rattle.chip_model.specs.declared.owner.Owner.TheVariants.{Memory, Tile}
use Rattle.chip_model.specs.declared.waiting.Waiting.{Waiting}
use Rattle.chip_model.specs.Chip.{Chip, chip_of, tile_count, home}
use Rattle.chip_model.specs.Misses.{Demand, is_getm, ends_in_getm}
use Rattle.chip_model.specs.OrderedNetwork.{OrderedNetwork, Interface, after_delivery}
use Rattle.chip_model.specs.Snoop.{OpenWrite, holding}
use Rattle.chip_model.specs.Records.{LineRecord}
use Rattle.chip_model.specs.Node.{Node, node_after_request}
use Rattle.chip_model.specs.Units.{UnitState}
use Rattle.chip_model.specs.ChipState.{ChipState}
use Rattle.chip_model.specs.Ownership.{owner, is_tile, owns, delivered_to}
use Rattle.chip_model.specs.Bookkeeping.{is_get, is_get_of, between, up_to_getm, waiting_for}
use Rattle.chip_model.specs.Suppliers.{count_of, delivered_at, supplier, is_to_come, places_in, places_at, places_after, promised_by, last_written_back, has_reached_memory, waiters_after}
use Rattle.chip_model.specs.ChipInvariant.{ProtocolHolds}
use Rattle.mem_ctrl.specs.Owners.{record_of}
use Rattle.mem_ctrl.specs.Waits.{Waits}
use Rattle.snoop_core.specs.Requests.{OwnRequestFits}
use Rattle.snoop_core.proofs.HoldingCases.{holding_open_write}
use Rattle.chip_laws.specs.DocLaws.{DocLaws}
use Rattle.chip_laws.specs.Tiles.{TileOf}
use Rattle.chip_laws.proofs.Calls.{own_requests_fit}
use Rattle.chip_laws.proofs.Deliveries.{deliveries_fit}
use Rattle.chip_laws.proofs.NodeMessages.{RequestInside, SendsFit}
use Rattle.chip_laws.proofs.NodeKeeps.{node_keeps, delivered_keeps}
use Rattle.chip_laws.proofs.OrderFrames.{HoldsAt, holds_at}
use Rattle.chip_laws.proofs.RequestsInside.{tile_of, request_inside, sends_fit, waiters_inside}
use Rattle.chip_laws.proofs.SupplyAccounts.{is_memory, promised}
use Rattle.chip_laws.proofs.SupplyCounts.{slice_of_index}
use Rattle.chip_laws.proofs.SupplyDeliveries.{delivered_promises, supplier_here}
use Rattle.chip_laws.proofs.SupplyRoom.{sum_by-part, one_answer, promised_once}
use Rattle.chip_laws.proofs.SupplySends.{owns_holding, is_owned_holding}
use Rattle.chip_laws.proofs.WaitsToCome.{count_by-some}
use Rattle.supply_laws.specs.UnitCalls.{DeliveryFits}
use Rattle.supply_laws.proofs.AnsweredHomes.{since_last}
use Rattle.supply_laws.proofs.FewTiles.{one_more_waits, few_messages}
use Rattle.supply_laws.proofs.OneToComes.{to_come_by}
use Rattle.supply_laws.proofs.WriteBackPlaces.{gets_for, any_writes, any_waits}

-- ---- the next request, and whether its tile or the home is the supplier
abbrev supplies_here : ChipState → Node → Request → Bool
supplies_here s node q = supplier node.chip q.line (owner q.line (delivered_to s.network.ordered node)) == node.tile

-- what a node has promised a tile, and the get of that tile that the node is to supply next, are one answer at most
pub promised_or_next : (d : Doc) (s : ChipState) (t x : ℕ) (unit : UnitState) (q : Request) → ProtocolHolds d s → slice_get s.units t ≡ Some unit
    → slice_get s.network.ordered unit.node.delivered ≡ Some q → x < tile_count (chip_of d) → promised x unit.node + cond (supplies_here s unit.node q) (count_if (is_get_of x q)) 0 ≤ 1
promised_or_next d s t x unit q holds at next inside = by (supplies_here s unit.node q) (is_get_of x q) refl refl where
  n : ℕ
  n = unit.node.delivered

  own : TileOf d s x
  own = tile_of d s x holds inside

  once : promised x unit.node ≤ 1
  once = promised_once d s x t own.unit unit holds own.unit_at at

  by : (here get : Bool) → supplies_here s unit.node q ≡ here → is_get_of x q ≡ get → promised x unit.node + cond here (count_if get) 0 ≤ 1
  by false get e g = omega (arith, once)
  by true false e g = omega (arith, once)
  by true true e g =
      let node = (holds_at d s holds t unit at).holds.node in
      let supplies : supplier (chip_of d) q.line (owner q.line (take n s.network.ordered)) ≡ t =
      ap (λ (c : Chip). supplier c q.line (owner q.line (take n s.network.ordered))) (sym node.chip)
      ∙ eqb-true (supplier unit.node.chip q.line (owner q.line (take n s.network.ordered))) unit.node.tile e
      ∙ node.agrees.tile in
      let count : delivered_at s (supplier (chip_of d) q.line (owner q.line (take n s.network.ordered))) ≡ n = ap (delivered_at s) supplies ∙ ap count_of at in
      let comes = to_come_by (chip_of d) s x n q next g (omega (arith, count)) in
      let within = slice_get_within s.network.ordered n q next in
      let some = count_by-some (is_to_come (chip_of d) s x) 0 (length s.network.ordered) n (omega arith) (omega (arith, within)) comes in
      omega (arith, some, one_answer d s x own.unit holds own.unit_at, sum_by-part (promised_by x) s.units t unit at)

get_by : (t : ℕ) (q : Request) → is_get q.kind ≡ true → count_if (is_get_of t q) ≡ count_if (q.source == t)
get_by t q get = ap (λ (b : Bool). count_if (b && (q.source == t))) get

-- the node is the supplier where its cache side owns the line
tile_supplies : (chip : Chip) (t line : ℕ) (o : Owner) → is_tile t o ≡ true → (supplier chip line o == t) ≡ true
tile_supplies chip t line Memory is = absurd (false≢true is)
tile_supplies chip t line (Tile v) is = is

-- where the last one that waits is to write, one is to write
ends_writes : (list : List Waiting) → ends_in_getm list ≡ true → list_any (λ (w : Waiting). is_getm w.kind) list ≡ true
ends_writes [] ends = ends
ends_writes (last ∷ []) ends = ap (λ (b : Bool). b || false) ends
ends_writes (first ∷ next ∷ rest) ends = or_right (is_getm first.kind) (list_any (λ (w : Waiting). is_getm w.kind) (next ∷ rest)) (ends_writes (next ∷ rest) ends)

module _ (d : Doc) (s : ChipState) (t : ℕ) (unit : UnitState) (q : Request) (fits : DocLaws d) (holds : ProtocolHolds d s) (at : slice_get s.units t ≡ Some unit)
    (next : slice_get s.network.ordered unit.node.delivered ≡ Some q) where
  abbrev node : Node
  node = unit.node

  here : HoldsAt d s t unit
  here = holds_at d s holds t unit at

  inside : RequestInside (chip_of d) q
  inside = request_inside d s node.delivered q fits holds next

  sends : SendsFit (chip_of d) node.side
  sends = sends_fit d s node fits holds here.holds.node.chip here.holds.node.fits here.holds.node.followed

  line_here : q.line < node.chip.lines
  line_here = subst (λ (c : Chip). q.line < c.lines) (sym here.holds.node.chip) inside.line

  -- ---- the list of a demand
  pub list_room : (demand : Demand) → is_get q.kind ≡ true → holding node.chip node.side q.line ≡ OpenWrite demand → length demand.list < tile_count (chip_of d)
  list_room demand get has =
      let open_write = holding_open_write node.chip node.side q.line demand has in
      let owned : owns node.chip node.side q.line ≡ true = owns_holding node.chip node.side q.line ∙ ap is_owned_holding has in
      let o = owner q.line (delivered_to s.network.ordered node) in
      let supplies : supplies_here s node q ≡ true = tile_supplies node.chip node.tile q.line o (sym (here.holds.serves.owns.lines q.line) ∙ owned) in
      one_more_waits (chip_of d) demand.list q (sends.list demand open_write.stands) inside.source (λ x below.
      let next_get : cond (supplies_here s node q) (count_if (is_get_of x q)) 0 ≡ count_if (q.source == x) = ap (λ (b : Bool). cond b (count_if (is_get_of x q)) 0) supplies ∙ get_by x q get in
      let listed : places_after x node.side.misses.demand ≡ places_in x demand.list = ap (places_after x) open_write.stands in
      omega (arith, promised_or_next d s t x unit q holds at next below, next_get, listed))

  -- ---- those that wait at a home
  pub waiters_room : (r : LineRecord) → record_of node.records q.line ≡ Some r → Waits q r → length r.waiters < tile_count (chip_of d)
  waiters_room r there waits =
      let o = owner q.line (delivered_to s.network.ordered node) in
      let memory : o ≡ Memory = sym (here.holds.serves.owns.records q.line r there) ∙ waits.owner in
      let home_here : (home node.chip q.line == node.tile) ≡ true = sym (here.holds.node.fits.lines.records q.line line_here) ∙ ap is_some there in
      let supplies : supplies_here s node q ≡ true = ap (λ (w : Owner). supplier node.chip q.line w == node.tile) memory ∙ home_here in
      one_more_waits (chip_of d) r.waiters q (waiters_inside d s node q.line r fits holds here.holds.serves.waiters there) inside.source (λ x below.
      let next_get : cond (supplies_here s node q) (count_if (is_get_of x q)) 0 ≡ count_if (q.source == x) = ap (λ (b : Bool). cond b (count_if (is_get_of x q)) 0) supplies ∙ get_by x q waits.get in
      let part = sum_by-part (places_at x) node.records q.line (Some r) (slice_of_index node.records q.line r there) in
      omega (arith, promised_or_next d s t x unit q holds at next below, next_get, part))

  -- ---- the queue
  pub queue_room : OwnRequestFits node.tile node.side q → length (node_after_request q node).0.out ≤ tile_count (chip_of d) + 1
  queue_room own =
      let later : Interface = record here.interface { delivered = here.interface.delivered + 1 } in
      let after =
      delivered_keeps (chip_of d) s.network t here.interface later node q (holds.network.requests.agree t here.interface here.at) next inside sends here.holds.serves.owns refl refl
      (node_keeps d s t here.interface node here.holds.node) in
      let back = after.fits.back in
      few_messages (chip_of d) (node_after_request q node).0.out after.messages (λ x below.
      omega (
        arith,
        promised_or_next d s t x unit q holds at next below,
        delivered_promises x q node here.holds.node.fits.side own,
        supplier_here s.network.ordered q node (count_if (is_get_of x q)) here.holds.node.fits here.holds.serves.owns line_here,
      ))
      (omega (arith, back))

  -- ---- nobody who waits at a home of a line that memory owns is to write
  waits_since : (place : Option ℕ) → last_written_back q.line (take node.delivered s.network.ordered) ≡ place → owner q.line (take node.delivered s.network.ordered) ≡ Memory
      → IsTrue (ends_in_getm (waiters_after s node q.line place)) → ⊥
  waits_since None last memory ends = false≢true ends
  waits_since (Some place) last memory ends =
      let xs = gets_for q.line (between place node.delivered s.network.ordered) in
      let within = slice_get_within s.network.ordered node.delivered q next in
      let none : any_writes xs ≡ false = not-true (any_writes xs) (sym (since_last q.line node.delivered place s.network.ordered (omega (arith, within)) last) ∙ ap is_memory memory) in
      by (has_reached_memory s q.line place) none ends
    where
      by : (reached : Bool) → any_writes (gets_for q.line (between place node.delivered s.network.ordered)) ≡ false
          → ends_in_getm (cond {A = List Waiting} reached [] (waiting_for (up_to_getm (gets_for q.line (between place node.delivered s.network.ordered))))) ≡ true → ⊥
      by true none ends = false≢true ends
      by false none ends =
          let xs = gets_for q.line (between place node.delivered s.network.ordered) in
          false≢true (sym none ∙ sym (any_waits xs) ∙ ends_writes (waiting_for (up_to_getm xs)) ends)

  pub waiters_read : (r : LineRecord) → record_of node.records q.line ≡ Some r → Waits q r → ¬ IsTrue (ends_in_getm r.waiters)
  waiters_read r there waits ends =
      let memory : owner q.line (take node.delivered s.network.ordered) ≡ Memory = sym (here.holds.serves.owns.records q.line r there) ∙ waits.owner in
      let waiters : r.waiters ≡ waiters_after s node q.line (last_written_back q.line (take node.delivered s.network.ordered)) =
      here.holds.serves.waiters q.line r there
      ∙ ap (λ (b : Bool). cond {A = List Waiting} b [] (waiters_after s node q.line (last_written_back q.line (take node.delivered s.network.ordered)))) waits.words in
      waits_since (last_written_back q.line (take node.delivered s.network.ordered)) refl memory (sym (ap ends_in_getm waiters) ∙ ends)

-- ---- all that the delivery asks
pub delivery_fits : (places queue : ℕ) (d : Doc) (s : ChipState) (t : ℕ) (unit : UnitState) (q : Request) (net : OrderedNetwork) → tile_count (chip_of d) ≤ places → tile_count (chip_of d) + 1 ≤ queue
    → DocLaws d → ProtocolHolds d s → slice_get s.units t ≡ Some unit → after_delivery (chip_of d) s.network t ≡ Some (q, net) → DeliveryFits places queue unit.node q
delivery_fits places queue d s t unit q net few short fits holds at delivers =
    let next = deliveries_fit d s fits holds t unit q net at delivers in
    let node = (holds_at d s holds t unit at).holds.node in
    let is = request_inside d s unit.node.delivered q fits holds next in
    let own = own_requests_fit d s t unit q net holds (deliveries_fit d s fits holds) at delivers in
    let queued = queue_room d s t unit q fits holds at next own in
    record {
      source = subst (λ (c : Chip). q.source < tile_count c) (sym node.chip) is.source;
      line = subst (λ (c : Chip). q.line < c.lines) (sym node.chip) is.line;
      own = own;
      list = λ away puts demand has. let less = list_room d s t unit q fits holds at next demand (asks q.kind puts) has in omega (arith, less, few);
      waiting = λ r there. record {
        room = λ waits. let less = waiters_room d s t unit q fits holds at next r there waits in omega (arith, less, few);
        readers = λ waits. waiters_read d s t unit q fits holds at next r there waits;
      };
      room = omega (arith, queued, short);
    }
  where
    asks : (kind : Kind) → kind ≢ PutM → is_get kind ≡ true
    asks GetS puts = refl
    asks GetM puts = refl
    asks PutM puts = absurd (puts refl)
