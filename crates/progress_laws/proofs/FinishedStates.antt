-- A chip that is finished: every request is ordered and delivered, and neither network has anything left to do.
use Rattle.std.proofs.Common.{◌≡◌, ℕ, zero, suc, ◌+◌, ◌<◌, ◌≤◌, Bool, true, false, cond, List, [], ◌∷◌, Option, Some, None, length, take, drop, get_or, refl, sym, ◌∙◌}
use Rattle.std.proofs.Common.{ap, arith, length-append}
use Rattle.std.specs.Prelude.{slice_get, is_some, is_none, ◌&&◌, ◌||◌, ◌==◌, not}
use Rattle.std.specs.List.{list_all, AllByRecursion}
use Rattle.std.proofs.lemmas.Bool.{eqb-true, and_parts}
use Rattle.std.proofs.lemmas.List.{take_all, length-drop}
use Rattle.std.proofs.lemmas.Option.{slice_get_within}
use Rattle.mesh_gen.specs.declared.msg.Msg.{Msg}
use Rattle.mesh_gen.specs.declared.request.Request.{Request}
use Rattle.order_tracker.specs.Order.{order, order_from}
use Rattle.order_tracker.specs.Tracker.{IsWindow}
use Rattle.vc_bank.specs.Places.{Network, at}
use Rattle.doc_text.specs.Doc.{Doc}
use Rattle.chip_model.specs.Chip.{chip_of, tile_count}
use Rattle.chip_model.specs.Replies.{is_empty}
use Rattle.chip_model.specs.OrderedNetwork.{Interface}
use Rattle.chip_model.specs.Misses.{Demand, WriteBack}
use Rattle.chip_model.specs.Node.{Node, waits_for_any}
use Rattle.chip_model.specs.Units.{UnitState}
use Rattle.chip_model.specs.ChipState.{ChipState, is_nil, is_done, finished}
use Rattle.chip_model.specs.Bookkeeping.{is_get, count_by_tile, asked_for, gets_among, puts_among}
use Rattle.chip_model.specs.Ownership.{delivered_to}
use Rattle.chip_model.specs.ChipInvariant.{ProtocolHolds}
use Rattle.net_iface.proofs.Orders.{order_split, length-order_from-ge, each_window}
use Rattle.net_iface.proofs.Room.{length-ordered}
use Rattle.chip_laws.specs.DocFits.{DocFits}
use Rattle.chip_laws.specs.DoneUnits.{IsDone}
use Rattle.chip_laws.proofs.DoneUnits.{done_of}
use Rattle.chip_laws.proofs.RequestsInside.{tile_of}
use Rattle.chip_laws.proofs.OrderedTiles.{tiles_some}
use Rattle.supply_laws.proofs.GetPlaces.{get_drop}
use Rattle.flow_laws.specs.NetworkMoves.{AllDelivered, NetworkRests}
use Rattle.flow_laws.specs.MessageMoves.{NoMessages}
use Rattle.flow_laws.proofs.ListSums.{passes_at}
use Rattle.flow_laws.proofs.OwedRequests.{ordered_le}
use Rattle.flow_laws.proofs.NetworkMoves.{AllOrdered, rests}
use Rattle.progress_laws.specs.Over.{IsOver}

-- ---- what it is to have finished, part by part
all_read : {X : Type 0} (p : X → Bool) (xs : List X) (d : X) → list_all p xs ≡ true → p d ≡ true → (k : ℕ) → p (get_or xs k d) ≡ true
all_read p [] d all past k = past
all_read p (x ∷ xs) d all past zero = (and_parts (p x) (list_all p xs) all).0
all_read p (x ∷ xs) d all past (suc k) = all_read p xs d (and_parts (p x) (list_all p xs) all).1 past k

no_messages : (net : Network Msg) → is_empty net ≡ true → NoMessages net
unfolding at
no_messages net empty r p i =
    let bank = all_read (list_all (list_all is_none)) net [] empty refl r in
    let slots = all_read (list_all is_none) (get_or net r []) [] bank refl p in
    none_is (get_or (get_or (get_or net r []) p []) i None) (all_read is_none (get_or (get_or net r []) p []) None slots refl i)
  where
    none_is : (o : Option Msg) → is_none o ≡ true → o ≡ None
    none_is None is = refl
    none_is (Some msg) is = cc

abbrev AllDone : ChipState → Type 0
AllDone s = (t : ℕ) (unit : UnitState) → slice_get s.units t ≡ Some unit → IsDone s.network.ordered unit

-- ---- nothing that was made is left unordered
nothing_else : (rest : List Request) → gets_among rest ≡ [] → puts_among rest ≡ [] → rest ≡ []
nothing_else [] gets puts = refl
nothing_else (q ∷ rest) gets puts = by (is_get q.kind) gets puts
  where
    by : (b : Bool) → ◌≡◌ {A = List Request} (cond b (q ∷ gets_among rest) (gets_among rest)) [] → ◌≡◌ {A = List Request} (cond (not b) (q ∷ puts_among rest) (puts_among rest)) [] → q ∷ rest ≡ []
    by true gets puts = cc
    by false gets puts = cc

asked_nothing : (rest : List Request) → asked_for rest ≡ [] → rest ≡ []
asked_nothing [] none = refl
asked_nothing (q ∷ rest) none = cc

all_ordered : (d : Doc) (s : ChipState) → DocFits d → ProtocolHolds d s → AllDone s → AllOrdered s.network
all_ordered d s fits holds done t interface there =
    let requests = holds.network.requests in
    let unit = (tile_of d s t holds (omega (arith, slice_get_within s.network.interfaces t interface there, requests.interfaces))) in
    let agrees = (holds.tiles t interface unit.unit there unit.unit_at).node.agrees in
    let over = done t unit.unit unit.unit_at in
    let gets : asked_for (gets_among (drop (count_by_tile t (delivered_to s.network.ordered unit.unit.node)) interface.made)) ≡ [] = agrees.under_way.gets ∙ rw over.demand refl in
    let puts : asked_for (puts_among (drop (count_by_tile t (delivered_to s.network.ordered unit.unit.node)) interface.made)) ≡ [] = agrees.under_way.puts ∙ rw over.back refl in
    let rest = nothing_else (drop (count_by_tile t (delivered_to s.network.ordered unit.unit.node)) interface.made) (asked_nothing _ gets) (asked_nothing _ puts) in
    let whole : delivered_to s.network.ordered unit.unit.node ≡ s.network.ordered = take_all unit.unit.node.delivered s.network.ordered (omega (arith, over.delivered)) in
    let count = ap (count_by_tile t) whole in
    let long = length-drop (count_by_tile t (delivered_to s.network.ordered unit.unit.node)) interface.made in
    omega (arith, count, ap length rest, long, ordered_le s.network t interface (requests.agree t interface there))

-- ---- every vector was taken: each closed window orders some request
taken_whole : (n count delivered : ℕ) (ordered : List Request) (closed : List ℕ) → 0 < n → length ordered ≡ length (order n closed) → AllByRecursion (IsWindow n) (drop count closed)
    → count ≤ length closed
    → delivered ≡ length ordered → delivered ≤ length (order n (take count closed)) → count ≡ length closed
taken_whole n count delivered ordered closed some long fit within all came =
    let split = ap length (order_split n count closed within) in
    let both = length-append (order n (take count closed)) (order_from n count (drop count closed)) in
    let rest = length-order_from-ge n count (drop count closed) some fit in
    omega (arith, length-drop count closed)

all_delivered : (d : Doc) (s : ChipState) → DocFits d → ProtocolHolds d s → AllDone s → AllDelivered s.network
all_delivered d s fits holds done = record { taken = taken; delivered = delivered }
  where
    delivered : (t : ℕ) (interface : Interface) → slice_get s.network.interfaces t ≡ Some interface → interface.delivered ≡ length s.network.ordered
    delivered t interface there =
        let unit = tile_of d s t holds (omega (arith, slice_get_within s.network.interfaces t interface there, holds.network.requests.interfaces)) in
        sym (holds.tiles t interface unit.unit there unit.unit_at).node.agrees.counts ∙ (done t unit.unit unit.unit_at).delivered

    taken : (t count : ℕ) → slice_get s.network.windows.taken t ≡ Some count → count ≡ length s.network.windows.closed
    taken t count there =
        let requests = holds.network.requests in
        let closed = s.network.windows.closed in
        let tile = tile_of d s t holds (omega (arith, slice_get_within s.network.windows.taken t count there, requests.windows.tiles)) in
        taken_whole (tile_count (chip_of d)) count tile.interface.delivered s.network.ordered closed (tiles_some d fits)
        (length-ordered (tile_count (chip_of d)) s.network.ordered closed requests.ordered)
        (each_window (IsWindow (tile_count (chip_of d))) (drop count closed) (λ k window is. requests.windows.closed (count + k) window (sym (get_drop closed count k) ∙ is)))
        (requests.windows.taken t count there) (delivered t tile.interface tile.interface_at) (holds.network.took t count tile.interface tile.interface_at there)

-- ---- so all has come to rest
pub finished_over : (d : Doc) (s : ChipState) → DocFits d → ProtocolHolds d s → finished s ≡ true → IsOver s
unfolding finished
finished_over d s fits holds ends =
    let parts = and_parts (list_all (is_done s.network.ordered) s.units) (is_empty s.replies) ends in
    let done : AllDone s = λ t unit there. done_of s.network.ordered unit (passes_at (is_done s.network.ordered) s.units parts.0 t unit there) in
    record {
      units = done;
      requests = rests (chip_of d) s.network fits.chip.tiles holds.network.requests (all_ordered d s fits holds done) (all_delivered d s fits holds done);
      replies = no_messages s.replies parts.1;
    }
