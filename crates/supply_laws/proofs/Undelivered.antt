-- A request of a tile that it has not delivered is that of its demand, or of its write-back.
use Rattle.std.proofs.Common.{◌≡◌, ℕ, zero, suc, ◌+◌, ◌-◌, ◌≤◌, Bool, true, false, refl, sym, ◌∙◌, ap, arith, Option, Some, None, List, [], ◌∷◌, take, drop}
use Rattle.std.specs.Prelude.{not, ◌&&◌, is_none, slice_get, filter, if◌then◌else◌}
use Rattle.mesh_gen.specs.declared.kind.Kind.{Kind}
use Rattle.mesh_gen.specs.declared.kind.Kind.TheVariants.{PutM}
use Rattle.mesh_gen.specs.declared.request.Request.{Request}
use Rattle.chip_model.specs.OrderedNetwork.{OrderedNetwork, Interface}
use Rattle.chip_model.specs.Misses.{Demand, WriteBack}
use Rattle.chip_model.specs.Node.{Node}
use Rattle.chip_model.specs.Bookkeeping.{is_get, count_by_tile, asked_for, outstanding_get, outstanding_put, TileAgrees}
use Rattle.chip_model.specs.NetworkFits.{InterfaceAgrees}
use Rattle.snoop_core.specs.Requests.{IsRequestOf, IsPutOf, MeetsDemand, MeetsBack}
use Rattle.chip_laws.proofs.Options.{none_some}
use Rattle.chip_laws.proofs.OrderLists.{count_take_le}
use Rattle.chip_laws.proofs.TileAgreements.{next_made}
use Rattle.supply_laws.proofs.GetPlaces.{get_drop}

-- what stands in a list stands among those that pass
record IsAsked (p : Request → Bool) (rest : List Request) (q : Request) : Type 0 where
  pub place : ℕ
  pub at : ◌≡◌ {A = Option (Kind × ℕ)} (slice_get (asked_for (filter p rest)) place) (Some (q.kind, q.line))

is_asked : (p : Request → Bool) (rest : List Request) (k : ℕ) (q : Request) → slice_get rest k ≡ Some q → p q ≡ true → IsAsked p rest q
is_asked p [] k q at passes = none_some q at
is_asked p (first ∷ rest) zero q at passes =
    let same : first ≡ q = cc in
    let kept : p first ≡ true = ap p same ∙ passes in
    record { place = 0; at = rw kept (ap (λ (r : Request). Some (r.kind, r.line)) same) }
is_asked p (first ∷ rest) (suc k) q at passes = by (p first) refl (is_asked p rest k q at passes) where
  by : (b : Bool) → p first ≡ b → IsAsked p rest q → IsAsked p (first ∷ rest) q
  by true kept later = record { place = suc later.place; at = rw kept later.at }
  by false left later = record { place = later.place; at = rw left later.at }

-- the one that a demand has on its way
asked_by_demand : (entry : Option Demand) (place : ℕ) (q : Request) → ◌≡◌ {A = Option (Kind × ℕ)} (slice_get (outstanding_get entry) place) (Some (q.kind, q.line))
    → (demand : Demand) × (entry ≡ Some demand) × IsRequestOf demand q
asked_by_demand None place q at = none_some {X = Kind × ℕ} (q.kind, q.line) at
asked_by_demand (Some demand) place q at = by demand.sent demand.ordered refl refl at where
  by : (sent : Bool) (o : Option ℕ) → demand.sent ≡ sent → demand.ordered ≡ o
      → ◌≡◌ {A = Option (Kind × ℕ)} (slice_get (if sent && is_none o then (demand.kind, demand.line) ∷ [] else []) place) (Some (q.kind, q.line))
      → (x : Demand) × (Some demand ≡ Some x) × IsRequestOf x q
  by false o sent_is ordered_is e = none_some {X = Kind × ℕ} (q.kind, q.line) e
  by true (Some k) sent_is ordered_is e = none_some {X = Kind × ℕ} (q.kind, q.line) e
  by true None sent_is ordered_is e = one place e where
    one : (k : ℕ) → ◌≡◌ {A = Option (Kind × ℕ)} (slice_get ((demand.kind, demand.line) ∷ []) k) (Some (q.kind, q.line)) → (x : Demand) × (Some demand ≡ Some x) × IsRequestOf x q
    one zero e =
        let same : ◌≡◌ {A = Kind × ℕ} (demand.kind, demand.line) (q.kind, q.line) = cc in
        (demand, refl, record { kind = ap (λ (x : Kind × ℕ). x.0) same; line = ap (λ (x : Kind × ℕ). x.1) same; sent = sent_is; unordered = ordered_is })
    one (suc k) e = none_some {X = Kind × ℕ} (q.kind, q.line) e

-- the one that a write-back has on its way
asked_by_back : (entry : Option WriteBack) (place : ℕ) (q : Request) → ◌≡◌ {A = Option (Kind × ℕ)} (slice_get (outstanding_put entry) place) (Some (q.kind, q.line))
    → (back : WriteBack) × (entry ≡ Some back) × IsPutOf back q
asked_by_back None place q at = none_some {X = Kind × ℕ} (q.kind, q.line) at
asked_by_back (Some back) place q at = by back.sent refl at where
  by : (sent : Bool) → back.sent ≡ sent → ◌≡◌ {A = Option (Kind × ℕ)} (slice_get (if sent then (PutM, back.line) ∷ [] else []) place) (Some (q.kind, q.line))
      → (x : WriteBack) × (Some back ≡ Some x) × IsPutOf x q
  by false sent_is e = none_some {X = Kind × ℕ} (q.kind, q.line) e
  by true sent_is e = one place e where
    one : (k : ℕ) → ◌≡◌ {A = Option (Kind × ℕ)} (slice_get ((PutM, back.line) ∷ []) k) (Some (q.kind, q.line)) → (x : WriteBack) × (Some back ≡ Some x) × IsPutOf x q
    one zero e =
        let same : ◌≡◌ {A = Kind × ℕ} (PutM, back.line) (q.kind, q.line) = cc in
        (back, refl, record { line = ap (λ (x : Kind × ℕ). x.1) same; sent = sent_is })
    one (suc k) e = none_some {X = Kind × ℕ} (q.kind, q.line) e

-- ---- among the requests that the tile made
take_shorter : (ordered : List Request) (k n : ℕ) → k ≤ n → take k (take n ordered) ≡ take k ordered
take_shorter ordered zero n less = refl
take_shorter ordered (suc k) zero less = absurd (omega (arith, less))
take_shorter [] (suc k) (suc n) less = refl
take_shorter (q ∷ ordered) (suc k) (suc n) less = ap (λ (rest : List Request). q ∷ rest) (take_shorter ordered k n (omega (arith, less)))

made_undelivered : (net : OrderedNetwork) (t : ℕ) (interface : Interface) (node : Node) (place : ℕ) (q : Request) → InterfaceAgrees net t interface → slice_get net.ordered place ≡ Some q
    → q.source ≡ t → node.delivered ≤ place → (k : ℕ) × (slice_get (drop (count_by_tile t (take node.delivered net.ordered)) interface.made) k ≡ Some q)
made_undelivered net t interface node place q agrees at source beyond =
    let c = count_by_tile t (take node.delivered net.ordered) in
    let m = count_by_tile t (take place net.ordered) in
    let fewer = count_take_le t (take place net.ordered) node.delivered in
    let same : count_by_tile t (take node.delivered (take place net.ordered)) ≡ c = ap (count_by_tile t) (take_shorter net.ordered node.delivered place beyond) in
    let sum : c + (m - c) ≡ m = omega (arith, fewer, same) in
    (m - c, get_drop interface.made c (m - c) ∙ ap (slice_get interface.made) sum ∙ next_made net t place interface q agrees at source)

-- a get
pub undelivered_get : (net : OrderedNetwork) (t : ℕ) (interface : Interface) (node : Node) (place : ℕ) (q : Request) → InterfaceAgrees net t interface → TileAgrees net t interface node
    → slice_get net.ordered place ≡ Some q → q.source ≡ t → node.delivered ≤ place → is_get q.kind ≡ true → MeetsDemand node.side q
undelivered_get net t interface node place q agrees is at source beyond get =
    let made = made_undelivered net t interface node place q agrees at source beyond in
    let asked = is_asked (λ (r : Request). is_get r.kind) (drop (count_by_tile t (take node.delivered net.ordered)) interface.made) made.0 q made.1 get in
    asked_by_demand node.side.misses.demand asked.place q (sym (ap (λ (xs : List (Kind × ℕ)). slice_get xs asked.place) is.under_way.gets) ∙ asked.at)

-- a write-back
pub undelivered_put : (net : OrderedNetwork) (t : ℕ) (interface : Interface) (node : Node) (place : ℕ) (q : Request) → InterfaceAgrees net t interface → TileAgrees net t interface node
    → slice_get net.ordered place ≡ Some q → q.source ≡ t → node.delivered ≤ place → is_get q.kind ≡ false → MeetsBack node.side q
undelivered_put net t interface node place q agrees is at source beyond put =
    let made = made_undelivered net t interface node place q agrees at source beyond in
    let asked = is_asked (λ (r : Request). not (is_get r.kind)) (drop (count_by_tile t (take node.delivered net.ordered)) interface.made) made.0 q made.1 (ap not put) in
    asked_by_back node.side.misses.back asked.place q (sym (ap (λ (xs : List (Kind × ℕ)). slice_get xs asked.place) is.under_way.puts) ∙ asked.at)
