-- The requests that a tile made and has not delivered are those of its demand and its write-back.
use Rattle.std.proofs.Common.{◌≡◌, ℕ, Bool, true, false, cond, refl, sym, ◌∙◌, ap, subst, Option, Some, None, List, [], ◌∷◌, ◌++◌}
use Rattle.std.specs.Prelude.{is_none, not, ◌&&◌, if◌then◌else◌}
use Rattle.std.proofs.lemmas.Bool.{cond_both}
use Rattle.std.proofs.lemmas.Option.{same_Some}
use Rattle.std.proofs.lemmas.List.{map-append, append-nil}
use Rattle.std.proofs.lemmas.List.Elements.{filter-append}
use Rattle.mesh_gen.specs.declared.kind.Kind.{Kind}
use Rattle.mesh_gen.specs.declared.kind.Kind.TheVariants.{GetS, GetM, PutM}
use Rattle.mesh_gen.specs.declared.request.Request.{Request}
use Rattle.report_text.specs.declared.access.AccessKind.{AccessKind}
use Rattle.report_text.specs.declared.access.AccessKind.TheVariants.{Load, Store, Swap, Add}
use Rattle.chip_model.specs.Chip.{Chip}
use Rattle.chip_model.specs.Misses.{Demand, WriteBack, Misses, request_for, wanted_by_demand, wanted_by, wanted, sent_demand, sent_by, marked_sent, is_getm}
use Rattle.chip_model.specs.Snoop.{CacheSide, completed, completed_load, completed_store, words_here, ordered_with, own_get, own_put, own_request}
use Rattle.chip_model.specs.NodeShape.{SideFits}
use Rattle.chip_model.specs.Bookkeeping.{is_get, asked_for, gets_among, puts_among, outstanding_get, outstanding_put, IsOutstanding}
use Rattle.snoop_core.specs.Requests.{IsRequestOf, IsPutOf, MeetsOwn}
use Rattle.chip_laws.proofs.Options.{none_some, when_some}
use Rattle.chip_laws.proofs.SameAsked.{SameAsked}

pub under_way_same : (rest : List Request) (old new : Misses) → SameAsked old new → IsOutstanding rest old → IsOutstanding rest new
under_way_same rest old new same is = record { gets = is.gets ∙ sym same.gets; puts = is.puts ∙ sym same.puts }

-- ---- one more request is made
gets_more : (rest : List Request) (q : Request) → asked_for (gets_among (rest ++ q ∷ [])) ≡ asked_for (gets_among rest) ++ asked_for (gets_among (q ∷ []))
gets_more rest q =
    ap asked_for (filter-append (λ (r : Request). is_get r.kind) rest (q ∷ []))
    ∙ map-append (λ (r : Request). (r.kind, r.line)) (gets_among rest) (gets_among (q ∷ []))

puts_more : (rest : List Request) (q : Request) → asked_for (puts_among (rest ++ q ∷ [])) ≡ asked_for (puts_among rest) ++ asked_for (puts_among (q ∷ []))
puts_more rest q =
    ap asked_for (filter-append (λ (r : Request). not (is_get r.kind)) rest (q ∷ []))
    ∙ map-append (λ (r : Request). (r.kind, r.line)) (puts_among rest) (puts_among (q ∷ []))

-- a request is a get or a write-back
pub record IsAGet (q : Request) : Type 0 where
  pub gets : gets_among (q ∷ []) ≡ q ∷ []
  pub puts : puts_among (q ∷ []) ≡ []

pub record IsAPut (q : Request) : Type 0 where
  pub gets : gets_among (q ∷ []) ≡ []
  pub puts : puts_among (q ∷ []) ≡ q ∷ []

a_get : (q : Request) → is_get q.kind ≡ true → IsAGet q
a_get q is = record { gets = ap (λ (b : Bool). cond b (q ∷ []) []) is; puts = ap (λ (b : Bool). cond (not b) (q ∷ []) []) is }

a_put : (q : Request) → is_get q.kind ≡ false → IsAPut q
a_put q is = record { gets = ap (λ (b : Bool). cond b (q ∷ []) []) is; puts = ap (λ (b : Bool). cond (not b) (q ∷ []) []) is }

asks_get : (kind : AccessKind) → is_get (request_for kind) ≡ true
asks_get Load = refl
asks_get Store = refl
asks_get Swap = refl
asks_get Add = refl

pub demand_gets : (chip : Chip) (side : CacheSide) (demand : Demand) → SideFits chip side → side.misses.demand ≡ Some demand → is_get demand.kind ≡ true
demand_gets chip side demand fits stands = ap is_get (fits.demand demand stands).asks ∙ asks_get demand.pending.kind

-- the demand's request is sent
pub get_made : (chip : Chip) (side : CacheSide) (rest : List Request) (q : Request) (demand : Demand) (back : Option WriteBack) → SideFits chip side
    → side.misses.demand ≡ Some demand → side.misses.back ≡ back → demand.sent ≡ false → (q.kind ≡ demand.kind) × (q.line ≡ demand.line) → IsOutstanding rest side.misses
    → IsOutstanding (rest ++ q ∷ []) (record { demand = sent_demand side.misses.demand; back = back })
get_made chip side rest q demand back fits stands back_is unsent asks is =
    let get = a_get q (ap is_get asks.0 ∙ demand_gets chip side demand fits stands) in
    let unordered = ((fits.demand demand stands).unsent unsent).0 in
    let before : outstanding_get side.misses.demand ≡ [] = ap outstanding_get stands ∙ ap (λ (b : Bool). cond (b && is_none demand.ordered) ((demand.kind, demand.line) ∷ []) []) unsent in
    let after : outstanding_get (sent_demand side.misses.demand) ≡ (demand.kind, demand.line) ∷ [] =
    ap (λ (o : Option Demand). outstanding_get (sent_demand o)) stands
    ∙ ap (λ (o : Option ℕ). cond (true && is_none o) ((demand.kind, demand.line) ∷ []) []) unordered in
    let asked : (q.kind, q.line) ≡ (demand.kind, demand.line) = rw (asks.0, asks.1) refl in
    record {
      gets = gets_more rest q
          ∙ ap (λ (xs : List (Kind × ℕ)). xs ++ asked_for (gets_among (q ∷ []))) (is.gets ∙ before)
          ∙ ap asked_for get.gets
          ∙ ap (λ (x : Kind × ℕ). x ∷ []) asked
          ∙ sym after;
      puts = puts_more rest q
          ∙ ap (λ (xs : List Request). asked_for (puts_among rest) ++ asked_for xs) get.puts
          ∙ append-nil (asked_for (puts_among rest))
          ∙ is.puts ∙ ap outstanding_put back_is;
    }

-- the write-back's request is sent
pub put_made : (side : CacheSide) (rest : List Request) (q : Request) (back : WriteBack) → side.misses.back ≡ Some back → back.sent ≡ false → (q.kind ≡ PutM) × (q.line ≡ back.line)
    → IsOutstanding rest side.misses → IsOutstanding (rest ++ q ∷ []) (record { demand = side.misses.demand; back = Some (record back { sent = true }) })
put_made side rest q back stands unsent asks is =
    let put = a_put q (ap is_get asks.0) in
    let before : outstanding_put side.misses.back ≡ [] = ap outstanding_put stands ∙ ap (λ (b : Bool). cond b ((PutM, back.line) ∷ []) []) unsent in
    let asked : (q.kind, q.line) ≡ (PutM, back.line) = rw (asks.0, asks.1) refl in
    record {
      gets = gets_more rest q
          ∙ ap (λ (xs : List Request). asked_for (gets_among rest) ++ asked_for xs) put.gets
          ∙ append-nil (asked_for (gets_among rest))
          ∙ is.gets;
      puts = puts_more rest q
          ∙ ap (λ (xs : List (Kind × ℕ)). xs ++ asked_for (puts_among (q ∷ []))) (is.puts ∙ before)
          ∙ ap asked_for put.puts
          ∙ ap (λ (x : Kind × ℕ). x ∷ []) asked;
    }

abbrev AsksFor : Request → Kind × ℕ → Type 0
AsksFor q asked = (q.kind ≡ asked.0) × (q.line ≡ asked.1)

asks_same : (q : Request) (a b : Kind × ℕ) → a ≡ b → AsksFor q b → AsksFor q a
asks_same q a b same is = subst (AsksFor q) (sym same) is

demand_made : (chip : Chip) (side : CacheSide) (rest : List Request) (q : Request) (entry : Option Demand) (back : Option WriteBack) (asked : Kind × ℕ) → SideFits chip side
    → side.misses.demand ≡ entry → side.misses.back ≡ back → wanted_by_demand entry ≡ Some asked → AsksFor q asked → IsOutstanding rest side.misses
    → IsOutstanding (rest ++ q ∷ []) (record { demand = sent_demand side.misses.demand; back = back })
demand_made chip side rest q None back asked fits stands back_is wants asks is = none_some asked wants
demand_made chip side rest q (Some demand) back asked fits stands back_is wants asks is =
    when_some {X = Kind × ℕ} (not demand.sent) (Some (demand.kind, demand.line)) asked wants (λ unsent same.
    get_made chip side rest q demand back fits stands back_is (unsent_is demand.sent unsent)
    (asks_same q (demand.kind, demand.line) asked (same_Some {A = Kind × ℕ} (demand.kind, demand.line) asked same) asks) is)
  where
    unsent_is : (b : Bool) → not b ≡ true → b ≡ false
    unsent_is false e = refl
    unsent_is true e = cc

sent_made : (chip : Chip) (side : CacheSide) (rest : List Request) (q : Request) (entry : Option WriteBack) (asked : Kind × ℕ) → SideFits chip side
    → side.misses.back ≡ entry → wanted_by side.misses.demand entry ≡ Some asked → AsksFor q asked → IsOutstanding rest side.misses
    → IsOutstanding (rest ++ q ∷ []) (sent_by side.misses.demand entry)
sent_made chip side rest q None asked fits stands wants asks is = demand_made chip side rest q side.misses.demand None asked fits refl stands wants asks is
sent_made chip side rest q (Some back) asked fits stands wants asks is = by back.sent refl wants where
  by : (sent : Bool) → back.sent ≡ sent → cond sent (wanted_by_demand side.misses.demand) (Some (PutM, back.line)) ≡ Some asked
      → IsOutstanding (rest ++ q ∷ []) (cond {A = Misses} sent (record { demand = sent_demand side.misses.demand; back = Some back }) (record { demand = side.misses.demand; back = Some (record back { sent = true }) }))
  by true sent wants = demand_made chip side rest q side.misses.demand (Some back) asked fits refl stands wants asks is
  by false unsent wants = put_made side rest q back stands unsent (asks_same q (PutM, back.line) asked (same_Some {A = Kind × ℕ} (PutM, back.line) asked wants) asks) is

-- the request that a node wants is made
pub request_made : (chip : Chip) (side : CacheSide) (rest : List Request) (q : Request) (asked : Kind × ℕ) → SideFits chip side → wanted side.misses ≡ Some asked → AsksFor q asked
    → IsOutstanding rest side.misses → IsOutstanding (rest ++ q ∷ []) (marked_sent side.misses)
unfolding wanted marked_sent
request_made chip side rest q asked fits wants asks is = sent_made chip side rest q side.misses.back asked fits refl wants asks is

-- ---- the own request that comes next
same_head : {X : Type 0} (x y : X) (xs ys : List X) → x ∷ xs ≡ y ∷ ys → (x ≡ y) × (xs ≡ ys)
same_head x y xs ys e = (cc, cc)

pub record MeetsGet (side : CacheSide) (q : Request) (rest : List Request) : Type 0 where
  pub demand : Demand
  pub stands : side.misses.demand ≡ Some demand
  pub is : IsRequestOf demand q
  pub gets : asked_for (gets_among rest) ≡ []
  pub puts : asked_for (puts_among rest) ≡ outstanding_put side.misses.back

asked_get : (side : CacheSide) (q : Request) (rest : List Request) (entry : Option Demand) → side.misses.demand ≡ entry
    → ◌≡◌ {A = List (Kind × ℕ)} ((q.kind, q.line) ∷ asked_for (gets_among rest)) (outstanding_get entry) → asked_for (puts_among rest) ≡ outstanding_put side.misses.back → MeetsGet side q rest
asked_get side q rest None stands gets puts = cc
asked_get side q rest (Some demand) stands gets puts = by demand.sent demand.ordered refl refl gets where
  by : (sent : Bool) (o : Option ℕ) → demand.sent ≡ sent → demand.ordered ≡ o
      → ◌≡◌ {A = List (Kind × ℕ)} ((q.kind, q.line) ∷ asked_for (gets_among rest)) (if sent && is_none o then (demand.kind, demand.line) ∷ [] else []) → MeetsGet side q rest
  by false o sent_is ordered_is e = cc
  by true (Some place) sent_is ordered_is e = cc
  by true None sent_is ordered_is e =
      let parts = same_head {X = Kind × ℕ} (q.kind, q.line) (demand.kind, demand.line) (asked_for (gets_among rest)) [] e in
      record {
        demand = demand;
        stands = stands;
        is = record { kind = sym (ap (λ (x : Kind × ℕ). x.0) parts.0); line = sym (ap (λ (x : Kind × ℕ). x.1) parts.0); sent = sent_is; unordered = ordered_is };
        gets = parts.1;
        puts = puts;
      }

-- a get
pub meets_get : (side : CacheSide) (q : Request) (rest : List Request) → is_get q.kind ≡ true → IsOutstanding (q ∷ rest) side.misses → MeetsGet side q rest
meets_get side q rest get is =
    asked_get side q rest side.misses.demand refl
    (sym (ap (λ (b : Bool). asked_for (cond b (q ∷ gets_among rest) (gets_among rest))) get) ∙ is.gets)
    (sym (ap (λ (b : Bool). asked_for (cond (not b) (q ∷ puts_among rest) (puts_among rest))) get) ∙ is.puts)

pub record MeetsPut (side : CacheSide) (q : Request) (rest : List Request) : Type 0 where
  pub back : WriteBack
  pub stands : side.misses.back ≡ Some back
  pub is : IsPutOf back q
  pub gets : asked_for (gets_among rest) ≡ outstanding_get side.misses.demand
  pub puts : asked_for (puts_among rest) ≡ []

asked_put : (side : CacheSide) (q : Request) (rest : List Request) (entry : Option WriteBack) → side.misses.back ≡ entry
    → ◌≡◌ {A = List (Kind × ℕ)} ((q.kind, q.line) ∷ asked_for (puts_among rest)) (outstanding_put entry) → asked_for (gets_among rest) ≡ outstanding_get side.misses.demand → MeetsPut side q rest
asked_put side q rest None stands puts gets = cc
asked_put side q rest (Some back) stands puts gets = by back.sent refl puts where
  by : (sent : Bool) → back.sent ≡ sent → ◌≡◌ {A = List (Kind × ℕ)} ((q.kind, q.line) ∷ asked_for (puts_among rest)) (if sent then (PutM, back.line) ∷ [] else []) → MeetsPut side q rest
  by false sent_is e = cc
  by true sent_is e =
      let parts = same_head {X = Kind × ℕ} (q.kind, q.line) (PutM, back.line) (asked_for (puts_among rest)) [] e in
      record {
        back = back;
        stands = stands;
        is = record { line = sym (ap (λ (x : Kind × ℕ). x.1) parts.0); sent = sent_is };
        gets = gets;
        puts = parts.1;
      }

-- a write-back
pub meets_put : (side : CacheSide) (q : Request) (rest : List Request) → is_get q.kind ≡ false → IsOutstanding (q ∷ rest) side.misses → MeetsPut side q rest
meets_put side q rest put is =
    asked_put side q rest side.misses.back refl
    (sym (ap (λ (b : Bool). asked_for (cond (not b) (q ∷ puts_among rest) (puts_among rest))) put) ∙ is.puts)
    (sym (ap (λ (b : Bool). asked_for (cond b (q ∷ gets_among rest) (gets_among rest))) put) ∙ is.gets)

pub meets_own : (side : CacheSide) (q : Request) (rest : List Request) (kind : Kind) → q.kind ≡ kind → IsOutstanding (q ∷ rest) side.misses → MeetsOwn side q kind
meets_own side q rest GetS kind is = let m = meets_get side q rest (ap is_get kind) is in (m.demand, m.stands, m.is)
meets_own side q rest GetM kind is = let m = meets_get side q rest (ap is_get kind) is in (m.demand, m.stands, m.is)
meets_own side q rest PutM kind is = let m = meets_put side q rest (ap is_get kind) is in (m.back, m.stands, m.is)

-- ---- it is delivered
pub completed_none : (chip : Chip) (demand : Demand) (place : ℕ) (words : List ℕ) (side : CacheSide) → (completed chip demand place words side).side.misses ≡ record side.misses { demand = None }
completed_none chip demand place words side =
    cond_both (is_getm demand.kind) (completed_store chip demand place words side) (completed_load chip demand place words side)
    (λ outcome. outcome.side.misses ≡ record side.misses { demand = None }) (λ writes. refl) (λ reads. refl)

ordered_under_way : (chip : Chip) (side : CacheSide) (place : ℕ) (demand : Demand) (words : Option (List ℕ)) (rest : List Request) → asked_for (gets_among rest) ≡ []
    → asked_for (puts_among rest) ≡ outstanding_put side.misses.back → IsOutstanding rest (ordered_with chip side place demand words).side.misses
ordered_under_way chip side place demand (Some words) rest gets puts =
    subst (IsOutstanding rest) (sym (completed_none chip demand place words side)) (record { gets = gets; puts = puts })
ordered_under_way chip side place demand None rest gets puts = record { gets = gets ∙ sym (none demand.sent); puts = puts } where
  none : (sent : Bool) → cond {A = List (Kind × ℕ)} (sent && false) ((demand.kind, demand.line) ∷ []) [] ≡ []
  none true = refl
  none false = refl

get_under : (chip : Chip) (side : CacheSide) (place : ℕ) (q : Request) (rest : List Request) → is_get q.kind ≡ true → IsOutstanding (q ∷ rest) side.misses
    → IsOutstanding rest (own_get chip side place side.misses.demand).side.misses
get_under chip side place q rest get is =
    let m = meets_get side q rest get is in
    subst (λ (o : Option Demand). IsOutstanding rest (own_get chip side place o).side.misses) (sym m.stands)
    (ordered_under_way chip side place m.demand (words_here chip side m.demand m.demand.early) rest m.gets m.puts)

put_under : (chip : Chip) (side : CacheSide) (q : Request) (rest : List Request) → is_get q.kind ≡ false → IsOutstanding (q ∷ rest) side.misses
    → IsOutstanding rest (own_put chip side side.misses.back).side.misses
put_under chip side q rest put is =
    let m = meets_put side q rest put is in
    subst (λ (o : Option WriteBack). IsOutstanding rest (own_put chip side o).side.misses) (sym m.stands) (record { gets = m.gets; puts = m.puts })

pub own_under_way : (chip : Chip) (side : CacheSide) (place : ℕ) (q : Request) (rest : List Request) (kind : Kind) → q.kind ≡ kind → IsOutstanding (q ∷ rest) side.misses
    → IsOutstanding rest (own_request chip side place kind).side.misses
own_under_way chip side place q rest GetS kind is = get_under chip side place q rest (ap is_get kind) is
own_under_way chip side place q rest GetM kind is = get_under chip side place q rest (ap is_get kind) is
own_under_way chip side place q rest PutM kind is = put_under chip side q rest (ap is_get kind) is
