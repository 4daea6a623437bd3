-- What the request of another tile makes of an ordered demand.
use Rattle.std.proofs.Common.{◌≡◌, ℕ, Bool, true, false, cond, refl, sym, ◌∙◌, ap, subst, arith, Option, Some, None, List, [], ◌∷◌, ◌++◌}
use Rattle.std.specs.Prelude.{◌==◌, ◌&&◌, ◌||◌, not, is_some, if◌then◌else◌}
use Rattle.std.specs.List.{list_any}
use Rattle.std.proofs.lemmas.Bool.{false≢true, eq-eqb, eqb-true}
use Rattle.std.proofs.lemmas.List.{append-nil}
use Rattle.std.proofs.lemmas.List.Elements.{filter-append}
use Rattle.std.proofs.lemmas.List.Folds.{list_any-append}
use Rattle.mesh_gen.specs.declared.kind.Kind.{Kind}
use Rattle.mesh_gen.specs.declared.kind.Kind.TheVariants.{GetS, GetM, PutM}
use Rattle.mesh_gen.specs.declared.request.Request.{Request}
use Rattle.chip_model.specs.declared.waiting.Waiting.{Waiting}
use Rattle.chip_model.specs.Chip.{Chip}
use Rattle.chip_model.specs.Cache.{Held, is_shared, lookup}
use Rattle.chip_model.specs.Misses.{Demand, WriteBack, is_getm, ends_in_getm}
use Rattle.chip_model.specs.Snoop.{CacheSide, Holding, OwnedCopy, LiveBack, OpenWrite, OpenRead, SharedCopy, Nothing, holding_demand, holding_by, ordered_for, live_for, holding, snooped_with}
use Rattle.chip_model.specs.Ownership.{is_owned_copy}
use Rattle.chip_model.specs.NodeShape.{SideFits}
use Rattle.chip_model.specs.Bookkeeping.{is_get, gets_of_others, up_to_getm, waiting_for}
use Rattle.snoop_core.proofs.HoldingCases.{holding_forms, ordered_is}

-- ---- the demand after the request
abbrev pub waiting_of : Request → Waiting
waiting_of q = record { tile = q.source; kind = q.kind }

abbrev pub get_follows : Request → Demand → Demand
get_follows q demand =
    if is_getm demand.kind then (if ends_in_getm demand.list then demand else record demand { list = demand.list ++ waiting_of q ∷ [] })
    else (if is_getm q.kind then record demand { once = true } else demand)

abbrev pub request_follows : Request → Demand → Demand
request_follows q demand = if is_get q.kind && (q.line == demand.line) then get_follows q demand else demand

-- an ordered demand is the first thing that a request for its line meets
not_live_for : (line : ℕ) (entry : Option WriteBack) → ((back : WriteBack) → entry ≡ Some back → (line == back.line) ≡ false) → live_for line entry ≡ None
not_live_for line None apart = refl
not_live_for line (Some back) apart = by (back.line == line) refl back.live where
  by : (same : Bool) → (back.line == line) ≡ same → (live : Bool) → cond (same && live) (Some back) None ≡ None
  by false is live = refl
  by true is live = absurd (false≢true (sym (apart back refl) ∙ eq-eqb line back.line (sym (eqb-true back.line line is))))

ordered_here : (demand : Demand) → is_some demand.ordered ≡ true → ordered_for demand.line (Some demand) ≡ Some demand
ordered_here demand ordered =
    ap (λ (b : Bool). cond (b && is_some demand.ordered) (Some demand) None) (eq-eqb demand.line demand.line refl)
    ∙ ap (λ (b : Bool). cond (true && b) (Some demand) None) ordered

unowned_holding : (copy : Option Held) (demand : Demand) → is_owned_copy copy ≡ false → holding_by copy None (Some demand) ≡ holding_demand demand
unowned_holding None demand unowned = refl
unowned_holding (Some held) demand unowned = by (is_shared held.state) unowned where
  by : (shared : Bool) → not shared ≡ false → cond shared (holding_demand demand) (OwnedCopy held.words) ≡ holding_demand demand
  by true e = refl
  by false e = absurd (false≢true (sym e))

demand_holds : (chip : Chip) (side : CacheSide) (demand : Demand) → SideFits chip side → side.misses.demand ≡ Some demand → is_some demand.ordered ≡ true
    → holding chip side demand.line ≡ holding_demand demand
unfolding holding
demand_holds chip side demand fits stands ordered =
    ap (λ (b : Option WriteBack). holding_by (lookup chip side.cache demand.line) b (ordered_for demand.line side.misses.demand))
    (not_live_for demand.line side.misses.back (λ back is. fits.apart demand back stands is))
    ∙ ap (λ (d : Option Demand). holding_by (lookup chip side.cache demand.line) None d) (ap (ordered_for demand.line) stands ∙ ordered_here demand ordered)
    ∙ unowned_holding (lookup chip side.cache demand.line) demand ((fits.demand demand stands).unowned ordered)

met_demand : (chip : Chip) (q : Request) (side : CacheSide) (demand : Demand) (kind : Kind) (writes ends : Bool) → side.misses.demand ≡ Some demand → is_get kind ≡ true
    → (snooped_with chip q side (cond writes (cond ends Nothing (OpenWrite demand)) (OpenRead demand)) kind).side.misses.demand
    ≡ Some (cond {A = Demand} writes (cond ends demand (record demand { list = demand.list ++ waiting_of q ∷ [] })) (cond (is_getm kind) (record demand { once = true }) demand))
met_demand chip q side demand GetS true true stands get = stands
met_demand chip q side demand GetS true false stands get = refl
met_demand chip q side demand GetS false ends stands get = stands
met_demand chip q side demand GetM true true stands get = stands
met_demand chip q side demand GetM true false stands get = refl
met_demand chip q side demand GetM false ends stands get = refl
met_demand chip q side demand PutM writes ends stands get = cc

-- a request for another line leaves the demand
far_demand : (chip : Chip) (q : Request) (side : CacheSide) (kind : Kind) → ((demand : Demand) → side.misses.demand ≡ Some demand → (q.line == demand.line) ≡ false)
    → (snooped_with chip q side (holding chip side q.line) kind).side.misses.demand ≡ side.misses.demand
far_demand chip q side kind far = holding_forms chip side q.line (λ h. (snooped_with chip q side h kind).side.misses.demand ≡ side.misses.demand) (record {
  owned = λ held there owned. by_copy held.words kind;
  live = λ copy back is. by_back back.words kind;
  write = λ copy back d there writes goes_on. no d there;
  read = λ copy back d there reads. no d there;
  ended = λ copy back d there writes ends. by_none kind;
  shared = λ copy back none. by_shared kind;
  absent = λ copy back none. by_none kind;
})
  where
    by_copy : (words : List ℕ) (kind : Kind) → (snooped_with chip q side (OwnedCopy words) kind).side.misses.demand ≡ side.misses.demand
    by_copy words GetS = refl
    by_copy words GetM = refl
    by_copy words PutM = refl

    by_back : (words : List ℕ) (kind : Kind) → (snooped_with chip q side (LiveBack words) kind).side.misses.demand ≡ side.misses.demand
    by_back words GetS = refl
    by_back words GetM = refl
    by_back words PutM = refl

    by_shared : (kind : Kind) → (snooped_with chip q side SharedCopy kind).side.misses.demand ≡ side.misses.demand
    by_shared GetS = refl
    by_shared GetM = refl
    by_shared PutM = refl

    by_none : (kind : Kind) → (snooped_with chip q side Nothing kind).side.misses.demand ≡ side.misses.demand
    by_none GetS = refl
    by_none GetM = refl
    by_none PutM = refl

    no : {P : Type 0} (d : Demand) → ordered_for q.line side.misses.demand ≡ Some d → P
    no d there =
        let is = ordered_is q.line side.misses.demand d there in
        absurd (false≢true (sym (far d is.stands) ∙ eq-eqb q.line d.line (sym is.at)))

put_demand : (chip : Chip) (q : Request) (side : CacheSide) (h : Holding) (kind : Kind) → is_get kind ≡ false → (snooped_with chip q side h kind).side.misses.demand ≡ side.misses.demand
put_demand chip q side h GetS put = cc
put_demand chip q side h GetM put = cc
put_demand chip q side h PutM put = grind arith

-- an ordered demand after the request of another tile
pub other_demand : (chip : Chip) (q : Request) (side : CacheSide) (demand : Demand) → SideFits chip side → side.misses.demand ≡ Some demand → is_some demand.ordered ≡ true
    → (snooped_with chip q side (holding chip side q.line) q.kind).side.misses.demand ≡ Some (request_follows q demand)
other_demand chip q side demand fits stands ordered = by (is_get q.kind) (q.line == demand.line) refl refl where
  by : (get here : Bool) → is_get q.kind ≡ get → (q.line == demand.line) ≡ here
      → (snooped_with chip q side (holding chip side q.line) q.kind).side.misses.demand ≡ Some (cond (get && here) (get_follows q demand) demand)
  by false here put same = put_demand chip q side (holding chip side q.line) q.kind put ∙ stands
  by true false get far = far_demand chip q side q.kind (λ d is. subst (λ (x : Demand). (q.line == x.line) ≡ false) (same_demand d is) far) ∙ stands where
    same_demand : (d : Demand) → side.misses.demand ≡ Some d → demand ≡ d
    same_demand d is = let both : Some demand ≡ Some d = sym stands ∙ is in cc
  by true true get same =
      ap (λ (h : Holding). (snooped_with chip q side h q.kind).side.misses.demand)
      (ap (holding chip side) (eqb-true q.line demand.line same) ∙ demand_holds chip side demand fits stands ordered)
      ∙ met_demand chip q side demand q.kind (is_getm demand.kind) (ends_in_getm demand.list) stands get

-- ---- the lists of those that follow
ends_after : (waiting : Waiting) (list : List Waiting) → is_getm waiting.kind ≡ false → ends_in_getm (waiting ∷ list) ≡ ends_in_getm list
ends_after waiting [] reads = reads
ends_after waiting (next ∷ rest) reads = refl

pub up_to_getm-more : (requests : List Request) (q : Request)
    → waiting_for (up_to_getm (requests ++ q ∷ []))
    ≡ cond (ends_in_getm (waiting_for (up_to_getm requests))) (waiting_for (up_to_getm requests)) (waiting_for (up_to_getm requests) ++ waiting_of q ∷ [])
up_to_getm-more [] q = by (is_getm q.kind) where
  by : (b : Bool) → waiting_for (cond b (q ∷ []) (q ∷ [])) ≡ waiting_of q ∷ []
  by true = refl
  by false = refl
up_to_getm-more (first ∷ rest) q = by (is_getm first.kind) refl (up_to_getm-more rest q) where
  longer : (list : List Waiting) (all : List Waiting) → is_getm first.kind ≡ false → all ≡ cond (ends_in_getm list) list (list ++ waiting_of q ∷ [])
      → waiting_of first ∷ all ≡ cond (ends_in_getm (waiting_of first ∷ list)) (waiting_of first ∷ list) (waiting_of first ∷ (list ++ waiting_of q ∷ []))
  longer list all reads is = ap (λ (xs : List Waiting). waiting_of first ∷ xs) is ∙ push (ends_in_getm list)
      ∙ ap (λ (b : Bool). cond b (waiting_of first ∷ list) (waiting_of first ∷ (list ++ waiting_of q ∷ []))) (sym (ends_after (waiting_of first) list reads)) where
        push : (b : Bool) → waiting_of first ∷ cond b list (list ++ waiting_of q ∷ []) ≡ cond b (waiting_of first ∷ list) (waiting_of first ∷ (list ++ waiting_of q ∷ []))
        push true = refl
        push false = refl

  by : (b : Bool) → is_getm first.kind ≡ b
      → waiting_for (up_to_getm (rest ++ q ∷ [])) ≡ cond (ends_in_getm (waiting_for (up_to_getm rest))) (waiting_for (up_to_getm rest)) (waiting_for (up_to_getm rest) ++ waiting_of q ∷ [])
      → waiting_for (cond b (first ∷ []) (first ∷ up_to_getm (rest ++ q ∷ [])))
      ≡ cond (ends_in_getm (waiting_for (cond b (first ∷ []) (first ∷ up_to_getm rest)))) (waiting_for (cond b (first ∷ []) (first ∷ up_to_getm rest)))
      (waiting_for (cond b (first ∷ []) (first ∷ up_to_getm rest)) ++ waiting_of q ∷ [])
  by true writes before = sym (ap (λ (b : Bool). cond b (waiting_of first ∷ []) (waiting_of first ∷ waiting_of q ∷ [])) writes)
  by false reads before = longer (waiting_for (up_to_getm rest)) (waiting_for (up_to_getm (rest ++ q ∷ []))) reads before

-- after a load, whether another tile wrote; after a store, who waits
pub record Follows (tile : ℕ) (demand : Demand) (requests : List Request) : Type 0 where
  pub once : demand.kind ≡ GetS → demand.once ≡ list_any (λ (q : Request). is_getm q.kind) (gets_of_others tile demand.line requests)
  pub list : demand.kind ≡ GetM → demand.list ≡ waiting_for (up_to_getm (gets_of_others tile demand.line requests))

-- another tile's get for the line is one more; any other request is none
abbrev counts : ℕ → ℕ → Request → Bool
counts tile line q = is_get q.kind && (q.line == line) && not (q.source == tile)

others_more : (tile line : ℕ) (requests : List Request) (q : Request) (b : Bool) → counts tile line q ≡ b
    → gets_of_others tile line (requests ++ q ∷ []) ≡ gets_of_others tile line requests ++ cond b (q ∷ []) []
others_more tile line requests q b is = filter-append (counts tile line) requests (q ∷ []) ∙ ap (λ (c : Bool). gets_of_others tile line requests ++ cond c (q ∷ []) []) is

-- a request that does not count leaves what follows
pub follows_same : (tile : ℕ) (demand : Demand) (q : Request) (requests : List Request) → counts tile demand.line q ≡ false → Follows tile demand requests → Follows tile demand (requests ++ q ∷ [])
follows_same tile demand q requests none is =
    let same : gets_of_others tile demand.line (requests ++ q ∷ []) ≡ gets_of_others tile demand.line requests =
    others_more tile demand.line requests q false none ∙ append-nil (gets_of_others tile demand.line requests) in
    record {
      once = λ kind. is.once kind ∙ ap (list_any (λ (r : Request). is_getm r.kind)) (sym same);
      list = λ kind. is.list kind ∙ ap (λ (rs : List Request). waiting_for (up_to_getm rs)) (sym same);
    }

or_last : (x y : Bool) → (x || (y || false)) ≡ cond y true x
or_last true true = refl
or_last true false = refl
or_last false true = refl
or_last false false = refl

write_follows : (tile : ℕ) (demand : Demand) (q : Request) (requests : List Request) (ends : Bool) → ends_in_getm demand.list ≡ ends → is_getm demand.kind ≡ true
    → counts tile demand.line q ≡ true → Follows tile demand requests → Follows tile (cond {A = Demand} ends demand (record demand { list = demand.list ++ waiting_of q ∷ [] })) (requests ++ q ∷ [])
write_follows tile demand q requests ends ends_is writes counted is =
    let now = ap (λ (rs : List Request). waiting_for (up_to_getm rs)) (others_more tile demand.line requests q true counted) ∙ up_to_getm-more (gets_of_others tile demand.line requests) q in
    by ends ends_is now where
      not_load : demand.kind ≡ GetS → ⊥
      not_load kind = false≢true (sym (ap is_getm kind) ∙ writes)

      by : (ends : Bool) → ends_in_getm demand.list ≡ ends
          → waiting_for (up_to_getm (gets_of_others tile demand.line (requests ++ q ∷ [])))
          ≡ cond (ends_in_getm (waiting_for (up_to_getm (gets_of_others tile demand.line requests)))) (waiting_for (up_to_getm (gets_of_others tile demand.line requests))) (waiting_for (up_to_getm (gets_of_others tile demand.line requests)) ++ waiting_of q ∷ [])
          → Follows tile (cond {A = Demand} ends demand (record demand { list = demand.list ++ waiting_of q ∷ [] })) (requests ++ q ∷ [])
      by true ends now = record {
        once = λ kind. absurd (not_load kind);
        list = λ kind. is.list kind
            ∙ sym (now ∙ ap (λ (b : Bool). cond b (waiting_for (up_to_getm (gets_of_others tile demand.line requests))) (waiting_for (up_to_getm (gets_of_others tile demand.line requests)) ++ waiting_of q ∷ [])) (ap ends_in_getm (sym (is.list kind)) ∙ ends));
      }
      by false goes_on now = record {
        once = λ kind. absurd (not_load kind);
        list = λ kind. ap (λ (xs : List Waiting). xs ++ waiting_of q ∷ []) (is.list kind)
            ∙ sym (now ∙ ap (λ (b : Bool). cond b (waiting_for (up_to_getm (gets_of_others tile demand.line requests))) (waiting_for (up_to_getm (gets_of_others tile demand.line requests)) ++ waiting_of q ∷ [])) (ap ends_in_getm (sym (is.list kind)) ∙ goes_on));
      }

read_follows : (tile : ℕ) (demand : Demand) (q : Request) (requests : List Request) → is_getm demand.kind ≡ false
    → counts tile demand.line q ≡ true → Follows tile demand requests → Follows tile (cond {A = Demand} (is_getm q.kind) (record demand { once = true }) demand) (requests ++ q ∷ [])
read_follows tile demand q requests reads counted is = by (is_getm q.kind) now where
  not_store : demand.kind ≡ GetM → ⊥
  not_store kind = false≢true (sym reads ∙ ap is_getm kind)

  now : list_any (λ (r : Request). is_getm r.kind) (gets_of_others tile demand.line (requests ++ q ∷ [])) ≡ cond (is_getm q.kind) true (list_any (λ (r : Request). is_getm r.kind) (gets_of_others tile demand.line requests))
  now = ap (list_any (λ (r : Request). is_getm r.kind)) (others_more tile demand.line requests q true counted)
      ∙ list_any-append (λ (r : Request). is_getm r.kind) (gets_of_others tile demand.line requests) (q ∷ [])
      ∙ or_last (list_any (λ (r : Request). is_getm r.kind) (gets_of_others tile demand.line requests)) (is_getm q.kind)

  by : (w : Bool) → list_any (λ (r : Request). is_getm r.kind) (gets_of_others tile demand.line (requests ++ q ∷ [])) ≡ cond w true (list_any (λ (r : Request). is_getm r.kind) (gets_of_others tile demand.line requests))
      → Follows tile (cond {A = Demand} w (record demand { once = true }) demand) (requests ++ q ∷ [])
  by true now = record { once = λ kind. sym now; list = λ kind. absurd (not_store kind) }
  by false now = record { once = λ kind. is.once kind ∙ sym now; list = λ kind. absurd (not_store kind) }

get_more : (tile : ℕ) (demand : Demand) (q : Request) (requests : List Request) (writes : Bool) → is_getm demand.kind ≡ writes → counts tile demand.line q ≡ true → Follows tile demand requests
    → Follows tile (cond {A = Demand} writes (if ends_in_getm demand.list then demand else record demand { list = demand.list ++ waiting_of q ∷ [] }) (if is_getm q.kind then record demand { once = true } else demand)) (requests ++ q ∷ [])
get_more tile demand q requests true writes counted is = write_follows tile demand q requests (ends_in_getm demand.list) refl writes counted is
get_more tile demand q requests false reads counted is = read_follows tile demand q requests reads counted is

and_third : (x y z : Bool) → z ≡ true → (x && y && z) ≡ (x && y)
and_third true true true e = refl
and_third true false true e = refl
and_third false true true e = refl
and_third false false true e = refl
and_third x y false e = absurd (false≢true e)

pub no_third : (x y z : Bool) → z ≡ false → (x && y && z) ≡ false
no_third true true false e = refl
no_third true false false e = refl
no_third false true false e = refl
no_third false false false e = refl
no_third x y true e = absurd (false≢true (sym e))

-- another tile's request
pub follows_more : (tile : ℕ) (demand : Demand) (q : Request) (requests : List Request) → (q.source == tile) ≡ false → Follows tile demand requests
    → Follows tile (request_follows q demand) (requests ++ q ∷ [])
follows_more tile demand q requests other is = by (is_get q.kind && (q.line == demand.line)) refl where
  counted : counts tile demand.line q ≡ (is_get q.kind && (q.line == demand.line))
  counted = and_third (is_get q.kind) (q.line == demand.line) (not (q.source == tile)) (ap not other)

  by : (b : Bool) → (is_get q.kind && (q.line == demand.line)) ≡ b → Follows tile (cond b (get_follows q demand) demand) (requests ++ q ∷ [])
  by true here = get_more tile demand q requests (is_getm demand.kind) refl (counted ∙ here) is
  by false away = follows_same tile demand q requests (counted ∙ away) is

-- the own request counts nowhere
pub follows_own : (tile : ℕ) (demand : Demand) (q : Request) (requests : List Request) → (q.source == tile) ≡ true → Follows tile demand requests → Follows tile demand (requests ++ q ∷ [])
follows_own tile demand q requests own is = follows_same tile demand q requests (no_third (is_get q.kind) (q.line == demand.line) (not (q.source == tile)) (ap not own)) is
