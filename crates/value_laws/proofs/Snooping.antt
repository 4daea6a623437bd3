-- What the request of another tile leaves of the cache side of a node, and whose words it sends.
use Rattle.std.proofs.Common.{◌≡◌, ℕ, zero, suc, Bool, true, false, ◌==◌, Option, Some, None, List, [], ◌∷◌, ◌++◌, is_some, eq-eqb, sym, ap, ◌∙◌, refl, subst, inl, inr, ◌⊎◌, arith}
use Rattle.std.specs.Prelude.{if◌then◌else◌, slice_get}
use Rattle.std.proofs.lemmas.Bool.{false≢true}
use Rattle.std.proofs.lemmas.Bool.Decides.{nat_tests}
use Rattle.std.proofs.lemmas.Option.{same_Some}
use Rattle.mesh_gen.specs.declared.request.Request.{Request}
use Rattle.mesh_gen.specs.declared.kind.Kind.{Kind}
use Rattle.mesh_gen.specs.declared.kind.Kind.TheVariants.{GetS, GetM, PutM}
use Rattle.mesh_gen.specs.declared.msg.Msg.{Msg}
use Rattle.chip_model.specs.declared.line_state.State.TheVariants.{O}
use Rattle.chip_model.specs.Chip.{Chip}
use Rattle.chip_model.specs.Cache.{Cache, Held, is_shared, lookup, installed, without_line}
use Rattle.chip_model.specs.Misses.{Demand, WriteBack}
use Rattle.chip_model.specs.Snoop.{CacheSide, Outcome, quiet, with_cache, with_demand, stale_back, Holding, holding, snooped_with, data_to}
use Rattle.chip_model.specs.NodeShape.{is_modified}
use Rattle.chip_model.specs.Bookkeeping.{is_get}
use Rattle.chip_model.specs.Writers.{is_ordered_write}
use Rattle.chip_model.specs.Values.{place_of_demand}
use Rattle.snoop_core.proofs.CacheMaps.{lookup-without_line, lookup-installed, fits_held}
use Rattle.snoop_core.proofs.HoldingCases.{holding_forms, live_is, ordered_is}
use Rattle.chip_laws.proofs.Options.{none_some}

-- ---- the demand

-- a demand stood with the same line, place and early data
pub record DemandStood (old : Option Demand) (demand : Demand) : Type 0 where
  pub was : Demand
  pub stood : old ≡ Some was
  pub line : was.line ≡ demand.line
  pub kind : was.kind ≡ demand.kind
  pub ordered : was.ordered ≡ demand.ordered
  pub early : was.early ≡ demand.early

-- the demand stays, but for who waits for it and whether its words serve once
pub record DemandStays (old new : Option Demand) : Type 0 where
  pub stood : (demand : Demand) → new ≡ Some demand → DemandStood old demand
  pub writes : (line : ℕ) → is_ordered_write line new ≡ is_ordered_write line old
  pub place : (count : ℕ) → place_of_demand new count ≡ place_of_demand old count

demand_same : (entry : Option Demand) → DemandStays entry entry
demand_same entry = record {
  stood = λ demand is. record { was = demand; stood = is; line = refl; kind = refl; ordered = refl; early = refl };
  writes = λ line. refl;
  place = λ count. refl;
}

demand_changed : (old : Option Demand) (was is : Demand) → old ≡ Some was → is.line ≡ was.line → is.kind ≡ was.kind → is.ordered ≡ was.ordered
    → is.early ≡ was.early
    → DemandStays old (Some is)
demand_changed old was is stood line kind ordered early = record {
  stood = λ demand e.
      let same : is ≡ demand = same_Some is demand e in
      record {
        was = was;
        stood = stood;
        line = sym line ∙ ap (λ (x : Demand). x.line) same;
        kind = sym kind ∙ ap (λ (x : Demand). x.kind) same;
        ordered = sym ordered ∙ ap (λ (x : Demand). x.ordered) same;
        early = sym early ∙ ap (λ (x : Demand). x.early) same;
      };
  writes = λ l. by l ∙ sym (ap (is_ordered_write l) stood);
  place = λ count. at count ∙ sym (ap (λ (o : Option Demand). place_of_demand o count) stood);
}
  where
    by : (l : ℕ) → is_ordered_write l (Some is) ≡ is_ordered_write l (Some was)
    by l = cc

    at : (count : ℕ) → place_of_demand (Some is) count ≡ place_of_demand (Some was) count
    at count = cc

-- ---- the outcome

-- an owned copy that is read becomes one that others may share
pub record BecomesOwned (chip : Chip) (side : CacheSide) (q : Request) (line : ℕ) (held : Held) : Type 0 where
  pub was : Held
  pub at : lookup chip side.cache q.line ≡ Some was
  pub owned : is_shared was.state ≡ false
  pub same : q.line ≡ line
  pub kind : q.kind ≡ GetS
  pub state : held.state ≡ O
  pub words : held.words ≡ was.words

-- words are those of an owned copy of the line, which is not the only valid one afterwards
pub record OfCopy (chip : Chip) (side : CacheSide) (left : Cache) (line : ℕ) (words : List ℕ) : Type 0 where
  pub held : Held
  pub at : lookup chip side.cache line ≡ Some held
  pub owned : is_shared held.state ≡ false
  pub is : held.words ≡ words
  pub clean : is_modified (lookup chip left line) ≡ false

-- words are those of a live write-back of the line
pub record OfBack (side : CacheSide) (line : ℕ) (words : List ℕ) : Type 0 where
  pub back : WriteBack
  pub stands : side.misses.back ≡ Some back
  pub live : back.live ≡ true
  pub same : back.line ≡ line
  pub is : back.words ≡ words

-- a message answers the request with the words of an owned copy or of a live write-back
pub record SendsWords (chip : Chip) (side : CacheSide) (left : Cache) (q : Request) (msg : Msg) : Type 0 where
  pub words : List ℕ
  pub is : msg ≡ data_to q.source q.line words
  pub asks : is_get q.kind ≡ true
  pub of : OfCopy chip side left q.line words ⊎ OfBack side q.line words

-- each copy stood or was made one to share, each live write-back stood, the demand stays, and the words are those of an owner
pub record Snooped (chip : Chip) (side : CacheSide) (q : Request) (outcome : Outcome) : Type 0 where
  pub copies : (line : ℕ) (held : Held) → lookup chip outcome.side.cache line ≡ Some held
      → (lookup chip side.cache line ≡ Some held) ⊎ BecomesOwned chip side q line held
  pub demand : DemandStays side.misses.demand outcome.side.misses.demand
  pub back : (back : WriteBack) → outcome.side.misses.back ≡ Some back → back.live ≡ true → side.misses.back ≡ Some back
  pub sends : (i : ℕ) (msg : Msg) → slice_get outcome.sends i ≡ Some msg → SendsWords chip side outcome.side.cache q msg

-- ---- its parts

abbrev CopiesStood : Chip → CacheSide → Request → Cache → Type 0
CopiesStood chip side q cache = (line : ℕ) (held : Held) → lookup chip cache line ≡ Some held
    → (lookup chip side.cache line ≡ Some held) ⊎ BecomesOwned chip side q line held

copies_gone : (chip : Chip) (side : CacheSide) (q : Request) → CopiesStood chip side q (without_line chip q.line side.cache)
copies_gone chip side q line held at = by (line == q.line) (sym (lookup-without_line chip side.cache q.line line) ∙ at) where
  by : (b : Bool) → (if b then None else lookup chip side.cache line) ≡ Some held
      → (lookup chip side.cache line ≡ Some held) ⊎ BecomesOwned chip side q line held
  by true is = none_some held is
  by false is = inl is

copies_owned : (chip : Chip) (side : CacheSide) (q : Request) (was : Held) → q.kind ≡ GetS → lookup chip side.cache q.line ≡ Some was
    → is_shared was.state ≡ false
    → CopiesStood chip side q (installed chip (record { line = q.line; state = O; words = was.words }) side.cache)
copies_owned chip side q was kind there owned line held at =
    by (line == q.line) refl (sym (lookup-installed chip side.cache new line (fits_held chip side.cache q.line (ap is_some there))) ∙ at)
  where
    new : Held
    new = record { line = q.line; state = O; words = was.words }

    by : (b : Bool) → (line == q.line) ≡ b → (if b then Some new else lookup chip side.cache line) ≡ Some held
        → (lookup chip side.cache line ≡ Some held) ⊎ BecomesOwned chip side q line held
    by true test is =
        let same : new ≡ held = same_Some new held is in
        let here : line ≡ q.line = grind (arith, nat_tests) in
        inr (record {
          was = was;
          at = there;
          owned = owned;
          same = sym here;
          kind = kind;
          state = ap (λ (x : Held). x.state) (sym same);
          words = ap (λ (x : Held). x.words) (sym same);
        })
    by false test is = inl is

one_sent : (chip : Chip) (side : CacheSide) (left : Cache) (q : Request) (words : List ℕ) → is_get q.kind ≡ true
    → OfCopy chip side left q.line words ⊎ OfBack side q.line words
    → (i : ℕ) (msg : Msg) → slice_get (data_to q.source q.line words ∷ []) i ≡ Some msg → SendsWords chip side left q msg
one_sent chip side left q words asks of zero msg at = record {
  words = words;
  is = sym (same_Some (data_to q.source q.line words) msg at);
  asks = asks;
  of = of;
}
one_sent chip side left q words asks of (suc i) msg at = none_some msg at

-- the line of the request is not the only valid copy afterwards
gone_clean : (chip : Chip) (cache : Cache) (line : ℕ) → is_modified (lookup chip (without_line chip line cache) line) ≡ false
gone_clean chip cache line =
    ap is_modified (lookup-without_line chip cache line line ∙ ap (λ (b : Bool). if b then None else lookup chip cache line) (eq-eqb line line refl))

owned_clean : (chip : Chip) (cache : Cache) (line : ℕ) (was : Held) → lookup chip cache line ≡ Some was
    → is_modified (lookup chip (installed chip (record { line = line; state = O; words = was.words }) cache) line) ≡ false
owned_clean chip cache line was there =
    let new : Held = record { line = line; state = O; words = was.words } in
    ap is_modified (lookup-installed chip cache new line (fits_held chip cache line (ap is_some there))
    ∙ ap (λ (b : Bool). if b then Some new else lookup chip cache line) (eq-eqb line line refl))

-- a step that sends nothing and leaves the write-back
leaves : (chip : Chip) (side : CacheSide) (q : Request) (cache : Cache) (demand : Option Demand) → CopiesStood chip side q cache
    → DemandStays side.misses.demand demand
    → Snooped chip side q (quiet (with_demand demand (with_cache cache side)))
leaves chip side q cache demand copies stays = record {
  copies = copies;
  demand = stays;
  back = λ back stands live. stands;
  sends = λ i msg at. none_some msg at;
}

stays : (chip : Chip) (side : CacheSide) (q : Request) → Snooped chip side q (quiet side)
stays chip side q = leaves chip side q side.cache side.misses.demand (λ line held at. inl at) (demand_same side.misses.demand)

stale_is_not_live : (entry : Option WriteBack) (back : WriteBack) → stale_back entry ≡ Some back → back.live ≡ true → ⊥
stale_is_not_live None back is live = none_some back is
stale_is_not_live (Some was) back is live = false≢true (ap (λ (x : WriteBack). x.live) (same_Some (record was { live = false }) back is) ∙ live)

-- ---- the table

-- a GetS
snooped_read : (chip : Chip) (side : CacheSide) (q : Request) → q.kind ≡ GetS → Snooped chip side q (snooped_with chip q side (holding chip side q.line) GetS)
snooped_read chip side q kind = holding_forms chip side q.line (λ h. Snooped chip side q (snooped_with chip q side h GetS)) (record {
  owned = λ held there owned. record {
    copies = copies_owned chip side q held kind there owned;
    demand = demand_same side.misses.demand;
    back = λ back stands live. stands;
    sends = one_sent chip side (installed chip (record { line = q.line; state = O; words = held.words }) side.cache) q held.words (ap is_get kind)
        (inl (record { held = held; at = there; owned = owned; is = refl; clean = owned_clean chip side.cache q.line held there }));
  };
  live = λ copy back is. (
      let lives = live_is q.line side.misses.back back is in
      record {
        copies = λ line held at. inl at;
        demand = demand_same side.misses.demand;
        back = λ b stands live. stands;
        sends = one_sent chip side side.cache q back.words (ap is_get kind)
            (inr (record { back = back; stands = lives.stands; live = lives.live; same = lives.at; is = refl }));
      });
  write = λ copy back demand is writes goes_on. leaves chip side q side.cache
      (Some (record demand { list = demand.list ++ record { tile = q.source; kind = q.kind } ∷ [] })) (λ line held at. inl at)
      (demand_changed side.misses.demand demand (record demand { list = demand.list ++ record { tile = q.source; kind = q.kind } ∷ [] })
      (ordered_is q.line side.misses.demand demand is).stands refl refl refl refl);
  read = λ copy back demand is reads. stays chip side q;
  ended = λ copy back demand is writes ends. stays chip side q;
  shared = λ copy back demand. stays chip side q;
  absent = λ copy back demand. stays chip side q;
})

-- a GetM
snooped_write : (chip : Chip) (side : CacheSide) (q : Request) → q.kind ≡ GetM → Snooped chip side q (snooped_with chip q side (holding chip side q.line) GetM)
snooped_write chip side q kind = holding_forms chip side q.line (λ h. Snooped chip side q (snooped_with chip q side h GetM)) (record {
  owned = λ held there owned. record {
    copies = copies_gone chip side q;
    demand = demand_same side.misses.demand;
    back = λ back stands live. stands;
    sends = one_sent chip side (without_line chip q.line side.cache) q held.words (ap is_get kind)
        (inl (record { held = held; at = there; owned = owned; is = refl; clean = gone_clean chip side.cache q.line }));
  };
  live = λ copy back is. (
      let lives = live_is q.line side.misses.back back is in
      record {
        copies = λ line held at. inl at;
        demand = demand_same side.misses.demand;
        back = λ b stands live. absurd (stale_is_not_live side.misses.back b stands live);
        sends = one_sent chip side side.cache q back.words (ap is_get kind)
            (inr (record { back = back; stands = lives.stands; live = lives.live; same = lives.at; is = refl }));
      });
  write = λ copy back demand is writes goes_on. leaves chip side q (without_line chip q.line side.cache)
      (Some (record demand { list = demand.list ++ record { tile = q.source; kind = q.kind } ∷ [] })) (copies_gone chip side q)
      (demand_changed side.misses.demand demand (record demand { list = demand.list ++ record { tile = q.source; kind = q.kind } ∷ [] })
      (ordered_is q.line side.misses.demand demand is).stands refl refl refl refl);
  read = λ copy back demand is reads. leaves chip side q side.cache (Some (record demand { once = true })) (λ line held at. inl at)
      (demand_changed side.misses.demand demand (record demand { once = true }) (ordered_is q.line side.misses.demand demand is).stands refl refl refl refl);
  ended = λ copy back demand is writes ends. stays chip side q;
  shared = λ copy back demand. leaves chip side q (without_line chip q.line side.cache) side.misses.demand (copies_gone chip side q)
      (demand_same side.misses.demand);
  absent = λ copy back demand. stays chip side q;
})

put_quiet : (chip : Chip) (q : Request) (side : CacheSide) (h : Holding) → snooped_with chip q side h PutM ≡ quiet side
put_quiet chip q side h = grind arith

snooped_kind : (chip : Chip) (side : CacheSide) (q : Request) (kind : Kind) → q.kind ≡ kind
    → Snooped chip side q (snooped_with chip q side (holding chip side q.line) kind)
snooped_kind chip side q GetS is = snooped_read chip side q is
snooped_kind chip side q GetM is = snooped_write chip side q is
snooped_kind chip side q PutM is = subst (Snooped chip side q) (sym (put_quiet chip q side (holding chip side q.line))) (stays chip side q)

-- the request of another tile at the cache side of a node
pub snooped_side : (chip : Chip) (side : CacheSide) (q : Request) → Snooped chip side q (snooped_with chip q side (holding chip side q.line) q.kind)
snooped_side chip side q = snooped_kind chip side q q.kind refl
