-- The table of a home at the delivery of a request: the record of its line stays what the order says of it.
use Rattle.std.proofs.Common.{◌≡◌, ℕ, ◌+◌, ◌<◌, ◌≤◌, Bool, true, false, cond, List, [], ◌∷◌, ◌++◌, length, take, refl, sym, ◌∙◌, ap, subst, arith, Option, Some, None}
use Rattle.std.specs.Prelude.{◌==◌, ◌&&◌, not, slice_get}
use Rattle.std.proofs.lemmas.Bool.{eq-eqb}
use Rattle.std.proofs.lemmas.Option.{slice_get_within}
use Rattle.mesh_gen.specs.declared.kind.Kind.{Kind}
use Rattle.mesh_gen.specs.declared.kind.Kind.TheVariants.{GetS, GetM, PutM}
use Rattle.mesh_gen.specs.declared.request.Request.{Request}
use Rattle.chip_model.specs.declared.owner.Owner.{Owner}
use Rattle.chip_model.specs.declared.owner.Owner.TheVariants.{Memory, Tile}
use Rattle.chip_model.specs.declared.waiting.Waiting.{Waiting}
use Rattle.chip_model.specs.Records.{LineRecord, Answer, from_memory, awaiting_write_back, owned_by_tile, answered_by}
use Rattle.chip_model.specs.ChipState.{ChipState}
use Rattle.chip_model.specs.Ownership.{owner, is_tile}
use Rattle.chip_model.specs.Bookkeeping.{is_get, between, up_to_getm, waiting_for}
use Rattle.chip_model.specs.Suppliers.{writes_back_as, writes_back, last_written_back, has_reached_memory, has_come}
use Rattle.chip_laws.proofs.OrderLists.{between_none}
use Rattle.chip_laws.proofs.SupplyAccounts.{is_memory}
use Rattle.supply_laws.proofs.LastPlaces.{LastIs, IsLastOf}
use Rattle.supply_laws.proofs.WriteBackPlaces.{gets_for, last_of_all}
use Rattle.supply_laws.proofs.ReachedWords.{reached_earlier, not_reached, fresh_at, waiters_since, waiters_at, LineHolds}
use Rattle.supply_laws.proofs.AnsweredHomes.{last_below, last_here, next_is_here, next_none, fresh_passed, waits_passed, none_since, get_elsewhere, get_waits_here, line_passed}

-- no request after a place writes the line back
abbrev pub NoneLater : List Request → ℕ → ℕ → Type 0
NoneLater ordered line n = (k : ℕ) → n < k → k < length ordered → writes_back line ordered k ≡ false

-- what is known of a request for the line, and of the record of the line's home, where it delivers the request
pub record Meets (s : ChipState) (line n : ℕ) (q : Request) (r : LineRecord) : Type 0 where
  pub for : q.line ≡ line
  pub owner : r.owner ≡ owner line (take n s.network.ordered)
  -- after a get that memory supplies with a copy to write, no request writes the line back
  pub alone : q.kind ≡ GetM → r.owner ≡ Memory → r.fresh ≡ true → NoneLater s.network.ordered line n

module _ (s : ChipState) (line n : ℕ) (q : Request) (r : LineRecord) (at : slice_get s.network.ordered n ≡ Some q) (meets : Meets s line n q r) (is : LineHolds s line n r) where
  abbrev ordered : List Request
  ordered = s.network.ordered

  abbrev prefix : Option ℕ
  prefix = last_written_back line (take n ordered)

  abbrev Holds : LineRecord → Type 0
  Holds left = LineHolds s line (n + 1) left

  within : n ≤ length ordered
  within = let less = slice_get_within ordered n q at in omega (arith, less)

  here : (q.line == line) ≡ true
  here = eq-eqb q.line line meets.for

  -- ---- what the request is
  writes_as : (kind : Kind) (o : Owner) → q.kind ≡ kind → r.owner ≡ o → writes_back line ordered n ≡ (not (is_get kind) && true && is_tile q.source o)
  writes_as kind o kind_is owner_is =
      ap (writes_back_as line (owner line (take n ordered))) at
      ∙ ap (λ (b : Bool). not (is_get q.kind) && b && is_tile q.source (owner line (take n ordered))) here
      ∙ ap (λ (k : Kind). not (is_get k) && true && is_tile q.source (owner line (take n ordered))) kind_is
      ∙ ap (λ (p : Owner). not (is_get kind) && true && is_tile q.source p) (sym meets.owner ∙ owner_is)

  gets_as : (kind : Kind) → q.kind ≡ kind → gets_for line (q ∷ []) ≡ cond {A = List Request} (is_get kind && true) (q ∷ []) []
  gets_as kind kind_is =
      ap (λ (b : Bool). cond {A = List Request} (is_get q.kind && b) (q ∷ []) []) here
      ∙ ap (λ (k : Kind). cond {A = List Request} (is_get k && true) (q ∷ []) []) kind_is

  owned_by : (o : Owner) → r.owner ≡ o → is_memory (owner line (take n ordered)) ≡ is_memory o
  owned_by o owner_is = ap is_memory (sym meets.owner ∙ owner_is)

  fresh_of : (o : Owner) (fresh : Bool) → r.owner ≡ o → r.fresh ≡ fresh → fresh ≡ fresh_at s line n o
  fresh_of o fresh owner_is fresh_is = sym fresh_is ∙ is.fresh ∙ ap (fresh_at s line n) owner_is

  -- a request that passes leaves the record
  passes : writes_back line ordered n ≡ false → gets_for line (q ∷ []) ≡ [] → Holds r
  passes none gets = line_passed s line n q r at none gets is

  none_waits : r.fresh ≡ true → r.waiters ≡ []
  none_waits fresh = is.waiters ∙ ap (λ (b : Bool). cond {A = List Waiting} b [] (waiters_at s line n)) fresh

  -- ---- memory owns the line and has its words
  fresh_read : (o : Owner) → r.owner ≡ o → r.fresh ≡ true → writes_back line ordered n ≡ false → Holds r
  fresh_read o owner_is fresh none = record {
    fresh = is.fresh ∙ sym (fresh_passed s line n q r at r.owner none);
    waiters = none_waits fresh ∙ sym (ap (λ (b : Bool). cond {A = List Waiting} b [] (waiters_at s line (n + 1))) fresh);
  }

  fresh_written : r.owner ≡ Memory → r.fresh ≡ true → q.kind ≡ GetM → Holds (record r { owner = Tile q.source; fresh = false })
  fresh_written owner_is fresh kind_is =
      let none = writes_as GetM Memory kind_is owner_is in
      record {
        fresh = sym (next_none s line n q r at (meets.alone kind_is owner_is fresh));
        waiters = none_waits fresh
            ∙ sym (waits_passed s line n q r at none ∙ none_since s line n q r at (n + 1) prefix (sym (fresh_of Memory true owner_is fresh)));
      }

  from_memory_holds : (kind : Kind) → q.kind ≡ kind → r.owner ≡ Memory → r.fresh ≡ true → Holds (from_memory q r kind).left
  from_memory_holds GetS kind_is owner_is fresh = fresh_read Memory owner_is fresh (writes_as GetS Memory kind_is owner_is)
  from_memory_holds GetM kind_is owner_is fresh = fresh_written owner_is fresh kind_is
  from_memory_holds PutM kind_is owner_is fresh = passes (writes_as PutM Memory kind_is owner_is) (gets_as PutM kind_is)

  -- ---- memory owns the line and waits for its words: those of the last request that wrote it back are due
  awaited : (o : Option ℕ) → prefix ≡ o → false ≡ has_come s line true o → (place : ℕ) × (prefix ≡ Some place) × (has_reached_memory s line place ≡ false)
  awaited None o_is none = cc
  awaited (Some place) o_is late = (place, o_is, sym late)

  waits_more : (kind : Kind) → q.kind ≡ kind → is_get kind ≡ true → r.owner ≡ Memory → r.fresh ≡ false → writes_back line ordered n ≡ false
      → r.waiters ++ record { tile = q.source; kind = q.kind } ∷ [] ≡ waiters_at s line (n + 1)
  waits_more kind kind_is get owner_is stale none =
      let due = awaited prefix refl (fresh_of Memory false owner_is stale) in
      let place : ℕ = due.0 in
      let place_is : prefix ≡ Some place = due.1 in
      let before : r.waiters ≡ waiters_since s line n (Some place) =
      is.waiters ∙ ap (λ (b : Bool). cond {A = List Waiting} b [] (waiters_at s line n)) stale ∙ ap (waiters_since s line n) place_is in
      ap (λ (list : List Waiting). list ++ record { tile = q.source; kind = q.kind } ∷ []) before
      ∙ sym (get_waits_here s line n q r at place place_is (owned_by Memory owner_is) due.2
      (gets_as kind kind_is ∙ ap (λ (b : Bool). cond {A = List Request} (b && true) (q ∷ []) []) get))
      ∙ sym (waits_passed s line n q r at none ∙ ap (waiters_since s line (n + 1)) place_is)

  -- it is the last one of all
  due_last : (place : ℕ) → prefix ≡ Some place → has_reached_memory s line place ≡ false → NoneLater ordered line n
  due_last place place_is late k above below =
      let last : IsLastOf (writes_back line ordered) 0 (length ordered) place =
      subst (LastIs (writes_back line ordered) 0 (length ordered)) (not_reached s line place late).last (last_of_all line ordered) in
      let earlier = last_below line n place ordered within place_is in
      last.after k (omega (arith, earlier, above)) (omega (arith, below))

  awaiting_holds : (kind : Kind) → q.kind ≡ kind → r.owner ≡ Memory → r.fresh ≡ false → Holds (awaiting_write_back q r kind).left
  awaiting_holds GetS kind_is owner_is stale =
      let none = writes_as GetS Memory kind_is owner_is in
      record {
        fresh = is.fresh ∙ sym (fresh_passed s line n q r at r.owner none);
        waiters = waits_more GetS kind_is refl owner_is stale none ∙ sym (ap (λ (b : Bool). cond {A = List Waiting} b [] (waiters_at s line (n + 1))) stale);
      }
  awaiting_holds GetM kind_is owner_is stale =
      let none = writes_as GetM Memory kind_is owner_is in
      let due = awaited prefix refl (fresh_of Memory false owner_is stale) in
      record {
        fresh = stale ∙ sym (next_none s line n q r at (due_last due.0 due.1 due.2));
        waiters = waits_more GetM kind_is refl owner_is stale none ∙ sym (ap (λ (b : Bool). cond {A = List Waiting} b [] (waiters_at s line (n + 1))) stale);
      }
  awaiting_holds PutM kind_is owner_is stale = passes (writes_as PutM Memory kind_is owner_is) (gets_as PutM kind_is)

  -- ---- a tile owns the line
  tile_waits : (t : ℕ) → r.owner ≡ Tile t → writes_back line ordered n ≡ false → r.waiters ≡ cond r.fresh [] (waiters_at s line (n + 1))
  tile_waits t owner_is none =
      is.waiters ∙ sym (ap (λ (list : List Waiting). cond r.fresh [] list)
      (waits_passed s line n q r at none ∙ get_elsewhere s line n q r at prefix refl (owned_by (Tile t) owner_is)))

  tile_keeps : (t : ℕ) → r.owner ≡ Tile t → writes_back line ordered n ≡ false → Holds r
  tile_keeps t owner_is none = record { fresh = is.fresh ∙ sym (fresh_passed s line n q r at r.owner none); waiters = tile_waits t owner_is none }

  tile_written : (t : ℕ) → r.owner ≡ Tile t → q.kind ≡ GetM → Holds (record r { owner = Tile q.source })
  tile_written t owner_is kind_is =
      let none = writes_as GetM (Tile t) kind_is owner_is in
      record {
        fresh = is.fresh ∙ ap (fresh_at s line n) owner_is ∙ sym (fresh_passed s line n q r at (Tile q.source) none);
        waiters = tile_waits t owner_is none;
      }

  -- who waited before has his words, where the line is written back now
  since_earlier : (o : Option ℕ) → prefix ≡ o → writes_back line ordered n ≡ true → waiters_since s line n o ≡ []
  since_earlier None o_is writes = refl
  since_earlier (Some place) o_is writes =
      ap (λ (b : Bool). cond {A = List Waiting} b [] (waiting_for (up_to_getm (gets_for line (between place n ordered)))))
      (reached_earlier s line place n writes (last_below line n place ordered within o_is))

  since_here : waiters_since s line (n + 1) (Some n) ≡ []
  since_here =
      let less = slice_get_within ordered n q at in
      by (has_reached_memory s line n)
      (ap (λ (rs : List Request). waiting_for (up_to_getm (gets_for line rs))) (between_none ordered n less))
    where
      by : (b : Bool) → waiting_for (up_to_getm (gets_for line (between n (n + 1) ordered))) ≡ []
          → cond {A = List Waiting} b [] (waiting_for (up_to_getm (gets_for line (between n (n + 1) ordered)))) ≡ []
      by true none = refl
      by false none = none

  both_none : (b : Bool) (xs ys : List Waiting) → xs ≡ [] → ys ≡ [] → cond {A = List Waiting} b [] xs ≡ cond b [] ys
  both_none true xs ys no_xs no_ys = refl
  both_none false xs ys no_xs no_ys = no_xs ∙ sym no_ys

  tile_returns : (t : ℕ) → r.owner ≡ Tile t → writes_back line ordered n ≡ true → Holds (record r { owner = Memory })
  tile_returns t owner_is writes =
      let now = last_here s line n q r at writes in
      record {
        fresh = is.fresh ∙ ap (fresh_at s line n) owner_is ∙ ap (has_come s line false) (next_is_here s line n q r at writes) ∙ sym (ap (has_come s line true) now);
        waiters = is.waiters
            ∙ both_none r.fresh (waiters_at s line n) (waiters_at s line (n + 1)) (since_earlier prefix refl writes) (ap (waiters_since s line (n + 1)) now ∙ since_here);
      }

  owned_holds : (t : ℕ) (kind : Kind) → q.kind ≡ kind → r.owner ≡ Tile t → Holds (owned_by_tile q r t kind).left
  owned_holds t GetS kind_is owner_is = tile_keeps t owner_is (writes_as GetS (Tile t) kind_is owner_is)
  owned_holds t GetM kind_is owner_is = tile_written t owner_is kind_is
  owned_holds t PutM kind_is owner_is = by (t == q.source) refl where
    by : (own : Bool) → (t == q.source) ≡ own → Holds (cond own (record r { owner = Memory }) r)
    by true own = tile_returns t owner_is (writes_as PutM (Tile t) kind_is owner_is ∙ own)
    by false other = passes (writes_as PutM (Tile t) kind_is owner_is ∙ other) (gets_as PutM kind_is)

  -- ---- the whole table
  owner_holds : (o : Owner) → r.owner ≡ o → Holds (answered_by q r o).left
  owner_holds Memory owner_is = by r.fresh refl where
    by : (fresh : Bool) → r.fresh ≡ fresh → Holds (cond {A = Answer} fresh (from_memory q r q.kind) (awaiting_write_back q r q.kind)).left
    by true fresh = from_memory_holds q.kind refl owner_is fresh
    by false stale = awaiting_holds q.kind refl owner_is stale
  owner_holds (Tile t) owner_is = owned_holds t q.kind refl owner_is

  pub line_answered : Holds (answered_by q r r.owner).left
  line_answered = owner_holds r.owner refl
