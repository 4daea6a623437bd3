-- Who owns a line along the order: a tile owns it until a request writes it back, and the memory until a tile asks to write it.
use Rattle.std.proofs.Common.{◌≡◌, ℕ, zero, suc, ◌+◌, ◌-◌, ◌<◌, ◌≤◌, Bool, true, false, cond, refl, sym, ◌∙◌, ap, subst, arith, inl, inr, ◌⊎◌, Some, List, [], ◌∷◌, take, length}
use Rattle.std.specs.Prelude.{◌==◌, ◌&&◌, not, slice_get}
use Rattle.std.proofs.lemmas.Bool.{both_ways, eq-eqb, eqb-true}
use Rattle.mesh_gen.specs.declared.kind.Kind.{Kind}
use Rattle.mesh_gen.specs.declared.kind.Kind.TheVariants.{GetS, GetM, PutM}
use Rattle.mesh_gen.specs.declared.request.Request.{Request}
use Rattle.chip_model.specs.declared.owner.Owner.{Owner}
use Rattle.chip_model.specs.declared.owner.Owner.TheVariants.{Memory, Tile}
use Rattle.chip_model.specs.Ownership.{owner, writer, owner_by, owner_after, written_back, is_tile}
use Rattle.chip_model.specs.Bookkeeping.{is_get}
use Rattle.chip_model.specs.Suppliers.{writes_back_as, writes_back}
use Rattle.chip_laws.proofs.OwnerFolds.{owner_next, writer_owns}
use Rattle.supply_laws.proofs.OwnerGets.{back_of}

-- where the memory owns the line no tile may write it
pub none_may_write : (line : ℕ) (requests : List Request) → owner line requests ≡ Memory → writer line requests ≡ Memory
none_may_write line requests owned = elim (writer_owns line requests) [ inl none ↦ none | inr same ↦ same ∙ owned ]

-- after a request that writes it back the memory owns the line
pub memory_after_back : (line place : ℕ) (ordered : List Request) → writes_back line ordered place ≡ true → owner line (take (place + 1) ordered) ≡ Memory
unfolding owner_after
memory_after_back line place ordered is =
    let w = back_of line place ordered is in
    owner_next line place ordered w.put w.at
    ∙ ap (λ (b : Bool). cond b (owner_by w.put.source w.put.kind (owner line (take place ordered))) (owner line (take place ordered)))
    (eq-eqb w.put.line line w.same)
    ∙ ap (λ (k : Kind). owner_by w.put.source k (owner line (take place ordered))) w.kind
    ∙ ap (written_back w.put.source) w.owned
    ∙ ap (λ (b : Bool). cond b Memory (Tile w.put.source)) (eq-eqb w.put.source w.put.source refl)

-- ---- a tile owns it until a request writes it back
abbrev IsTiles : Owner → Type 0
IsTiles o = (v : ℕ) × (o ≡ Tile v)

tile_after : (line v : ℕ) (q : Request) (kind : Kind) (same own : Bool) → q.kind ≡ kind → (q.line == line) ≡ same → is_tile q.source (Tile v) ≡ own
    → writes_back_as line (Tile v) (Some q) ≡ false → IsTiles (owner_after line (Tile v) q)
unfolding owner_after
tile_after line v q kind false own k l o not_back = (v, ap (λ (b : Bool). cond b (owner_by q.source q.kind (Tile v)) (Tile v)) l)
tile_after line v q GetS true own k l o not_back =
    (v, ap (λ (b : Bool). cond b (owner_by q.source q.kind (Tile v)) (Tile v)) l ∙ ap (λ (x : Kind). owner_by q.source x (Tile v)) k)
tile_after line v q GetM true own k l o not_back =
    (q.source, ap (λ (b : Bool). cond b (owner_by q.source q.kind (Tile v)) (Tile v)) l ∙ ap (λ (x : Kind). owner_by q.source x (Tile v)) k)
tile_after line v q PutM true false k l o not_back = (
  v,
  ap (λ (b : Bool). cond b (owner_by q.source q.kind (Tile v)) (Tile v)) l
      ∙ ap (λ (x : Kind). owner_by q.source x (Tile v)) k
      ∙ ap (λ (b : Bool). cond b Memory (Tile v)) o,
)
tile_after line v q PutM true true k l o not_back =
    let is : writes_back_as line (Tile v) (Some q) ≡ true =
    ap (λ (x : Kind). not (is_get x) && (q.line == line) && is_tile q.source (Tile v)) k
    ∙ ap (λ (b : Bool). true && b && is_tile q.source (Tile v)) l
    ∙ o in
    absurd (both_ways (writes_back_as line (Tile v) (Some q)) not_back is)

pub some_at : (ordered : List Request) (n : ℕ) → n < length ordered → (q : Request) × (slice_get ordered n ≡ Some q)
some_at [] n below = absurd (omega (arith, below))
some_at (x ∷ xs) zero below = (x, refl)
some_at (x ∷ xs) (suc n) below = some_at xs n (omega (arith, below))

pub tile_stays : (line n v : ℕ) (ordered : List Request) → n < length ordered → owner line (take n ordered) ≡ Tile v → writes_back line ordered n ≡ false
    → (w : ℕ) × (owner line (take (n + 1) ordered) ≡ Tile w)
tile_stays line n v ordered within owned not_back =
    let (q, at) = some_at ordered n within in
    let fails : writes_back_as line (Tile v) (Some q) ≡ false =
    sym (ap (writes_back_as line (owner line (take n ordered))) at ∙ ap (λ (o : Owner). writes_back_as line o (Some q)) owned) ∙ not_back in
    let (w, is) = tile_after line v q q.kind (q.line == line) (is_tile q.source (Tile v)) refl refl refl fails in
    (w, owner_next line n ordered q at ∙ (ap (λ (o : Owner). owner_after line o q) owned ∙ is))

pub tile_owns_on : (line n gap v : ℕ) (ordered : List Request) → n + gap ≤ length ordered → owner line (take n ordered) ≡ Tile v
    → ((k : ℕ) → n ≤ k → k < n + gap → writes_back line ordered k ≡ false) → (w : ℕ) × (owner line (take (n + gap) ordered) ≡ Tile w)
tile_owns_on line n zero v ordered within owned none =
    let same : n ≡ n + 0 = omega arith in (v, subst (λ (k : ℕ). owner line (take k ordered) ≡ Tile v) same owned)
tile_owns_on line n (suc gap) v ordered within owned none =
    let same : n + gap + 1 ≡ n + suc gap = omega arith in
    let (w, before) = tile_owns_on line n gap v ordered (omega (arith, within)) owned (λ k above below. none k above (omega (arith, below))) in
    let (x, is) = tile_stays line (n + gap) w ordered (omega (arith, within)) before (none (n + gap) (omega arith) (omega arith)) in
    (x, subst (λ (k : ℕ). owner line (take k ordered) ≡ Tile x) same is)

-- where the memory owns it, no request from an earlier place on having written it back, the memory owned it at that place
pub memory_owned : (line k n : ℕ) (ordered : List Request) → k ≤ n → n ≤ length ordered → owner line (take n ordered) ≡ Memory
    → ((j : ℕ) → k ≤ j → j < n → writes_back line ordered j ≡ false) → owner line (take k ordered) ≡ Memory
memory_owned line k n ordered less within owned none = by (owner line (take k ordered)) refl where
  by : (o : Owner) → owner line (take k ordered) ≡ o → owner line (take k ordered) ≡ Memory
  by Memory is = is
  by (Tile v) is =
      let sum : k + (n - k) ≡ n = omega (arith, less) in
      let (w, later) = tile_owns_on line k (n - k) v ordered (omega (arith, sum, within)) is (λ j above below. none j above (omega (arith, sum, below))) in
      let clash : Memory ≡ Tile w = sym owned ∙ (ap (λ (m : ℕ). owner line (take m ordered)) (sym sum) ∙ later) in
      absurd (cc)

-- ---- the memory owns it until a tile asks to write it
-- the first request by which a tile comes to own the line
pub record FirstWrite (line from below : ℕ) (ordered : List Request) : Type 0 where
  pub place : ℕ
  pub beyond : from ≤ place
  pub before : place < below
  pub get : Request
  pub at : slice_get ordered place ≡ Some get
  pub kind : get.kind ≡ GetM
  pub same : get.line ≡ line
  pub owned : owner line (take place ordered) ≡ Memory

memory_after : (line : ℕ) (q : Request) (kind : Kind) (same : Bool) → q.kind ≡ kind → (q.line == line) ≡ same
    → (owner_after line Memory q ≡ Memory) ⊎ ((q.kind ≡ GetM) × (q.line ≡ line))
unfolding owner_after
memory_after line q kind false k l = inl (ap (λ (b : Bool). cond b (owner_by q.source q.kind Memory) Memory) l)
memory_after line q GetS true k l = inl (ap (λ (b : Bool). cond b (owner_by q.source q.kind Memory) Memory) l ∙ ap (λ (x : Kind). owner_by q.source x Memory) k)
memory_after line q GetM true k l = inr (k, eqb-true q.line line l)
memory_after line q PutM true k l = inl (ap (λ (b : Bool). cond b (owner_by q.source q.kind Memory) Memory) l ∙ ap (λ (x : Kind). owner_by q.source x Memory) k)

-- a place on: the memory goes on owning the line, or the request there is a GetM for it
pub memory_next : (line n : ℕ) (ordered : List Request) (q : Request) → slice_get ordered n ≡ Some q → owner line (take n ordered) ≡ Memory
    → (owner line (take (n + 1) ordered) ≡ Memory) ⊎ ((q.kind ≡ GetM) × (q.line ≡ line))
memory_next line n ordered q at owned = elim (memory_after line q q.kind (q.line == line) refl refl) [
  | inl stays ↦ inl (owner_next line n ordered q at ∙ (ap (λ (o : Owner). owner_after line o q) owned ∙ stays))
  | inr writes ↦ inr writes
]

-- the memory owns the line up to a place, or a tile has asked to write it before
pub first_write : (line from gap : ℕ) (ordered : List Request) → from + gap ≤ length ordered → owner line (take from ordered) ≡ Memory
    → (owner line (take (from + gap) ordered) ≡ Memory) ⊎ FirstWrite line from (from + gap) ordered
first_write line from zero ordered within owned =
    let same : from ≡ from + 0 = omega arith in inl (subst (λ (k : ℕ). owner line (take k ordered) ≡ Memory) same owned)
first_write line from (suc gap) ordered within owned =
    let same : from + gap + 1 ≡ from + suc gap = omega arith in
    elim (first_write line from gap ordered (omega (arith, within)) owned) [
      | inl still ↦ (
          let (q, at) = some_at ordered (from + gap) (omega (arith, within)) in
          elim (memory_next line (from + gap) ordered q at still) [
            | inl stays ↦ inl (subst (λ (k : ℕ). owner line (take k ordered) ≡ Memory) same stays)
            | inr writes ↦
                inr (record {
                  place = from + gap;
                  beyond = omega arith;
                  before = omega arith;
                  get = q;
                  at = at;
                  kind = writes.0;
                  same = writes.1;
                  owned = still;
                })
          ])
      | inr first ↦ inr (record {
        place = first.place;
        beyond = first.beyond;
        before = omega (arith, first.before);
        get = first.get;
        at = first.at;
        kind = first.kind;
        same = first.same;
        owned = first.owned;
      })
    ]
