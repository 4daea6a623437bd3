-- Where ownership of a line comes from: a tile owns it from its GetM, the memory from the last request that wrote it back.
use Rattle.std.proofs.Common.{◌≡◌, ℕ, zero, suc, ◌+◌, ◌<◌, ◌≤◌, Bool, true, false, cond, refl, sym, ◌∙◌, ap, subst, arith, inl, inr, ◌⊎◌, Option, Some, None, List, take, length}
use Rattle.std.specs.Prelude.{◌==◌, ◌&&◌, not, slice_get}
use Rattle.std.proofs.lemmas.Bool.{false≢true, eq-eqb, eqb-true, cases_eq}
use Rattle.std.proofs.lemmas.List.{take_all}
use Rattle.std.proofs.lemmas.Option.{same_Some}
use Rattle.net_iface.proofs.Places.{item_at}
use Rattle.mesh_gen.specs.declared.kind.Kind.{Kind}
use Rattle.mesh_gen.specs.declared.kind.Kind.TheVariants.{GetS, GetM, PutM}
use Rattle.mesh_gen.specs.declared.request.Request.{Request}
use Rattle.doc_text.specs.Doc.{Doc}
use Rattle.chip_model.specs.declared.owner.Owner.{Owner}
use Rattle.chip_model.specs.declared.owner.Owner.TheVariants.{Memory, Tile}
use Rattle.chip_model.specs.Chip.{chip_of, tile_count}
use Rattle.chip_model.specs.ChipState.{ChipState}
use Rattle.chip_model.specs.Ownership.{is_tile, owner_by, owner_after, owner}
use Rattle.chip_model.specs.Bookkeeping.{is_get}
use Rattle.chip_model.specs.Suppliers.{writes_back_as, writes_back}
use Rattle.chip_model.specs.ChipInvariant.{ProtocolHolds}
use Rattle.chip_laws.specs.DocFits.{DocFits}
use Rattle.chip_laws.proofs.Options.{none_some}
use Rattle.chip_laws.proofs.OrderedTiles.{source_inside}
use Rattle.chip_laws.proofs.OwnerFolds.{owner_next}
use Rattle.supply_laws.specs.OwnerGets.{NoneFrom, OwnerGet, LastBack}

-- the request that writes a line back at a place, and its tile, which owned the line
pub record BackOf (line place : ℕ) (ordered : List Request) : Type 0 where
  pub put : Request
  pub at : slice_get ordered place ≡ Some put
  pub kind : put.kind ≡ PutM
  pub same : put.line ≡ line
  pub owned : owner line (take place ordered) ≡ Tile put.source

-- a request neither asks to write a line nor writes it back
record Passes (line : ℕ) (owner : Owner) (q : Request) : Type 0 where
  pub get : q.kind ≡ GetM → q.line ≡ line → ⊥
  pub back : writes_back_as line owner (Some q) ≡ false

-- a tile asks to write a line
abbrev Writes : ℕ → ℕ → Request → Type 0
Writes line v q = (q.kind ≡ GetM) × (q.source ≡ v) × (q.line ≡ line)

-- ---- one request
back_is : (line : ℕ) (owner : Owner) (q : Request) (kind : Kind) (same tile : Bool) → q.kind ≡ kind → (q.line == line) ≡ same → is_tile q.source owner ≡ tile
    → writes_back_as line owner (Some q) ≡ (not (is_get kind) && same && tile)
back_is line owner q kind same tile k l o =
    ap (λ (x : Kind). not (is_get x) && (q.line == line) && is_tile q.source owner) k
    ∙ ap (λ (x : Bool). not (is_get kind) && x && is_tile q.source owner) l
    ∙ ap (λ (x : Bool). not (is_get kind) && same && x) o

after_is : (line : ℕ) (owner : Owner) (q : Request) (kind : Kind) (same : Bool) → q.kind ≡ kind → (q.line == line) ≡ same
    → owner_after line owner q ≡ cond same (owner_by q.source kind owner) owner
unfolding owner_after
after_is line owner q kind same k l =
    ap (λ (x : Kind). cond (q.line == line) (owner_by q.source x owner) owner) k
    ∙ ap (λ (x : Bool). cond x (owner_by q.source kind owner) owner) l

other_line : (line : ℕ) (q : Request) → (q.line == line) ≡ false → q.line ≡ line → ⊥
other_line line q is same = false≢true (sym is ∙ eq-eqb q.line line same)

apart : (kind : Kind) (tile : Bool) → (not (is_get kind) && false && tile) ≡ false
apart GetS tile = refl
apart GetM tile = refl
apart PutM tile = refl

-- a tile owns the line after a request: it asked, or it owned the line already
tile_owns_by : (line v : ℕ) (q : Request) (owner : Owner) → owner_after line owner q ≡ Tile v → Writes line v q ⊎ ((owner ≡ Tile v) × Passes line owner q)
tile_owns_by line v q owner is = by q.kind (q.line == line) (is_tile q.source owner) refl refl refl where
  by : (kind : Kind) (same tile : Bool) → q.kind ≡ kind → (q.line == line) ≡ same → is_tile q.source owner ≡ tile → Writes line v q ⊎ ((owner ≡ Tile v) × Passes line owner q)
  by kind false tile k l o =
      inr (sym (after_is line owner q kind false k l) ∙ is, record { get = λ g same. other_line line q l same; back = back_is line owner q kind false tile k l o ∙ apart kind tile })
  by GetS true tile k l o = inr (sym (after_is line owner q GetS true k l) ∙ is, record { get = λ g same. cc; back = back_is line owner q GetS true tile k l o })
  by GetM true tile k l o =
      let tiles : Tile q.source ≡ Tile v = sym (after_is line owner q GetM true k l) ∙ is in
      inl (k, cc, eqb-true q.line line l)
  by PutM true true k l o =
      let gone : Memory ≡ Tile v = sym (after_is line owner q PutM true k l ∙ ap (λ (b : Bool). cond b Memory owner) o) ∙ is in
      absurd (cc)
  by PutM true false k l o =
      inr (
        sym (after_is line owner q PutM true k l ∙ ap (λ (b : Bool). cond b Memory owner) o) ∙ is,
        record { get = λ g same. cc; back = back_is line owner q PutM true false k l o },
      )

-- the memory owns the line after a request: that wrote the line back, or the memory owned it already
memory_owns_by : (line : ℕ) (q : Request) (owner : Owner) → owner_after line owner q ≡ Memory → (writes_back_as line owner (Some q) ≡ true) ⊎ ((owner ≡ Memory) × Passes line owner q)
memory_owns_by line q owner is = by q.kind (q.line == line) (is_tile q.source owner) refl refl refl where
  by : (kind : Kind) (same tile : Bool) → q.kind ≡ kind → (q.line == line) ≡ same → is_tile q.source owner ≡ tile
      → (writes_back_as line owner (Some q) ≡ true) ⊎ ((owner ≡ Memory) × Passes line owner q)
  by kind false tile k l o =
      inr (sym (after_is line owner q kind false k l) ∙ is, record { get = λ g same. other_line line q l same; back = back_is line owner q kind false tile k l o ∙ apart kind tile })
  by GetS true tile k l o = inr (sym (after_is line owner q GetS true k l) ∙ is, record { get = λ g same. cc; back = back_is line owner q GetS true tile k l o })
  by GetM true tile k l o =
      let tiles : Tile q.source ≡ Memory = sym (after_is line owner q GetM true k l) ∙ is in
      absurd (cc)
  by PutM true true k l o = inl (back_is line owner q PutM true true k l o)
  by PutM true false k l o =
      inr (
        sym (after_is line owner q PutM true k l ∙ ap (λ (b : Bool). cond b Memory owner) o) ∙ is,
        record { get = λ g same. cc; back = back_is line owner q PutM true false k l o },
      )

-- ---- along the order
none_more : (line start n : ℕ) (ordered : List Request) → NoneFrom line start n ordered
    → ((q : Request) → slice_get ordered n ≡ Some q → q.kind ≡ GetM → q.line ≡ line → ⊥) → writes_back line ordered n ≡ false → NoneFrom line start (suc n) ordered
none_more line start n ordered none get back = record {
  gets = λ k q from below at kind same. elim (cases_eq k n) [
    | inl here ↦ get q (ap (slice_get ordered) (sym here) ∙ at) kind same
    | inr away ↦ none.gets k q from (omega arith) at kind same
  ];
  backs = λ k from below. elim (cases_eq k n) [
    | inl here ↦ ap (writes_back line ordered) here ∙ back
    | inr away ↦ none.backs k from (omega arith)
  ];
}

none_empty : (line start n : ℕ) (ordered : List Request) → n ≤ start → NoneFrom line start n ordered
none_empty line start n ordered less = record { gets = λ k q from below at kind same. absurd (omega arith); backs = λ k from below. absurd (omega arith) }

-- nothing stands at a place
none_beyond : (line start n : ℕ) (ordered : List Request) → slice_get ordered n ≡ None → NoneFrom line start n ordered → NoneFrom line start (suc n) ordered
none_beyond line start n ordered nothing none =
    none_more line start n ordered none (λ q at kind same. none_some q (sym nothing ∙ at)) (ap (writes_back_as line (owner line (take n ordered))) nothing)

none_passed : (line start n : ℕ) (ordered : List Request) (q : Request) → slice_get ordered n ≡ Some q → Passes line (owner line (take n ordered)) q → NoneFrom line start n ordered
    → NoneFrom line start (suc n) ordered
none_passed line start n ordered q at passes none =
    none_more line start n ordered none
    (λ r there kind same.
    let is : q ≡ r = same_Some q r (sym at ∙ there) in
    passes.get (ap (λ (x : Request). x.kind) is ∙ kind) (ap (λ (x : Request). x.line) is ∙ same))
    (ap (writes_back_as line (owner line (take n ordered))) at ∙ passes.back)

beyond_all : (ordered : List Request) (n : ℕ) → slice_get ordered n ≡ None → length ordered ≤ n
beyond_all ordered n nothing = elim (below_or n (length ordered)) [
  | inl below ↦ (let item = item_at ordered n below in none_some item.item (sym nothing ∙ item.there))
  | inr above ↦ above
]
  where
    below_or : (a b : ℕ) → (a < b) ⊎ (b ≤ a)
    below_or a zero = inr (omega arith)
    below_or zero (suc b) = inl (omega arith)
    below_or (suc a) (suc b) = elim (below_or a b) [ inl less ↦ inl (omega arith) | inr more ↦ inr (omega arith) ]

same_beyond : (line n : ℕ) (ordered : List Request) → slice_get ordered n ≡ None → owner line (take n ordered) ≡ owner line (take (suc n) ordered)
same_beyond line n ordered nothing =
    let short = beyond_all ordered n nothing in
    ap (owner line) (take_all n ordered short ∙ sym (take_all (suc n) ordered (omega (arith, short))))

owner_suc : (line n : ℕ) (ordered : List Request) (q : Request) → slice_get ordered n ≡ Some q → owner line (take (suc n) ordered) ≡ owner_after line (owner line (take n ordered)) q
owner_suc line n ordered q at =
    let next : suc n ≡ n + 1 = omega arith in
    ap (λ k. owner line (take k ordered)) next ∙ owner_next line n ordered q at

get_longer : (line v n : ℕ) (ordered : List Request) → ((start : ℕ) → NoneFrom line start n ordered → NoneFrom line start (suc n) ordered) → OwnerGet line v n ordered
    → OwnerGet line v (suc n) ordered
get_longer line v n ordered more was = record {
  place = was.place;
  get = was.get;
  at = was.at;
  before = omega (arith, was.before);
  kind = was.kind;
  source = was.source;
  same = was.same;
  last = more (was.place + 1) was.last;
}

back_longer : (line n : ℕ) (ordered : List Request) → ((start : ℕ) → NoneFrom line start n ordered → NoneFrom line start (suc n) ordered)
    → LastBack line n ordered ⊎ NoneFrom line 0 n ordered → LastBack line (suc n) ordered ⊎ NoneFrom line 0 (suc n) ordered
back_longer line n ordered more (inl was) = inl (record { place = was.place; before = omega (arith, was.before); back = was.back; last = more (was.place + 1) was.last })
back_longer line n ordered more (inr none) = inr (more 0 none)

-- a tile owns a line from its GetM, after which no other one asks to write it and none writes it back
pub owner_get : (line v below : ℕ) (ordered : List Request) → owner line (take below ordered) ≡ Tile v → OwnerGet line v below ordered
unfolding owner
owner_get line v zero ordered is = absurd (let none : Memory ≡ Tile v = is in cc)
owner_get line v (suc n) ordered is = by (slice_get ordered n) refl (owner_get line v n ordered) where
  by : (entry : Option Request) → slice_get ordered n ≡ entry → (owner line (take n ordered) ≡ Tile v → OwnerGet line v n ordered) → OwnerGet line v (suc n) ordered
  by None at before = get_longer line v n ordered (λ start. none_beyond line start n ordered at) (before (same_beyond line n ordered at ∙ is))
  by (Some q) at before = elim (tile_owns_by line v q (owner line (take n ordered)) (sym (owner_suc line n ordered q at) ∙ is)) [
    | inl asks ↦ record {
      place = n;
      get = q;
      at = at;
      before = omega arith;
      kind = asks.0;
      source = asks.1;
      same = asks.2;
      last = none_empty line (n + 1) (suc n) ordered (omega arith);
    }
    | inr stays ↦ get_longer line v n ordered (λ start. none_passed line start n ordered q at stays.1) (before stays.0)
  ]

-- so the tile is one of the chip, as every one that asks
pub owner_inside : (d : Doc) (s : ChipState) (line v : ℕ) → DocFits d → ProtocolHolds d s → owner line s.network.ordered ≡ Tile v → v < tile_count (chip_of d)
owner_inside d s line v fits holds is =
    let all = take_all (length s.network.ordered) s.network.ordered (omega arith) in
    let get = owner_get line v (length s.network.ordered) s.network.ordered (ap (owner line) all ∙ is) in
    subst (λ (u : ℕ). u < tile_count (chip_of d)) get.source (source_inside d s get.place get.get fits holds get.at)

-- the memory owns a line from the last write-back, or because none asked to write it before
pub memory_owns : (line below : ℕ) (ordered : List Request) → owner line (take below ordered) ≡ Memory → LastBack line below ordered ⊎ NoneFrom line 0 below ordered
memory_owns line zero ordered is = inr (none_empty line 0 zero ordered (omega arith))
memory_owns line (suc n) ordered is = by (slice_get ordered n) refl (memory_owns line n ordered) where
  by : (entry : Option Request) → slice_get ordered n ≡ entry → (owner line (take n ordered) ≡ Memory → LastBack line n ordered ⊎ NoneFrom line 0 n ordered)
      → LastBack line (suc n) ordered ⊎ NoneFrom line 0 (suc n) ordered
  by None at before = back_longer line n ordered (λ start. none_beyond line start n ordered at) (before (same_beyond line n ordered at ∙ is))
  by (Some q) at before = elim (memory_owns_by line q (owner line (take n ordered)) (sym (owner_suc line n ordered q at) ∙ is)) [
    | inl back ↦ inl (record {
      place = n;
      before = omega arith;
      back = ap (writes_back_as line (owner line (take n ordered))) at ∙ back;
      last = none_empty line (n + 1) (suc n) ordered (omega arith);
    })
    | inr stays ↦ back_longer line n ordered (λ start. none_passed line start n ordered q at stays.1) (before stays.0)
  ]

-- ---- a request that writes a line back
record Splits (a b c : Bool) : Type 0 where
  pub first : a ≡ true
  pub second : b ≡ true
  pub third : c ≡ true

splits : (a b c : Bool) → (a && b && c) ≡ true → Splits a b c
splits true true c is = record { first = refl; second = refl; third = is }
splits true false c is = absurd (false≢true is)
splits false b c is = absurd (false≢true is)

is_put : (kind : Kind) → not (is_get kind) ≡ true → kind ≡ PutM
is_put GetS is = absurd (false≢true is)
is_put GetM is = absurd (false≢true is)
is_put PutM is = refl

pub is_owner : (t : ℕ) (owner : Owner) → is_tile t owner ≡ true → owner ≡ Tile t
is_owner t Memory is = absurd (false≢true is)
is_owner t (Tile v) is = ap Tile (eqb-true v t is)

-- the request and its tile, which owned the line
pub back_of : (line place : ℕ) (ordered : List Request) → writes_back line ordered place ≡ true → BackOf line place ordered
back_of line place ordered is = by (slice_get ordered place) refl where
  by : (entry : Option Request) → slice_get ordered place ≡ entry → BackOf line place ordered
  by None at = absurd (false≢true (sym (ap (writes_back_as line (owner line (take place ordered))) at) ∙ is))
  by (Some q) at =
      let back = splits (not (is_get q.kind)) (q.line == line) (is_tile q.source (owner line (take place ordered))) (sym (ap (writes_back_as line (owner line (take place ordered))) at) ∙ is) in
      record {
        put = q;
        at = at;
        kind = is_put q.kind back.first;
        same = eqb-true q.line line back.second;
        owned = is_owner q.source (owner line (take place ordered)) back.third;
      }
