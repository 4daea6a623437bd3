-- A request at a line's home: the values of the records afterwards, and of the words that the controller sends.
use Rattle.std.proofs.Common.{◌≡◌, ℕ, zero, suc, ◌+◌, ◌<◌, Bool, true, false, cond, refl, sym, ◌∙◌, ap, subst, arith, inl, inr, ◌⊎◌, Option, Some, None, List, [], ◌∷◌, take, set, length}
use Rattle.std.specs.Prelude.{◌==◌, is_some, slice_get, slice_index_or}
use Rattle.std.proofs.lemmas.Bool.{false≢true, eqb-true, false_from_ne_true}
use Rattle.std.proofs.lemmas.Option.{same_Some, slice_get_within}
use Rattle.mesh_gen.specs.declared.kind.Kind.{Kind}
use Rattle.mesh_gen.specs.declared.kind.Kind.TheVariants.{GetS, GetM, PutM}
use Rattle.mesh_gen.specs.declared.request.Request.{Request}
use Rattle.mesh_gen.specs.declared.msg.Msg.{Msg}
use Rattle.mesh_gen.specs.declared.msg_kind.MsgKind.TheVariants.{Data}
use Rattle.doc_text.specs.Doc.{Doc}
use Rattle.chip_model.specs.declared.owner.Owner.{Owner}
use Rattle.chip_model.specs.declared.owner.Owner.TheVariants.{Memory, Tile}
use Rattle.chip_model.specs.Chip.{Chip, chip_of, home}
use Rattle.chip_model.specs.Records.{LineRecord, Records, from_memory, awaiting_write_back, owned_by_tile, answered_by, answered_at, answered}
use Rattle.chip_model.specs.Snoop.{data_to}
use Rattle.chip_model.specs.Units.{UnitState}
use Rattle.chip_model.specs.ChipState.{ChipState}
use Rattle.chip_model.specs.Ownership.{owner}
use Rattle.chip_model.specs.Bookkeeping.{is_get}
use Rattle.chip_model.specs.Suppliers.{count_of, delivered_at, supplier, place_of_get, writes_back, next_from, places_written_back, next_written_back}
use Rattle.chip_model.specs.Values.{HasValue, MessageHasValue, RecordHasValue, NodeHasValues}
use Rattle.chip_model.specs.ChipInvariant.{ProtocolHolds}
use Rattle.chip_laws.specs.DocLaws.{DocLaws}
use Rattle.chip_laws.specs.EventSteps.{ChangesUnit}
use Rattle.chip_laws.proofs.Options.{none_some}
use Rattle.chip_laws.proofs.RequestsInside.{request_inside}
use Rattle.chip_laws.proofs.SuppliedEvents.{unit_holds}
use Rattle.supply_laws.proofs.GetPlaces.{get_of}
use Rattle.supply_laws.proofs.LastPlaces.{next_more_no, next_unique}
use Rattle.supply_laws.proofs.OneToComes.{to_come_by}
use Rattle.supply_laws.proofs.WriteBackPlaces.{next_after}
use Rattle.value_laws.proofs.OwnersOn.{none_may_write, memory_after_back, tile_stays}
use Rattle.value_laws.proofs.SettledSteps.{OrdersNothing, now}
use Rattle.value_laws.proofs.StepValues.{KeepsSettled, value_on}
use Rattle.value_laws.proofs.NextValues.{passes}

-- ---- what the controller's table leaves of a record
record AnswerLeaves (old left : LineRecord) : Type 0 where
  pub words : left.words ≡ old.words
  pub fresh : left.fresh ≡ true → old.fresh ≡ true
  pub memory : old.owner ≡ Memory → left.fresh ≡ true → left.owner ≡ Memory

same_left : (old : LineRecord) → AnswerLeaves old old
same_left old = record { words = refl; fresh = λ is. is; memory = λ is fresh. is }

memory_left : (q : Request) (r : LineRecord) (kind : Kind) → AnswerLeaves r (from_memory q r kind).left
memory_left q r GetS = same_left r
memory_left q r GetM = record { words = refl; fresh = λ is. absurd (false≢true is); memory = λ is fresh. absurd (false≢true fresh) }
memory_left q r PutM = same_left r

waiting_left : (q : Request) (r : LineRecord) (kind : Kind) → r.fresh ≡ false → AnswerLeaves r (awaiting_write_back q r kind).left
waiting_left q r GetS stale = record { words = refl; fresh = λ is. is; memory = λ is fresh. is }
waiting_left q r GetM stale = record { words = refl; fresh = λ is. is; memory = λ is fresh. absurd (false≢true (sym stale ∙ fresh)) }
waiting_left q r PutM stale = same_left r

tile_left : (q : Request) (r : LineRecord) (tile : ℕ) (kind : Kind) → r.owner ≡ Tile tile → AnswerLeaves r (owned_by_tile q r tile kind).left
tile_left q r tile GetS owned = same_left r
tile_left q r tile GetM owned = record { words = refl; fresh = λ is. is; memory = λ is fresh. let wrong : Memory ≡ Tile tile = sym is ∙ owned in absurd (cc) }
tile_left q r tile PutM owned = by (tile == q.source) where
  by : (b : Bool) → AnswerLeaves r (cond b (record r { owner = Memory }) r)
  by true = record { words = refl; fresh = λ is. is; memory = λ is fresh. refl }
  by false = same_left r

answer_left : (q : Request) (r : LineRecord) (o : Owner) → r.owner ≡ o → AnswerLeaves r (answered_by q r o).left
answer_left q r Memory owned = by r.fresh refl where
  by : (b : Bool) → r.fresh ≡ b → AnswerLeaves r (cond b (from_memory q r q.kind) (awaiting_write_back q r q.kind)).left
  by true fresh = memory_left q r q.kind
  by false stale = waiting_left q r q.kind stale
answer_left q r (Tile tile) owned = tile_left q r tile q.kind owned

-- ---- one record is replaced
pub is_set : (records : Records) (m line : ℕ) (old left r : LineRecord) → slice_index_or records m None ≡ Some old
    → slice_index_or (set records m (Some left)) line None ≡ Some r
    → ((line ≡ m) × (r ≡ left)) ⊎ (slice_index_or records line None ≡ Some r)
is_set [] m line old left r there at = cc
is_set (first ∷ records) zero zero old left r there at = inl (refl, sym (same_Some left r at))
is_set (first ∷ records) zero (suc line) old left r there at = inr at
is_set (first ∷ records) (suc m) zero old left r there at = inr at
is_set (first ∷ records) (suc m) (suc line) old left r there at = elim (is_set records m line old left r there at) [
  | inl here ↦ inl (ap (λ (k : ℕ). suc k) here.0, here.1)
  | inr away ↦ inr away
]

-- the record from which one comes
record WasRecord (records : Records) (line : ℕ) (r : LineRecord) : Type 0 where
  pub old : LineRecord
  pub there : slice_index_or records line None ≡ Some old
  pub left : AnswerLeaves old r

was_record : (q : Request) (records : Records) (line : ℕ) (r : LineRecord) → slice_index_or (answered q records).records line None ≡ Some r
    → WasRecord records line r
unfolding answered
was_record q records line r at = by (slice_index_or records q.line None) refl at where
  by : (entry : Option LineRecord) → slice_index_or records q.line None ≡ entry → slice_index_or (answered_at q records entry).records line None ≡ Some r
      → WasRecord records line r
  by None there is = record { old = r; there = is; left = same_left r }
  by (Some old) there is = elim (is_set records q.line line old (answered_by q old old.owner).left r there is) [
    | inl here ↦ record {
      old = old;
      there = ap (λ (l : ℕ). slice_index_or records l None) here.0 ∙ there;
      left = subst (AnswerLeaves old) (sym here.1) (answer_left q old old.owner refl);
    }
    | inr away ↦ record { old = r; there = away; left = same_left r }
  ]

-- ---- the records afterwards
module _ (d : Doc) (s new : ChipState) (e : OrdersNothing d s new) (t : ℕ) (unit after : UnitState) (c : ChangesUnit s new t unit after)
    (keeps : KeepsSettled d s new unit after)
    (count : after.node.delivered ≡ unit.node.delivered + 1) (q : Request) (next : slice_get s.network.ordered unit.node.delivered ≡ Some q)
    (was : NodeHasValues d s unit.node)
    (records : after.node.records ≡ (answered q unit.node.records).records) where
  abbrev n : ℕ
  n = unit.node.delivered

  abbrev ordered : List Request
  ordered = s.network.ordered

  within : n < length ordered
  within = slice_get_within ordered n q next

  owned_before : (line : ℕ) (old : LineRecord) → slice_index_or unit.node.records line None ≡ Some old → old.owner ≡ owner line (take n ordered)
  owned_before line old at = (unit_holds d s t unit e.before c.at).holds.serves.owns.records line old at

  owned_now : (line : ℕ) (r : LineRecord) → slice_index_or after.node.records line None ≡ Some r → r.owner ≡ owner line (take (n + 1) ordered)
  owned_now line r at =
      (unit_holds d new t after e.behind (now d s new e t unit after c)).holds.serves.owns.records line r at
      ∙ ap (λ (rs : List Request). owner line (take after.node.delivered rs)) e.places.order
      ∙ ap (λ (k : ℕ). owner line (take k ordered)) count

  -- the next request that writes the line back, where the delivered one does not
  next_same : (line : ℕ) → writes_back line ordered n ≡ false → next_written_back new line after.node.delivered ≡ next_written_back s line n
  next_same line not_back =
      ap (λ (rs : List Request). next_from after.node.delivered (places_written_back line rs)) e.places.order
      ∙ ap (λ (k : ℕ). next_from k (places_written_back line ordered)) count
      ∙ next_unique (writes_back line ordered) (length ordered) (n + 1) (next_from (n + 1) (places_written_back line ordered))
      (next_from n (places_written_back line ordered))
      (next_after line (n + 1) ordered)
      (next_more_no (writes_back line ordered) (length ordered) n (next_from n (places_written_back line ordered)) not_back (next_after line n ordered))

  -- memory's words, where the memory owns the line afterwards
  memory_words : (line : ℕ) (words : List ℕ) → owner line (take (n + 1) ordered) ≡ Memory → HasValue d s line n words
      → HasValue d new line after.node.delivered words
  memory_words line words owned has = passes d s new e t unit after c keeps count line words (none_may_write line (take (n + 1) ordered) owned) has

  -- the request that makes the memory the owner writes the line back
  writes_it : (line v : ℕ) → owner line (take n ordered) ≡ Tile v → owner line (take (n + 1) ordered) ≡ Memory → writes_back line ordered n ≡ true
  writes_it line v before owned = by (writes_back line ordered n) refl where
    by : (b : Bool) → writes_back line ordered n ≡ b → writes_back line ordered n ≡ true
    by true is = is
    by false is = (let (w, still) = tile_stays line n v ordered within before is in let clash : Memory ≡ Tile w = sym owned ∙ still in absurd (cc))

  by_owners : (line : ℕ) (r : LineRecord) (before owned : Owner) → owner line (take n ordered) ≡ before → owner line (take (n + 1) ordered) ≡ owned
      → (before ≡ Memory → owned ≡ Memory) → RecordHasValue d s unit.node line r before → RecordHasValue d new after.node line r owned
  by_owners line r Memory Memory is owned memory has = memory_words line r.words owned has
  by_owners line r (Tile v) Memory is owned memory has =
      memory_words line r.words owned (has n (
      next_unique (writes_back line ordered) (length ordered) n (next_written_back s line n) (Some n) (next_after line n ordered)
      (record { beyond = omega arith; below = within; passes = writes_it line v is owned; before = λ k above below. absurd (omega (arith, above, below)) })))
  by_owners line r Memory (Tile u) is owned memory has = let clash : Tile u ≡ Memory = memory refl in absurd (cc)
  by_owners line r (Tile v) (Tile u) is owned memory has = λ place next_is.
      value_on d s new e t unit after c keeps line place r.words (has place (
      sym (next_same line (false_from_ne_true (writes_back line ordered n) (λ writes.
      let clash : Memory ≡ Tile u = sym (memory_after_back line n ordered writes) ∙ owned in absurd (cc)))) ∙ next_is))

  words_as : (line : ℕ) (old r : LineRecord) (o : Owner) → r.words ≡ old.words → RecordHasValue d s unit.node line old o → RecordHasValue d s unit.node line r o
  words_as line old r Memory same has = subst (HasValue d s line n) (sym same) has
  words_as line old r (Tile u) same has = λ place next_is. subst (HasValue d s line place) (sym same) (has place next_is)

  pub records_next : (line : ℕ) (r : LineRecord) → slice_index_or after.node.records line None ≡ Some r → r.fresh ≡ true
      → RecordHasValue d new after.node line r r.owner
  records_next line r at fresh =
      let from = was_record q unit.node.records line r (ap (λ (rs : Records). slice_index_or rs line None) (sym records) ∙ at) in
      by_owners line r from.old.owner r.owner (sym (owned_before line from.old from.there)) (sym (owned_now line r at))
      (λ memory. from.left.memory memory fresh)
      (words_as line from.old r from.old.owner from.left.words (was.records line from.old from.there (from.left.fresh fresh)))

-- ---- the words that the controller sends
one_is : (first : Msg) (i : ℕ) (msg : Msg) → slice_get (first ∷ []) i ≡ Some msg → first ≡ msg
one_is first zero msg at = same_Some first msg at
one_is first (suc i) msg at = none_some msg at

-- a message from a record: memory's words, for the get that comes
record FromRecord (q : Request) (r : LineRecord) (msg : Msg) : Type 0 where
  pub memory : r.owner ≡ Memory
  pub fresh : r.fresh ≡ true
  pub asks : is_get q.kind ≡ true
  pub is : msg ≡ data_to q.source q.line r.words

memory_sends : (q : Request) (r : LineRecord) (kind : Kind) (i : ℕ) (msg : Msg) → q.kind ≡ kind → r.owner ≡ Memory → r.fresh ≡ true
    → slice_get (from_memory q r kind).sends i ≡ Some msg
    → FromRecord q r msg
memory_sends q r GetS i msg kind memory fresh at = record {
  memory = memory;
  fresh = fresh;
  asks = ap is_get kind;
  is = sym (one_is (data_to q.source q.line r.words) i msg at);
}
memory_sends q r GetM i msg kind memory fresh at = record {
  memory = memory;
  fresh = fresh;
  asks = ap is_get kind;
  is = sym (one_is (data_to q.source q.line r.words) i msg at);
}
memory_sends q r PutM i msg kind memory fresh at = none_some msg at

waiting_sends : {P : Type 0} (q : Request) (r : LineRecord) (kind : Kind) (i : ℕ) (msg : Msg) → slice_get (awaiting_write_back q r kind).sends i ≡ Some msg → P
waiting_sends q r GetS i msg at = none_some msg at
waiting_sends q r GetM i msg at = none_some msg at
waiting_sends q r PutM i msg at = none_some msg at

tile_sends : {P : Type 0} (q : Request) (r : LineRecord) (tile : ℕ) (kind : Kind) (i : ℕ) (msg : Msg)
    → slice_get (owned_by_tile q r tile kind).sends i ≡ Some msg → P
tile_sends q r tile GetS i msg at = none_some msg at
tile_sends q r tile GetM i msg at = none_some msg at
tile_sends q r tile PutM i msg at = none_some msg at

record_sends : (q : Request) (r : LineRecord) (o : Owner) (i : ℕ) (msg : Msg) → r.owner ≡ o → slice_get (answered_by q r o).sends i ≡ Some msg
    → FromRecord q r msg
record_sends q r Memory i msg owned at = by r.fresh refl at where
  by : (b : Bool) → r.fresh ≡ b → slice_get (cond b (from_memory q r q.kind) (awaiting_write_back q r q.kind)).sends i ≡ Some msg → FromRecord q r msg
  by true fresh e = memory_sends q r q.kind i msg refl owned fresh e
  by false stale e = waiting_sends q r q.kind i msg e
record_sends q r (Tile tile) i msg owned at = tile_sends q r tile q.kind i msg at

-- the record from which the controller sends
record SentFrom (q : Request) (records : Records) (msg : Msg) : Type 0 where
  pub r : LineRecord
  pub there : slice_index_or records q.line None ≡ Some r
  pub sends : FromRecord q r msg

sent_from : (q : Request) (records : Records) (i : ℕ) (msg : Msg) → slice_get (answered q records).sends i ≡ Some msg → SentFrom q records msg
unfolding answered
sent_from q records i msg at = by (slice_index_or records q.line None) refl at where
  by : (entry : Option LineRecord) → slice_index_or records q.line None ≡ entry → slice_get (answered_at q records entry).sends i ≡ Some msg
      → SentFrom q records msg
  by None there e = none_some msg e
  by (Some r) there e = record { r = r; there = there; sends = record_sends q r r.owner i msg refl e }

-- the get that a tile delivers as its supplier is the one for which its tile waits
pub supplied_open : (d : Doc) (s : ChipState) (t : ℕ) (unit : UnitState) (q : Request) → ProtocolHolds d s → slice_get s.units t ≡ Some unit
    → slice_get s.network.ordered unit.node.delivered ≡ Some q → is_get q.kind ≡ true
    → supplier (chip_of d) q.line (owner q.line (take unit.node.delivered s.network.ordered)) ≡ t
    → (other : UnitState) → slice_get s.units q.source ≡ Some other → place_of_get s other.node ≡ Some unit.node.delivered
supplied_open d s t unit q holds at next asks supplies other there =
    let count : delivered_at s (supplier (chip_of d) q.line (owner q.line (take unit.node.delivered s.network.ordered))) ≡ unit.node.delivered =
    ap (delivered_at s) supplies ∙ ap count_of at in
    (unit_holds d s q.source other holds there).holds.serves.one unit.node.delivered
    (to_come_by (chip_of d) s q.source unit.node.delivered q next (get_of q.source q asks refl) (omega (arith, count)))

-- words that have the value at the place of the get that a tile delivers as its supplier answer it
pub answers_delivered : (d : Doc) (s : ChipState) (t : ℕ) (unit : UnitState) (q : Request) (words : List ℕ) → ProtocolHolds d s
    → slice_get s.units t ≡ Some unit
    → slice_get s.network.ordered unit.node.delivered ≡ Some q → is_get q.kind ≡ true
    → supplier (chip_of d) q.line (owner q.line (take unit.node.delivered s.network.ordered)) ≡ t
    → HasValue d s q.line unit.node.delivered words → MessageHasValue d s (data_to q.source q.line words) Data
answers_delivered d s t unit q words holds at next asks supplies has other there = record {
  place = unit.node.delivered;
  request = q;
  get = supplied_open d s t unit q holds at next asks supplies other there;
  at = next;
  line_is = refl;
  value = has;
}

-- a tile that keeps the record of a line is its home
pub home_is : (d : Doc) (s : ChipState) (t : ℕ) (unit : UnitState) (line : ℕ) (r : LineRecord) → ProtocolHolds d s → slice_get s.units t ≡ Some unit
    → line < (chip_of d).lines
    → slice_index_or unit.node.records line None ≡ Some r → home (chip_of d) line ≡ t
home_is d s t unit line r holds at below there =
    let own = (unit_holds d s t unit holds at).holds.node in
    let inside = subst (λ (chip : Chip). line < chip.lines) (sym own.chip) below in
    let here : (home unit.node.chip line == unit.node.tile) ≡ true = sym (own.fits.lines.records line inside) ∙ ap is_some there in
    sym (ap (λ (chip : Chip). home chip line) own.chip) ∙ eqb-true (home unit.node.chip line) unit.node.tile here ∙ own.agrees.tile

-- what the controller sends has its value
pub home_sends : (d : Doc) (s : ChipState) (t : ℕ) (unit : UnitState) (q : Request) (i : ℕ) (msg : Msg) → DocLaws d → ProtocolHolds d s
    → slice_get s.units t ≡ Some unit
    → slice_get s.network.ordered unit.node.delivered ≡ Some q → NodeHasValues d s unit.node → slice_get (answered q unit.node.records).sends i ≡ Some msg
    → MessageHasValue d s msg msg.kind
home_sends d s t unit q i msg fits holds at next has sent =
    let from = sent_from q unit.node.records i msg sent in
    let here : home (chip_of d) q.line ≡ t =
    home_is d s t unit q.line from.r holds at (request_inside d s unit.node.delivered q fits holds next).line from.there in
    let owned : owner q.line (take unit.node.delivered s.network.ordered) ≡ Memory =
    sym ((unit_holds d s t unit holds at).holds.serves.owns.records q.line from.r from.there) ∙ from.sends.memory in
    let value : HasValue d s q.line unit.node.delivered from.r.words =
    subst (RecordHasValue d s unit.node q.line from.r) from.sends.memory (has.records q.line from.r from.there from.sends.fresh) in
    subst (λ (m : Msg). MessageHasValue d s m m.kind) (sym from.sends.is)
    (answers_delivered d s t unit q from.r.words holds at next from.sends.asks (ap (supplier (chip_of d) q.line) owned ∙ here) value)
