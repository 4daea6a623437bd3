-- What a completed demand leaves of its line: its words are the value of the line at the places behind its request, as long as no
-- other tile has asked to write the line.
use Rattle.std.proofs.Common.{◌≡◌, ◌≢◌, ℕ, zero, suc, ◌+◌, ◌-◌, ◌<◌, ◌≤◌, Bool, true, false, refl, sym, ◌∙◌, ap, subst, arith, inl, inr, Some, List, take, length}
use Rattle.std.specs.Prelude.{◌==◌, ◌&&◌, not, nat_le, slice_get}
use Rattle.std.specs.List.{AllByRecursion}
use Rattle.std.proofs.lemmas.Bool.{and_parts, and_from, cases_eq, cases_lt, both_ways, eqb-true, eq-eqb, ne_eqb, leb-true, le-leb, lt-leb}
use Rattle.mesh_gen.specs.declared.kind.Kind.TheVariants.{GetS, GetM}
use Rattle.mesh_gen.specs.declared.request.Request.{Request}
use Rattle.report_text.specs.declared.access.Access.{Access}
use Rattle.doc_text.specs.Doc.{Doc}
use Rattle.chip_model.specs.declared.owner.Owner.TheVariants.{Tile}
use Rattle.chip_model.specs.declared.waiting.Waiting.{Waiting}
use Rattle.chip_model.specs.Chip.{line_of}
use Rattle.chip_model.specs.Misses.{is_getm, ends_in_getm}
use Rattle.chip_model.specs.Snoop.{written_by}
use Rattle.chip_model.specs.Units.{UnitState}
use Rattle.chip_model.specs.ChipState.{ChipState}
use Rattle.chip_model.specs.Ownership.{writer}
use Rattle.chip_model.specs.Bookkeeping.{is_get, is_get_of, between, gets_of_others}
use Rattle.chip_model.specs.Witness.{is_before, is_write, writes_by, with_write, line_value}
use Rattle.chip_model.specs.Writers.{IsSettled, OthersSettled}
use Rattle.chip_model.specs.Values.{HasValue, HasOwnValue}
use Rattle.chip_laws.specs.EventSteps.{ChangesUnit}
use Rattle.chip_laws.proofs.Each.{each_from}
use Rattle.chip_laws.proofs.OrderFrames.{known_of}
use Rattle.chip_laws.proofs.OwnerFolds.{reads_only, all_read}
use Rattle.chip_laws.proofs.SuppliedEvents.{unit_holds}
use Rattle.value_laws.specs.Sequences.{AreSucceeding}
use Rattle.value_laws.proofs.Sequences.{before_time, all_succeed}
use Rattle.value_laws.proofs.Completion.{Completion, at_line, write_asks, with_access, own_before, follows}
use Rattle.value_laws.proofs.LineValues.{value_written, value_same}
use Rattle.value_laws.proofs.OnlyWriters.{Only, AsksOnly, only_none, only_getm, only_gets, only_until}
use Rattle.value_laws.proofs.PlacesOn.{value_until}
use Rattle.value_laws.proofs.SettledLines.{settled_next}
use Rattle.value_laws.proofs.SettledSteps.{OrdersNothing, now}
use Rattle.value_laws.proofs.StepValues.{KeepsSettled, value_on, itself_settled}
use Rattle.value_laws.proofs.WaitersOf.{WaitsAtPlace, reads_between, none_between}

-- whether a request is another tile's get for a line
abbrev pub is_of_others : ℕ → ℕ → Request → Bool
is_of_others t line q = is_get q.kind && (q.line == line) && not (q.source == t)

other_getm : (t line : ℕ) (q : Request) → q.kind ≡ GetM → q.line ≡ line → q.source ≢ t → is_of_others t line q ≡ true
other_getm t line q kind same away =
    ap (λ (b : Bool). b && (q.line == line) && not (q.source == t)) (ap is_get kind)
    ∙ ap (λ (b : Bool). true && b && not (q.source == t)) (eq-eqb q.line line same)
    ∙ ap (λ (b : Bool). true && true && not b) (ne_eqb q.source t away)

own_get : (t : ℕ) (q : Request) → q.kind ≡ GetM → q.source ≡ t → is_get_of t q ≡ true
own_get t q kind source = ap (λ (b : Bool). b && (q.source == t)) (ap is_get kind) ∙ eq-eqb q.source t source

-- two places up to which a line has the same writes
same_writes : (line m p : ℕ) (b : Access) → p ≤ m → (is_write b ≡ true → line_of b.address ≡ line → b.time ≤ m → b.time ≤ p)
    → writes_by line m b ≡ writes_by line p b
same_writes line m p b less early = by (is_write b) (line_of b.address == line) refl refl where
  at : b.time ≤ p → nat_le b.time m ≡ nat_le b.time p
  at is = le-leb b.time m (omega (arith, is, less)) ∙ sym (le-leb b.time p is)

  by : (write here : Bool) → is_write b ≡ write → (line_of b.address == line) ≡ here → (write && here && nat_le b.time m) ≡ (write && here && nat_le b.time p)
  by false here w h = refl
  by true false w h = refl
  by true true w h = elim (cases_lt m b.time) [
    | inl later ↦ lt-leb b.time m later ∙ sym (lt-leb b.time p (omega (arith, later, less)))
    | inr sooner ↦ at (early w (eqb-true (line_of b.address) line h) sooner)
  ]

module _ (d : Doc) (s new : ChipState) (e : OrdersNothing d s new) (t : ℕ) (unit after : UnitState) (c : ChangesUnit s new t unit after)
    (is : Completion d s new t unit after)
    (keeps : KeepsSettled d s new unit after) where
  abbrev ordered : List Request
  ordered = s.network.ordered

  pub within : after.node.delivered ≤ length ordered
  within =
      let less =
      (known_of d new e.behind t after (now d s new e t unit after c)).within in omega (arith, less, ap (λ (rs : List Request). length rs) e.places.order)

  -- ---- who asks to write
  -- where those that wait only read, other tiles do not
  asks_own : reads_only (gets_of_others t is.demand.line (between is.place after.node.delivered ordered)) ≡ true
      → AsksOnly (λ u. u ≡ t) is.demand.line is.place after.node.delivered ordered
  asks_own reads k q above below at same kind = elim (cases_eq q.source t) [
    | inl own ↦ own
    | inr other ↦ absurd (both_ways (is_getm q.kind)
        (reads_between (is_of_others t is.demand.line) ordered is.place after.node.delivered k q reads above below at
        (other_getm t is.demand.line q kind same other))
        (ap is_getm kind))
  ]

  -- the tile itself does not ask again
  asks_none : reads_only (gets_of_others t is.demand.line (between is.place after.node.delivered ordered)) ≡ true
      → AsksOnly (λ u. ⊥) is.demand.line is.place after.node.delivered ordered
  asks_none reads k q above below at same kind =
      let own = asks_own reads k q above below at same kind in
      both_ways (is_get_of t q) (none_between (is_get_of t) ordered is.place after.node.delivered k q is.alone above below at) (own_get t q kind own)

  pub reads_after_store : is.demand.kind ≡ GetM → ends_in_getm is.demand.list ≡ false
      → AsksOnly (λ u. u ≡ t) is.demand.line is.place after.node.delivered ordered
  reads_after_store kind ends =
      asks_own (all_read (gets_of_others t is.demand.line (between is.place after.node.delivered ordered)) (ap ends_in_getm (sym (is.list kind)) ∙ ends))

  -- before the get of one that waits no other tile asks to write
  pub asks_before : (w : Waiting) (waits : WaitsAtPlace (is_of_others t is.demand.line) ordered is.place after.node.delivered w)
      → AsksOnly (λ u. u ≡ t) is.demand.line is.place waits.place ordered
  asks_before w waits k q above below at same kind = elim (cases_eq q.source t) [
    | inl own ↦ own
    | inr other ↦ absurd (both_ways (is_getm q.kind) (waits.first k q above below at (other_getm t is.demand.line q kind same other)) (ap is_getm kind))
  ]

  -- ---- a load
  pub loaded_value : is.demand.kind ≡ GetS → is.demand.once ≡ false → HasValue d new is.demand.line after.node.delivered is.words
  loaded_value kind kept =
      let reads : reads_only (gets_of_others t is.demand.line (between is.place after.node.delivered ordered)) ≡ true = ap not (sym (is.once kind) ∙ kept) in
      value_on d s new e t unit after c keeps is.demand.line after.node.delivered is.words
      (value_until d s is.demand.line is.place after.node.delivered is.words e.before is.reached (λ k above below.
      only_none (writer is.demand.line (take k ordered))
      (only_until (λ u. ⊥) is.demand.line is.place after.node.delivered ordered within (asks_none reads)
      (only_gets is.demand.line is.place ordered is.get is.at (is.kind ∙ kind) is.line) k above below)) is.has)

  -- ---- a store
  module _ (kind : is.demand.kind ≡ GetM) (turn : AreSucceeding s.accesses) (m : ℕ) (beyond : is.place < m) (inside : m ≤ after.node.delivered)
      (asks : AsksOnly (λ u. u ≡ t) is.demand.line is.place m ordered) where
    only : (k : ℕ) → is.place < k → k < m + 1 → Only (λ u. u ≡ t) (writer is.demand.line (take k ordered))
    only = only_until (λ u. u ≡ t) is.demand.line is.place m ordered (omega (arith, inside, within)) asks
        (λ u own. only_getm is.demand.line is.place ordered is.get is.at (is.kind ∙ kind) is.line u own ∙ is.source)

    -- no write was performed there
    earlier : (i : ℕ) (b : Access) → slice_get s.accesses i ≡ Some b → is_write b ≡ true → line_of b.address ≡ is.demand.line → b.time ≤ m → b.time ≤ is.place
    earlier i b at write here early = elim (cases_lt is.place b.time) [
      | inl late ↦ (
          let may : writer is.demand.line (take b.time ordered) ≡ Tile b.tile =
          ap (λ (l : ℕ). writer l (take b.time ordered)) (sym here) ∙ (e.before.timely.writers i b at write).0 in
          own_before d s new t unit after e.before is i b at (only b.time late (omega (arith, early)) b.tile may))
      | inr sooner ↦ sooner
    ]

    same : AllByRecursion (λ b. writes_by is.demand.line m b ≡ writes_by is.demand.line is.place b) s.accesses
    same = each_from (λ b. writes_by is.demand.line m b ≡ writes_by is.demand.line is.place b) s.accesses (λ i b at.
        same_writes is.demand.line m is.place b (omega (arith, beyond)) (earlier i b at))

    counts : writes_by is.demand.line m is.access ≡ true
    counts =
        and_from (is_write is.access && (line_of is.access.address == is.demand.line)) (nat_le is.access.time m)
        (and_from (is_write is.access) (line_of is.access.address == is.demand.line)
        (write_asks d s new t unit after e.before is ∙ ap is_getm kind)
        (eq-eqb (line_of is.access.address) is.demand.line (at_line d s new t unit after e.before is)))
        (le-leb is.access.time m (omega (arith, is.time, beyond)))

    last : AllByRecursion (λ b. writes_by is.demand.line m b ≡ true → is_before b is.access ≡ true) s.accesses
    last = each_from (λ b. writes_by is.demand.line m b ≡ true → is_before b is.access ≡ true) s.accesses (λ i b at does.
        let both = and_parts (is_write b && (line_of b.address == is.demand.line)) (nat_le b.time m) does in
        let first = and_parts (is_write b) (line_of b.address == is.demand.line) both.0 in
        let early = earlier i b at first.0 (eqb-true (line_of b.address) is.demand.line first.1) (leb-true b.time m both.1) in
        before_time b is.access (omega (arith, early, is.time)))

    value : line_value d new.accesses is.demand.line m ≡ written_by is.demand.pending is.words
    value =
        ap (λ (xs : List Access). line_value d xs is.demand.line m) is.accesses
        ∙ value_written d s.accesses is.access is.demand.line m turn
        (all_succeed is.access s.accesses (follows d s new t unit after e.before is)) counts last
        ∙ ap (λ (ws : List ℕ). with_write ws is.access) (value_same d s.accesses is.demand.line m is.place same ∙ sym is.has.value)
        ∙ with_access d s new t unit after e.before is

    -- no other tile has a write to come up to there
    others : (gap : ℕ) → is.place + gap ≤ m → OthersSettled s is.demand.line (is.place + gap) t
    others zero less u other at away =
        let here : is.place ≡ is.place + 0 = omega arith in
        subst (IsSettled ordered other.node is.demand.line) here (is.has.settled u other at)
    others (suc gap) less u other at away =
        let next : is.place + gap + 1 ≡ is.place + suc gap = omega arith in
        let holds = (unit_holds d s u other e.before at).holds in
        subst (IsSettled ordered other.node is.demand.line) next
        (settled_next ordered other.node is.demand.line (is.place + gap) holds.serves.writers holds.node.agrees.demand
        (λ may. away (sym holds.node.agrees.tile ∙ only (is.place + gap + 1) (omega arith) (omega (arith, less)) other.node.tile may))
        (others gap (omega (arith, less)) u other at away))

    pub stored_value : HasOwnValue d new t is.demand.line m (written_by is.demand.pending is.words)
    stored_value =
        let sum : is.place + (m - is.place) ≡ m = omega (arith, beyond) in
        record {
          value = sym value;
          settled = itself_settled d s new e t unit after c keeps is.demand.line m
              (subst (λ (k : ℕ). OthersSettled s is.demand.line k t) sum (others (m - is.place) (omega (arith, sum))));
        }
