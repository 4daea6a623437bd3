-- The words of each request that writes a line back reach memory, by one message: where the order stays, and where it grows.
use Rattle.std.proofs.Common.{◌≡◌, ℕ, ◌+◌, ◌<◌, ◌≤◌, Bool, true, List, ◌++◌, length, length-append, sym, ◌∙◌, ap, subst, arith, inl, inr, Option, Some, None}
use Rattle.std.specs.Prelude.{is_some, slice_get}
use Rattle.std.proofs.lemmas.Bool.{both_ways, cases_lt, cases_eq, leb-true, le-leb, and_from}
use Rattle.mesh_gen.specs.declared.request.Request.{Request}
use Rattle.doc_text.specs.Doc.{Doc}
use Rattle.chip_model.specs.ChipState.{ChipState}
use Rattle.chip_model.specs.Suppliers.{delivered_at, writes_back, last_written_back, is_undelivered_at, is_undelivered, ReachesMemory, GetsWait}
use Rattle.net_iface.proofs.Named.{slice_get-append_left}
use Rattle.chip_laws.proofs.WaitsToCome.{count_by-some}
use Rattle.supply_laws.proofs.LastPlaces.{LastIs, NonePasses, last_agrees, last_unique, count_none, count_only}
use Rattle.supply_laws.proofs.WriteBackPlaces.{writes_back_grown, writes_back_within, last_of_all}
use Rattle.supply_laws.proofs.WriteBackCounts.{waits_at, is_to_write_back, to_come_is}
use Rattle.supply_laws.proofs.WordsDue.{due, units_counts, due_grown}
use Rattle.supply_laws.proofs.NewWriteBacks.{OrdersMore, IsNewBack, NewBackIs, new_back, new_back_is}

-- ---- the order stays
by_counts : (s new : ChipState) (place : ℕ) (o : Option Request) → ((v : ℕ) → delivered_at s v ≤ delivered_at new v) → is_undelivered_at new place o ≡ true → is_undelivered_at s place o ≡ true
by_counts s new place None more is = is
by_counts s new place (Some q) more is = le-leb (delivered_at s q.source) place (let now = leb-true (delivered_at new q.source) place is in let before = more q.source in omega (arith, now, before))

pub reaches_still : (s new : ChipState) (line : ℕ) → new.network.ordered ≡ s.network.ordered → due new line ≤ due s line → ((v : ℕ) → delivered_at s v ≤ delivered_at new v)
    → ReachesMemory s line → ReachesMemory new line
reaches_still s new line order less more is = record {
  once = omega (arith, is.once, less);
  last = λ some. ap (λ (rs : List Request). is_some (last_written_back line rs)) order ∙ is.last (omega (arith, some, less));
  undelivered = λ place writes waits.
      ap (last_written_back line) order
      ∙ is.undelivered place (ap (λ (rs : List Request). writes_back line rs place) (sym order) ∙ writes)
      (by_counts s new place (slice_get s.network.ordered place) more (ap (λ (rs : List Request). is_undelivered_at new place (slice_get rs place)) (sym order) ∙ waits));
}

-- ---- the order grows
longer_none : (p : ℕ → Bool) (n m : ℕ) (o : Option ℕ) → LastIs p 0 n o → NonePasses p n m → LastIs p 0 (n + m) o
longer_none p n m None is none = λ k above below. elim (cases_lt k n) [ inl old ↦ is k above (omega (arith, old)) | inr new ↦ none k new (omega (arith, below)) ]
longer_none p n m (Some place) is none = record {
  from = is.from;
  below = omega (arith, is.below);
  passes = is.passes;
  after = λ k above below. elim (cases_lt k n) [ inl old ↦ is.after k above (omega (arith, old)) | inr new ↦ none k new (omega (arith, below)) ];
}

module _ (d : Doc) (s new : ChipState) (more : List Request) (orders : OrdersMore d s new more) (line : ℕ) where
  abbrev before : List Request
  before = s.network.ordered

  abbrev after : List Request
  after = s.network.ordered ++ more

  abbrev writes : ℕ → Bool
  writes = writes_back line after

  last_after : LastIs writes 0 (length before + length more) (last_written_back line after)
  last_after = subst (λ (n : ℕ). LastIs writes 0 n (last_written_back line after)) (length-append before more) (last_of_all line after)

  last_now : (o : Option ℕ) → LastIs writes 0 (length before + length more) o → last_written_back line new.network.ordered ≡ o
  last_now o is =
      ap (last_written_back line) orders.grows.order ∙ last_unique writes 0 (length before + length more) (last_written_back line after) o last_after is

  -- without a new one the last one stays, and as many words are due
  pub last_same : NonePasses writes (length before) (length more) → last_written_back line new.network.ordered ≡ last_written_back line before
  last_same none =
      last_now (last_written_back line before)
      (longer_none writes (length before) (length more) (last_written_back line before)
      (last_agrees (writes_back line before) writes 0 (length before) (last_written_back line before)
      (λ k above below. sym (writes_back_grown line before more k (omega (arith, below)))) (last_of_all line before)) none)

  pub due_same : NonePasses writes (length before) (length more) → due new line ≡ due s line
  due_same none = omega (arith, due_grown s new more line orders.grows orders.within, count_none writes (length before) (length more) none)

  -- the new one is the last one, and its words are due
  pub last_new : (place : ℕ) → IsNewBack d s new more orders line place → last_written_back line new.network.ordered ≡ Some place
  last_new place is = last_now (Some place) (record {
    from = omega arith;
    below = omega (arith, is.below);
    passes = is.writes;
    after = λ k above below. is.only k (omega (arith, is.above, above)) (omega (arith, below)) (λ same. absurd (omega (arith, same, above)));
  })

  pub due_new : (place : ℕ) → IsNewBack d s new more orders line place → due new line ≡ 1
  due_new place is =
      omega (arith, due_grown s new more line orders.grows orders.within, is.none_due, count_only writes (length before) (length more) place is.above is.below is.writes is.only)

  undelivered_before : (place : ℕ) → place < length before → is_undelivered new place ≡ true → is_undelivered s place ≡ true
  undelivered_before place inside waits =
      by_counts s new place (slice_get before place)
      (λ v. let same = units_counts s new orders.grows.units v in omega (arith, same))
      (sym (ap (λ (rs : List Request). is_undelivered_at new place (slice_get rs place)) orders.grows.order
      ∙ ap (is_undelivered_at new place) (slice_get-append_left before more place inside)) ∙ waits)

  writes_now : (place : ℕ) → writes_back line new.network.ordered place ≡ true → writes place ≡ true
  writes_now place is = ap (λ (rs : List Request). writes_back line rs place) (sym orders.grows.order) ∙ is

  within_after : (place : ℕ) → writes place ≡ true → place < length before + length more
  within_after place is = subst (λ (n : ℕ). place < n) (length-append before more) (writes_back_within line after place is)

  -- one that is not delivered is due
  is_due : (place : ℕ) → writes_back line before place ≡ true → is_undelivered s place ≡ true → 1 ≤ due s line
  is_due place back waits =
      let inside = writes_back_within line before place back in
      let counted = count_by-some (is_to_write_back (delivered_at s) line before) 0 (length before) place (omega arith) (omega (arith, inside))
      (and_from (writes_back line before place) (waits_at (delivered_at s) place (slice_get before place)) back (by (slice_get before place) waits)) in
      omega (arith, counted, to_come_is s line)
    where
      by : (o : Option Request) → is_undelivered_at s place o ≡ true → waits_at (delivered_at s) place o ≡ true
      by None is = is
      by (Some q) is = is

  pub reaches_grown : GetsWait s line → ReachesMemory s line → ReachesMemory new line
  reaches_grown waits is = by (new_back d s new more orders line) (new_back_is d s new more orders line is waits) where
    by : (o : Option ℕ) → NewBackIs d s new more orders line o → ReachesMemory new line
    by None none = record {
      once = omega (arith, is.once, due_same none);
      last = λ some. ap is_some (last_same none) ∙ is.last (omega (arith, some, due_same none));
      undelivered = λ place back late.
          let back_now = writes_now place back in
          last_same none
          ∙ elim (cases_lt place (length before)) [
            | inl old ↦ is.undelivered place (sym (writes_back_grown line before more place old) ∙ back_now) (undelivered_before place old late)
            | inr young ↦ absurd (both_ways (writes place) (none place young (within_after place back_now)) back_now)
          ];
    }
    by (Some y) one = record {
      once = omega (arith, due_new y one);
      last = λ some. ap is_some (last_new y one);
      undelivered = λ place back late.
          let back_now = writes_now place back in
          elim (cases_eq y place) [
            | inl same ↦ last_new y one ∙ ap (λ (k : ℕ). Some k) same
            | inr away ↦ elim (cases_lt place (length before)) [
              | inl old ↦ absurd (let some = is_due place (sym (writes_back_grown line before more place old) ∙ back_now) (undelivered_before place old late) in omega (arith, some, one.none_due))
              | inr young ↦ absurd (both_ways (writes place) (one.only place young (within_after place back_now) (λ same. away (sym same))) back_now)
            ]
          ];
    }
