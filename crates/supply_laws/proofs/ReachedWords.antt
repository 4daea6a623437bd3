-- Whether written-back words have reached memory, and what that says of a record, where the order stays and where it grows.
use Rattle.std.proofs.Common.{◌≡◌, ◌≢◌, ℕ, ◌+◌, ◌<◌, ◌≤◌, Bool, true, false, cond, List, [], ◌++◌, length, length-append, take, refl, sym, ◌∙◌, ap, subst, arith, inl, inr, Option, Some, None}
use Rattle.std.specs.Prelude.{◌==◌, ◌||◌, not}
use Rattle.std.proofs.lemmas.Bool.{both_ways, cases_lt, cases_eq, false≢true, or_left, or_right, or_parts, or_from, not-false, not_from_true, not_from_false, eq-eqb, eqb-true, eqb-false, ne_eqb}
use Rattle.std.proofs.lemmas.List.{take-append-le}
use Rattle.mesh_gen.specs.declared.request.Request.{Request}
use Rattle.chip_model.specs.declared.owner.Owner.{Owner}
use Rattle.chip_model.specs.declared.owner.Owner.TheVariants.{Memory, Tile}
use Rattle.chip_model.specs.declared.waiting.Waiting.{Waiting}
use Rattle.chip_model.specs.Records.{LineRecord}
use Rattle.chip_model.specs.Node.{Node}
use Rattle.doc_text.specs.Doc.{Doc}
use Rattle.chip_model.specs.ChipState.{ChipState}
use Rattle.chip_model.specs.Bookkeeping.{between, up_to_getm, waiting_for}
use Rattle.chip_model.specs.Suppliers.{writes_back, places_written_back, next_from, last_written_back, is_last, has_reached_memory, next_written_back, has_come, is_fresh_by, waiters_after, ReachesMemory, GetsWait}
use Rattle.chip_laws.proofs.OrderLists.{between_grown}
use Rattle.supply_laws.proofs.LastPlaces.{LastIs, NextIs, next_unique}
use Rattle.supply_laws.proofs.WriteBackPlaces.{gets_for, writes_back_grown, writes_back_within, last_of_all, last_before, next_after}
use Rattle.supply_laws.proofs.WordsDue.{due}
use Rattle.supply_laws.proofs.NewWriteBacks.{OrdersMore, NewBackIs, new_back, new_back_is}
use Rattle.supply_laws.proofs.MemoryReached.{last_same, due_same, last_new, due_new}

-- ---- whether the words of a write-back have reached memory
pub reached_none : (s : ChipState) (line place : ℕ) → due s line ≡ 0 → has_reached_memory s line place ≡ true
reached_none s line place none = or_right (not (is_last (last_written_back line s.network.ordered) place)) (due s line == 0) (eq-eqb (due s line) 0 none)

not_last : (o : Option ℕ) (place : ℕ) → ((x : ℕ) → o ≡ Some x → x ≢ place) → is_last o place ≡ false
not_last None place away = refl
not_last (Some x) place away = ne_eqb x place (away x refl)

pub reached_not_last : (s : ChipState) (line place : ℕ) → ((x : ℕ) → last_written_back line s.network.ordered ≡ Some x → x ≢ place) → has_reached_memory s line place ≡ true
reached_not_last s line place away =
    or_left (not (is_last (last_written_back line s.network.ordered) place)) (due s line == 0)
    (not_from_false (is_last (last_written_back line s.network.ordered) place) (not_last (last_written_back line s.network.ordered) place away))

-- an earlier one's have
pub reached_earlier : (s : ChipState) (line place k : ℕ) → writes_back line s.network.ordered k ≡ true → place < k → has_reached_memory s line place ≡ true
reached_earlier s line place k writes before =
    reached_not_last s line place (λ x is same. by x (subst (LastIs (writes_back line s.network.ordered) 0 (length s.network.ordered)) is (last_of_all line s.network.ordered)) same) where
      by : (x : ℕ) → LastIs (writes_back line s.network.ordered) 0 (length s.network.ordered) (Some x) → x ≡ place → ⊥
      by x last same = both_ways (writes_back line s.network.ordered k) (last.after k (omega (arith, same, before)) (omega (arith, writes_back_within line s.network.ordered k writes))) writes

-- where they have not, it is the last one, and words are due
pub record IsDue (s : ChipState) (line place : ℕ) : Type 0 where
  pub last : last_written_back line s.network.ordered ≡ Some place
  pub some : 0 < due s line

last_is_place : (o : Option ℕ) (place : ℕ) → is_last o place ≡ true → o ≡ Some place
last_is_place None place is = absurd (false≢true is)
last_is_place (Some x) place is = ap (λ (k : ℕ). Some k) (eqb-true x place is)

pub not_reached : (s : ChipState) (line place : ℕ) → has_reached_memory s line place ≡ false → IsDue s line place
not_reached s line place is =
    let both = or_parts (not (is_last (last_written_back line s.network.ordered) place)) (due s line == 0) is in
    record {
      last = last_is_place (last_written_back line s.network.ordered) place (not-false (is_last (last_written_back line s.network.ordered) place) both.0);
      some = let away = eqb-false (due s line) 0 both.1 in omega (arith, away);
    }

pub is_not_reached : (s : ChipState) (line place : ℕ) → IsDue s line place → has_reached_memory s line place ≡ false
is_not_reached s line place is =
    let place_is : is_last (last_written_back line s.network.ordered) place ≡ true = ap (λ (o : Option ℕ). is_last o place) is.last ∙ eq-eqb place place refl in
    or_from (not (is_last (last_written_back line s.network.ordered) place)) (due s line == 0)
    (not_from_true (is_last (last_written_back line s.network.ordered) place) place_is)
    (ne_eqb (due s line) 0 (λ same. absurd (let more = is.some in omega (arith, same, more))))

-- ---- a record at home after as many deliveries
abbrev pub fresh_at : ChipState → ℕ → ℕ → Owner → Bool
fresh_at s line n Memory = has_come s line true (last_written_back line (take n s.network.ordered))
fresh_at s line n (Tile t) = has_come s line false (next_written_back s line n)

abbrev pub waiters_since : ChipState → ℕ → ℕ → Option ℕ → List Waiting
waiters_since s line n None = []
waiters_since s line n (Some place) =
    cond (has_reached_memory s line place) [] (waiting_for (up_to_getm (gets_for line (between place n s.network.ordered))))

-- who waits is told by the last one before
abbrev pub waiters_at : ChipState → ℕ → ℕ → List Waiting
waiters_at s line n = waiters_since s line n (last_written_back line (take n s.network.ordered))

pub record LineHolds (s : ChipState) (line n : ℕ) (r : LineRecord) : Type 0 where
  pub fresh : r.fresh ≡ fresh_at s line n r.owner
  pub waiters : r.waiters ≡ cond r.fresh [] (waiters_at s line n)

pub fresh_is : (s : ChipState) (node : Node) (line : ℕ) (o : Owner) → is_fresh_by s node line o ≡ fresh_at s line node.delivered o
fresh_is s node line Memory = refl
fresh_is s node line (Tile t) = refl

pub waiters_is : (s : ChipState) (node : Node) (line : ℕ) (o : Option ℕ) → waiters_after s node line o ≡ waiters_since s line node.delivered o
waiters_is s node line None = refl
waiters_is s node line (Some place) = refl

-- ---- the order and what is due stay
come_same : (s new : ChipState) (line : ℕ) (none : Bool) (o : Option ℕ) → ((place : ℕ) → o ≡ Some place → has_reached_memory new line place ≡ has_reached_memory s line place)
    → has_come new line none o ≡ has_come s line none o
come_same s new line none None same = refl
come_same s new line none (Some place) same = same place refl

pub reached_same : (s new : ChipState) (line place : ℕ) → new.network.ordered ≡ s.network.ordered → due new line ≡ due s line → has_reached_memory new line place ≡ has_reached_memory s line place
reached_same s new line place order same =
    ap (λ (rs : List Request). not (is_last (last_written_back line rs) place) || (due new line == 0)) order
    ∙ ap (λ (n : ℕ). not (is_last (last_written_back line s.network.ordered) place) || (n == 0)) same

fresh_same : (s new : ChipState) (line n : ℕ) (o : Owner) → new.network.ordered ≡ s.network.ordered → due new line ≡ due s line → fresh_at new line n o ≡ fresh_at s line n o
fresh_same s new line n Memory order same =
    ap (λ (rs : List Request). has_come new line true (last_written_back line (take n rs))) order
    ∙ come_same s new line true (last_written_back line (take n s.network.ordered)) (λ place is. reached_same s new line place order same)
fresh_same s new line n (Tile t) order same =
    ap (λ (rs : List Request). has_come new line false (next_from n (places_written_back line rs))) order
    ∙ come_same s new line false (next_written_back s line n) (λ place is. reached_same s new line place order same)

since_same : (s new : ChipState) (line n : ℕ) (o : Option ℕ) → new.network.ordered ≡ s.network.ordered → due new line ≡ due s line → waiters_since new line n o ≡ waiters_since s line n o
since_same s new line n None order same = refl
since_same s new line n (Some place) order same =
    ap (λ (b : Bool). cond b [] (waiting_for (up_to_getm (gets_for line (between place n new.network.ordered))))) (reached_same s new line place order same)
    ∙ ap (λ (rs : List Request). cond {A = List Waiting} (has_reached_memory s line place) [] (waiting_for (up_to_getm (gets_for line (between place n rs))))) order

pub line_stays : (s new : ChipState) (line n : ℕ) (r : LineRecord) → new.network.ordered ≡ s.network.ordered → due new line ≡ due s line → LineHolds s line n r → LineHolds new line n r
line_stays s new line n r order same is = record {
  fresh = is.fresh ∙ sym (fresh_same s new line n r.owner order same);
  waiters = is.waiters ∙ sym (ap (λ (list : List Waiting). cond r.fresh [] list)
      (ap (λ (rs : List Request). waiters_since new line n (last_written_back line (take n rs))) order
      ∙ since_same s new line n (last_written_back line (take n s.network.ordered)) order same));
}

-- ---- the order grows
module _ (d : Doc) (s new : ChipState) (more : List Request) (orders : OrdersMore d s new more) (line : ℕ) (reaches : ReachesMemory s line) (waits : GetsWait s line) where
  abbrev before : List Request
  before = s.network.ordered

  abbrev after : List Request
  after = s.network.ordered ++ more

  -- whether an old one's words have reached memory stays
  reached_before : (place : ℕ) → place < length before → has_reached_memory new line place ≡ has_reached_memory s line place
  reached_before place inside = by (new_back d s new more orders line) (new_back_is d s new more orders line reaches waits) where
    by : (o : Option ℕ) → NewBackIs d s new more orders line o → has_reached_memory new line place ≡ has_reached_memory s line place
    by None none =
        ap (λ (o : Option ℕ). not (is_last o place) || (due new line == 0)) (last_same d s new more orders line none)
        ∙ ap (λ (n : ℕ). not (is_last (last_written_back line before) place) || (n == 0)) (due_same d s new more orders line none)
    by (Some y) one =
        let last = last_new d s new more orders line y one in
        reached_not_last new line place (λ x is same. absurd (later x (sym last ∙ is) same))
        ∙ sym (reached_none s line place one.none_due)
      where
        later : (x : ℕ) → Some y ≡ Some x → x ≡ place → ⊥
        later x is same = let y_is : y ≡ x = cc in absurd (let above = one.above in omega (arith, y_is, same, above, inside))

  -- the words of a new one have not
  new_not_reached : (place : ℕ) → length before ≤ place → writes_back line after place ≡ true → has_reached_memory new line place ≡ false
  new_not_reached place above writes = by (new_back d s new more orders line) (new_back_is d s new more orders line reaches waits) where
    within : place < length before + length more
    within = subst (λ (n : ℕ). place < n) (length-append before more) (writes_back_within line after place writes)

    by : (o : Option ℕ) → NewBackIs d s new more orders line o → has_reached_memory new line place ≡ false
    by None none = absurd (both_ways (writes_back line after place) (none place above within) writes)
    by (Some y) one = elim (cases_eq place y) [
      | inl same ↦ is_not_reached new line place (record {
        last = last_new d s new more orders line y one ∙ ap (λ (k : ℕ). Some k) (sym same);
        some = omega (arith, due_new d s new more orders line y one);
      })
      | inr away ↦ absurd (both_ways (writes_back line after place) (one.only place above within away) writes)
    ]

  prefix : (n : ℕ) → n ≤ length before → take n new.network.ordered ≡ take n before
  prefix n within = ap (take n) orders.grows.order ∙ take-append-le n before more within

  last_within : (n : ℕ) → n ≤ length before → (place : ℕ) → last_written_back line (take n before) ≡ Some place → place < length before
  last_within n within place is =
      below n place (subst (LastIs (writes_back line before) 0 n) is (last_before line n before within)) within
    where
      below : (n place : ℕ) → LastIs (writes_back line before) 0 n (Some place) → n ≤ length before → place < length before
      below n place last within = omega (arith, last.below, within)

  next_now : (n : ℕ) → NextIs (writes_back line after) (length after) n (next_written_back new line n)
  next_now n =
      subst (λ (rs : List Request). NextIs (writes_back line after) (length after) n (next_from n (places_written_back line rs))) (sym orders.grows.order)
      (next_after line n after)

  longer : length before ≤ length after
  longer = omega (arith, length-append before more)

  next_grown : (n : ℕ) (o : Option ℕ) → next_written_back s line n ≡ o → NextIs (writes_back line before) (length before) n o
      → has_come new line false (next_written_back new line n) ≡ has_come s line false o
  next_grown n (Some place) was is =
      ap (has_come new line false)
      (next_unique (writes_back line after) (length after) n (next_written_back new line n) (Some place) (next_now n) (record {
        beyond = is.beyond;
        below = omega (arith, is.below, longer);
        passes = writes_back_grown line before more place is.below ∙ is.passes;
        before = λ k above less. writes_back_grown line before more k (omega (arith, less, is.below)) ∙ is.before k above less;
      }))
      ∙ reached_before place is.below
  next_grown n None was none = by (next_written_back new line n) (next_now n) where
    by : (o : Option ℕ) → NextIs (writes_back line after) (length after) n o → has_come new line false o ≡ false
    by None still = refl
    by (Some place) now = elim (cases_lt place (length before)) [
      | inl old ↦ absurd (both_ways (writes_back line before place) (none place now.beyond old) (sym (writes_back_grown line before more place old) ∙ now.passes))
      | inr young ↦ new_not_reached place young now.passes
    ]

  fresh_grown : (n : ℕ) (o : Owner) → n ≤ length before → fresh_at new line n o ≡ fresh_at s line n o
  fresh_grown n Memory within =
      ap (λ (rs : List Request). has_come new line true (last_written_back line rs)) (prefix n within)
      ∙ come_same s new line true (last_written_back line (take n before)) (λ place is. reached_before place (last_within n within place is))
  fresh_grown n (Tile t) within = next_grown n (next_written_back s line n) refl (next_after line n before)

  since_grown : (n : ℕ) (o : Option ℕ) → n ≤ length before → ((place : ℕ) → o ≡ Some place → place < length before) → waiters_since new line n o ≡ waiters_since s line n o
  since_grown n None within inside = refl
  since_grown n (Some place) within inside =
      ap (λ (b : Bool). cond b [] (waiting_for (up_to_getm (gets_for line (between place n new.network.ordered))))) (reached_before place (inside place refl))
      ∙ ap (λ (rs : List Request). cond {A = List Waiting} (has_reached_memory s line place) [] (waiting_for (up_to_getm (gets_for line rs))))
      (ap (between place n) orders.grows.order ∙ between_grown before more place n within)

  pub line_grown : (n : ℕ) (r : LineRecord) → n ≤ length before → LineHolds s line n r → LineHolds new line n r
  line_grown n r within is = record {
    fresh = is.fresh ∙ sym (fresh_grown n r.owner within);
    waiters = is.waiters ∙ sym (ap (λ (list : List Waiting). cond r.fresh [] list)
        (ap (λ (rs : List Request). waiters_since new line n (last_written_back line rs)) (prefix n within)
        ∙ since_grown n (last_written_back line (take n before)) within (last_within n within)));
  }
