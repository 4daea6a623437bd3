-- A tile performs an access: what the access stands on, where it hits and where it completes a demand.
use Rattle.std.proofs.Common.{◌≡◌, ℕ, ◌+◌, ◌<◌, ◌⊎◌, true, false, Some, List, take, sym, ap, ◌∙◌, refl, subst, inl, inr, arith}
use Rattle.std.specs.Prelude.{slice_get, slice_index}
use Rattle.std.specs.List.{AllByRecursion}
use Rattle.std.proofs.lemmas.Bool.{cases_eq, cases_lt, cases_order, le-leb, lt-leb}
use Rattle.std.proofs.lemmas.Bool.Decides.{nat_tests}
use Rattle.report_text.specs.declared.access.Access.{Access}
use Rattle.report_text.specs.declared.access.AccessKind.{AccessKind}
use Rattle.report_text.specs.declared.access.AccessKind.TheVariants.{Load, Store, Swap, Add}
use Rattle.report_text.specs.Accesses.{reads, read_by}
use Rattle.doc_text.specs.Doc.{Doc}
use Rattle.chip_model.specs.declared.pending.Pending.{Pending}
use Rattle.chip_model.specs.Chip.{line_of, word_of}
use Rattle.chip_model.specs.Misses.{request_for}
use Rattle.chip_model.specs.Snoop.{done_by, word_in}
use Rattle.chip_model.specs.Units.{UnitState}
use Rattle.chip_model.specs.ChipState.{ChipState}
use Rattle.chip_model.specs.BehaviourLaws.{numbered}
use Rattle.chip_model.specs.Ownership.{writer}
use Rattle.chip_model.specs.Witness.{is_before, is_write, line_value}
use Rattle.chip_model.specs.Writers.{IsSettled, OthersSettled}
use Rattle.chip_model.specs.ChipInvariant.{ProtocolHolds}
use Rattle.chip_laws.proofs.Each.{each_from}
use Rattle.value_laws.specs.Sequences.{Succeeds}
use Rattle.value_laws.proofs.Sequences.{before_time, all_succeed}
use Rattle.value_laws.proofs.LineValues.{Counts}
use Rattle.value_laws.proofs.Passing.{wrote, next_settled}
use Rattle.value_laws.proofs.OnlyWriters.{Only, only_getm, only_gets}
use Rattle.value_laws.proofs.Completion.{Completion, fits, at_line, write_asks, own_before, follows}
use Rattle.value_laws.proofs.CompletedCopies.{asks_write}

-- The access stands on the value that its line has at a place: the writes up to there are those before it. It comes after its
-- tile's accesses; no other tile has a write to come that would stand before it; and a write comes after each place up to which
-- its own tile had none to come.
pub record ActsOn (d : Doc) (s : ChipState) (t : ℕ) (unit : UnitState) (a : Access) (place : ℕ) (words : List ℕ) : Type 0 where
  pub tile : a.tile ≡ t
  pub follows : AllByRecursion (λ b. Succeeds b a) s.accesses
  pub counts : AllByRecursion (Counts (line_of a.address) place (λ b. is_before b a)) s.accesses
  pub value : words ≡ line_value d s.accesses (line_of a.address) place
  pub reads : reads a.kind ≡ true → read_by a ≡ slice_index words (word_of a.address)
  pub settled : OthersSettled s (line_of a.address) a.time t
  pub late : is_write a ≡ true → (p : ℕ) → IsSettled s.network.ordered unit.node (line_of a.address) p → p < a.time

-- an access that reads receives the word that was there
pub received_word : (access : Pending) (kind : AccessKind) (unit : UnitState) (time number : ℕ) (words : List ℕ) → access.kind ≡ kind → reads kind ≡ true
    → read_by (numbered unit (done_by access time words) number) ≡ word_in words access.address
received_word access Load unit time number words is reads_it = rw is refl
received_word access Store unit time number words is reads_it = cc
received_word access Swap unit time number words is reads_it = rw is refl
received_word access Add unit time number words is reads_it = rw is refl

-- ---- accesses by time

pub behind_time : (a b : Access) → b.time < a.time → is_before a b ≡ false
behind_time a b less = grind (arith, nat_tests)

-- the writes up to the time of an access are those before it, where those at its time are its own tile's
pub counts_here : (line : ℕ) (a b : Access) → Succeeds b a → (is_write b ≡ true → line_of b.address ≡ line → b.time ≡ a.time → b.tile ≡ a.tile)
    → Counts line a.time (λ c. is_before c a) b
counts_here line a b follows own write here = elim (cases_order b.time a.time) [
  | inl same ↦ first (follows (own write here same)) write ∙ sym (le-leb b.time a.time (omega arith))
  | inr (inl less) ↦ before_time b a less ∙ sym (le-leb b.time a.time (omega arith))
  | inr (inr more) ↦ behind_time b a more ∙ sym (lt-leb b.time a.time more)
]
  where
    first : (is_before b a ≡ true) ⊎ ((is_before a b ≡ true) × (is_write b ≡ false)) → is_write b ≡ true → is_before b a ≡ true
    first (inl before) writes_it = before
    first (inr second) writes_it = let e : true ≡ false = sym writes_it ∙ second.1 in cc

-- those up to the place before its time are, where none has its time
counts_behind : (line place : ℕ) (a b : Access) → a.time ≡ place + 1 → (is_write b ≡ true → line_of b.address ≡ line → b.time ≡ place + 1 → ⊥)
    → Counts line place (λ c. is_before c a) b
counts_behind line place a b time never write here = elim (cases_lt b.time (place + 1)) [
  | inl less ↦ before_time b a (omega arith) ∙ sym (le-leb b.time place (omega arith))
  | inr more ↦ elim (cases_eq b.time (place + 1)) [
    | inl same ↦ absurd (never write here same)
    | inr other ↦ behind_time b a (omega arith) ∙ sym (lt-leb b.time place (omega arith))
  ]
]

-- ---- a completion

module _ (d : Doc) (s new : ChipState) (t : ℕ) (unit after : UnitState) (holds : ProtocolHolds d s) (is : Completion d s new t unit after) (number : ℕ)
    (same : is.access ≡ numbered unit (done_by is.demand.pending (is.place + 1) is.words) number) where
  abbrev line : ℕ
  line = line_of is.access.address

  line_is : is.get.line ≡ line
  line_is = is.line ∙ sym (at_line d s new t unit after holds is)

  -- after a tile's own get no other tile may write the line
  only_own : (kind : AccessKind) → is.demand.kind ≡ request_for kind → Only (λ u. u ≡ t) (writer line (take (is.place + 1) s.network.ordered))
  only_own Load asks u e = absurd (only_gets line is.place s.network.ordered is.get is.at (is.kind ∙ asks) line_is u e)
  only_own Store asks u e = only_getm line is.place s.network.ordered is.get is.at (is.kind ∙ asks) line_is u e ∙ is.source
  only_own Swap asks u e = only_getm line is.place s.network.ordered is.get is.at (is.kind ∙ asks) line_is u e ∙ is.source
  only_own Add asks u e = only_getm line is.place s.network.ordered is.get is.at (is.kind ∙ asks) line_is u e ∙ is.source

  only : Only (λ u. u ≡ t) (writer line (take (is.place + 1) s.network.ordered))
  only = only_own is.demand.pending.kind (fits d s new t unit after holds is).asks

  never : (i : ℕ) (b : Access) → slice_get s.accesses i ≡ Some b → is_write b ≡ true → line_of b.address ≡ line → b.time ≡ is.place + 1 → ⊥
  never i b at write here then_ =
      let own : b.tile ≡ t = only b.tile (wrote d s line (is.place + 1) i b holds at write here then_) in
      let early = own_before d s new t unit after holds is i b at own in
      absurd (omega (arith, early, then_))

  pub completion_acts : ActsOn d s t unit is.access is.place is.words
  completion_acts = record {
    tile = is.tile;
    follows = all_succeed is.access s.accesses (follows d s new t unit after holds is);
    counts = each_from (Counts line is.place (λ b. is_before b is.access)) s.accesses
        (λ i b at. counts_behind line is.place is.access b is.time (never i b at));
    value = subst (λ (l : ℕ). is.words ≡ line_value d s.accesses l is.place) (sym (at_line d s new t unit after holds is)) is.has.value;
    reads = λ reads_it.
        ap read_by same
        ∙ received_word is.demand.pending is.demand.pending.kind unit (is.place + 1) number is.words refl (ap reads (sym is.access_kind) ∙ reads_it)
        ∙ ap (word_in is.words) (sym is.address);
    settled = λ u other at away.
        let was = subst (λ (l : ℕ). IsSettled s.network.ordered other.node l is.place) (sym (at_line d s new t unit after holds is))
        (is.has.settled u other at) in
        subst (λ (k : ℕ). IsSettled s.network.ordered other.node line k) (sym is.time)
        (next_settled d s u line is.place other holds at (λ e. away (only u e)) was);
    late = λ write p settled.
        let getm = asks_write is.demand.kind (sym (write_asks d s new t unit after holds is) ∙ write) in
        let early = is.late getm p (subst (λ (l : ℕ). IsSettled s.network.ordered unit.node l p) (at_line d s new t unit after holds is) settled) in
        omega (arith, early, is.time);
  }
