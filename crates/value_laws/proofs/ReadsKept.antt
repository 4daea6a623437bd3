-- What reads received stays what was written last before them: where a tile performs an access, where it performs none, and
-- where the order grows. An access that is performed and reads received it.
use Rattle.std.proofs.Common.{◌≡◌, ◌≢◌, ℕ, ◌+◌, ◌*◌, ◌<◌, ◌≤◌, Bool, true, false, cond, ◌==◌, ◌&&◌, ◌⊎◌, zero, suc, List, [], ◌∷◌, ◌++◌, Some, length, drop, filter, slice_get, get_or, sym, ap, ◌∙◌, refl, subst, inl, inr, arith}
use Rattle.std.specs.List.{AllByRecursion}
use Rattle.std.proofs.lemmas.Bool.{cases_eq}
use Rattle.std.proofs.lemmas.Bool.Decides.{nat_tests}
use Rattle.std.proofs.lemmas.Option.{same_Some}
use Rattle.std.proofs.lemmas.List.{get_or-take, get_or-drop}
use Rattle.mesh_gen.specs.declared.request.Request.{Request}
use Rattle.report_text.specs.declared.access.Access.{Access}
use Rattle.report_text.specs.Accesses.{reads, writes}
use Rattle.doc_text.specs.Doc.{Doc}
use Rattle.flat_ref.specs.Order.{word_by, last_written}
use Rattle.chip_model.specs.Chip.{line_of, word_of}
use Rattle.chip_model.specs.Node.{words_at}
use Rattle.chip_model.specs.Units.{UnitState}
use Rattle.chip_model.specs.ChipState.{ChipState}
use Rattle.chip_model.specs.Witness.{is_before, inserted, in_sequence, is_write, line_value}
use Rattle.chip_model.specs.Writers.{IsSettled, OthersSettled}
use Rattle.chip_laws.specs.DocFits.{DocFits}
use Rattle.chip_laws.specs.EventSteps.{ChangesUnit}
use Rattle.chip_laws.proofs.Each.{each_at}
use Rattle.chip_laws.proofs.Options.{none_some}
use Rattle.chip_laws.proofs.OrderFrames.{known_of}
use Rattle.chip_laws.proofs.RequestsInside.{tile_of}
use Rattle.chip_laws.proofs.UnitFrames.{each_unit}
use Rattle.value_laws.specs.Sequences.{Follows}
use Rattle.value_laws.specs.Reads.{ReadHolds, ReadsHold}
use Rattle.value_laws.proofs.Sequences.{before_asym, before_itself, each_in_sequence}
use Rattle.value_laws.proofs.Inserted.{sequence_push, passed_over}
use Rattle.value_laws.proofs.LineValues.{Counts, word_of_value}
use Rattle.value_laws.proofs.FinalMemory.{length_words}
use Rattle.value_laws.proofs.SettledSteps.{OrdersNothing, settled_still}
use Rattle.value_laws.proofs.StepValues.{KeepsSettled}
use Rattle.value_laws.proofs.NextValues.{latest_within}
use Rattle.value_laws.proofs.GrownValues.{GrowsAlone, settled_grown}
use Rattle.value_laws.proofs.Acting.{ActsOn}

-- ---- what was written last

-- the writes up to the place are those before the access
abbrev CountBefore : Access → ℕ → Access → Type 0
CountBefore a place = Counts (line_of a.address) place (λ b. is_before b a)

word_before : (d : Doc) (xs : List Access) (a : Access) (place : ℕ) → DocFits d → line_of a.address < d.lines → AllByRecursion (CountBefore a place) xs
    → get_or (line_value d xs (line_of a.address) place) (word_of a.address) 0
    ≡ last_written a.address (get_or d.memory a.address 0) (filter (λ b. is_before b a) (in_sequence xs))
unfolding line_value
word_before d xs a place fits within counts =
    let small : word_of a.address < 4 = omega arith in
    let split : 4 * line_of a.address + word_of a.address ≡ a.address = omega arith in
    let before : List Access = filter (λ b. is_before b a) (in_sequence xs) in
    let four = length_words d (line_of a.address) fits within in
    word_of_value (line_of a.address) place (word_of a.address) (λ b. is_before b a) (in_sequence xs) (words_at d.memory (line_of a.address)) small four
    (each_in_sequence (CountBefore a place) xs counts)
    ∙ ap (λ (word : ℕ). last_written (4 * line_of a.address + word_of a.address) word before)
    (get_or-take 4 (drop (4 * line_of a.address) d.memory) (word_of a.address) 0 small ∙ get_or-drop (4 * line_of a.address) d.memory (word_of a.address) 0)
    ∙ ap (λ (n : ℕ). last_written n (get_or d.memory n 0) before) split

-- an access that writes nothing at an address does not change what was last written there
last_kept : (address word : ℕ) (p : Access → Bool) (a : Access) → ((w : ℕ) → word_by address a w ≡ w) → (xs : List Access)
    → last_written address word (filter p (inserted a xs)) ≡ last_written address word (filter p xs)
last_kept address word p a none [] =
    elim (p a) as (λ t. last_written address word (cond t (a ∷ []) []) ≡ word) [ true ↦ none word | false ↦ refl ]
last_kept address word p a none (b ∷ xs) =
    elim (is_before b a) as (λ t. last_written address word (filter p (cond t (b ∷ inserted a xs) (a ∷ b ∷ xs)))
    ≡ last_written address word (filter p (b ∷ xs))) [
      | true ↦ elim (p b) as (λ t. last_written address word (cond t (b ∷ filter p (inserted a xs)) (filter p (inserted a xs)))
          ≡ last_written address word (cond t (b ∷ filter p xs) (filter p xs))) [
            | true ↦ last_kept address (word_by address b word) p a none xs
            | false ↦ last_kept address word p a none xs
          ]
      | false ↦ elim (p a) as (λ t. last_written address word (cond t (a ∷ filter p (b ∷ xs)) (filter p (b ∷ xs)))
          ≡ last_written address word (filter p (b ∷ xs))) [
            | true ↦ ap (λ (w : ℕ). last_written address w (filter p (b ∷ xs))) (none word)
            | false ↦ refl
          ]
    ]

no_write_there : (address : ℕ) (a : Access) (w : ℕ) → (writes a.kind ≡ true → a.address ≢ address) → word_by address a w ≡ w
no_write_there address a w never = by (writes a.kind) (a.address == address) refl refl where
  by : (b c : Bool) → writes a.kind ≡ b → (a.address == address) ≡ c → cond (b && c) a.value w ≡ w
  by false c is test = refl
  by true false is test = refl
  by true true is test = let same : a.address ≡ address = grind (arith, nat_tests) in absurd (never is same)

-- a write to the address of an access that was performed does not come before it
not_before : (d : Doc) (s : ChipState) (t : ℕ) (unit : UnitState) (a b : Access) (place : ℕ) (words : List ℕ) → ActsOn d s t unit a place words
    → slice_get s.units t ≡ Some unit → Follows b a → OthersSettled s (line_of b.address) b.time b.tile → is_write a ≡ true → a.address ≡ b.address
    → is_before a b ≡ false
not_before d s t unit a b place words acts at follows settled write same =
    elim (cases_eq b.tile a.tile) [
      | inl own ↦ before_asym b a (follows own)
      | inr away ↦ (
          let other : t ≢ b.tile = λ e. away (sym e ∙ sym acts.tile) in
          let late = acts.late write b.time (subst (λ (l : ℕ). IsSettled s.network.ordered unit.node l b.time) (ap line_of (sym same))
          (settled t unit at other)) in
          grind (arith, nat_tests))
    ]

last_seen : (d : Doc) (s : ChipState) (t : ℕ) (unit : UnitState) (a b : Access) (place : ℕ) (words : List ℕ) (write : Bool) → writes a.kind ≡ write
    → ActsOn d s t unit a place words → slice_get s.units t ≡ Some unit → Follows b a → OthersSettled s (line_of b.address) b.time b.tile
    → (word : ℕ) (xs : List Access)
    → last_written b.address word (filter (λ c. is_before c b) (inserted a xs)) ≡ last_written b.address word (filter (λ c. is_before c b) xs)
last_seen d s t unit a b place words false is acts at follows settled word xs =
    last_kept b.address word (λ c. is_before c b) a (λ w. no_write_there b.address a w (λ write. absurd (clash write))) xs
  where
    clash : writes a.kind ≡ true → ⊥
    clash write = let e : false ≡ true = sym is ∙ write in cc
last_seen d s t unit a b place words true is acts at follows settled word xs =
    elim (cases_eq a.address b.address) [
      | inl same ↦ ap (last_written b.address word) (passed_over (λ c. is_before c b) a xs
          (not_before d s t unit a b place words acts at follows settled is same))
      | inr away ↦ last_kept b.address word (λ c. is_before c b) a (λ w. no_write_there b.address a w (λ write. away)) xs
    ]

-- ---- a unit changes

-- one more at the end of a list
place_push : {X : Type 0} (xs : List X) (x y : X) (place : ℕ) → slice_get (xs ++ x ∷ []) place ≡ Some y → (slice_get xs place ≡ Some y) ⊎ (x ≡ y)
place_push [] x y zero at = inr (same_Some x y at)
place_push [] x y (suc place) at = none_some y at
place_push (z ∷ xs) x y zero at = inl at
place_push (z ∷ xs) x y (suc place) at = place_push xs x y place at

module _ (d : Doc) (s new : ChipState) (e : OrdersNothing d s new) (t : ℕ) (unit after : UnitState) (c : ChangesUnit s new t unit after)
    (keeps : KeepsSettled d s new unit after)
    (all : ReadsHold d s) where
  others_on : (u line place : ℕ) → OthersSettled s line place u → OthersSettled new line place u
  others_on u line place is =
      each_unit (λ v x. v ≢ u → IsSettled new.network.ordered x.node line place) s new t unit after c
      (λ apart. keeps.settled line place (is t unit c.at apart))
      (λ v other far at apart. settled_still d s new e other.node line place (is v other at apart))

  -- without an access
  pub reads_stay : new.accesses ≡ s.accesses → ReadsHold d new
  reads_stay accesses i a at reads_it =
      let old = all i a (ap (λ (xs : List Access). slice_get xs i) (sym accesses) ∙ at) reads_it in
      record {
        value = old.value
            ∙ ap (λ (xs : List Access). last_written a.address (get_or d.memory a.address 0) (filter (λ b. is_before b a) (in_sequence xs))) (sym accesses);
        settled = others_on a.tile (line_of a.address) a.time old.settled;
      }

  -- with one
  module _ (a : Access) (place : ℕ) (words : List ℕ) (acts : ActsOn d s t unit a place words)
      (last : AllByRecursion (λ b. Follows b a) s.accesses) (accesses : new.accesses ≡ s.accesses ++ a ∷ []) where
    one_stays : (b : Access) → Follows b a → ReadHolds d s b → ReadHolds d new b
    one_stays b before holds = record {
      value = holds.value ∙ sym (
          ap (λ (xs : List Access). last_written b.address (get_or d.memory b.address 0) (filter (λ x. is_before x b) (in_sequence xs))) accesses
          ∙ ap (λ (xs : List Access). last_written b.address (get_or d.memory b.address 0) (filter (λ x. is_before x b) xs))
          (sequence_push s.accesses a acts.follows)
          ∙ last_seen d s t unit a b place words (writes a.kind) refl acts c.at before holds.settled (get_or d.memory b.address 0) (in_sequence s.accesses));
      settled = others_on b.tile (line_of b.address) b.time holds.settled;
    }

    itself_received : DocFits d → line_of a.address < d.lines → reads a.kind ≡ true → ReadHolds d new a
    itself_received fits within reads_it = record {
      value =
          let same = ap (filter (λ b. is_before b a)) (sequence_push s.accesses a acts.follows)
          ∙ passed_over (λ b. is_before b a) a (in_sequence s.accesses) (before_itself a) in
          acts.reads reads_it
          ∙ ap (λ (held : List ℕ). get_or held (word_of a.address) 0) acts.value
          ∙ word_before d s.accesses a place fits within acts.counts
          ∙ sym (ap (λ (xs : List Access). last_written a.address (get_or d.memory a.address 0) (filter (λ b. is_before b a) (in_sequence xs))) accesses
          ∙ ap (last_written a.address (get_or d.memory a.address 0)) same);
      settled = others_on a.tile (line_of a.address) a.time (subst (OthersSettled s (line_of a.address) a.time) (sym acts.tile) acts.settled);
    }

    pub reads_performed : DocFits d → line_of a.address < d.lines → ReadsHold d new
    reads_performed fits within i b at reads_it = elim (place_push s.accesses a b i (ap (λ (xs : List Access). slice_get xs i) (sym accesses) ∙ at)) [
      | inl old ↦ one_stays b (each_at (λ x. Follows x a) s.accesses i b last old) (all i b old reads_it)
      | inr same ↦ subst (ReadHolds d new) same (itself_received fits within (ap (λ (x : Access). reads x.kind) same ∙ reads_it))
    ]

-- ---- the order grows

pub reads_grown : (d : Doc) (s new : ChipState) (more : List Request) → GrowsAlone d s new more → ReadsHold d s → ReadsHold d new
reads_grown d s new more g all i a at reads_it =
    let before : slice_get s.accesses i ≡ Some a = ap (λ (xs : List Access). slice_get xs i) (sym g.accesses) ∙ at in
    let old = all i a before reads_it in
    let own = tile_of d s a.tile g.before (g.before.performers i a before) in
    let known = known_of d s g.before a.tile own.unit own.unit_at in
    let early = g.before.timely.times a.tile i own.unit a own.unit_at before refl in
    let latest = latest_within own.unit.node (λ demand place stands is. (known.demand demand place stands is).before) in
    let within : a.time ≤ length s.network.ordered = omega (arith, early, latest, known.within) in
    record {
      value = old.value
          ∙ ap (λ (xs : List Access). last_written a.address (get_or d.memory a.address 0) (filter (λ b. is_before b a) (in_sequence xs))) (sym g.accesses);
      settled = λ u other is away.
          subst (λ (rs : List Request). IsSettled rs other.node (line_of a.address) a.time) (sym g.orders.grows.order)
          (settled_grown s.network.ordered more other.node (line_of a.address) a.time within
          (old.settled u other (ap (λ (us : List UnitState). slice_get us u) (sym g.units) ∙ is) away));
    }
