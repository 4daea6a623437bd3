-- Which tiles may write a line at the places after one: those that might there, and those that asked since.
use Rattle.std.proofs.Common.{◌≡◌, ℕ, zero, suc, ◌+◌, ◌-◌, ◌<◌, ◌≤◌, Bool, true, false, cond, refl, sym, ◌∙◌, subst, arith, Some, List, take, length}
use Rattle.std.specs.Prelude.{◌==◌, slice_get}
use Rattle.std.proofs.lemmas.Bool.{eqb-true}
use Rattle.mesh_gen.specs.declared.kind.Kind.{Kind}
use Rattle.mesh_gen.specs.declared.kind.Kind.TheVariants.{GetS, GetM, PutM}
use Rattle.mesh_gen.specs.declared.request.Request.{Request}
use Rattle.chip_model.specs.declared.owner.Owner.{Owner}
use Rattle.chip_model.specs.declared.owner.Owner.TheVariants.{Memory, Tile}
use Rattle.chip_model.specs.Ownership.{is_tile, writer, writer_by, writer_after}
use Rattle.chip_laws.proofs.OwnerFolds.{writer_next, writer_of_kind}
use Rattle.value_laws.proofs.OwnersOn.{some_at}

-- a tile that may write is one of these
abbrev pub Only : (ℕ → Type 0) → Owner → Type 0
Only P w = (u : ℕ) → w ≡ Tile u → P u

-- where there are none, no tile may
pub only_none : (w : Owner) → Only (λ u. ⊥) w → w ≡ Memory
only_none Memory none = refl
only_none (Tile u) none = absurd (none u refl)

no_tile : {X : Type 0} (u : ℕ) → Memory ≡ Tile u → X
no_tile u e = cc

-- ---- one request
only_by : (P : ℕ → Type 0) (q : Request) (w : Owner) (kind : Kind) → (kind ≡ GetM → P q.source) → Only P w → Only P (writer_by q.source kind w)
only_by P q w GetS asks only u e = no_tile u e
only_by P q w GetM asks only u e = let same : q.source ≡ u = cc in subst P same (asks refl)
only_by P q w PutM asks only u e = by (is_tile q.source w) e where
  by : (b : Bool) → cond b Memory w ≡ Tile u → P u
  by true x = no_tile u x
  by false x = only u x

only_after : (P : ℕ → Type 0) (line : ℕ) (q : Request) (w : Owner) → (q.line ≡ line → q.kind ≡ GetM → P q.source) → Only P w → Only P (writer_after line w q)
unfolding writer_after
only_after P line q w asks only u e = by (q.line == line) refl e where
  by : (b : Bool) → (q.line == line) ≡ b → cond b (writer_by q.source q.kind w) w ≡ Tile u → P u
  by true same x = only_by P q w q.kind (asks (eqb-true q.line line same)) only u x
  by false other x = only u x

only_next : (P : ℕ → Type 0) (line k : ℕ) (ordered : List Request) (q : Request) → slice_get ordered k ≡ Some q → (q.line ≡ line → q.kind ≡ GetM → P q.source)
    → Only P (writer line (take k ordered)) → Only P (writer line (take (k + 1) ordered))
only_next P line k ordered q at asks only u e = only_after P line q (writer line (take k ordered)) asks only u (sym (writer_next line k ordered q at) ∙ e)

-- ---- after a get: its own tile where it asks to write, and else none
pub only_getm : (line place : ℕ) (ordered : List Request) (q : Request) → slice_get ordered place ≡ Some q → q.kind ≡ GetM → q.line ≡ line
    → Only (λ u. u ≡ q.source) (writer line (take (place + 1) ordered))
only_getm line place ordered q at kind same u e =
    let is : Tile q.source ≡ Tile u = sym (writer_of_kind line place ordered q GetM at kind same) ∙ e in cc

pub only_gets : (line place : ℕ) (ordered : List Request) (q : Request) → slice_get ordered place ≡ Some q → q.kind ≡ GetS → q.line ≡ line
    → Only (λ u. ⊥) (writer line (take (place + 1) ordered))
only_gets line place ordered q at kind same u e = no_tile u (sym (writer_of_kind line place ordered q GetS at kind same) ∙ e)

-- ---- at the places after one, up to another
-- each GetM for the line between them is of one of these tiles
abbrev pub AsksOnly : (ℕ → Type 0) → ℕ → ℕ → ℕ → List Request → Type 0
AsksOnly P line from end ordered = (k : ℕ) (q : Request) → from < k → k < end → slice_get ordered k ≡ Some q → q.line ≡ line → q.kind ≡ GetM → P q.source

only_over : (P : ℕ → Type 0) (line from end gap : ℕ) (ordered : List Request) → end ≤ length ordered → AsksOnly P line from end ordered → from + 1 + gap ≤ end
    → Only P (writer line (take (from + 1) ordered)) → Only P (writer line (take (from + 1 + gap) ordered))
only_over P line from end zero ordered within asks less only =
    let same : from + 1 ≡ from + 1 + 0 = omega arith in subst (λ (k : ℕ). Only P (writer line (take k ordered))) same only
only_over P line from end (suc gap) ordered within asks less only =
    let same : from + 1 + gap + 1 ≡ from + 1 + suc gap = omega arith in
    let (q, at) = some_at ordered (from + 1 + gap) (omega (arith, within, less)) in
    subst (λ (k : ℕ). Only P (writer line (take k ordered))) same
    (only_next P line (from + 1 + gap) ordered q at (asks (from + 1 + gap) q (omega arith) (omega (arith, less)) at)
    (only_over P line from end gap ordered within asks (omega (arith, less)) only))

pub only_until : (P : ℕ → Type 0) (line from end : ℕ) (ordered : List Request) → end ≤ length ordered → AsksOnly P line from end ordered
    → Only P (writer line (take (from + 1) ordered)) → (k : ℕ) → from < k → k < end + 1 → Only P (writer line (take k ordered))
only_until P line from end ordered within asks only k above below =
    let sum : from + 1 + (k - (from + 1)) ≡ k = omega (arith, above) in
    subst (λ (m : ℕ). Only P (writer line (take m ordered))) sum
    (only_over P line from end (k - (from + 1)) ordered within asks (omega (arith, sum, below)) only)
