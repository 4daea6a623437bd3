-- A value goes on over places at which no tile may write its line.
use Rattle.std.proofs.Common.{◌≡◌, ℕ, zero, suc, ◌+◌, ◌-◌, ◌<◌, subst, arith, List, take}
use Rattle.doc_text.specs.Doc.{Doc}
use Rattle.chip_model.specs.declared.owner.Owner.TheVariants.{Memory}
use Rattle.chip_model.specs.ChipState.{ChipState}
use Rattle.chip_model.specs.Ownership.{writer}
use Rattle.chip_model.specs.Values.{HasValue}
use Rattle.chip_model.specs.ChipInvariant.{ProtocolHolds}
use Rattle.value_laws.proofs.Passing.{value_passes}

pub value_over : (d : Doc) (s : ChipState) (line place gap : ℕ) (words : List ℕ) → ProtocolHolds d s
    → ((k : ℕ) → place < k → k < place + gap + 1 → writer line (take k s.network.ordered) ≡ Memory)
    → HasValue d s line place words → HasValue d s line (place + gap) words
value_over d s line place zero words holds none has = let same : place ≡ place + 0 = omega arith in subst (λ (k : ℕ). HasValue d s line k words) same has
value_over d s line place (suc gap) words holds none has =
    let same : place + gap + 1 ≡ place + suc gap = omega arith in
    subst (λ (k : ℕ). HasValue d s line k words) same
    (value_passes d s line (place + gap) words holds (none (place + gap + 1) (omega arith) (omega arith))
    (value_over d s line place gap words holds (λ k above below. none k above (omega (arith, below))) has))

-- from one place to a later one
pub value_until : (d : Doc) (s : ChipState) (line place end : ℕ) (words : List ℕ) → ProtocolHolds d s → place < end
    → ((k : ℕ) → place < k → k < end + 1 → writer line (take k s.network.ordered) ≡ Memory)
    → HasValue d s line place words → HasValue d s line end words
value_until d s line place end words holds less none has =
    let sum : place + (end - place) ≡ end = omega (arith, less) in
    subst (λ (k : ℕ). HasValue d s line k words) sum
    (value_over d s line place (end - place) words holds (λ k above below. none k above (omega (arith, sum, below))) has)
