-- The lines of a list of texts, as a loop goes over it.
use Rattle.std.proofs.Common.{◌≡◌, ℕ, ◌+◌, ◌<◌, ◌≤◌, List, [], ◌∷◌, ◌++◌, length, get_or, take, drop, Bor, refl, ap, ◌∙◌, add-one, arith}
use Rattle.std.proofs.Math.Seq.{drop-cons}
use Rattle.std.proofs.lemmas.List.{take_more, take_all, drop_all, length-map, length-take}
use Rattle.core_isa.specs.Lines.{Line, source_line}
use Rattle.core_isa.specs.LineSeen.{texts_seen, lines_seen}

-- what a loop reads at a place
abbrev pub raw_at : List (Bor (List ℕ)) → ℕ → Bor (List ℕ)
raw_at raws i = get_or raws i (record { ref_ptr = (0, 0); now = [] })

lines_seen-push : (raws : List (Bor (List ℕ))) (raw : Bor (List ℕ)) → lines_seen (raws ++ raw ∷ []) ≡ lines_seen raws ++ source_line raw.now ∷ []
lines_seen-push [] raw = refl
lines_seen-push (first ∷ raws) raw = ap (λ (lines : List Line). source_line first.now ∷ lines) (lines_seen-push raws raw)

pub lines_seen-take : (raws : List (Bor (List ℕ))) (i : ℕ) → i < length raws → lines_seen (take (i + 1) raws) ≡ lines_seen (take i raws) ++ source_line (raw_at raws i).now ∷ []
lines_seen-take raws i lt = ap lines_seen (take_more raws i (record { ref_ptr = (0, 0); now = [] }) lt) ∙ lines_seen-push (take i raws) (raw_at raws i)

pub lines_seen-drop : (raws : List (Bor (List ℕ))) (i : ℕ) → i < length raws → lines_seen (drop i raws) ≡ source_line (raw_at raws i).now ∷ lines_seen (drop (i + 1) raws)
lines_seen-drop raws i lt = rw add-one (ap lines_seen (drop-cons raws i (record { ref_ptr = (0, 0); now = [] }) lt))

pub length-lines_seen : (raws : List (Bor (List ℕ))) (i : ℕ) → i ≤ length raws → length (lines_seen (take i raws)) ≡ i
length-lines_seen raws i le = length-map (texts_seen (take i raws)) source_line ∙ length-map (take i raws) (λ raw. raw.now) ∙ omega (arith, length-take i raws)

pub lines_seen-all : (raws : List (Bor (List ℕ))) (i : ℕ) → length raws ≤ i → lines_seen (take i raws) ≡ lines_seen raws
lines_seen-all raws i le = ap lines_seen (take_all i raws le)

pub lines_seen-none : (raws : List (Bor (List ℕ))) (i : ℕ) → length raws ≤ i → lines_seen (drop i raws) ≡ []
lines_seen-none raws i le = ap lines_seen (drop_all i raws le)
