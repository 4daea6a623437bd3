-- Lines that are written one after another.
use Rattle.std.proofs.Common.{◌≡◌, ℕ, List, [], ◌∷◌, ◌++◌, sym, ap, ◌∙◌}
use Rattle.std.proofs.lemmas.List.{append-nil}
use Rattle.report_text.specs.Lines.{ended, text_of_lines}

-- the text of the lines that are left begins with the first of them
pub text_of_lines-first : (text line : List ℕ) (left rest : List (List ℕ)) → text ≡ line → left ≡ line ∷ rest → text_of_lines left ≡ ended text ++ text_of_lines rest
text_of_lines-first text line left rest e first = ap text_of_lines first ∙ ap (λ (t : List ℕ). ended t ++ text_of_lines rest) (sym e)

-- the text of the last line
pub text_of_lines-last : (text line : List ℕ) → text ≡ line → text_of_lines (line ∷ []) ≡ ended text
text_of_lines-last text line e = append-nil (ended line) ∙ ap ended (sym e)
