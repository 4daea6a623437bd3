use Rattle.std.proofs.Common.{◌≡◌, ℕ, [], ◌∷◌, ◌++◌, ◌∙◌, ap, sym}
use Rattle.doc_text.specs.Canonical.{shown_words}
use Rattle.doc_text.proofs.ShownWords.{shown_words-zero, shown_words-ended}
use Rattle.doc_text.proofs.memory.shown_words.Goals as goal

pub returns-then-last-ne0 : goal.returns-then-last-ne0
returns-then-last-ne0 c =
    let ends : c.loop-last.shown.now ≡ c.in-Some.front.now ++ c.in-Some.field-0-0.now ∷ [] = c.in-Some.ensures.cases.0 in
    ends ∙ sym (shown_words-ended c.in-Some.front.now c.in-Some.field-0-0.now c.if-last-ne0.true) ∙ ap shown_words (sym ends) ∙ sym c.loop-last.invariant

pub loop-last-preserved : goal.loop-last-preserved
loop-last-preserved c =
    let ends : c.loop-last.shown.now ≡ c.in-Some.front.now ++ c.in-Some.field-0-0.now ∷ [] = c.in-Some.ensures.cases.0 in
    c.loop-last.invariant ∙ ap shown_words ends ∙ ap (λ (last : ℕ). shown_words (c.in-Some.front.now ++ last ∷ [])) c.if-last-ne0.false ∙ shown_words-zero c.in-Some.front.now
